use Rattle.std.proofs.Common.{ap, ◌∙◌}
use Rattle.pv_flow.specs.AutomatonView.{code_of}
use Rattle.pv_unroll.proofs.Answering.{unrolled_copies, unrolled_tables, unrolled_fits, unrolled_large, made_same}
use Rattle.pv_unroll.proofs.unrolling.unroll.Goals as goal

pub returns-clause-copies : goal.returns-clause-copies
returns-clause-copies c = unrolled_copies c.args.from c.into_parts.result c.bound-bound.result c.unrolled.result
    (c.into_parts.ensures ∙ ap code_of c.into_automaton.ensures) c.bound-bound.ensures c.unrolled.ensures.copies

pub returns-clause-fits : goal.returns-clause-fits
returns-clause-fits c = unrolled_fits c.args.from c.into_parts.result c.bound-bound.result c.unrolled.result
    (c.into_parts.ensures ∙ ap code_of c.into_automaton.ensures) c.bound-bound.ensures c.unrolled.ensures.fits

pub returns-clause-large : goal.returns-clause-large
returns-clause-large c = unrolled_large c.args.from c.into_parts.result c.bound-bound.result c.unrolled.result
    (c.into_parts.ensures ∙ ap code_of c.into_automaton.ensures) c.bound-bound.ensures c.unrolled.ensures.large

pub returns-clause-same : goal.returns-clause-same
returns-clause-same c = made_same c.args.from c.unrolled.result (unrolled_copies c.args.from c.into_parts.result c.bound-bound.result c.unrolled.result
    (c.into_parts.ensures ∙ ap code_of c.into_automaton.ensures) c.bound-bound.ensures c.unrolled.ensures.copies) c.unrolled.ensures.bare

pub returns-clause-tables : goal.returns-clause-tables
returns-clause-tables c = unrolled_tables c.args.from c.into_parts.result c.unrolled.result
    (c.into_parts.ensures ∙ ap code_of c.into_automaton.ensures) c.unrolled.ensures.tables
