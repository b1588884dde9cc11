use Rattle.std.proofs.Common.{subst}
use Rattle.pv_unroll.specs.Laying.{Laid}
use Rattle.pv_unroll.specs.Tables.{IsReplaced}
use Rattle.pv_unroll.specs.Seen.{laid_seen}
use Rattle.pv_unroll.proofs.Conditions.{copies_of, forward_of, tables_of}
use Rattle.pv_unroll.proofs.unrolling.with_text.Goals as goal

pub returns-clause-copies : goal.returns-clause-copies
returns-clause-copies c = copies_of c.args.parts c.args.bound c.replaced.result c.in_bits.ensures.locations c.in_bits.ensures.bound c.requires.few
    (subst (λ (laid : Laid). IsReplaced c.args.parts laid c.replaced.result) c.requires.laid c.replaced.ensures)

pub returns-clause-forward : goal.returns-clause-forward
returns-clause-forward c = forward_of c.args.parts c.args.bound c.replaced.result c.in_bits.ensures.locations c.in_bits.ensures.bound c.requires.few
    (subst (λ (laid : Laid). IsReplaced c.args.parts laid c.replaced.result) c.requires.laid c.replaced.ensures)

pub returns-clause-tables : goal.returns-clause-tables
returns-clause-tables c = tables_of c.args.parts (laid_seen c.args.laid) c.replaced.result c.replaced.ensures
