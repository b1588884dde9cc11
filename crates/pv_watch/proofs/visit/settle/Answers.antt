use Rattle.std.proofs.Common.{◌∙◌, sym, ap}
use Rattle.pv_cnf.specs.Literal.{is_outside}
use Rattle.pv_log.specs.Propagation.{is_false}
use Rattle.pv_log.proofs.ForCallers.{complement-inside}
use Rattle.pv_watch.proofs.Looking.{below-bound, already-true, made-true}
use Rattle.pv_watch.proofs.visit.settle.Goals as goal

pub is_true-requires : goal.is_true-requires
is_true-requires c = below-bound c.args.trail.now.variables c.args.lit c.requires.inside

pub is_false-requires : goal.is_false-requires
is_false-requires c = below-bound c.args.trail.now.variables c.args.lit c.requires.inside

pub returns-then-is_true-clause-made : goal.returns-then-is_true-clause-made
returns-then-is_true-clause-made c = λ _ clause l.
    already-true c.args.trail.now c.args.id clause c.args.lit (sym c.is_true.ensures ∙ c.if-is_true.true)

pub imply-requires-clause-inside : goal.imply-requires-clause-inside
imply-requires-clause-inside c =
    ap (is_outside c.args.trail.now.variables) c.flip.ensures.complement ∙ complement-inside c.args.trail.now.variables c.args.lit c.requires.inside

pub imply-requires-clause-not_false : goal.imply-requires-clause-not_false
imply-requires-clause-not_false c =
    ap (is_false c.args.trail.now.falses) c.flip.ensures.complement ∙ sym c.is_true.ensures ∙ c.if-is_true.false

pub imply-requires-clause-not_true : goal.imply-requires-clause-not_true
imply-requires-clause-not_true c =
    ap (is_false c.args.trail.now.falses) c.flip.ensures.back ∙ sym c.is_false.ensures ∙ c.if-is_false.false

pub returns-clause-made : goal.returns-clause-made
returns-clause-made c = λ _ clause l.
    made-true c.args.trail.now c.imply.new.self c.args.id clause c.args.lit c.flip.result c.flip.ensures.complement l
    (sym c.is_true.ensures ∙ c.if-is_true.false) (sym c.is_false.ensures ∙ c.if-is_false.false) c.imply.ensures.variables
    c.imply.ensures.falses c.imply.ensures.reasons c.imply.ensures.starts c.imply.ensures.room c.imply.ensures.rise
