use Rattle.std.proofs.Common.{◌≡◌, ◌∷◌, [], sym, ap, ◌∙◌, take, arith}
use Rattle.std.specs.Option.{option_to_list}
use Rattle.std.proofs.lemmas.List.{take_all}
use Rattle.pv_cnf.specs.Literal.{complement}
use Rattle.pv_log.specs.Propagation.{left_of}
use Rattle.pv_log.proofs.ForCallers.{inside-bounds, complement-inside}
use Rattle.pv_watch.proofs.ForCallers.{second-quiet, first-of}
use Rattle.pv_learn.proofs.look.look_at.Goals as goal

pub returns-in-Some : goal.returns-in-Some
returns-in-Some c =
    second-quiet (take c.args.upto c.args.trail.now.falses) c.args.clause.now c.loop-lit.lit-index c.in-Some.field-0 c.loop-lit-test.true
    (sym c.is_false_at.ensures ∙ c.if-is_false_at.false) (sym c.loop-lit.invariant ∙ ap option_to_list c.in-Some.is)

pub is_false_at-requires-in-Some-left-clause-inside : goal.is_false_at-requires-in-Some-left-clause-inside
is_false_at-requires-in-Some-left-clause-inside c =
    let f = take c.args.upto c.args.trail.now.falses in
    let left : left_of (take c.args.upto c.args.trail.now.falses) c.args.clause.now ≡ c.in-Some-left.lit ∷ [] =
    ap (left_of (take c.args.upto c.args.trail.now.falses)) (sym (take_all c.loop-lit.lit-index c.args.clause.now c.loop-lit-test.false))
    ∙ sym c.loop-lit.invariant ∙ ap option_to_list c.in-Some-left.is in
    let first = first-of c.args.trail.now.variables f c.args.clause.now c.in-Some-left.lit [] left in
    let b = inside-bounds c.args.trail.now.variables (complement c.in-Some-left.lit) (complement-inside c.args.trail.now.variables
    c.in-Some-left.lit (first.inside c.requires.inside)) in
    omega (arith, c.flip.ensures.complement)
