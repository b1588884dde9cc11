use Rattle.std.proofs.Common.{◌∙◌, ap, ◌+◌, ◌*◌, rules, arith}
use Rattle.std.specs.Int.{w128}
use Rattle.std.specs.Prelude.{FitsSigned}
use Rattle.std.proofs.lemmas.Bool.{false≢true}
use Rattle.std.proofs.lemmas.Int.{to_z-of_z}
use Rattle.pv_variables.proofs.Roomy.{few_steps, near_element, element_lies, far_is}
use Rattle.pv_variables.proofs.begun.element_in.Goals as goal

pub returns-in_err-first-in-In-clause-room : goal.returns-in_err-first-in-In-clause-room
returns-in_err-first-in-In-clause-room c = λ project more h inside.
    let e = c.args.elements.now in
    let index : FitsSigned w128 c.args.index.now = search rules in
    let low : FitsSigned w128 c.args.elements.now.low = search rules in
    let far = far_is c.abs_diff.result c.args.index.now c.args.elements.now.low _ _ c.abs_diff.ensures (to_z-of_z w128 c.args.index.now index)
    (to_z-of_z w128 c.args.elements.now.low low) in
    let few = few_steps project more e c.args.index.now inside h in
    let near = near_element project more e c.in-In.part c.in-In.laid c.args.index.now c.in-In.is inside h in
    let scaled = ap (λ n. n * e.stride) far in
    absurd (false≢true (c.in_err-first-in-In.ensures.room (omega (arith, few, far)) (omega (arith, near, scaled))))

pub returns-in_ok-first-in-In-clause-room : goal.returns-in_ok-first-in-In-clause-room
returns-in_ok-first-in-In-clause-room c = λ project more h inside.
    let e = c.args.elements.now in
    let index : FitsSigned w128 c.args.index.now = search rules in
    let low : FitsSigned w128 c.args.elements.now.low = search rules in
    let far = far_is c.abs_diff.result c.args.index.now c.args.elements.now.low _ _ c.abs_diff.ensures (to_z-of_z w128 c.args.index.now index)
    (to_z-of_z w128 c.args.elements.now.low low) in
    element_lies project more e c.in-In.part c.in-In.laid c.args.index.now c.in_ok-first-in-In.first c.in-In.is inside
    (c.in_ok-first-in-In.ensures.value ∙ ap (λ n. c.in-In.laid.first + n * e.stride) far) h
