use Rattle.std.proofs.Common.{ap, refl, rules, sym}
use Rattle.std.specs.Int.{w128}
use Rattle.std.specs.Prelude.{FitsSigned}
use Rattle.std.proofs.lemmas.Bool.{false≢true}
use Rattle.std.proofs.lemmas.Int.{to_z-of_z}
use Rattle.pv_types.specs.View.{type_tree}
use Rattle.pv_names.specs.Views.{held_tree}
use Rattle.pv_variables.proofs.Roomy.{stride_near, elements_lie, lies_as}
use Rattle.pv_variables.proofs.begun.elements_in.Goals as goal

pub returns-in_err-stride-in-Array-clause-room : goal.returns-in_err-stride-in-Array-clause-room
returns-in_err-stride-in-Array-clause-room c = λ source more is h.
    let a = c.in-Array in
    absurd (false≢true (c.in_err-stride-in-Array.ensures.room source is
    (stride_near source.project more c.args.part c.args.laid a.low a.high (type_tree a.of.now) a.place (ap held_tree a.is) h)))

pub returns-in_ok-stride-in-Array-clause-room : goal.returns-in_ok-stride-in-Array-clause-room
returns-in_ok-stride-in-Array-clause-room c = λ source more is h.
    let a = c.in-Array in
    let low : FitsSigned w128 c.in-Array.low = search rules in
    let high : FitsSigned w128 c.in-Array.high = search rules in
    lies_as source.project more _ _ _ (sym (to_z-of_z w128 c.in-Array.low low)) (sym (to_z-of_z w128 c.in-Array.high high))
    (elements_lie source.project more c.args.part c.args.laid (record { ty = c.level_of-ty.result; first = c.args.laid.first }) a.low a.high
    (type_tree a.of.now) a.place c.in_ok-stride-in-Array.stride (ap held_tree a.is) c.level_of-ty.ensures refl
    (c.in_ok-stride-in-Array.ensures.value source is) h)
