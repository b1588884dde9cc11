use Rattle.std.proofs.Common.{rules, refl, to_z, of_z, ◌≡◌, ◌∙◌}
use Rattle.std.specs.Int.{w128}
use Rattle.pv_names.specs.Sorts.{number_value}
use Rattle.pv_lower.proofs.Reaching.{of_element}
use Rattle.pv_lower.proofs.lowering.Lowering.known_element.Goals as goal

pub returns-in_ok-begin-in-Some : goal.returns-in_ok-begin-in-Some
returns-in_ok-begin-in-Some c = λ source nodes a is at.
    let same : to_z w128 (of_z w128 c.in-Some.index) ≡ c.in-Some.index = search rules in
    of_element source.project a c.args.access.now _ nodes _ (number_value c.args.literal.number) at
    (c.in_ok-begin-in-Some.ensures.value source is.context) (same ∙ c.in-Some.ensures) refl
