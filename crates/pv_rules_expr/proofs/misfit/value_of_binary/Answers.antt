use Rattle.std.proofs.Common.{ap, ◌∙◌, map}
use Rattle.std.specs.Prelude.{option_and_then}
use Rattle.pv_tree.specs.Sorts as sorts
use Rattle.pv_names.specs.Sorts.{sort_tree}
use Rattle.pv_rules_expr.proofs.misfit.value_of_binary.Goals as goal

pub returns-in-Some : goal.returns-in-Some
returns-in-Some c =
    c.result_of_binary.ensures
    ∙ ap (option_and_then (sorts.result_of_binary c.args.op))
    (c.in-Some.ensures ∙ ap (λ w. sorts.common_type (map (sorts.taken w) (map sort_tree c.args.parts.now))) c.wanted_beside.ensures)
