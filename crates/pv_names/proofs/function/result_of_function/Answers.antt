use Rattle.std.proofs.Common.{sym, ap, ◌∙◌, map}
use Rattle.pv_tree.specs.LiteralTypes.{nothing}
use Rattle.pv_tree.specs.Sorts as sorts
use Rattle.pv_names.specs.Sorts.{sort_tree}
use Rattle.pv_names.proofs.Functions.{same_of_all}
use Rattle.pv_names.proofs.function.result_of_function.Goals as goal

pub returns-in-Abs : goal.returns-in-Abs
returns-in-Abs c =
    c.whole_type.ensures
    ∙ same_of_all nothing (map sort_tree c.args.parts.now) c.common_type.result c.common_type.ensures
    ∙ ap (λ f. sorts.result_of_function f (sorts.arguments_of f (map sort_tree c.args.parts.now))) (sym c.in-Abs.is)
