use Rattle.std.proofs.Common.{sym, ap, ◌∙◌, map}
use Rattle.pv_tree.specs.Sorts as sorts
use Rattle.pv_names.specs.Sorts.{sort_tree}
use Rattle.pv_names.proofs.Functions.{choice_some}
use Rattle.pv_names.proofs.function.choice_result.Goals as goal

pub returns-then-is_bool : goal.returns-then-is_bool
returns-then-is_bool c =
    choice_some (sort_tree c.in-Some.first.now) (map sort_tree c.in-Some.more.now) (map sort_tree c.args.parts.now) c.in-Some-own_type.ty
    c.common_type.result
    (ap (map sort_tree) c.in-Some.ensures.cases.0)
    (c.in-Some-own_type.ensures ∙ ap sorts.own_type c.taken.ensures)
    (sym c.is_bool.ensures ∙ c.if-is_bool.true)
    (c.common_type.ensures ∙ ap (λ w. sorts.common_type (map (sorts.taken w) (map sort_tree c.in-Some.more.now))) c.wanted_beside.ensures)
