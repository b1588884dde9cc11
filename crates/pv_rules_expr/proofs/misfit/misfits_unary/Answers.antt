use Rattle.std.proofs.Common.{◌≡◌, ap, ◌∙◌, [], ◌∷◌, map, rules, arith}
use Rattle.std.proofs.lemmas.Grind.{common_steps}
use Rattle.pv_tree.specs.Sorts as sorts
use Rattle.pv_names.specs.Sorts.{sort_tree}
use Rattle.pv_names.proofs.ForCallers.{misfits_alone}
use Rattle.pv_rules_expr.proofs.misfit.misfits_unary.Goals as goal

pub returns : goal.returns
returns c =
    let one : map sort_tree c.as_slice.result.now ≡ sort_tree c.args.arg ∷ [] = first_of (search rules, grind (arith, common_steps)) in
    c.misfits.ensures
    ∙ ap (sorts.misfits c.value_of_unary.result) one
    ∙ ap (λ o. sorts.misfits o (sort_tree c.args.arg ∷ [])) c.value_of_unary.ensures
    ∙ misfits_alone _ (sort_tree c.args.arg)
