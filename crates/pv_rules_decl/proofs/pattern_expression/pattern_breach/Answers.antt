use Rattle.std.proofs.Common.{◌≡◌, ap, ◌∙◌, map, arith, rules}
use Rattle.std.proofs.lemmas.Grind.{common_steps}
use Rattle.pv_tree.specs.LiteralTypes.{nothing}
use Rattle.pv_tree.specs.Parts.{parts_of}
use Rattle.pv_tree.specs.Sorts.{is_whole}
use Rattle.pv_tree.specs.View.{expr_tree}
use Rattle.pv_names.specs.InScope.{scope_of}
use Rattle.pv_rules_expr.specs.Looks.{near_parts}
use Rattle.pv_rules_expr.specs.Nearest.{nearer_of}
use Rattle.pv_rules_expr.specs.Places.{place_where}
use Rattle.pv_rules_decl.specs.Least.{least, breach_found}
use Rattle.pv_rules_decl.proofs.PatternBreaches.{pattern_rules, pattern_near}
use Rattle.pv_rules_decl.proofs.pattern_expression.pattern_breach.Goals as goal

pub returns : goal.returns
returns c =
    let scope = scope_of c.args.scope.now in
    let e = expr_tree c.args.e.now in
    let n = c.look_for_all.new.near in
    let list : c.as_slice.result.now
    ≡ pattern_rules n.missing c.nearer_of-misfit.result n.outside n.beyond n.void n.address c.nearer_of-pattern.result =
    first_of (search rules, grind (arith, common_steps)) in
    pattern_near scope e n c.where_is-whole.result c.nearer_of-misfit.result c.nearer_of-pattern.result c.least_of.result
    (λ what. c.in_ok-sort.ensures.near what ∙ ap (near_parts what scope (parts_of scope nothing e)) (c.nothing_near-near.ensures what))
    (c.where_is-whole.ensures ∙ ap (λ b. place_where b c.first_place.result) c.is_whole.ensures
    ∙ ap (λ s. place_where (is_whole s) c.first_place.result) c.in_ok-sort.ensures.sort
    ∙ ap (place_where _) c.first_place.ensures)
    (c.nearer_of-misfit.ensures ∙ ap (λ o. nearer_of o c.where_is-whole.result) c.nearer_of-misused.ensures)
    c.nearer_of-pattern.ensures
    (c.least_of.ensures ∙ ap (λ l. least (map breach_found l)) list)
