use Rattle.std.proofs.Common.{◌≡◌, sym, subst, arith, rules}
use Rattle.std.proofs.lemmas.Grind.{common_steps}
use Rattle.pv_tree.specs.Projects.{project_tree}
use Rattle.pv_tree.specs.Rules.{Breaks}
use Rattle.pv_rules_decl.specs.Least.{AreNear, HasRule}
use Rattle.pv_rules.specs.Found.{AreAll}
use Rattle.pv_rules.proofs.AllRules.{all_found, are_near, has_rule}
use Rattle.pv_rules.proofs.Making.{moved}
use Rattle.pv_rules.proofs.checked.check.Goals as goal

pub answered-requires-clause-near : goal.answered-requires-clause-near
answered-requires-clause-near c =
    let project = project_tree c.args.blocks.list.items c.args.symbols.items in
    let n = c.in_ok-near.near in
    let list : c.as_slice-3.result.now ≡ all_found n = first_of (search rules, grind (arith, common_steps)) in
    subst (AreNear (λ rule at. Breaks rule project at)) (sym list)
    (are_near project n (moved (λ p. AreAll p n) c.as_slice.result.now c.args.blocks.list.items c.as_slice-2.result.now c.args.symbols.items
    c.as_slice.ensures.value c.as_slice-2.ensures.value c.in_ok-near.ensures))

pub answered-requires-clause-each : goal.answered-requires-clause-each
answered-requires-clause-each c =
    let project = project_tree c.args.blocks.list.items c.args.symbols.items in
    let n = c.in_ok-near.near in
    let list : c.as_slice-3.result.now ≡ all_found n = first_of (search rules, grind (arith, common_steps)) in
    λ rule at b. subst (HasRule rule) (sym list) (has_rule project n rule at b)
