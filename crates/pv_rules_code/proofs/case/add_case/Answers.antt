use Rattle.std.proofs.Common.{ap, ◌∙◌, map, refl, rules}
use Rattle.pv_tree.specs.Tree.{case_}
use Rattle.pv_tree.specs.LiteralTypes.{nothing}
use Rattle.pv_tree.specs.Sorts.{own_type, taken}
use Rattle.pv_tree.specs.Parts.{parts_of}
use Rattle.pv_tree.specs.Rules.MissingNames.{values_of_branches}
use Rattle.pv_tree.specs.Rules.OutOfRange.{want_of_selector, want_of_type_where}
use Rattle.pv_tree.specs.View.{expr_tree, stmt_tree, stmts_of, branches_of}
use Rattle.pv_names.specs.InScope.{scope_of}
use Rattle.pv_names.specs.Sorts.{want_tree}
use Rattle.pv_rules_expr.specs.Near.{near_at}
use Rattle.pv_rules_code.specs.Nears.{near_ask, near_aim, near_count, near_stride, near_pick}
use Rattle.pv_rules_code.specs.Sites.{site_place}
use Rattle.pv_rules_code.specs.Spots.{spot}
use Rattle.pv_rules_code.proofs.Nears.{all_sites, one_list, picked, not_left, kept}
use Rattle.pv_rules_code.proofs.case.add_case.Goals as goal

pub returns : goal.returns
returns c =
    let scope = scope_of c.args.scope.now in
    let e = expr_tree c.args.selector.now in
    let branches = branches_of (map (λ b. (b.0.items, stmts_of (map stmt_tree b.1.items))) c.args.branches.now.items) in
    let near = c.args.near.now in
    λ loops other place. all_sites (λ what. site_place what scope (spot loops (case_ e branches other place))) near _
    (λ what. one_list what scope (parts_of scope nothing e) (near_at what near.parts) (near_at what c.look_for_all.new.near) (c.in_ok-sort.ensures.near what))
    (λ what. kept (near_aim what near.aims)) (kept near.counted) (λ what. kept (near_ask what near.asks)) (λ what. kept (near_count what near.counts))
    (λ what. kept (near_stride what near.strides))
    (λ what. picked what scope (want_tree c.want_of_selector.result) (want_of_selector scope e) (values_of_branches branches)
    (near_pick what near.picks) (near_pick what c.add_branches.new.picks)
    (c.want_of_selector.ensures ∙ ap (λ s. want_of_type_where (own_type (taken nothing s))) c.in_ok-sort.ensures.sort) (c.add_branches.ensures what))
    (kept near.misfit) (search rules) (kept near.condition) (not_left near.leave loops (case_ e branches other place) refl)
