use Rattle.std.proofs.Common.{ap, ◌∙◌, map, refl}
use Rattle.std.specs.Prelude.{option_and_then}
use Rattle.pv_tree.specs.Tree.{for_}
use Rattle.pv_tree.specs.View.{expr_tree}
use Rattle.pv_names.specs.InScope.{scope_of}
use Rattle.pv_names.specs.Sorts.{want_tree}
use Rattle.pv_tree.specs.Parts.{want_of_counter}
use Rattle.pv_rules_expr.specs.Near.{near_at}
use Rattle.pv_rules_expr.specs.Nearest.{nearer_of}
use Rattle.pv_rules_code.specs.AtLoops.{by_at}
use Rattle.pv_rules_code.specs.Nears.{near_stride, near_ask, near_aim, near_pick}
use Rattle.pv_rules_code.specs.Sites.{site_place}
use Rattle.pv_rules_code.specs.Spots.{loop_tree, spot}
use Rattle.pv_rules_code.proofs.Nears.{all_sites, both_bounds, both_misfits, not_left, kept}
use Rattle.pv_rules_code.proofs.counter.add_head.Goals as goal

pub returns : goal.returns
returns c =
    let scope = scope_of c.args.scope.now in
    let head = c.args.head.now in
    let near = c.args.near.now in
    let wanted = want_of_counter scope head.var head.var_place in
    λ body place. all_sites (λ what. site_place what scope (spot (map loop_tree c.args.loops.now)
    (for_ head.var head.var_place (expr_tree head.first) (expr_tree head.last) head.by body place))) near _
    (λ what. both_bounds what scope (want_tree c.want_of_counter-want.result) wanted (expr_tree head.first) (expr_tree head.last)
    (near_at what near.parts) (near_at what c.add_bound.new.near) (near_at what c.add_bound-2.new.near) c.want_of_counter-want.ensures
    (c.in_ok-add_bound.ensures.parts what) (c.in_ok-add_bound-2.ensures.parts what))
    (λ what. kept (near_aim what near.aims)) (kept near.counted) (λ what. kept (near_ask what near.asks))
    c.add_counter.ensures
    (λ what. c.add_step.ensures what ∙ ap (λ w. nearer_of (near_stride what near.strides) (option_and_then (by_at what w) head.by)) c.want_of_counter-want.ensures)
    (λ what. kept (near_pick what near.picks))
    (both_misfits scope (want_tree c.want_of_counter-want.result) wanted (expr_tree head.first) (expr_tree head.last)
    near.misfit c.add_bound.new.misfit c.add_bound-2.new.misfit c.want_of_counter-want.ensures c.in_ok-add_bound.ensures.misfit
    c.in_ok-add_bound-2.ensures.misfit)
    (kept near.selector) (kept near.condition) (not_left near.leave (map loop_tree c.args.loops.now)
    (for_ head.var head.var_place (expr_tree head.first) (expr_tree head.last) head.by body place) refl)
