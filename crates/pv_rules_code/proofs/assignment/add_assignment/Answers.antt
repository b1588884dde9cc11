use Rattle.std.proofs.Common.{ap, ◌∙◌, map, refl}
use Rattle.pv_tree.specs.Tree.{assign}
use Rattle.pv_tree.specs.Parts.{parts_of_operand, want_of_sort, want_of_target}
use Rattle.pv_tree.specs.View.{expr_tree, operand_tree}
use Rattle.pv_names.specs.InScope.{scope_of}
use Rattle.pv_names.specs.Sorts.{want_tree}
use Rattle.pv_rules_expr.specs.Near.{near_at}
use Rattle.pv_rules_expr.specs.Nearest.{nearer_of}
use Rattle.pv_rules_expr.specs.Places.{place_where}
use Rattle.pv_rules_code.specs.Nears.{near_ask, near_count, near_stride, near_pick}
use Rattle.pv_rules_code.specs.Sites.{site_place}
use Rattle.pv_rules_code.specs.Spots.{loop_tree, spot}
use Rattle.pv_rules_code.proofs.Nears.{all_sites, at_target, then_value, not_left, kept}
use Rattle.pv_rules_code.proofs.assignment.add_assignment.Goals as goal

pub returns : goal.returns
returns c =
    let scope = scope_of c.args.scope.now in
    let target = operand_tree c.args.target.now in
    let value = expr_tree c.args.value.now in
    let near = c.args.near.now in
    all_sites (λ what. site_place what scope (spot (map loop_tree c.args.loops.now) (assign target c.args.place value))) near _
    (λ what. then_value what scope (parts_of_operand scope target) (want_tree c.want_of_sort.result) (want_of_target scope target) value
    (near_at what near.parts) (near_at what c.look_in_operand_for_all.new.near) (near_at what c.look_for_all.new.near)
    (c.want_of_sort.ensures ∙ ap want_of_sort c.in_ok-takes.ensures.sort) (c.in_ok-takes.ensures.near what) (c.in_ok-sort.ensures.near what))
    (at_target scope target near.aims c.add_aims.new.aims c.in_ok-add_aims.ensures)
    (c.nearer_of-near.ensures ∙ ap (nearer_of near.counted) c.counted_place.ensures)
    (λ what. kept (near_ask what near.asks)) (λ what. kept (near_count what near.counts)) (λ what. kept (near_stride what near.strides))
    (λ what. kept (near_pick what near.picks))
    (c.nearer_of-near-2.ensures ∙ ap (nearer_of near.misfit) (c.where_is.ensures ∙ ap (λ b. place_where b c.args.place) c.assigned_misfits-misfits.ensures))
    (kept near.selector) (kept near.condition) (not_left near.leave (map loop_tree c.args.loops.now) (assign target c.args.place value) refl)
