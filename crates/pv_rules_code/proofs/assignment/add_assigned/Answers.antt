use Rattle.std.proofs.Common.{ap, ◌∙◌, map, refl}
use Rattle.pv_tree.specs.Tree.{assign_call}
use Rattle.pv_tree.specs.Callees.{as_value}
use Rattle.pv_tree.specs.Parts.{parts_of_operand, parts_of_call, site}
use Rattle.pv_tree.specs.View.{call_tree, operand_tree}
use Rattle.pv_names.specs.InScope.{scope_of}
use Rattle.pv_rules_expr.specs.Near.{near_at}
use Rattle.pv_rules_expr.specs.Nearest.{nearer_of}
use Rattle.pv_rules_expr.specs.Places.{place_where}
use Rattle.pv_rules_code.specs.Nears.{near_count, near_stride, near_pick}
use Rattle.pv_rules_code.specs.Sites.{site_place}
use Rattle.pv_rules_code.specs.Spots.{loop_tree, spot}
use Rattle.pv_rules_code.proofs.Nears.{both_ok}
use Rattle.pv_rules_code.proofs.Nears.{all_sites, at_target, two_lists, not_left, kept}
use Rattle.pv_rules_code.proofs.assignment.add_assigned.Goals as goal

pub returns : goal.returns
returns c =
    let scope = scope_of c.args.scope.now in
    let target = operand_tree c.args.target.now in
    let call = call_tree c.args.call.now in
    let near = c.args.near.now in
    both_ok c.add_call.result (λ parts asks.
    all_sites (λ what. site_place what scope (spot (map loop_tree c.args.loops.now) (assign_call target c.args.place call))) near _
    (λ what. two_lists what scope (parts_of_operand scope target) (parts_of_call scope (site as_value call))
    (near_at what near.parts) (near_at what c.look_in_operand_for_all.new.near) (near_at what c.add_call.new.near)
    (c.in_ok-takes.ensures.near what) (parts what))
    (at_target scope target near.aims c.add_aims.new.aims c.in_ok-add_aims.ensures)
    (c.nearer_of-near.ensures ∙ ap (nearer_of near.counted) c.counted_place.ensures)
    asks (λ what. kept (near_count what near.counts)) (λ what. kept (near_stride what near.strides))
    (λ what. kept (near_pick what near.picks))
    (c.nearer_of-near-2.ensures ∙ ap (nearer_of near.misfit) (c.where_is.ensures ∙ ap (λ b. place_where b c.args.place) c.called_misfits-misfits.ensures))
    (kept near.selector) (kept near.condition) (not_left near.leave (map loop_tree c.args.loops.now) (assign_call target c.args.place call) refl)) c.add_call.ensures.parts c.add_call.ensures.asks
