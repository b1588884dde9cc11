use Rattle.std.proofs.Common.{ap, ◌∙◌, map}
use Rattle.pv_tree.specs.Parts.{site}
use Rattle.pv_tree.specs.View.{arg_tree, call_tree}
use Rattle.pv_names.specs.InScope.{scope_of}
use Rattle.pv_names.specs.Callees.{how_tree, callee_tree}
use Rattle.pv_rules_expr.specs.Near.{near_at}
use Rattle.pv_rules_expr.specs.Nearest.{nearer_of}
use Rattle.pv_rules_code.specs.Spots.{loop_tree}
use Rattle.pv_rules_code.proofs.Meeting.{on_ok}
use Rattle.pv_rules_code.proofs.Nears.{call_parts, call_asks}
use Rattle.pv_rules_code.proofs.called.add_call.Goals as goal

pub returns-clause-parts : goal.returns-clause-parts
returns-clause-parts c =
    on_ok c.add_args.result (λ has what.
    call_parts what (scope_of c.args.scope.now) (site (how_tree c.args.how) (call_tree c.args.call.now)) (callee_tree c.callee_of-callee.result)
    (map arg_tree c.as_slice-args.result.now) (near_at what c.args.near.now) (near_at what c.add_args.new.near) c.callee_of-callee.ensures
    (ap (map arg_tree) c.as_slice-args.ensures.value) (has what)) c.add_args.ensures.parts

pub returns-clause-asks : goal.returns-clause-asks
returns-clause-asks c =
    let asks = c.args.asks.now in
    on_ok c.add_args.result (λ has.
    call_asks (scope_of c.args.scope.now) (map loop_tree c.args.loops.now) (site (how_tree c.args.how) (call_tree c.args.call.now))
    (callee_tree c.callee_of-callee.result) (map arg_tree c.as_slice-args.result.now) asks _ c.callee_of-callee.ensures
    (ap (map arg_tree) c.as_slice-args.ensures.value)
    (c.nearer_of-asks.ensures ∙ ap (nearer_of asks.missing) c.not_declared_place.ensures)
    (c.nearer_of-asks-2.ensures ∙ ap (nearer_of asks.date) c.date_place.ensures)
    (c.nearer_of-asks-3.ensures ∙ ap (nearer_of asks.later) c.in_ok-later.ensures)
    (c.nearer_of-asks-4.ensures ∙ ap (nearer_of asks.lacking) c.in_ok-lacking.ensures) has) c.add_args.ensures.passes
