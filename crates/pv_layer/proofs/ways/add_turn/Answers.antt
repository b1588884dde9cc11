use Rattle.std.proofs.Common.{map, rules, ap}
use Rattle.pv_flow.specs.View.{loop_of}
use Rattle.pv_layout.specs.Layout.{with_turns}
use Rattle.pv_layer.proofs.Turned.{turn_is_none, turn_is_out, turn_pushed}
use Rattle.pv_layer.proofs.ways.add_turn.Goals as goal

pub returns-in-None : goal.returns-in-None
returns-in-None c = turn_is_none c.args.turn c.args.edge (map loop_of c.args.loops.now.items) c.in-None.is

pub returns-in_ok-push-in-Some : goal.returns-in_ok-push-in-Some
returns-in_ok-push-in-Some c = turn_pushed c.args.turn c.in-Some.i c.args.edge c.args.loops.now.items c.index_mut.result.now _ c.in-Some.is
    (search rules) c.index_mut.ensures.value (ap (with_turns (loop_of c.index_mut.result.now)) c.in_ok-push-in-Some.ensures.items)

pub returns-else-i-len : goal.returns-else-i-len
returns-else-i-len c = turn_is_out c.args.turn c.in-Some.i c.args.edge c.args.loops.now.items c.in-Some.is (search rules)
