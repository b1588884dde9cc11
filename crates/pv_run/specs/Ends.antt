-- How the code ends, as the definitions have it.
use Rattle.std.specs.Prelude.{ℤ, Bool as Truth, true, false, Option, Some, None, Result, Ok, Err}
use Rattle.pv_mean.specs.Frames.{Frame}
use Rattle.pv_mean.specs.Endings.{Ended, ended, trapped, over, Ending, normal, at_exit, at_continue, at_return, by_trap, by_over}
use Rattle.pv_mean.specs.Spots as m
use Rattle.pv_eval.specs.declared.node.Spot.{Spot}
use Rattle.pv_eval.specs.Operands.{spot_of}
use Rattle.pv_stl_run.specs.declared.stop.Stop as stl
use Rattle.pv_stl_run.specs.declared.stop.Stop.TheVariants as stl_stop
use Rattle.pv_run.specs.declared.stop.Stop.{Stop}
use Rattle.pv_run.specs.declared.stop.Stop.TheVariants as stop
use Rattle.pv_run.specs.declared.stop.Flow.{Flow}
use Rattle.pv_run.specs.declared.stop.Flow.TheVariants as flow

abbrev pub stop_ending : Stop → Ending
stop_ending (stop.Trap t) = by_trap t.kind t.place
stop_ending (stop.Over place) = by_over place

abbrev pub stop_end : {A : Type 0} → Stop → Ended A
stop_end (stop.Trap t) = trapped t.kind t.place
stop_end (stop.Over place) = over place

-- statements that end in a frame
abbrev pub flow_ending : Flow → Frame → Ending
flow_ending flow.Normal frame = normal frame
flow_ending flow.Exit frame = at_exit frame
flow_ending flow.Continue frame = at_continue frame
flow_ending flow.Return frame = at_return frame

abbrev pub ending_of : Result Flow Stop → Frame → Ending
ending_of (Ok f) frame = flow_ending f frame
ending_of (Err s) frame = stop_ending s

-- what gives a value or stops
abbrev pub value_of : Result ℤ Stop → Ended ℤ
value_of (Ok v) = ended v
value_of (Err s) = stop_end s

-- what ends in something that is read off the frame
abbrev pub end_in : {A B : Type 0} → (A → B) → Result A Stop → Ended B
end_in make (Ok a) = ended (make a)
end_in make (Err s) = stop_end s

-- it goes on behind the statement
abbrev pub is_normal : Flow → Truth
is_normal flow.Normal = true
is_normal flow.Exit = false
is_normal flow.Continue = false
is_normal flow.Return = false

-- how a loop ends by a turn that ended so, or it goes on
abbrev pub behind_turn : Flow → Option Flow
behind_turn flow.Normal = None
behind_turn flow.Exit = Some flow.Normal
behind_turn flow.Continue = None
behind_turn flow.Return = Some flow.Return

-- a spot that is located
abbrev pub spot_end : Result Spot Stop → Ended m.Spot
spot_end (Ok spot) = ended (spot_of spot)
spot_end (Err s) = stop_end s

-- why instructions stop
abbrev pub stop_from : stl.Stop → Stop
stop_from (stl_stop.Trap t) = stop.Trap t
stop_from (stl_stop.Over place) = stop.Over place
