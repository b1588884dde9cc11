-- The beginning and the steps of a FOR, apart from its body.
use Rattle.std.specs.Prelude.{ℤ, ◌+ℤ◌, Result, Ok, Err}
use Rattle.pv_place.specs.declared.place.Place.{Place}
use Rattle.pv_types.specs.declared.name.Name.{Name}
use Rattle.pv_tree.specs.Tree.{ExprTree}
use Rattle.pv_mean.specs.Sources.{Source}
use Rattle.pv_mean.specs.Frames.{Frame}
use Rattle.pv_mean.specs.Endings.{Tried, got, and_then, Ended, ended}
use Rattle.pv_mean.specs.Spots.{Spot, read_spot, write_spot}
use Rattle.pv_mean.specs.Activations.{Activation}
use Rattle.pv_mean.specs.Values.{value, locate}
use Rattle.pv_mean.specs.Statements.{counter}
use Rattle.pv_eval.specs.Operands.{spot_of}
use Rattle.pv_run.specs.declared.counting.Begun.{Begun}
use Rattle.pv_run.specs.declared.stop.Stop.{Stop}
use Rattle.pv_run.specs.Ends.{stop_end}

-- the first count and the end, the variable, and the frame in which it has the first count
pub record Beginning : Type 0 where
  pub spot : Spot
  pub count : ℤ
  pub last : ℤ
  pub frame : Frame

abbrev pub for_begin : Source → Activation → Frame → Name → Place → ExprTree → ExprTree
    → Tried Beginning
for_begin source act frame name place first last =
    and_then (value source act frame first) (λ v. and_then (value source act frame last)
    (λ w. and_then (locate source act frame (counter name place)) (λ spot. got (record {
      spot = spot;
      count = v;
      last = w;
      frame = write_spot source frame spot v;
    }))))

abbrev pub begun_end : Result Begun Stop → Frame → Ended Beginning
begun_end (Ok b) frame =
    ended (record { spot = spot_of b.spot; count = b.count; last = b.last; frame = frame })
begun_end (Err s) frame = stop_end s

-- the next count, and the frame in which the variable has it
pub record Stepped : Type 0 where
  pub count : ℤ
  pub frame : Frame

abbrev pub for_step : Source → Place → ℤ → Spot → Frame → Tried Stepped
for_step source place by spot frame = and_then (read_spot frame place spot) (λ v. got (record {
  count = v +ℤ by;
  frame = write_spot source frame spot (v +ℤ by);
}))

abbrev pub stepped_end : Result ℤ Stop → Frame → Ended Stepped
stepped_end (Ok n) frame = ended (record { count = n; frame = frame })
stepped_end (Err s) frame = stop_end s
