-- The call that an instruction makes, and the bit that a spot takes.
use Rattle.std.specs.Prelude.{ℕ, Bool as Truth, Option, Some, None}
use Rattle.pv_mean.specs.Sources.{Source}
use Rattle.pv_mean.specs.Frames.{Frame}
use Rattle.pv_mean.specs.Spots.{Spot, write_spot}
use Rattle.pv_mean.specs.Values.{number_of}
use Rattle.pv_stl_run.specs.declared.instr.Action.{Action}
use Rattle.pv_stl_run.specs.declared.instr.Action.TheVariants.{Call}

abbrev pub call_of : Action → Option ℕ
call_of (Call n) = Some n
call_of other = None

-- the frame, where a spot takes a bit, if there is one
abbrev pub frame_taking : Source → Frame → Spot → Option Truth → Frame
frame_taking source frame spot None = frame
frame_taking source frame spot (Some b) = write_spot source frame spot (number_of b)
