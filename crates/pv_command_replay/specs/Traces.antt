-- The trace of a replay: one of the source that is run, with a value for each parameter that isn't bound and, for each scan, one for each
-- input cell, each in its type's range.
use Rattle.std.specs.Prelude.{◌≡◌, ℕ, List, ◌++◌, map, codes, decimal, Option, string_bytes}
use Rattle.pv_place.specs.Ranges.{Range}
use Rattle.pv_edge.specs.Files.{FileMap}
use Rattle.pv_mean.specs.Sources.{Source}
use Rattle.pv_mean.specs.Frames.{param_ranges, input_ranges}
use Rattle.pv_claims.specs.declared.trace.Trace.{Trace}
use Rattle.pv_trace.specs.TraceText.{Bounds, IsTextOf, FailsAt}
use Rattle.pv_command_load.specs.Held.{HoldsBytes}
use Rattle.pv_command_load.specs.Stopped.{Stopped, unread, refused, no_memory, StopsAt}
use Rattle.pv_command_replay.specs.declared.trace.TraceStop.{TraceStop}
use Rattle.pv_command_replay.specs.declared.trace.TraceStop.TheVariants as trace_stop

-- ---- what the file holds

abbrev pub bounds_of : Range → Bounds
bounds_of range = (range.least, range.greatest)

abbrev pub param_bounds : Source → List Bounds
param_bounds source = map bounds_of (param_ranges source.cells)

abbrev pub input_bounds : Source → List Bounds
input_bounds source = map bounds_of (input_ranges source.cells)

-- it holds the text of this trace of the source
abbrev pub HoldsTrace : Option FileMap → List ℕ → Source → Trace → Type 0
HoldsTrace told file source trace =
    HoldsBytes told file (λ bytes. IsTextOf (param_bounds source) (input_bounds source) bytes trace)

-- it holds the text of none, and this line, from 1, is the first with which none begins so
abbrev pub HoldsNoTrace : Option FileMap → List ℕ → Source → ℕ → Type 0
HoldsNoTrace told file source line =
    HoldsBytes told file (λ bytes. FailsAt (param_bounds source) (input_bounds source) bytes line)

abbrev pub trace_line : ℕ → List ℕ
trace_line line = codes "plcv: trace: line " ++ (decimal line ++ codes "\n")

-- ---- why a replay stops at it

abbrev pub trace_stopped : TraceStop → Stopped ℕ
trace_stopped (trace_stop.Unread file) = unread (string_bytes file)
trace_stopped (trace_stop.NotATrace line) = refused line
trace_stopped trace_stop.NoMemory = no_memory

abbrev pub StopsTrace : Option FileMap → List ℕ → Source → TraceStop → Type 0
StopsTrace told file source stop =
    StopsAt (λ name. name ≡ file) (HoldsNoTrace told file source) (trace_stopped stop)
