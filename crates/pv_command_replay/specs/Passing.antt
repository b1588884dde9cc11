-- The trace's ranges by the types of its cells, and stops that are passed on. Private clauses cite this.
use Rattle.std.specs.Prelude.{ℕ, List, Option}
use Rattle.pv_place.specs.Ranges.{range_of}
use Rattle.pv_mean.specs.declared.cell.Cell.{Cell}
use Rattle.pv_claims.specs.declared.fault.CertFault.{CertFault}
use Rattle.pv_claims.specs.declared.fault.CertFault.TheVariants as cert_fault
use Rattle.pv_trace.specs.TraceText.{Bounds}
use Rattle.pv_command_load.specs.declared.reading.ReadStop.{ReadStop}
use Rattle.pv_command_load.specs.declared.reading.ReadStop.TheVariants as read_stop
use Rattle.pv_command_load.specs.Stopped.{stopped_status, stopped_unread}
use Rattle.pv_command_replay.specs.declared.trace.TraceStop.{TraceStop}
use Rattle.pv_command_replay.specs.declared.trace.TraceStop.TheVariants as trace_stop
use Rattle.pv_command_replay.specs.Traces.{bounds_of, trace_stopped}

abbrev pub type_bounds : Cell → Bounds
type_bounds c = bounds_of (range_of c.ty)

abbrev pub unread_trace : ReadStop → TraceStop
unread_trace (read_stop.Unread file) = trace_stop.Unread file
unread_trace read_stop.NoMemory = trace_stop.NoMemory

abbrev pub faulty_trace : CertFault → TraceStop
faulty_trace (cert_fault.NotACertificate line) = trace_stop.NotATrace line
faulty_trace cert_fault.NoMemory = trace_stop.NoMemory

abbrev pub trace_status : TraceStop → ℕ
trace_status stop = stopped_status (λ line. 8) (trace_stopped stop)

abbrev pub trace_unread : TraceStop → Option (List ℕ)
trace_unread stop = stopped_unread (trace_stopped stop)
