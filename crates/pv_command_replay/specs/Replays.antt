-- What the command `replay CASE TRACE` says.
use Rattle.std.specs.Prelude.{◌≡◌, ◌⊎◌, ◌↔◌, ℕ, List, map, Option, Some, None, Result, Ok, Err, string_bytes}
use Rattle.pv_edge.specs.Files.{FileMap}
use Rattle.pv_mean.specs.Runs.{run}
use Rattle.pv_claims.specs.declared.trace.Trace.{Trace}
use Rattle.pv_command_load.specs.Refusals.{Refusal, refusal_status, refusal_line}
use Rattle.pv_command_load.specs.Subjects.{texts_of, SubjectData, source_in}
use Rattle.pv_command_load.specs.Reads.{Reads, Refuses, AsksSubject}
use Rattle.pv_command_load.specs.Stopped.{stopped_status, stopped_unread, stopped_text}
use Rattle.pv_command_load.specs.Stops.{text_tree, StopsSubject, subject_status, subject_unread, subject_text}
use Rattle.pv_command_load.specs.Made.{IsSubject}
use Rattle.pv_command_replay.specs.declared.end.End.{End}
use Rattle.pv_command_replay.specs.declared.replay.Ran.{Ran}
use Rattle.pv_command_replay.specs.declared.replay.Replayed.{Replayed}
use Rattle.pv_command_replay.specs.declared.replay.ReplayStop.{ReplayStop}
use Rattle.pv_command_replay.specs.declared.replay.ReplayStop.TheVariants as replay_stop
use Rattle.pv_command_replay.specs.Ends.{IsEnd}
use Rattle.pv_command_replay.specs.Located.{EndLies}
use Rattle.pv_command_replay.specs.Reports.{end_status, report_text}
use Rattle.pv_command_replay.specs.Traces.{HoldsTrace, HoldsNoTrace, trace_line, trace_stopped, StopsTrace}

-- ---- what it does

-- the files hold what the command works on and a trace of it, and the run over the trace's scans ends so, at a place, where the end has
-- one, that lies in one of the sources
pub record IsReplayed (told : Option FileMap) (case_file trace_file : List ℕ) (s : SubjectData) (end : End) : Type 0 where
  pub reads : Reads told case_file s
  pub trace : Trace
  pub trace_held : HoldsTrace told trace_file (source_in s) trace
  pub ends : IsEnd (source_in s) s.pattern (run (source_in s) trace.params trace.inputs) end
  pub lies : EndLies (texts_of s.given) end

-- they hold what the command works on and no trace of it: this line is the first with which none begins so
pub record IsNoTrace (told : Option FileMap) (case_file trace_file : List ℕ) (s : SubjectData) (line : ℕ) : Type 0 where
  pub reads : Reads told case_file s
  pub no_trace : HoldsNoTrace told trace_file (source_in s) line

-- what the code ran is this
pub record IsRan (told : Option FileMap) (case_file trace_file : List ℕ) (s : SubjectData) (r : Ran) : Type 0 where
  pub subject : IsSubject r.subject s
  pub replayed : IsReplayed told case_file trace_file s r.end
  pub trace : replayed.trace ≡ r.trace

-- what a replay reports of it; that hangs on the trace by the end alone
abbrev pub report_of : SubjectData → Trace → End → List ℕ
report_of s trace end = report_text s.given.case.name s.given.case.kind (texts_of s.given) end

-- ---- what it comes to

-- a report is one of this case and these sources
pub record IsReportOf (s : SubjectData) (r : Replayed) : Type 0 where
  pub name : string_bytes r.case ≡ s.given.case.name
  pub kind : r.kind ≡ s.given.case.kind
  pub texts : map text_tree r.sources.items ≡ texts_of s.given

-- a replay asks for this file: one that any command asks for, or behind these its trace's
abbrev pub AsksReplay : Option FileMap → List ℕ → List ℕ → List ℕ → Type 0
AsksReplay told case_file trace_file file =
    AsksSubject told case_file file
    ⊎ (((s : SubjectData) × Reads told case_file s) × (file ≡ trace_file))

-- what it stops at is at fault, and all before is as it should be
abbrev pub StopsReplay : Option FileMap → List ℕ → List ℕ → ReplayStop → Type 0
StopsReplay told case_file trace_file (replay_stop.Subject stop) = StopsSubject told case_file stop
StopsReplay told case_file trace_file (replay_stop.Trace stop) =
    (s : SubjectData) × Reads told case_file s × StopsTrace told trace_file (source_in s) stop
StopsReplay told case_file trace_file replay_stop.NoMemory = Unit {0}

abbrev pub stop_status : ReplayStop → ℕ
stop_status (replay_stop.Subject stop) = subject_status stop
stop_status (replay_stop.Trace stop) = stopped_status (λ line. 8) (trace_stopped stop)
stop_status replay_stop.NoMemory = 9

-- the file that is told as one that can't be read
abbrev pub stop_unread : ReplayStop → Option (List ℕ)
stop_unread (replay_stop.Subject stop) = subject_unread stop
stop_unread (replay_stop.Trace stop) = stopped_unread (trace_stopped stop)
stop_unread replay_stop.NoMemory = None

-- what is printed where it stops, none where memory ends
abbrev pub stop_text : ReplayStop → Option (List ℕ)
stop_text (replay_stop.Subject stop) = subject_text stop
stop_text (replay_stop.Trace stop) = stopped_text trace_line (trace_stopped stop)
stop_text replay_stop.NoMemory = None

-- what a replay came to is so
abbrev pub SaysReplay : Option FileMap → List ℕ → List ℕ → Result Replayed ReplayStop → Type 0
SaysReplay told case_file trace_file (Ok r) =
    (s : SubjectData) × IsReplayed told case_file trace_file s r.end × IsReportOf s r
SaysReplay told case_file trace_file (Err stop) = StopsReplay told case_file trace_file stop

abbrev pub replay_status : Result Replayed ReplayStop → ℕ
replay_status (Ok r) = end_status r.end
replay_status (Err stop) = stop_status stop

abbrev pub replay_unread : Result Replayed ReplayStop → Option (List ℕ)
replay_unread (Ok r) = None
replay_unread (Err stop) = stop_unread stop

abbrev pub replay_text : Result Replayed ReplayStop → Option (List ℕ)
replay_text (Ok r) =
    Some (report_text (string_bytes r.case) r.kind (map text_tree r.sources.items) r.end)
replay_text (Err stop) = stop_text stop

-- ---- what the files decide

-- the replay ends with this status
pub record EndsWith (files : FileMap) (case_file trace_file : List ℕ) (status : ℕ) : Type 0 where
  pub subject : SubjectData
  pub end : End
  pub replayed : IsReplayed (Some files) case_file trace_file subject end
  pub of_status : end_status end ≡ status

-- what is read before the trace is refused with this status
pub record IsRefusedWith (files : FileMap) (case_file : List ℕ) (status : ℕ) : Type 0 where
  pub refusal : Refusal
  pub refuses : Refuses (Some files) case_file refusal
  pub of_status : refusal_status refusal ≡ status

-- what the files hold decides the status of a command that replays, and the text that is taken; this it prints of a replay
pub record ReplaysExactly (print : SubjectData → Trace → End → List ℕ) (files : FileMap) (case_file trace_file : List ℕ) (status : ℕ)
    (IsTaken : List ℕ → Type 0) : Type 0 where
  -- kept, or reached
  pub holds : (status ≡ 0) ↔ EndsWith files case_file trace_file 0
  -- broken, or not reached
  pub fails : (status ≡ 1) ↔ EndsWith files case_file trace_file 1
  pub over : (status ≡ 2) ↔ EndsWith files case_file trace_file 2
  -- a source is refused, or there are too many cells
  pub source : (status ≡ 3) ↔ IsRefusedWith files case_file 3
  pub case : (status ≡ 4) ↔ IsRefusedWith files case_file 4
  pub trace : (status ≡ 8) ↔ ((s : SubjectData) × (line : ℕ) × IsNoTrace (Some files) case_file trace_file s line)
  pub report : (s : SubjectData) (end : End) (replayed : IsReplayed (Some files) case_file trace_file s end)
      → IsTaken (print s replayed.trace end)
  pub refusal_told : (refusal : Refusal) → Refuses (Some files) case_file refusal → IsTaken (refusal_line refusal)
  pub trace_told : (s : SubjectData) (line : ℕ) → IsNoTrace (Some files) case_file trace_file s line → IsTaken (trace_line line)
