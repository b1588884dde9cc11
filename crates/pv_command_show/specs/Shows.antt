-- What the command `show CASE TRACE` says.
use Rattle.std.specs.Prelude.{◌≡◌, ℕ, List, map, Option, Some, None, Result, Ok, Err, string_bytes}
use Rattle.pv_edge.specs.Files.{FileMap}
use Rattle.pv_claims.specs.declared.trace.Trace.{Trace}
use Rattle.pv_command_replay.specs.Handed.{texts_of, SubjectData, source_in, text_tree}
use Rattle.pv_command_replay.specs.declared.end.End.{End}
use Rattle.pv_command_replay.specs.declared.replay.ReplayStop.{ReplayStop}
use Rattle.pv_command_replay.specs.Reports.{end_status}
use Rattle.pv_command_replay.specs.Replays.{IsReplayed, IsReportOf, StopsReplay, stop_status, stop_unread, stop_text}
use Rattle.pv_command_show.specs.declared.show.Shown.{Shown}
use Rattle.pv_command_show.specs.Texts.{shown_scans, show_text}

-- what is printed of a replay
abbrev pub show_of : SubjectData → Trace → End → List ℕ
show_of s trace end =
    show_text s.given.case.name (shown_scans (source_in s) s.pattern trace end) (texts_of s.given) end

-- the files hold what the command works on and a trace of it, the run over the trace's scans ends so, and does this
pub record IsShown (told : Option FileMap) (case_file trace_file : List ℕ) (s : SubjectData) (r : Shown) : Type 0 where
  pub replayed : IsReplayed told case_file trace_file s r.replayed.end
  pub reported : IsReportOf s r.replayed
  pub scans : r.scans.items ≡ shown_scans (source_in s) s.pattern replayed.trace r.replayed.end

-- what a show came to is so; it stops where a replay does
abbrev pub SaysShow : Option FileMap → List ℕ → List ℕ → Result Shown ReplayStop → Type 0
SaysShow told case_file trace_file (Ok r) = (s : SubjectData) × IsShown told case_file trace_file s r
SaysShow told case_file trace_file (Err stop) = StopsReplay told case_file trace_file stop

abbrev pub show_status : Result Shown ReplayStop → ℕ
show_status (Ok r) = end_status r.replayed.end
show_status (Err stop) = stop_status stop

-- the file that is told as one that can't be read
abbrev pub show_unread : Result Shown ReplayStop → Option (List ℕ)
show_unread (Ok r) = None
show_unread (Err stop) = stop_unread stop

-- what is printed, none where memory ends
abbrev pub shown_text : Result Shown ReplayStop → Option (List ℕ)
shown_text (Ok r) =
    Some (show_text (string_bytes r.replayed.case) r.scans.items (map text_tree r.replayed.sources.items) r.replayed.end)
shown_text (Err stop) = stop_text stop
