-- What a show came to, by what its stages say.
use Rattle.std.proofs.Common.{◌≡◌, ℕ, Option, List, Result, Ok, Err, sym, ap, subst, ◌∙◌}
use Rattle.std.specs.Prelude.{IfOk}
use Rattle.std.specs.Result.{IsErrAnd}
use Rattle.pv_edge.specs.Files.{FileMap}
use Rattle.pv_mean.specs.Runs.{run}
use Rattle.pv_command_replay.specs.Handed.{Counts, IsUnread, texts_of, SubjectData, source_in}
use Rattle.pv_command_replay.specs.declared.replay.Ran.{Ran}
use Rattle.pv_command_replay.specs.declared.replay.ReplayStop.{ReplayStop}
use Rattle.pv_command_replay.specs.Ends.{IsEnd}
use Rattle.pv_command_replay.specs.Located.{EndLies}
use Rattle.pv_command_replay.specs.Traces.{HoldsTrace}
use Rattle.pv_command_replay.specs.Judged.{HasValuesOf}
use Rattle.pv_command_replay.specs.Replays.{IsRan, StopsReplay, stop_status, stop_unread}
use Rattle.pv_command_replay.proofs.ForCallers.{has_values, reported_as}
use Rattle.pv_command_show.specs.declared.show.Shown.{Shown}
use Rattle.pv_command_show.specs.Texts.{shown_scans}
use Rattle.pv_command_show.specs.Shows.{SaysShow, show_status, show_unread}

-- the trace that is run has its values
pub ran_values : (told : Option FileMap) (case_file trace_file : List ℕ) (s : SubjectData) (ran : Ran) → IsRan told case_file trace_file s ran
    → HasValuesOf (source_in s) ran.trace
ran_values told case_file trace_file s ran is =
    has_values told trace_file (source_in s) ran.trace (subst (HoldsTrace told trace_file (source_in s)) is.trace is.replayed.trace_held)

-- it is shown
pub says_shown : (told : Option FileMap) (case_file trace_file : List ℕ) (s : SubjectData) (ran : Ran) (r : Shown)
    → IsRan told case_file trace_file s ran → r.replayed.case ≡ ran.subject.case.name → r.replayed.kind ≡ ran.subject.case.pattern.kind
    → r.replayed.sources ≡ ran.subject.sources → r.replayed.end ≡ ran.end
    → r.scans.items ≡ shown_scans (source_in s) s.pattern ran.trace ran.end → SaysShow told case_file trace_file (Ok r)
says_shown told case_file trace_file s ran r is name kind texts end scans = (
  s,
  record {
    replayed = record {
      reads = is.replayed.reads;
      trace = is.replayed.trace;
      trace_held = is.replayed.trace_held;
      ends = subst (IsEnd (source_in s) s.pattern (run (source_in s) is.replayed.trace.params is.replayed.trace.inputs)) (sym end)
          is.replayed.ends;
      lies = subst (EndLies (texts_of s.given)) (sym end) is.replayed.lies;
    };
    reported = reported_as s ran.subject r.replayed is.subject name kind texts;
    scans = scans ∙ ap (λ t. shown_scans (source_in s) s.pattern t ran.end) (sym is.trace)
        ∙ ap (λ e. shown_scans (source_in s) s.pattern is.replayed.trace e) (sym end);
  },
)

-- ---- stops that are passed on

pub err_said : (told : Option FileMap) (case_file trace_file : List ℕ) (r : Result Shown ReplayStop) (stop : ReplayStop)
    → IsErrAnd r (λ e. e ≡ stop) → StopsReplay told case_file trace_file stop → SaysShow told case_file trace_file r
err_said told case_file trace_file (Ok x) stop is h = absurd is
err_said told case_file trace_file (Err e) stop is h = subst (StopsReplay told case_file trace_file) (sym is) h

pub err_kept : (r : Result Shown ReplayStop) (stop : ReplayStop) (before after : ℕ) → IsErrAnd r (λ e. e ≡ stop)
    → Counts (stop_status stop) before after → Counts (show_status r) before after
err_kept (Ok x) stop before after is counts = absurd is
err_kept (Err e) stop before after is counts = subst (λ x. Counts (stop_status x) before after) (sym is) counts

pub err_told : (r : Result Shown ReplayStop) (stop : ReplayStop) (last : Option (List ℕ)) → IsErrAnd r (λ e. e ≡ stop)
    → IsUnread (stop_unread stop) last → IsUnread (show_unread r) last
err_told (Ok x) stop last is named = absurd is
err_told (Err e) stop last is named = subst (λ x. IsUnread (stop_unread x) last) (sym is) named

-- what is said of an answer
pub ok_map : {A E : Type 0} (P Q : A → Type 0) (r : Result A E) → ((x : A) → P x → Q x) → IfOk r P → IfOk r Q
ok_map P Q (Ok x) f h = f x h
ok_map P Q (Err e) f h = tt
