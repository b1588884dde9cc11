-- What a run and a replay came to, by what their stages say.
use Rattle.std.proofs.Common.{◌≡◌, ℕ, List, map, Option, Result, Ok, Err, refl, sym, ap, subst, ◌∙◌, arith, string_bytes}
use Rattle.std.specs.Prelude.{MatchResult}
use Rattle.std.specs.Result.{IsErrAnd}
use Rattle.pv_edge.specs.Files.{FileMap}
use Rattle.pv_mean.specs.Runs.{run}
use Rattle.pv_claims.specs.declared.trace.Trace.{Trace}
use Rattle.pv_command_load.specs.declared.subject.Subject.{Subject}
use Rattle.pv_command_load.specs.Subjects.{texts_of, SubjectData, source_in}
use Rattle.pv_command_load.specs.Reads.{Reads}
use Rattle.pv_command_load.specs.Held.{Counts, IsUnread}
use Rattle.pv_command_load.specs.Stops.{text_tree}
use Rattle.pv_command_load.specs.Made.{IsSubject}
use Rattle.pv_command_replay.specs.declared.end.End.{End}
use Rattle.pv_command_replay.specs.declared.replay.Ran.{Ran}
use Rattle.pv_command_replay.specs.declared.replay.Replayed.{Replayed}
use Rattle.pv_command_replay.specs.declared.trace.TraceStop.{TraceStop}
use Rattle.pv_command_replay.specs.declared.replay.ReplayStop.{ReplayStop}
use Rattle.pv_command_replay.specs.declared.replay.ReplayStop.TheVariants as replay_stop
use Rattle.pv_command_replay.specs.Ends.{IsEnd}
use Rattle.pv_command_replay.specs.Located.{EndLies}
use Rattle.pv_command_replay.specs.Traces.{HoldsTrace, StopsTrace}
use Rattle.pv_command_replay.specs.Judged.{HasValuesOf}
use Rattle.pv_command_replay.specs.Replays.{IsReplayed, IsRan, IsReportOf, StopsReplay, stop_status, stop_unread, SaysReplay, replay_status, replay_unread}
use Rattle.pv_command_replay.proofs.TraceLaws.{has_values}

module _ (told again : Option FileMap) (case_file trace_file : List ℕ) (subject : Subject) (s : SubjectData) where
  -- it is run
  pub says_ran : (trace : Trace) (end : End) → Reads told case_file s → IsSubject subject s → again ≡ told
      → HoldsTrace again trace_file (source_in s) trace
      → (HasValuesOf (source_in s) trace → IsEnd (source_in s) s.pattern (run (source_in s) trace.params trace.inputs) end)
      → (IsEnd (source_in s) s.pattern (run (source_in s) trace.params trace.inputs) end → EndLies (texts_of s.given) end)
      → IsRan told case_file trace_file s (record { subject = subject; trace = trace; end = end })
  says_ran trace end reads is same held ends lies =
      let ends_so = ends (has_values again trace_file (source_in s) trace held) in
      record {
        subject = is;
        replayed = record {
          reads = reads;
          trace = trace;
          trace_held = subst (λ t. HoldsTrace t trace_file (source_in s) trace) same held;
          ends = ends_so;
          lies = lies ends_so;
        };
        trace = refl;
      }

  -- it stops at its trace
  pub says_stopped : (stop : TraceStop) → Reads told case_file s → again ≡ told → StopsTrace again trace_file (source_in s) stop
      → StopsReplay told case_file trace_file (replay_stop.Trace stop)
  says_stopped stop reads same stops = (s, reads, subst (λ t. StopsTrace t trace_file (source_in s) stop) same stops)

-- the place of its end lies in one of the sources that it has
pub ran_lies : (told : Option FileMap) (case_file trace_file : List ℕ) (s : SubjectData) (ran : Ran) → IsRan told case_file trace_file s ran
    → EndLies (map text_tree ran.subject.sources.items) ran.end
ran_lies told case_file trace_file s ran is = subst (λ texts. EndLies texts ran.end) (sym is.subject.texts) is.replayed.lies

-- a run is reported so
pub reported_as : (s : SubjectData) (subject : Subject) (r : Replayed) → IsSubject subject s → r.case ≡ subject.case.name
    → r.kind ≡ subject.case.pattern.kind → r.sources ≡ subject.sources → IsReportOf s r
reported_as s subject r is name kind texts = record {
  name = ap (λ n. string_bytes n) name ∙ is.case.name;
  kind = kind ∙ is.case.kind;
  texts = ap (λ v. map text_tree v.items) texts ∙ is.texts;
}

pub says_replayed : (told : Option FileMap) (case_file trace_file : List ℕ) (s : SubjectData) (ran : Ran) (r : Replayed)
    → IsRan told case_file trace_file s ran → r.case ≡ ran.subject.case.name → r.kind ≡ ran.subject.case.pattern.kind
    → r.sources ≡ ran.subject.sources → r.end ≡ ran.end → SaysReplay told case_file trace_file (Ok r)
says_replayed told case_file trace_file s ran r is name kind texts end = (
  s,
  subst (IsReplayed told case_file trace_file s) (sym end) is.replayed,
  reported_as s ran.subject r is.subject name kind texts,
)

-- ---- stops that are passed on

pub err_counted : (r : Result Ran ReplayStop) (stop : ReplayStop) (before between after : ℕ) → IsErrAnd r (λ e. e ≡ stop)
    → between ≡ before → Counts (stop_status stop) between after
    → MatchResult r (λ ran. after ≡ before) (λ e. Counts (stop_status e) before after)
err_counted (Ok x) stop before between after is same counts = absurd is
err_counted (Err e) stop before between after is same counts =
    subst (λ x. Counts (stop_status x) before after) (sym is)
    (subst (λ n. Counts (stop_status stop) n after) same counts)

pub err_said : (told : Option FileMap) (case_file trace_file : List ℕ) (r : Result Replayed ReplayStop) (stop : ReplayStop)
    → IsErrAnd r (λ e. e ≡ stop) → StopsReplay told case_file trace_file stop → SaysReplay told case_file trace_file r
err_said told case_file trace_file (Ok x) stop is h = absurd is
err_said told case_file trace_file (Err e) stop is h = subst (StopsReplay told case_file trace_file) (sym is) h

pub err_kept : (r : Result Replayed ReplayStop) (stop : ReplayStop) (before after : ℕ) → IsErrAnd r (λ e. e ≡ stop)
    → Counts (stop_status stop) before after → Counts (replay_status r) before after
err_kept (Ok x) stop before after is counts = absurd is
err_kept (Err e) stop before after is counts = subst (λ x. Counts (stop_status x) before after) (sym is) counts

pub err_told : (r : Result Replayed ReplayStop) (stop : ReplayStop) (last : Option (List ℕ)) → IsErrAnd r (λ e. e ≡ stop)
    → IsUnread (stop_unread stop) last → IsUnread (replay_unread r) last
err_told (Ok x) stop last is named = absurd is
err_told (Err e) stop last is named = subst (λ x. IsUnread (stop_unread x) last) (sym is) named

-- memory ends behind the reads
pub all_read : (before after : ℕ) → after ≡ before → Counts 9 before after
all_read before after same = record { rises = λ e. absurd (omega (arith, e)); stays = λ a b. same; never_falls = omega (arith, same) }
