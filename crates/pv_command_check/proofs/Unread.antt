-- A check with the status of a file that can't be read tells one that it asks for.
use Rattle.std.proofs.Common.{◌≡◌, inl, inr, ℕ, List, Option, Result, Ok, Err, arith}
use Rattle.pv_edge.specs.Files.{FileMap}
use Rattle.pv_command_verdict.specs.Handed.{SubjectStop, case_refusal_line, source_line, AtOne, IsAsked, IsRefused, RefusesCase, case_stopped, source_stopped, subject_status, subject_unread, subject_text, FirstStop, StopsAsAny, first_stop_status, first_stop_unread, first_stop_text, StopsFirst}
use Rattle.pv_command_verdict.specs.Handed.subject_stop
use Rattle.pv_command_verdict.proofs.ForCallers.{TellsUnread, stopped_tells, tells_of, no_file_project, no_file_table, no_file_fit}
use Rattle.pv_command_verdict.specs.Handed.first_stop
use Rattle.pv_command_check.specs.declared.check.Checked.{Checked}
use Rattle.pv_command_check.specs.declared.stop.CheckStop.{CheckStop}
use Rattle.pv_command_check.specs.declared.stop.CheckStop.TheVariants as check_stop
use Rattle.pv_command_check.specs.Refusals.{AsksCheck}
use Rattle.pv_command_check.specs.Checks.{StopsCheck, SaysCheck, check_stop_status, check_status, check_stop_unread, check_unread, check_stop_text, check_text}
use Rattle.pv_command_check.proofs.Writing.{claim_low}

module _ (told : Option FileMap) (case_file : List ℕ) where
  any_tells : (stop : SubjectStop) → StopsAsAny told case_file stop → subject_status stop ≡ 6
      → TellsUnread (AsksCheck told case_file) (subject_unread stop) (subject_text stop)
  any_tells (subject_stop.Case stop) is six =
      tells_of (λ name. name ≡ case_file) (AsksCheck told case_file) _ _ (λ name same. inl same)
      (stopped_tells (λ name. name ≡ case_file) (RefusesCase told case_file) (λ r. 4) case_refusal_line (case_stopped stop)
      (λ r e. absurd cc) is six)
  any_tells (subject_stop.Source stop) is six =
      tells_of (λ name. AtOne (IsAsked name) told 0 is.0.sources) (AsksCheck told case_file) _ _
      (λ name asked. inr (is.0, is.1, (is.2.0, asked)))
      (stopped_tells (λ name. AtOne (IsAsked name) told 0 is.0.sources) (λ r. AtOne (IsRefused told r) told 0 is.0.sources) (λ r. 3)
      source_line (source_stopped stop) (λ r e. absurd cc) is.2.1 six)
  any_tells (subject_stop.Project stop) is six = absurd (no_file_project stop six)
  any_tells (subject_stop.Table stop) is six = absurd (no_file_table stop six)
  any_tells (subject_stop.Fit stop) is six = absurd (no_file_fit stop six)

  first_tells : (stop : FirstStop) → StopsFirst told case_file stop → first_stop_status stop ≡ 6
      → TellsUnread (AsksCheck told case_file) (first_stop_unread stop) (first_stop_text stop)
  first_tells (first_stop.Subject stop) is six = any_tells stop is six
  first_tells (first_stop.CaseForm name) is six = absurd (omega (arith, six))
  first_tells (first_stop.SourceForm name) is six = absurd (omega (arith, six))
  first_tells first_stop.NoMemory is six = absurd (omega (arith, six))

  stop_tells : (stop : CheckStop) → StopsCheck told case_file stop → check_stop_status stop ≡ 6
      → TellsUnread (AsksCheck told case_file) (check_stop_unread stop) (check_stop_text stop)
  stop_tells (check_stop.First stop) is six = first_tells stop is six
  stop_tells check_stop.TooManyEdges is six = absurd (omega (arith, six))
  stop_tells (check_stop.TooManyGates chain) is six = absurd (omega (arith, six))
  stop_tells check_stop.Unwritten is six = absurd (omega (arith, six))
  stop_tells check_stop.NoMemory is six = absurd (omega (arith, six))

  pub check_tells : (result : Result Checked CheckStop) → SaysCheck told case_file result → check_status result ≡ 6
      → TellsUnread (AsksCheck told case_file) (check_unread result) (check_text result)
  check_tells (Ok r) says six = absurd (claim_low r.claim 3 six)
  check_tells (Err stop) says six = stop_tells stop says six
