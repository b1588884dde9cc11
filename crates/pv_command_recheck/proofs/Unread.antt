-- A recheck with the status of a file that can't be read tells one that it asks for, and with another status none.
use Rattle.std.proofs.Common.{◌≡◌, ◌≢◌, inl, inr, ℕ, List, Option, Result, Ok, Err, arith}
use Rattle.pv_edge.specs.Files.{FileMap}
use Rattle.pv_claims.specs.declared.claim.Claim.{Claim}
use Rattle.pv_claims.specs.declared.claim.Claim.TheVariants.{Satisfied, Unreachable, Violated, Trapped, Reached, Depth, Loop, Lemmas, Region}
use Rattle.pv_report.specs.Reports.{status_of}
use Rattle.pv_command_verdict.specs.Handed.{SubjectStop, IsUnread, case_refusal_line, source_line, AtOne, IsAsked, IsRefused, RefusesCase, case_stopped, source_stopped, subject_status, subject_unread, subject_text, FirstStop, StopsAsAny, first_stop_status, first_stop_unread, first_stop_text, StopsFirst}
use Rattle.pv_command_verdict.specs.Handed.subject_stop
use Rattle.pv_command_verdict.proofs.ForCallers.{none_unread, subject_other, stopped_other, TellsUnread, stopped_tells, tells_of, no_file_project, no_file_table, no_file_fit}
use Rattle.pv_command_verdict.specs.Handed.first_stop
use Rattle.pv_command_recheck.specs.declared.recheck.Rechecked.{Rechecked}
use Rattle.pv_command_recheck.specs.declared.stop.RecheckStop.{RecheckStop}
use Rattle.pv_command_recheck.specs.declared.stop.RecheckStop.TheVariants as recheck_stop
use Rattle.pv_command_recheck.specs.Certificates.{CertificateRefusal, faulty, too_many_edges, too_many_gates, RefusesCertificate, certificate_status, certificate_line, certificate_stopped}
use Rattle.pv_command_recheck.specs.Refusals.{AsksRecheck}
use Rattle.pv_command_recheck.specs.Rechecks.{StopsRecheck, SaysRecheck, recheck_stop_status, recheck_stop_unread, recheck_stop_text, recheck_status, recheck_unread, recheck_text}

-- ---- with another status none is told

first_other : (stop : FirstStop) (last : Option (List ℕ)) → first_stop_status stop ≢ 6 → IsUnread (first_stop_unread stop) last
first_other (first_stop.Subject stop) last other = subject_other stop last other
first_other (first_stop.CaseForm file) last other = none_unread last
first_other (first_stop.SourceForm file) last other = none_unread last
first_other first_stop.NoMemory last other = none_unread last

stop_other : (stop : RecheckStop) (last : Option (List ℕ)) → recheck_stop_status stop ≢ 6 → IsUnread (recheck_stop_unread stop) last
stop_other (recheck_stop.First stop) last other = first_other stop last other
stop_other (recheck_stop.Certificate stop) last other = stopped_other certificate_status (certificate_stopped stop) last other
stop_other recheck_stop.NoMemory last other = none_unread last

pub recheck_other : (r : Result Rechecked RecheckStop) (last : Option (List ℕ)) → recheck_status r ≢ 6 → IsUnread (recheck_unread r) last
recheck_other (Ok r) last other = none_unread last
recheck_other (Err stop) last other = stop_other stop last other

-- ---- with that status one is told, which is asked for

pub claim_statuses : (P : ℕ → Type 0) → P 0 → P 1 → P 2 → (claim : Claim) → P (status_of claim)
claim_statuses P a b c (Satisfied k) = a
claim_statuses P a b c (Unreachable k) = b
claim_statuses P a b c (Violated n) = b
claim_statuses P a b c (Trapped n) = b
claim_statuses P a b c (Reached n) = a
claim_statuses P a b c (Depth k) = c
claim_statuses P a b c (Loop n) = c
claim_statuses P a b c (Lemmas n) = c
claim_statuses P a b c (Region x) = c

pub claim_never_six : (claim : Claim) → status_of claim ≢ 6
claim_never_six claim = claim_statuses (λ n. n ≢ 6) (λ e. omega (arith, e)) (λ e. omega (arith, e)) (λ e. omega (arith, e)) claim

refusal_never_six : (r : CertificateRefusal) → certificate_status r ≢ 6
refusal_never_six (faulty line kind) = λ e. omega (arith, e)
refusal_never_six too_many_edges = λ e. omega (arith, e)
refusal_never_six too_many_gates = λ e. omega (arith, e)

module _ (told : Option FileMap) (case_file file : List ℕ) where
  abbrev Asks : List ℕ → Type 0
  Asks = AsksRecheck told case_file file

  any_tells : (stop : SubjectStop) → StopsAsAny told case_file stop → subject_status stop ≡ 6
      → TellsUnread Asks (subject_unread stop) (subject_text stop)
  any_tells (subject_stop.Case stop) is six =
      tells_of (λ name. name ≡ case_file) Asks _ _ (λ name same. inl same)
      (stopped_tells (λ name. name ≡ case_file) (RefusesCase told case_file) (λ r. 4) case_refusal_line (case_stopped stop)
      (λ r e. absurd cc) is six)
  any_tells (subject_stop.Source stop) is six =
      tells_of (λ name. AtOne (IsAsked name) told 0 is.0.sources) Asks _ _
      (λ name asked. inr (inl (is.0, is.1, (is.2.0, asked))))
      (stopped_tells (λ name. AtOne (IsAsked name) told 0 is.0.sources) (λ r. AtOne (IsRefused told r) told 0 is.0.sources) (λ r. 3)
      source_line (source_stopped stop) (λ r e. absurd cc) is.2.1 six)
  any_tells (subject_stop.Project stop) is six = absurd (no_file_project stop six)
  any_tells (subject_stop.Table stop) is six = absurd (no_file_table stop six)
  any_tells (subject_stop.Fit stop) is six = absurd (no_file_fit stop six)

  first_tells : (stop : FirstStop) → StopsFirst told case_file stop → first_stop_status stop ≡ 6
      → TellsUnread Asks (first_stop_unread stop) (first_stop_text stop)
  first_tells (first_stop.Subject stop) is six = any_tells stop is six
  first_tells (first_stop.CaseForm name) is six = absurd (omega (arith, six))
  first_tells (first_stop.SourceForm name) is six = absurd (omega (arith, six))
  first_tells first_stop.NoMemory is six = absurd (omega (arith, six))

  stop_tells : (stop : RecheckStop) → StopsRecheck told case_file file stop → recheck_stop_status stop ≡ 6
      → TellsUnread Asks (recheck_stop_unread stop) (recheck_stop_text stop)
  stop_tells (recheck_stop.First stop) is six = first_tells stop is six
  stop_tells (recheck_stop.Certificate stop) is six =
      tells_of (λ name. name ≡ file) Asks _ _ (λ name same. inr (inr ((is.0, is.1), same)))
      (stopped_tells (λ name. name ≡ file) (RefusesCertificate told file is.0) certificate_status certificate_line
      (certificate_stopped stop) refusal_never_six is.2 six)
  stop_tells recheck_stop.NoMemory is six = absurd (omega (arith, six))

  pub recheck_tells : (result : Result Rechecked RecheckStop) → SaysRecheck told case_file file result → recheck_status result ≡ 6
      → TellsUnread (AsksRecheck told case_file file) (recheck_unread result) (recheck_text result)
  recheck_tells (Ok r) says six = absurd (claim_never_six r.claim six)
  recheck_tells (Err stop) says six = stop_tells stop says six
