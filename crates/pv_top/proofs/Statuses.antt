-- Which statuses an outcome has: those of verdicts and of stops; 5 is that of other words alone, and 7 that of a check alone whose
-- certificate can't be written, and which tells no text.
use Rattle.std.proofs.Common.{◌≡◌, ◌≢◌, ◌≤◌, ◌<◌, ◌⊎◌, inl, inr, ℕ, List, Option, Some, None, Result, Ok, Err, refl, arith}
use Rattle.pv_claims.specs.declared.claim.Claim.{Claim}
use Rattle.pv_claims.specs.declared.claim.Claim.TheVariants.{Satisfied, Unreachable, Violated, Trapped, Reached, Depth, Loop, Lemmas, Region}
use Rattle.pv_report.specs.Reports as reports
use Rattle.pv_command_show.specs.Handed.{SubjectStop, TableRefusal, no_entry, too_many_cells, table_status, Stopped, unread, refused, no_memory, stopped_status, case_stopped, source_stopped, project_stopped, table_stopped, fit_stopped, subject_status, End, Kept, Broken, Over, Reached as Goal_reached, NotReached, Replayed, ReplayStop, end_status, trace_stopped, stop_status, replay_status}
use Rattle.pv_command_show.specs.Handed.subject_stop
use Rattle.pv_command_check.specs.Handed.{FirstStop, first_stop_status}
use Rattle.pv_command_check.specs.Handed.first_stop
use Rattle.pv_command_check.specs.declared.check.Checked.{Checked}
use Rattle.pv_command_check.specs.declared.stop.CheckStop.{CheckStop}
use Rattle.pv_command_check.specs.declared.stop.CheckStop.TheVariants as check_stop
use Rattle.pv_command_check.specs.Checks.{check_stop_status, check_status, check_text}
use Rattle.pv_command_check.specs.Decided.{HasVerdict}
use Rattle.pv_command_show.specs.Handed.replay_stop
use Rattle.pv_command_show.specs.declared.show.Shown.{Shown}
use Rattle.pv_command_show.specs.Shows.{show_status}
use Rattle.pv_command_recheck.specs.declared.recheck.Rechecked.{Rechecked}
use Rattle.pv_command_recheck.specs.declared.stop.RecheckStop.{RecheckStop}
use Rattle.pv_command_recheck.specs.declared.stop.RecheckStop.TheVariants as recheck_stop
use Rattle.pv_command_recheck.specs.Certificates.{CertificateRefusal, faulty, too_many_edges, too_many_gates, certificate_status, certificate_stopped}
use Rattle.pv_command_recheck.specs.Rechecks.{recheck_stop_status, recheck_status}
use Rattle.pv_top.specs.Calls.{IsSettled}

-- ---- statuses by themselves

abbrev pub IsOther : ℕ → Type 0
IsOther status = (status ≢ 5) × (status ≢ 7)

-- a stop's: no verdict's, and neither that of other words nor that of a write fault
pub record IsStop (status : ℕ) : Type 0 where
  pub least : 3 ≤ status
  pub other : IsOther status

three : IsStop 3
three = record { least = omega arith; other = (λ e. omega (arith, e), λ e. omega (arith, e)) }

four : IsStop 4
four = record { least = omega arith; other = (λ e. omega (arith, e), λ e. omega (arith, e)) }

six : IsStop 6
six = record { least = omega arith; other = (λ e. omega (arith, e), λ e. omega (arith, e)) }

eight : IsStop 8
eight = record { least = omega arith; other = (λ e. omega (arith, e), λ e. omega (arith, e)) }

nine : IsStop 9
nine = record { least = omega arith; other = (λ e. omega (arith, e), λ e. omega (arith, e)) }

pub verdict_other : (status : ℕ) → HasVerdict status → IsOther status
verdict_other status (inl e) = (λ f. omega (arith, e, f), λ f. omega (arith, e, f))
verdict_other status (inr (inl e)) = (λ f. omega (arith, e, f), λ f. omega (arith, e, f))
verdict_other status (inr (inr e)) = (λ f. omega (arith, e, f), λ f. omega (arith, e, f))

pub verdict_settled : (status : ℕ) → HasVerdict status → IsSettled status
verdict_settled status (inl e) =
    record { readable = λ f. omega (arith, e, f); written = λ f. omega (arith, e, f); roomy = λ f. omega (arith, e, f) }
verdict_settled status (inr (inl e)) =
    record { readable = λ f. omega (arith, e, f); written = λ f. omega (arith, e, f); roomy = λ f. omega (arith, e, f) }
verdict_settled status (inr (inr e)) =
    record { readable = λ f. omega (arith, e, f); written = λ f. omega (arith, e, f); roomy = λ f. omega (arith, e, f) }

-- a verdict's status is less than a stop's
pub verdict_low : (status : ℕ) → HasVerdict status → 3 ≤ status → ⊥
verdict_low status (inl e) least = omega (arith, e, least)
verdict_low status (inr (inl e)) least = omega (arith, e, least)
verdict_low status (inr (inr e)) least = omega (arith, e, least)

pub verdict_below : (status : ℕ) → HasVerdict status → status < 3
verdict_below status (inl e) = omega (arith, e)
verdict_below status (inr (inl e)) = omega (arith, e)
verdict_below status (inr (inr e)) = omega (arith, e)

-- ---- of claims and ends

pub claim_verdict : (claim : Claim) → HasVerdict (reports.status_of claim)
claim_verdict (Satisfied k) = inl refl
claim_verdict (Unreachable k) = inr (inl refl)
claim_verdict (Violated n) = inr (inl refl)
claim_verdict (Trapped n) = inr (inl refl)
claim_verdict (Reached n) = inl refl
claim_verdict (Depth k) = inr (inr refl)
claim_verdict (Loop n) = inr (inr refl)
claim_verdict (Lemmas b) = inr (inr refl)
claim_verdict (Region x) = inr (inr refl)

end_verdict : (end : End) → HasVerdict (end_status end)
end_verdict (Kept n) = inl refl
end_verdict (Broken n by) = inr (inl refl)
end_verdict (Over n place) = inr (inr refl)
end_verdict (Goal_reached n) = inl refl
end_verdict (NotReached n trap) = inr (inl refl)

-- ---- of stops

stopped_stop : (R : Type 0) (status : R → ℕ) (s : Stopped R) → ((r : R) → IsStop (status r)) → IsStop (stopped_status status s)
stopped_stop R status (unread file) each = six
stopped_stop R status (refused r) each = each r
stopped_stop R status no_memory each = nine

table_stop : (r : TableRefusal) → IsStop (table_status r)
table_stop no_entry = four
table_stop too_many_cells = three

subject_is_stop : (stop : SubjectStop) → IsStop (subject_status stop)
subject_is_stop (subject_stop.Case stop) = stopped_stop _ (λ r. 4) (case_stopped stop) (λ r. four)
subject_is_stop (subject_stop.Source stop) = stopped_stop _ (λ r. 3) (source_stopped stop) (λ r. three)
subject_is_stop (subject_stop.Project stop) = stopped_stop _ (λ r. 3) (project_stopped stop) (λ r. three)
subject_is_stop (subject_stop.Table stop) = stopped_stop _ table_status (table_stopped stop) table_stop
subject_is_stop (subject_stop.Fit stop) = stopped_stop _ (λ r. 4) (fit_stopped stop) (λ r. four)

replay_is_stop : (stop : ReplayStop) → IsStop (stop_status stop)
replay_is_stop (replay_stop.Subject stop) = subject_is_stop stop
replay_is_stop (replay_stop.Trace stop) = stopped_stop _ (λ line. 8) (trace_stopped stop) (λ line. eight)
replay_is_stop replay_stop.NoMemory = nine

first_is_stop : (stop : FirstStop) → IsStop (first_stop_status stop)
first_is_stop (first_stop.Subject stop) = subject_is_stop stop
first_is_stop (first_stop.CaseForm file) = four
first_is_stop (first_stop.SourceForm file) = three
first_is_stop first_stop.NoMemory = nine

certificate_stop : (r : CertificateRefusal) → IsStop (certificate_status r)
certificate_stop (faulty line kind) = eight
certificate_stop too_many_edges = three
certificate_stop too_many_gates = three

recheck_is_stop : (stop : RecheckStop) → IsStop (recheck_stop_status stop)
recheck_is_stop (recheck_stop.First stop) = first_is_stop stop
recheck_is_stop (recheck_stop.Certificate stop) =
    stopped_stop CertificateRefusal certificate_status (certificate_stopped stop) certificate_stop
recheck_is_stop recheck_stop.NoMemory = nine

-- ---- of outcomes

pub replay_other : (result : Result Replayed ReplayStop) → IsOther (replay_status result)
replay_other (Ok r) = verdict_other (end_status r.end) (end_verdict r.end)
replay_other (Err stop) = (replay_is_stop stop).other

pub show_other : (result : Result Shown ReplayStop) → IsOther (show_status result)
show_other (Ok r) = verdict_other (end_status r.replayed.end) (end_verdict r.replayed.end)
show_other (Err stop) = (replay_is_stop stop).other

pub recheck_other : (result : Result Rechecked RecheckStop) → IsOther (recheck_status result)
recheck_other (Ok r) = verdict_other (reports.status_of r.claim) (claim_verdict r.claim)
recheck_other (Err stop) = (recheck_is_stop stop).other

-- ---- of a check

pub check_stop_least : (stop : CheckStop) → 3 ≤ check_stop_status stop
check_stop_least (check_stop.First stop) = (first_is_stop stop).least
check_stop_least check_stop.TooManyEdges = omega arith
check_stop_least (check_stop.TooManyGates chain) = omega arith
check_stop_least check_stop.Unwritten = omega arith
check_stop_least check_stop.NoMemory = omega arith

pub check_not_five : (result : Result Checked CheckStop) → check_status result ≢ 5
check_not_five (Ok r) = (verdict_other (reports.status_of r.claim) (claim_verdict r.claim)).0
check_not_five (Err (check_stop.First stop)) = (first_is_stop stop).other.0
check_not_five (Err check_stop.TooManyEdges) = λ e. omega (arith, e)
check_not_five (Err (check_stop.TooManyGates chain)) = λ e. omega (arith, e)
check_not_five (Err check_stop.Unwritten) = λ e. omega (arith, e)
check_not_five (Err check_stop.NoMemory) = λ e. omega (arith, e)

-- with the status of a write fault there is no text
pub check_seven : (result : Result Checked CheckStop) → check_status result ≡ 7 → check_text result ≡ None
check_seven (Ok r) e = absurd ((verdict_other (reports.status_of r.claim) (claim_verdict r.claim)).1 e)
check_seven (Err (check_stop.First stop)) e = absurd ((first_is_stop stop).other.1 e)
check_seven (Err check_stop.TooManyEdges) e = absurd (omega (arith, e))
check_seven (Err (check_stop.TooManyGates chain)) e = absurd (omega (arith, e))
check_seven (Err check_stop.Unwritten) e = refl
check_seven (Err check_stop.NoMemory) e = absurd (omega (arith, e))
