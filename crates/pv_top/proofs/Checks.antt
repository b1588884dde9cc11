-- What is promised of a check: a verdict with its report, its certificate and its file; no other file changes; and what is kept besides.
use Rattle.std.proofs.Common.{◌≡◌, ◌≢◌, ◌≤◌, ◌⊎◌, inl, inr, ℕ, List, Option, Some, None, Result, Ok, Err, refl, sym, subst, ap, ◌∙◌}
use Rattle.std.specs.Prelude.{IsNone, IsSomeAnd, MatchOption, unwrap_or}
use Rattle.std.proofs.lemmas.Option.{same_Some}
use Rattle.pv_edge.specs.Files.{FileMap, Puts, PutsPart, Changes}
use Rattle.pv_edge.specs.Sink.{Takes}
use Rattle.pv_report.specs.Reports as reports
use Rattle.pv_command_show.specs.Handed.{SubjectData}
use Rattle.pv_command_check.specs.Handed.{verdict_text}
use Rattle.pv_command_check.specs.declared.check.Checked.{Checked}
use Rattle.pv_command_check.specs.declared.stop.CheckStop.{CheckStop}
use Rattle.pv_command_check.specs.declared.stop.CheckStop.TheVariants as check_stop
use Rattle.pv_command_check.specs.Refusals.{ReadsChecked, chain_text}
use Rattle.pv_command_check.specs.Checks.{SaysCheck, check_status, check_text, check_keeps}
use Rattle.pv_command_check.specs.Files.{Writes, KeepsIn, LeavesFiles}
use Rattle.pv_command_check.specs.Decided.{HasVerdict, IsHad}
use Rattle.pv_top.specs.declared.outcome.Outcome.TheVariants.{Check}
use Rattle.pv_top.specs.Calls.{Call, Delivers, whole, part, silent, IsTakenIn, IsKeptIn}
use Rattle.pv_top.specs.Checks.{NamesCertificate, KeepsOthers, KeepsChain}
use Rattle.pv_top.proofs.Statuses.{claim_verdict, verdict_low, check_stop_least}

-- ---- other files

module _ (case_file : List ℕ) where
  same_others : (old new : Option FileMap) → new ≡ old → KeepsOthers case_file old new
  same_others (Some files) new same =
      subst (λ n. KeepsOthers case_file (Some files) n) (sym same) (λ name other. refl)
  same_others None new same = subst (λ n. KeepsOthers case_file None n) (sym same) refl

  changed_others : (R : FileMap → FileMap → Type 0) (name : List ℕ) (old new : Option FileMap) → NamesCertificate old case_file name
      → ((files after : FileMap) → R files after → (other : List ℕ) → other ≢ name → after other ≡ files other)
      → Changes R old new → KeepsOthers case_file old new
  changed_others R name (Some files) (Some after) named others is = λ other unnamed.
      others files after is other (λ same. unnamed (subst (NamesCertificate (Some files) case_file) (sym same) named))
  changed_others R name (Some files) None named others is = absurd is
  changed_others R name None (Some after) named others is = absurd cc
  changed_others R name None None named others is = refl

  written_others : (s : SubjectData) (name : Option (List ℕ)) (bytes : List ℕ) (old new : Option FileMap)
      → ReadsChecked old case_file s → s.given.case.certificate ≡ name → Writes name bytes old new → KeepsOthers case_file old new
  written_others s (Some name) bytes old new reads named writes =
      changed_others (Puts name bytes) name old new (s, reads, named) (λ files after is. is.others) writes
  written_others s None bytes old new reads named writes = same_others old new writes

  pub keeps_others : (result : Result Checked CheckStop) (old new : Option FileMap) → LeavesFiles case_file result old new
      → KeepsOthers case_file old new
  keeps_others (Ok r) old new is =
      let s = is.checked.subject in
      written_others s s.given.case.certificate r.certificate old new is.checked.comes.reads refl is.writes
  keeps_others (Err (check_stop.First stop)) old new is = same_others old new is
  keeps_others (Err check_stop.TooManyEdges) old new is = same_others old new is
  keeps_others (Err (check_stop.TooManyGates chain)) old new is = same_others old new is
  keeps_others (Err check_stop.Unwritten) old new is =
      changed_others (PutsPart is.name is.bytes) is.name old new (is.subject, is.comes.reads, is.named) (λ files after h. h.others) is.part
  keeps_others (Err check_stop.NoMemory) old new is = same_others old new is

-- ---- a verdict

module _ {S : Type 0} (call : Call S) (case_file : List ℕ) where
  had : (r : Checked) (text : List ℕ) → KeepsIn case_file r call.told call.told_after → check_text (Ok r) ≡ Some text
      → call.status ≡ reports.status_of r.claim → IsTakenIn call text → call.kept_after ≡ unwrap_or (Some r.certificate) call.kept
      → IsHad call.told call.told_after case_file call.status (IsTakenIn call) (IsKeptIn call)
  had r text is told code taken kept =
      let checked = is.checked in record {
        subject = checked.subject;
        bytes = r.certificate;
        certificate = checked.certificate;
        ending = checked.ending;
        comes = checked.comes;
        of_status = sym (code ∙ ap reports.status_of checked.claim);
        taken = subst (IsTakenIn call)
            (sym (same_Some r.report.items text told) ∙ checked.report) taken;
        kept = kept;
        written = is.writes;
      }

  pub had_by : (result : Result Checked CheckStop) (text : List ℕ) → LeavesFiles case_file result call.told call.told_after
      → check_text result ≡ Some text → call.status ≡ check_status result → IsTakenIn call text
      → call.kept_after ≡ unwrap_or (check_keeps result) call.kept → HasVerdict call.status
      → IsHad call.told call.told_after case_file call.status (IsTakenIn call) (IsKeptIn call)
  had_by (Ok r) text is told code taken kept verdict = had r text is told code taken kept
  had_by (Err stop) text is told code taken kept verdict =
      absurd (verdict_low call.status verdict (subst (λ n. 3 ≤ n) (sym code) (check_stop_least stop)))

  -- ---- what is kept without one

  kept_by_stop : (stop : CheckStop) → SaysCheck call.told case_file (Err stop) → call.status ≡ check_status (Err stop)
      → call.kept_after ≡ unwrap_or (check_keeps (Err stop)) call.kept → KeepsChain call case_file
  kept_by_stop (check_stop.First stop) says code kept = inl kept
  kept_by_stop check_stop.TooManyEdges says code kept = inl kept
  kept_by_stop (check_stop.TooManyGates chain) says code kept = inr (code, says.0, kept ∙ says.1)
  kept_by_stop check_stop.Unwritten says code kept = inl kept
  kept_by_stop check_stop.NoMemory says code kept = inl kept

  kept_whole : (result : Result Checked CheckStop) → SaysCheck call.told case_file result → call.status ≡ check_status result
      → call.kept_after ≡ unwrap_or (check_keeps result) call.kept → (HasVerdict call.status → ⊥) → KeepsChain call case_file
  kept_whole (Ok r) says code kept none = absurd (none (subst HasVerdict (sym code) (claim_verdict r.claim)))
  kept_whole (Err stop) says code kept none = kept_by_stop stop says code kept

  pub keeps_chain : (result : Result Checked CheckStop) → SaysCheck call.told case_file result
      → Delivers (Check result) call.status call.taken call.taken_after call.kept call.kept_after → (HasVerdict call.status → ⊥)
      → KeepsChain call case_file
  keeps_chain result says (whole text is code takes kept) none = kept_whole result says code kept none
  keeps_chain result says (part text is ends takes kept) none = inl kept
  keeps_chain result says (silent code same kept) none = inl kept
