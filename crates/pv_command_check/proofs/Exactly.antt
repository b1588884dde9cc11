-- From what a check came to, to what the files decide: where they tell what they hold, they hold what has a verdict, or one refusal.
use Rattle.std.proofs.Common.{◌≡◌, ◌≢◌, inl, inr, ℕ, ◌+◌, List, Option, Some, Result, Ok, Err, refl, sym, ap, subst, ◌∙◌, arith}
use Rattle.std.proofs.lemmas.Option.{same_Some}
use Rattle.pv_edge.specs.Files.{FileMap}
use Rattle.pv_claims.specs.declared.claim.Claim.{Claim}
use Rattle.pv_claims.specs.declared.trace.Ending.{Ending}
use Rattle.pv_cert.specs.declared.certificate.Certificate.{Certificate}
use Rattle.pv_report.specs.Reports.{status_of}
use Rattle.pv_command_verdict.specs.Handed.{SubjectData, FirstStop, first_stop_status, first_stop_text, SubjectStop, table_status, case_refusal_line, source_line, project_line, table_line, fit_line, Stopped, unread, refused, no_memory, stopped_status, stopped_text, case_stopped, source_stopped, project_stopped, table_stopped, fit_stopped, subject_status, subject_text}
use Rattle.pv_command_verdict.specs.Handed.first_stop
use Rattle.pv_command_verdict.specs.Handed.subject_stop
use Rattle.pv_command_verdict.specs.Verdicts.{verdict_text}
use Rattle.pv_command_check.specs.declared.check.Checked.{Checked}
use Rattle.pv_command_check.specs.declared.stop.CheckStop.{CheckStop}
use Rattle.pv_command_check.specs.declared.stop.CheckStop.TheVariants as check_stop
use Rattle.pv_command_check.specs.Refusals.{ReadsChecked, CheckRefusal, as_first, too_many_edges, too_many_gates, RefusesCheck, check_refusal_status, check_refusal_line, check_refusal_keeps}
use Rattle.pv_command_check.specs.Checks.{ComesTo, SaysCheck, check_status, check_text, check_keeps}
use Rattle.pv_command_check.specs.Files.{Writes, LeavesFiles}
use Rattle.pv_command_check.specs.Decided.{HasVerdict, IsRefusedWith, IsHad, FilesDecideOneCheck, OneComes, ChecksExactly}
use Rattle.pv_command_check.proofs.Stopping.{first_refusal_statuses, first_statuses, first_as}
use Rattle.pv_command_check.proofs.Writing.{claim_statuses}

-- ---- statuses

-- a refusal has status 3 or 4
refusal_statuses : (P : ℕ → Type 0) → P 3 → P 4 → (r : CheckRefusal) → P (check_refusal_status r)
refusal_statuses P a b (as_first r) = first_refusal_statuses P a b r
refusal_statuses P a b too_many_edges = a
refusal_statuses P a b too_many_gates = a

claim_has : (claim : Claim) (status : ℕ) → status ≡ status_of claim → HasVerdict status
claim_has claim status =
    claim_statuses (λ n. status ≡ n → HasVerdict status) (λ e. inl e) (λ e. inr (inl e)) (λ e. inr (inr e)) claim

-- so it is none of these
claim_not : (claim : Claim) (status n : ℕ) → status ≡ status_of claim → status ≡ n + 3 → ⊥
claim_not claim status n =
    claim_statuses (λ m. status ≡ m → status ≡ n + 3 → ⊥) (λ a b. omega (arith, a, b)) (λ a b. omega (arith, a, b)) (λ a b. omega (arith, a, b))
    claim

low : (status : ℕ) → HasVerdict status → (n : ℕ) → status ≡ n + 3 → ⊥
low status (inl e) n is = omega (arith, e, is)
low status (inr (inl e)) n is = omega (arith, e, is)
low status (inr (inr e)) n is = omega (arith, e, is)

refusal_has_none : (r : CheckRefusal) (status : ℕ) → status ≡ check_refusal_status r → HasVerdict status → ⊥
refusal_has_none r status =
    refusal_statuses (λ n. status ≡ n → HasVerdict status → ⊥) (λ e h. low status h 0 e) (λ e h. low status h 1 e) r

refusal_not_eight : (r : CheckRefusal) (status : ℕ) → status ≡ check_refusal_status r → status ≢ 8
refusal_not_eight r status =
    refusal_statuses (λ n. status ≡ n → status ≢ 8) (λ a b. omega (arith, a, b)) (λ a b. omega (arith, a, b)) r

-- a check is no other command's answer
pub check_never_five : (result : Result Checked CheckStop) → check_status result ≡ 5 → ⊥
check_never_five (Ok r) e = claim_not r.claim 5 2 (sym e) refl
check_never_five (Err (check_stop.First stop)) e =
    first_statuses (λ n. n ≡ 5 → ⊥) (λ h. omega (arith, h)) (λ h. omega (arith, h)) (λ h. omega (arith, h)) (λ h. omega (arith, h)) stop e
check_never_five (Err check_stop.TooManyEdges) e = omega (arith, e)
check_never_five (Err (check_stop.TooManyGates chain)) e = omega (arith, e)
check_never_five (Err check_stop.Unwritten) e = omega (arith, e)
check_never_five (Err check_stop.NoMemory) e = omega (arith, e)

-- ---- where memory doesn't end, and the certificate can be written, there is a text

abbrev pub HasText : Option (List ℕ) → Type 0
HasText text = (line : List ℕ) × (text ≡ Some line)

stopped_has_text : {R : Type 0} (status_of : R → ℕ) (line_of : R → List ℕ) (x : Stopped R) → stopped_status status_of x ≢ 9
    → HasText (stopped_text line_of x)
stopped_has_text status_of line_of (unread file) roomy = (_, refl)
stopped_has_text status_of line_of (refused r) roomy = (_, refl)
stopped_has_text status_of line_of no_memory roomy = absurd (roomy refl)

subject_has_text : (stop : SubjectStop) → subject_status stop ≢ 9 → HasText (subject_text stop)
subject_has_text (subject_stop.Case stop) roomy = stopped_has_text (λ r. 4) case_refusal_line (case_stopped stop) roomy
subject_has_text (subject_stop.Source stop) roomy = stopped_has_text (λ r. 3) source_line (source_stopped stop) roomy
subject_has_text (subject_stop.Project stop) roomy = stopped_has_text (λ r. 3) project_line (project_stopped stop) roomy
subject_has_text (subject_stop.Table stop) roomy = stopped_has_text table_status table_line (table_stopped stop) roomy
subject_has_text (subject_stop.Fit stop) roomy = stopped_has_text (λ r. 4) fit_line (fit_stopped stop) roomy

first_has_text : (stop : FirstStop) → first_stop_status stop ≢ 9 → HasText (first_stop_text stop)
first_has_text (first_stop.Subject stop) roomy = subject_has_text stop roomy
first_has_text (first_stop.CaseForm file) roomy = (_, refl)
first_has_text (first_stop.SourceForm file) roomy = (_, refl)
first_has_text first_stop.NoMemory roomy = absurd (roomy refl)

pub check_has_text : (result : Result Checked CheckStop) → check_status result ≢ 7 → check_status result ≢ 9 → HasText (check_text result)
check_has_text (Ok r) written roomy = (_, refl)
check_has_text (Err (check_stop.First stop)) written roomy = first_has_text stop roomy
check_has_text (Err check_stop.TooManyEdges) written roomy = (_, refl)
check_has_text (Err (check_stop.TooManyGates chain)) written roomy = (_, refl)
check_has_text (Err check_stop.Unwritten) written roomy = absurd (written refl)
check_has_text (Err check_stop.NoMemory) written roomy = absurd (roomy refl)

-- ---- what a check came to

pub data CheckCame (files : FileMap) (after : Option FileMap) (case_file : List ℕ) (status : ℕ) (text keep : Option (List ℕ)) : Type 0 where
  had : (s : SubjectData) (bytes : List ℕ) (c : Certificate) (ending : Option Ending) → ComesTo (Some files) case_file s bytes c ending
      → status ≡ status_of c.claim → text ≡ Some (verdict_text s c ending) → keep ≡ Some bytes
      → Writes s.given.case.certificate bytes (Some files) after → CheckCame files after case_file status text keep
  refuses : (r : CheckRefusal) → RefusesCheck (Some files) case_file r → status ≡ check_refusal_status r → text ≡ Some (check_refusal_line r)
      → keep ≡ check_refusal_keeps r → after ≡ Some files → CheckCame files after case_file status text keep

module _ (files : FileMap) (after : Option FileMap) (case_file : List ℕ) where
  pub check_came : (result : Result Checked CheckStop) → SaysCheck (Some files) case_file result
      → LeavesFiles case_file result (Some files) after → check_status result ≢ 6 → check_status result ≢ 7 → check_status result ≢ 9
      → CheckCame files after case_file (check_status result) (check_text result) (check_keeps result)
  check_came (Ok r) is left readable written roomy =
      let so = left.checked in
      had so.subject r.certificate so.certificate so.ending so.comes (ap status_of so.claim) (ap Some so.report) refl left.writes
  check_came (Err (check_stop.First stop)) is left readable written roomy =
      let so = first_as files case_file stop is readable roomy in
      refuses (as_first so.refusal) so.is so.of_status so.of_text refl left
  check_came (Err check_stop.TooManyEdges) is left readable written roomy = refuses too_many_edges is refl refl refl left
  check_came (Err (check_stop.TooManyGates chain)) is left readable written roomy =
      refuses too_many_gates is.0 refl refl (ap (λ (t : List ℕ). Some t) is.1) left
  check_came (Err check_stop.Unwritten) is left readable written roomy = absurd (written refl)
  check_came (Err check_stop.NoMemory) is left readable written roomy = absurd (roomy refl)

  module _ (law : FilesDecideOneCheck files case_file) (status : ℕ) (text : List ℕ) (keep : Option (List ℕ)) (IsTaken : List ℕ → Type 0)
      (IsKept : Option (List ℕ) → Type 0) (taken : IsTaken text) (kept : IsKept keep) where
    abbrev Came : Type 0
    Came = CheckCame files after case_file status (Some text) keep

    -- ---- a verdict

    subject_of : Came → HasVerdict status → (s : SubjectData) × ReadsChecked (Some files) case_file s
    subject_of (had s bytes c ending is a b k w) h = (s, is.reads)
    subject_of (refuses r is a b k w) h = absurd (refusal_has_none r status a h)

    verdict_of : Came → ((s : SubjectData) × ReadsChecked (Some files) case_file s) → HasVerdict status
    verdict_of (had s bytes c ending is a b k w) h = claim_has c.claim status a
    verdict_of (refuses r is a b k w) h = absurd (law.apart h.0 r h.1 is)

    had_of : Came → HasVerdict status → IsHad (Some files) after case_file status IsTaken IsKept
    had_of (had s bytes c ending is a b k w) h = record {
      subject = s;
      bytes = bytes;
      certificate = c;
      ending = ending;
      comes = is;
      of_status = sym a;
      taken = subst IsTaken (same_Some text (verdict_text s c ending) b) taken;
      kept = subst IsKept k kept;
      written = w;
    }
    had_of (refuses r is a b k w) h = absurd (refusal_has_none r status a h)

    -- ---- refusals

    -- it is this refusal, with its text and what is kept of it, and nothing is written
    record Refused (r : CheckRefusal) : Type 0 where
      of_status : status ≡ check_refusal_status r
      of_text : IsTaken (check_refusal_line r)
      of_keep : IsKept (check_refusal_keeps r)
      unwritten : after ≡ Some files

    as_refused : Came → (r : CheckRefusal) → RefusesCheck (Some files) case_file r → Refused r
    as_refused (had s bytes c ending is a b k w) r h = absurd (law.apart s r is.reads h)
    as_refused (refuses q is a b k w) r h =
        let same = law.one_refusal q r is h in
        record {
          of_status = a ∙ ap check_refusal_status same;
          of_text = subst IsTaken (same_Some text (check_refusal_line q) b ∙ ap check_refusal_line same) taken;
          of_keep = subst IsKept (k ∙ ap check_refusal_keeps same) kept;
          unwritten = w;
        }

    refused_of : Came → (n : ℕ) → status ≡ n + 3 → IsRefusedWith files case_file (n + 3)
    refused_of (had s bytes c ending is a b k w) n e = absurd (claim_not c.claim status n a e)
    refused_of (refuses r is a b k w) n e = record { refusal = r; refuses = is; of_status = sym a ∙ e }

    one_comes : Came → OneComes files case_file status
    one_comes (had s bytes c ending is a b k w) =
        record { comes = inl (record { subject = s; reads = is.reads; verdict = claim_has c.claim status a }); one = law }
    one_comes (refuses r is a b k w) = record { comes = inr (record { refusal = r; refuses = is; of_status = sym a }); one = law }

    not_eight : Came → status ≢ 8
    not_eight (had s bytes c ending is a b k w) = claim_not c.claim status 5 a
    not_eight (refuses r is a b k w) = refusal_not_eight r status a

    pub checks_exactly : Came → ChecksExactly files after case_file status IsTaken IsKept
    checks_exactly came = record {
      one = one_comes came;
      decided = (subject_of came, verdict_of came);
      verdict = had_of came;
      source = (refused_of came 0, λ h. (as_refused came h.refusal h.refuses).of_status ∙ h.of_status);
      case = (refused_of came 1, λ h. (as_refused came h.refusal h.refuses).of_status ∙ h.of_status);
      no_text = not_eight came;
      refusal_told = λ r h. (as_refused came r h).of_text;
      refusal_kept = λ r h. (as_refused came r h).of_keep;
      refusal_writes = λ r h. (as_refused came r h).unwritten;
    }
