-- From what a recheck came to, to what the files decide: where they tell what they hold, they hold a right certificate, or one refusal.
use Rattle.std.proofs.Common.{◌≡◌, ◌≢◌, inl, inr, ◌<◌, ◌≤◌, ℕ, List, Option, Some, Result, Ok, Err, refl, sym, ap, subst, ◌∙◌, arith}
use Rattle.std.proofs.lemmas.Option.{same_Some}
use Rattle.pv_edge.specs.Files.{FileMap}
use Rattle.pv_claims.specs.declared.claim.Claim.{Claim}
use Rattle.pv_claims.specs.declared.trace.Ending.{Ending}
use Rattle.pv_cert.specs.declared.certificate.Certificate.{Certificate}
use Rattle.pv_valid.specs.Validity.{ending_in}
use Rattle.pv_report.specs.Reports.{status_of}
use Rattle.pv_command_verdict.specs.Handed.{SubjectStop, table_status, case_refusal_line, source_line, project_line, table_line, fit_line, Stopped, unread, refused, no_memory, stopped_status, stopped_text, case_stopped, source_stopped, project_stopped, table_stopped, fit_stopped, subject_status, subject_text, SubjectData, FirstStop, first_stop_status, first_stop_text}
use Rattle.pv_command_verdict.specs.Handed.subject_stop
use Rattle.pv_command_verdict.specs.Handed.first_stop
use Rattle.pv_command_verdict.specs.Cases.{case_in}
use Rattle.pv_command_verdict.specs.Verdicts.{verdict_text}
use Rattle.pv_command_recheck.specs.declared.recheck.Rechecked.{Rechecked}
use Rattle.pv_command_recheck.specs.declared.stop.RecheckStop.{RecheckStop}
use Rattle.pv_command_recheck.specs.declared.stop.RecheckStop.TheVariants as recheck_stop
use Rattle.pv_command_recheck.specs.Certificates.{CertificateRefusal, faulty, too_many_edges, too_many_gates, RefusesCertificate, certificate_status, certificate_line, certificate_stopped}
use Rattle.pv_command_recheck.specs.Refusals.{RecheckRefusal, as_first, by_certificate, RefusesRecheck, recheck_refusal_status, recheck_refusal_line}
use Rattle.pv_command_recheck.specs.Rechecks.{HoldsRight, HoldsVerdict, IsReported, SaysRecheck, recheck_stop_status, recheck_status, recheck_text}
use Rattle.pv_command_recheck.specs.Decided.{IsTold, EndsWith, IsRefusedWith, HasFault, FilesDecideOneRecheck, OneComes, RechecksExactly}
use Rattle.pv_command_recheck.proofs.Stopping.{first_refusal_statuses, stopped_statuses, first_statuses, stopped_as, first_as}
use Rattle.pv_command_recheck.proofs.Unread.{claim_statuses}

-- ---- statuses

-- a refusal has status 3 or 8
certificate_statuses : (P : ℕ → Type 0) → P 3 → P 8 → (r : CertificateRefusal) → P (certificate_status r)
certificate_statuses P a b (faulty line kind) = b
certificate_statuses P a b too_many_edges = a
certificate_statuses P a b too_many_gates = a

-- a stop has one of these
stop_statuses : (P : ℕ → Type 0) → P 3 → P 4 → P 6 → P 8 → P 9 → (stop : RecheckStop) → P (recheck_stop_status stop)
stop_statuses P a b c d e (recheck_stop.First stop) = first_statuses P a b c e stop
stop_statuses P a b c d e (recheck_stop.Certificate stop) =
    stopped_statuses P certificate_status (certificate_statuses P a d) c e (certificate_stopped stop)
stop_statuses P a b c d e recheck_stop.NoMemory = e

-- a recheck is no other command's answer
pub recheck_never_five : (result : Result Rechecked RecheckStop) → recheck_status result ≡ 5 → ⊥
recheck_never_five (Ok r) =
    claim_statuses (λ n. n ≡ 5 → ⊥) (λ e. omega (arith, e)) (λ e. omega (arith, e)) (λ e. omega (arith, e)) r.claim
recheck_never_five (Err stop) =
    stop_statuses (λ n. n ≡ 5 → ⊥) (λ e. omega (arith, e)) (λ e. omega (arith, e)) (λ e. omega (arith, e)) (λ e. omega (arith, e))
    (λ e. omega (arith, e)) stop

stop_high : (stop : RecheckStop) → recheck_stop_status stop < 3 → ⊥
stop_high stop =
    stop_statuses (λ n. n < 3 → ⊥) (λ e. omega (arith, e)) (λ e. omega (arith, e)) (λ e. omega (arith, e)) (λ e. omega (arith, e))
    (λ e. omega (arith, e)) stop

refusal_high : (r : RecheckRefusal) (n : ℕ) → recheck_refusal_status r ≡ n → n < 3 → ⊥
refusal_high (as_first r) n =
    first_refusal_statuses (λ m. m ≡ n → n < 3 → ⊥) (λ a b. omega (arith, a, b)) (λ a b. omega (arith, a, b)) r
refusal_high (by_certificate r) n =
    certificate_statuses (λ m. m ≡ n → n < 3 → ⊥) (λ a b. omega (arith, a, b)) (λ a b. omega (arith, a, b)) r

claim_low : (claim : Claim) (status n : ℕ) → status ≡ status_of claim → 3 ≤ n → status ≡ n → ⊥
claim_low claim status n =
    claim_statuses (λ m. status ≡ m → 3 ≤ n → status ≡ n → ⊥) (λ a b c. omega (arith, a, b, c)) (λ a b c. omega (arith, a, b, c))
    (λ a b c. omega (arith, a, b, c)) claim

-- ---- where memory doesn't end there is a text

abbrev pub HasText : Option (List ℕ) → Type 0
HasText text = (line : List ℕ) × (text ≡ Some line)

stopped_has_text : {R : Type 0} (status_of : R → ℕ) (line_of : R → List ℕ) (x : Stopped R) → stopped_status status_of x ≢ 9
    → HasText (stopped_text line_of x)
stopped_has_text status_of line_of (unread file) roomy = (_, refl)
stopped_has_text status_of line_of (refused r) roomy = (_, refl)
stopped_has_text status_of line_of no_memory roomy = absurd (roomy refl)

subject_has_text : (stop : SubjectStop) → subject_status stop ≢ 9 → HasText (subject_text stop)
subject_has_text (subject_stop.Case stop) roomy = stopped_has_text (λ r. 4) case_refusal_line (case_stopped stop) roomy
subject_has_text (subject_stop.Source stop) roomy = stopped_has_text (λ r. 3) source_line (source_stopped stop) roomy
subject_has_text (subject_stop.Project stop) roomy = stopped_has_text (λ r. 3) project_line (project_stopped stop) roomy
subject_has_text (subject_stop.Table stop) roomy = stopped_has_text table_status table_line (table_stopped stop) roomy
subject_has_text (subject_stop.Fit stop) roomy = stopped_has_text (λ r. 4) fit_line (fit_stopped stop) roomy

first_has_text : (stop : FirstStop) → first_stop_status stop ≢ 9 → HasText (first_stop_text stop)
first_has_text (first_stop.Subject stop) roomy = subject_has_text stop roomy
first_has_text (first_stop.CaseForm file) roomy = (_, refl)
first_has_text (first_stop.SourceForm file) roomy = (_, refl)
first_has_text first_stop.NoMemory roomy = absurd (roomy refl)

pub recheck_has_text : (result : Result Rechecked RecheckStop) → recheck_status result ≢ 9 → HasText (recheck_text result)
recheck_has_text (Ok r) roomy = (_, refl)
recheck_has_text (Err (recheck_stop.First stop)) roomy = first_has_text stop roomy
recheck_has_text (Err (recheck_stop.Certificate stop)) roomy =
    stopped_has_text certificate_status certificate_line (certificate_stopped stop) roomy
recheck_has_text (Err recheck_stop.NoMemory) roomy = absurd (roomy refl)

-- ---- a verdict that is told

reported_told : (told : Option FileMap) (case_file file : List ℕ) (r : Rechecked) (IsTaken : List ℕ → Type 0)
    → IsReported told case_file file r → IsTaken r.report.items → IsTold told case_file file (status_of r.claim) IsTaken
reported_told told case_file file r IsTaken is taken = record {
  subject = is.subject;
  certificate = is.certificate;
  ending = is.ending;
  holds = is.holds;
  of_status = sym (ap status_of is.claim);
  taken = subst IsTaken is.report taken;
}

pub recheck_told : (told : Option FileMap) (case_file file : List ℕ) (result : Result Rechecked RecheckStop) (text : List ℕ)
    (IsTaken : List ℕ → Type 0) → SaysRecheck told case_file file result → recheck_status result < 3 → recheck_text result ≡ Some text
    → IsTaken text → IsTold told case_file file (recheck_status result) IsTaken
recheck_told told case_file file (Ok r) text IsTaken says low is taken =
    reported_told told case_file file r IsTaken says (subst IsTaken (sym (same_Some r.report.items text is)) taken)
recheck_told told case_file file (Err stop) text IsTaken says low is taken = absurd (stop_high stop low)

-- ---- what a recheck came to

pub data RecheckCame (files : FileMap) (case_file file : List ℕ) (status : ℕ) (text : Option (List ℕ)) : Type 0 where
  had_right : (s : SubjectData) (c : Certificate) → HoldsRight (Some files) case_file file s c → status ≡ status_of c.claim
      → text ≡ Some (verdict_text s c (ending_in (case_in s) c.trace)) → RecheckCame files case_file file status text
  refuses : (r : RecheckRefusal) → RefusesRecheck (Some files) case_file file r → status ≡ recheck_refusal_status r
      → text ≡ Some (recheck_refusal_line r) → RecheckCame files case_file file status text

module _ (files : FileMap) (case_file file : List ℕ) where
  right_of : (s : SubjectData) (c : Certificate) (ending : Option Ending) → HoldsVerdict (Some files) case_file file s c ending
      → HoldsRight (Some files) case_file file s c
  right_of s c ending h = record {
    reads = h.reads;
    few = h.few;
    bytes = h.bytes;
    held = h.held;
    is_text = h.is.is_text;
    is_right = h.is.is_right;
  }

  pub recheck_came : (result : Result Rechecked RecheckStop) → SaysRecheck (Some files) case_file file result
      → recheck_status result ≢ 6 → recheck_status result ≢ 9
      → RecheckCame files case_file file (recheck_status result) (recheck_text result)
  recheck_came (Ok r) is readable roomy =
      let s = is.subject in
      let c = is.certificate in
      had_right s c (right_of s c is.ending is.holds) (ap status_of is.claim)
      (ap (λ (t : List ℕ). Some t) is.report ∙ ap (λ (e : Option Ending). Some (verdict_text s c e)) is.holds.is.ending)
  recheck_came (Err (recheck_stop.First stop)) is readable roomy =
      let so = first_as files case_file stop is readable roomy in refuses (as_first so.refusal) so.is so.of_status so.of_text
  recheck_came (Err (recheck_stop.Certificate stop)) is readable roomy =
      let so = stopped_as CertificateRefusal certificate_status certificate_line (λ name. name ≡ file)
      (RefusesCertificate (Some files) file is.0) (certificate_stopped stop) is.2 readable roomy in
      refuses (by_certificate so.refusal) (is.0, is.1, so.is) so.of_status so.of_text
  recheck_came (Err recheck_stop.NoMemory) is readable roomy = absurd (roomy refl)

  -- ---- one thing

  module _ (law : FilesDecideOneRecheck files case_file file) where
    pub one_came : (a b : ℕ) (x y : Option (List ℕ)) → RecheckCame files case_file file a x → RecheckCame files case_file file b y
        → (a ≡ b) × (x ≡ y)
    one_came a b x y (had_right s c h e u) (had_right t d k f v) =
        let same = law.one_right s t c d h k in (
          e ∙ ap (λ (z : Certificate). status_of z.claim) same.1 ∙ sym f,
          u ∙ ap (λ (z : SubjectData). Some (verdict_text z c (ending_in (case_in z) c.trace))) same.0
              ∙ ap (λ (z : Certificate). Some (verdict_text t z (ending_in (case_in t) z.trace))) same.1 ∙ sym v,
        )
    one_came a b x y (had_right s c h e u) (refuses q k f v) = absurd (law.apart s c q h k)
    one_came a b x y (refuses r h e u) (had_right t d k f v) = absurd (law.apart t d r k h)
    one_came a b x y (refuses r h e u) (refuses q k f v) =
        let same = law.one_refusal r q h k in
        (e ∙ ap recheck_refusal_status same ∙ sym f, u ∙ ap (λ (z : RecheckRefusal). Some (recheck_refusal_line z)) same ∙ sym v)

    module _ (status : ℕ) (text : List ℕ) (IsTaken : List ℕ → Type 0) (taken : IsTaken text) where
      abbrev Came : Type 0
      Came = RecheckCame files case_file file status (Some text)

      as_came : Came → (n : ℕ) (line : List ℕ) → RecheckCame files case_file file n (Some line) → (status ≡ n) × IsTaken line
      as_came came n line other =
          let same = one_came status n (Some text) (Some line) came other in (same.0, subst IsTaken (same_Some text line same.1) taken)

      -- ---- verdicts

      ends_of : Came → (n : ℕ) → n < 3 → status ≡ n → EndsWith files case_file file n
      ends_of (had_right s c h e u) n low is = record { subject = s; certificate = c; holds = h; of_status = sym e ∙ is }
      ends_of (refuses r h e u) n low is = absurd (refusal_high r n (sym e ∙ is) low)

      of_right : Came → (s : SubjectData) (c : Certificate) → HoldsRight (Some files) case_file file s c
          → (status ≡ status_of c.claim) × IsTaken (verdict_text s c (ending_in (case_in s) c.trace))
      of_right came s c h = as_came came (status_of c.claim) (verdict_text s c (ending_in (case_in s) c.trace)) (had_right s c h refl refl)

      status_ends : Came → (n : ℕ) → EndsWith files case_file file n → status ≡ n
      status_ends came n h = (of_right came h.subject h.certificate h.holds).0 ∙ h.of_status

      -- ---- refusals

      of_refusal : Came → (r : RecheckRefusal) → RefusesRecheck (Some files) case_file file r
          → (status ≡ recheck_refusal_status r) × IsTaken (recheck_refusal_line r)
      of_refusal came r h = as_came came (recheck_refusal_status r) (recheck_refusal_line r) (refuses r h refl refl)

      refused_of : Came → (n : ℕ) → 3 ≤ n → status ≡ n → IsRefusedWith files case_file file n
      refused_of (had_right s c h e u) n high is = absurd (claim_low c.claim status n e high is)
      refused_of (refuses r h e u) n high is = record { refusal = r; refuses = h; of_status = sym e ∙ is }

      status_refused : Came → (n : ℕ) → IsRefusedWith files case_file file n → status ≡ n
      status_refused came n h = (of_refusal came h.refusal h.refuses).0 ∙ h.of_status

      by_fault : (r : RecheckRefusal) → RefusesRecheck (Some files) case_file file r → recheck_refusal_status r ≡ 8
          → HasFault files case_file file
      by_fault (as_first r) h is =
          first_refusal_statuses (λ n. n ≡ 8 → HasFault files case_file file) (λ e. absurd (omega (arith, e))) (λ e. absurd (omega (arith, e))) r is
      by_fault (by_certificate (faulty line kind)) h e = (line, kind, h)
      by_fault (by_certificate too_many_edges) h e = absurd (omega (arith, e))
      by_fault (by_certificate too_many_gates) h e = absurd (omega (arith, e))

      fault_of : Came → status ≡ 8 → HasFault files case_file file
      fault_of (had_right s c h e u) is = absurd (claim_low c.claim status 8 e (omega arith) is)
      fault_of (refuses r h e u) is = by_fault r h (sym e ∙ is)

      status_fault : Came → HasFault files case_file file → status ≡ 8
      status_fault came h = (of_refusal came (by_certificate (faulty h.0 h.1)) h.2).0

      one_comes : Came → OneComes files case_file file status
      one_comes (had_right s c h e u) =
          record { comes = inl (record { subject = s; certificate = c; holds = h; of_status = sym e }); one = law }
      one_comes (refuses r h e u) = record { comes = inr (record { refusal = r; refuses = h; of_status = sym e }); one = law }

      pub rechecks_exactly : Came → RechecksExactly files case_file file status IsTaken
      rechecks_exactly came = record {
        one = one_comes came;
        holds = (ends_of came 0 (omega arith), status_ends came 0);
        fails = (ends_of came 1 (omega arith), status_ends came 1);
        undecided = (ends_of came 2 (omega arith), status_ends came 2);
        source = (refused_of came 3 (omega arith), status_refused came 3);
        case = (refused_of came 4 (omega arith), status_refused came 4);
        certificate = (fault_of came, status_fault came);
        report = λ s c h. (of_right came s c h).1;
        refusal_told = λ r h. (of_refusal came r h).1;
      }
