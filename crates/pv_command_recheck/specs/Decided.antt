-- What the files hold decides of a recheck: all of it.
use Rattle.std.specs.Prelude.{◌≡◌, ◌⊎◌, ◌↔◌, ℕ, List, Option, Some}
use Rattle.pv_edge.specs.Files.{FileMap}
use Rattle.pv_claims.specs.declared.trace.Ending.{Ending}
use Rattle.pv_cert.specs.declared.certificate.Certificate.{Certificate}
use Rattle.pv_valid.specs.declared.fault.Kind.{Kind}
use Rattle.pv_valid.specs.Validity.{ending_in}
use Rattle.pv_report.specs.Reports.{status_of}
use Rattle.pv_command_verdict.specs.Handed.{SubjectData}
use Rattle.pv_command_verdict.specs.Cases.{case_in}
use Rattle.pv_command_verdict.specs.Verdicts.{verdict_text}
use Rattle.pv_command_recheck.specs.Certificates.{faulty}
use Rattle.pv_command_recheck.specs.Refusals.{RecheckRefusal, by_certificate, recheck_refusal_status, recheck_refusal_line, RefusesRecheck}
use Rattle.pv_command_recheck.specs.Rechecks.{HoldsRight, HoldsVerdict}

-- ---- verdicts

-- this is the verdict that was told: its status and the text that was taken are its own, and what it says is so
pub record IsTold (told : Option FileMap) (case_file file : List ℕ) (status : ℕ) (IsTaken : List ℕ → Type 0) : Type 0 where
  pub subject : SubjectData
  pub certificate : Certificate
  pub ending : Option Ending
  pub holds : HoldsVerdict told case_file file subject certificate ending
  pub of_status : status_of certificate.claim ≡ status
  pub taken : IsTaken (verdict_text subject certificate ending)

-- they hold a right certificate whose claim has this status
pub record EndsWith (files : FileMap) (case_file file : List ℕ) (status : ℕ) : Type 0 where
  pub subject : SubjectData
  pub certificate : Certificate
  pub holds : HoldsRight (Some files) case_file file subject certificate
  pub of_status : status_of certificate.claim ≡ status

-- ---- refusals

-- it is refused with this status
pub record IsRefusedWith (files : FileMap) (case_file file : List ℕ) (status : ℕ) : Type 0 where
  pub refusal : RecheckRefusal
  pub refuses : RefusesRecheck (Some files) case_file file refusal
  pub of_status : recheck_refusal_status refusal ≡ status

-- some line of the certificate is the first at fault
abbrev pub HasFault : FileMap → List ℕ → List ℕ → Type 0
HasFault files case_file file =
    (line : ℕ) × (kind : Kind) × RefusesRecheck (Some files) case_file file (by_certificate (faulty line kind))

-- ---- all of it

-- what a law says of what files hold for a recheck: that is one thing that it works on with one right certificate at most, or one refusal at
-- most, and not both
pub record FilesDecideOneRecheck (files : FileMap) (case_file file : List ℕ) : Type 0 where
  pub one_right : (s t : SubjectData) (c d : Certificate) → HoldsRight (Some files) case_file file s c
      → HoldsRight (Some files) case_file file t d → (s ≡ t) × (c ≡ d)
  pub one_refusal : (r q : RecheckRefusal) → RefusesRecheck (Some files) case_file file r → RefusesRecheck (Some files) case_file file q
      → r ≡ q
  pub apart : (s : SubjectData) (c : Certificate) (r : RecheckRefusal) → HoldsRight (Some files) case_file file s c
      → RefusesRecheck (Some files) case_file file r → ⊥

-- exactly one comes: the verdict of the one right certificate that they hold, or their one refusal, with its status
pub record OneComes (files : FileMap) (case_file file : List ℕ) (status : ℕ) : Type 0 where
  pub comes : EndsWith files case_file file status ⊎ IsRefusedWith files case_file file status
  pub one : FilesDecideOneRecheck files case_file file

-- what the files hold decides a recheck's status, where this is none of 6, 7 and 9, and the text that is taken
pub record RechecksExactly (files : FileMap) (case_file file : List ℕ) (status : ℕ) (IsTaken : List ℕ → Type 0) : Type 0 where
  pub one : OneComes files case_file file status
  -- a requirement that holds or a goal that is reached; one that doesn't or can't be; what is undecided
  pub holds : (status ≡ 0) ↔ EndsWith files case_file file 0
  pub fails : (status ≡ 1) ↔ EndsWith files case_file file 1
  pub undecided : (status ≡ 2) ↔ EndsWith files case_file file 2
  -- a source is refused, or there are too many cells, edges or gates
  pub source : (status ≡ 3) ↔ IsRefusedWith files case_file file 3
  pub case : (status ≡ 4) ↔ IsRefusedWith files case_file file 4
  pub certificate : (status ≡ 8) ↔ HasFault files case_file file
  pub report : (s : SubjectData) (c : Certificate) → HoldsRight (Some files) case_file file s c
      → IsTaken (verdict_text s c (ending_in (case_in s) c.trace))
  pub refusal_told : (refusal : RecheckRefusal) → RefusesRecheck (Some files) case_file file refusal
      → IsTaken (recheck_refusal_line refusal)
