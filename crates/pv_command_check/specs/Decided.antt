-- What the files hold decides of a check: whether a verdict is had, and each refusal. Which verdict it is, of several that are right, which
-- trace and which log, hangs on the solver.
use Rattle.std.specs.Prelude.{◌≡◌, ◌≢◌, ◌⊎◌, ◌↔◌, ℕ, List, Option, Some}
use Rattle.pv_edge.specs.Files.{FileMap}
use Rattle.pv_claims.specs.declared.trace.Ending.{Ending}
use Rattle.pv_cert.specs.declared.certificate.Certificate.{Certificate}
use Rattle.pv_report.specs.Reports.{status_of}
use Rattle.pv_command_verdict.specs.Handed.{SubjectData}
use Rattle.pv_command_verdict.specs.Verdicts.{verdict_text}
use Rattle.pv_command_check.specs.Refusals.{ReadsChecked, CheckRefusal, check_refusal_status, check_refusal_line, check_refusal_keeps, RefusesCheck}
use Rattle.pv_command_check.specs.Checks.{ComesTo}
use Rattle.pv_command_check.specs.Files.{Writes}

-- a verdict is had
abbrev pub HasVerdict : ℕ → Type 0
HasVerdict status = (status ≡ 0) ⊎ ((status ≡ 1) ⊎ (status ≡ 2))

-- it is refused with this status
pub record IsRefusedWith (files : FileMap) (case_file : List ℕ) (status : ℕ) : Type 0 where
  pub refusal : CheckRefusal
  pub refuses : RefusesCheck (Some files) case_file refusal
  pub of_status : check_refusal_status refusal ≡ status

-- This is the verdict that was had: its status, the text that was taken, what is kept, and what stands in the file that the case names for a
-- certificate, if it names one, are its own. What is kept is said of some bytes, or of none where it is to be as it was.
pub record IsHad (told after : Option FileMap) (case_file : List ℕ) (status : ℕ) (IsTaken : List ℕ → Type 0) (IsKept : Option (List ℕ) → Type 0)
    : Type 0 where
  pub subject : SubjectData
  pub bytes : List ℕ
  pub certificate : Certificate
  pub ending : Option Ending
  pub comes : ComesTo told case_file subject bytes certificate ending
  pub of_status : status_of certificate.claim ≡ status
  pub taken : IsTaken (verdict_text subject certificate ending)
  pub kept : IsKept (Some bytes)
  pub written : Writes subject.given.case.certificate bytes told after

-- what a law says of what files hold for a check: that is one thing that it works on at most, or one refusal at most, and not both
pub record FilesDecideOneCheck (files : FileMap) (file : List ℕ) : Type 0 where
  pub one_subject : (s t : SubjectData) → ReadsChecked (Some files) file s → ReadsChecked (Some files) file t → s ≡ t
  pub one_refusal : (r q : CheckRefusal) → RefusesCheck (Some files) file r → RefusesCheck (Some files) file q → r ≡ q
  pub apart : (s : SubjectData) (r : CheckRefusal) → ReadsChecked (Some files) file s → RefusesCheck (Some files) file r → ⊥

-- a verdict is had on what they hold
pub record HasOne (files : FileMap) (case_file : List ℕ) (status : ℕ) : Type 0 where
  pub subject : SubjectData
  pub reads : ReadsChecked (Some files) case_file subject
  pub verdict : HasVerdict status

-- exactly one comes: a verdict, on the one thing that they hold, or their one refusal, with its status
pub record OneComes (files : FileMap) (case_file : List ℕ) (status : ℕ) : Type 0 where
  pub comes : HasOne files case_file status ⊎ IsRefusedWith files case_file status
  pub one : FilesDecideOneCheck files case_file

-- what the files hold decides a check's status so far, where this is none of 6, 7 and 9, with the text that is taken, what is kept, and what
-- the files hold behind it
pub record ChecksExactly (files : FileMap) (after : Option FileMap) (case_file : List ℕ) (status : ℕ) (IsTaken : List ℕ → Type 0)
    (IsKept : Option (List ℕ) → Type 0) : Type 0 where
  pub one : OneComes files case_file status
  -- complete: where they hold what a check works on, and neither limit of sizes is passed, there is a verdict
  pub decided : HasVerdict status ↔ ((s : SubjectData) × ReadsChecked (Some files) case_file s)
  pub verdict : HasVerdict status → IsHad (Some files) after case_file status IsTaken IsKept
  -- a source is refused, there are too many cells, edges or gates
  pub source : (status ≡ 3) ↔ IsRefusedWith files case_file 3
  pub case : (status ≡ 4) ↔ IsRefusedWith files case_file 4
  -- it reads no trace and no certificate
  pub no_text : status ≢ 8
  pub refusal_told : (refusal : CheckRefusal) → RefusesCheck (Some files) case_file refusal → IsTaken (check_refusal_line refusal)
  pub refusal_kept : (refusal : CheckRefusal) → RefusesCheck (Some files) case_file refusal → IsKept (check_refusal_keeps refusal)
  pub refusal_writes : (refusal : CheckRefusal) → RefusesCheck (Some files) case_file refusal → after ≡ Some files
