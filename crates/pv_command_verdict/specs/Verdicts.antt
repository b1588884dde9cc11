-- What a verdict is: a certificate that is right for what the files hold, with what it says and how it is reported.
use Rattle.std.specs.Prelude.{◌≡◌, ℕ, List, map, Option}
use Rattle.pv_claims.specs.declared.trace.Ending.{Ending}
use Rattle.pv_cert.specs.declared.certificate.Certificate.{Certificate}
use Rattle.pv_cert.specs.CertificateText.{IsTextOf}
use Rattle.pv_valid.specs.Validity.{ending_in, IsRight, IsValid}
use Rattle.pv_valid.specs.declared.fault.Verdict.{Verdict as Answer}
use Rattle.pv_evidence.specs.Reported.{reported}
use Rattle.pv_report.specs.Places.{Lines, line_starts}
use Rattle.pv_report.specs.Reports.{report_text}
use Rattle.pv_bool_load.specs.Handed.{SourceText, FileText, text_tree, texts_of, SubjectData, source_in}
use Rattle.pv_command_verdict.specs.Cases.{case_in}
use Rattle.pv_command_verdict.specs.Sayings.{SaysOfSource}

-- ---- what is printed

-- a source by where its lines begin
abbrev pub text_lines : FileText → Lines
text_lines text = record { file = text.file; starts = line_starts text.bytes }

-- the sources of what a command works on so
abbrev pub source_lines : List SourceText → List Lines
source_lines sources = map (λ t. text_lines (text_tree t)) sources

-- the report of a certificate whose trace ends so
abbrev pub verdict_text : SubjectData → Certificate → Option Ending → List ℕ
verdict_text s c told = report_text s.given.case.name s.given.case.kind s.given.case.limits (source_in s).cells
    (map text_lines (texts_of s.given)) (reported c told)

-- ---- what is so

-- the bytes are the text of a certificate that is right for what the files hold, its trace ends so, and this is what it says
pub record IsVerdict (s : SubjectData) (bytes : List ℕ) (c : Certificate) (told : Option Ending) : Type 0 where
  pub is_text : IsTextOf bytes c
  pub is_right : IsRight (case_in s) c
  pub ending : told ≡ ending_in (case_in s) c.trace
  pub says : SaysOfSource (source_in s) s.pattern s.given.case.limits c told c.claim

-- the bytes are valid for what the files hold, with this verdict
abbrev pub IsValidFor : SubjectData → List ℕ → Answer → Type 0
IsValidFor s bytes answer = IsValid (case_in s) bytes answer
