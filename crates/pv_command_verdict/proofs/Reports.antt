-- The report of a verdict on what a command works on, by what is made of it; and that a verdict of the form has no place.
use Rattle.std.proofs.Common.{◌≡◌, ℕ, List, map, Option, Result, Ok, Err, sym, ◌∙◌, ap, subst}
use Rattle.std.specs.Prelude.{IfSome, IfOk, string_bytes}
use Rattle.std.proofs.lemmas.Simd.{map-map}
use Rattle.pv_mean.specs.declared.cell.Cell.{Cell}
use Rattle.pv_case.specs.declared.case.PatternKind.{PatternKind}
use Rattle.pv_case.specs.declared.case.Limits.{Limits}
use Rattle.pv_claims.specs.declared.claim.Claim.{Claim}
use Rattle.pv_claims.specs.declared.claim.Claim.TheVariants.{Satisfied, Unreachable, Violated, Trapped, Reached, Depth, Loop, Lemmas, Region}
use Rattle.pv_claims.specs.declared.trace.Ending.{Ending}
use Rattle.pv_cert.specs.declared.certificate.Certificate.{Certificate}
use Rattle.pv_evidence.specs.Reported.{shown_ending, reported}
use Rattle.pv_report.specs.declared.verdict.Verdict.{Verdict}
use Rattle.pv_report.specs.Places.{Lines}
use Rattle.pv_report.specs.Reports.{report_text}
use Rattle.pv_report.specs.Correct.{EndsIn}
use Rattle.pv_bool_load.specs.Handed.{SourceText, Subject, FileText, text_tree, texts_of, SubjectData, source_in, IsSubject}
use Rattle.pv_command_verdict.specs.Verdicts.{text_lines, verdict_text}
use Rattle.pv_command_verdict.specs.Correct.{IsByPattern}
use Rattle.pv_command_verdict.proofs.Places.{lines_by}

-- a text that is another one
pub text_is : {A E : Type 0} (items : A → List ℕ) (r : Result A E) (a b : List ℕ) → a ≡ b → IfOk r (λ x. items x ≡ a) → IfOk r (λ x. items x ≡ b)
text_is items (Ok x) a b e h = h ∙ e
text_is items (Err x) a b e h = tt

files_are : (sources : List SourceText) (texts : List FileText) → map text_tree sources ≡ texts → map lines_by sources ≡ map text_lines texts
files_are sources texts e = sym (map-map text_lines text_tree sources) ∙ ap (λ (ts : List FileText). map text_lines ts) e

pub report_is : (s : SubjectData) (subject : Subject) (c : Certificate) (told : Option Ending) (cells : List Cell) (files : List Lines) (v : Verdict)
    → IsSubject subject s → cells ≡ subject.table.cells.items → files ≡ map lines_by subject.sources.items → v ≡ reported c told
    → report_text (string_bytes subject.case.name) subject.case.pattern.kind subject.case.limits cells files v ≡ verdict_text s c told
report_is s subject c told cells files v is table listed said =
    let case = subject.case in
    let given = s.given.case in
    ap (λ (n : List ℕ). report_text n case.pattern.kind case.limits cells files v) is.case.name
    ∙ (ap (λ (k : PatternKind). report_text given.name k case.limits cells files v) is.case.kind
    ∙ (ap (λ (l : Limits). report_text given.name given.kind l cells files v) is.case.limits
    ∙ (ap (λ (cs : List Cell). report_text given.name given.kind given.limits cs files v) (table ∙ is.cells)
    ∙ (ap (λ (fs : List Lines). report_text given.name given.kind given.limits (source_in s).cells fs v)
    (listed ∙ files_are subject.sources.items (texts_of s.given) is.texts)
    ∙ ap (λ (w : Verdict). report_text given.name given.kind given.limits (source_in s).cells (map text_lines (texts_of s.given)) w) said))))

-- what is reported of a trace that ends by no trap and no bound has no place
pub no_place : (files : List Lines) (v : Verdict) (c : Certificate) (told : Option Ending) → v ≡ reported c told → IsByPattern told c.claim
    → IfSome v.ending (EndsIn files)
no_place files v c told is by = subst (λ (w : Verdict). IfSome w.ending (EndsIn files)) (sym is) (lead c.claim by)
  where
    lead : (claim : Claim) → IsByPattern told claim → IfSome (shown_ending claim told) (EndsIn files)
    lead (Satisfied k) by = tt
    lead (Unreachable k) by = tt
    lead (Violated n) by = tt
    lead (Trapped n) by = absurd by
    lead (Reached n) by = tt
    lead (Depth k) by = subst (λ (o : Option Ending). IfSome o (EndsIn files)) (sym by) tt
    lead (Loop n) by = absurd by
    lead (Lemmas b) by = tt
    lead (Region x) by = tt
