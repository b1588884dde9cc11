-- Which verdicts a report can be of: they have what the lines of their claim print, and nothing besides. A report determines such a
-- verdict. Which places can be printed: those that lie in one of the files.
use Rattle.std.specs.Prelude.{◌≡◌, ℕ, ◌+◌, ◌<◌, ◌^◌, ℤ, List, [], ◌∷◌, length, Bool, Option, Some, None, slice_get}
use Rattle.std.specs.List.{AllByRecursion}
use Rattle.std.specs.Int.Signed.{mag}
use Rattle.pv_place.specs.declared.place.Place.{Place}
use Rattle.pv_mean.specs.declared.cell.Cell.{Cell}
use Rattle.pv_mean.specs.Frames.{stored_cells, free_cells, input_cells}
use Rattle.pv_case.specs.declared.case.PatternKind.{PatternKind}
use Rattle.pv_case.specs.declared.case.PatternKind.TheVariants as kind
use Rattle.pv_case.specs.declared.case.Limits.{Limits}
use Rattle.pv_claims.specs.declared.claim.Claim.{Claim}
use Rattle.pv_claims.specs.declared.claim.Claim.TheVariants.{Satisfied, Unreachable, Violated, Trapped, Reached, Depth, Loop, Lemmas, Region}
use Rattle.pv_cert.specs.declared.proof.Query.{Query}
use Rattle.pv_cert.specs.declared.proof.Query.TheVariants.{Base, Step}
use Rattle.pv_claims.specs.declared.trace.Ending.{Ending}
use Rattle.pv_claims.specs.declared.trace.Ending.TheVariants as ending
use Rattle.pv_claims.specs.declared.trace.Trace.{Trace}
use Rattle.pv_report.specs.declared.verdict.Verdict.{Verdict}
use Rattle.pv_report.specs.Places.{Lines}

-- ---- files and places

abbrev pub Rise : List ℕ → Type 0
Rise [] = Unit {0}
Rise (start ∷ more) = AllByRecursion (λ next. start < next) more × Rise more

-- no line feed in the name, and lines that rise
pub record IsFile (lines : Lines) : Type 0 where
  pub name : AllByRecursion (λ byte. byte ≡ 10 → ⊥) lines.file
  pub rise : Rise lines.starts
  pub count : length lines.starts < 2 ^ 32

-- such files, each with a name of its own
pub record AreFiles (files : List Lines) : Type 0 where
  pub each : AllByRecursion IsFile files
  pub own : (i j : ℕ) (a b : Lines) → slice_get files i ≡ Some a → slice_get files j ≡ Some b → a.file ≡ b.file → i ≡ j

-- the place lies in one of them
pub record LiesIn (files : List Lines) (place : Place) : Type 0 where
  pub lines : Lines
  pub there : slice_get files place.file ≡ Some lines
  pub near : place.offset < 2 ^ 32

-- so does the place of an ending, if it has one
abbrev pub EndsIn : List Lines → Ending → Type 0
EndsIn files ending.Pattern = Unit {0}
EndsIn files (ending.Trap kind place) = LiesIn files place
EndsIn files (ending.Over place) = LiesIn files place

-- ---- values

-- as many as cells, each with at most 63 bits
abbrev pub AreValuesOf : List Cell → List ℤ → Type 0
AreValuesOf cells values = (length values ≡ length cells) × AllByRecursion (λ v. mag v < 2 ^ 63) values

-- a run from the start with so many scans
pub record IsRun (cells : List Cell) (scans : ℕ) (t : Trace) : Type 0 where
  pub image : t.image ≡ None
  pub prev : t.prev ≡ None
  pub params : AreValuesOf (free_cells cells) t.params
  pub inputs : AllByRecursion (AreValuesOf (input_cells cells)) t.inputs
  pub count : length t.inputs ≡ scans

-- the mark that between alone has
abbrev pub IsMark : PatternKind → Option Bool → Type 0
IsMark kind.Invariant prev = prev ≡ None
IsMark kind.Forbidden prev = prev ≡ None
IsMark kind.Implication prev = prev ≡ None
IsMark kind.Within prev = prev ≡ None
IsMark kind.Between prev = Unit {0}
IsMark kind.Reach prev = prev ≡ None

-- a stretch from an image with so many scans
pub record IsStretch (kind : PatternKind) (cells : List Cell) (scans : ℕ) (t : Trace) : Type 0 where
  pub image : List ℤ
  pub is_image : t.image ≡ Some image
  pub values : AreValuesOf (stored_cells cells) image
  pub prev : IsMark kind t.prev
  pub params : t.params ≡ []
  pub inputs : AllByRecursion (AreValuesOf (input_cells cells)) t.inputs
  pub count : length t.inputs ≡ scans

-- ---- verdicts

abbrev pub IsSome : {X : Type 0} → (X → Type 0) → Option X → Type 0
IsSome P None = ⊥
IsSome P (Some x) = P x

abbrev pub IsTrap : List Lines → Ending → Type 0
IsTrap files ending.Pattern = ⊥
IsTrap files (ending.Trap kind place) = LiesIn files place
IsTrap files (ending.Over place) = ⊥

abbrev pub IsOver : List Lines → Ending → Type 0
IsOver files ending.Pattern = ⊥
IsOver files (ending.Trap kind place) = ⊥
IsOver files (ending.Over place) = LiesIn files place

abbrev pub IsAsked : Query → Type 0
IsAsked (Base k) = k < 2 ^ 64
IsAsked (Step k) = k < 2 ^ 64

-- the trace, the ending and the query that are printed, and none else
pub record Has (Traces : Option Trace → Type 0) (Endings : Option Ending → Type 0) (Queries : Option Query → Type 0) (v : Verdict)
    : Type 0 where
  pub trace : Traces v.trace
  pub ending : Endings v.ending
  pub query : Queries v.query

abbrev pub No : {X : Type 0} → Option X → Type 0
No x = x ≡ None

-- by the claim, whose number is the case's limit where the report prints that
abbrev pub Shows : Limits → PatternKind → List Cell → List Lines → Claim → Verdict → Type 0
Shows limits kind cells files (Satisfied k) v = (k < 2 ^ 64) × Has No No No v
Shows limits kind cells files (Unreachable k) v = (k < 2 ^ 64) × Has No No No v
Shows limits kind cells files (Violated n) v = (n < 2 ^ 64) × Has (IsSome (IsRun cells n)) No No v
Shows limits kind cells files (Trapped n) v =
    (n < 2 ^ 64) × Has (IsSome (IsRun cells n)) (IsSome (IsTrap files)) No v
Shows limits kind cells files (Reached n) v = (n < 2 ^ 64) × Has (IsSome (IsRun cells n)) No No v
Shows limits kind cells files (Depth k) v = (k ≡ limits.depth)
    × Has (IsSome (IsStretch kind cells (k + 1))) (IsSome (EndsIn files)) No v
Shows limits kind cells files (Loop n) v =
    (n < 2 ^ 64) × Has (IsSome (IsRun cells n)) (IsSome (IsOver files)) No v
Shows limits kind cells files (Lemmas b) v = (b ≡ limits.lemmas) × Has No No (IsSome IsAsked) v
Shows limits kind cells files (Region x) v = (x < 2 ^ 64) × Has No No (IsSome IsAsked) v

abbrev pub IsVerdictOf : Limits → PatternKind → List Cell → List Lines → Verdict → Type 0
IsVerdictOf limits kind cells files v = Shows limits kind cells files v.claim v
