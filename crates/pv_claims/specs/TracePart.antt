-- The trace part of a certificate: which scans show a claim, and their lines.
use Rattle.std.specs.Prelude.{◌≡◌, ℕ, ◌+◌, ℤ, Bool, true, false, List, [], ◌∷◌, ◌++◌, length, map, codes, Option, Some, None, FitsSigned}
use Rattle.std.specs.Int.{w128}
use Rattle.std.specs.List.{flat_map, AllByRecursion}
use Rattle.std.specs.Fmt.{signed_decimal}
use Rattle.pv_claims.specs.declared.claim.Claim.{Claim}
use Rattle.pv_claims.specs.declared.claim.Claim.TheVariants.{Satisfied, Unreachable, Violated, Trapped, Reached, Depth, Loop, Lemmas, Region}
use Rattle.pv_claims.specs.declared.claim.TraceForm.{TraceForm}
use Rattle.pv_claims.specs.declared.claim.TraceForm.TheVariants.{Nothing, Run, Stretch}
use Rattle.pv_claims.specs.declared.trace.Trace.{Trace}

-- ---- which scans show a claim

-- N scans of a run whose last one is at fault, K + 1 scans of any stretch beyond a depth, and none of what is said of all runs
abbrev pub trace_form : Claim → TraceForm
trace_form (Satisfied k) = Nothing
trace_form (Unreachable k) = Nothing
trace_form (Violated n) = Run n
trace_form (Trapped n) = Run n
trace_form (Reached n) = Run n
trace_form (Depth k) = Stretch (k + 1)
trace_form (Loop n) = Run n
trace_form (Lemmas b) = Nothing
trace_form (Region x) = Nothing

-- so many scans from the start
pub record IsRun (count : ℕ) (t : Trace) : Type 0 where
  pub image : t.image ≡ None
  pub prev : t.prev ≡ None
  pub scans : length t.inputs ≡ count

-- so many scans from an image, without params of their own
pub record IsStretch (count : ℕ) (t : Trace) : Type 0 where
  pub image : (values : List ℤ) × (t.image ≡ Some values)
  pub params : t.params ≡ []
  pub scans : length t.inputs ≡ count

-- the trace has this form
abbrev pub HasForm : TraceForm → Option Trace → Type 0
HasForm Nothing trace = trace ≡ None
HasForm (Run scans) None = ⊥
HasForm (Run scans) (Some t) = IsRun scans t
HasForm (Stretch scans) None = ⊥
HasForm (Stretch scans) (Some t) = IsStretch scans t

-- values of 128 bits
abbrev pub AllFit : List ℤ → Type 0
AllFit values = AllByRecursion (λ v. FitsSigned w128 v) values

-- such an image, or such params where there is none
abbrev pub BeginFits : Option (List ℤ) → List ℤ → Type 0
BeginFits None params = AllFit params
BeginFits (Some image) params = AllFit image

-- a trace of such values
pub record ValuesFit (t : Trace) : Type 0 where
  pub begin : BeginFits t.image t.params
  pub inputs : AllByRecursion AllFit t.inputs

abbrev pub TraceFits : Option Trace → Type 0
TraceFits None = Unit {0}
TraceFits (Some t) = ValuesFit t

-- a trace part that has lines
pub record HasTrace (form : TraceForm) (trace : Option Trace) : Type 0 where
  pub has_form : HasForm form trace
  pub fits : TraceFits trace

-- ---- their lines

-- values, each with a blank before it
abbrev pub values_text : List ℤ → List ℕ
values_text values = flat_map (λ v. codes " " ++ signed_decimal v) values

abbrev pub params_line : List ℤ → List ℕ
params_line values = codes "params" ++ values_text values

abbrev pub image_line : List ℤ → List ℕ
image_line values = codes "image" ++ values_text values

abbrev pub scan_line : List ℤ → List ℕ
scan_line values = codes "scan" ++ values_text values

abbrev pub prev_line : Option Bool → List ℕ
prev_line None = codes "prev none"
prev_line (Some false) = codes "prev 0"
prev_line (Some true) = codes "prev 1"

-- the lines before the scans: those of the params, or those of an image and of what was before it
abbrev pub begin_lines : Option (List ℤ) → Option Bool → List ℤ → List (List ℕ)
begin_lines None prev params = params_line params ∷ []
begin_lines (Some image) prev params = image_line image ∷ prev_line prev ∷ []

-- the lines of the trace part
abbrev pub trace_lines : Option Trace → List (List ℕ)
trace_lines None = []
trace_lines (Some t) = begin_lines t.image t.prev t.params ++ map scan_line t.inputs
