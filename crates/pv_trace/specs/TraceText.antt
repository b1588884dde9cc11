-- The text of a trace over given ranges, and which lines begin one.
use Rattle.std.specs.Prelude.{◌≡◌, ◌≤ℤ◌, ℕ, ◌+◌, ℤ, pos, negsuc, List, [], ◌∷◌, ◌++◌, length, map, codes, ◌⊎◌, Result, Err, None}
use Rattle.std.specs.List.{flat_map, AllByRecursion}
use Rattle.std.specs.Fmt.{signed_decimal}
use Rattle.pv_place.specs.Ranges.{Range, AreWithin}
use Rattle.pv_claims.specs.declared.trace.Trace.{Trace}
use Rattle.pv_claims.specs.declared.fault.CertFault.{CertFault}
use Rattle.pv_claims.specs.declared.fault.CertFault.TheVariants.{NoMemory}
use Rattle.pv_claims.specs.Lines.{text_of_lines, NoFeed}

-- ---- the lines

-- a blank and the value
abbrev pub value_text : ℤ → List ℕ
value_text v = 32 ∷ signed_decimal v

abbrev pub values_text : List ℤ → List ℕ
values_text values = flat_map value_text values

abbrev pub params_line : List ℤ → List ℕ
params_line values = codes "params" ++ values_text values

abbrev pub scan_line : List ℤ → List ℕ
scan_line values = codes "scan" ++ values_text values

-- the lines of a trace that begins at the start
abbrev pub trace_lines : Trace → List (List ℕ)
trace_lines t = codes "PLCVTRACE 1" ∷ params_line t.params ∷ (map scan_line t.inputs ++ codes "end" ∷ [])

-- its one text
abbrev pub trace_text : Trace → List ℕ
trace_text t = text_of_lines (trace_lines t)

-- ---- which traces have one

-- the least and the greatest value of a place
abbrev pub Bounds : Type 0
Bounds = ℤ × ℤ

abbrev pub range_between : Bounds → Range
range_between bounds = record { least = bounds.0; greatest = bounds.1 }

abbrev pub AreBetween : List Bounds → List ℤ → Type 0
AreBetween bounds values = AreWithin (map range_between bounds) values

-- a range of 64 bits, which isn't empty
pub record IsRange (bounds : Bounds) : Type 0 where
  pub from : negsuc 9223372036854775807 ≤ℤ bounds.0
  pub least : bounds.0 ≤ℤ bounds.1
  pub to : bounds.1 ≤ℤ pos 9223372036854775807

-- a run from the start: a value for each unbound parameter, and for each scan one for each input cell
pub record IsTrace (params inputs : List Bounds) (t : Trace) : Type 0 where
  pub image : t.image ≡ None
  pub prev : t.prev ≡ None
  pub params_within : AreBetween params t.params
  pub inputs_within : AllByRecursion (AreBetween inputs) t.inputs

-- the bytes are the text of this trace
pub record IsTextOf (params inputs : List Bounds) (bytes : List ℕ) (t : Trace) : Type 0 where
  pub valid : IsTrace params inputs t
  pub text : bytes ≡ trace_text t

-- ---- where no trace goes on

-- some trace begins with these lines
pub record BeginsOne (params inputs : List Bounds) (front : List (List ℕ)) : Type 0 where
  pub trace : Trace
  pub valid : IsTrace params inputs trace
  pub more : List (List ℕ)
  pub lines : trace_lines trace ≡ front ++ more

-- The bytes are no trace's text, and this line, from 1, is the first with which none begins so: the lines before it begin one, and
-- with the next whole line, if there is one, they don't.
pub record FailsAt (params inputs : List Bounds) (bytes : List ℕ) (line : ℕ) : Type 0 where
  pub before : List (List ℕ)
  pub rest : List ℕ
  pub split : bytes ≡ text_of_lines before ++ rest
  pub whole : AllByRecursion NoFeed before
  pub number : line ≡ length before + 1
  pub begins : BeginsOne params inputs before
  pub stuck : (next after : List ℕ) → NoFeed next → rest ≡ next ++ 10 ∷ after
      → BeginsOne params inputs (before ++ next ∷ []) → ⊥
  pub none : (t : Trace) → IsTextOf params inputs bytes t → ⊥

-- the answer is this one, unless memory ran out
abbrev pub IsUnlessNoMemory : Result Trace CertFault → Result Trace CertFault → Type 0
IsUnlessNoMemory result answer = (result ≡ answer) ⊎ (result ≡ Err NoMemory)
