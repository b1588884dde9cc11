-- The trace of a source, by the ranges of its cells' types.
use Rattle.std.proofs.Common.{◌≡◌, ℕ, ℤ, List, [], ◌∷◌, map, Option, Some, None, Result, Ok, Err, refl, sym, ap, subst, ◌∙◌, arith}
use Rattle.std.specs.List.{AllByRecursion}
use Rattle.std.specs.Prelude.{IfErr}
use Rattle.std.specs.Result.{IsErrAnd}
use Rattle.std.proofs.lemmas.Int.{ints}
use Rattle.std.proofs.lemmas.Option.{same_Some}
use Rattle.pv_word.specs.declared.types.Ty.{Ty}
use Rattle.pv_word.specs.declared.types.Ty.TheVariants.{Bool, Byte, Word, Dword, Int, Dint, Time}
use Rattle.pv_place.specs.declared.role.Role.{Role}
use Rattle.pv_place.specs.declared.role.Role.TheVariants.{Input, Param, Kept, Brief}
use Rattle.pv_place.specs.Ranges.{Range, range_of, AreWithin}
use Rattle.pv_edge.specs.Files.{FileMap}
use Rattle.pv_mean.specs.declared.cell.Cell.{Cell}
use Rattle.pv_mean.specs.Sources.{Source}
use Rattle.pv_mean.specs.Frames.{free_cells, input_cells, param_ranges, input_ranges}
use Rattle.pv_claims.specs.declared.trace.Trace.{Trace}
use Rattle.pv_claims.specs.declared.fault.CertFault.{CertFault}
use Rattle.pv_claims.specs.declared.fault.CertFault.TheVariants as cert_fault
use Rattle.pv_trace.specs.TraceText.{Bounds, range_between, AreBetween, IsRange, IsTextOf, FailsAt}
use Rattle.pv_trace.proofs.ForCallers.{one-trace, one-fault}
use Rattle.pv_command_load.specs.Held.{Holds}
use Rattle.pv_command_replay.specs.Traces.{bounds_of, param_bounds, input_bounds, HoldsTrace, HoldsNoTrace, StopsTrace}
use Rattle.pv_command_replay.specs.Passing.{type_bounds, faulty_trace}
use Rattle.pv_command_replay.specs.Judged.{HasValuesOf}
use Rattle.pv_command_replay.specs.Correct.{FilesDecideOneTrace}

-- ---- ranges of types

type_range : (ty : Ty) → IsRange (bounds_of (range_of ty))
type_range Bool = record { from = omega (arith, ints); least = omega (arith, ints); to = omega (arith, ints) }
type_range Byte = record { from = omega (arith, ints); least = omega (arith, ints); to = omega (arith, ints) }
type_range Word = record { from = omega (arith, ints); least = omega (arith, ints); to = omega (arith, ints) }
type_range Dword = record { from = omega (arith, ints); least = omega (arith, ints); to = omega (arith, ints) }
type_range Int = record { from = omega (arith, ints); least = omega (arith, ints); to = omega (arith, ints) }
type_range Dint = record { from = omega (arith, ints); least = omega (arith, ints); to = omega (arith, ints) }
type_range Time = record { from = omega (arith, ints); least = omega (arith, ints); to = omega (arith, ints) }

pub type_ranges : (cells : List Cell) → AllByRecursion IsRange (map type_bounds cells)
type_ranges [] = tt
type_ranges (c ∷ cs) = (type_range c.ty, type_ranges cs)

-- ---- those of parameters and inputs

free_step : (path : List ℕ) (ty : Ty) (start : ℤ) (role : Role) (bound : Option ℤ) (cs : List Cell)
    → map type_bounds (free_cells cs) ≡ map bounds_of (param_ranges cs)
    → map type_bounds (free_cells (record { path = path; ty = ty; start = start; role = role; bound = bound } ∷ cs))
    ≡ map bounds_of (param_ranges (record { path = path; ty = ty; start = start; role = role; bound = bound } ∷ cs))
free_step path ty start Input bound cs h = h
free_step path ty start Param None cs h = ap (λ bs. bounds_of (range_of ty) ∷ bs) h
free_step path ty start Param (Some v) cs h = h
free_step path ty start Kept bound cs h = h
free_step path ty start Brief bound cs h = h

free_bounds : (cells : List Cell) → map type_bounds (free_cells cells) ≡ map bounds_of (param_ranges cells)
free_bounds [] = refl
free_bounds (c ∷ cs) = free_step c.path c.ty c.start c.role c.bound cs (free_bounds cs)

input_step : (path : List ℕ) (ty : Ty) (start : ℤ) (role : Role) (bound : Option ℤ) (cs : List Cell)
    → map type_bounds (input_cells cs) ≡ map bounds_of (input_ranges cs)
    → map type_bounds (input_cells (record { path = path; ty = ty; start = start; role = role; bound = bound } ∷ cs))
    ≡ map bounds_of (input_ranges (record { path = path; ty = ty; start = start; role = role; bound = bound } ∷ cs))
input_step path ty start Input bound cs h = ap (λ bs. bounds_of (range_of ty) ∷ bs) h
input_step path ty start Param bound cs h = h
input_step path ty start Kept bound cs h = h
input_step path ty start Brief bound cs h = h

inputs_bounds : (cells : List Cell) → map type_bounds (input_cells cells) ≡ map bounds_of (input_ranges cells)
inputs_bounds [] = refl
inputs_bounds (c ∷ cs) = input_step c.path c.ty c.start c.role c.bound cs (inputs_bounds cs)

params_are : (source : Source) (cells : List Cell) (params : List Bounds) → source.cells ≡ cells
    → params ≡ map type_bounds (free_cells cells) → params ≡ param_bounds source
params_are source cells params same is =
    is ∙ free_bounds cells ∙ ap (λ cs. map bounds_of (param_ranges cs)) (sym same)

inputs_are : (source : Source) (cells : List Cell) (inputs : List Bounds) → source.cells ≡ cells
    → inputs ≡ map type_bounds (input_cells cells) → inputs ≡ input_bounds source
inputs_are source cells inputs same is =
    is ∙ inputs_bounds cells ∙ ap (λ cs. map bounds_of (input_ranges cs)) (sym same)

-- ---- what is read

module _ (told : Option FileMap) (file : List ℕ) (source : Source) (cells : List Cell) (params inputs : List Bounds) (bytes text : List ℕ) where
  pub holds_trace : (t : Trace) → source.cells ≡ cells → params ≡ map type_bounds (free_cells cells)
      → inputs ≡ map type_bounds (input_cells cells) → Holds told file bytes → text ≡ bytes → IsTextOf params inputs text t
      → HoldsTrace told file source t
  holds_trace t same is also held e of =
      let P : List Bounds → Type 0 = λ ps. IsTextOf ps inputs text t in
      let Q : List Bounds → Type 0 = λ qs. IsTextOf (param_bounds source) qs text t in
      let R : List ℕ → Type 0 = λ x. IsTextOf (param_bounds source) (input_bounds source) x t in
      record {
        bytes = bytes;
        held = held;
        are = subst R e (subst Q (inputs_are source cells inputs same also) (subst P (params_are source cells params same is) of));
      }

  holds_none : (line : ℕ) → source.cells ≡ cells → params ≡ map type_bounds (free_cells cells)
      → inputs ≡ map type_bounds (input_cells cells) → Holds told file bytes → text ≡ bytes → FailsAt params inputs text line
      → HoldsNoTrace told file source line
  holds_none line same is also held e of =
      let P : List Bounds → Type 0 = λ ps. FailsAt ps inputs text line in
      let Q : List Bounds → Type 0 = λ qs. FailsAt (param_bounds source) qs text line in
      let R : List ℕ → Type 0 = λ x. FailsAt (param_bounds source) (input_bounds source) x line in
      record {
        bytes = bytes;
        held = held;
        are = subst R e (subst Q (inputs_are source cells inputs same also) (subst P (params_are source cells params same is) of));
      }

  -- a fault that is passed on
  pub stops_at : (fault : CertFault) → source.cells ≡ cells → params ≡ map type_bounds (free_cells cells)
      → inputs ≡ map type_bounds (input_cells cells) → Holds told file bytes → text ≡ bytes
      → ((line : ℕ) → fault ≡ cert_fault.NotACertificate line → FailsAt params inputs text line)
      → StopsTrace told file source (faulty_trace fault)
  stops_at (cert_fault.NotACertificate line) same is also held e stuck = holds_none line same is also held e (stuck line refl)
  stops_at cert_fault.NoMemory same is also held e stuck = tt

-- an error that is passed on
pub err_passed : {T E : Type 0} (P : E → Type 0) (r : Result T E) (stop : E) → IsErrAnd r (λ e. e ≡ stop) → P stop → IfErr r P
err_passed P (Ok x) stop is h = tt
err_passed P (Err e) stop is h = subst P (sym is) h

-- ---- the values of a trace lie in their ranges

range_again : (ranges : List Range) → map range_between (map bounds_of ranges) ≡ ranges
range_again [] = refl
range_again (r ∷ rs) = ap (λ x. r ∷ x) (range_again rs)

within_again : (ranges : List Range) (values : List ℤ) → AreBetween (map bounds_of ranges) values → AreWithin ranges values
within_again ranges values are = subst (λ rs. AreWithin rs values) (range_again ranges) are

each_within : (ranges : List Range) (scans : List (List ℤ)) → AllByRecursion (AreBetween (map bounds_of ranges)) scans
    → AllByRecursion (AreWithin ranges) scans
each_within ranges [] are = tt
each_within ranges (s ∷ ss) are = (within_again ranges s are.0, each_within ranges ss are.1)

pub has_values : (told : Option FileMap) (file : List ℕ) (source : Source) (t : Trace) → HoldsTrace told file source t
    → HasValuesOf source t
has_values told file source t held = record {
  params = within_again (param_ranges source.cells) t.params held.are.valid.params_within;
  inputs = each_within (input_ranges source.cells) t.inputs held.are.valid.inputs_within;
}

-- ---- a file holds one trace or has one line at fault

param_ranges_are : (source : Source) → AllByRecursion IsRange (param_bounds source)
param_ranges_are source =
    subst (AllByRecursion IsRange) (free_bounds source.cells) (type_ranges (free_cells source.cells))

input_ranges_are : (source : Source) → AllByRecursion IsRange (input_bounds source)
input_ranges_are source =
    subst (AllByRecursion IsRange) (inputs_bounds source.cells) (type_ranges (input_cells source.cells))

same_bytes : (files : FileMap) (file x y : List ℕ) → Holds (Some files) file x → Holds (Some files) file y → x ≡ y
same_bytes files file x y a b = same_Some x y (sym a ∙ b)

pub one_trace_held : (files : FileMap) (file : List ℕ) (source : Source) → FilesDecideOneTrace files file source
one_trace_held files file source = record {
  one_trace = λ t u a b.
      (let P : List ℕ → Type 0 = λ x. IsTextOf (param_bounds source) (input_bounds source) x t in
      one-trace (param_bounds source) (input_bounds source) b.bytes t u (param_ranges_are source) (input_ranges_are source)
      (subst P (same_bytes files file a.bytes b.bytes a.held b.held) a.are) b.are);
  one_line = λ n m a b.
      (let P : List ℕ → Type 0 = λ x. FailsAt (param_bounds source) (input_bounds source) x n in
      one-fault (param_bounds source) (input_bounds source) b.bytes n m
      (subst P (same_bytes files file a.bytes b.bytes a.held b.held) a.are) b.are);
  apart = λ t n a b.
      (let P : List ℕ → Type 0 = λ x. IsTextOf (param_bounds source) (input_bounds source) x t in
      b.are.none t (subst P (same_bytes files file a.bytes b.bytes a.held b.held) a.are));
}
