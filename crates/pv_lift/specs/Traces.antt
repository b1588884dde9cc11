-- States of a source's machine as images of its cells, and traces of them. A state of a pattern that looks back has two bits more behind
-- the image: whether a scan was done before, and the mark that it left.
use Rattle.std.specs.Prelude.{◌≡◌, ℕ, ◌+◌, ℤ, Bool, true, false, List, [], ◌∷◌, ◌++◌, take, drop, Option, Some, None}
use Rattle.std.specs.List.{AllByRecursion}
use Rattle.pv_place.specs.Roles.{is_stored}
use Rattle.pv_place.specs.Ranges.{AreWithin}
use Rattle.pv_machine.specs.Machines.{Machine, Values}
use Rattle.pv_machine.specs.Queries.{FailsAtLast}
use Rattle.pv_mean.specs.declared.cell.Cell.{Cell}
use Rattle.pv_mean.specs.Frames.{Image, first, others, is_free, image_len, image_ranges, input_ranges, param_ranges}
use Rattle.pv_pattern.specs.Sources.{bits_by, mark_in}
use Rattle.pv_cert.specs.declared.proof.Query.{Query}
use Rattle.pv_cert.specs.declared.proof.Query.TheVariants.{Base, Step}
use Rattle.pv_claims.specs.declared.trace.Trace.{Trace}
use Rattle.pv_claims.specs.TracePart.{IsRun, IsStretch}
use Rattle.pv_queries.specs.declared.numbers.NumberRun.{NumberRun}

-- ---- states

-- the state that an image and a mark are, where the pattern looks back or doesn't
abbrev pub state_with : Bool → Image → Option Bool → Values
state_with back image prev = image ++ bits_by back prev

-- what is left of an image's values behind a cell that has one there, or none
abbrev pub behind : Bool → List ℤ → List ℤ
behind true values = others values
behind false values = values

abbrev pub and_first : Bool → ℤ → List ℤ → List ℤ
and_first true value values = value ∷ values
and_first false value values = values

-- the values of the parameters that no binding gives one, of those of an image
abbrev pub free_in : List Cell → Image → List ℤ
free_in [] image = []
free_in (c ∷ cs) image = and_first (is_free c.role c.bound) (first image) (free_in cs (behind (is_stored c.role) image))

-- the image and the mark of a state
abbrev pub image_of : List Cell → Values → Image
image_of cells state = take (image_len cells) state

abbrev pub mark_of : List Cell → Values → Option Bool
mark_of cells state = mark_in (drop (image_len cells) state)

-- ---- traces

-- the trace of a run from the start: its first state has the values of the parameters
abbrev pub run_trace : List Cell → NumberRun → Trace
run_trace cells run = record { image = None; prev = None; params = free_in cells run.state; inputs = run.inputs }

-- that of scans from any state
abbrev pub stretch_trace : List Cell → NumberRun → Trace
stretch_trace cells run = record { image = Some (image_of cells run.state); prev = mark_of cells run.state; params = []; inputs = run.inputs }

abbrev pub trace_of : List Cell → Query → NumberRun → Trace
trace_of cells (Base k) run = run_trace cells run
trace_of cells (Step k) run = stretch_trace cells run

-- a mark stands where the pattern looks back alone
abbrev pub MayFollow : Bool → Option Bool → Type 0
MayFollow back None = Unit {0}
MayFollow back (Some mark) = back ≡ true

-- a run of so many scans from the start, by a value in range for each parameter that isn't bound and for each input cell
pub record FitsRun (cells : List Cell) (count : ℕ) (t : Trace) : Type 0 where
  pub form : IsRun count t
  pub params : AreWithin (param_ranges cells) t.params
  pub inputs : AllByRecursion (AreWithin (input_ranges cells)) t.inputs

-- so many scans from an image, by a value in range for each cell that is stored and for each input cell
pub record FitsStretch (cells : List Cell) (back : Bool) (count : ℕ) (t : Trace) (image : Image) : Type 0 where
  pub form : IsStretch count t
  pub is_image : t.image ≡ Some image
  pub values : AreWithin (image_ranges cells) image
  pub mark : MayFollow back t.prev
  pub inputs : AllByRecursion (AreWithin (input_ranges cells)) t.inputs

-- the trace fits the table, and by it the machine meets the query: each scan but the last is done and doesn't fail, and the last fails
abbrev pub Shows : Machine → List Cell → Bool → Query → Trace → Type 0
Shows m cells back (Base k) t = FitsRun cells k t × FailsAtLast m (m.start t.params) t.inputs
Shows m cells back (Step k) t =
    (image : Image) × FitsStretch cells back (k + 1) t image × FailsAtLast m (state_with back image t.prev) t.inputs
