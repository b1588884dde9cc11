-- The machine of a source and a pattern: its states are the images, a step is a scan, and it fails where the scan fails. The
-- states of a pattern that looks back have two bits more behind the image: whether a scan was done before, and the mark that it
-- left.
use Rattle.std.specs.Prelude.{ℤ, pos, List, [], ◌∷◌, ◌++◌, take, drop, Bool, true, false, Option, Some, None, is_some}
use Rattle.std.specs.List.{AllByRecursion}
use Rattle.pv_word.specs.declared.types.Ty.TheVariants.{Bool as BoolTy}
use Rattle.pv_place.specs.Ranges.{Range, range_of, AreWithin}
use Rattle.pv_machine.specs.Machines.{Machine, Step, done, trap, over}
use Rattle.pv_mean.specs.Sources.{Source}
use Rattle.pv_mean.specs.Frames.{Image, Input, Params, image_len, image_ranges, input_ranges, param_ranges}
use Rattle.pv_mean.specs.Endings.{ended, trapped, over as over_end}
use Rattle.pv_mean.specs.Values.{number_of, is_true}
use Rattle.pv_mean.specs.Scans.{Visible, ScanEnd, scan, next_image}
use Rattle.pv_mean.specs.Runs.{start, run}
use Rattle.pv_pattern.specs.Patterns.{Pattern, invariant, forbidden, implication, within, between, reach}
use Rattle.pv_pattern.specs.Failing.{ends_as, mark_of, NoneFails}

-- ---- the bits of a pattern

-- whether a pattern looks back at the scan before
abbrev pub looks_back : Pattern → Bool
looks_back (invariant a) = false
looks_back (forbidden a) = false
looks_back (implication a b) = false
looks_back (within a b) = false
looks_back (between a b c) = true
looks_back (reach a) = false

abbrev pub ranges_by : Bool → List Range
ranges_by true = range_of BoolTy ∷ range_of BoolTy ∷ []
ranges_by false = []

-- a mark as bits
abbrev pub bits_of : Option Bool → List ℤ
bits_of None = pos 0 ∷ pos 0 ∷ []
bits_of (Some was) = pos 1 ∷ number_of was ∷ []

abbrev pub bits_by : Bool → Option Bool → List ℤ
bits_by true prev = bits_of prev
bits_by false prev = []

-- bits as a mark: where no scan was done before the second doesn't matter
abbrev pub mark_by : Bool → Bool → Option Bool
mark_by true was = Some was
mark_by false was = None

abbrev pub mark_in : List ℤ → Option Bool
mark_in [] = None
mark_in (has ∷ []) = None
mark_in (has ∷ was ∷ more) = mark_by (is_true has) (is_true was)

-- ---- the machine

-- the state that an image and a mark are, and back
abbrev pub state_of : Pattern → Image → Option Bool → List ℤ
state_of p image prev = image ++ bits_by (looks_back p) prev

abbrev pub image_in : Source → List ℤ → Image
image_in source state = take (image_len source.cells) state

abbrev pub prev_in : Source → List ℤ → Option Bool
prev_in source state = mark_in (drop (image_len source.cells) state)

-- a scan with this beginning that is done leaves its image and its mark
abbrev pub step_of : Source → Pattern → Visible → ScanEnd → Step
step_of source p begin (ended end) =
    done (state_of p (next_image source begin end) (mark_of source p (ended end)))
step_of source p begin (trapped kind place) = trap kind place
step_of source p begin (over_end place) = over place

abbrev pub machine_of : Source → Pattern → Machine
machine_of source p = record {
  state = image_ranges source.cells ++ ranges_by (looks_back p);
  input = input_ranges source.cells;
  params = param_ranges source.cells;
  start = λ params. state_of p (start source params) None;
  step = λ state input. step_of source p (scan source (image_in source state) input).beginning
      (scan source (image_in source state) input).end;
  fails = λ state input. is_some (ends_as source p (prev_in source state)
      (scan source (image_in source state) input));
}

-- the requirement is satisfied: by all parameters and all lists of inputs no scan of the run fails. Of a pattern that asks for a
-- goal it says that no run reaches it, and none goes over a loop's bound
abbrev pub IsSatisfied : Source → Pattern → Type 0
IsSatisfied source p = (params : Params) (inputs : List Input)
    → AreWithin (param_ranges source.cells) params
    → AllByRecursion (AreWithin (input_ranges source.cells)) inputs
    → NoneFails source p (run source params inputs)
