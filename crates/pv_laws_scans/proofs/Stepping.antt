-- A machine that meets step(0) has a scan that fails.
use Rattle.std.proofs.Common.{◌≡◌, ◌≢◌, ℕ, ◌+◌, ℤ, List, [], ◌∷◌, ◌++◌, length, take, Bool, Option, None, is_some, ap, sym, subst, ◌∙◌, arith}
use Rattle.std.specs.List.{AllByRecursion}
use Rattle.std.proofs.lemmas.List.{length-map}
use Rattle.std.proofs.lemmas.Bool.{true≢false}
use Rattle.pv_place.specs.Ranges.{Range, AreWithin}
use Rattle.pv_machine.specs.Machines.{Values, IsState, IsInput}
use Rattle.pv_machine.specs.Queries.{FailsAtLast, MeetsStep}
use Rattle.pv_mean.specs.Sources.{Source}
use Rattle.pv_mean.specs.Frames.{Image, Input, stored_cells, range_of_cell, image_ranges, input_ranges}
use Rattle.pv_mean.specs.Scans.{scan}
use Rattle.pv_pattern.specs.Patterns.{Pattern}
use Rattle.pv_pattern.specs.Failing.{ends_as}
use Rattle.pv_pattern.specs.Sources.{looks_back, ranges_by, image_in, prev_in, machine_of}

-- ---- a state's image

within-front : (rs qs : List Range) (vs : List ℤ) → AreWithin (rs ++ qs) vs → AreWithin rs (take (length rs) vs)
within-front [] qs vs h = tt
within-front (r ∷ rs) qs [] h = absurd h
within-front (r ∷ rs) qs (v ∷ vs) h = (h.0, within-front rs qs vs h.1)

image_within : (source : Source) (p : Pattern) (s : Values) → IsState (machine_of source p) s
    → AreWithin (image_ranges source.cells) (image_in source s)
image_within source p s is =
    let P : ℕ → Type 0 = λ n. AreWithin (image_ranges source.cells) (take n s) in
    subst P (length-map (stored_cells source.cells) range_of_cell)
    (within-front (image_ranges source.cells) (ranges_by (looks_back p)) s is)

-- ---- a scan that fails

-- some image fails behind some mark by some input
abbrev pub SomeFails : Source → Pattern → Type 0
SomeFails source p = (image : Image) × (prev : Option Bool) × (input : Input) × AreWithin (image_ranges source.cells) image
    × AreWithin (input_ranges source.cells) input × (ends_as source p prev (scan source image input) ≢ None)

one_scan : (source : Source) (p : Pattern) (s : Values) (inputs : List Values) → IsState (machine_of source p) s
    → AllByRecursion (IsInput (machine_of source p)) inputs → length inputs ≡ 0 + 1 → FailsAtLast (machine_of source p) s inputs
    → SomeFails source p
one_scan source p s [] is all count f = absurd f
one_scan source p s (i ∷ []) is all count f =
    (image_in source s, prev_in source s, i, image_within source p s is, all.0, λ none. true≢false (sym f ∙ ap (λ c. is_some c) none))
one_scan source p s (i ∷ j ∷ inputs) is all count f = absurd (omega arith)

pub failing_scan : (source : Source) (p : Pattern) → MeetsStep (machine_of source p) 0 → SomeFails source p
failing_scan source p met = one_scan source p met.state met.inputs met.is_state met.are_inputs met.count met.fails
