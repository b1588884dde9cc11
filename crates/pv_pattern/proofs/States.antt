-- An image and a mark as a state, and back; so a step from it is the scan, and fails where the scan does.
use Rattle.std.proofs.Common.{arith, ◌≡◌, ℕ, ℤ, Bool, true, false, List, [], ◌∷◌, ◌++◌, length, take, drop, Option, Some, None, is_some, refl, ap, sym, subst, ◌∙◌}
use Rattle.std.specs.List.{AllByRecursion}
use Rattle.std.proofs.Math.Seq.{take-append_seam, drop-append_seam}
use Rattle.std.proofs.lemmas.List.{length-map}
use Rattle.std.proofs.lemmas.Bool.{true≢false}
use Rattle.pv_word.specs.Types.{InRange}
use Rattle.pv_word.specs.declared.types.Ty.TheVariants.{Bool as BoolTy}
use Rattle.pv_place.specs.Ranges.{Range, range_of, IsWithin, AreWithin}
use Rattle.pv_machine.specs.Machines.{Values, Step, done, trap, over, IsState, IsLawful}
use Rattle.pv_mean.specs.Sources.{Source}
use Rattle.pv_mean.specs.Frames.{Image, Input, image_len, stored_cells, range_of_cell, image_ranges}
use Rattle.pv_mean.specs.Endings.{ended, trapped, over as over_end}
use Rattle.pv_mean.specs.Correct.{BindsInRange}
use Rattle.pv_mean.specs.Values.{number_of}
use Rattle.pv_mean.specs.Scans.{Visible, Scan, ScanEnd, scan, next_image}
use Rattle.pv_mean.specs.Runs.{start}
use Rattle.pv_mean.proofs.ForCallers.{within-start, within-next}
use Rattle.pv_pattern.specs.Patterns.{Pattern, invariant, forbidden, implication, within, between, reach}
use Rattle.pv_pattern.specs.Failing.{ends_by, ends_as, mark_of}
use Rattle.pv_pattern.specs.Sources.{looks_back, ranges_by, bits_of, bits_by, mark_in, state_of, image_in, prev_in, step_of, machine_of}

-- ---- marks that aren't asked for

ends_by-alike : (source : Source) (p : Pattern) (x y : Option Bool) (b : Visible) (e : ScanEnd) → looks_back p ≡ false
    → ends_by source p x b e ≡ ends_by source p y b e
ends_by-alike source (invariant a) x y b (ended v) h = refl
ends_by-alike source (invariant a) x y b (trapped kind place) h = refl
ends_by-alike source (invariant a) x y b (over_end place) h = refl
ends_by-alike source (forbidden a) x y b (ended v) h = refl
ends_by-alike source (forbidden a) x y b (trapped kind place) h = refl
ends_by-alike source (forbidden a) x y b (over_end place) h = refl
ends_by-alike source (implication a c) x y b (ended v) h = refl
ends_by-alike source (implication a c) x y b (trapped kind place) h = refl
ends_by-alike source (implication a c) x y b (over_end place) h = refl
ends_by-alike source (within a c) x y b (ended v) h = refl
ends_by-alike source (within a c) x y b (trapped kind place) h = refl
ends_by-alike source (within a c) x y b (over_end place) h = refl
ends_by-alike source (between a c d) x y b e h = absurd (true≢false h)
ends_by-alike source (reach a) x y b (ended v) h = refl
ends_by-alike source (reach a) x y b (trapped kind place) h = refl
ends_by-alike source (reach a) x y b (over_end place) h = refl

pub ends_alike : (source : Source) (p : Pattern) (x y : Option Bool) (s : Scan) → looks_back p ≡ false
    → ends_as source p x s ≡ ends_as source p y s
ends_alike source p x y s h = ends_by-alike source p x y s.beginning s.end h

-- ---- an image and a mark, as a state and back

mark_back : (prev : Option Bool) → mark_in (bits_of prev) ≡ prev
mark_back None = refl
mark_back (Some false) = refl
mark_back (Some true) = refl

pub image_back : (source : Source) (p : Pattern) (image : Image) (prev : Option Bool) → length image ≡ image_len source.cells
    → image_in source (state_of p image prev) ≡ image
image_back source p image prev len =
    ap (λ n. take n (state_of p image prev)) (sym len) ∙ take-append_seam image (bits_by (looks_back p) prev)

prev_back : (source : Source) (p : Pattern) (image : Image) (prev : Option Bool) → length image ≡ image_len source.cells
    → prev_in source (state_of p image prev) ≡ mark_in (bits_by (looks_back p) prev)
prev_back source p image prev len =
    ap (λ n. mark_in (drop n (state_of p image prev))) (sym len)
    ∙ ap mark_in (drop-append_seam image (bits_by (looks_back p) prev))

ends_by_bits : (source : Source) (p : Pattern) (prev : Option Bool) (s : Scan) (b : Bool) → looks_back p ≡ b
    → ends_as source p (mark_in (bits_by b prev)) s ≡ ends_as source p prev s
ends_by_bits source p prev s true h = ap (λ m. ends_as source p m s) (mark_back prev)
ends_by_bits source p prev s false h = ends_alike source p None prev s h

-- from such a state a step is the scan from the image, and fails where the scan fails behind the mark
pub step_is : (source : Source) (p : Pattern) (image : Image) (prev : Option Bool) (i : Input) → length image ≡ image_len source.cells
    → (machine_of source p).step (state_of p image prev) i
    ≡ step_of source p (scan source image i).beginning (scan source image i).end
step_is source p image prev i len =
    ap (λ x. step_of source p (scan source x i).beginning (scan source x i).end) (image_back source p image prev len)

pub fails_is : (source : Source) (p : Pattern) (image : Image) (prev : Option Bool) (i : Input) → length image ≡ image_len source.cells
    → (machine_of source p).fails (state_of p image prev) i ≡ is_some (ends_as source p prev (scan source image i))
fails_is source p image prev i len =
    ap (λ x. is_some (ends_as source p (prev_in source (state_of p image prev)) (scan source x i))) (image_back source p image prev len)
    ∙ ap (λ m. is_some (ends_as source p m (scan source image i))) (prev_back source p image prev len)
    ∙ ap (λ c. is_some c) (ends_by_bits source p prev (scan source image i) (looks_back p) refl)

-- ---- what a step leaves

abbrev pub IsLeft : Values → Step → Type 0
IsLeft t (done s) = s ≡ t
IsLeft t (trap kind place) = ⊥
IsLeft t (over place) = ⊥

pub is_left : (s : Step) (t : Values) → s ≡ done t → IsLeft t s
is_left s t h = let P : Step → Type 0 = λ x. IsLeft t x in subst P (sym h) refl

-- a step that is done is a scan that is done, and leaves its image and its mark
pub left_is : (source : Source) (p : Pattern) (b : Visible) (e : ScanEnd) (t : Values) → step_of source p b e ≡ done t
    → (end : Visible) × (e ≡ ended end) × (state_of p (next_image source b end) (mark_of source p (ended end)) ≡ t)
left_is source p b (ended end) t h = (end, refl, is_left (step_of source p b (ended end)) t h)
left_is source p b (trapped kind place) t h = absurd (is_left (trap kind place) t h)
left_is source p b (over_end place) t h = absurd (is_left (over place) t h)

-- ---- states are within their ranges

within-append : (rs qs : List Range) (vs ws : List ℤ) → AreWithin rs vs → AreWithin qs ws → AreWithin (rs ++ qs) (vs ++ ws)
within-append [] qs [] ws h k = k
within-append [] qs (v ∷ vs) ws h k = absurd h
within-append (r ∷ rs) qs [] ws h k = absurd h
within-append (r ∷ rs) qs (v ∷ vs) ws h k = (h.0, within-append rs qs vs ws h.1 k)

within-front : (rs qs : List Range) (vs : List ℤ) → AreWithin (rs ++ qs) vs → AreWithin rs (take (length rs) vs)
within-front [] qs vs h = tt
within-front (r ∷ rs) qs [] h = absurd h
within-front (r ∷ rs) qs (v ∷ vs) h = (h.0, within-front rs qs vs h.1)

bit_within : (b : Bool) → IsWithin (range_of BoolTy) (number_of b)
bit_within true = record { from = omega arith; to = omega arith }
bit_within false = record { from = omega arith; to = omega arith }

bits_within : (b : Bool) (prev : Option Bool) → AreWithin (ranges_by b) (bits_by b prev)
bits_within true None = (bit_within false, (bit_within false, tt))
bits_within true (Some was) = (bit_within true, (bit_within was, tt))
bits_within false prev = tt

image_within : (source : Source) (p : Pattern) (s : Values) → IsState (machine_of source p) s
    → AreWithin (image_ranges source.cells) (image_in source s)
image_within source p s is =
    let P : ℕ → Type 0 = λ n. AreWithin (image_ranges source.cells) (take n s) in
    subst P (length-map (stored_cells source.cells) range_of_cell)
    (within-front (image_ranges source.cells) (ranges_by (looks_back p)) s is)

pub lawful : (source : Source) (p : Pattern) → AllByRecursion (λ c. InRange c.ty c.start) source.cells
    → AllByRecursion BindsInRange source.cells → IsLawful (machine_of source p)
lawful source p starts binds = record {
  starts = λ params are. within-append (image_ranges source.cells) (ranges_by (looks_back p)) (start source params)
      (bits_by (looks_back p) None) (within-start source.cells params starts are) (bits_within (looks_back p) None);
  steps = λ s i t is_state is_input h.
      let image = image_in source s in
      let left = left_is source p (scan source image i).beginning (scan source image i).end t h in
      let mark = mark_of source p (ended left.0) in
      let P : Values → Type 0 = λ v. AreWithin (image_ranges source.cells ++ ranges_by (looks_back p)) v in
      subst P left.2 (within-append (image_ranges source.cells) (ranges_by (looks_back p))
      (next_image source (scan source image i).beginning left.0) (bits_by (looks_back p) mark)
      (within-next source image i left.0 binds (image_within source p s is_state) is_input left.1)
      (bits_within (looks_back p) mark));
}
