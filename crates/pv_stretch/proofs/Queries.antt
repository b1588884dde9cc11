-- States and inputs by which a source's machine meets a query, as stretches.
use Rattle.std.proofs.Common.{◌≡◌, ◌↔◌, ℕ, zero, suc, ◌+◌, Bool, true, false, List, [], ◌∷◌, ◌++◌, length, take, drop, Option, Some, None, is_some, refl, ap, sym, subst, ◌∙◌, arith}
use Rattle.std.proofs.Math.Seq.{take-append_seam, drop-append_seam}
use Rattle.std.proofs.lemmas.List.{length-map, length-take-le, length-append}
use Rattle.pv_place.specs.Ranges.{Range, AreWithin}
use Rattle.pv_machine.specs.Machines.{Values, IsState}
use Rattle.pv_machine.specs.Queries.{FailsAtLast}
use Rattle.pv_mean.specs.Sources.{Source}
use Rattle.pv_mean.specs.Frames.{Image, Input, Params, image_len, stored_cells, range_of_cell, image_ranges}
use Rattle.pv_mean.specs.Endings.{ended, trapped, over as over_end}
use Rattle.pv_mean.specs.Scans.{Visible, Scan, ScanEnd, scan, next_image}
use Rattle.pv_mean.specs.Runs.{start, run, after, run_from}
use Rattle.pv_mean.proofs.ForCallers.{length-image_after, length-start_image}
use Rattle.pv_pattern.specs.Patterns.{Pattern, mark}
use Rattle.pv_pattern.specs.Failing.{Cause, ends_as, mark_of, FailsFirstFrom}
use Rattle.pv_pattern.specs.Sources.{looks_back, ranges_by, bits_of, bits_by, mark_in, state_of, image_in, prev_in, step_of, machine_of}
use Rattle.pv_pattern.proofs.ForCallers.{ends_alike, fails_first}
use Rattle.pv_stretch.specs.declared.ends.StretchEnd.{StretchEnd}
use Rattle.pv_stretch.specs.declared.ends.Stretch.{Stretch}
use Rattle.pv_stretch.specs.Stretches.{ending_of, stretch_of}
use Rattle.pv_stretch.specs.Correct.{cause_of, EndsSo, FailsLast}
use Rattle.pv_stretch.proofs.Stretching.{cause_back, is_stretch, first_told}

-- ---- an image and a mark as a state: a step is the scan from the image, and fails where the scan does behind the mark

mark_back : (prev : Option Bool) → mark_in (bits_of prev) ≡ prev
mark_back None = refl
mark_back (Some false) = refl
mark_back (Some true) = refl

-- the image has a value for each stored cell
abbrev Fits : Source → Image → Type 0
Fits source image = length image ≡ image_len source.cells

image_back : (source : Source) (p : Pattern) (image : Image) (prev : Option Bool) → Fits source image
    → image_in source (state_of p image prev) ≡ image
image_back source p image prev len =
    ap (λ n. take n (state_of p image prev)) (sym len) ∙ take-append_seam image (bits_by (looks_back p) prev)

prev_back : (source : Source) (p : Pattern) (image : Image) (prev : Option Bool) → Fits source image
    → prev_in source (state_of p image prev) ≡ mark_in (bits_by (looks_back p) prev)
prev_back source p image prev len =
    ap (λ n. mark_in (drop n (state_of p image prev))) (sym len)
    ∙ ap mark_in (drop-append_seam image (bits_by (looks_back p) prev))

by_bits : (source : Source) (p : Pattern) (prev : Option Bool) (s : Scan) (b : Bool) → looks_back p ≡ b
    → ends_as source p (mark_in (bits_by b prev)) s ≡ ends_as source p prev s
by_bits source p prev s true h = ap (λ m. ends_as source p m s) (mark_back prev)
by_bits source p prev s false h = ends_alike source p None prev s h

pub step_is : (source : Source) (p : Pattern) (image : Image) (prev : Option Bool) (i : Input) → Fits source image
    → (machine_of source p).step (state_of p image prev) i
    ≡ step_of source p (scan source image i).beginning (scan source image i).end
step_is source p image prev i len =
    ap (λ x. step_of source p (scan source x i).beginning (scan source x i).end) (image_back source p image prev len)

pub fails_is : (source : Source) (p : Pattern) (image : Image) (prev : Option Bool) (i : Input) → Fits source image
    → (machine_of source p).fails (state_of p image prev) i ≡ is_some (ends_as source p prev (scan source image i))
fails_is source p image prev i len =
    ap (λ x. is_some (ends_as source p (prev_in source (state_of p image prev)) (scan source x i))) (image_back source p image prev len)
    ∙ ap (λ m. is_some (ends_as source p m (scan source image i))) (prev_back source p image prev len)
    ∙ ap (λ c. is_some c) (by_bits source p prev (scan source image i) (looks_back p) refl)

-- ---- the first failure, at the last of the inputs

fits_next : (source : Source) (begin end : Visible) → Fits source (next_image source begin end)
fits_next source begin end = length-image_after source.cells begin end

pub fails_at_last : (source : Source) (p : Pattern) (prev : Option Bool) (image : Image) (inputs : List Input) (n : ℕ) (cause : Cause)
    → Fits source image → n ≡ length inputs → FailsFirstFrom source p prev (run_from source image inputs) n cause
    → FailsAtLast (machine_of source p) (state_of p image prev) inputs
fails_at_last source p prev image [] n cause fits len f = f
fails_at_last source p prev image (i ∷ inputs) zero cause fits len f = absurd f
fails_at_last source p prev image (i ∷ []) (suc zero) cause fits len f =
    fails_is source p image prev i fits ∙ ap (λ c. is_some c) f
fails_at_last source p prev image (i ∷ j ∷ inputs) (suc zero) cause fits len f = absurd (omega (arith, len))
fails_at_last source p prev image (i ∷ []) (suc (suc n)) cause fits len f = absurd (omega (arith, len))
fails_at_last source p prev image (i ∷ j ∷ inputs) (suc (suc n)) cause fits len f =
    lead (scan source image i).end refl
    (λ mark next ok later. fails_at_last source p mark next (j ∷ inputs) (suc n) cause ok (omega (arith, len)) later) f.1
  where
    lead : (e : ScanEnd) → (scan source image i).end ≡ e
        → ((mark : Option Bool) (next : Image) → Fits source next
        → FailsFirstFrom source p mark (run_from source next (j ∷ inputs)) (suc n) cause
        → FailsAtLast (machine_of source p) (state_of p next mark) (j ∷ inputs))
        → FailsFirstFrom source p (mark_of source p e)
        (after source (scan source image i).beginning e (λ next. run_from source next (j ∷ inputs))) (suc n) cause
        → FailsAtLast (machine_of source p) (state_of p image prev) (i ∷ j ∷ inputs)
    lead (ended end) ends more later = (
      state_of p (next_image source (scan source image i).beginning end) (Some (mark source p end)),
      record {
        done = step_is source p image prev i fits ∙ ap (λ e. step_of source p (scan source image i).beginning e) ends;
        keeps = fails_is source p image prev i fits ∙ ap (λ c. is_some c) f.0;
      },
      more (Some (mark source p end)) (next_image source (scan source image i).beginning end)
          (fits_next source (scan source image i).beginning end) later,
    )
    lead (trapped kind place) ends more later = absurd later
    lead (over_end place) ends more later = absurd later

-- ---- stretches that fail at their last

told_last : (source : Source) (p : Pattern) (prev : Option Bool) (image : Image) (inputs : List Input) (n : ℕ) (cause : Cause)
    → n ≡ length inputs → FailsFirstFrom source p prev (run_from source image inputs) n cause
    → FailsLast inputs (stretch_of source p prev (run_from source image inputs))
told_last source p prev image [] n cause len f = absurd f
told_last source p prev image (i ∷ inputs) zero cause len f = absurd f
told_last source p prev image (i ∷ inputs) (suc n) cause len f =
    let one : suc n ≡ n + 1 = omega arith in
    let by : FailsFirstFrom source p prev (run_from source image (i ∷ inputs)) (n + 1) (cause_of (ending_of cause)) =
    subst (λ c. FailsFirstFrom source p prev (run_from source image (i ∷ inputs)) (n + 1) c) (sym (cause_back cause))
    (subst (λ m. FailsFirstFrom source p prev (run_from source image (i ∷ inputs)) m cause) one f) in
    let is = first_told source p prev image (i ∷ inputs) n (ending_of cause) by in
    record {
      told = ending_of cause;
      good = ap (λ (s : Stretch). s.good + 1) is ∙ sym one ∙ len;
      fails = ap (λ (s : Stretch). s.ending) is;
    }

last_first : (source : Source) (p : Pattern) (prev : Option Bool) (image : Image) (inputs : List Input)
    (last : FailsLast inputs (stretch_of source p prev (run_from source image inputs)))
    → FailsFirstFrom source p prev (run_from source image inputs)
    ((stretch_of source p prev (run_from source image inputs)).good + 1) (cause_of last.told)
last_first source p prev image inputs last =
    let s = stretch_of source p prev (run_from source image inputs) in
    subst (λ (o : Option StretchEnd). EndsSo source p prev (run_from source image inputs) s.good o) last.fails
    (is_stretch source p prev image inputs)

pub from_image : (source : Source) (p : Pattern) (image : Image) (prev : Option Bool) (inputs : List Input) → Fits source image
    → FailsAtLast (machine_of source p) (state_of p image prev) inputs
    ↔ FailsLast inputs (stretch_of source p prev (run_from source image inputs))
from_image source p image prev inputs fits = (
  λ shown. let first = fails_first source p prev image inputs fits shown in
      told_last source p prev image inputs (length inputs) first.0 refl first.1,
  λ last. fails_at_last source p prev image inputs
      ((stretch_of source p prev (run_from source image inputs)).good + 1) (cause_of last.told) fits last.good
      (last_first source p prev image inputs last),
)

pub from_start : (source : Source) (p : Pattern) (params : Params) (inputs : List Input)
    → FailsAtLast (machine_of source p) ((machine_of source p).start params) inputs
    ↔ FailsLast inputs (stretch_of source p None (run source params inputs))
from_start source p params inputs =
    from_image source p (start source params) None inputs (length-start_image source.cells params)

-- ---- any state: what its bits are beyond their mark doesn't matter

within-length : (rs : List Range) (vs : List _) → AreWithin rs vs → length vs ≡ length rs
within-length [] [] h = refl
within-length [] (v ∷ vs) h = absurd h
within-length (r ∷ rs) [] h = absurd h
within-length (r ∷ rs) (v ∷ vs) h = ap suc (within-length rs vs h.1)

fits_in : (source : Source) (p : Pattern) (state : Values) → IsState (machine_of source p) state → Fits source (image_in source state)
fits_in source p state is =
    let whole = within-length (image_ranges source.cells ++ ranges_by (looks_back p)) state is in
    let parts = length-append (image_ranges source.cells) (ranges_by (looks_back p)) in
    let images = length-map (stored_cells source.cells) range_of_cell in
    length-take-le (image_len source.cells) state (omega (arith, whole, parts, images))

module _ (source : Source) (p : Pattern) (state other : Values)
    (steps : (i : Input) → (machine_of source p).step state i ≡ (machine_of source p).step other i)
    (fails : (i : Input) → (machine_of source p).fails state i ≡ (machine_of source p).fails other i) where
  alike : (inputs : List Input) → FailsAtLast (machine_of source p) state inputs → FailsAtLast (machine_of source p) other inputs
  alike [] f = f
  alike (i ∷ []) f = sym (fails i) ∙ f
  alike (i ∷ j ∷ inputs) f = (
    f.0,
    record { done = sym (steps i) ∙ (f.1).done; keeps = sym (fails i) ∙ (f.1).keeps },
    f.2,
  )

pub from_state : (source : Source) (p : Pattern) (state : Values) (inputs : List Input) → IsState (machine_of source p) state
    → FailsAtLast (machine_of source p) state inputs
    ↔ FailsLast inputs (stretch_of source p (prev_in source state) (run_from source (image_in source state) inputs))
from_state source p state inputs is =
    let image = image_in source state in
    let prev = prev_in source state in
    let fits = fits_in source p state is in
    let both = from_image source p image prev inputs fits in
    let there = alike source p state (state_of p image prev) (λ i. sym (step_is source p image prev i fits))
    (λ i. sym (fails_is source p image prev i fits)) inputs in
    let back = alike source p (state_of p image prev) state (λ i. step_is source p image prev i fits)
    (λ i. fails_is source p image prev i fits) inputs in
    (λ shown. both.0 (there shown), λ last. back (both.1 last))
