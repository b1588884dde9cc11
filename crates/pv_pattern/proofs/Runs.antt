-- The runs of a source are those of its machine, whose states are the images with the marks of the scans before.
use Rattle.std.proofs.Common.{◌≡◌, ℕ, zero, suc, Bool, true, false, List, [], ◌∷◌, length, Option, Some, None, is_some, refl, ap, sym, subst, ◌∙◌}
use Rattle.std.specs.List.{AllByRecursion}
use Rattle.std.proofs.lemmas.Bool.{true≢false, false≢true}
use Rattle.pv_machine.specs.Machines.{Values, done, trap, over, IsInput}
use Rattle.pv_machine.specs.Queries.{IsGoodScan, FailsAtLast, NoneFails}
use Rattle.pv_mean.specs.Sources.{Source}
use Rattle.pv_mean.specs.Frames.{Image, Input, image_len}
use Rattle.pv_mean.specs.Endings.{ended, trapped, over as over_end}
use Rattle.pv_mean.specs.Scans.{Visible, ScanEnd, scan, next_image}
use Rattle.pv_mean.specs.Runs.{after, run_from}
use Rattle.pv_mean.proofs.ForCallers.{length-image_after}
use Rattle.pv_pattern.specs.Patterns.{Pattern}
use Rattle.pv_pattern.specs.Failing.{Cause, ends_as, mark_of, NoneFailsFrom, FailsFirstFrom}
use Rattle.pv_pattern.specs.Sources.{state_of, step_of, machine_of}
use Rattle.pv_pattern.proofs.States.{step_is, fails_is, is_left}

is_none : (cause : Option Cause) → is_some cause ≡ false → cause ≡ None
is_none None h = refl
is_none (Some cause) h = absurd (true≢false h)

some_cause : (cause : Option Cause) → is_some cause ≡ true → (x : Cause) × (cause ≡ Some x)
some_cause None h = absurd (false≢true h)
some_cause (Some cause) h = (cause, refl)

-- the image has a value for each stored cell
abbrev Fits : Source → Image → Type 0
Fits source image = length image ≡ image_len source.cells

abbrev begins : Source → Image → Input → Visible
begins source image i = (scan source image i).beginning

fits_next : (source : Source) (begin end : Visible) → Fits source (next_image source begin end)
fits_next source begin end = length-image_after source.cells begin end

-- the state behind a scan that is done
abbrev left_by : Source → Pattern → Visible → Visible → Values
left_by source p begin end = state_of p (next_image source begin end) (mark_of source p (ended end))

-- ---- no scan fails

pub runs_to : (source : Source) (p : Pattern) (prev : Option Bool) (image : Image) (inputs : List Input) → Fits source image
    → NoneFailsFrom source p prev (run_from source image inputs) → NoneFails (machine_of source p) (state_of p image prev) inputs
runs_to source p prev image [] fits none = tt
runs_to source p prev image (i ∷ inputs) fits none = (
  fails_is source p image prev i fits ∙ ap (λ c. is_some c) none.0,
  λ t h. lead (scan source image i).end t (sym (step_is source p image prev i fits) ∙ h)
      (λ mark next ok later. runs_to source p mark next inputs ok later) none.1,
)
  where
    lead : (e : ScanEnd) (t : Values) → step_of source p (begins source image i) e ≡ done t
        → ((mark : Option Bool) (next : Image) → Fits source next → NoneFailsFrom source p mark (run_from source next inputs)
        → NoneFails (machine_of source p) (state_of p next mark) inputs)
        → NoneFailsFrom source p (mark_of source p e) (after source (begins source image i) e (λ next. run_from source next inputs))
        → NoneFails (machine_of source p) t inputs
    lead (ended end) t h more later =
        let P : Values → Type 0 = λ v. NoneFails (machine_of source p) v inputs in
        subst P (is_left (done (left_by source p (begins source image i) end)) t h)
        (more (mark_of source p (ended end)) (next_image source (begins source image i) end)
        (fits_next source (begins source image i) end) later)
    lead (trapped kind place) t h more later = absurd (is_left (trap kind place) t h)
    lead (over_end place) t h more later = absurd (is_left (over place) t h)

pub runs_from : (source : Source) (p : Pattern) (prev : Option Bool) (image : Image) (inputs : List Input) → Fits source image
    → NoneFails (machine_of source p) (state_of p image prev) inputs → NoneFailsFrom source p prev (run_from source image inputs)
runs_from source p prev image [] fits none = tt
runs_from source p prev image (i ∷ inputs) fits none = (
  is_none (ends_as source p prev (scan source image i)) (sym (fails_is source p image prev i fits) ∙ none.0),
  lead (scan source image i).end (λ t h. none.1 t (step_is source p image prev i fits ∙ h))
      (λ mark next ok later. runs_from source p mark next inputs ok later),
)
  where
    lead : (e : ScanEnd)
        → ((t : Values) → step_of source p (begins source image i) e ≡ done t → NoneFails (machine_of source p) t inputs)
        → ((mark : Option Bool) (next : Image) → Fits source next → NoneFails (machine_of source p) (state_of p next mark) inputs
        → NoneFailsFrom source p mark (run_from source next inputs))
        → NoneFailsFrom source p (mark_of source p e) (after source (begins source image i) e (λ next. run_from source next inputs))
    lead (ended end) later more = more (mark_of source p (ended end)) (next_image source (begins source image i) end)
        (fits_next source (begins source image i) end) (later (left_by source p (begins source image i) end) refl)
    lead (trapped kind place) later more = tt
    lead (over_end place) later more = tt

-- ---- the first that fails

-- some of the inputs, as many as this, fail at their last
abbrev pub FailsWithin : Source → Pattern → Values → ℕ → Type 0
FailsWithin source p state n =
    (inputs : List Input) × (length inputs ≡ n) × AllByRecursion (IsInput (machine_of source p)) inputs
    × FailsAtLast (machine_of source p) state inputs

-- a scan that is done and doesn't fail, before those
one_more : (source : Source) (p : Pattern) (prev : Option Bool) (image : Image) (i : Input) (n : ℕ) (end : Visible) → Fits source image
    → IsInput (machine_of source p) i → (scan source image i).end ≡ ended end → ends_as source p prev (scan source image i) ≡ None
    → FailsWithin source p (left_by source p (begins source image i) end) (suc n)
    → FailsWithin source p (state_of p image prev) (suc (suc n))
one_more source p prev image i n end fits is ends none fails = lead fails.0 fails.1 fails.2 fails.3
  where
    good : IsGoodScan (machine_of source p) (state_of p image prev) i (left_by source p (begins source image i) end)
    good = record {
      done = step_is source p image prev i fits ∙ ap (λ e. step_of source p (begins source image i) e) ends;
      keeps = fails_is source p image prev i fits ∙ ap (λ c. is_some c) none;
    }

    lead : (inputs : List Input) → length inputs ≡ suc n → AllByRecursion (IsInput (machine_of source p)) inputs
        → FailsAtLast (machine_of source p) (left_by source p (begins source image i) end) inputs
        → FailsWithin source p (state_of p image prev) (suc (suc n))
    lead [] len all f = absurd f
    lead (j ∷ inputs) len all f =
        (i ∷ j ∷ inputs, ap suc len, (is, all), (left_by source p (begins source image i) end, good, f))

pub first_fails : (source : Source) (p : Pattern) (prev : Option Bool) (image : Image) (inputs : List Input) (n : ℕ) (cause : Cause)
    → Fits source image → AllByRecursion (IsInput (machine_of source p)) inputs
    → FailsFirstFrom source p prev (run_from source image inputs) n cause → FailsWithin source p (state_of p image prev) n
first_fails source p prev image [] n cause fits all f = absurd f
first_fails source p prev image (i ∷ inputs) zero cause fits all f = absurd f
first_fails source p prev image (i ∷ inputs) (suc zero) cause fits all f =
    (i ∷ [], refl, (all.0, tt), fails_is source p image prev i fits ∙ ap (λ c. is_some c) f)
first_fails source p prev image (i ∷ inputs) (suc (suc n)) cause fits all f =
    lead (scan source image i).end refl
    (λ mark next ok later. first_fails source p mark next inputs (suc n) cause ok all.1 later) f.1
  where
    lead : (e : ScanEnd) → (scan source image i).end ≡ e
        → ((mark : Option Bool) (next : Image) → Fits source next → FailsFirstFrom source p mark (run_from source next inputs) (suc n) cause
        → FailsWithin source p (state_of p next mark) (suc n))
        → FailsFirstFrom source p (mark_of source p e) (after source (begins source image i) e (λ next. run_from source next inputs)) (suc n) cause
        → FailsWithin source p (state_of p image prev) (suc (suc n))
    lead (ended end) ends more later =
        one_more source p prev image i n end fits all.0 ends f.0
        (more (mark_of source p (ended end)) (next_image source (begins source image i) end)
        (fits_next source (begins source image i) end) later)
    lead (trapped kind place) ends more later = absurd later
    lead (over_end place) ends more later = absurd later

pub fails_first : (source : Source) (p : Pattern) (prev : Option Bool) (image : Image) (inputs : List Input) → Fits source image
    → FailsAtLast (machine_of source p) (state_of p image prev) inputs
    → (cause : Cause) × FailsFirstFrom source p prev (run_from source image inputs) (length inputs) cause
fails_first source p prev image [] fits f = absurd f
fails_first source p prev image (i ∷ []) fits f =
    some_cause (ends_as source p prev (scan source image i)) (sym (fails_is source p image prev i fits) ∙ f)
fails_first source p prev image (i ∷ j ∷ inputs) fits f =
    lead (scan source image i).end (sym (step_is source p image prev i fits) ∙ (f.1).done)
    (λ mark next ok later. fails_first source p mark next (j ∷ inputs) ok later)
  where
    none : ends_as source p prev (scan source image i) ≡ None
    none = is_none (ends_as source p prev (scan source image i)) (sym (fails_is source p image prev i fits) ∙ (f.1).keeps)

    lead : (e : ScanEnd) → step_of source p (begins source image i) e ≡ done f.0
        → ((mark : Option Bool) (next : Image) → Fits source next → FailsAtLast (machine_of source p) (state_of p next mark) (j ∷ inputs)
        → (cause : Cause) × FailsFirstFrom source p mark (run_from source next (j ∷ inputs)) (suc (length inputs)) cause)
        → (cause : Cause) × ((ends_as source p prev (scan source image i) ≡ None)
        × FailsFirstFrom source p (mark_of source p e) (after source (begins source image i) e (λ next. run_from source next (j ∷ inputs)))
        (suc (length inputs)) cause)
    lead (ended end) is more =
        let P : Values → Type 0 = λ v. FailsAtLast (machine_of source p) v (j ∷ inputs) in
        let later = more (mark_of source p (ended end)) (next_image source (begins source image i) end)
        (fits_next source (begins source image i) end)
        (subst P (sym (is_left (done (left_by source p (begins source image i) end)) f.0 is)) f.2) in
        (later.0, (none, later.1))
    lead (trapped kind place) is more = absurd (is_left (trap kind place) f.0 is)
    lead (over_end place) is more = absurd (is_left (over place) f.0 is)
