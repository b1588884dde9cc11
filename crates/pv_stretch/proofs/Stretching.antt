-- What a stretch says of a run's scans is so.
use Rattle.std.proofs.Common.{◌≡◌, ℕ, zero, suc, ◌+◌, List, [], ◌∷◌, Bool, true, false, cond, Option, Some, None, refl, sym, ap, subst, ◌∙◌, arith}
use Rattle.std.proofs.lemmas.List.Sums.{sum_by-cons}
use Rattle.pv_place.specs.declared.place.Place.{Place}
use Rattle.pv_place.specs.declared.trap.TrapKind.{TrapKind}
use Rattle.pv_mean.specs.Sources.{Source}
use Rattle.pv_mean.specs.Frames.{Image, Input}
use Rattle.pv_mean.specs.Endings.{ended, trapped, over as over_end}
use Rattle.pv_mean.specs.Scans.{Visible, Scan, ScanEnd, scan, next_image}
use Rattle.pv_mean.specs.Runs.{after, run_from}
use Rattle.pv_pattern.specs.Patterns.{Pattern, mark, asks_for_goal}
use Rattle.pv_pattern.specs.Failing.{Cause, pattern, trap, over, ends_by, ends_as, mark_of, FailsFirstFrom}
use Rattle.pv_claims.specs.declared.trace.Ending.{Ending}
use Rattle.pv_claims.specs.declared.trace.Ending.TheVariants as ending
use Rattle.pv_stretch.specs.declared.ends.StretchEnd.{StretchEnd}
use Rattle.pv_stretch.specs.declared.ends.StretchEnd.TheVariants.{Fails, Stopped}
use Rattle.pv_stretch.specs.declared.ends.Stretch.{Stretch}
use Rattle.pv_stretch.specs.Stretches.{ending_of, stops_as, fails_or, last_of, last_or, one_more, stretch_of}
use Rattle.pv_stretch.specs.Scans.{is_done, done_in, last_trap}
use Rattle.pv_stretch.specs.Correct.{cause_of, EndsSo, IsStretchOf, fails_behind}

-- ---- causes and what is told of them

pub told_back : (told : Ending) → ending_of (cause_of told) ≡ told
told_back ending.Pattern = refl
told_back (ending.Trap kind place) = refl
told_back (ending.Over place) = refl

pub cause_back : (cause : Cause) → cause_of (ending_of cause) ≡ cause
cause_back pattern = refl
cause_back (trap kind place) = refl
cause_back (over place) = refl

-- ---- one scan

-- a scan that is done
abbrev done_scan : Visible → Visible → Scan
done_scan beginning values = record { beginning = beginning; end = ended values }

last_behind : (beginning values : Visible) (more : List Scan)
    → last_trap (done_scan beginning values ∷ more) ≡ last_trap more
last_behind beginning values [] = refl
last_behind beginning values (s ∷ ss) = refl

count_behind : (beginning values : Visible) (more : List Scan)
    → done_in (done_scan beginning values ∷ more) ≡ 1 + done_in more
count_behind beginning values more =
    sum_by-cons (λ (s : Scan). cond (is_done s.end) 1 0) (done_scan beginning values) more

module _ (source : Source) (p : Pattern) (prev : Option Bool) (beginning : Visible) where
  -- a good one goes before
  one_later : (values : Visible) (more : List Scan) (good : ℕ) (end : Option StretchEnd)
      → ends_by source p prev beginning (ended values) ≡ None
      → EndsSo source p (Some (mark source p values)) more good end
      → EndsSo source p prev (done_scan beginning values ∷ more) (good + 1) end
  one_later values more good None none is = (
    (none, is.0),
    omega (arith, is.1),
    omega (arith, is.2, count_behind beginning values more),
    last_behind beginning values more ∙ is.3,
  )
  one_later values more good (Some (Fails told)) none is =
      let e : suc good ≡ good + 1 = omega arith in
      let more_fails : FailsFirstFrom source p (Some (mark source p values)) more (suc good) (cause_of told) =
      subst (λ n. FailsFirstFrom source p (Some (mark source p values)) more n (cause_of told)) (sym e) is in
      let both : FailsFirstFrom source p prev (done_scan beginning values ∷ more) (suc (suc good)) (cause_of told) = (none, more_fails) in
      let whole : suc (suc good) ≡ good + 1 + 1 = omega arith in
      subst (λ n. FailsFirstFrom source p prev (done_scan beginning values ∷ more) n (cause_of told)) whole both
  one_later values more good (Some (Stopped kind place)) none is = (
    is.0,
    (none, is.1),
    omega (arith, is.2, count_behind beginning values more),
    last_behind beginning values more ∙ is.3,
  )

  -- the first one fails
  at_once : (s : Scan) (more : List Scan) (cause : Cause) → ends_as source p prev s ≡ Some cause
      → FailsFirstFrom source p prev (s ∷ more) 1 (cause_of (ending_of cause))
  at_once s more cause fails = fails ∙ ap (λ c. Some c) (sym (cause_back cause))

  -- by what a scan that is done comes to
  by_cause : (values : Visible) (more : List Scan) (later : Stretch) (cause : Option Cause)
      → ends_by source p prev beginning (ended values) ≡ cause
      → IsStretchOf source p (Some (mark source p values)) more later
      → IsStretchOf source p prev (done_scan beginning values ∷ more) (last_or (fails_or cause None) later)
  by_cause values more later None none on = one_later values more later.good later.ending none on
  by_cause values more later (Some cause) fails on = at_once (done_scan beginning values) more cause fails

  -- by whether a goal is asked for, where it traps
  by_trap : (goal : Bool) (kind : TrapKind) (place : Place) (later : Stretch) → asks_for_goal p ≡ goal
      → IsStretchOf source p prev (record { beginning = beginning; end = trapped kind place } ∷ [])
      (last_or (fails_or (elim goal [ true ↦ None | false ↦ Some (trap kind place) ]) (Some (Stopped kind place))) later)
  by_trap true kind place later asks =
      (asks, (ap (λ g. elim g [ true ↦ None | false ↦ Some (trap kind place) ]) asks, tt), refl, refl)
  by_trap false kind place later asks = ap (λ g. elim g [ true ↦ None | false ↦ Some (trap kind place) ]) asks

  -- and by whatever it ends
  by_end : (end : ScanEnd) (more : Image → List Scan)
      → ((image : Image) (m : Bool) → IsStretchOf source p (Some m) (more image) (stretch_of source p (Some m) (more image)))
      → IsStretchOf source p prev (record { beginning = beginning; end = end } ∷ after source beginning end more)
      (stretch_of source p prev (record { beginning = beginning; end = end } ∷ after source beginning end more))
  by_end (ended values) more on =
      by_cause values _ _ (ends_by source p prev beginning (ended values)) refl (on _ (mark source p values))
  by_end (trapped kind place) more on = by_trap (asks_for_goal p) kind place _ refl
  by_end (over_end place) more on = refl

-- ---- all scans of a run

pub is_stretch : (source : Source) (p : Pattern) (prev : Option Bool) (image : Image) (inputs : List Input)
    → IsStretchOf source p prev (run_from source image inputs) (stretch_of source p prev (run_from source image inputs))
is_stretch source p prev image [] = (tt, refl, refl, refl)
is_stretch source p prev image (input ∷ inputs) =
    by_end source p prev (scan source image input).beginning (scan source image input).end (λ next. run_from source next inputs)
    (λ next m. is_stretch source p (Some m) next inputs)

-- ---- the first failure

-- a stretch that fails says which scan is the first that does
pub told_first : (source : Source) (p : Pattern) (prev : Option Bool) (image : Image) (inputs : List Input) (good : ℕ) (told : Ending)
    → stretch_of source p prev (run_from source image inputs) ≡ fails_behind good told
    → FailsFirstFrom source p prev (run_from source image inputs) (good + 1) (cause_of told)
told_first source p prev image inputs good told e =
    subst (λ (s : Stretch). IsStretchOf source p prev (run_from source image inputs) s) e (is_stretch source p prev image inputs)

-- and the first scan that fails is told
failing_first : (source : Source) (p : Pattern) (prev : Option Bool) (s : Scan) (later : Stretch) (told : Ending)
    → ends_as source p prev s ≡ Some (cause_of told) → last_or (last_of source p prev s) later ≡ fails_behind 0 told
failing_first source p prev s later told fails =
    ap (λ c. last_or (fails_or c (stops_as s.end)) later) fails ∙ ap (λ t. fails_behind 0 t) (told_back told)

good_first : (source : Source) (p : Pattern) (prev : Option Bool) (beginning values : Visible) (more : List Scan) (good : ℕ) (told : Ending)
    → ends_by source p prev beginning (ended values) ≡ None
    → stretch_of source p (Some (mark source p values)) more ≡ fails_behind good told
    → stretch_of source p prev (done_scan beginning values ∷ more) ≡ fails_behind (suc good) told
good_first source p prev beginning values more good told none later =
    let e : good + 1 ≡ suc good = omega arith in
    ap (λ c. last_or (fails_or c None) (stretch_of source p (Some (mark source p values)) more)) none
    ∙ ap (λ s. one_more s) later ∙ ap (λ n. fails_behind n told) e

first_told_suc : (source : Source) (p : Pattern) (prev : Option Bool) (image : Image) (inputs : List Input) (good : ℕ) (told : Ending)
    → FailsFirstFrom source p prev (run_from source image inputs) (suc good) (cause_of told)
    → stretch_of source p prev (run_from source image inputs) ≡ fails_behind good told
first_told_suc source p prev image [] good told fails = absurd fails
first_told_suc source p prev image (input ∷ inputs) zero told fails =
    failing_first source p prev (scan source image input) _ told fails
first_told_suc source p prev image (input ∷ inputs) (suc good) told fails =
    lead (scan source image input).beginning (scan source image input).end
    (λ next m more. first_told_suc source p (Some m) next inputs good told more) fails.0 fails.1
  where
    lead : (beginning : Visible) (end : ScanEnd)
        → ((next : Image) (m : Bool) → FailsFirstFrom source p (Some m) (run_from source next inputs) (suc good) (cause_of told)
        → stretch_of source p (Some m) (run_from source next inputs) ≡ fails_behind good told)
        → ends_by source p prev beginning end ≡ None
        → FailsFirstFrom source p (mark_of source p end) (after source beginning end (λ next. run_from source next inputs)) (suc good) (cause_of told)
        → stretch_of source p prev (record { beginning = beginning; end = end } ∷ after source beginning end (λ next. run_from source next inputs))
        ≡ fails_behind (suc good) told
    lead beginning (ended values) on none fails =
        let next : Image = next_image source beginning values in
        good_first source p prev beginning values (run_from source next inputs) good told none (on next (mark source p values) fails)
    lead beginning (trapped kind place) on none fails = absurd fails
    lead beginning (over_end place) on none fails = absurd fails

pub first_told : (source : Source) (p : Pattern) (prev : Option Bool) (image : Image) (inputs : List Input) (good : ℕ) (told : Ending)
    → FailsFirstFrom source p prev (run_from source image inputs) (good + 1) (cause_of told)
    → stretch_of source p prev (run_from source image inputs) ≡ fails_behind good told
first_told source p prev image inputs good told fails =
    let e : good + 1 ≡ suc good = omega arith in
    first_told_suc source p prev image inputs good told
    (subst (λ n. FailsFirstFrom source p prev (run_from source image inputs) n (cause_of told)) e fails)
