-- Nothing of the form traps or goes over a loop's bound: a scan is done as the Boolean program's is, and leaves an image in range.
use Rattle.std.proofs.Common.{◌≡◌, ℕ, zero, suc, Bool, true, false, List, [], ◌∷◌, Option, Some, None, refl, ap, sym, subst, ◌∙◌}
use Rattle.std.specs.List.{AllByRecursion}
use Rattle.std.proofs.lemmas.Option.{none-some, same_Some}
use Rattle.pv_place.specs.declared.place.Place.{Place}
use Rattle.pv_place.specs.declared.trap.TrapKind.{TrapKind}
use Rattle.pv_place.specs.Ranges.{AreWithin}
use Rattle.pv_mean.specs.Sources.{Source}
use Rattle.pv_mean.specs.Frames.{Image, Input, Params, image_ranges, input_ranges, param_ranges, start_image}
use Rattle.pv_mean.specs.Endings.{ended}
use Rattle.pv_mean.specs.Scans.{Visible, Scan, ScanEnd, scan, next_image}
use Rattle.pv_mean.specs.Runs.{after, run_from}
use Rattle.pv_mean.proofs.ForCallers.{within-start, within-next}
use Rattle.pv_pattern.specs.Patterns.{Pattern, judge}
use Rattle.pv_pattern.specs.Failing.{Cause, pattern, trap, over, is_failure, ends_by, mark_of, FailsFirstFrom}
use Rattle.pv_replay.specs.Replays.{HasStarts}
use Rattle.pv_case.specs.declared.case.Limits.{Limits}
use Rattle.pv_claims.specs.declared.claim.Claim.{Claim}
use Rattle.pv_claims.specs.declared.claim.Claim.TheVariants.{Satisfied, Unreachable, Violated, Trapped, Reached, Depth, Loop, Lemmas, Region}
use Rattle.pv_claims.specs.declared.trace.Ending.{Ending}
use Rattle.pv_claims.specs.declared.trace.Ending.TheVariants as ending
use Rattle.pv_stretch.specs.Correct.{cause_of}
use Rattle.pv_cert.specs.declared.certificate.Certificate.{Certificate}
use Rattle.pv_bool_form.specs.Correct.{pattern_end}
use Rattle.pv_bool_form.specs.Machines.{IsOfSource}
use Rattle.pv_command_verdict.specs.Sayings.{SaysOfSource}
use Rattle.pv_command_verdict.specs.Correct.{IsDone, ScansAreDone, IsByPattern}

-- ---- scans

module _ (source : Source) (p : Pattern) (of : IsOfSource source p) (starts : HasStarts source) where
  from_image : (image : Image) (inputs : List Input) → AreWithin (image_ranges source.cells) image
      → AllByRecursion (AreWithin (input_ranges source.cells)) inputs → AllByRecursion IsDone (run_from source image inputs)
  from_image image [] within are = tt
  from_image image (i ∷ inputs) within are =
      let done = (of.scans image i within are.0).ends in
      let end = pattern_end source p image i in
      let begin = (scan source image i).beginning in
      let P : ScanEnd → Type 0 = λ e. AllByRecursion IsDone (after source begin e (λ next. run_from source next inputs)) in
      let left = within-next source image i end starts.bound within are.0 done in
      ((end, done), subst P (sym done) (from_image (next_image source begin end) inputs left are.1))

  pub scans_are_done : ScansAreDone source
  scans_are_done = record {
    from_image = from_image;
    of_run = λ params inputs are within.
        from_image (start_image source.cells params) inputs (within-start source.cells params starts.starts are) within;
  }

-- ---- a scan that is done fails by the pattern

module _ (source : Source) (p : Pattern) where
  by_failure : (b : Bool) (cause : Cause) → elim b [ true ↦ Some pattern | false ↦ None ] ≡ Some cause → cause ≡ pattern
  by_failure true cause h = sym (same_Some pattern cause h)
  by_failure false cause h = absurd (none-some cause h)

  done_by : (prev : Option Bool) (begin end : Visible) (e : ScanEnd) (cause : Cause) → e ≡ ended end
      → ends_by source p prev begin e ≡ Some cause → cause ≡ pattern
  done_by prev begin end e cause done fails =
      let P : ScanEnd → Type 0 = λ x. ends_by source p prev begin x ≡ Some cause in
      by_failure (is_failure p (judge source p prev begin end)) cause (subst P done fails)

  by_pattern : (prev : Option Bool) (scans : List Scan) (n : ℕ) (cause : Cause) → AllByRecursion IsDone scans
      → FailsFirstFrom source p prev scans n cause → cause ≡ pattern
  by_pattern prev [] n cause all fails = absurd fails
  by_pattern prev (s ∷ scans) zero cause all fails = absurd fails
  by_pattern prev (s ∷ scans) (suc zero) cause all fails = done_by prev s.beginning (all.0).0 s.end cause (all.0).1 fails
  by_pattern prev (s ∷ scans) (suc (suc n)) cause all fails = by_pattern (mark_of source p s.end) scans (suc n) cause all.1 fails.1

-- ---- verdicts

no_trap : (kind : TrapKind) (place : Place) → trap kind place ≡ pattern → ⊥
no_trap kind place e = absurd cc

no_over : (place : Place) → over place ≡ pattern → ⊥
no_over place e = absurd cc

as_pattern : (last : Ending) → cause_of last ≡ pattern → last ≡ ending.Pattern
as_pattern ending.Pattern e = refl
as_pattern (ending.Trap kind place) e = absurd (no_trap kind place e)
as_pattern (ending.Over place) e = absurd (no_over place e)

pub claims : (source : Source) (p : Pattern) (limits : Limits) (c : Certificate) (told : Option Ending) (claim : Claim)
    → ScansAreDone source → SaysOfSource source p limits c told claim → IsByPattern told claim
claims source p limits c told (Satisfied k) done says = tt
claims source p limits c told (Unreachable k) done says = tt
claims source p limits c told (Violated n) done says = tt
claims source p limits c told (Trapped n) done says =
    let by = says.5 in
    no_trap says.2 says.3
    (by_pattern source p None _ n (trap says.2 says.3) (done.of_run by.trace.params by.trace.inputs by.fits.params by.fits.inputs) by.fails)
claims source p limits c told (Reached n) done says = tt
claims source p limits c told (Depth k) done says =
    let on = says.1 in
    on.is_last ∙ ap (λ (e : Ending). Some e) (as_pattern on.last
    (by_pattern source p on.trace.prev _ _ (cause_of on.last) (done.from_image on.image on.trace.inputs on.fits.values on.fits.inputs) on.fails))
claims source p limits c told (Loop n) done says =
    let by = says.3 in
    no_over says.1
    (by_pattern source p None _ n (over says.1) (done.of_run by.trace.params by.trace.inputs by.fits.params by.fits.inputs) by.fails)
claims source p limits c told (Lemmas b) done says = tt
claims source p limits c told (Region x) done says = tt
