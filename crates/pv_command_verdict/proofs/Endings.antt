-- How the last scan of a run ends, told of the source's run and of its machine.
use Rattle.std.proofs.Common.{◌≡◌, ℕ, zero, suc, List, [], ◌∷◌, length, Bool, true, false, Option, Some, None, refl, ap, subst, ◌∙◌, arith}
use Rattle.std.specs.Prelude.{option_map}
use Rattle.pv_place.specs.declared.place.Place.{Place}
use Rattle.pv_place.specs.declared.trap.TrapKind.{TrapKind}
use Rattle.pv_machine.specs.Machines.{Step}
use Rattle.pv_mean.specs.Sources.{Source}
use Rattle.pv_mean.specs.Frames.{Image, Input, image_len}
use Rattle.pv_mean.specs.Endings.{ended, trapped, over as over_end}
use Rattle.pv_mean.specs.Scans.{Visible, ScanEnd, scan, next_image}
use Rattle.pv_mean.specs.Runs.{after, run_from}
use Rattle.pv_mean.proofs.ForCallers.{length-image_after}
use Rattle.pv_pattern.specs.Patterns.{Pattern, judge, mark, asks_for_goal}
use Rattle.pv_pattern.specs.Failing.{Cause, pattern, trap, is_failure, ends_by, mark_of, FailsFirstFrom}
use Rattle.pv_pattern.specs.Sources.{state_of, step_of, machine_of}
use Rattle.pv_claims.specs.declared.trace.Ending.TheVariants as ending
use Rattle.pv_stretch.specs.Stretches.{ending_of}
use Rattle.pv_stretch.proofs.ForCallers.{step_is}
use Rattle.pv_valid.specs.Shown as shown
use Rattle.pv_valid.specs.Shown.{left_by, last_ending}

-- none is no cause
abbrev IsNo : Option Cause → Type 0
IsNo None = Unit {0}
IsNo (Some cause) = ⊥

module _ (source : Source) (p : Pattern) where
  by_failure : (b : Bool) (cause : Cause) → elim b [ true ↦ Some pattern | false ↦ None ] ≡ Some cause
      → Some ending.Pattern ≡ Some (ending_of cause)
  by_failure true cause h = ap (option_map ending_of) h
  by_failure false cause h = absurd (subst IsNo h tt)

  by_trap : (goal : Bool) (kind : TrapKind) (place : Place) (cause : Cause)
      → elim goal [ true ↦ None | false ↦ Some (trap kind place) ] ≡ Some cause
      → Some (ending.Trap kind place) ≡ Some (ending_of cause)
  by_trap true kind place cause h = absurd (subst IsNo h tt)
  by_trap false kind place cause h = ap (option_map ending_of) h

  -- a scan that fails so, as a step of the machine
  as_step : (prev : Option Bool) (begin : Visible) (e : ScanEnd) (cause : Cause) → ends_by source p prev begin e ≡ Some cause
      → Some (shown.ending_of (step_of source p begin e)) ≡ Some (ending_of cause)
  as_step prev begin (ended end) cause h = by_failure (is_failure p (judge source p prev begin end)) cause h
  as_step prev begin (trapped kind place) cause h = by_trap (asks_for_goal p) kind place cause h
  as_step prev begin (over_end place) cause h = ap (option_map ending_of) h

  -- where the last of the inputs' scans is the first that fails, it ends so
  pub ends_last : (prev : Option Bool) (image : Image) (inputs : List Input) (n : ℕ) (cause : Cause)
      → length image ≡ image_len source.cells → n ≡ length inputs
      → FailsFirstFrom source p prev (run_from source image inputs) n cause
      → last_ending (machine_of source p) (state_of p image prev) inputs ≡ Some (ending_of cause)
  ends_last prev image [] n cause fits len f = absurd f
  ends_last prev image (i ∷ inputs) zero cause fits len f = absurd f
  ends_last prev image (i ∷ []) (suc zero) cause fits len f =
      ap (λ (s : Step). Some (shown.ending_of s)) (step_is source p image prev i fits)
      ∙ as_step prev (scan source image i).beginning (scan source image i).end cause f
  ends_last prev image (i ∷ j ∷ inputs) (suc zero) cause fits len f = absurd (omega (arith, len))
  ends_last prev image (i ∷ []) (suc (suc n)) cause fits len f = absurd (omega (arith, len))
  ends_last prev image (i ∷ j ∷ inputs) (suc (suc n)) cause fits len f =
      lead (scan source image i).end refl
      (λ next mark ok later. ends_last mark next (j ∷ inputs) (suc n) cause ok (omega (arith, len)) later) f.1
    where
      lead : (e : ScanEnd) → (scan source image i).end ≡ e
          → ((next : Image) (mark : Option Bool) → length next ≡ image_len source.cells
          → FailsFirstFrom source p mark (run_from source next (j ∷ inputs)) (suc n) cause
          → last_ending (machine_of source p) (state_of p next mark) (j ∷ inputs) ≡ Some (ending_of cause))
          → FailsFirstFrom source p (mark_of source p e)
          (after source (scan source image i).beginning e (λ next. run_from source next (j ∷ inputs))) (suc n) cause
          → last_ending (machine_of source p) (state_of p image prev) (i ∷ j ∷ inputs) ≡ Some (ending_of cause)
      lead (ended end) ends more later =
          ap (λ (s : Step). elim (left_by s) [ None ↦ None | Some t ↦ last_ending (machine_of source p) t (j ∷ inputs) ])
          (step_is source p image prev i fits ∙ ap (λ e. step_of source p (scan source image i).beginning e) ends)
          ∙ more (next_image source (scan source image i).beginning end) (Some (mark source p end))
          (length-image_after source.cells (scan source image i).beginning end) later
      lead (trapped kind place) ends more later = absurd later
      lead (over_end place) ends more later = absurd later
