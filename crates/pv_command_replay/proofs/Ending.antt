-- How a run ends is what its stretch says of it.
use Rattle.std.proofs.Common.{◌≡◌, ℕ, zero, suc, ◌+◌, List, [], ◌∷◌, Bool, true, false, Option, Some, None, refl, sym, ap}
use Rattle.std.proofs.lemmas.Bool.{true≢false}
use Rattle.std.proofs.lemmas.Option.{same_Some, none-some}
use Rattle.pv_place.specs.declared.place.Place.{Place}
use Rattle.pv_place.specs.declared.trap.TrapKind.{TrapKind}
use Rattle.pv_mean.specs.Sources.{Source}
use Rattle.pv_mean.specs.Frames.{Image, Input}
use Rattle.pv_mean.specs.Endings.{ended, trapped, over as over_end}
use Rattle.pv_mean.specs.Scans.{Visible, Scan, ScanEnd}
use Rattle.pv_mean.specs.Runs.{run_from}
use Rattle.pv_pattern.specs.Patterns.{Pattern, judge, asks_for_goal}
use Rattle.pv_pattern.specs.Failing.{Cause, pattern, trap, over, is_failure, ends_by, mark_of, FailsFirstFrom}
use Rattle.pv_claims.specs.declared.trace.Ending.TheVariants as ending
use Rattle.pv_stretch.specs.declared.ends.StretchEnd.{StretchEnd}
use Rattle.pv_stretch.specs.declared.ends.StretchEnd.TheVariants.{Fails, Stopped}
use Rattle.pv_stretch.specs.declared.ends.Stretch.{Stretch}
use Rattle.pv_stretch.specs.Stretches.{stretch_of}
use Rattle.pv_stretch.specs.Correct.{EndsSo, IsStretchOf}
use Rattle.pv_stretch.proofs.ForCallers.{is_stretch}
use Rattle.pv_command_replay.specs.Ends.{IsEnd}
use Rattle.pv_command_replay.specs.Judged.{finished_behind, judged_at, end_by, end_behind}

-- ---- a trap is no failure where a goal is asked for

is_trap : Cause → Bool
is_trap pattern = false
is_trap (trap kind place) = true
is_trap (over place) = false

no_pattern : (failure : Bool) (kind : TrapKind) (place : Place)
    → elim failure [ true ↦ Some pattern | false ↦ None ] ≡ Some (trap kind place) → ⊥
unfolding is_trap
no_pattern true kind place e = true≢false (sym (ap is_trap (same_Some pattern (trap kind place) e)))
no_pattern false kind place e = none-some (trap kind place) e

no_goal : (p : Pattern) (goal : Bool) (kind : TrapKind) (place : Place) (cause : Cause) → asks_for_goal p ≡ goal
    → elim goal [ true ↦ None | false ↦ Some (trap kind place) ] ≡ Some cause → asks_for_goal p ≡ false
no_goal p true kind place cause asks e = absurd (none-some cause e)
no_goal p false kind place cause asks e = asks

by_end : (source : Source) (p : Pattern) (prev : Option Bool) (beginning : Visible) (end : ScanEnd) (kind : TrapKind) (place : Place)
    → ends_by source p prev beginning end ≡ Some (trap kind place) → asks_for_goal p ≡ false
unfolding is_trap
by_end source p prev beginning (ended values) kind place e =
    absurd (no_pattern (is_failure p (judge source p prev beginning values)) kind place e)
by_end source p prev beginning (trapped k at) kind place e = no_goal p (asks_for_goal p) k at (trap kind place) refl e
by_end source p prev beginning (over_end at) kind place e =
    absurd (true≢false (sym (ap is_trap (same_Some (over at) (trap kind place) e))))

trap_fails : (source : Source) (p : Pattern) (prev : Option Bool) (scans : List Scan) (n : ℕ) (kind : TrapKind) (place : Place)
    → FailsFirstFrom source p prev scans n (trap kind place) → asks_for_goal p ≡ false
trap_fails source p prev [] n kind place fails = absurd fails
trap_fails source p prev (s ∷ ss) zero kind place fails = absurd fails
trap_fails source p prev (s ∷ ss) (suc zero) kind place fails = by_end source p prev s.beginning s.end kind place fails
trap_fails source p prev (s ∷ ss) (suc (suc n)) kind place fails =
    trap_fails source p (mark_of source p s.end) ss (suc n) kind place fails.1

-- ---- by what a stretch says

module _ (source : Source) (p : Pattern) (scans : List Scan) (good : ℕ) where
  all_good : (goal : Bool) → asks_for_goal p ≡ goal → EndsSo source p None scans good None
      → IsEnd source p scans (finished_behind goal good)
  all_good true asks is = (asks, is.0, is.2, sym is.3)
  all_good false asks is = (asks, is.0, is.1)

  by_pattern : (goal : Bool) → asks_for_goal p ≡ goal → EndsSo source p None scans good (Some (Fails ending.Pattern))
      → IsEnd source p scans (judged_at goal (good + 1))
  by_pattern true asks is = (asks, is)
  by_pattern false asks is = (asks, is)

  ends_so : (end : Option StretchEnd) → EndsSo source p None scans good end → IsEnd source p scans (end_by (asks_for_goal p) good end)
  ends_so None is = all_good (asks_for_goal p) refl is
  ends_so (Some (Fails ending.Pattern)) is = by_pattern (asks_for_goal p) refl is
  ends_so (Some (Fails (ending.Trap kind place))) is = (trap_fails source p None scans (good + 1) kind place is, is)
  ends_so (Some (Fails (ending.Over place))) is = is
  ends_so (Some (Stopped kind place)) is = (is.0, is.1, is.2, sym is.3)

stretch_ends : (source : Source) (p : Pattern) (scans : List Scan) (s : Stretch) → IsStretchOf source p None scans s
    → IsEnd source p scans (end_behind (asks_for_goal p) s)
stretch_ends source p scans s is = ends_so source p scans s.good s.ending is

pub run_ends : (source : Source) (p : Pattern) (image : Image) (inputs : List Input)
    → IsEnd source p (run_from source image inputs) (end_behind (asks_for_goal p) (stretch_of source p None (run_from source image inputs)))
run_ends source p image inputs =
    stretch_ends source p (run_from source image inputs) (stretch_of source p None (run_from source image inputs))
    (is_stretch source p None image inputs)
