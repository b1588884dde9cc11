-- What laws say of stretches: which scans fail first, and which states and inputs a query's machine meets it by.
use Rattle.std.specs.Prelude.{◌≡◌, ℕ, ◌+◌, List, length, Bool, true, Option, Some, None}
use Rattle.pv_mean.specs.Sources.{Source}
use Rattle.pv_mean.specs.Frames.{Input}
use Rattle.pv_mean.specs.Scans.{Scan}
use Rattle.pv_pattern.specs.Patterns.{Pattern, asks_for_goal}
use Rattle.pv_pattern.specs.Failing.{Cause, pattern, trap, over, NoneFailsFrom, FailsFirstFrom}
use Rattle.pv_claims.specs.declared.trace.Ending.{Ending}
use Rattle.pv_claims.specs.declared.trace.Ending.TheVariants as ending
use Rattle.pv_stretch.specs.declared.ends.StretchEnd.{StretchEnd}
use Rattle.pv_stretch.specs.declared.ends.StretchEnd.TheVariants.{Fails, Stopped}
use Rattle.pv_stretch.specs.declared.ends.Stretch.{Stretch}
use Rattle.pv_stretch.specs.Scans.{done_in, last_trap}

-- ---- what a stretch says of them

-- the cause that is told
abbrev pub cause_of : Ending → Cause
cause_of ending.Pattern = pattern
cause_of (ending.Trap kind place) = trap kind place
cause_of (ending.Over place) = over place

-- no scan fails and all are done; the one behind the good ones is the first that fails, and so; or none fails, and a goal's trap is
-- the last
abbrev pub EndsSo : Source → Pattern → Option Bool → List Scan → ℕ → Option StretchEnd → Type 0
EndsSo source p prev scans good None = NoneFailsFrom source p prev scans × (good ≡ length scans)
    × (good ≡ done_in scans) × (last_trap scans ≡ None)
EndsSo source p prev scans good (Some (Fails told)) =
    FailsFirstFrom source p prev scans (good + 1) (cause_of told)
EndsSo source p prev scans good (Some (Stopped kind place)) = (asks_for_goal p ≡ true)
    × NoneFailsFrom source p prev scans × (good ≡ done_in scans)
    × (last_trap scans ≡ Some (kind, place))

abbrev pub IsStretchOf : Source → Pattern → Option Bool → List Scan → Stretch → Type 0
IsStretchOf source p prev scans s = EndsSo source p prev scans s.good s.ending

-- so many good scans, and one that fails so
abbrev pub fails_behind : ℕ → Ending → Stretch
fails_behind good told = record { good = good; ending = Some (Fails told) }

-- ---- what it says of queries

-- of so many scans as inputs each but the last is good, and the last fails
pub record FailsLast (inputs : List Input) (s : Stretch) : Type 0 where
  pub told : Ending
  pub good : s.good + 1 ≡ length inputs
  pub fails : s.ending ≡ Some (Fails told)
