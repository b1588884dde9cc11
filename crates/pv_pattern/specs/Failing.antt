-- Failing scans along a run. A scan that is done fails where the pattern doesn't hold, and one that traps or goes over a loop's
-- bound fails. Of a pattern that asks for a goal a scan that is done fails where the goal is reached, one that goes over fails,
-- and one that traps ends the run without failing.
use Rattle.std.specs.Prelude.{◌≡◌, ℕ, zero, suc, List, [], ◌∷◌, Bool, true, false, not, Option, Some, None}
use Rattle.pv_place.specs.declared.place.Place.{Place}
use Rattle.pv_place.specs.declared.trap.TrapKind.{TrapKind}
use Rattle.pv_mean.specs.Sources.{Source}
use Rattle.pv_mean.specs.Endings.{ended, trapped, over as over_end}
use Rattle.pv_mean.specs.Scans.{Visible, Scan, ScanEnd}
use Rattle.pv_pattern.specs.Patterns.{Pattern, judge, mark, asks_for_goal}

-- why a scan fails: the pattern, a trap, or a loop's bound
pub data Cause : Type 0 where
  pattern : Cause
  trap : TrapKind → Place → Cause
  over : Place → Cause

-- whether a scan that is done fails by this judgment: a goal that is reached is a failure, and a pattern that doesn't hold
abbrev pub is_failure : Pattern → Bool → Bool
is_failure p holds = elim (asks_for_goal p) [ true ↦ holds | false ↦ not holds ]

-- how a scan fails, if it does, where the scan before left this mark
abbrev pub ends_by : Source → Pattern → Option Bool → Visible → ScanEnd → Option Cause
ends_by source p prev begin (ended end) =
    elim (is_failure p (judge source p prev begin end)) [ true ↦ Some pattern | false ↦ None ]
ends_by source p prev begin (trapped kind place) =
    elim (asks_for_goal p) [ true ↦ None | false ↦ Some (trap kind place) ]
ends_by source p prev begin (over_end place) = Some (over place)

abbrev pub ends_as : Source → Pattern → Option Bool → Scan → Option Cause
ends_as source p prev s = ends_by source p prev s.beginning s.end

-- the mark that a scan leaves; one that isn't done leaves none
abbrev pub mark_of : Source → Pattern → ScanEnd → Option Bool
mark_of source p (ended end) = Some (mark source p end)
mark_of source p (trapped kind place) = None
mark_of source p (over_end place) = None

-- no scan of the run fails, where the scan before it left this mark
abbrev pub NoneFailsFrom : Source → Pattern → Option Bool → List Scan → Type 0
NoneFailsFrom source p prev [] = Unit {0}
NoneFailsFrom source p prev (s ∷ ss) =
    (ends_as source p prev s ≡ None) × NoneFailsFrom source p (mark_of source p s.end) ss

-- the first scan of the run that fails is its n-th, counted from 1, and this is why
abbrev pub FailsFirstFrom : Source → Pattern → Option Bool → List Scan → ℕ → Cause → Type 0
FailsFirstFrom source p prev [] n cause = ⊥
FailsFirstFrom source p prev (s ∷ ss) zero cause = ⊥
FailsFirstFrom source p prev (s ∷ ss) (suc zero) cause = ends_as source p prev s ≡ Some cause
FailsFirstFrom source p prev (s ∷ ss) (suc (suc n)) cause =
    (ends_as source p prev s ≡ None)
    × FailsFirstFrom source p (mark_of source p s.end) ss (suc n) cause

-- the same of a run from its first scan
abbrev pub NoneFails : Source → Pattern → List Scan → Type 0
NoneFails source p scans = NoneFailsFrom source p None scans

abbrev pub FailsFirst : Source → Pattern → List Scan → ℕ → Cause → Type 0
FailsFirst source p scans n cause = FailsFirstFrom source p None scans n cause
