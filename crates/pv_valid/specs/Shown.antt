-- What scans show: that the last one fails, how it ends, and how many before it are good.
use Rattle.std.specs.Prelude.{◌≡◌, ℕ, zero, suc, true, false, List, [], ◌∷◌, Option, Some, None}
use Rattle.pv_machine.specs.Machines.{Machine, Values, Step, done, trap, over}
use Rattle.pv_machine.specs.Queries.{IsGoodScan}
use Rattle.pv_claims.specs.declared.trace.Ending.{Ending}
use Rattle.pv_claims.specs.declared.trace.Ending.TheVariants as ending
use Rattle.pv_stretch.specs.declared.ends.StretchEnd.{StretchEnd}
use Rattle.pv_stretch.specs.declared.ends.StretchEnd.TheVariants.{Fails, Stopped}

-- how a scan that fails ends
abbrev pub ending_of : Step → Ending
ending_of (done t) = ending.Pattern
ending_of (trap kind place) = ending.Trap kind place
ending_of (over place) = ending.Over place

-- from s by these inputs each scan but the last is done and doesn't fail, and the last fails and ends so
abbrev pub FailsAtLastAs : Machine → (Ending → Type 0) → Values → List Values → Type 0
FailsAtLastAs m EndsSo s [] = ⊥
FailsAtLastAs m EndsSo s (i ∷ []) = (m.fails s i ≡ true) × EndsSo (ending_of (m.step s i))
FailsAtLastAs m EndsSo s (i ∷ j ∷ inputs) = (t : Values) × IsGoodScan m s i t × FailsAtLastAs m EndsSo t (j ∷ inputs)

-- the state that a step leaves, if it is done
abbrev pub left_by : Step → Option Values
left_by (done t) = Some t
left_by (trap kind place) = None
left_by (over place) = None

-- how the last of these scans ends, where each before it is done
abbrev pub last_ending : Machine → Values → List Values → Option Ending
last_ending m s [] = None
last_ending m s (i ∷ []) = Some (ending_of (m.step s i))
last_ending m s (i ∷ j ∷ inputs) = elim (left_by (m.step s i)) [
  | None ↦ None
  | Some t ↦ last_ending m t (j ∷ inputs)
]

-- so the scan after the good ones ends: it fails, or it traps and doesn't fail
abbrev pub EndsStretch : Machine → Values → Values → StretchEnd → Type 0
EndsStretch m s i (Fails told) = (m.fails s i ≡ true) × (told ≡ ending_of (m.step s i))
EndsStretch m s i (Stopped kind place) = (m.fails s i ≡ false) × (m.step s i ≡ trap kind place)

-- of the scans from s by these inputs so many are good, and the next one, if there is one, ends the stretch so
abbrev pub IsStretch : Machine → Values → List Values → ℕ → Option StretchEnd → Type 0
IsStretch m s [] zero None = Unit {0}
IsStretch m s [] zero (Some end) = ⊥
IsStretch m s [] (suc good) end = ⊥
IsStretch m s (i ∷ inputs) zero None = ⊥
IsStretch m s (i ∷ inputs) zero (Some end) = EndsStretch m s i end
IsStretch m s (i ∷ inputs) (suc good) end = (t : Values) × IsGoodScan m s i t × IsStretch m t inputs good end
