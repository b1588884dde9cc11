-- The scans of a run: which are done, and the trap by which the last one ends.
use Rattle.std.specs.Prelude.{ℕ, List, [], ◌∷◌, count_by, Bool, true, false, Option, Some, None}
use Rattle.pv_place.specs.declared.place.Place.{Place}
use Rattle.pv_place.specs.declared.trap.TrapKind.{TrapKind}
use Rattle.pv_mean.specs.Endings.{ended, trapped, over as over_end}
use Rattle.pv_mean.specs.Scans.{Scan, ScanEnd}

abbrev pub is_done : ScanEnd → Bool
is_done (ended values) = true
is_done (trapped kind place) = false
is_done (over_end place) = false

-- how many of them are done
abbrev pub done_in : List Scan → ℕ
done_in scans = count_by (λ s. is_done s.end) scans

-- the trap by which a scan ends, if it does
abbrev pub trap_of : ScanEnd → Option (TrapKind × Place)
trap_of (ended values) = None
trap_of (trapped kind place) = Some (kind, place)
trap_of (over_end place) = None

-- that of the last one
abbrev pub last_trap : List Scan → Option (TrapKind × Place)
last_trap [] = None
last_trap (s ∷ []) = trap_of s.end
last_trap (s ∷ t ∷ more) = last_trap (t ∷ more)
