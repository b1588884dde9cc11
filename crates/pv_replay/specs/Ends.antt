-- How a scan ends, as the definitions have it.
use Rattle.std.specs.Prelude.{List, ℤ, Bool, true, false}
use Rattle.pv_mean.specs.Endings.{ended, trapped, over}
use Rattle.pv_mean.specs.Scans.{ScanEnd as End}
use Rattle.pv_replay.specs.declared.end.ScanEnd.{ScanEnd}
use Rattle.pv_replay.specs.declared.end.ScanEnd.TheVariants.{Done, Trap, Over}

-- done with these visible cells, or stopped
abbrev pub scan_end : ScanEnd → List ℤ → End
scan_end Done values = ended values
scan_end (Trap kind place) values = trapped kind place
scan_end (Over place) values = over place

-- the scans may go on
abbrev pub is_done : ScanEnd → Bool
is_done Done = true
is_done (Trap kind place) = false
is_done (Over place) = false
