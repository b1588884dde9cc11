-- How a replay ends, by the scans of its run: no scan fails, or one is the first that does. Of a requirement that asks for a goal a scan
-- fails where the goal is reached, and a trap ends the run without failing.
use Rattle.std.specs.Prelude.{◌≡◌, List, length, true, false}
use Rattle.pv_mean.specs.Sources.{Source}
use Rattle.pv_mean.specs.Scans.{Scan}
use Rattle.pv_pattern.specs.Patterns.{Pattern, asks_for_goal}
use Rattle.pv_pattern.specs.Failing as failing
use Rattle.pv_pattern.specs.Failing.{NoneFails, FailsFirst}
use Rattle.pv_stretch.specs.Scans.{done_in, last_trap}
use Rattle.pv_command_replay.specs.declared.end.Cause.{Cause}
use Rattle.pv_command_replay.specs.declared.end.Cause.TheVariants as cause
use Rattle.pv_command_replay.specs.declared.end.End.{End}
use Rattle.pv_command_replay.specs.declared.end.End.TheVariants.{Kept, Broken, Over, Reached, NotReached}

abbrev pub cause_of : Cause → failing.Cause
cause_of cause.Pattern = failing.pattern
cause_of (cause.Trap kind place) = failing.trap kind place

-- none of the n scans fails; the n-th, counted from 1, is the first that fails, and by this; no scan reaches the goal, n are done, and
-- the last one traps so or not
abbrev pub IsEnd : Source → Pattern → List Scan → End → Type 0
IsEnd source p scans (Kept n) =
    (asks_for_goal p ≡ false) × NoneFails source p scans × (n ≡ length scans)
IsEnd source p scans (Broken n by) =
    (asks_for_goal p ≡ false) × FailsFirst source p scans n (cause_of by)
IsEnd source p scans (Over n place) = FailsFirst source p scans n (failing.over place)
IsEnd source p scans (Reached n) =
    (asks_for_goal p ≡ true) × FailsFirst source p scans n failing.pattern
IsEnd source p scans (NotReached n trap) =
    (asks_for_goal p ≡ true) × NoneFails source p scans × (n ≡ done_in scans)
    × (trap ≡ last_trap scans)
