use Rattle.std.proofs.Common.{◌≡◌, true}
use Rattle.std.specs.List.{AllByRecursion}
use Rattle.pv_place.specs.Ranges.{AreWithin}
use Rattle.pv_mean.specs.Sources.{Source}
use Rattle.pv_mean.specs.Frames.{input_ranges}
use Rattle.pv_pattern.specs.Patterns.{Pattern}
use Rattle.pv_pattern.specs.Found.{IsPatternOf}
use Rattle.pv_replay.specs.Replays.{IsReplayOf, image_of, is_ready}
use Rattle.pv_command_show.specs.Steps.{seen_in}
use Rattle.pv_command_show.proofs.Telling.{Remains}
use Rattle.pv_command_show.proofs.scans.push_scans.Given as goal

-- the scans so far are told, and the replay goes on with what is left
abbrev pub invariant-loop-done : goal.invariant-loop-done
invariant-loop-done l =
    (source : Source) (p : Pattern) → IsReplayOf source l.fn.replay → is_ready l.fn.replay ≡ true
    → IsPatternOf source l.pattern p → AllByRecursion (AreWithin (input_ranges source.cells)) l.inputs
    → Remains source p (image_of l.fn.replay) l.inputs l.fn.text.items l.done (seen_in l.before) l.replay l.text.items
