use Rattle.std.proofs.Common.{◌≡◌, true}
use Rattle.std.specs.List.{AllByRecursion}
use Rattle.pv_place.specs.Ranges.{AreWithin}
use Rattle.pv_mean.specs.Sources.{Source}
use Rattle.pv_mean.specs.Frames.{input_ranges}
use Rattle.pv_pattern.specs.Patterns.{Pattern}
use Rattle.pv_pattern.specs.Found.{IsPatternOf}
use Rattle.pv_replay.specs.Replays.{IsReplayOf, image_of, is_ready, cells_of, view_of}
use Rattle.pv_stretch.proofs.Scanning.{Remains}
use Rattle.pv_stretch.proofs.scans.scanned.Given as goal

-- the scans so far are good, the replay goes on with what is left, and it stays one of the same cells, view and sources
abbrev pub invariant-loop-done : goal.invariant-loop-done
invariant-loop-done l =
    ((source : Source) (p : Pattern) → IsReplayOf source l.fn.replay → is_ready l.fn.replay ≡ true
    → IsPatternOf source l.pattern p → AllByRecursion (AreWithin (input_ranges source.cells)) l.inputs
    → Remains source p l.fn.first (image_of l.fn.replay) l.inputs l.done l.prev l.replay)
    × (cells_of l.replay ≡ cells_of l.fn.replay) × (view_of l.replay ≡ view_of l.fn.replay)
    × ((source : Source) → IsReplayOf source l.fn.replay → IsReplayOf source l.replay)
