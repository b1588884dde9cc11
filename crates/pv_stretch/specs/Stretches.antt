-- Stretches of scans: how many scans of a run are done and don't fail, before the first that fails or isn't done, and how that one ends.
use Rattle.std.specs.Prelude.{◌+◌, List, [], ◌∷◌, Bool, Option, Some, None}
use Rattle.pv_place.specs.Ranges.{AreWithin}
use Rattle.pv_mean.specs.Sources.{Source}
use Rattle.pv_mean.specs.Frames.{Image, param_ranges, image_ranges}
use Rattle.pv_mean.specs.Endings.{ended, trapped, over as over_end}
use Rattle.pv_mean.specs.Scans.{Scan, ScanEnd}
use Rattle.pv_mean.specs.Runs.{start}
use Rattle.pv_pattern.specs.Patterns.{Pattern}
use Rattle.pv_pattern.specs.Failing.{Cause, pattern, trap, over, ends_as, mark_of}
pub use Rattle.pv_replay.specs.Replays.{HasStarts}
use Rattle.pv_claims.specs.declared.trace.Ending.{Ending}
use Rattle.pv_claims.specs.declared.trace.Ending.TheVariants as ending
use Rattle.pv_stretch.specs.declared.ends.StretchStart.{StretchStart}
use Rattle.pv_stretch.specs.declared.ends.StretchStart.TheVariants as from
use Rattle.pv_stretch.specs.declared.ends.StretchEnd.{StretchEnd}
use Rattle.pv_stretch.specs.declared.ends.StretchEnd.TheVariants.{Fails, Stopped}
use Rattle.pv_stretch.specs.declared.ends.Stretch.{Stretch}

-- ---- where a stretch begins

-- the image before its first scan
abbrev pub image_at : Source → StretchStart → Image
image_at source (from.Params params) = start source params.now
image_at source (from.Image image prev) = image.now

-- the mark of the scan before it
abbrev pub mark_at : StretchStart → Option Bool
mark_at (from.Params params) = None
mark_at (from.Image image prev) = prev

-- a value in range for each parameter that isn't bound, or for each cell that is stored
abbrev pub HasValues : Source → StretchStart → Type 0
HasValues source (from.Params params) = AreWithin (param_ranges source.cells) params.now
HasValues source (from.Image image prev) = AreWithin (image_ranges source.cells) image.now

-- ---- how a scan ends one

abbrev pub ending_of : Cause → Ending
ending_of pattern = ending.Pattern
ending_of (trap kind place) = ending.Trap kind place
ending_of (over place) = ending.Over place

-- a trap that doesn't fail ends the run all the same
abbrev pub stops_as : ScanEnd → Option StretchEnd
stops_as (ended values) = None
stops_as (trapped kind place) = Some (Stopped kind place)
stops_as (over_end place) = None

abbrev pub fails_or : Option Cause → Option StretchEnd → Option StretchEnd
fails_or (Some cause) other = Some (Fails (ending_of cause))
fails_or None other = other

-- how the scan ends a stretch, if it does, where the scan before left this mark
abbrev pub last_of : Source → Pattern → Option Bool → Scan → Option StretchEnd
last_of source p prev s = fails_or (ends_as source p prev s) (stops_as s.end)

-- ---- the stretch of a run

-- one more scan is good
abbrev pub one_more : Stretch → Stretch
one_more later = record { good = later.good + 1; ending = later.ending }

-- what the first scan comes to, and else the scans behind it
abbrev pub last_or : Option StretchEnd → Stretch → Stretch
last_or (Some end) later = record { good = 0; ending = Some end }
last_or None later = one_more later

abbrev pub stretch_of : Source → Pattern → Option Bool → List Scan → Stretch
stretch_of source p prev [] = record { good = 0; ending = None }
stretch_of source p prev (s ∷ more) =
    last_or (last_of source p prev s) (stretch_of source p (mark_of source p s.end) more)
