-- How the scans of a replay are judged one by one. Private clauses cite this.
use Rattle.std.specs.Prelude.{◌≡◌, Bool, true, false, Option, Some, None}
use Rattle.pv_place.specs.declared.place.Place.{Place}
use Rattle.pv_place.specs.declared.trap.TrapKind.{TrapKind}
use Rattle.pv_mean.specs.Sources.{Source}
use Rattle.pv_mean.specs.Frames.{Input}
use Rattle.pv_mean.specs.Endings.{ended}
use Rattle.pv_mean.specs.Scans.{scan, next_image}
use Rattle.pv_pattern.specs.declared.pattern.Pattern.{Pattern as Found}
use Rattle.pv_pattern.specs.declared.pattern.Pattern.TheVariants as found
use Rattle.pv_replay.specs.declared.replay.Replay.{Replay}
use Rattle.pv_replay.specs.Replays.{image_of, end_of, is_ready}
use Rattle.pv_claims.specs.declared.trace.Ending.TheVariants as ending
use Rattle.pv_stretch.specs.declared.ends.StretchEnd.{StretchEnd}
use Rattle.pv_stretch.specs.declared.ends.StretchEnd.TheVariants.{Fails, Stopped}

-- ---- by whether a goal is asked for

abbrev pub is_goal : Found → Bool
is_goal (found.Invariant s) = false
is_goal (found.Forbidden s) = false
is_goal (found.Implication s t) = false
is_goal (found.Within s t) = false
is_goal (found.Between s t u) = false
is_goal (found.Reach s) = true

-- a scan is done, and the pattern is judged so
abbrev pub judged_by : Bool → Bool → Option StretchEnd
judged_by true true = Some (Fails ending.Pattern)
judged_by true false = None
judged_by false true = None
judged_by false false = Some (Fails ending.Pattern)

-- a scan traps
abbrev pub trapped_by : Bool → TrapKind → Place → StretchEnd
trapped_by true kind place = Stopped kind place
trapped_by false kind place = Fails (ending.Trap kind place)

-- ---- along a replay

-- the scan is done, and the replay may go on with what it leaves
pub record GoesOn (source : Source) (before after : Replay) (input : Input) : Type 0 where
  pub ready : is_ready after ≡ true
  pub ends : (scan source (image_of before) input).end ≡ ended (end_of after)
  pub leaves : image_of after
      ≡ next_image source (scan source (image_of before) input).beginning (end_of after)
