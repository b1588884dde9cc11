-- How the last scan of a trace ends, by the stretch that replays it.
use Rattle.std.specs.Prelude.{◌≡◌, ℤ, List, Option, Some, None}
use Rattle.pv_claims.specs.declared.claim.Claim.TheVariants as claim
use Rattle.pv_claims.specs.declared.trace.Ending.{Ending}
use Rattle.pv_claims.specs.declared.trace.Ending.TheVariants as ending
use Rattle.pv_claims.specs.declared.trace.Trace.{Trace}
use Rattle.pv_kind.specs.declared.decision.End.{End}
use Rattle.pv_kind.specs.declared.decision.End.TheVariants.{Proved, Failed, Depth, SpentLemmas, SpentRegion}
use Rattle.pv_stretch.specs.declared.ends.StretchEnd.{StretchEnd}
use Rattle.pv_stretch.specs.declared.ends.StretchEnd.TheVariants.{Fails, Stopped}
use Rattle.pv_stretch.specs.declared.ends.StretchStart.{StretchStart}
use Rattle.pv_stretch.specs.declared.ends.StretchStart.TheVariants as from
use Rattle.pv_valid.specs.Cases.{Case}
use Rattle.pv_valid.specs.Validity.{Replays}

-- how the scan that ends a stretch ends
abbrev pub told_by : Option StretchEnd → Option Ending
told_by None = None
told_by (Some (Fails told)) = Some told
told_by (Some (Stopped kind place)) = Some (ending.Trap kind place)

-- the stretch begins where the trace does, which has this image or none
abbrev pub BeginsAt : Trace → Option (List ℤ) → StretchStart → Type 0
BeginsAt t None (from.Params params) = params.now ≡ t.params
BeginsAt t None (from.Image values prev) = ⊥
BeginsAt t (Some image) (from.Params params) = ⊥
BeginsAt t (Some image) (from.Image values prev) = (values.now ≡ image) × (prev ≡ t.prev)

-- each scan of the trace but the last is good, and the last fails in any way
abbrev pub ReplaysOnce : Case → Trace → Type 0
ReplaysOnce case t = Replays case (claim.Depth 0) t

-- so does the trace of an end, if it has one
abbrev pub EndReplays : Case → End → Type 0
EndReplays case (Proved k) = Unit {0}
EndReplays case (Failed n t) = ReplaysOnce case t
EndReplays case (Depth t) = ReplaysOnce case t
EndReplays case SpentLemmas = Unit {0}
EndReplays case (SpentRegion need next) = Unit {0}
