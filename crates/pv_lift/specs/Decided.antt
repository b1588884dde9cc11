-- What a decision by a lift says of the source, by the runs of the source alone.
use Rattle.std.specs.Prelude.{ℕ, ◌+◌, ◌<◌, ◌≤◌, List, length}
use Rattle.std.specs.List.{AllByRecursion}
use Rattle.pv_place.specs.Ranges.{AreWithin}
use Rattle.pv_mean.specs.Sources.{Source}
use Rattle.pv_mean.specs.Frames.{Image, Input, Params, input_ranges, param_ranges}
use Rattle.pv_mean.specs.Runs.{run, run_from}
use Rattle.pv_pattern.specs.Patterns.{Pattern}
use Rattle.pv_pattern.specs.Failing.{Cause, FailsFirst, NoneFails}
use Rattle.pv_pattern.specs.Sources.{looks_back, IsSatisfied}
use Rattle.pv_claims.specs.declared.trace.Trace.{Trace}
use Rattle.pv_stretch.specs.Stretches.{stretch_of}
use Rattle.pv_stretch.specs.Correct.{FailsLast}
use Rattle.pv_kind.specs.declared.decision.Limits.{Limits}
use Rattle.pv_kind.specs.declared.decision.End.{End}
use Rattle.pv_kind.specs.declared.decision.End.TheVariants.{Proved, Failed, Depth, SpentLemmas, SpentRegion}
use Rattle.pv_lift.specs.Traces.{FitsRun, FitsStretch}

-- the run by the trace fails first at its n-th scan, and no run fails at one before its n-th
pub record FailsBy (source : Source) (p : Pattern) (n : ℕ) (t : Trace) : Type 0 where
  pub fits : FitsRun source.cells n t
  pub cause : Cause
  pub fails : FailsFirst source p (run source t.params t.inputs) n cause
  pub earlier : (params : Params) (inputs : List Input) → AreWithin (param_ranges source.cells) params
      → AllByRecursion (AreWithin (input_ranges source.cells)) inputs → length inputs < n → NoneFails source p (run source params inputs)

-- from the trace's image and mark k scans are done and don't fail, and the next one fails; no run fails at one of its first k scans
pub record GoesOnBy (source : Source) (p : Pattern) (k : ℕ) (t : Trace) : Type 0 where
  pub image : Image
  pub fits : FitsStretch source.cells (looks_back p) (k + 1) t image
  pub fails : FailsLast t.inputs (stretch_of source p t.prev (run_from source image t.inputs))
  pub earlier : (params : Params) (inputs : List Input) → AreWithin (param_ranges source.cells) params
      → AllByRecursion (AreWithin (input_ranges source.cells)) inputs → length inputs ≤ k → NoneFails source p (run source params inputs)

-- what an end says of the source
abbrev pub SaysOf : Source → Pattern → Limits → End → Type 0
SaysOf source p limits (Proved k) = (k ≤ limits.depth) × IsSatisfied source p
SaysOf source p limits (Failed n t) = (n ≤ limits.depth) × FailsBy source p n t
SaysOf source p limits (Depth t) = GoesOnBy source p limits.depth t
SaysOf source p limits SpentLemmas = Unit {0}
SaysOf source p limits (SpentRegion need next) = Unit {0}
