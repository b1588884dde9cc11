-- What laws say of what files hold of the form: every scan is done, and what is counted is the size of the block's automaton.
use Rattle.std.specs.Prelude.{◌≡◌, ◌⊎◌, ◌↔◌, ◌<◌, ℕ, List, Option, Some}
use Rattle.std.specs.List.{AllByRecursion}
use Rattle.pv_place.specs.Ranges.{AreWithin}
use Rattle.pv_mean.specs.Sources.{Source}
use Rattle.pv_mean.specs.Frames.{Image, Input, Params, image_ranges, input_ranges, param_ranges}
use Rattle.pv_mean.specs.Endings.{ended}
use Rattle.pv_mean.specs.Scans.{Visible, Scan}
use Rattle.pv_mean.specs.Runs.{run, run_from}
use Rattle.pv_claims.specs.declared.claim.Claim.{Claim}
use Rattle.pv_claims.specs.declared.claim.Claim.TheVariants.{Satisfied, Unreachable, Violated, Trapped, Reached, Depth, Loop, Lemmas, Region}
use Rattle.pv_claims.specs.declared.trace.Ending.{Ending}
use Rattle.pv_claims.specs.declared.trace.Ending.TheVariants as ending
use Rattle.pv_sizes.specs.declared.count.TheConstants.{MAX_EDGES}
use Rattle.pv_sizes.specs.Sizes.{size_of_block}
use Rattle.pv_bool_load.specs.Handed.{SubjectData, scope_of}
use Rattle.pv_command_verdict.specs.Sizes.{edges_of, HasTooManyEdges}

-- ---- scans

-- it doesn't trap, nor does it go over a loop's bound
abbrev pub IsDone : Scan → Type 0
IsDone s = (end : Visible) × (s.end ≡ ended end)

-- each scan from an image on is done, and so is each of a run
pub record ScansAreDone (source : Source) : Type 0 where
  pub from_image : (image : Image) (inputs : List Input) → AreWithin (image_ranges source.cells) image
      → AllByRecursion (AreWithin (input_ranges source.cells)) inputs → AllByRecursion IsDone (run_from source image inputs)
  pub of_run : (params : Params) (inputs : List Input) → AreWithin (param_ranges source.cells) params
      → AllByRecursion (AreWithin (input_ranges source.cells)) inputs → AllByRecursion IsDone (run source params inputs)

-- so no verdict is that a scan traps or goes over, and the scan that fails beyond a depth fails by the requirement
abbrev pub IsByPattern : Option Ending → Claim → Type 0
IsByPattern told (Satisfied k) = Unit {0}
IsByPattern told (Unreachable k) = Unit {0}
IsByPattern told (Violated n) = Unit {0}
IsByPattern told (Trapped n) = ⊥
IsByPattern told (Reached n) = Unit {0}
IsByPattern told (Depth k) = told ≡ Some ending.Pattern
IsByPattern told (Loop n) = ⊥
IsByPattern told (Lemmas b) = Unit {0}
IsByPattern told (Region x) = Unit {0}

-- ---- edges

abbrev pub block_size_of : SubjectData → ℕ
block_size_of s = size_of_block (scope_of s.given s.entered)

-- the size is the count, but that a body without statements is one edge; so both pass the limit, or neither does
pub record CountsEdges (s : SubjectData) : Type 0 where
  pub size : (block_size_of s ≡ edges_of s) ⊎ ((edges_of s ≡ 0) × (block_size_of s ≡ 1))
  pub limit : HasTooManyEdges s ↔ (MAX_EDGES < block_size_of s)
