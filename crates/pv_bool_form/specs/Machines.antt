-- What the law of machines says of a source and a pattern of the first form.
use Rattle.std.specs.Prelude.{◌≤◌, ◌↔◌, ℕ, length}
use Rattle.pv_place.specs.Ranges.{AreWithin}
use Rattle.pv_types.specs.declared.layout.TheConstants.{MAX_LEAVES}
use Rattle.pv_machine.specs.Machines.{Machine, IsLawful}
use Rattle.pv_machine.specs.Queries.{MeetsBase, MeetsStep}
use Rattle.pv_machine.specs.Same.{IsSame}
use Rattle.pv_bool.specs.Tree.{IsProgram}
use Rattle.pv_bool.specs.Machine.{machine_of as program_machine}
use Rattle.pv_mean.specs.Frames.{Image, Input, image_ranges, input_ranges}
use Rattle.pv_mean.specs.Sources.{Source}
use Rattle.pv_pattern.specs.Patterns.{Pattern}
use Rattle.pv_pattern.specs.Sources.{machine_of}
use Rattle.pv_bool_form.specs.Programs.{pattern_program}
use Rattle.pv_bool_form.specs.Correct.{IsScanOfPattern}

-- two machines that do the same, and so meet the same queries
pub record DoTheSame (m n : Machine) : Type 0 where
  pub same : IsSame m n
  pub lawful : IsLawful m
  pub base : (k : ℕ) → MeetsBase m k ↔ MeetsBase n k
  pub step : (k : ℕ) → MeetsStep m k ↔ MeetsStep n k

-- the machine of a source and its pattern does what that of the Boolean program does. Each scan is done, as the program has it, so that
-- a goal fails where it is reached and nowhere else. The program names only its own bits, of which there are no more than a table has
-- cells
pub record IsOfSource (source : Source) (p : Pattern) : Type 0 where
  pub machines : DoTheSame (machine_of source p) (program_machine (pattern_program source p))
  pub scans : (image : Image) (input : Input) → AreWithin (image_ranges source.cells) image
      → AreWithin (input_ranges source.cells) input → IsScanOfPattern source p image input
  pub program : IsProgram (pattern_program source p)
  pub few : length (pattern_program source p).bits ≤ MAX_LEAVES
