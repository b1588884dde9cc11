-- What the laws of programs say of a scan.
use Rattle.std.specs.Prelude.{◌≡◌, Bool, not, Option, is_some}
use Rattle.pv_tree.specs.Tree.{ExprTree}
use Rattle.pv_bool.specs.Scans.{scan_end, next_state, keeps}
use Rattle.pv_bool.specs.Machine.{numbers_of, bits_of, number_of as number_of_bit}
use Rattle.pv_mean.specs.Frames.{Image, Input}
use Rattle.pv_mean.specs.Sources.{Source}
use Rattle.pv_mean.specs.Endings.{got, ended}
use Rattle.pv_mean.specs.Scans.{Visible, scan, next_image, pattern_value}
use Rattle.pv_pattern.specs.Patterns.{Pattern}
use Rattle.pv_pattern.specs.Failing.{ends_as}
use Rattle.pv_bool_form.specs.Programs.{program_of, pattern_program}

-- the visible cells at the end of the scan of the source's Boolean program
abbrev pub program_end : Source → ExprTree → Image → Input → Visible
program_end source a image input =
    numbers_of (scan_end (program_of source a) (bits_of image) (bits_of input))

-- the source's scan is that of its Boolean program: it is done, with the program's values, with the program's state as the image
-- that it leaves, and with the value that the program's requirement has as that of the expression
pub record IsScanOfProgram (source : Source) (a : ExprTree) (image : Image) (input : Input) : Type 0 where
  pub ends : (scan source image input).end ≡ ended (program_end source a image input)
  pub next : next_image source (scan source image input).beginning
      (program_end source a image input)
      ≡ numbers_of (next_state (program_of source a) (bits_of image) (bits_of input))
  pub holds : pattern_value source (program_end source a image input) a
      ≡ got (number_of_bit (keeps (program_of source a) (bits_of image) (bits_of input)))

-- ---- patterns

abbrev pub pattern_end : Source → Pattern → Image → Input → Visible
pattern_end source p image input =
    numbers_of (scan_end (pattern_program source p) (bits_of image) (bits_of input))

-- the same of a pattern's program, whose requirement doesn't hold exactly where the scan fails, whatever mark the scan before left.
-- The scan is done, so a goal fails where it is reached and nowhere else
pub record IsScanOfPattern (source : Source) (p : Pattern) (image : Image) (input : Input) : Type 0 where
  pub ends : (scan source image input).end ≡ ended (pattern_end source p image input)
  pub next : next_image source (scan source image input).beginning
      (pattern_end source p image input)
      ≡ numbers_of (next_state (pattern_program source p) (bits_of image) (bits_of input))
  pub fails : (prev : Option Bool) → is_some (ends_as source p prev (scan source image input))
      ≡ not (keeps (pattern_program source p) (bits_of image) (bits_of input))
