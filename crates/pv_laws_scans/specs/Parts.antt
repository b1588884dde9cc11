-- The values of the input cells and of the stored cells among those of the visible ones, both in the order of the table.
use Rattle.std.specs.Prelude.{List, [], ◌∷◌}
use Rattle.pv_place.specs.declared.role.Role.{Role}
use Rattle.pv_place.specs.declared.role.Role.TheVariants.{Input as InputRole, Param, Kept, Brief}
use Rattle.pv_mean.specs.declared.cell.Cell.{Cell}
use Rattle.pv_mean.specs.Frames.{Image, Input, first, others}
use Rattle.pv_mean.specs.Scans.{Visible}

abbrev pub input_by : Role → (Visible → Input) → Visible → Input
input_by InputRole rest values = first values ∷ rest (others values)
input_by Param rest values = rest (others values)
input_by Kept rest values = rest (others values)
input_by Brief rest values = rest values

abbrev pub input_of : List Cell → Visible → Input
input_of [] values = []
input_of (c ∷ cs) values = input_by c.role (λ vs. input_of cs vs) values

abbrev pub image_by : Role → (Visible → Image) → Visible → Image
image_by InputRole rest values = rest (others values)
image_by Param rest values = first values ∷ rest (others values)
image_by Kept rest values = first values ∷ rest (others values)
image_by Brief rest values = rest values

abbrev pub image_of : List Cell → Visible → Image
image_of [] values = []
image_of (c ∷ cs) values = image_by c.role (λ vs. image_of cs vs) values
