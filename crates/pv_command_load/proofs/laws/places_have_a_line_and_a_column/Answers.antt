use Rattle.pv_command_load.proofs.LineLaws.{line_at}
use Rattle.pv_command_load.proofs.laws.places_have_a_line_and_a_column.Goals as goal

pub returns : goal.returns
returns c = line_at
