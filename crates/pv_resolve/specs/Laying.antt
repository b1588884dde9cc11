-- What is laid out, level by level.
use Rattle.pv_names.specs.Views.{held_tree}
use Rattle.pv_mean.specs.Layout as layout
use Rattle.pv_resolve.specs.declared.laid.LaidLevel.{LaidLevel}

abbrev pub laid_tree : LaidLevel → layout.Laid
laid_tree l = record { ty = held_tree l.ty; first = l.first }
