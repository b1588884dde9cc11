-- The code's literals as they are written.
use Rattle.pv_tree.specs.Types as types
use Rattle.pv_names.specs.Sorts.{number_value}
use Rattle.pv_names.specs.declared.literal.Written.{Written}

abbrev pub written_tree : Written → types.Written
written_tree w = record { ty = w.ty; value = number_value w.number }
