-- The literal that an expression is, by what it is to the operators around it.
use Rattle.std.specs.Prelude.{Option, Some, None}
use Rattle.pv_tree.specs.Sorts.{Sort, untyped, typed, one, whole, broken}
use Rattle.pv_tree.specs.Types.{Written}

abbrev pub written_of : Sort → Option Written
written_of (untyped v) = Some (record { ty = None; value = v })
written_of (typed ty v) = Some (record { ty = Some ty; value = v })
written_of (one ty) = None
written_of whole = None
written_of broken = None
