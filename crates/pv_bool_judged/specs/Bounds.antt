-- The least and the greatest value of a bit.
use Rattle.std.specs.Prelude.{pos}
use Rattle.pv_valid.specs.Cases.{Bounds}

abbrev pub bit_bounds : Bounds
bit_bounds = (pos 0, pos 1)
