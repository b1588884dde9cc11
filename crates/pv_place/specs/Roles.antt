-- The roles of cells: which take a value from a scan's input, and which an image has.
use Rattle.std.specs.Prelude.{Bool, true, false}
use Rattle.pv_place.specs.declared.role.Role.{Role}
use Rattle.pv_place.specs.declared.role.Role.TheVariants.{Input, Param, Kept, Brief}

-- an input takes a value from each scan's input
abbrev pub is_input : Role → Bool
is_input Input = true
is_input Param = false
is_input Kept = false
is_input Brief = false

-- an image has the values of parameters and of what is kept from scan to scan
abbrev pub is_stored : Role → Bool
is_stored Input = false
is_stored Param = true
is_stored Kept = true
is_stored Brief = false
