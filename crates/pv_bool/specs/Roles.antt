-- The roles of bits: which take a value from a scan's input, and which a state has.
use Rattle.std.specs.Prelude.{Bool, true, false}
use Rattle.pv_bool.specs.declared.program.BitRole.{BitRole}
use Rattle.pv_bool.specs.declared.program.BitRole.TheVariants.{Input, Kept}

abbrev pub is_input : BitRole → Bool
is_input Input = true
is_input Kept = false

abbrev pub is_kept : BitRole → Bool
is_kept Input = false
is_kept Kept = true
