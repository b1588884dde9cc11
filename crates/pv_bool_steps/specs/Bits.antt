-- How many bits a program may have, so that a circuit has an input for each.
use Rattle.std.specs.Prelude.{◌≤◌, List, length}
use Rattle.pv_gate.specs.declared.netlist.TheConstants.{MAX_INPUTS}
use Rattle.pv_bool.specs.declared.program.Bit.{Bit}

abbrev pub AreFew : List Bit → Type 0
AreFew bits = length bits ≤ MAX_INPUTS
