-- Named bytes of the code as plain data.
use Rattle.pv_mean.specs.AreaBytes as areas
use Rattle.pv_bytes.specs.declared.bytes.Bytes.{Bytes}

abbrev pub bytes_tree : Bytes → areas.Bytes
bytes_tree b = record { inputs = b.inputs.items; outputs = b.outputs.items; flags = b.flags.items }
