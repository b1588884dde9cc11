-- Lent bytes of areas as plain data.
use Rattle.pv_mean.specs.AreaBytes as areas
use Rattle.pv_bytes.specs.declared.areas.AreaBytes.{AreaBytes}

abbrev pub bytes_tree : AreaBytes → areas.Bytes
bytes_tree b = record { inputs = b.inputs.now; outputs = b.outputs.now; flags = b.flags.now }
