-- The bytes of areas that have cells, in 64 bits, as the definitions have them.
use Rattle.pv_mean.specs.AreaBytes.{Bytes}
use Rattle.pv_cells.specs.declared.named.NamedBytes.{NamedBytes}

abbrev pub wide_bytes : NamedBytes → Bytes
wide_bytes b = record { inputs = b.inputs.items; outputs = b.outputs.items; flags = b.flags.items }
