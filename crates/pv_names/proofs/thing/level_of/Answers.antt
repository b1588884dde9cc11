use Rattle.std.proofs.Common.{sym}
use Rattle.pv_types.proofs.ForCallers.{structure_seen}
use Rattle.pv_names.proofs.thing.level_of.Goals as goal

pub returns-in-Struct : goal.returns-in-Struct
returns-in-Struct c = sym (structure_seen c.args.ty.now c.in-Struct.vars c.as_slice.result.now c.in-Struct.is c.as_slice.ensures.value)
