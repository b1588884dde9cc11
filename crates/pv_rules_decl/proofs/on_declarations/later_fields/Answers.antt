use Rattle.pv_types.proofs.ForCallers.{structure_seen}
use Rattle.pv_rules_decl.proofs.Projecting.{near_fields, if_ok}
use Rattle.pv_rules_decl.proofs.on_declarations.later_fields.Goals as goal

pub returns-in-Struct : goal.returns-in-Struct
returns-in-Struct c =
    if_ok c.later_vars.result (λ r n. near_fields c.as_slice.result.now _ c.args.nearest r
    (structure_seen c.args.ty.now c.in-Struct.vars c.as_slice.result.now c.in-Struct.is c.as_slice.ensures.value) n) c.later_vars.ensures
