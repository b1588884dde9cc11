use Rattle.std.proofs.Common.{arith}
use Rattle.serde_json.specs.View.{view}
use Rattle.pv_case.specs.Fields.{param_is}
use Rattle.pv_case.proofs.Each.{keeps_more, breaks_with}
use Rattle.pv_case.proofs.inputs.params_are.Goals as goal

pub returns-in_err-param_is : goal.returns-in_err-param_is
returns-in_err-param_is c =
    breaks_with param_is view c.args.items.now c.loop-i.i-index c.i-item.result
    c.in_err-param_is.field-0.0 c.from_residual.result c.from_residual.ensures.1 (omega arith) c.i-item.is c.loop-i.invariant
    c.in_err-param_is.ensures

pub loop-i-preserved : goal.loop-i-preserved
loop-i-preserved c =
    keeps_more param_is view c.args.items.now c.loop-i.i-index c.i-item.result (omega arith) c.i-item.is
    c.loop-i.invariant c.in_ok-param_is.ensures
