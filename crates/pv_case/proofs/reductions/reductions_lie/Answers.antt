use Rattle.std.proofs.Common.{arith}
use Rattle.serde_json.specs.View.{view}
use Rattle.pv_case.specs.Fields.{reduction_lies}
use Rattle.pv_case.proofs.Each.{keeps_more, breaks_with}
use Rattle.pv_case.proofs.reductions.reductions_lie.Goals as goal

pub returns-in_err-reduction_lies : goal.returns-in_err-reduction_lies
returns-in_err-reduction_lies c =
    breaks_with reduction_lies view c.args.items.now c.loop-i.i-index c.i-item.result
    c.in_err-reduction_lies.field-0.0 c.from_residual.result c.from_residual.ensures.1 (omega arith) c.i-item.is c.loop-i.invariant
    c.in_err-reduction_lies.ensures

pub loop-i-preserved : goal.loop-i-preserved
loop-i-preserved c =
    keeps_more reduction_lies view c.args.items.now c.loop-i.i-index c.i-item.result (omega arith) c.i-item.is
    c.loop-i.invariant c.in_ok-reduction_lies.ensures
