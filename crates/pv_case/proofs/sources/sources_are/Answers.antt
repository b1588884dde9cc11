use Rattle.std.proofs.Common.{arith}
use Rattle.serde_json.specs.View.{view}
use Rattle.pv_case.specs.Fields.{source_is}
use Rattle.pv_case.proofs.Each.{keeps_more, breaks_with}
use Rattle.pv_case.proofs.sources.sources_are.Goals as goal

pub returns-in_err-source_is : goal.returns-in_err-source_is
returns-in_err-source_is c =
    breaks_with source_is view c.args.items.now c.loop-s.s-index c.s-item.result
    c.in_err-source_is.field-0.0 c.from_residual.result c.from_residual.ensures.1 (omega arith) c.s-item.is c.loop-s.invariant
    c.in_err-source_is.ensures

pub loop-s-preserved : goal.loop-s-preserved
loop-s-preserved c =
    keeps_more source_is view c.args.items.now c.loop-s.s-index c.s-item.result (omega arith) c.s-item.is
    c.loop-s.invariant c.in_ok-source_is.ensures
