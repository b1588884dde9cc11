use Rattle.std.proofs.Common.{arith}
use Rattle.serde_json.specs.View.{view}
use Rattle.pv_case.specs.Fields.{source_has}
use Rattle.pv_case.proofs.Each.{keeps_more, breaks_with}
use Rattle.pv_case.proofs.sources.sources_have.Goals as goal

pub returns-in_err-source_has : goal.returns-in_err-source_has
returns-in_err-source_has c =
    breaks_with source_has view c.args.items.now c.loop-s.s-index c.s-item.result
    c.in_err-source_has.field-0.0 c.from_residual.result c.from_residual.ensures.1 (omega arith) c.s-item.is c.loop-s.invariant
    c.in_err-source_has.ensures

pub loop-s-preserved : goal.loop-s-preserved
loop-s-preserved c =
    keeps_more source_has view c.args.items.now c.loop-s.s-index c.s-item.result (omega arith) c.s-item.is
    c.loop-s.invariant c.in_ok-source_has.ensures
