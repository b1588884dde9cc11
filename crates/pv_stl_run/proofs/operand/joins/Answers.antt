use Rattle.pv_eval.specs.Means.{activation}
use Rattle.pv_eval.specs.Operands.{spot_of}
use Rattle.pv_stl_run.specs.Views.{frame_in, junction_of, logic_of}
use Rattle.pv_stl_run.specs.Code.{working}
use Rattle.pv_stl_run.proofs.StepLaws.{joins_unlocated, joins_unread, joins_stops, joins_done}
use Rattle.pv_stl_run.proofs.operand.joins.Goals as goal

pub returns-in-Err-clause-same : goal.returns-in-Err-clause-same
returns-in-Err-clause-same c = λ source block room i o fits p q its.
    joins_unlocated source (activation block c.args.first) i (junction_of c.args.junction)
    (working c.args.r.now (frame_in c.args.visible.now c.args.own.now)) o c.args.place c.in-Err.trap.kind c.in-Err.trap.place p q
    (c.in-Err.ensures.value source block room o fits its)

pub returns-in-Err-bit_at-clause-same : goal.returns-in-Err-bit_at-clause-same
returns-in-Err-bit_at-clause-same c = λ source block room i o fits p q its.
    joins_unread source (activation block c.args.first) i (junction_of c.args.junction)
    (working c.args.r.now (frame_in c.args.visible.now c.args.own.now)) o c.args.place (spot_of c.in-Ok.spot)
    c.in-Err-bit_at.trap.kind c.in-Err-bit_at.trap.place p q (c.in-Ok.ensures.value source block room o fits its) c.in-Err-bit_at.ensures

pub returns-in-Err-join-clause-same : goal.returns-in-Err-join-clause-same
returns-in-Err-join-clause-same c = λ source block room i o fits p q its.
    joins_stops source (activation block c.args.first) i (junction_of c.args.junction)
    (working c.args.r.now (frame_in c.args.visible.now c.args.own.now)) o c.args.place (spot_of c.in-Ok.spot) c.in-Ok-bit_at.bit
    c.in-Err-join.trap.kind c.in-Err-join.trap.place p q (c.in-Ok.ensures.value source block room o fits its) c.in-Ok-bit_at.ensures
    c.in-Err-join.ensures

pub returns-in-Ok-join-clause-same : goal.returns-in-Ok-join-clause-same
returns-in-Ok-join-clause-same c = λ source block room i o fits p q its.
    joins_done source (activation block c.args.first) i (junction_of c.args.junction)
    (working c.args.r.now (frame_in c.args.visible.now c.args.own.now)) o c.args.place (spot_of c.in-Ok.spot) c.in-Ok-bit_at.bit
    (logic_of c.in-Ok-join.logic) p q (c.in-Ok.ensures.value source block room o fits its) c.in-Ok-bit_at.ensures c.in-Ok-join.ensures
