use Rattle.pv_eval.specs.Means.{activation}
use Rattle.pv_eval.specs.Operands.{spot_of}
use Rattle.pv_stl_run.specs.Views.{frame_in, logic_of}
use Rattle.pv_stl_run.specs.Code.{working}
use Rattle.pv_stl_run.proofs.StepLaws.{finds_unset, finds_unlocated, finds_unread, finds_made}
use Rattle.pv_stl_run.proofs.operand.finds_edge.Goals as goal

pub returns-in-Err-clause-same : goal.returns-in-Err-clause-same
returns-in-Err-clause-same c = λ source block room i o types fits p q its.
    finds_unset source (activation block c.args.first) i c.args.rising
    (working c.args.r.now (frame_in c.args.visible.now c.args.own.now)) o c.args.place c.in-Err.trap.kind c.in-Err.trap.place p q
    c.in-Err.ensures

pub returns-in-Err-spot_of-clause-same : goal.returns-in-Err-spot_of-clause-same
returns-in-Err-spot_of-clause-same c = λ source block room i o types fits p q its.
    finds_unlocated source (activation block c.args.first) i c.args.rising
    (working c.args.r.now (frame_in c.args.visible.now c.args.own.now)) o c.args.place c.in-Ok.e
    c.in-Err-spot_of.trap.kind c.in-Err-spot_of.trap.place p q c.in-Ok.ensures (c.in-Err-spot_of.ensures.value source block room o fits its)

pub returns-in-Err-bit_at-clause-same : goal.returns-in-Err-bit_at-clause-same
returns-in-Err-bit_at-clause-same c = λ source block room i o types fits p q its.
    finds_unread source (activation block c.args.first) i c.args.rising
    (working c.args.r.now (frame_in c.args.visible.now c.args.own.now)) o c.args.place c.in-Ok.e (spot_of c.in-Ok-spot_of.spot)
    c.in-Err-bit_at.trap.kind c.in-Err-bit_at.trap.place p q c.in-Ok.ensures (c.in-Ok-spot_of.ensures.value source block room o fits its)
    c.in-Err-bit_at.ensures

pub returns-clause-same : goal.returns-clause-same
returns-clause-same c = λ source block room i o types fits p q its.
    finds_made source (activation block c.args.first) i c.args.rising
    (working c.args.r.now (frame_in c.args.visible.now c.args.own.now)) o c.args.place c.in-Ok.e (spot_of c.in-Ok-spot_of.spot)
    c.in-Ok-bit_at.before c.edge.result (logic_of c.resulting-r.result) (frame_in c.write_bit.new.visible c.write_bit.new.own) p q
    c.in-Ok.ensures (c.in-Ok-spot_of.ensures.value source block room o fits its) c.in-Ok-bit_at.ensures c.resulting-r.ensures
    c.edge.ensures (c.write_bit.ensures source types)
