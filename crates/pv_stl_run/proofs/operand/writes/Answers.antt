use Rattle.pv_eval.specs.Means.{activation}
use Rattle.pv_eval.specs.Operands.{spot_of}
use Rattle.pv_stl_run.specs.Views.{frame_in, logic_of}
use Rattle.pv_stl_run.specs.Code.{working, written_of}
use Rattle.pv_stl_run.proofs.StepLaws.{writes_unset, writes_unlocated, writes_made}
use Rattle.pv_stl_run.proofs.operand.writes.Goals as goal

pub returns-in-Err-clause-same : goal.returns-in-Err-clause-same
returns-in-Err-clause-same c = λ source block room i o types fits p q its.
    writes_unset source (activation block c.args.first) i (λ e. written_of c.args.written e)
    (working c.args.r.now (frame_in c.args.visible.now c.args.own.now)) o c.args.place c.in-Err.trap.kind c.in-Err.trap.place p q
    c.in-Err.ensures

pub returns-in-Err-spot_of-clause-same : goal.returns-in-Err-spot_of-clause-same
returns-in-Err-spot_of-clause-same c = λ source block room i o types fits p q its.
    writes_unlocated source (activation block c.args.first) i (λ e. written_of c.args.written e)
    (working c.args.r.now (frame_in c.args.visible.now c.args.own.now)) o c.args.place c.in-Ok.e
    c.in-Err-spot_of.trap.kind c.in-Err-spot_of.trap.place p q c.in-Ok.ensures (c.in-Err-spot_of.ensures.value source block room o fits its)

pub returns-clause-same : goal.returns-clause-same
returns-clause-same c = λ source block room i o types fits p q its.
    writes_made source (activation block c.args.first) i (λ e. written_of c.args.written e)
    (working c.args.r.now (frame_in c.args.visible.now c.args.own.now)) o c.args.place c.in-Ok.e (spot_of c.in-Ok-spot_of.spot)
    (logic_of c.resulting-r.result) c.taken.result (frame_in c.write_taken.new.visible c.write_taken.new.own) p q c.in-Ok.ensures
    (c.in-Ok-spot_of.ensures.value source block room o fits its) c.resulting-r.ensures c.taken.ensures (c.write_taken.ensures source types)
