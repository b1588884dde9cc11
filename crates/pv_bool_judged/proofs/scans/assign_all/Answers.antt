use Rattle.std.proofs.Common.{arith, length}
use Rattle.pv_bool_judged.proofs.Terms.{over-at}
use Rattle.pv_bool_judged.proofs.scans.assign_all.Goals as goal

pub term_value-value-requires : goal.term_value-value-requires
term_value-value-requires c =
    (over-at (length c.args.frame.now) (length c.loop-assignment.frame) c.args.body.now c.loop-assignment.assignment-index
    c.assignment-item.result c.loop-assignment.invariant.long (omega arith) c.assignment-item.is c.requires).value

pub bounds-frame-assignment : goal.bounds-frame-assignment
bounds-frame-assignment c =
    (over-at (length c.args.frame.now) (length c.loop-assignment.frame) c.args.body.now c.loop-assignment.assignment-index
    c.assignment-item.result c.loop-assignment.invariant.long (omega arith) c.assignment-item.is c.requires).target
