use Rattle.std.proofs.Common.{arith}
use Rattle.pv_eval.specs.Rooms.{frame_of}
use Rattle.pv_mean.specs.Spots.{number_of_bytes}
use Rattle.pv_eval.proofs.Bytes.{bytes_step, bytes_below, bytes_room, bytes_short, bytes_done}
use Rattle.pv_eval.proofs.spot.bytes_value.Goals as goal

pub overflow_mul-number : goal.overflow_mul-number
overflow_mul-number c = omega (arith, bytes_room c.loop-i.i c.loop-i.number (omega arith) c.loop-i.invariant.below)

pub overflow_add-number : goal.overflow_add-number
overflow_add-number c = omega (arith, bytes_room c.loop-i.i c.loop-i.number (omega arith) c.loop-i.invariant.below, c.byte_value.ensures.short)

pub loop-i-preserved : goal.loop-i-preserved
loop-i-preserved c = record {
  same = bytes_step (frame_of c.args.room.now) c.args.n c.loop-i.i c.args.count c.loop-i.number c.byte_value.result (number_of_bytes (frame_of c.args.room.now) c.args.n c.args.count 0) (omega arith) c.byte_value.ensures.value c.loop-i.invariant.same;
  below = bytes_below c.loop-i.i c.loop-i.number c.byte_value.result c.loop-i.invariant.below c.byte_value.ensures.short;
}

pub returns-clause-value : goal.returns-clause-value
returns-clause-value c = bytes_done (frame_of c.args.room.now) c.args.n c.loop-i.i c.args.count c.loop-i.number (number_of_bytes (frame_of c.args.room.now) c.args.n c.args.count 0) (omega arith) c.loop-i.invariant.same

pub returns-clause-short : goal.returns-clause-short
returns-clause-short c = omega (arith, bytes_short c.loop-i.i c.loop-i.number (omega arith) c.loop-i.invariant.below)
