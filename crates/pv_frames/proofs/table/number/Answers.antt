use Rattle.std.proofs.Common.{arith, ◌∙◌}
use Rattle.std.proofs.lemmas.List.{length-set}
use Rattle.pv_frames.proofs.Laying.{number-done, number-next, number-left, bit-one}
use Rattle.pv_frames.proofs.table.number.Goals as goal

pub loop-i-preserved : goal.loop-i-preserved
loop-i-preserved c = record {
  done = λ given are. number-done given c.args.begins.now c.loop-i.begins c.args.first c.loop-i.next c.loop-i.i c.numbered_one-lit.result.0 c.loop-i.invariant.long
      (omega (arith, c.loop-i-test.true, c.loop-i.invariant.long)) are c.loop-i.invariant.left (c.loop-i.invariant.next given are)
      (c.loop-i.invariant.done given are) c.numbered_one-lit.ensures.literal;
  left = number-left c.args.begins.now c.loop-i.begins c.loop-i.i _ c.loop-i.invariant.left;
  next = λ given are. number-next given c.args.begins.now c.loop-i.begins c.args.first c.loop-i.next c.numbered_one-lit.result.1 c.loop-i.i
      (omega (arith, c.loop-i-test.true, c.loop-i.invariant.long)) are c.loop-i.invariant.left (c.loop-i.invariant.next given are) c.numbered_one-lit.ensures.next;
  room = bit-one _ _ _ _ _ c.numbered_one-lit.ensures.next c.loop-i.invariant.room;
  long = length-set c.loop-i.begins _ _ ∙ c.loop-i.invariant.long;
}
