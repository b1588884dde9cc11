use Rattle.std.proofs.Common.{◌≡◌, length}
use Rattle.pv_resolve.proofs.Loops.{IsPadded}
use Rattle.pv_resolve.proofs.resolve.pad.Given as goal

abbrev pub invariant-loop-k : goal.invariant-loop-k
invariant-loop-k l = record {
  padded : IsPadded l.fn.nodes.items l.nodes.items l.fn.numbers.items l.numbers.items;
  count : length l.numbers.items ≡ l._k;
}
