use Rattle.std.proofs.Common.{◌≡◌, replicate}
use Rattle.pv_bits.proofs.word.copies.Given as goal

abbrev pub invariant-loop-bit : goal.invariant-loop-bit
invariant-loop-bit l = l.word ≡ replicate l._bit l.literal
