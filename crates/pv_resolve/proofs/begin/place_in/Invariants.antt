use Rattle.std.proofs.Common.{◌≡◌, ◌+◌, drop, nat_eq}
use Rattle.std.specs.List.{position_or_len}
use Rattle.pv_resolve.proofs.begin.place_in.Given as goal

abbrev pub invariant-loop-byte : goal.invariant-loop-byte
invariant-loop-byte l = record {
  same : l.place + position_or_len (nat_eq l.n) (drop l.byte-index l.bytes) ≡ position_or_len (nat_eq l.n) l.bytes;
  count : l.place ≡ l.byte-index;
}
