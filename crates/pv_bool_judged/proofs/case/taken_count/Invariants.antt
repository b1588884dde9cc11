use Rattle.std.proofs.Common.{◌≡◌, ◌≤◌, take}
use Rattle.pv_bool.specs.Scans.{input_len}
use Rattle.pv_bool_judged.proofs.case.taken_count.Given as goal

-- of the bits so far
abbrev pub invariant-loop-bit : goal.invariant-loop-bit
invariant-loop-bit l = record {
  count : l.count ≡ input_len (take l.bit-index l.bits);
  few : l.count ≤ l.bit-index;
}
