use Rattle.std.proofs.Common.{◌≡◌, ◌≤◌, take}
use Rattle.pv_bool.specs.Scans.{state_len}
use Rattle.pv_bool_judged.proofs.case.kept_count.Given as goal

-- of the bits so far
abbrev pub invariant-loop-bit : goal.invariant-loop-bit
invariant-loop-bit l = record {
  count : l.count ≡ state_len (take l.bit-index l.bits);
  few : l.count ≤ l.bit-index;
}
