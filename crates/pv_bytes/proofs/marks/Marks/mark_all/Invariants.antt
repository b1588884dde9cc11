use Rattle.std.proofs.Common.{◌≡◌, ℕ}
use Rattle.std.specs.Prelude.{◌||◌, ◌&&◌, nat_le, nat_lt}
use Rattle.pv_bytes.specs.Numbers.{flag_at}
use Rattle.pv_bytes.proofs.marks.Marks.mark_all.Given as goal

abbrev pub invariant-loop-n : goal.invariant-loop-n
invariant-loop-n l = (k : ℕ)
    → flag_at l.self.flags.items k ≡ (flag_at l.fn.self.flags.items k || (nat_le l.first k && nat_lt k l.n))
