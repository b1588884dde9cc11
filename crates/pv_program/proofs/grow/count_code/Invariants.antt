use Rattle.std.proofs.Common.{ℕ, ◌+◌, ◌-◌, length}
use Rattle.pv_program.specs.Growth.{Coded}
use Rattle.pv_program.proofs.grow.count_code.Given as goal

abbrev pub invariant-loop-codes : goal.invariant-loop-codes
invariant-loop-codes l = (n : ℕ) → Coded l.fn.codes.items n → Coded l.codes.items n

abbrev pub decreases-loop-codes : goal.decreases-loop-codes
decreases-loop-codes l = l.block + 1 - length l.codes.items
