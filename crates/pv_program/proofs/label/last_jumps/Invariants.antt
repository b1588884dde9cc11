use Rattle.std.proofs.Common.{◌-◌, length, map}
use Rattle.pv_tree.specs.View.{instr_tree}
use Rattle.pv_program.specs.Labels.{FindsJumps}
use Rattle.pv_program.proofs.label.last_jumps.Given as goal

abbrev pub invariant-loop-n : goal.invariant-loop-n
invariant-loop-n l = FindsJumps l.last (map instr_tree l.instrs) (length l.instrs - l.n)
