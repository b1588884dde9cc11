use Rattle.std.proofs.Common.{map, take}
use Rattle.pv_tree.specs.View.{instr_tree}
use Rattle.pv_program.specs.Labels.{FindsLabels}
use Rattle.pv_program.proofs.label.labels_at.Given as goal

abbrev pub invariant-loop-k : goal.invariant-loop-k
invariant-loop-k l = FindsLabels l.at (map instr_tree (take l.k l.instrs))
