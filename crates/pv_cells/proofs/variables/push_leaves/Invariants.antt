use Rattle.std.proofs.Common.{◌≡◌, ◌++◌, map, drop}
use Rattle.pv_cells.specs.Forms.{formed}
use Rattle.pv_cells.proofs.variables.push_leaves.Given as goal

abbrev pub invariant-loop-leaf : goal.invariant-loop-leaf
invariant-loop-leaf l = l.cells.items ++ map (formed l.form) (drop l.leaf-index l.leaves) ≡ l.initial.cells.items ++ map (formed l.form) l.leaves
