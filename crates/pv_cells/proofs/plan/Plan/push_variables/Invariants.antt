use Rattle.std.proofs.Common.{◌≡◌, ◌≤◌, ◌++◌, map, drop, length}
use Rattle.pv_types.specs.declared.layout.TheConstants.{MAX_LEAVES}
use Rattle.pv_types.specs.View.{var_trees}
use Rattle.pv_mean.specs.LaidOut.{test_of}
use Rattle.pv_cells.specs.Forms.{formed, leaves_among}
use Rattle.pv_cells.specs.Planned.{planned}
use Rattle.pv_cells.proofs.plan.Plan.push_variables.Given as goal

abbrev pub invariant-loop-of : goal.invariant-loop-of
invariant-loop-of l = record {
  grown : l.cells.items ++ map (formed l.form) (leaves_among (planned l.self) (test_of l.part) (var_trees (drop l.of-index l.vars)))
      ≡ l.initial.cells.items ++ map (formed l.form) (leaves_among (planned l.self) (test_of l.part) (var_trees l.vars));
  few : length (leaves_among (planned l.self) (test_of l.part) (var_trees (drop l.of-index l.vars))) ≤ MAX_LEAVES;
}
