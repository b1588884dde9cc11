use Rattle.std.proofs.Common.{◌≡◌, ◌++◌, map, drop}
use Rattle.pv_flow.specs.View.{variable_of}
use Rattle.pv_variables.specs.Listed.{rest_of}
use Rattle.pv_variables.proofs.list.push_rest.Given as goal

abbrev pub invariant-loop-cell : goal.invariant-loop-cell
invariant-loop-cell l =
    map variable_of l.vars.items ++ rest_of l.left (drop l.cell-index l.cells)
    ≡ map variable_of l.fn.vars.items ++ rest_of l.fn.count l.cells
