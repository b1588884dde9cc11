use Rattle.std.proofs.Common.{◌≡◌, ◌++◌, map, drop}
use Rattle.pv_case.specs.Cases.{bound_data}
use Rattle.pv_case_fit.specs.Inputs.{bounds_of}
use Rattle.pv_case_fit.proofs.inputs.bounds_of.Given as goal

abbrev pub invariant-loop-bound : goal.invariant-loop-bound
invariant-loop-bound l =
    bounds_of l.cells (map bound_data l.bind) ≡ l.bounds.items ++ bounds_of l.cells (map bound_data (drop l.bound-index l.bind))
