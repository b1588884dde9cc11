use Rattle.std.proofs.Common.{◌≡◌, [], map, drop}
use Rattle.pv_case.specs.Cases.{bound_data}
use Rattle.pv_case_fit.specs.Inputs.{first_misfit}
use Rattle.pv_case_fit.proofs.inputs.misfit_of.Given as goal

abbrev pub invariant-loop-bound : goal.invariant-loop-bound
invariant-loop-bound l =
    first_misfit l.cells [] (map bound_data l.bind) ≡ first_misfit l.cells l.earlier.keys (map bound_data (drop l.bound-index l.bind))
