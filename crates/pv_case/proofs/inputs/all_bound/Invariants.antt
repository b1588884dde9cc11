use Rattle.pv_case.specs.Checks.{each}
use Rattle.pv_case.specs.Fields.{bound_is}
use Rattle.pv_case.proofs.OverMaps.{asked}
use Rattle.pv_case.proofs.inputs.all_bound.Given as goal

abbrev pub invariant-loop-path : goal.invariant-loop-path
invariant-loop-path l = (each bound_is (asked l.yielded)).keeps
