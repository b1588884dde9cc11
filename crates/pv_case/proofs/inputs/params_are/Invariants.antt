use Rattle.std.proofs.Common.{map, take}
use Rattle.serde_json.specs.View.{view}
use Rattle.pv_case.specs.Checks.{each}
use Rattle.pv_case.specs.Fields.{param_is}
use Rattle.pv_case.proofs.inputs.params_are.Given as goal

abbrev pub invariant-loop-i : goal.invariant-loop-i
invariant-loop-i l = (each param_is (map view (take l.i-index l.items))).keeps
