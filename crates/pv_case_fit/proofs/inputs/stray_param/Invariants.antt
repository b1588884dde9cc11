use Rattle.std.proofs.Common.{◌≡◌, map, drop}
use Rattle.std.specs.Prelude.{string_bytes}
use Rattle.pv_case_fit.specs.Inputs.{first_stray}
use Rattle.pv_case_fit.proofs.inputs.stray_param.Given as goal

abbrev pub invariant-loop-param : goal.invariant-loop-param
invariant-loop-param l = first_stray l.cells (map string_bytes l.params) ≡ first_stray l.cells (map string_bytes (drop l.param-index l.params))
