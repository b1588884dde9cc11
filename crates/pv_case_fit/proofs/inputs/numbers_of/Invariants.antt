use Rattle.std.proofs.Common.{◌≡◌, ◌++◌, map, drop}
use Rattle.std.specs.Prelude.{string_bytes}
use Rattle.pv_case_fit.specs.Inputs.{numbers_of}
use Rattle.pv_case_fit.proofs.inputs.numbers_of.Given as goal

abbrev pub invariant-loop-param : goal.invariant-loop-param
invariant-loop-param l =
    numbers_of l.cells (map string_bytes l.params) ≡ l.numbers.items ++ numbers_of l.cells (map string_bytes (drop l.param-index l.params))
