use Rattle.std.proofs.Common.{◌≡◌, map, drop}
use Rattle.std.specs.Prelude.{string_bytes}
use Rattle.pv_case_fit.specs.Inputs.{first_stray}
use Rattle.pv_case_fit.proofs.inputs.stray_bound.Given as goal

abbrev pub invariant-loop-bound : goal.invariant-loop-bound
invariant-loop-bound l =
    first_stray l.cells (map (λ b. string_bytes b.path) l.bind) ≡ first_stray l.cells (map (λ b. string_bytes b.path) (drop l.bound-index l.bind))
