use Rattle.std.proofs.Common.{◌≡◌, drop, Some}
use Rattle.pv_rules_expr.specs.NearestIn.{nearest_in}
use Rattle.pv_rules_instr.proofs.nesting.nearest_of.Given as goal

abbrev pub invariant-loop-place : goal.invariant-loop-place
invariant-loop-place l =
    nearest_in (λ p. Some p) (drop l.place-index l.places) l.best ≡ nearest_in (λ p. Some p) l.places l.fn.nearest
