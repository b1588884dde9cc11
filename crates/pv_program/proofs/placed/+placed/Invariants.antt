use Rattle.std.proofs.Common.{◌≡◌, map, take}
use Rattle.pv_tree.specs.View.{expr_tree, step_tree}
use Rattle.pv_mean.specs.Placed.{placed, step_placed}
use Rattle.pv_program.proofs.placed.+placed.Given as goal

abbrev pub invariant-all_placed-loop-e : goal.invariant-all_placed-loop-e
invariant-all_placed-loop-e l = map expr_tree l.copies.items ≡ map (λ e. placed l.at (expr_tree e)) (take l.e-index l.e-items)

abbrev pub invariant-steps_placed-loop-step : goal.invariant-steps_placed-loop-step
invariant-steps_placed-loop-step l = map step_tree l.copies.items ≡ map (λ s. step_placed l.at (step_tree s)) (take l.step-index l.step-items)
