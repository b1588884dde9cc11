use Rattle.std.proofs.Common.{map, drop, option_map}
use Rattle.pv_tree.specs.View.{step_tree, steps_of}
use Rattle.pv_mean.specs.Layout as layout
use Rattle.pv_mean.specs.LaidOut.{laid_tree}
use Rattle.pv_cells.specs.Planned.{planned}
use Rattle.pv_cells.specs.Starts.{same_laid}
use Rattle.pv_cells.proofs.plan.Plan.all_behind.Given as goal

abbrev pub invariant-loop-step : goal.invariant-loop-step
invariant-loop-step l =
    same_laid (layout.laid_behind (planned l.self) (option_map laid_tree l.so_far) (steps_of (map step_tree (drop l.step-index l.steps))))
    (layout.laid_behind (planned l.self) (option_map laid_tree l.fn.laid) (steps_of (map step_tree l.steps)))
