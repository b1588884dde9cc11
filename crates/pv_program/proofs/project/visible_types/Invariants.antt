use Rattle.std.proofs.Common.{◌≡◌, map, take}
use Rattle.pv_mean.specs.Frames.{visible_cells}
use Rattle.pv_program.proofs.project.visible_types.Given as goal

abbrev pub invariant-loop-cell : goal.invariant-loop-cell
invariant-loop-cell l = l.types.items ≡ map (λ c. c.ty) (visible_cells (take l.cell-index l.cells))
