use Rattle.std.proofs.Common.{◌≡◌, ◌≤◌, ◌++◌}
use Rattle.pv_mean.specs.Frames.{visible_cells}
use Rattle.pv_command_show.specs.Texts.{cell_lines}
use Rattle.pv_command_show.proofs.Cells.{still}
use Rattle.pv_command_show.proofs.lines.push_cells.Given as goal

-- the lines so far follow the text, and with those of the cells that are left they are all
abbrev pub invariant-loop-cell : goal.invariant-loop-cell
invariant-loop-cell l =
    (l.next ≤ l.cell-index)
    × (l.text.items ++ still l.inputs l.each l.earlier l.values l.cells l.cell-index l.next
    ≡ l.initial.text.items ++ cell_lines l.inputs l.each (visible_cells l.cells) 0 l.earlier l.values)
