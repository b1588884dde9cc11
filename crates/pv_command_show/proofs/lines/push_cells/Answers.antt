use Rattle.std.proofs.Common.{◌≡◌, ◌++◌, sym, ap, ◌∙◌, arith, rules}
use Rattle.pv_command_show.specs.Texts.{cell_line}
use Rattle.pv_command_show.proofs.Cells.{at_first, pushed, passed}
use Rattle.pv_command_show.proofs.lines.push_cells.Goals as goal
use Rattle.pv_command_show.proofs.lines.push_cells.Goals.{then-is_visible+in_ok-push_cell, else-is_visible}

pub loop-cell-init : goal.loop-cell-init
loop-cell-init c = (omega arith, at_first c.args.inputs c.args.each c.args.earlier.now c.args.values.now c.args.text.now.items c.args.cells.now)

pub loop-cell-preserved : goal.loop-cell-preserved
loop-cell-preserved c =
    let l = c.loop-cell in
    elim c.if-is_visible.branch [
      | then-is_visible+in_ok-push_cell w ↦ (
        omega (arith, l.invariant.0, w.next-is),
        pushed c.args.inputs c.args.each c.args.earlier.now c.args.values.now c.args.cells.now l.cell-index l.next c.cell-item.result
            l.text.items c.if-is_visible.text.items _ c.if-is_visible.next w.value_at-was.result w.value_at-is.result c.loop-cell-test.true c.cell-item.is
            (sym c.is_visible.ensures ∙ w.if-is_visible.true) w.value_at-was.ensures w.value_at-is.ensures
            (let line : c.if-is_visible.text.items ≡ l.text.items
            ++ cell_line c.args.inputs c.args.each c.cell-item.result w.value_at-was.result w.value_at-is.result = search rules in line)
            w.next-is l.invariant.1,
      )
      | else-is_visible w ↦ (
        omega (arith, l.invariant.0, w.next-is),
        passed c.args.inputs c.args.each c.args.earlier.now c.args.values.now c.args.cells.now l.cell-index l.next c.cell-item.result
            l.text.items c.if-is_visible.text.items _ c.if-is_visible.next c.loop-cell-test.true c.cell-item.is
            (sym c.is_visible.ensures ∙ w.if-is_visible.false) (ap (λ t. t.items) w.text-is) w.next-is l.invariant.1,
      )
    ]
