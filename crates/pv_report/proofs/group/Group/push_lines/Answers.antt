use Rattle.std.proofs.Common.{sym, ap, ◌∙◌}
use Rattle.pv_report.specs.Groups.{front_text, has}
use Rattle.pv_report.proofs.Values.{pushed, passed}
use Rattle.pv_report.proofs.group.Group.push_lines.Goals as goal
use Rattle.pv_report.proofs.group.Group.push_lines.Goals.{then-has+in-Some+in_ok-push_line, else-has}

pub loop-cell-preserved : goal.loop-cell-preserved
loop-cell-preserved c =
    let l = c.loop-cell in
    let front = front_text c.args.self in
    elim c.if-has.branch [
      | then-has+in-Some+in_ok-push_line w ↦ pushed front (λ x. has c.args.self x) c.args.cells.now l.cell-index c.args.values.now l.next
          c.cell-item.result l.text.items c.if-has.text.items _ c.if-has.next w.in-Some.value.now c.loop-cell-test.true c.cell-item.is
          (sym c.has.ensures ∙ w.if-has.true) w.in-Some.ensures.lookup.3.0 w.in-Some.ensures.lookup.1
          (ap (λ t. t.items) w.text-is ∙ w.in_ok-push_line.ensures) w.next-is l.invariant
      | else-has w ↦ passed front (λ x. has c.args.self x) c.args.cells.now l.cell-index c.args.values.now l.next c.cell-item.result
          l.text.items c.if-has.text.items _ c.if-has.next c.loop-cell-test.true c.cell-item.is (sym c.has.ensures ∙ w.if-has.false)
          (ap (λ t. t.items) w.text-is) w.next-is l.invariant
    ]
