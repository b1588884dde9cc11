use Rattle.std.proofs.Common.{◌+◌, length, take, sym, ap, ◌∙◌, arith}
use Rattle.pv_report.specs.Places.{begun_at, last_of}
use Rattle.pv_report.proofs.Starts.{begun_more_yes, begun_more_no, begun_short, one_longer, last_is}
use Rattle.pv_report.proofs.places.line_at.Goals as goal
use Rattle.pv_report.proofs.places.line_at.Goals.{then-start-offset, else-start-offset}

pub overflow_add-line : goal.overflow_add-line
overflow_add-line c =
    let l = c.loop-start in
    omega (arith, l.invariant.0, begun_short c.args.offset c.args.starts.now l.start-index, c.loop-start-test.true)

pub loop-start-preserved : goal.loop-start-preserved
loop-start-preserved c =
    let l = c.loop-start in
    let starts = c.args.starts.now in
    elim c.if-start-offset.branch [
      | then-start-offset w ↦
          let more = begun_more_yes c.args.offset starts l.start-index 0 c.loop-start-test.true w.if-start-offset.true in
          (w.line-is ∙ ap (λ n. n + 1) l.invariant.0 ∙ one_longer (begun_at c.args.offset (take l.start-index starts)) _ ∙ ap length (sym more), w.last-is ∙ sym (last_is (begun_at c.args.offset (take l.start-index starts)) _) ∙ ap last_of (sym more))
      | else-start-offset w ↦
          let same = begun_more_no c.args.offset starts l.start-index 0 c.loop-start-test.true w.if-start-offset.false in
          (w.line-is ∙ l.invariant.0 ∙ ap length (sym same), w.last-is ∙ l.invariant.1 ∙ ap last_of (sym same))
    ]
