use Rattle.std.proofs.Common.{sym, ◌∙◌, arith}
use Rattle.pv_log.proofs.FollowLaws.{ends-empty, ends-nowhere}
use Rattle.pv_log.proofs.checker.ending.Goals as goal
use Rattle.pv_log.proofs.checker.ending.Goals.{else-lines-gt0-via-then-lines-gt0+else-is_empty, else-lines-gt0-via-else-lines-gt0}

pub returns-then-is_empty : goal.returns-then-is_empty
returns-then-is_empty g c = ends-empty (g.L.LogView.all_lines c.args.log.now) c.lines-lines.result c.lits.result.now c.lines-lines.ensures (omega arith) c.lits.ensures ∙ sym c.is_empty.ensures ∙ c.if-is_empty.true

pub returns-else-lines-gt0 : goal.returns-else-lines-gt0
returns-else-lines-gt0 g c = elim c.else-lines-gt0.branch [
  | else-lines-gt0-via-then-lines-gt0+else-is_empty w ↦ ends-empty (g.L.LogView.all_lines c.args.log.now) c.lines-lines.result w.lits.result.now c.lines-lines.ensures (omega arith) w.lits.ensures ∙ sym w.is_empty.ensures ∙ w.if-is_empty.false
  | else-lines-gt0-via-else-lines-gt0 w ↦ ends-nowhere (g.L.LogView.all_lines c.args.log.now) (omega (arith, c.lines-lines.ensures))
]
