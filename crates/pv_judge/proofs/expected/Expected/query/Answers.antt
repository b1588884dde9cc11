use Rattle.std.proofs.Common.{sym, arith}
use Rattle.pv_judge.proofs.Queries.{earlier-got, step-at, none-at, past-at}
use Rattle.pv_judge.proofs.expected.Expected.query.Goals as goal
use Rattle.pv_judge.proofs.expected.Expected.query.Goals.{else-before-self-2-via-then-before-self-2+else-self, else-before-self-2-via-else-before-self-2}

pub returns-then-before-self : goal.returns-then-before-self
returns-then-before-self c = sym (earlier-got c.args.self.bases c.args.before _ c.if-before-self.true)

pub returns-then-self : goal.returns-then-self
returns-then-self c = step-at c.args.self.bases c.args.before c.args.self.step c.if-self.true c.if-before-self-2.true

pub returns-else-before-self-2 : goal.returns-else-before-self-2
returns-else-before-self-2 c = elim c.else-before-self-2.branch [
  | else-before-self-2-via-then-before-self-2+else-self w ↦
      none-at c.args.self.bases c.args.before c.args.self.step w.if-self.false (omega (arith, c.if-before-self.false))
  | else-before-self-2-via-else-before-self-2 w ↦ (let ge = c.if-before-self.false in let differ = w.if-before-self-2.false in
      past-at c.args.self.bases c.args.before c.args.self.step (omega (arith, ge, differ)))
]
