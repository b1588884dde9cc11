use Rattle.std.proofs.Common.{arith}
use Rattle.pv_program.proofs.Labelled.{goal-ahead, goal-back, goal-nowhere}
use Rattle.pv_program.proofs.label.goal_of.Goals as goal

pub returns-then-at-k : goal.returns-then-at-k
returns-then-at-k c = λ all h short.
    goal-ahead c.args.labels.now.at all c.args.k c.in-Some.at c.args.name.now.key c.in-Some.ensures c.if-at-k.true h

pub returns-else-at-k : goal.returns-else-at-k
returns-else-at-k c = λ all h short.
    goal-back c.args.labels.now.at all c.args.k c.in-Some.at c.args.name.now.key c.in-Some.ensures (omega arith) h

pub returns-in-None : goal.returns-in-None
returns-in-None c = λ all h short.
    goal-nowhere c.args.labels.now.at all c.args.k _ c.args.name.now.key c.in-None.ensures (omega (arith, short)) h
