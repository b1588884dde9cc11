use Rattle.std.proofs.Common.{◌≡◌, ◌+◌, ◌*◌, ◌≤◌, ◌^◌, suc}
use Rattle.pv_kind.specs.declared.told.TheConstants.{LAST_QUERY}
use Rattle.pv_valid.specs.Walk.{spent_fault}
use Rattle.pv_judge.specs.Logs.{log_fault}
use Rattle.pv_judge.proofs.Finds.{SpentLeft}
use Rattle.pv_judge.proofs.proofs.judge_spent.Given as goal

abbrev pub invariant-loop-proof : goal.invariant-loop-proof
invariant-loop-proof g l = record {
  kept : g.J.Judged.case l.case ≡ g.J.Judged.case l.initial.case;
  number : l.n ≡ l.proof-index;
  few : l.n ≤ LAST_QUERY + 1;
  line : l.at ≤ l.first + l.n * 2 ^ 33;
  left : SpentLeft (g.J.Judged.case l.initial.case) (log_fault l.task) l.proofs l.proof-index (suc l.n) l.at
      (spent_fault (g.J.Judged.case l.initial.case) (log_fault l.task) 1 l.first l.proofs);
}
