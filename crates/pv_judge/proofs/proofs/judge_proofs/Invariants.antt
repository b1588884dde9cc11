use Rattle.std.proofs.Common.{◌≡◌, ◌+◌, ◌*◌, ◌≤◌, ◌^◌, length, drop}
use Rattle.pv_valid.specs.Walk.{proofs_fault}
use Rattle.pv_judge.specs.Steps.{queries_of}
use Rattle.pv_judge.proofs.proofs.judge_proofs.Given as goal

abbrev pub invariant-loop-n : goal.invariant-loop-n
invariant-loop-n g l = record {
  kept : g.J.Judged.case l.case ≡ g.J.Judged.case l.initial.case;
  few : l.n ≤ length (queries_of l.expected);
  line : l.at ≤ l.first + l.n * 2 ^ 33;
  left : proofs_fault (g.J.Judged.case l.initial.case) (drop l.n (queries_of l.expected)) l.at (drop l.n l.proofs)
      ≡ proofs_fault (g.J.Judged.case l.initial.case) (queries_of l.expected) l.first l.proofs;
}
