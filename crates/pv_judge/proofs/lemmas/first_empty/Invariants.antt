use Rattle.std.proofs.Common.{◌≡◌, drop}
use Rattle.pv_judge.specs.Steps.{first_empty}
use Rattle.pv_judge.proofs.Empties.{behind_lines}
use Rattle.pv_judge.proofs.lemmas.first_empty.Given as goal

abbrev pub invariant-loop-n : goal.invariant-loop-n
invariant-loop-n g l = record {
  left : behind_lines l.n (first_empty (drop l.n (g.L.LogView.all_lines l.log))) ≡ first_empty (g.L.LogView.all_lines l.log);
}
