use Rattle.std.proofs.Common.{◌≡◌, ◌*◌, ◌<◌, ◌^◌, map, drop}
use Rattle.pv_solver.specs.Costs.{line_cost}
use Rattle.pv_valid.specs.Validity.{first_past, first_sum_past}
use Rattle.pv_judge.proofs.words.first_sum_past.Given as goal

abbrev pub invariant-loop-n : goal.invariant-loop-n
invariant-loop-n g l = record {
  bounded : l.sum < 2 ^ 80;
  left : first_past l.words l.sum (map line_cost (drop l.n (g.L.LogView.all_lines l.lines)))
      ≡ first_sum_past l.words l.formula (g.L.LogView.all_lines l.lines) (2 * l.formula.variables);
}
