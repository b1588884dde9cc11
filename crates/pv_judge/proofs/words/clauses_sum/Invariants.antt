use Rattle.std.proofs.Common.{◌≡◌, ℕ, ◌*◌, ◌<◌, ◌^◌, ◌++◌, List, map, drop}
use Rattle.pv_solver.specs.Costs.{clause_cost}
use Rattle.pv_valid.specs.Validity.{first_past}
use Rattle.pv_judge.proofs.words.clauses_sum.Given as goal

abbrev pub invariant-loop-n : goal.invariant-loop-n
invariant-loop-n l = record {
  bounded : l.sum < 2 ^ 80;
  left : (rest : List ℕ) → first_past l.words l.sum (map clause_cost (drop l.n l.formula.clauses) ++ rest)
      ≡ first_past l.words (2 * l.formula.variables) (map clause_cost l.formula.clauses ++ rest);
}
