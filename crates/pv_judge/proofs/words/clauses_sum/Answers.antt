use Rattle.std.proofs.Common.{◌≡◌, ℕ, ◌+◌, ◌-◌, ◌++◌, List, length, map, drop, ap, sym, subst, ◌∙◌, Some, arith}
use Rattle.std.specs.Prelude.{slice_get}
use Rattle.pv_solver.specs.Costs.{clause_cost}
use Rattle.pv_valid.specs.Validity.{first_past}
use Rattle.pv_valid.proofs.ForCallers.{past-sum}
use Rattle.pv_judge.proofs.Costs.{clause-more}
use Rattle.pv_judge.proofs.words.clauses_sum.Goals as goal

pub returns-then-words-sum : goal.returns-then-words-sum
returns-then-words-sum c = λ rest.
    sym (c.loop-n.invariant.left rest)
    ∙ past-sum c.args.words c.loop-n.sum (map clause_cost (drop c.loop-n.n c.args.formula.now.clauses) ++ rest) c.if-words-sum.true

pub loop-n-preserved : goal.loop-n-preserved
loop-n-preserved c =
    let clauses : List (List ℕ) = c.args.formula.now.clauses in
    let lits : List ℕ = c.clause.result.now in
    let n : ℕ = c.loop-n.n in
    let back : n + 1 - 1 ≡ n = omega arith in
    let at : slice_get clauses n ≡ Some lits = subst (λ (k : ℕ). slice_get clauses k ≡ Some lits) back c.clause.ensures.value in
    let more : c.with_cost-sum.result ≡ c.loop-n.sum + (3 + length lits) = (let is = c.with_cost-sum.ensures in omega (arith, is)) in
    record {
      bounded = omega arith;
      left = λ rest.
          ap (λ (s : ℕ). first_past c.args.words s (map clause_cost (drop (n + 1) clauses) ++ rest)) more
          ∙ (sym (clause-more c.args.words c.loop-n.sum clauses n lits rest at c.if-words-sum.false) ∙ c.loop-n.invariant.left rest);
    }
