use Rattle.std.proofs.Common.{◌≡◌, ℕ, ◌+◌, ◌-◌, [], List, length, map, drop, ap, sym, subst, ◌∙◌, Some, arith}
use Rattle.std.specs.Prelude.{slice_get}
use Rattle.pv_log.specs.declared.line.Line.{Line}
use Rattle.pv_solver.specs.Costs.{line_cost}
use Rattle.pv_valid.specs.Validity.{first_past}
use Rattle.pv_valid.proofs.ForCallers.{past-sum}
use Rattle.pv_judge.proofs.Costs.{line-more}
use Rattle.pv_judge.proofs.words.first_sum_past.Goals as goal

pub loop-n-init : goal.loop-n-init
loop-n-init g c = record {
  bounded = (c.in-UpTo.ensures []).1;
  left = sym (c.in-UpTo.ensures (map line_cost (g.L.LogView.all_lines c.args.lines.now))).0;
}

pub returns-then-words-sum : goal.returns-then-words-sum
returns-then-words-sum g c =
    sym (past-sum c.args.words c.loop-n.sum (map line_cost (drop c.loop-n.n (g.L.LogView.all_lines c.args.lines.now))) c.if-words-sum.true)
    ∙ c.loop-n.invariant.left

pub loop-n-preserved : goal.loop-n-preserved
loop-n-preserved g c =
    let lines : List Line = g.L.LogView.all_lines c.args.lines.now in
    let lits : List ℕ = c.lits.result.now in
    let hints : List ℕ = c.hints.result.now in
    let n : ℕ = c.loop-n.n in
    let back : n + 1 - 1 ≡ n = omega arith in
    let has : slice_get (map (λ (l : Line). l.lits) lines) n ≡ Some lits =
    subst (λ (k : ℕ). slice_get (map (λ (l : Line). l.lits) lines) k ≡ Some lits) back c.lits.ensures in
    let names : slice_get (map (λ (l : Line). l.hints) lines) n ≡ Some hints =
    subst (λ (k : ℕ). slice_get (map (λ (l : Line). l.hints) lines) k ≡ Some hints) back c.hints.ensures in
    let more : c.with_cost-sum.result ≡ c.loop-n.sum + (4 + length lits + length hints) = (let is = c.with_cost-sum.ensures in omega (arith, is)) in
    record {
      bounded = omega arith;
      left = ap (λ (s : ℕ). first_past c.args.words s (map line_cost (drop (n + 1) lines))) more
          ∙ (sym (line-more c.args.words c.loop-n.sum lines n lits hints has names c.if-words-sum.false) ∙ c.loop-n.invariant.left);
    }
