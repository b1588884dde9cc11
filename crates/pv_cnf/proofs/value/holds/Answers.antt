use Rattle.std.proofs.Common.{◌≡◌, arith, ◌+◌, ◌-◌, ◌∙◌, ap, sym, Some, slice_get}
use Rattle.std.proofs.lemmas.Bool.{true≢false}
use Rattle.pv_cnf.specs.Clause.{clause_value}
use Rattle.pv_cnf.proofs.Elements.{list_all_get, list_all_fails}
use Rattle.pv_cnf.proofs.value.holds.Goals as goal

pub returns-then-not-clause_is_true : goal.returns-then-not-clause_is_true
returns-then-not-clause_is_true g c =
    let clauses = g.F.ClauseView.clauses c.args.f.now in
    let back : c.loop-n.n + 1 - 1 ≡ c.loop-n.n = omega arith in
    let here : slice_get clauses c.loop-n.n ≡ Some c.clause.result.now = ap (λ k. slice_get clauses k) (sym back) ∙ c.clause.ensures.value in
    let fails = list_all_fails (clause_value (g.V.Values.truth c.args.values.now)) clauses c.loop-n.n c.clause.result.now here (grind (arith, c.clause_is_true.ensures, c.if-not-clause_is_true.true)) in
    (λ e. absurd (true≢false (sym e)), λ e. absurd (true≢false (sym e ∙ fails)))

pub loop-n-preserved : goal.loop-n-preserved
loop-n-preserved g c =
    let clauses = g.F.ClauseView.clauses c.args.f.now in
    let back : c.loop-n.n + 1 - 1 ≡ c.loop-n.n = omega arith in
    let here : slice_get clauses c.loop-n.n ≡ Some c.clause.result.now = ap (λ k. slice_get clauses k) (sym back) ∙ c.clause.ensures.value in
    list_all_get (clause_value (g.V.Values.truth c.args.values.now)) clauses c.loop-n.n c.clause.result.now c.loop-n.invariant here (grind (arith, c.clause_is_true.ensures, c.if-not-clause_is_true.false))
