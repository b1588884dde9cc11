use Rattle.std.proofs.Common.{◌≡◌, arith, ◌+◌, ◌-◌, Some, slice_get, ap, sym, ◌∙◌}
use Rattle.std.proofs.lemmas.Grind.{common_steps}
use Rattle.pv_cnf.proofs.Elements.{take_get}
use Rattle.pv_cnf.proofs.dimacs.to_dimacs.Goals as goal

pub loop-n-preserved : goal.loop-n-preserved
loop-n-preserved g c =
    let clauses = g.F.ClauseView.clauses c.args.f.now in
    let back : c.loop-n.n + 1 - 1 ≡ c.loop-n.n = omega arith in
    let here : slice_get clauses c.loop-n.n ≡ Some c.clause.result.now = ap (λ k. slice_get clauses k) (sym back) ∙ c.clause.ensures.value in
    let more = take_get clauses c.loop-n.n c.clause.result.now here in
    rw more (grind (arith, common_steps, c.in_ok-push_line.was, c.push_line.ensures, c.loop-n.invariant))
