use Rattle.std.proofs.Common.{ℕ, ◌+◌, List, take, refl, subst}
use Rattle.pv_log.specs.Filing.{IsFiled}
use Rattle.pv_log.proofs.NewLaws.{formula-next}
use Rattle.pv_log.proofs.newness.file_formula.Goals as goal

pub loop-n-preserved : goal.loop-n-preserved
loop-n-preserved g c =
    subst (λ (cs : List (List ℕ)). IsFiled (g.F.ClauseView.variables c.args.f.now) c.add.new.self cs) (formula-next (g.F.ClauseView.clauses c.args.f.now) c.loop-n.n (c.loop-n.n + 1) c.clause.result.now refl c.clause.ensures.value)
    (c.in_ok-add.ensures.filed (g.F.ClauseView.variables c.args.f.now) (take c.loop-n.n (g.F.ClauseView.clauses c.args.f.now)) c.loop-n.invariant)
