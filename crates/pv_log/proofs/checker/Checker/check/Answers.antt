use Rattle.pv_log.specs.Follows.{Follows, fault_of}
use Rattle.pv_log.proofs.FollowLaws.{follow-decides}
use Rattle.pv_log.proofs.Sound.{accepted-refutes}
use Rattle.pv_log.proofs.VerdictLaws.{accepted-as, says-accepted, says-no_empty, says-refused}
use Rattle.pv_log.proofs.checker.Checker.check.Goals as goal

pub returns-clause-refuted : goal.returns-clause-refuted
returns-clause-refuted g c = λ e values holds.
    let v = g.F.ClauseView.variables c.args.f.now in
    let a = accepted-as (Follows v) (fault_of v) (g.F.ClauseView.clauses c.args.f.now) (g.L.LogView.all_lines c.args.log.now) c.verdict.result c.verdict.ensures.says e in
    accepted-refutes values v (g.F.ClauseView.clauses c.args.f.now) (g.L.LogView.all_lines c.args.log.now) a.each a.ends holds

pub returns-clause-accepted : goal.returns-clause-accepted
returns-clause-accepted g c = (let v = g.F.ClauseView.variables c.args.f.now in says-accepted (Follows v) (fault_of v) (g.F.ClauseView.clauses c.args.f.now) (g.L.LogView.all_lines c.args.log.now) (follow-decides v) c.verdict.result c.verdict.ensures.says)

pub returns-clause-no_empty : goal.returns-clause-no_empty
returns-clause-no_empty g c = (let v = g.F.ClauseView.variables c.args.f.now in says-no_empty (Follows v) (fault_of v) (g.F.ClauseView.clauses c.args.f.now) (g.L.LogView.all_lines c.args.log.now) (follow-decides v) c.verdict.result c.verdict.ensures.says)

pub returns-clause-refused : goal.returns-clause-refused
returns-clause-refused g c = (let v = g.F.ClauseView.variables c.args.f.now in says-refused (Follows v) (fault_of v) (g.F.ClauseView.clauses c.args.f.now) (g.L.LogView.all_lines c.args.log.now) (follow-decides v) c.verdict.result c.verdict.ensures.says)
