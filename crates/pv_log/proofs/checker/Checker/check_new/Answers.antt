use Rattle.std.proofs.Common.{subst}
use Rattle.std.specs.Prelude.{IfOk}
use Rattle.pv_log.specs.Newness.{FollowsNew, new_fault_of}
use Rattle.pv_log.specs.Checking.{Says}
use Rattle.pv_log.proofs.NewLaws.{new-decides, each-follows}
use Rattle.pv_log.proofs.Sound.{accepted-refutes}
use Rattle.pv_log.proofs.VerdictLaws.{if-ok, says-accepted, says-no_empty, says-refused}
use Rattle.pv_log.proofs.checker.Checker.check_new.Goals as goal

pub returns-clause-refuted : goal.returns-clause-refuted
returns-clause-refuted g c = λ e values holds.
    let v = g.F.ClauseView.variables c.args.f.now in
    let clauses = g.F.ClauseView.clauses c.args.f.now in
    let lines = g.L.LogView.all_lines c.args.log.now in
    let a = subst (λ r. IfOk r (Says (FollowsNew v) (new_fault_of v) clauses lines)) e c.new_verdict.ensures.says in
    accepted-refutes values v clauses lines (each-follows v clauses lines a.each) a.ends holds

pub returns-clause-accepted : goal.returns-clause-accepted
returns-clause-accepted g c = (let v = g.F.ClauseView.variables c.args.f.now in if-ok (says-accepted (FollowsNew v) (new_fault_of v) (g.F.ClauseView.clauses c.args.f.now) (g.L.LogView.all_lines c.args.log.now) (new-decides v)) c.new_verdict.result c.new_verdict.ensures.says)

pub returns-clause-no_empty : goal.returns-clause-no_empty
returns-clause-no_empty g c = (let v = g.F.ClauseView.variables c.args.f.now in if-ok (says-no_empty (FollowsNew v) (new_fault_of v) (g.F.ClauseView.clauses c.args.f.now) (g.L.LogView.all_lines c.args.log.now) (new-decides v)) c.new_verdict.result c.new_verdict.ensures.says)

pub returns-clause-refused : goal.returns-clause-refused
returns-clause-refused g c = (let v = g.F.ClauseView.variables c.args.f.now in if-ok (says-refused (FollowsNew v) (new_fault_of v) (g.F.ClauseView.clauses c.args.f.now) (g.L.LogView.all_lines c.args.log.now) (new-decides v)) c.new_verdict.result c.new_verdict.ensures.says)
