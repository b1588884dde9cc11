use Rattle.std.proofs.Common.{ℕ, ◌+◌, List, refl, sym, ap, subst, ◌∙◌, arith}
use Rattle.std.specs.Result.{result_err}
use Rattle.pv_log.specs.Newness.{FollowsNew, new_fault_of}
use Rattle.pv_log.specs.Filing.{IsFiled}
use Rattle.pv_log.specs.Checking.{known}
use Rattle.std.proofs.Common.{take}
use Rattle.pv_log.proofs.FollowLaws.{inside-lines}
use Rattle.pv_log.proofs.LineByLine.{follows-next, fails-next, all-follow}
use Rattle.pv_log.proofs.NewLaws.{new-decides, each-follows, known-next, literals-below, line-inside}
use Rattle.pv_log.proofs.VerdictLaws.{says-ending}
use Rattle.pv_log.proofs.checker.new_verdict.Goals as goal

pub check_new_line-requires-clause-inside : goal.check_new_line-requires-clause-inside
check_new_line-requires-clause-inside g c =
    let lines = g.L.LogView.all_lines c.args.log.now in
    inside-lines (g.F.ClauseView.variables c.args.f.now) (g.F.ClauseView.clauses c.args.f.now) lines c.loop-n.n (each-follows (g.F.ClauseView.variables c.args.f.now) (g.F.ClauseView.clauses c.args.f.now) (take c.loop-n.n lines) c.loop-n.invariant.each)

pub returns-in-Err-clause-says : goal.returns-in-Err-clause-says
returns-in-Err-clause-says g c =
    let v = g.F.ClauseView.variables c.args.f.now in
    fails-next (FollowsNew v) (new_fault_of v) (new-decides v) (g.F.ClauseView.clauses c.args.f.now) (g.L.LogView.all_lines c.args.log.now) c.loop-n.n c.in-Err.kind c.loop-n.invariant.each (omega (arith, c.lines-n-end.ensures)) (λ line at. sym (c.check_new_line.ensures.fault line at) ∙ ap result_err c.in-Err.is)

pub add-requires-clause-inside : goal.add-requires-clause-inside
add-requires-clause-inside g c =
    let v = g.F.ClauseView.variables c.args.f.now in
    let clauses = g.F.ClauseView.clauses c.args.f.now in
    let lines = g.L.LogView.all_lines c.args.log.now in
    let each = follows-next (FollowsNew v) (new_fault_of v) (new-decides v) clauses lines c.loop-n.n c.loop-n.invariant.each (omega (arith, c.lines-n-end.ensures)) (λ line at. sym (c.check_new_line.ensures.fault line at) ∙ ap result_err c.in_default.is) in
    literals-below v _ c.lits.result.now c.loop-n.invariant.filed.literals (line-inside v clauses lines (c.loop-n.n + 1) c.lits.result.now each (omega arith) c.lits.ensures)

pub loop-n-preserved : goal.loop-n-preserved
loop-n-preserved g c =
    let v = g.F.ClauseView.variables c.args.f.now in
    let clauses = g.F.ClauseView.clauses c.args.f.now in
    let lines = g.L.LogView.all_lines c.args.log.now in
    record {
      same = c.check_new_line.ensures.variables ∙ c.loop-n.invariant.same;
      none = c.check_new_line.ensures.none;
      filed = subst (λ (cs : List (List ℕ)). IsFiled v c.add.new.self cs) (known-next clauses lines c.loop-n.n (c.loop-n.n + 1) c.lits.result.now refl c.lits.ensures) (c.in_ok-add.ensures.filed v (known clauses lines c.loop-n.n) c.loop-n.invariant.filed);
      each = follows-next (FollowsNew v) (new_fault_of v) (new-decides v) clauses lines c.loop-n.n c.loop-n.invariant.each (omega (arith, c.lines-n-end.ensures)) (λ line at. sym (c.check_new_line.ensures.fault line at) ∙ ap result_err c.in_default.is);
    }

pub returns-clause-says : goal.returns-clause-says
returns-clause-says g c =
    let v = g.F.ClauseView.variables c.args.f.now in
    let each = all-follow (FollowsNew v) (g.F.ClauseView.clauses c.args.f.now) (g.L.LogView.all_lines c.args.log.now) c.loop-n.n (omega (arith, c.lines-n-end.ensures)) c.loop-n.invariant.each in
    says-ending (FollowsNew v) (new_fault_of v) (g.F.ClauseView.clauses c.args.f.now) (g.L.LogView.all_lines c.args.log.now) c.ending.result each c.ending.ensures
