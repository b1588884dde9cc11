use Rattle.std.proofs.Common.{sym, ◌∙◌, ap, arith}
use Rattle.std.specs.Result.{result_err}
use Rattle.pv_log.specs.Follows.{Follows, fault_of}
use Rattle.pv_log.proofs.FollowLaws.{follow-decides, inside-lines}
use Rattle.pv_log.proofs.LineByLine.{follows-next, fails-next, all-follow}
use Rattle.pv_log.proofs.VerdictLaws.{says-ending}
use Rattle.pv_log.proofs.checker.verdict.Goals as goal

pub check_line-requires-clause-inside : goal.check_line-requires-clause-inside
check_line-requires-clause-inside g c = inside-lines (g.F.ClauseView.variables c.args.f.now) (g.F.ClauseView.clauses c.args.f.now) (g.L.LogView.all_lines c.args.log.now) c.loop-n.n c.loop-n.invariant.each

pub returns-in-Err-clause-says : goal.returns-in-Err-clause-says
returns-in-Err-clause-says g c =
    let v = g.F.ClauseView.variables c.args.f.now in
    fails-next (Follows v) (fault_of v) (follow-decides v) (g.F.ClauseView.clauses c.args.f.now) (g.L.LogView.all_lines c.args.log.now) c.loop-n.n c.in-Err.kind c.loop-n.invariant.each (omega (arith, c.lines-n-end.ensures)) (λ line at. sym (c.check_line.ensures.fault line at) ∙ ap result_err c.in-Err.is)

pub loop-n-preserved : goal.loop-n-preserved
loop-n-preserved g c =
    let v = g.F.ClauseView.variables c.args.f.now in
    record {
      same = c.check_line.ensures.variables ∙ c.loop-n.invariant.same;
      none = c.check_line.ensures.none;
      each = follows-next (Follows v) (fault_of v) (follow-decides v) (g.F.ClauseView.clauses c.args.f.now) (g.L.LogView.all_lines c.args.log.now) c.loop-n.n c.loop-n.invariant.each (omega (arith, c.lines-n-end.ensures)) (λ line at. sym (c.check_line.ensures.fault line at) ∙ ap result_err c.in_default.is);
    }

pub returns-clause-says : goal.returns-clause-says
returns-clause-says g c =
    let v = g.F.ClauseView.variables c.args.f.now in
    let each = all-follow (Follows v) (g.F.ClauseView.clauses c.args.f.now) (g.L.LogView.all_lines c.args.log.now) c.loop-n.n (omega (arith, c.lines-n-end.ensures)) c.loop-n.invariant.each in
    says-ending (Follows v) (fault_of v) (g.F.ClauseView.clauses c.args.f.now) (g.L.LogView.all_lines c.args.log.now) c.ending.result each c.ending.ensures
