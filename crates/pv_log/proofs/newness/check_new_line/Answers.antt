use Rattle.std.proofs.Common.{◌+◌, true, false, refl, sym, ap, ◌∙◌}
use Rattle.std.specs.Result.{result_err}
use Rattle.pv_log.proofs.NewLaws.{lits-follow, exit-new}
use Rattle.pv_log.proofs.newness.check_new_line.Goals as goal

pub subsumed-requires-clause-lemma : goal.subsumed-requires-clause-lemma
subsumed-requires-clause-lemma g c =
    lits-follow (g.F.ClauseView.variables c.args.f.now) (g.F.ClauseView.clauses c.args.f.now) (g.L.LogView.all_lines c.args.log.now) c.args.lines (c.args.lines + 1) refl c.lits.result.now c.lits.ensures c.requires.few (λ line at. sym (c.check_line.ensures.fault line at) ∙ ap result_err c.in_ok-check_line.was)

pub returns-then-subsumed-clause-fault : goal.returns-then-subsumed-clause-fault
returns-then-subsumed-clause-fault g c = λ line at.
    sym (exit-new (g.F.ClauseView.variables c.args.f.now) (g.F.ClauseView.clauses c.args.f.now) (g.L.LogView.all_lines c.args.log.now) c.args.lines (c.args.lines + 1) refl c.lits.result.now c.lits.ensures line true at (sym (c.check_line.ensures.fault line at) ∙ ap result_err c.in_ok-check_line.was) (sym c.subsumed.ensures.value ∙ c.if-subsumed.true))

pub returns-clause-fault : goal.returns-clause-fault
returns-clause-fault g c = λ line at.
    sym (exit-new (g.F.ClauseView.variables c.args.f.now) (g.F.ClauseView.clauses c.args.f.now) (g.L.LogView.all_lines c.args.log.now) c.args.lines (c.args.lines + 1) refl c.lits.result.now c.lits.ensures line false at (sym (c.check_line.ensures.fault line at) ∙ ap result_err c.in_ok-check_line.was) (sym c.subsumed.ensures.value ∙ c.if-subsumed.false))
