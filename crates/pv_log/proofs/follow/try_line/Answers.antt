use Rattle.std.proofs.Common.{◌≡◌, ◌+◌, ◌||◌, List, ℕ, true, false, Option, refl, ◌∙◌, ap, subst, arith, Some}
use Rattle.std.specs.Result.{result_err}
use Rattle.std.proofs.lemmas.Result.{err_from_is_err_and}
use Rattle.pv_cnf.specs.Clause.{has_outside, has_double}
use Rattle.pv_log.specs.declared.fault.LineFault.{LineFault}
use Rattle.pv_log.specs.Propagation.{hints_fault}
use Rattle.pv_log.specs.Checking.{known}
use Rattle.pv_log.proofs.FollowLaws.{exit-id, exit-lemma, exit-hints}
use Rattle.pv_log.proofs.follow.try_line.Goals as goal

abbrev some_fault : LineFault → Option LineFault
some_fault k = Some k

pub returns-then-id-count-clause-fault : goal.returns-then-id-count-clause-fault
returns-then-id-count-clause-fault g c = λ line at.
    exit-id (g.F.ClauseView.variables c.args.f.now) (g.F.ClauseView.clauses c.args.f.now) (g.L.LogView.all_lines c.args.log.now) c.args.lines (c.args.lines + 1) line refl (omega arith) at c.id.result c.id.ensures (λ e. c.if-id-count.true (omega arith))

pub returns-in_err-assume-clause-fault : goal.returns-in_err-assume-clause-fault
returns-in_err-assume-clause-fault g c = λ line at.
    let p = err_from_is_err_and c.from_residual.result c.from_residual.ensures.1 in
    let exit = exit-lemma (g.F.ClauseView.variables c.args.f.now) (g.F.ClauseView.clauses c.args.f.now) (g.L.LogView.all_lines c.args.log.now) c.args.lines (c.args.lines + 1) line refl (omega arith) at c.id.result c.id.ensures (omega arith) c.lits.result.now c.lits.ensures (subst (λ (v : ℕ). (has_outside v c.lits.result.now || has_double c.lits.result.now) ≡ true) c.variables.ensures c.in_err-assume.ensures.tautology.1) in
    ap result_err p.1 ∙ ap some_fault (p.2 ∙ c.in_err-assume.ensures.tautology.0) ∙ exit

pub returns-clause-fault : goal.returns-clause-fault
returns-clause-fault g c = λ line at.
    let good = c.in_ok-assume.ensures.lemma in
    let fals = c.in_ok-assume.ensures.falses in
    let exit = exit-hints (g.F.ClauseView.variables c.args.f.now) (g.F.ClauseView.clauses c.args.f.now) (g.L.LogView.all_lines c.args.log.now) c.args.lines (c.args.lines + 1) line refl (omega arith) at c.id.result c.id.ensures (omega arith) c.lits.result.now c.hints.result.now c.lits.ensures c.hints.ensures (subst (λ (v : ℕ). (has_outside v c.lits.result.now || has_double c.lits.result.now) ≡ false) c.variables.ensures good) in
    c.follow.ensures.fault ∙ ap (λ (xs : List ℕ). hints_fault (known (g.F.ClauseView.clauses c.args.f.now) (g.L.LogView.all_lines c.args.log.now) c.args.lines) xs c.hints.result.now) fals ∙ exit
