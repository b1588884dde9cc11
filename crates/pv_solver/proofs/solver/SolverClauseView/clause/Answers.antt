use Rattle.std.proofs.Common.{◌≡◌, ◌-◌, ◌≤◌, length, Some, slice_get, sym, ap, subst, arith}
use Rattle.pv_cnf.specs.Clause.{IsClause}
use Rattle.pv_log.proofs.ForCallers.{slice_get-all}
use Rattle.pv_region.specs.Stored.{Stored, all_lits}
use Rattle.pv_solver.specs.Answers.{Solving}
use Rattle.pv_learn.proofs.ForCallers.{all-inside}
use Rattle.pv_solver.proofs.Logs.{clause-at}
use Rattle.pv_solver.proofs.solver.SolverClauseView.clause.Goals as goal

pub lits-requires-clause-to_last : goal.lits-requires-clause-to_last
lits-requires-clause-to_last c =
    let high = subst (λ (s : Solving). c.args.n ≤ length s.problem.clauses) (sym c.self.view_is) c.requires.to_count in
    let same = ap (λ (s : Stored). length s.clauses) c.region.ensures.stored in omega (arith, high, same)

valid : (c : goal.After-lits) → IsClause c.self.inside.search.propagator.stored.variables c.lits.result.now
valid c =
    let s = c.self.inside.search.propagator.stored in
    slice_get-all (IsClause s.variables) (all_lits s) (c.args.n - 1) c.lits.result.now c.region.ensures.valid
    (subst (λ (t : Stored). slice_get (all_lits t) (c.args.n - 1) ≡ Some c.lits.result.now) c.region.ensures.stored c.lits.ensures)

pub returns-clause-value : goal.returns-clause-value
returns-clause-value c =
    let s = c.self.inside.search.propagator.stored in
    let high = subst (λ (t : Solving). c.args.n ≤ length t.problem.clauses) (sym c.self.view_is) c.requires.to_count in
    subst (λ (t : Solving). slice_get t.problem.clauses (c.args.n - 1) ≡ Some c.lits.result.now) c.self.view_is
    (clause-at s c.args.n c.lits.result.now c.requires.from_one high
    (subst (λ (t : Stored). slice_get (all_lits t) (c.args.n - 1) ≡ Some c.lits.result.now) c.region.ensures.stored c.lits.ensures))

pub returns-clause-valid : goal.returns-clause-valid
returns-clause-valid c = subst (λ (t : Solving). IsClause t.problem.variables c.lits.result.now) c.self.view_is (valid c)

pub returns-clause-in_range : goal.returns-clause-in_range
returns-clause-in_range c =
    rw (← c.self.view_is) (all-inside c.self.inside.search.propagator.stored.variables c.lits.result.now (valid c).inside)
