use Rattle.std.proofs.Common.{◌≡◌, ◌-◌, Some, slice_get, ap, subst, arith}
use Rattle.pv_cnf.specs.Clause.{IsClause}
use Rattle.pv_log.proofs.ForCallers.{slice_get-all}
use Rattle.pv_region.specs.Stored.{Stored, count_of, all_lits}
use Rattle.pv_learn.proofs.Counts.{count-lits, all-inside}
use Rattle.pv_learn.proofs.known.KnownClauseView.clause.Goals as goal

pub lits-requires-clause-to_last : goal.lits-requires-clause-to_last
lits-requires-clause-to_last c =
    let all = count-lits c.args.self.now.propagator.now.stored in let same = ap count_of c.region.ensures.stored in
    omega (arith, all, same, c.requires.to_count)

valid : (c : goal.After-lits) → IsClause c.args.self.now.propagator.now.stored.variables c.lits.result.now
valid c =
    let s = c.args.self.now.propagator.now.stored in
    slice_get-all (IsClause s.variables) (all_lits s) (c.args.n - 1) c.lits.result.now c.region.ensures.valid
    (subst (λ (t : Stored). slice_get (all_lits t) (c.args.n - 1) ≡ Some c.lits.result.now) c.region.ensures.stored c.lits.ensures)

pub returns-clause-value : goal.returns-clause-value
returns-clause-value c =
    subst (λ (t : Stored). slice_get (all_lits t) (c.args.n - 1) ≡ Some c.lits.result.now) c.region.ensures.stored c.lits.ensures

pub returns-clause-valid : goal.returns-clause-valid
returns-clause-valid c = valid c

pub returns-clause-in_range : goal.returns-clause-in_range
returns-clause-in_range c = all-inside c.args.self.now.propagator.now.stored.variables c.lits.result.now (valid c).inside
