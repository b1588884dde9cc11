use Rattle.std.proofs.Common.{◌≡◌, ◌∙◌, ℕ, List, true, sym, subst}
use Rattle.pv_cnf.specs.Clause.{IsClause}
use Rattle.pv_log.specs.Propagation.{is_false}
use Rattle.pv_region.specs.Stored.{all_lits}
use Rattle.pv_watch.specs.Turns.{Looks}
use Rattle.pv_watch.proofs.Clauses.{own-inside}
use Rattle.pv_watch.proofs.Looking.{below-bound, already-true, visited-is}
use Rattle.pv_watch.proofs.visit.visit_entry.Goals as goal

pub is_true-requires : goal.is_true-requires
is_true-requires c =
    let v = c.requires.visited in
    below-bound c.args.trail.now.variables c.args.other (own-inside c.args.trail.now.variables v.clause c.args.other v.valid.inside v.own)

pub returns-then-is_true-clause-looks : goal.returns-then-is_true-clause-looks
returns-then-is_true-clause-looks c = λ clause at.
    already-true c.args.trail.now c.args.watch.id clause c.args.other (sym c.is_true.ensures ∙ c.if-is_true.true)

pub lits-requires-clause-from_one : goal.lits-requires-clause-from_one
lits-requires-clause-from_one c = c.requires.visited.from_one

pub lits-requires-clause-to_last : goal.lits-requires-clause-to_last
lits-requires-clause-to_last c = c.requires.visited.to_last

pub look-requires-clause-valid : goal.look-requires-clause-valid
look-requires-clause-valid c =
    let v = c.requires.visited in
    subst (IsClause c.args.trail.now.variables)
    (sym (visited-is (all_lits c.args.region.now) c.args.watch.id c.lits.result.now v.clause v.from_one c.lits.ensures v.at)) v.valid

pub look-requires-clause-own : goal.look-requires-clause-own
look-requires-clause-own c =
    let v = c.requires.visited in
    subst (λ (cl : List ℕ). is_false cl c.args.other ≡ true)
    (sym (visited-is (all_lits c.args.region.now) c.args.watch.id c.lits.result.now v.clause v.from_one c.lits.ensures v.at)) v.own

pub returns-clause-looks : goal.returns-clause-looks
returns-clause-looks c = λ clause at.
    subst (λ (cl : List ℕ). Looks c.args.trail.now c.look.new.trail c.args.watch.id cl c.args.other c.look.result)
    (visited-is (all_lits c.args.region.now) c.args.watch.id c.lits.result.now clause c.requires.visited.from_one c.lits.ensures at)
    c.look.ensures.looks
