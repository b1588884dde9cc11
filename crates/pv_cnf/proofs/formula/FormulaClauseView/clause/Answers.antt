use Rattle.std.proofs.Common.{◌≡◌, ◌∙◌, ◌-◌, sym, ap, length, slice_get, Some, arith}
use Rattle.pv_cnf.specs.Clause.{Cnf, IsClause}
use Rattle.pv_cnf.specs.Layout.{parts_from}
use Rattle.pv_cnf.proofs.Parts.{length-parts_from}
use Rattle.pv_cnf.proofs.Elements.{All-inside, IsClause-at}
use Rattle.pv_cnf.proofs.formula.FormulaClauseView.clause.Goals as goal

pub part-requires-clause-there : goal.part-requires-clause-there
part-requires-clause-there c =
    let ends = c.self.inside.ends.items in
    let count : length c.args.self.now.clauses ≡ length ends = ap (λ (f : Cnf). length f.clauses) (sym c.self.view_is) ∙ length-parts_from 0 ends c.self.inside.lits.items in
    let same : length c.deref-2.result.now ≡ length ends = ap length c.deref-2.ensures.value in
    omega (arith, count, same, c.requires.from_one, c.requires.to_count)

valid : (c : goal.After-part) → IsClause c.self.inside.variables c.part.result.now
valid c =
    let here : slice_get (parts_from 0 c.self.inside.ends.items c.self.inside.lits.items) (c.args.n - 1) ≡ Some c.part.result.now = rw (← c.deref-2.ensures.value, ← c.deref.ensures.value) c.part.ensures in
    IsClause-at c.self.inside.variables _ (c.args.n - 1) c.part.result.now c.self.invariant.valid here

pub returns-clause-valid : goal.returns-clause-valid
returns-clause-valid c = rw (← c.self.view_is) (valid c)

pub returns-clause-in_range : goal.returns-clause-in_range
returns-clause-in_range c = rw (← c.self.view_is) (All-inside c.self.inside.variables c.part.result.now (valid c).inside)
