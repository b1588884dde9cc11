use Rattle.std.proofs.Common.{◌≡◌, ◌∙◌, sym, ap, length, arith}
use Rattle.std.proofs.lemmas.Grind.{common_steps}
use Rattle.pv_cnf.specs.Clause.{Cnf}
use Rattle.pv_cnf.proofs.Parts.{length-parts_from}
use Rattle.pv_cnf.proofs.formula.FormulaClauseView.count.Goals as goal

pub returns-clause-count : goal.returns-clause-count
returns-clause-count c =
    let ends : c.len.result ≡ length c.self.inside.ends.items = grind (arith, common_steps, c.len.ensures) in
    ends ∙ sym (length-parts_from 0 c.self.inside.ends.items c.self.inside.lits.items) ∙ ap (λ (f : Cnf). length f.clauses) c.self.view_is
