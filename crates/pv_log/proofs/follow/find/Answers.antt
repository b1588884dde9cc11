use Rattle.std.proofs.Common.{◌≡◌, ◌-◌, List, ℕ, false, sym, ◌∙◌, arith}
use Rattle.pv_cnf.specs.Clause.{has_outside}
use Rattle.pv_log.proofs.FindLaws.{named-line, named-past, lemma-inside}
use Rattle.pv_log.proofs.follow.find.Goals as goal

pub returns-then-line-lines-clause-value : goal.returns-then-line-lines-clause-value
returns-then-line-lines-clause-value g c = sym (named-line (g.F.ClauseView.clauses c.args.f.now) (g.L.LogView.all_lines c.args.log.now) c.args.lines c.args.id c.count-count.result c.count-count.ensures.count c.requires.few (omega arith) (omega arith) ∙ c.lits.ensures)

pub returns-then-line-lines-clause-inside : goal.returns-then-line-lines-clause-inside
returns-then-line-lines-clause-inside g c = lemma-inside (λ (lits : List ℕ). has_outside (g.F.ClauseView.variables c.args.f.now) lits ≡ false) (g.L.LogView.all_lines c.args.log.now) c.args.lines (c.args.id - c.count-count.result) c.lits.result.now c.requires.inside (omega arith) (omega arith) c.lits.ensures

pub returns-else-line-lines-clause-value : goal.returns-else-line-lines-clause-value
returns-else-line-lines-clause-value g c = sym (named-past (g.F.ClauseView.clauses c.args.f.now) (g.L.LogView.all_lines c.args.log.now) c.args.lines c.args.id c.requires.few (omega arith))
