use Rattle.std.proofs.Common.{length, sym, ◌∙◌}
use Rattle.std.proofs.lemmas.Bool.{eqb-true, eqb-false}
use Rattle.pv_judge.proofs.Empties.{empty-here, empty-later}
use Rattle.pv_judge.proofs.lemmas.first_empty.Goals as goal

pub returns-then-is_empty : goal.returns-then-is_empty
returns-then-is_empty g c =
    let lines = g.L.LogView.all_lines c.args.log.now in
    let lits = c.lits.result.now in
    let none = eqb-true (length lits) 0 (sym c.is_empty.ensures ∙ c.if-is_empty.true) in
    sym (empty-here lines c.loop-n.n lits c.lits.ensures none) ∙ c.loop-n.invariant.left

pub loop-n-preserved : goal.loop-n-preserved
loop-n-preserved g c =
    let lines = g.L.LogView.all_lines c.args.log.now in
    let lits = c.lits.result.now in
    let some = eqb-false (length lits) 0 (sym c.is_empty.ensures ∙ c.if-is_empty.false) in
    record { left = sym (empty-later lines c.loop-n.n lits c.lits.ensures some) ∙ c.loop-n.invariant.left }
