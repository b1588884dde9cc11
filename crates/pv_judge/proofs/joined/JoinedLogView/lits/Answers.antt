use Rattle.std.proofs.Common.{ap, sym, ◌∙◌, Some, List, ℕ}
use Rattle.pv_log.specs.declared.line.Line.{Line}
use Rattle.pv_judge.proofs.Spending.{next-got, own-got}
use Rattle.pv_judge.proofs.joined.JoinedLogView.lits.Goals as goal

pub returns-in-Some : goal.returns-in-Some
returns-in-Some c =
    let joined = c.args.self.now in
    next-got (λ (l : Line). l.lits) joined.log.now joined.next.now c.in-Some.line.now c.args.n c.in-Some.ensures.0 c.in-Some.ensures.1 c.requires.to_last
    ∙ ap (λ (xs : List ℕ). Some xs) (sym c.as_slice.ensures)

pub returns-in-None : goal.returns-in-None
returns-in-None c =
    let joined = c.args.self.now in
    own-got (λ (l : Line). l.lits) joined.log.now joined.next.now c.lits.result.now c.args.n c.requires.from_one c.in-None.ensures c.lits.ensures
