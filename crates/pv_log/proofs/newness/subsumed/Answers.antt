use Rattle.std.proofs.Common.{◌≡◌, ℕ, ◌||◌, false, sym, subst, ◌∙◌}
use Rattle.pv_cnf.specs.Clause.{has_outside, has_double}
use Rattle.pv_log.proofs.NewLaws.{not-refused}
use Rattle.pv_log.proofs.newness.subsumed.Goals as goal
use Rattle.pv_log.proofs.newness.subsumed.Goals.{then-is_ok, else-is_ok}

pub returns-clause-value : goal.returns-clause-value
returns-clause-value g c = elim c.if-is_ok.branch [
  | then-is_ok w ↦ w.answer-is ∙ w.finds_false-answer.ensures
  | else-is_ok w ↦ absurd (not-refused c.assume.result (has_outside c.variables.result c.args.lits.now || has_double c.args.lits.now) c.assume.ensures.tautology (subst (λ (v : ℕ). (has_outside v c.args.lits.now || has_double c.args.lits.now) ≡ false) (sym c.variables.ensures) c.requires.lemma) (sym c.is_ok.ensures.value ∙ w.if-is_ok.false))
]
