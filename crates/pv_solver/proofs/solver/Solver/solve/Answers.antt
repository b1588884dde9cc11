use Rattle.std.proofs.Common.{◌≡◌, ◌<◌, ◌∙◌, ℕ, Some, refl, sym, ap, subst}
use Rattle.pv_cnf.specs.Clause.{Holds}
use Rattle.pv_log.specs.Follows.{Follows, IsAccepted}
use Rattle.pv_solver.specs.Answers.{Problem, Solving, HasSpentLemmas, HasSpentRegion, truth_of, lines_of, values_of, next_of, answer_of}
use Rattle.pv_solver.proofs.Endings.{with_draft, kept-solved, problem-solved}
use Rattle.pv_solver.proofs.Saying.{answer-is, again-is, not-again, fresh-unfound, kept-sat, kept-unsat, kept-lemmas, kept-region}
use Rattle.pv_solver.proofs.solver.Solver.solve.Goals as goal

-- ---- an answer that was found

pub returns-in-Some-clause-answered : goal.returns-in-Some-clause-answered
returns-in-Some-clause-answered c =
    let i = c.self.inside in sym (ap (λ (s : Solving). answer_of s.outcome) c.self.view_is) ∙ answer-is i.search i.last i.found ∙ c.in-Some.is

pub returns-in-Some-clause-again : goal.returns-in-Some-clause-again
returns-in-Some-clause-again c = λ a e.
    let i = c.self.inside in (again-is i.search i.last i.found c.args.self.now c.in-Some.answer a c.self.view_is c.in-Some.is e, refl)

pub returns-in-Some-clause-sat : goal.returns-in-Some-clause-sat
returns-in-Some-clause-sat c = λ e.
    let i = c.self.inside in
    subst (λ (s : Solving). Holds (truth_of (values_of s.outcome)) s.problem.clauses) c.self.view_is
    (kept-sat i.search i.last i.found c.in-Some.answer c.self.invariant.kept c.in-Some.is e)

pub returns-in-Some-clause-unsat : goal.returns-in-Some-clause-unsat
returns-in-Some-clause-unsat c = λ e.
    let i = c.self.inside in
    subst (λ (s : Solving). IsAccepted (Follows s.problem.variables) s.problem.clauses (lines_of s.outcome)) c.self.view_is
    (kept-unsat i.search i.last i.found c.in-Some.answer c.self.invariant.kept c.in-Some.is e)

pub returns-in-Some-clause-spent_lemmas : goal.returns-in-Some-clause-spent_lemmas
returns-in-Some-clause-spent_lemmas c = λ e.
    let i = c.self.inside in
    subst (λ (s : Solving). HasSpentLemmas s.problem (lines_of s.outcome)) c.self.view_is
    (kept-lemmas i.search i.last i.found c.in-Some.answer c.self.invariant.kept c.in-Some.is e)

pub returns-in-Some-clause-spent_region : goal.returns-in-Some-clause-spent_region
returns-in-Some-clause-spent_region c = λ need e next n.
    let i = c.self.inside in
    subst (λ (s : Solving). HasSpentRegion s.problem (lines_of s.outcome) next need) c.self.view_is
    (kept-region i.search i.last i.found c.in-Some.answer c.self.invariant.kept c.in-Some.is need e next
    (subst (λ (s : Solving). next_of s.outcome ≡ Some next) (sym c.self.view_is) n))

-- ---- a search

pub run-end-requires : goal.run-end-requires
run-end-requires c = let i = c.self.inside in fresh-unfound i.search i.last i.found c.self.invariant.kept c.in-None.is

pub invariant_of-self : goal.invariant_of-self
invariant_of-self c = record {
  small = subst (λ (p : Problem). p.variables < 2147483648) (sym (problem-solved c.self.inside.search c.run-end.new.self c.line.new.self c.run-end.result c.run-end.ensures)) c.self.invariant.small;
  blank = c.self.invariant.blank ∙ sym (ap (λ (p : Problem). p.variables) (problem-solved c.self.inside.search c.run-end.new.self c.line.new.self c.run-end.result c.run-end.ensures));
  kept = (kept-solved c.self.inside.search c.run-end.new.self c.line.new.self c.run-end.result c.next_id-id.result c.line.result c.answer_for-answer.result
      c.run-end.ensures c.next_id-id.ensures.valid c.next_id-id.ensures.id c.line.ensures c.answer_for-answer.ensures);
}

pub returns-clause-answered : goal.returns-clause-answered
returns-clause-answered c = refl

pub returns-clause-problem : goal.returns-clause-problem
returns-clause-problem c = (problem-solved c.self.inside.search c.run-end.new.self c.line.new.self c.run-end.result c.run-end.ensures) ∙ ap (λ (s : Solving). s.problem) c.self.view_is

pub returns-clause-again : goal.returns-clause-again
returns-clause-again c = λ a e.
    let i = c.self.inside in absurd (not-again i.search i.last i.found c.args.self.now a c.self.view_is c.in-None.is e)

pub returns-clause-sat : goal.returns-clause-sat
returns-clause-sat c = kept-sat (with_draft c.run-end.new.self c.line.new.self) c.line.result (Some c.answer_for-answer.result) c.answer_for-answer.result
    (kept-solved c.self.inside.search c.run-end.new.self c.line.new.self c.run-end.result c.next_id-id.result c.line.result c.answer_for-answer.result
    c.run-end.ensures c.next_id-id.ensures.valid c.next_id-id.ensures.id c.line.ensures c.answer_for-answer.ensures) refl

pub returns-clause-unsat : goal.returns-clause-unsat
returns-clause-unsat c = kept-unsat (with_draft c.run-end.new.self c.line.new.self) c.line.result (Some c.answer_for-answer.result) c.answer_for-answer.result
    (kept-solved c.self.inside.search c.run-end.new.self c.line.new.self c.run-end.result c.next_id-id.result c.line.result c.answer_for-answer.result
    c.run-end.ensures c.next_id-id.ensures.valid c.next_id-id.ensures.id c.line.ensures c.answer_for-answer.ensures) refl

pub returns-clause-spent_lemmas : goal.returns-clause-spent_lemmas
returns-clause-spent_lemmas c = kept-lemmas (with_draft c.run-end.new.self c.line.new.self) c.line.result (Some c.answer_for-answer.result) c.answer_for-answer.result
    (kept-solved c.self.inside.search c.run-end.new.self c.line.new.self c.run-end.result c.next_id-id.result c.line.result c.answer_for-answer.result
    c.run-end.ensures c.next_id-id.ensures.valid c.next_id-id.ensures.id c.line.ensures c.answer_for-answer.ensures) refl

pub returns-clause-spent_region : goal.returns-clause-spent_region
returns-clause-spent_region c = kept-region (with_draft c.run-end.new.self c.line.new.self) c.line.result (Some c.answer_for-answer.result) c.answer_for-answer.result
    (kept-solved c.self.inside.search c.run-end.new.self c.line.new.self c.run-end.result c.next_id-id.result c.line.result c.answer_for-answer.result
    c.run-end.ensures c.next_id-id.ensures.valid c.next_id-id.ensures.id c.line.ensures c.answer_for-answer.ensures) refl
