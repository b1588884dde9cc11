-- What an outcome says, answer by answer.
use Rattle.std.proofs.Common.{◌≡◌, ◌∙◌, ℕ, ◌+◌, ◌*◌, ◌<◌, ◌≤◌, refl, sym, ap, subst, arith, Option, None, Some}
use Rattle.pv_cnf.specs.Clause.{Holds}
use Rattle.pv_log.specs.declared.line.Line.{Line}
use Rattle.pv_log.specs.Follows.{Follows, IsAccepted}
use Rattle.pv_log.specs.Propagation.{is_false}
use Rattle.pv_solver.specs.declared.answer.Answer.{Answer}
use Rattle.pv_solver.specs.declared.answer.Answer.TheVariants.{Sat, Unsat, SpentLemmas, SpentRegion}
use Rattle.pv_solver.specs.Answers.{Problem, Outcome, Solving, Says, SaysAll, truth_of, HasSpentLemmas, HasSpentRegion, assigned_in, lines_of, values_of, next_as, next_of, answer_of}
use Rattle.pv_solver.specs.declared.search.Search.{Search}
use Rattle.pv_watch.specs.Propagating.{Propagating}
use Rattle.pv_solver.specs.States.{problem_in, found_in, outcome_in, IsFresh, IsKept}
use Rattle.pv_solver.proofs.Visits.{values-at}

module _ (p : Problem) (found : Outcome) (says : SaysAll p found) where
  at : (a : Answer) → found.answer ≡ a → Says p found.log found.values found.next a
  at a e = subst (λ (b : Answer). Says p found.log found.values found.next b) e says

  pub says-sat : found.answer ≡ Sat → Holds (truth_of found.values) p.clauses
  says-sat e = (at Sat e).0

  pub says-unsat : found.answer ≡ Unsat → IsAccepted (Follows p.variables) p.clauses found.log
  says-unsat e = at Unsat e

  pub says-lemmas : found.answer ≡ SpentLemmas → HasSpentLemmas p found.log
  says-lemmas e = at SpentLemmas e

  pub says-region : (need : ℕ) → found.answer ≡ SpentRegion need → HasSpentRegion p found.log found.next need
  says-region need e = at (SpentRegion need) e

next-is : (a : Answer) (line next : Line) → next_as a line ≡ Some next → line ≡ next
next-is Sat line next e = absurd cc
next-is Unsat line next e = absurd cc
next-is SpentLemmas line next e = absurd cc
next-is (SpentRegion need) line next e = cc

pub region-next : (p : Problem) (found : Outcome) → SaysAll p found → (need : ℕ) → found.answer ≡ SpentRegion need → (next : Line)
    → next_as found.answer found.next ≡ Some next → HasSpentRegion p found.log next need
region-next p found says need e next is =
    subst (λ (line : Line). HasSpentRegion p found.log line need) (next-is found.answer found.next next
    is) (says-region p found says need e)

-- where a variable has a value, the answer is Sat, and the trail has it
pub value-there : (s : Search) (last : Line) (found : Option Answer) (v : ℕ) → 0 < v
    → v ≤ assigned_in s.propagator.stored.variables (outcome_in s last found) → v ≤ s.propagator.stored.variables
value-there s last None v low high = absurd (omega (arith, low, high))
value-there s last (Some Sat) v low high = high
value-there s last (Some Unsat) v low high = absurd (omega (arith, low, high))
value-there s last (Some SpentLemmas) v low high = absurd (omega (arith, low, high))
value-there s last (Some (SpentRegion need)) v low high = absurd (omega (arith, low, high))

pub value-is : (s : Search) (last : Line) (found : Option Answer) (v : ℕ) → s.propagator.path.variables ≡ s.propagator.stored.variables → 0 < v
    → v ≤ assigned_in s.propagator.stored.variables (outcome_in s last found)
    → is_false s.propagator.path.falses (2 * v + 1) ≡ truth_of (values_of (outcome_in s last found)) v
value-is s last None v same low high = absurd (omega (arith, low, high))
value-is s last (Some Sat) v same low high =
    sym (values-at s.propagator.path.falses (s.propagator.path.variables + 1) v (omega (arith, same, high)))
value-is s last (Some Unsat) v same low high = absurd (omega (arith, low, high))
value-is s last (Some SpentLemmas) v same low high = absurd (omega (arith, low, high))
value-is s last (Some (SpentRegion need)) v same low high = absurd (omega (arith, low, high))

-- ---- the answer that was found

pub answer-is : (s : Search) (last : Line) (found : Option Answer) → answer_of (outcome_in s last found) ≡ found
answer-is s last None = refl
answer-is s last (Some a) = refl

-- a solver with this problem and outcome
abbrev pub solving : Problem → Option Outcome → Solving
solving p outcome = record { problem = p; outcome = outcome }

abbrev pub seen_as : Search → Line → Option Answer → Solving
seen_as s last found = solving (problem_in s) (outcome_in s last found)

pub again-is : (s : Search) (last : Line) (found : Option Answer) (old : Solving) (answer a : Answer) → seen_as s last found ≡ old
    → found ≡ Some answer → answer_of old.outcome ≡ Some a → answer ≡ a
again-is s last found old answer a view is e =
    let same : Some answer ≡ Some a = sym is ∙ sym (answer-is s last found) ∙ ap (λ (x : Solving). answer_of x.outcome) view ∙ e in cc

pub not-again : (s : Search) (last : Line) (found : Option Answer) (old : Solving) (a : Answer) → seen_as s last found ≡ old
    → found ≡ None → answer_of old.outcome ≡ Some a → ⊥
not-again s last found old a view is e =
    let bad : None ≡ Some a = sym is ∙ sym (answer-is s last found) ∙ ap (λ (x : Solving). answer_of x.outcome) view ∙ e in cc

pub fresh-unfound : (s : Search) (last : Line) (found : Option Answer) → IsKept s last found → found ≡ None → IsFresh s
fresh-unfound s last found kept is = subst (IsKept s last) is kept

-- what a solver keeps says it of its answer
module _ (s : Search) (last : Line) (found : Option Answer) (a : Answer) (kept : IsKept s last found) (is : found ≡ Some a) where
  here : SaysAll (problem_in s) (found_in s last a)
  here = subst (IsKept s last) is kept

  outcome : outcome_in s last found ≡ Some (found_in s last a)
  outcome = ap (outcome_in s last) is

  pub kept-sat : a ≡ Sat → Holds (truth_of (values_of (outcome_in s last found))) (problem_in s).clauses
  kept-sat e = subst (λ (o : Option Outcome). Holds (truth_of (values_of o)) (problem_in s).clauses) (sym outcome)
      (says-sat (problem_in s) (found_in s last a) here e)

  pub kept-unsat : a ≡ Unsat → IsAccepted (Follows (problem_in s).variables) (problem_in s).clauses (lines_of (outcome_in s last found))
  kept-unsat e = subst (λ (o : Option Outcome). IsAccepted (Follows (problem_in s).variables) (problem_in s).clauses (lines_of o)) (sym outcome)
      (says-unsat (problem_in s) (found_in s last a) here e)

  pub kept-lemmas : a ≡ SpentLemmas → HasSpentLemmas (problem_in s) (lines_of (outcome_in s last found))
  kept-lemmas e = subst (λ (o : Option Outcome). HasSpentLemmas (problem_in s) (lines_of o)) (sym outcome)
      (says-lemmas (problem_in s) (found_in s last a) here e)

  pub kept-region : (need : ℕ) → a ≡ SpentRegion need → (next : Line) → next_of (outcome_in s last found) ≡ Some next
      → HasSpentRegion (problem_in s) (lines_of (outcome_in s last found)) next need
  kept-region need e next n = subst (λ (o : Option Outcome). HasSpentRegion (problem_in s) (lines_of o) next need) (sym outcome)
      (region-next (problem_in s) (found_in s last a) here need e next (subst (λ (o : Option Outcome). next_of o ≡ Some next) outcome n))

-- another number of lemmas
pub set-is : (old new : Search) (last : Line) (found : Option Answer) (seen : Solving) (lemmas : ℕ) → seen_as old last found ≡ seen
    → seen.outcome ≡ None → new.propagator ≡ old.propagator → new.lemmas ≡ lemmas
    → seen_as new last found ≡ solving (record seen.problem { lemmas = lemmas }) None
set-is old new last None seen lemmas view none propagator set =
    ap (λ (x : Propagating). solving (record {
      variables = x.stored.variables;
      clauses = x.stored.clauses;
      words = x.stored.capacity;
      lemmas = new.lemmas;
    }) None) propagator
    ∙ ap (λ (n : ℕ). solving (record {
      variables = old.propagator.stored.variables;
      clauses = old.propagator.stored.clauses;
      words = old.propagator.stored.capacity;
      lemmas = n;
    }) None) set
    ∙ ap (λ (x : Solving). solving (record x.problem { lemmas = lemmas }) None) view
set-is old new last (Some a) seen lemmas view none propagator set =
    let bad : Some (found_in old last a) ≡ None = ap (λ (x : Solving). x.outcome) view ∙ none in absurd cc
