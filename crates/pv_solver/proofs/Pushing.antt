-- Clauses that are pushed to a solver without an answer.
use Rattle.std.proofs.Common.{◌≡◌, ℕ, ◌+◌, ◌*◌, ◌≤◌, Bool, true, false, cond, List, [], ◌∷◌, ◌++◌, refl, sym, ap, subst, ◌∙◌, arith, Option, None, Some}
use Rattle.std.specs.Prelude.{sum_by, is_none, vec_capacity}
use Rattle.std.proofs.lemmas.Bool.{lt-ltb, le-ltb, both_ways}
use Rattle.std.proofs.lemmas.List.Sums.{sum_by_push}
use Rattle.pv_log.specs.declared.line.Line.{Line}
use Rattle.pv_region.specs.Stored.{Stored, Hinted, Passes, clause_cost, lemma_cost, used_of, with_clause}
use Rattle.pv_watch.specs.Trail.{Path}
use Rattle.pv_watch.specs.Turns.{SameText}
use Rattle.pv_watch.specs.Propagating.{Propagating}
use Rattle.pv_solver.specs.declared.answer.Answer.{Answer}
use Rattle.pv_learn.specs.declared.draft.Draft.{Draft}
use Rattle.pv_solver.specs.declared.search.Search.{Search}
use Rattle.pv_solver.specs.Costs.{words_of, past}
use Rattle.pv_learn.specs.Learning.{HasRoom}
use Rattle.pv_solver.specs.States.{outcome_in, IsFresh, IsKept}

-- nothing was found yet
pub fresh-of : (s : Search) (last : Line) (found : Option Answer) → IsKept s last found → is_none (outcome_in s last found) ≡ true → IsFresh s
fresh-of s last None kept none = kept
fresh-of s last (Some answer) kept none = absurd (both_ways false refl none)

fresh-pushed : (old new : Search) (lits : List ℕ) → IsFresh old → SameText (with_clause old.propagator.stored lits) new.propagator.stored
    → new.propagator.path ≡ old.propagator.path → new.checker ≡ old.checker → new.draft ≡ old.draft → IsFresh new
fresh-pushed old new lits f text path checker draft = record {
  lemmas = text.lemmas ∙ f.lemmas;
  falses = ap (λ (p : Path). p.falses) path ∙ f.falses;
  starts = ap (λ (p : Path). p.starts) path ∙ f.starts;
  variables = ap (λ (p : Path). p.variables) path ∙ f.variables ∙ sym text.variables;
  checker = checker ∙ f.checker ∙ sym text.variables;
  room = subst (λ (d : Draft). HasRoom new.propagator.stored.variables (vec_capacity d.lits) (vec_capacity d.hints)) (sym draft)
      (subst (λ (v : ℕ). HasRoom v (vec_capacity old.draft.lits) (vec_capacity old.draft.hints)) (sym text.variables) f.room);
}

pub kept-pushed : (old new : Search) (last : Line) (found : Option Answer) (lits : List ℕ) → IsKept old last found
    → is_none (outcome_in old last found) ≡ true → SameText (with_clause old.propagator.stored lits) new.propagator.stored
    → new.propagator.path ≡ old.propagator.path → new.checker ≡ old.checker → new.draft ≡ old.draft → IsKept new last found
kept-pushed old new last None lits kept none text path checker draft = fresh-pushed old new lits kept text path checker draft
kept-pushed old new last (Some answer) lits kept none text path checker draft = absurd (both_ways false refl none)

-- how many lemmas may be learned is another number
pub kept-set : (old new : Search) (last : Line) (found : Option Answer) → IsKept old last found → outcome_in old last found ≡ None
    → new.propagator ≡ old.propagator → new.checker ≡ old.checker → new.draft ≡ old.draft → IsKept new last found
kept-set old new last None kept none propagator checker draft = record {
  lemmas = ap (λ (x : Propagating). x.stored.lemmas) propagator ∙ kept.lemmas;
  falses = ap (λ (x : Propagating). x.path.falses) propagator ∙ kept.falses;
  starts = ap (λ (x : Propagating). x.path.starts) propagator ∙ kept.starts;
  variables = ap (λ (x : Propagating). x.path.variables) propagator ∙ kept.variables ∙ sym (ap (λ (x : Propagating). x.stored.variables) propagator);
  checker = checker ∙ kept.checker ∙ sym (ap (λ (x : Propagating). x.stored.variables) propagator);
  room = subst (λ (d : Draft). HasRoom new.propagator.stored.variables (vec_capacity d.lits) (vec_capacity d.hints)) (sym draft)
      (subst (λ (x : Propagating). HasRoom x.stored.variables (vec_capacity old.draft.lits) (vec_capacity old.draft.hints)) (sym propagator) kept.room);
}
kept-set old new last (Some answer) kept none propagator checker draft = absurd cc

-- ---- the words with one more clause

words-more : (s : Stored) (lits : List ℕ) → s.lemmas ≡ [] → words_of s.variables (s.clauses ++ lits ∷ []) ≡ used_of s + clause_cost lits
words-more s lits none =
    let sum = sum_by_push clause_cost s.clauses lits in
    let zero_is : sum_by lemma_cost s.lemmas ≡ 0 = ap (λ (ls : List Hinted). sum_by lemma_cost ls) none in
    omega (arith, sum, zero_is)

pub full-past : (s : Stored) (lits : List ℕ) (need : ℕ) → s.lemmas ≡ [] → Passes s (clause_cost lits) need
    → past s.capacity (words_of s.variables (s.clauses ++ lits ∷ [])) ≡ Some need
full-past s lits need none passes =
    let words = words-more s lits none in
    ap (past s.capacity) (words ∙ sym passes.sum)
    ∙ ap (λ (b : Bool). cond b (Some need) None) (lt-ltb s.capacity need passes.past)

sum-more : (s : Stored) (lits : List ℕ) → sum_by clause_cost (s.clauses ++ lits ∷ []) ≡ sum_by clause_cost s.clauses + clause_cost lits
    → 2 * s.variables + sum_by clause_cost (s.clauses ++ lits ∷ []) + sum_by lemma_cost s.lemmas ≡ used_of s + clause_cost lits
sum-more s lits sum = omega (arith, sum)

used-more : (s t : Stored) (lits : List ℕ) → SameText (with_clause s lits) t → used_of t ≡ used_of s + clause_cost lits
used-more s t lits text =
    ap (λ (v : ℕ). 2 * v + sum_by clause_cost t.clauses + sum_by lemma_cost t.lemmas) text.variables
    ∙ ap (λ (cs : List (List ℕ)). 2 * s.variables + sum_by clause_cost cs + sum_by lemma_cost t.lemmas) text.clauses
    ∙ ap (λ (ls : List Hinted). 2 * s.variables + sum_by clause_cost (s.clauses ++ lits ∷ []) + sum_by lemma_cost ls) text.lemmas
    ∙ sum-more s lits (sum_by_push clause_cost s.clauses lits)

pub fits-past : (s t : Stored) (lits : List ℕ) → s.lemmas ≡ [] → SameText (with_clause s lits) t → used_of t ≤ t.capacity
    → past s.capacity (words_of s.variables (s.clauses ++ lits ∷ [])) ≡ None
fits-past s t lits none text fits =
    let words = words-more s lits none in
    let after = used-more s t lits text in
    ap (λ (b : Bool). cond b (Some (words_of s.variables (s.clauses ++ lits ∷ []))) None)
    (le-ltb s.capacity (words_of s.variables (s.clauses ++ lits ∷ [])) (omega (arith, words, after, fits, text.capacity)))
