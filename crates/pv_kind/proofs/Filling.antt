-- Room in a solver: what its store says of pushed clauses is what its words say.
use Rattle.std.proofs.Common.{◌≡◌, ℕ, zero, suc, ◌+◌, ◌-◌, ◌*◌, ◌<◌, ◌≤◌, ◌⊎◌, true, Bool, inl, inr, List, [], ◌∷◌, ◌++◌, length, refl, sym, ap, subst, ◌∙◌, arith, Option, Some, None, append_assoc, append-nil}
use Rattle.std.specs.Prelude.{if◌then◌else◌, is_none}
use Rattle.std.proofs.lemmas.Bool.{cases_lt, lt-ltb, le-ltb}
use Rattle.std.proofs.lemmas.List.Sums.{sum_by-cons}
use Rattle.pv_cnf.specs.declared.clauses.PushFault.TheVariants.{Full}
use Rattle.pv_frames.specs.Pushing.{AllFit, ArePushed, StopsAt}
use Rattle.pv_log.specs.declared.line.Line.{Line}
use Rattle.pv_solver.specs.Answers.{Problem, Outcome, Solving, HasSpentLemmas, HasSpentRegion}
use Rattle.pv_solver.specs.Costs.{words_of, words_with, clause_cost, line_cost, past}
use Rattle.pv_kind.specs.Decisions.{IsFull}
use Rattle.pv_kind.specs.Asking.{IsFilled}

past_is : (words used : ℕ) → words < used → past words used ≡ Some used
past_is words used less = ap (λ (b : Bool). if b then Some used else None) (lt-ltb words used less)

past_not : (words used : ℕ) → used ≤ words → past words used ≡ None
past_not words used most = ap (λ (b : Bool). if b then Some used else None) (le-ltb words used most)

pub past_none : (words used : ℕ) → past words used ≡ None → used ≤ words
past_none words used e = elim (cases_lt words used) [
  | inl less ↦ (let some : past words used ≡ Some used = past_is words used less in absurd cc)
  | inr most ↦ most
]

pub past_some : (words used need : ℕ) → past words used ≡ Some need → (need ≡ used) × (words < need)
past_some words used need e = elim (cases_lt words used) [
  | inl less ↦ (let some : past words used ≡ Some used = past_is words used less in let is : need ≡ used = cc in (is, omega arith))
  | inr most ↦ (let none : past words used ≡ None = past_not words used most in absurd cc)
]

-- clauses that fit one after another take no more words than there are
fit_words : (words v : ℕ) (there clauses : List (List ℕ)) → words_of v there ≤ words → AllFit (λ (all : List (List ℕ)). past words (words_of v all)) there clauses → words_of v (there ++ clauses) ≤ words
fit_words words v there [] fits fit = subst (λ (l : List (List ℕ)). words_of v l ≤ words) (sym (append-nil there)) fits
fit_words words v there (c ∷ clauses) fits fit =
    subst (λ (l : List (List ℕ)). words_of v l ≤ words) (append_assoc there (c ∷ []) clauses)
    (fit_words words v (there ++ c ∷ []) clauses (past_none words (words_of v (there ++ c ∷ [])) fit.0) fit.1)

-- the first clause for which there is no room
full_at : (p : Problem) (new : List (List ℕ)) (need : ℕ) → 2 * p.variables ≤ p.words
    → StopsAt (λ (all : List (List ℕ)). past p.words (words_of p.variables all)) [] p.clauses new (Full need) → IsFull p [] need
full_at p new need fits s =
    let is : past p.words (words_of p.variables (s.before ++ s.refused ∷ [])) ≡ Some need =
    subst (λ (l : List (List ℕ)). past p.words (words_of p.variables (l ++ s.refused ∷ [])) ≡ Some need) s.pushed.stand s.refusal in
    let found = past_some p.words (words_of p.variables (s.before ++ s.refused ∷ [])) need is in
    let none : words_of p.variables [] ≤ p.words = omega arith in
    record {
      no_line = refl;
      past = found.1;
      at = inr (record {
        before = s.before;
        clause = s.refused;
        rest = s.rest;
        split = s.split;
        fit = fit_words p.words p.variables [] s.before none s.pushed.fit;
        sum = found.0;
      });
    }

-- the variables alone
pub full_of_variables : (p : Problem) (need : ℕ) → need ≡ 2 * p.variables → p.words < need → IsFull p [] need
full_of_variables p need is past = record { no_line = refl; past = past; at = inl is }

-- ---- a solver without clauses, into which they are pushed

none_of : (o : Option Outcome) → is_none o ≡ true → o ≡ None
none_of None e = refl
none_of (Some found) e = absurd cc

abbrev pub overflow_of : Solving → List (List ℕ) → Option ℕ
overflow_of s all = past s.problem.words (words_of s.problem.variables all)

pub filled : (p : Problem) (old new : Solving) → old ≡ record { problem = record p { clauses = [] }; outcome = None } → 2 * p.variables ≤ p.words
    → new.problem.variables ≡ old.problem.variables → is_none new.outcome ≡ is_none old.outcome
    → ((all : List (List ℕ)) → overflow_of new all ≡ overflow_of old all)
    → ArePushed (overflow_of old) old.problem.clauses p.clauses new.problem.clauses → IsFilled p new
filled p old new made fits variables takes overflow pushed = record {
  variables = variables ∙ ap (λ (s : Solving). s.problem.variables) made;
  clauses = pushed.stand ∙ ap (λ (s : Solving). s.problem.clauses ++ p.clauses) made;
  outcome = none_of new.outcome (takes ∙ ap (λ (s : Solving). is_none s.outcome) made);
  fits = fits;
  room = λ all. overflow all ∙ ap (λ (s : Solving). overflow_of s all) made;
}

pub stopped : (p : Problem) (old : Solving) (new : List (List ℕ)) (need : ℕ) → old ≡ record { problem = record p { clauses = [] }; outcome = None }
    → 2 * p.variables ≤ p.words → StopsAt (overflow_of old) old.problem.clauses p.clauses new (Full need) → IsFull p [] need
stopped p old new need made fits s =
    full_at p new need fits (subst (λ (x : Solving). StopsAt (overflow_of x) x.problem.clauses p.clauses new (Full need)) made s)

-- ---- stores that refuse alike have room alike

zeros : ℕ → List ℕ
zeros zero = []
zeros (suc n) = 0 ∷ zeros n

length-zeros : (n : ℕ) → length (zeros n) ≡ n
unfolding zeros
length-zeros zero = refl
length-zeros (suc n) = ap suc (length-zeros n)

-- one clause of the right length takes any number of words from some on
words_at : (v need : ℕ) → 2 * v + 3 ≤ need → words_of v (zeros (need - (2 * v + 3)) ∷ []) ≡ need
words_at v need enough = omega (arith, length-zeros (need - (2 * v + 3)))

-- two stores that refuse alike have room alike for so many words
same_past : (w u v need : ℕ) → ((all : List (List ℕ)) → past u (words_of v all) ≡ past w (words_of v all)) → 2 * v + 3 ≤ need → past u need ≡ past w need
same_past w u v need room enough =
    let all : List (List ℕ) = zeros (need - (2 * v + 3)) ∷ [] in
    subst (λ (n : ℕ). past u n ≡ past w n) (words_at v need enough) (room all)

same_over : (w u v need : ℕ) → ((all : List (List ℕ)) → past u (words_of v all) ≡ past w (words_of v all)) → 2 * v + 3 ≤ need → u < need → w < need
same_over w u v need room enough over =
    (past_some w need need (sym (same_past w u v need room enough) ∙ past_is u need over)).1

same_fits : (w u v need : ℕ) → ((all : List (List ℕ)) → past u (words_of v all) ≡ past w (words_of v all)) → 2 * v + 3 ≤ need → need ≤ u → need ≤ w
same_fits w u v need room enough fits =
    past_none w need (sym (same_past w u v need room enough) ∙ past_not u need fits)

words_more : (v : ℕ) (clauses : List (List ℕ)) (lines : List Line) → (words_with v clauses lines ≡ 2 * v) ⊎ (2 * v + 3 ≤ words_with v clauses lines)
words_more v [] [] = inl (omega arith)
words_more v [] (line ∷ lines) = inr (omega (arith, sum_by-cons line_cost line lines))
words_more v (clause ∷ clauses) lines = inr (omega (arith, sum_by-cons clause_cost clause clauses))

with_fits : (w u v : ℕ) (clauses : List (List ℕ)) (lines : List Line) → ((all : List (List ℕ)) → past u (words_of v all) ≡ past w (words_of v all)) → 2 * v ≤ w
    → words_with v clauses lines ≤ u → words_with v clauses lines ≤ w
with_fits w u v clauses lines room least fits = elim (words_more v clauses lines) [
  | inl none ↦ omega (arith, none)
  | inr some ↦ same_fits w u v (words_with v clauses lines) room some fits
]

-- ---- problems that differ in their words alone

pub same_lemmas : (p q : Problem) (lines : List Line) → q.variables ≡ p.variables → q.clauses ≡ p.clauses → q.lemmas ≡ p.lemmas → HasSpentLemmas q lines → HasSpentLemmas p lines
same_lemmas p q lines variables clauses lemmas h =
    let a = subst (λ (v : ℕ). HasSpentLemmas (record { variables = v; clauses = q.clauses; words = q.words; lemmas = q.lemmas }) lines) variables h in
    let b = subst (λ (c : List (List ℕ)). HasSpentLemmas (record { variables = p.variables; clauses = c; words = q.words; lemmas = q.lemmas }) lines) clauses a in
    let c = subst (λ (l : ℕ). HasSpentLemmas (record { variables = p.variables; clauses = p.clauses; words = q.words; lemmas = l }) lines) lemmas b in
    record { spent = record { lemmas = c.spent.lemmas; none_false = c.spent.none_false }; all = c.all }

pub same_region : (p q : Problem) (lines : List Line) (next : Line) (need : ℕ) → q.variables ≡ p.variables → q.clauses ≡ p.clauses → q.lemmas ≡ p.lemmas
    → 2 * p.variables ≤ p.words → ((all : List (List ℕ)) → past q.words (words_of q.variables all) ≡ past p.words (words_of p.variables all))
    → HasSpentRegion q lines next need → HasSpentRegion p lines next need
same_region p q lines next need variables clauses lemmas least room h =
    let a = subst (λ (v : ℕ). HasSpentRegion (record { variables = v; clauses = q.clauses; words = q.words; lemmas = q.lemmas }) lines next need) variables h in
    let b = subst (λ (c : List (List ℕ)). HasSpentRegion (record { variables = p.variables; clauses = c; words = q.words; lemmas = q.lemmas }) lines next need) clauses a in
    let c = subst (λ (l : ℕ). HasSpentRegion (record { variables = p.variables; clauses = p.clauses; words = q.words; lemmas = l }) lines next need) lemmas b in
    let same : (all : List (List ℕ)) → past q.words (words_of p.variables all) ≡ past p.words (words_of p.variables all) =
    subst (λ (v : ℕ). (all : List (List ℕ)) → past q.words (words_of v all) ≡ past p.words (words_of p.variables all)) variables room in
    let enough : 2 * p.variables + 3 ≤ need = omega (arith, c.sum) in
    record {
      spent = record { lemmas = c.spent.lemmas; none_false = c.spent.none_false };
      left = c.left;
      fits = with_fits p.words q.words p.variables p.clauses lines same least c.fits;
      next_is = c.next_is;
      sum = c.sum;
      past = same_over p.words q.words p.variables need same enough c.past;
    }
