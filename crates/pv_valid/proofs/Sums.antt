-- The first of running sums past so many words: at the lemma for which there was no room, or at the first clause for which there is none.
use Rattle.std.proofs.Common.{◌≡◌, ℕ, ◌+◌, ◌*◌, ◌<◌, ◌≤◌, Bool, cond, List, [], ◌∷◌, ◌++◌, map, refl, ap, sym, subst, ◌∙◌, inl, inr, Some, None, arith}
use Rattle.std.specs.Prelude.{sum_by}
use Rattle.std.proofs.lemmas.Bool.{lt-ltb, le-ltb}
use Rattle.std.proofs.lemmas.List.{map-append, append-nil}
use Rattle.std.proofs.lemmas.List.Sums.{sum_by-cons, sum_by-append}
use Rattle.pv_cnf.specs.Clause.{Cnf}
use Rattle.pv_log.specs.declared.line.Line.{Line}
use Rattle.pv_solver.specs.Costs.{clause_cost, line_cost}
use Rattle.pv_solver.specs.Answers.{Problem, HasSpentRegion}
use Rattle.pv_kind.specs.Decisions.{IsFull, IsFullAt}
use Rattle.pv_valid.specs.Validity.{first_past, first_sum_past, with_next}

pub past-sum : (words sum : ℕ) (costs : List ℕ) → words < sum → first_past words sum costs ≡ Some sum
past-sum words sum [] lt = ap (λ (b : Bool). cond b (Some sum) None) (lt-ltb words sum lt)
past-sum words sum (cost ∷ costs) lt = ap (λ (b : Bool). cond b (Some sum) (first_past words (sum + cost) costs)) (lt-ltb words sum lt)

pub within-sum : (words sum cost : ℕ) (costs : List ℕ) → sum ≤ words → first_past words sum (cost ∷ costs) ≡ first_past words (sum + cost) costs
within-sum words sum cost costs le = ap (λ (b : Bool). cond b (Some sum) (first_past words (sum + cost) costs)) (le-ltb words sum le)

-- past costs whose sum is within the words
over : {X : Type 0} (f : X → ℕ) (xs : List X) (rest : List ℕ) (words sum : ℕ) → sum + sum_by f xs ≤ words
    → first_past words sum (map f xs ++ rest) ≡ first_past words (sum + sum_by f xs) rest
over f [] rest words sum le =
    let none : sum_by f [] ≡ 0 = refl in
    let same : sum ≡ sum + sum_by f [] = omega (arith, none) in
    ap (λ (n : ℕ). first_past words n rest) same
over f (x ∷ xs) rest words sum le =
    let all = sum_by-cons f x xs in
    let same : sum + f x + sum_by f xs ≡ sum + sum_by f (x ∷ xs) = omega (arith, all) in
    within-sum words sum (f x) (map f xs ++ rest) (omega (arith, le, all))
    ∙ (over f xs rest words (sum + f x) (omega (arith, le, same)) ∙ ap (λ (n : ℕ). first_past words n rest) same)

-- the sum with one cost more is the first past
at-cost : {X : Type 0} (f : X → ℕ) (xs : List X) (cost : ℕ) (rest : List ℕ) (words sum : ℕ) → sum + sum_by f xs ≤ words
    → words < sum + sum_by f xs + cost → first_past words sum (map f xs ++ cost ∷ rest) ≡ Some (sum + sum_by f xs + cost)
at-cost f xs cost rest words sum le lt =
    over f xs (cost ∷ rest) words sum le
    ∙ (within-sum words (sum + sum_by f xs) cost rest le ∙ past-sum words (sum + sum_by f xs + cost) rest lt)

module _ (p : Problem) where
  abbrev formula : Cnf
  formula = record { variables = p.variables; clauses = p.clauses }

  -- the lemma that comes next
  pub next-sum : (log : List Line) (next : Line) (need : ℕ) → HasSpentRegion p log next need
      → first_sum_past p.words formula (with_next log (Some next)) (2 * p.variables) ≡ Some need
  next-sum log next need h =
      let fits = h.fits in
      let sum = h.sum in
      let past = h.past in
      let clauses = sum_by clause_cost p.clauses in
      let begun : 2 * p.variables + clauses ≤ p.words = omega (arith, fits) in
      ap (λ (l : List ℕ). first_past p.words (2 * p.variables) (map clause_cost p.clauses ++ l)) (map-append line_cost log (next ∷ []))
      ∙ (over clause_cost p.clauses (map line_cost log ++ line_cost next ∷ []) p.words (2 * p.variables) begun
      ∙ (at-cost line_cost log (line_cost next) [] p.words (2 * p.variables + clauses) fits (omega (arith, sum, past))
      ∙ ap (λ (n : ℕ). Some n) (sym sum)))

  -- a clause, or the variables alone
  pub full-sum : (log : List Line) (need : ℕ) → IsFull p log need
      → first_sum_past p.words formula (with_next log None) (2 * p.variables) ≡ Some need
  full-sum log need h =
      subst (λ (l : List Line). first_past p.words (2 * p.variables) (map clause_cost p.clauses ++ map line_cost l) ≡ Some need) (sym h.no_line)
      (elim h.at [
        | inl alone ↦ (let past = h.past in
            past-sum p.words (2 * p.variables) (map clause_cost p.clauses ++ []) (omega (arith, alone, past))
            ∙ ap (λ (n : ℕ). Some n) (sym alone))
        | inr at ↦ at-clause need at h.past
      ])
    where
      at-clause : (need : ℕ) (at : IsFullAt p need) → p.words < need
          → first_past p.words (2 * p.variables) (map clause_cost p.clauses ++ []) ≡ Some need
      at-clause need at past =
          let fit = at.fit in
          let all = sum_by-append clause_cost at.before (at.clause ∷ []) in
          let last = sum_by-cons clause_cost at.clause [] in
          let none : sum_by clause_cost [] ≡ 0 = refl in
          let sum : need ≡ 2 * p.variables + sum_by clause_cost at.before + clause_cost at.clause = (let is = at.sum in omega (arith, is, all, last, none)) in
          let costs : map clause_cost p.clauses ≡ map clause_cost at.before ++ clause_cost at.clause ∷ map clause_cost at.rest =
          ap (map clause_cost) at.split ∙ map-append clause_cost at.before (at.clause ∷ at.rest) in
          ap (first_past p.words (2 * p.variables)) (append-nil (map clause_cost p.clauses) ∙ costs)
          ∙ (at-cost clause_cost at.before (clause_cost at.clause) (map clause_cost at.rest) p.words (2 * p.variables) fit (omega (arith, sum, past))
          ∙ ap (λ (n : ℕ). Some n) (sym sum))
