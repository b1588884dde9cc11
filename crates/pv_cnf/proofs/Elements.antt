-- The literals of a clause, and the clauses of a list, by their places.
-- A view's clause at `n + 1` reads the list at `n + 1 - 1`: one `let back : n + 1 - 1 ≡ n = omega arith` and `ap` of the list's
-- `slice_get`.
use Rattle.std.proofs.Common.{◌≡◌, ℕ, ◌+◌, ◌<◌, ◌≤◌, Bool, true, false, ◌||◌, ◌==◌, nat_lt, List, [], ◌∷◌, ◌++◌, slice_index_or, slice_get, Some, refl, ap, ◌∙◌, arith, zero, suc, All, subst, unwrap_or, take}
use Rattle.std.specs.List.{list_all}
use Rattle.std.proofs.lemmas.List.Folds.{list_any_at, list_all-append}
use Rattle.std.proofs.lemmas.Bool.{and_left, and_right}
use Rattle.pv_cnf.specs.Literal.{variable_of, is_outside}
use Rattle.pv_cnf.specs.Clause.{has_outside, IsClause, AreClauses}

-- one more element
pub take_get : {X : Type 0} (xs : List X) (k : ℕ) (x : X) → slice_get xs k ≡ Some x → take (k + 1) xs ≡ take k xs ++ x ∷ []
take_get [] k x e = absurd (cc)
take_get (y ∷ ys) zero x e = let same : y ≡ x = ap (λ o. unwrap_or o y) e in ap (λ z. z ∷ []) same
take_get (y ∷ ys) (suc k) x e = let next : suc k + 1 ≡ suc (k + 1) = omega arith in rw next (ap (λ t. y ∷ t) (take_get ys k x e))

inside : (n v : ℕ) → ((v == 0) || nat_lt n v) ≡ false → (0 < v) × (v ≤ n)
inside n v e = (grind (arith, e), grind (arith, e))

-- each literal of a clause is of one of its variables
pub All-inside : (n : ℕ) (lits : List ℕ) → has_outside n lits ≡ false → All (λ lit. (0 < variable_of lit) × (variable_of lit ≤ n)) lits
All-inside n lits e k d h = by (is_outside n (slice_index_or lits k d)) refl
  where
    by : (b : Bool) → is_outside n (slice_index_or lits k d) ≡ b → (0 < variable_of (slice_index_or lits k d)) × (variable_of (slice_index_or lits k d) ≤ n)
    by true out = let found : has_outside n lits ≡ true = list_any_at (is_outside n) lits k d h out in absurd (cc)
    by false out = inside n (variable_of (slice_index_or lits k d)) out

pub IsClause-at : (n : ℕ) (clauses : List (List ℕ)) (k : ℕ) (lits : List ℕ) → AreClauses n clauses → slice_get clauses k ≡ Some lits → IsClause n lits
IsClause-at n [] k lits all e = absurd (cc)
IsClause-at n (c ∷ cs) zero lits all e = subst (IsClause n) (ap (λ o. unwrap_or o c) e) all.0
IsClause-at n (c ∷ cs) (suc k) lits all e = IsClause-at n cs k lits all.1 e

pub AreClauses-push : (n : ℕ) (clauses : List (List ℕ)) (lits : List ℕ) → AreClauses n clauses → IsClause n lits → AreClauses n (clauses ++ lits ∷ [])
AreClauses-push n [] lits all one = (one, tt)
AreClauses-push n (c ∷ cs) lits all one = (all.0, AreClauses-push n cs lits all.1 one)

-- the test of each element, with one more or at one that fails
pub list_all_get : {X : Type 0} (p : X → Bool) (xs : List X) (k : ℕ) (x : X) → list_all p (take k xs) ≡ true → slice_get xs k ≡ Some x → p x ≡ true → list_all p (take (k + 1) xs) ≡ true
list_all_get p xs k x before e one = rw (take_get xs k x e) (list_all-append p (take k xs) (x ∷ []) ∙ grind (arith, before, one))

pub list_all_fails : {X : Type 0} (p : X → Bool) (xs : List X) (k : ℕ) (x : X) → slice_get xs k ≡ Some x → p x ≡ false → list_all p xs ≡ false
list_all_fails p [] k x e one = absurd (cc)
list_all_fails p (y ∷ ys) zero x e one = let same : y ≡ x = ap (λ o. unwrap_or o y) e in and_left (p y) (list_all p ys) (ap p same ∙ one)
list_all_fails p (y ∷ ys) (suc k) x e one = and_right (p y) (list_all p ys) (list_all_fails p ys k x e one)
