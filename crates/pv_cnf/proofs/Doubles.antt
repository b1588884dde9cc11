-- Laws of the test whether a variable stands twice.
-- A table of marks: say "each mark is the answer of this test" while marks are set (`MarksAre`), and "where a mark is set the test
-- passes" while they are taken away (`MarksWithin`); the second closes with no file. A `&mut self.marks` that is passed as a slice
-- comes back as `take len (new ++ drop ..)`: `take_at` takes it to `new`.
use Rattle.std.proofs.Common.{◌≡◌, ℕ, ◌+◌, ◌<◌, Bool, true, false, ◌||◌, ◌==◌, List, [], ◌∷◌, length, take, get_or, refl, ap, ◌∙◌, arith, zero, suc, ⊎_elim, slice_set, sym}
use Rattle.std.specs.List.{list_any}
use Rattle.std.proofs.lemmas.List.Folds.{list_any_more}
use Rattle.std.proofs.lemmas.Bool.{cases_eq, eq-eqb, ne_eqb, or_right}
use Rattle.std.proofs.lemmas.List.{get_or-set_same, get_or-set_other, length-set}
use Rattle.std.proofs.lemmas.Grind.{common_steps}
use Rattle.pv_cnf.specs.Literal.{variable_of}
use Rattle.pv_cnf.specs.Clause.{has_variable, has_double}
use Rattle.pv_cnf.specs.Layout.{MarksAre}

swap : (a b : ℕ) → (a == b) ≡ (b == a)
swap a b = grind arith

regroup : (p q r s t : Bool) → q ≡ t → ((p || q) || (r || s)) ≡ ((p || r) || (t || s))
regroup p q r s t e = grind arith

-- one more literal
pub has_double_more : (xs : List ℕ) (i d : ℕ) → i < length xs → has_double (take (i + 1) xs) ≡ (has_double (take i xs) || has_variable (variable_of (get_or xs i d)) (take i xs))
has_double_more [] i d h = absurd (omega (arith, h))
has_double_more (x ∷ xs) zero d h = refl
has_double_more (x ∷ xs) (suc i) d h =
    let more : has_double (take (i + 1) xs) ≡ (has_double (take i xs) || has_variable (variable_of (get_or xs i d)) (take i xs)) = has_double_more xs i d (omega (arith, h)) in
    let any : has_variable (variable_of x) (take (i + 1) xs) ≡ (has_variable (variable_of x) (take i xs) || (variable_of x == variable_of (get_or xs i d))) = list_any_more _ xs i d (omega (arith, h)) in
    let e : suc i + 1 ≡ suc (i + 1) = omega arith in
    rw (e, more, any) (regroup _ _ _ _ _ (swap (variable_of x) (variable_of (get_or xs i d))))

-- a part's literal is the list's
pub list_any_taken : {X : Type 0} (p : X → Bool) (xs : List X) (i : ℕ) → list_any p (take i xs) ≡ true → list_any p xs ≡ true
list_any_taken p [] zero e = e
list_any_taken p [] (suc i) e = e
list_any_taken p (x ∷ xs) zero e = absurd (grind (arith, e))
list_any_taken p (x ∷ xs) (suc i) e = by (p x) (list_any p (take i xs)) e (list_any_taken p xs i)
  where
    by : (b t : Bool) → (b || t) ≡ true → (t ≡ true → list_any p xs ≡ true) → (b || list_any p xs) ≡ true
    by true t e next = refl
    by false t e next = next e

-- a variable that stands twice in a part stands twice in the list
pub has_double_taken : (xs : List ℕ) (i : ℕ) → has_double (take i xs) ≡ true → has_double xs ≡ true
has_double_taken [] zero e = e
has_double_taken [] (suc i) e = e
has_double_taken (x ∷ xs) zero e = absurd (grind (arith, e))
has_double_taken (x ∷ xs) (suc i) e = by (has_variable (variable_of x) (take i xs)) (has_double (take i xs)) e (list_any_taken (λ lit. variable_of x == variable_of lit) xs i) (has_double_taken xs i)
  where
    by : (b t : Bool) → (b || t) ≡ true → (b ≡ true → has_variable (variable_of x) xs ≡ true) → (t ≡ true → has_double xs ≡ true) → (has_variable (variable_of x) xs || has_double xs) ≡ true
    by true t e first next = ap (λ b. b || has_double xs) (first refl)
    by false t e first next = grind (arith, next e)

-- a mark for one more literal
pub marks_more : (marks : List Bool) (lits : List ℕ) (i d : ℕ) → i < length lits → variable_of (get_or lits i d) < length marks
    → MarksAre (λ v. has_variable v (take i lits)) marks
    → MarksAre (λ v. has_variable v (take (i + 1) lits)) (slice_set marks (variable_of (get_or lits i d)) true)
marks_more marks lits i d below fits are v b inside =
    let w : ℕ = variable_of (get_or lits i d) in
    let any : has_variable v (take (i + 1) lits) ≡ (has_variable v (take i lits) || (v == w)) = list_any_more (λ lit. v == variable_of lit) lits i d below in
    ⊎_elim
    (λ (same : v ≡ w). rw (any, same) (get_or-set_same marks w true b fits ∙ sym (or_right (has_variable w (take i lits)) (w == w) (eq-eqb w w refl))))
    (λ other. rw any (get_or-set_other marks w v true b other ∙ grind (arith, common_steps, are v b, length-set marks w true, ne_eqb v w other)))
    (cases_eq v w)
