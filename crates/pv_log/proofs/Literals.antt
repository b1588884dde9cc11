-- Lists of literals of different variables.
-- Room in a vector that is never grown: `length-le_from_distinct_below` (numbers below n with no two equal are at most n), with 0
-- put in front where the numbers begin at 1; then `push` answers by its clause `succeeds`. `yes` and `no` are constructors in
-- proof files: no names of variables. `cc` doesn't take pairs apart: `ap (λ x. x.0)`.
use Rattle.std.proofs.Common.{◌≡◌, ℕ, suc, ◌+◌, ◌/◌, ◌<◌, ◌≤◌, ◌⊎◌, Bool, true, false, ◌||◌, eqb, List, [], ◌∷◌, ◌++◌, length, map, refl, sym, ◌∙◌, arith, inl, inr}
use Rattle.std.specs.List.{list_any, AllByRecursion, IsDistinct}
use Rattle.std.proofs.lemmas.Bool.{eqb-true, eqb-false, eq-eqb, ne_eqb, cases_eq, cases_Bool, both_ways, or_parts, or_from, or_left, or_right, or_cases, ltb-false}
use Rattle.std.proofs.lemmas.List.{length-map}
use Rattle.std.proofs.lemmas.List.Folds.{list_any-append}
use Rattle.std.proofs.lemmas.Map.Steps.{length-le_from_distinct_below}
use Rattle.pv_cnf.specs.Literal.{variable_of, complement, is_outside}
use Rattle.pv_cnf.specs.Clause.{has_outside, has_double}
use Rattle.pv_log.specs.Propagation.{is_false}

-- whether two literals are of one variable
abbrev same_variable : ℕ → ℕ → Bool
same_variable a b = eqb (variable_of a) (variable_of b)

-- a literal of the same variable is the literal or its complement
same_cases : (x y : ℕ) → same_variable x y ≡ true → (y ≡ x) ⊎ (complement y ≡ x)
same_cases x y h =
    let e : x / 2 ≡ y / 2 = eqb-true (x / 2) (y / 2) h in
    elim (cases_eq y x) [ inl same ↦ inl same | inr other ↦ inr (omega arith) ]

apart : (x y : ℕ) → eqb y x ≡ false → eqb (complement y) x ≡ false → same_variable x y ≡ false
apart x y other opposite =
    elim (cases_Bool (same_variable x y)) [
      | inl same ↦ elim (same_cases x y same) [
        | inl e ↦ absurd (eqb-false y x other e)
        | inr e ↦ absurd (eqb-false (complement y) x opposite e)
      ]
      | inr differs ↦ differs
    ]

same_self : (x : ℕ) → same_variable x x ≡ true
same_self x = eq-eqb (x / 2) (x / 2) refl

same_complement : (x y : ℕ) → complement y ≡ x → same_variable x y ≡ true
same_complement x y e = eq-eqb (x / 2) (y / 2) (omega arith)

-- ---- one more literal

pub double-push : (xs : List ℕ) (y : ℕ) → has_double xs ≡ false → is_false xs y ≡ false → is_false xs (complement y) ≡ false → has_double (xs ++ y ∷ []) ≡ false
double-push [] y d other opposite = refl
double-push (x ∷ xs) y d other opposite =
    let parts = or_parts (list_any (same_variable x) xs) (has_double xs) d in
    let o = or_parts (eqb y x) (is_false xs y) other in
    let p = or_parts (eqb (complement y) x) (is_false xs (complement y)) opposite in
    let here : list_any (same_variable x) (xs ++ y ∷ []) ≡ false = list_any-append (same_variable x) xs (y ∷ []) ∙ or_from _ _ parts.0 (or_from _ _ (apart x y o.0 p.0) refl) in
    or_from _ _ here (double-push xs y parts.1 o.1 p.1)

pub double-front : (xs ys : List ℕ) → has_double (xs ++ ys) ≡ false → has_double xs ≡ false
double-front [] ys d = refl
double-front (x ∷ xs) ys d =
    let parts = or_parts (list_any (same_variable x) (xs ++ ys)) (has_double (xs ++ ys)) d in
    let here = or_parts (list_any (same_variable x) xs) (list_any (same_variable x) ys) (sym (list_any-append (same_variable x) xs ys) ∙ parts.0) in
    or_from _ _ here.0 (double-front xs ys parts.1)

-- a literal whose variable stands before it
same_among : (xs : List ℕ) (y : ℕ) (ys : List ℕ) (x : ℕ) → same_variable x y ≡ true → list_any (same_variable x) (xs ++ y ∷ ys) ≡ true
same_among xs y ys x same = list_any-append (same_variable x) xs (y ∷ ys) ∙ or_right _ _ (or_left _ _ same)

pub double-there : (xs : List ℕ) (y z : ℕ) (ys : List ℕ) → ((x : ℕ) → z ≡ x → same_variable x y ≡ true) → is_false xs z ≡ true → has_double (xs ++ y ∷ ys) ≡ true
double-there [] y z ys same there = absurd (both_ways false refl there)
double-there (x ∷ xs) y z ys same there =
    elim (or_cases (eqb z x) (is_false xs z) there) [
      | inl e ↦ or_left _ _ (same_among xs y ys x (same x (eqb-true z x e)))
      | inr more ↦ or_right _ _ (double-there xs y z ys same more)
    ]

pub double-again : (xs : List ℕ) (y : ℕ) (ys : List ℕ) → is_false xs y ≡ true → has_double (xs ++ y ∷ ys) ≡ true
double-again xs y ys there = double-there xs y y ys (λ (x : ℕ) (e : y ≡ x). eq-eqb (x / 2) (y / 2) (omega arith)) there

pub double-complement : (xs : List ℕ) (y : ℕ) (ys : List ℕ) → is_false xs (complement y) ≡ true → has_double (xs ++ y ∷ ys) ≡ true
double-complement xs y ys there = double-there xs y (complement y) ys (λ (x : ℕ) (e : complement y ≡ x). same_complement x y e) there

-- the last literal of a list without a double isn't among those before it
pub alone-last : (xs : List ℕ) (y : ℕ) → has_double (xs ++ y ∷ []) ≡ false → is_false xs y ≡ false
alone-last xs y d =
    elim (cases_Bool (is_false xs y)) [
      | inl there ↦ absurd (both_ways (has_double (xs ++ y ∷ [])) d (double-again xs y [] there))
      | inr not_there ↦ not_there
    ]

pub false-push : (xs : List ℕ) (y lit : ℕ) → is_false (xs ++ y ∷ []) lit ≡ (is_false xs lit || (eqb lit y || false))
false-push xs y lit = list_any-append (eqb lit) xs (y ∷ [])

pub outside-push : (v : ℕ) (xs : List ℕ) (y : ℕ) → has_outside v xs ≡ false → is_outside v y ≡ false → has_outside v (xs ++ y ∷ []) ≡ false
outside-push v xs y h k = list_any-append (is_outside v) xs (y ∷ []) ∙ or_from _ _ h (or_from _ _ k refl)

pub outside-front : (v : ℕ) (xs ys : List ℕ) → has_outside v (xs ++ ys) ≡ false → has_outside v xs ≡ false
outside-front v xs ys h = (or_parts (has_outside v xs) (has_outside v ys) (sym (list_any-append (is_outside v) xs ys) ∙ h)).0

pub outside-last : (v : ℕ) (xs : List ℕ) (y : ℕ) → has_outside v (xs ++ y ∷ []) ≡ false → is_outside v y ≡ false
outside-last v xs y h =
    let parts = or_parts (has_outside v xs) (is_outside v y || false) (sym (list_any-append (is_outside v) xs (y ∷ [])) ∙ h) in
    (or_parts (is_outside v y) false parts.1).0

pub inside-bounds : (v lit : ℕ) → is_outside v lit ≡ false → (1 ≤ lit / 2) × (lit / 2 ≤ v)
inside-bounds v lit h =
    let parts = or_parts (eqb (lit / 2) 0) _ h in
    let ne = eqb-false (lit / 2) 0 parts.0 in
    (omega arith, ltb-false v (lit / 2) parts.1)

-- ---- different variables from 1 to v are at most v

not-same : (x : ℕ) (ys : List ℕ) → list_any (same_variable x) ys ≡ false → AllByRecursion (λ (q : ℕ). eqb (x / 2) q ≡ false) (map variable_of ys)
not-same x [] h = tt
not-same x (y ∷ ys) h =
    let parts = or_parts (same_variable x y) (list_any (same_variable x) ys) h in
    (parts.0, not-same x ys parts.1)

distinct-variables : (xs : List ℕ) → has_double xs ≡ false → IsDistinct eqb (map variable_of xs)
unfolding IsDistinct
distinct-variables [] d = tt
distinct-variables (x ∷ xs) d =
    let parts = or_parts (list_any (same_variable x) xs) (has_double xs) d in
    (not-same x xs parts.0, distinct-variables xs parts.1)

not-zero : (v : ℕ) (xs : List ℕ) → has_outside v xs ≡ false → AllByRecursion (λ (q : ℕ). eqb 0 q ≡ false) (map variable_of xs)
not-zero v [] h = tt
not-zero v (x ∷ xs) h =
    let parts = or_parts (is_outside v x) (has_outside v xs) h in
    let b = inside-bounds v x parts.0 in
    (ne_eqb 0 (x / 2) (λ e. omega arith), not-zero v xs parts.1)

variables-below : (v : ℕ) (xs : List ℕ) → has_outside v xs ≡ false → (q : ℕ) → list_any (eqb q) (map variable_of xs) ≡ true → q < v + 1
variables-below v [] h q there = absurd (both_ways false refl there)
variables-below v (x ∷ xs) h q there =
    let parts = or_parts (is_outside v x) (has_outside v xs) h in
    let b = inside-bounds v x parts.0 in
    elim (or_cases (eqb q (x / 2)) (list_any (eqb q) (map variable_of xs)) there) [
      | inl e ↦ (let same : q ≡ x / 2 = eqb-true q (x / 2) e in omega arith)
      | inr more ↦ variables-below v xs parts.1 q more
    ]

zero-first : (v : ℕ) (xs : List ℕ) → has_outside v xs ≡ false → has_double xs ≡ false → IsDistinct eqb (0 ∷ map variable_of xs)
unfolding IsDistinct
zero-first v xs h d = (not-zero v xs h, distinct-variables xs d)

pub length-le-variables : (v : ℕ) (xs : List ℕ) → has_outside v xs ≡ false → has_double xs ≡ false → length xs ≤ v
length-le-variables v xs h d =
    let below : (q : ℕ) → list_any (eqb q) (0 ∷ map variable_of xs) ≡ true → q < v + 1 = λ q there.
    elim (or_cases (eqb q 0) (list_any (eqb q) (map variable_of xs)) there) [
      | inl e ↦ (let same : q ≡ 0 = eqb-true q 0 e in omega arith)
      | inr more ↦ variables-below v xs h q more
    ] in
    let bound : suc (length (map variable_of xs)) ≤ v + 1 = length-le_from_distinct_below (0 ∷ map variable_of xs) (v + 1) (zero-first v xs h d) below in
    omega (arith, length-map xs variable_of)
