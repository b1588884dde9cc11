-- The literals of a clause: two that aren't false, one that is true, and one beside which all are false.
use Rattle.std.proofs.Common.{◌≡◌, ◌≢◌, ℕ, zero, suc, true, false, eqb, List, [], ◌∷◌, refl, sym, ap, ◌∙◌, arith, inl, inr, Some, slice_get}
use Rattle.std.proofs.lemmas.Bool.{eqb-true, eq-eqb, cases_eq, cases_Bool, both_ways, or_cases, or_left, or_right, or_parts}
use Rattle.pv_cnf.specs.Literal.{complement, variable_of, is_outside}
use Rattle.pv_cnf.specs.Clause.{has_outside, has_double, has_variable}
use Rattle.pv_log.specs.Propagation.{is_false, left_of, is_falsified}
use Rattle.pv_watch.specs.Quiet.{IsQuiet}
use Rattle.pv_watch.proofs.Lefts.{left-in, left-out, true-quiet, two-quiet, nil-falsified}
use Rattle.pv_watch.proofs.Alone.{itself-left}

-- ---- places

pub get-false : (F : List ℕ) (q x : ℕ) → slice_get F q ≡ Some x → is_false F x ≡ true
get-false [] q x e = absurd cc
get-false (y ∷ F) zero x e = (let same : y ≡ x = cc in or_left (eqb x y) (is_false F x) (eq-eqb x y (sym same)))
get-false (y ∷ F) (suc q) x e = or_right (eqb x y) (is_false F x) (get-false F q x e)

pub false-get : (F : List ℕ) (x : ℕ) → is_false F x ≡ true → (q : ℕ) × (slice_get F q ≡ Some x)
false-get [] x e = absurd (both_ways false refl e)
false-get (y ∷ F) x e =
    elim (or_cases (eqb x y) (is_false F x) e) [
      | inl here ↦ (0, ap (λ (z : ℕ). Some z) (sym (eqb-true x y here)))
      | inr more ↦ (let (q, there) = false-get F x more in (suc q, there))
    ]

-- ---- no variable stands twice

pub variable-there : (xs : List ℕ) (x : ℕ) → is_false xs x ≡ true → has_variable (variable_of x) xs ≡ true
variable-there [] x e = absurd (both_ways false refl e)
variable-there (y ∷ xs) x e =
    elim (or_cases (eqb x y) (is_false xs x) e) [
      | inl here ↦ or_left (eqb (variable_of x) (variable_of y)) (has_variable (variable_of x) xs)
          (eq-eqb (variable_of x) (variable_of y) (ap variable_of (eqb-true x y here)))
      | inr more ↦ or_right (eqb (variable_of x) (variable_of y)) (has_variable (variable_of x) xs) (variable-there xs x more)
    ]

-- not both a literal and its complement
pub not-both : (F : List ℕ) (x : ℕ) → has_double F ≡ false → is_false F x ≡ true → is_false F (complement x) ≡ true → ⊥
not-both [] x d e f = both_ways false refl e
not-both (y ∷ F) x d e f =
    let parts = or_parts (has_variable (variable_of y) F) (has_double F) d in
    let same : variable_of (complement x) ≡ variable_of x = omega arith in
    elim (or_cases (eqb x y) (is_false F x) e) [
      | inl here ↦ elim (or_cases (eqb (complement x) y) (is_false F (complement x)) f) [
        | inl there ↦ (let a = eqb-true x y here in let b = eqb-true (complement x) y there in let c : complement x ≡ x = b ∙ sym a in omega (arith, c))
        | inr more ↦ both_ways (has_variable (variable_of y) F) parts.0
            (ap (λ (v : ℕ). has_variable v F) (ap variable_of (sym (eqb-true x y here)) ∙ sym same) ∙ variable-there F (complement x) more)
      ]
      | inr more ↦ elim (or_cases (eqb (complement x) y) (is_false F (complement x)) f) [
        | inl there ↦ both_ways (has_variable (variable_of y) F) parts.0
            (ap (λ (v : ℕ). has_variable v F) (ap variable_of (sym (eqb-true (complement x) y there)) ∙ same) ∙ variable-there F x more)
        | inr too ↦ not-both F x parts.1 more too
      ]
    ]

-- ---- what isn't false is left

pub stays-left : (F clause : List ℕ) (x : ℕ) → is_false clause x ≡ true → is_false F x ≡ false → is_false (left_of F clause) x ≡ true
stays-left F [] x own free = absurd (both_ways false refl own)
stays-left F (y ∷ ys) x own free =
    elim (cases_Bool (is_false F y)) [
      | inl gone ↦ elim (or_cases (eqb x y) (is_false ys x) own) [
        | inl here ↦ absurd (both_ways (is_false F x) free (ap (is_false F) (eqb-true x y here) ∙ gone))
        | inr more ↦ ap (λ (xs : List ℕ). is_false xs x) (left-in F y ys gone) ∙ stays-left F ys x more free
      ]
      | inr kept ↦ ap (λ (xs : List ℕ). is_false xs x) (left-out F y ys kept)
          ∙ elim (or_cases (eqb x y) (is_false ys x) own) [
            | inl here ↦ or_left (eqb x y) (is_false (left_of F ys) x) here
            | inr more ↦ or_right (eqb x y) (is_false (left_of F ys) x) (stays-left F ys x more free)
          ]
    ]

only-one : (x y : ℕ) → is_false (x ∷ []) y ≡ true → y ≡ x
only-one x y e = elim (or_cases (eqb y x) false e) [ inl here ↦ eqb-true y x here | inr none ↦ absurd (both_ways false refl none) ]

two-in : (F clause left : List ℕ) (a b : ℕ) → left_of F clause ≡ left → is_false left a ≡ true → is_false left b ≡ true → a ≢ b → IsQuiet F clause
two-in F clause [] a b e ia ib ne = absurd (both_ways false refl ia)
two-in F clause (x ∷ []) a b e ia ib ne = absurd (ne (only-one x a ia ∙ sym (only-one x b ib)))
two-in F clause (x ∷ y ∷ xs) a b e ia ib ne = two-quiet F clause x y xs e

-- two literals that aren't false
pub quiet-two : (F clause : List ℕ) (a b : ℕ) → is_false clause a ≡ true → is_false clause b ≡ true → a ≢ b → is_false F a ≡ false → is_false F b ≡ false → IsQuiet F clause
quiet-two F clause a b own_a own_b ne free_a free_b =
    two-in F clause (left_of F clause) a b refl (stays-left F clause a own_a free_a) (stays-left F clause b own_b free_b) ne

true-in : (F clause left : List ℕ) (a : ℕ) → left_of F clause ≡ left → is_false left a ≡ true → is_false F (complement a) ≡ true → IsQuiet F clause
true-in F clause [] a e ia true_is = absurd (both_ways false refl ia)
true-in F clause (x ∷ []) a e ia true_is = true-quiet F clause x e (ap (λ (y : ℕ). is_false F (complement y)) (sym (only-one x a ia)) ∙ true_is)
true-in F clause (x ∷ y ∷ xs) a e ia true_is = two-quiet F clause x y xs e

-- a literal that is true
pub quiet-true : (F clause : List ℕ) (a : ℕ) → has_double F ≡ false → is_false clause a ≡ true → is_false F (complement a) ≡ true → IsQuiet F clause
quiet-true F clause a d own true_is =
    let free : is_false F a ≡ false = elim (cases_Bool (is_false F a)) [
      | inl there ↦ absurd (not-both F a d there true_is)
      | inr isnt ↦ isnt
    ] in
    true-in F clause (left_of F clause) a refl (stays-left F clause a own free) true_is

-- ---- all but one are false

pub sole-left : (F clause : List ℕ) (other : ℕ) → has_double clause ≡ false → is_false clause other ≡ true → is_false F other ≡ false
    → ((x : ℕ) → is_false clause x ≡ true → x ≢ other → is_false F x ≡ true) → left_of F clause ≡ other ∷ []
sole-left F [] other d own free rest = absurd (both_ways false refl own)
sole-left F (y ∷ ys) other d own free rest =
    let parts = or_parts (has_variable (variable_of y) ys) (has_double ys) d in
    elim (cases_eq y other) [
      | inl e ↦ left-out F y ys (ap (is_false F) e ∙ free)
          ∙ ap (λ (xs : List ℕ). y ∷ xs) (itself-left F ys (λ x there. rest x (or_right (eqb x y) (is_false ys x) there)
          (λ same. both_ways (has_variable (variable_of y) ys) parts.0 (ap (λ (v : ℕ). has_variable v ys) (ap variable_of (e ∙ sym same)) ∙ variable-there ys x there))))
          ∙ ap (λ (x : ℕ). x ∷ []) e
      | inr ne ↦ elim (or_cases (eqb other y) (is_false ys other) own) [
        | inl here ↦ absurd (ne (sym (eqb-true other y here)))
        | inr more ↦ left-in F y ys (rest y (or_left (eqb y y) (is_false ys y) (eq-eqb y y refl)) ne)
            ∙ sole-left F ys other parts.1 more free (λ x there differs. rest x (or_right (eqb x y) (is_false ys x) there) differs)
      ]
    ]

pub none-left : (F clause : List ℕ) (other : ℕ) → is_false F other ≡ true
    → ((x : ℕ) → is_false clause x ≡ true → x ≢ other → is_false F x ≡ true) → is_falsified F clause ≡ true
none-left F clause other gone rest =
    nil-falsified F clause (itself-left F clause (λ x own. elim (cases_eq x other) [
      | inl e ↦ ap (is_false F) e ∙ gone
      | inr ne ↦ rest x own ne
    ]))

-- ---- literals of valid clauses

pub own-inside : (v : ℕ) (clause : List ℕ) (x : ℕ) → has_outside v clause ≡ false → is_false clause x ≡ true → is_outside v x ≡ false
own-inside v [] x inside own = absurd (both_ways false refl own)
own-inside v (y ∷ ys) x inside own =
    let parts = or_parts (is_outside v y) (has_outside v ys) inside in
    elim (or_cases (eqb x y) (is_false ys x) own) [
      | inl here ↦ ap (is_outside v) (eqb-true x y here) ∙ parts.0
      | inr more ↦ own-inside v ys x parts.1 more
    ]
