-- The literals of a clause that aren't false, where more or fewer literals are false.
use Rattle.std.proofs.Common.{◌≡◌, ℕ, ◌+◌, ◌<◌, Bool, true, false, not, cond, ◌||◌, eqb, List, [], ◌∷◌, ◌++◌, length, get_or, take, drop, refl, sym, ap, subst, ◌∙◌, inl, inr, Some, None}
use Rattle.std.specs.List.{list_any}
use Rattle.std.proofs.lemmas.Bool.{eq-eqb, cases_Bool, both_ways, or_parts, or_left, or_right}
use Rattle.std.proofs.lemmas.List.{take-append-drop, drop_more, append-nil}
use Rattle.std.proofs.lemmas.List.Elements.{filter-append, filter_more}
use Rattle.std.proofs.lemmas.List.Folds.{list_any-append}
use Rattle.pv_cnf.specs.Literal.{complement, variable_of, is_outside}
use Rattle.pv_cnf.specs.Clause.{has_outside, has_variable}
use Rattle.pv_log.specs.Propagation.{is_false, left_of, sole_unset, unit_of, is_falsified}
use Rattle.pv_watch.specs.Quiet.{IsQuiet}

-- what is false in one list is so in the other
pub record Within (A B : List ℕ) : Type 0 where
  pub at : (lit : ℕ) → is_false A lit ≡ true → is_false B lit ≡ true

pub false-append : (A B : List ℕ) (lit : ℕ) → is_false (A ++ B) lit ≡ (is_false A lit || is_false B lit)
false-append A B lit = list_any-append (eqb lit) A B

pub within-front : (A B : List ℕ) → Within A (A ++ B)
within-front A B = record { at = λ lit e. false-append A B lit ∙ or_left (is_false A lit) (is_false B lit) e }

pub left-in : (F : List ℕ) (x : ℕ) (xs : List ℕ) → is_false F x ≡ true → left_of F (x ∷ xs) ≡ left_of F xs
left-in F x xs e = ap (λ (b : Bool). cond (not b) (x ∷ left_of F xs) (left_of F xs)) e

pub left-out : (F : List ℕ) (x : ℕ) (xs : List ℕ) → is_false F x ≡ false → left_of F (x ∷ xs) ≡ x ∷ left_of F xs
left-out F x xs e = ap (λ (b : Bool). cond (not b) (x ∷ left_of F xs) (left_of F xs)) e

pub left-within : (A B xs : List ℕ) → Within A B → left_of B xs ≡ left_of B (left_of A xs)
left-within A B [] w = refl
left-within A B (x ∷ xs) w =
    elim (cases_Bool (is_false A x)) [
      | inl there ↦ left-in B x xs (w.at x there) ∙ left-within A B xs w ∙ sym (ap (left_of B) (left-in A x xs there))
      | inr absent ↦ ap (λ (ys : List ℕ). cond (not (is_false B x)) (x ∷ ys) ys) (left-within A B xs w)
          ∙ sym (ap (left_of B) (left-out A x xs absent))
    ]

nil-of : (xs : List ℕ) → (elim xs as (λ _. Bool) [ [] ↦ true | _ ∷ _ ↦ false ]) ≡ true → xs ≡ []
nil-of [] e = refl
nil-of (x ∷ xs) e = absurd (both_ways false refl e)

pub falsified-nil : (F clause : List ℕ) → is_falsified F clause ≡ true → left_of F clause ≡ []
falsified-nil F clause e = nil-of (left_of F clause) e

pub nil-falsified : (F clause : List ℕ) → left_of F clause ≡ [] → is_falsified F clause ≡ true
nil-falsified F clause e = ap (λ (xs : List ℕ). elim xs as (λ _. Bool) [ [] ↦ true | _ ∷ _ ↦ false ]) e

cons-falsified : (F clause : List ℕ) (x : ℕ) (xs : List ℕ) → left_of F clause ≡ x ∷ xs → is_falsified F clause ≡ false
cons-falsified F clause x xs e = ap (λ (ys : List ℕ). elim ys as (λ _. Bool) [ [] ↦ true | _ ∷ _ ↦ false ]) e

some-of : (b : Bool) (x y : ℕ) → cond b None (Some x) ≡ Some y → (x ≡ y) × (b ≡ false)
some-of true x y e = absurd cc
some-of false x y e = (cc, refl)

none-of : (b : Bool) (x : ℕ) → cond b None (Some x) ≡ None → b ≡ true
none-of true x e = refl
none-of false x e = absurd cc

sole-is : (F xs : List ℕ) (lit : ℕ) → sole_unset F xs ≡ Some lit → (xs ≡ lit ∷ []) × (is_false F (complement lit) ≡ false)
sole-is F [] lit e = absurd cc
sole-is F (x ∷ []) lit e =
    let s = some-of (is_false F (complement x)) x lit e in
    (ap (λ (y : ℕ). y ∷ []) s.0, subst (λ (y : ℕ). is_false F (complement y) ≡ false) s.0 s.1)
sole-is F (x ∷ y ∷ xs) lit e = absurd cc

pub unit-is : (F clause : List ℕ) (lit : ℕ) → unit_of F clause ≡ Some lit → (left_of F clause ≡ lit ∷ [])
    × (is_false F (complement lit) ≡ false)
unit-is F clause lit e = sole-is F (left_of F clause) lit e

pub unit-when : (F clause : List ℕ) (lit : ℕ) → left_of F clause ≡ lit ∷ []
    → is_false F (complement lit) ≡ false → unit_of F clause ≡ Some lit
unit-when F clause lit e absent = ap (sole_unset F) e ∙ ap (λ (b : Bool). cond b None (Some lit)) absent

-- a quiet clause with one literal that isn't false has a true one
pub quiet-one : (F clause : List ℕ) (lit : ℕ) → IsQuiet F clause → left_of F clause ≡ lit ∷ [] → is_false F (complement lit) ≡ true
quiet-one F clause lit q e = none-of (is_false F (complement lit)) lit (sym (ap (sole_unset F) e) ∙ q.gives_none)

pub quiet-not-nil : (F clause : List ℕ) → IsQuiet F clause → left_of F clause ≡ [] → ⊥
quiet-not-nil F clause q e = both_ways (is_falsified F clause) q.holds_out (nil-falsified F clause e)

-- ---- what a look finds

pub true-quiet : (F clause : List ℕ) (lit : ℕ) → left_of F clause ≡ lit ∷ [] → is_false F (complement lit) ≡ true → IsQuiet F clause
true-quiet F clause lit e there = record {
  holds_out = cons-falsified F clause lit [] e;
  gives_none = ap (sole_unset F) e ∙ ap (λ (b : Bool). cond b None (Some lit)) there;
}

pub two-quiet : (F clause : List ℕ) (x y : ℕ) (xs : List ℕ) → left_of F clause ≡ x ∷ y ∷ xs → IsQuiet F clause
two-quiet F clause x y xs e = record {
  holds_out = cons-falsified F clause x (y ∷ xs) e;
  gives_none = ap (sole_unset F) e;
}

pub left-more : (F clause : List ℕ) (i : ℕ) → i < length clause → left_of F (take (i + 1) clause) ≡ left_of F (take i clause) ++ cond
    (not (is_false F (get_or clause i 0))) (get_or clause i 0 ∷ []) []
left-more F clause i lt = filter_more (λ (lit : ℕ). not (is_false F lit)) clause i 0 lt

pub left-more-in : (F clause : List ℕ) (i : ℕ) → i < length clause → is_false F (get_or clause i 0) ≡ true
    → left_of F (take (i + 1) clause) ≡ left_of F (take i clause)
left-more-in F clause i lt e = left-more F clause i lt
    ∙ ap (λ (b : Bool). left_of F (take i clause) ++ cond (not b) (get_or clause i 0 ∷ []) []) e ∙ append-nil (left_of F (take i clause))

pub left-more-out : (F clause : List ℕ) (i : ℕ) → i < length clause → is_false F (get_or clause i 0) ≡ false
    → left_of F (take (i + 1) clause) ≡ left_of F (take i clause) ++ get_or clause i 0 ∷ []
left-more-out F clause i lt e = left-more F clause i lt
    ∙ ap (λ (b : Bool). left_of F (take i clause) ++ cond (not b) (get_or clause i 0 ∷ []) []) e

-- the second literal that isn't false
pub second-quiet : (F clause : List ℕ) (i x : ℕ) → i < length clause → is_false F (get_or clause i 0) ≡ false
    → left_of F (take i clause) ≡ x ∷ [] → IsQuiet F clause
second-quiet F clause i x lt e front =
    let parts : clause ≡ take i clause ++ get_or clause i 0 ∷ drop (i + 1) clause = sym (take-append-drop i clause)
    ∙ ap (λ (xs : List ℕ). take i clause ++ xs) (drop_more clause i 0 lt) in
    let whole : left_of F clause ≡ x ∷ get_or clause i 0 ∷ left_of F (drop (i + 1) clause) =
    ap (left_of F) parts ∙ filter-append (λ (lit : ℕ). not (is_false F lit)) (take i clause) (get_or clause i 0 ∷ drop (i + 1) clause)
    ∙ ap (λ (ys : List ℕ). left_of F (take i clause) ++ ys) (left-out F (get_or clause i 0) (drop (i + 1) clause) e)
    ∙ ap (λ (ys : List ℕ). ys ++ get_or clause i 0 ∷ left_of F (drop (i + 1) clause)) front in
    two-quiet F clause x (get_or clause i 0) (left_of F (drop (i + 1) clause)) whole

-- ---- the first literal that isn't false

head-of : (x : ℕ) (xs : List ℕ) (y : ℕ) (ys : List ℕ) → x ∷ xs ≡ y ∷ ys → x ≡ y
head-of x xs y ys e = cc

head-inside : (v x : ℕ) (xs : List ℕ) → has_outside v (x ∷ xs) ≡ false → is_outside v x ≡ false
head-inside v x xs h = (or_parts (is_outside v x) (has_outside v xs) h).0

tail-inside : (v x : ℕ) (xs : List ℕ) → has_outside v (x ∷ xs) ≡ false → has_outside v xs ≡ false
tail-inside v x xs h = (or_parts (is_outside v x) (has_outside v xs) h).1

pub record First (v : ℕ) (F clause : List ℕ) (lit : ℕ) : Type 0 where
  pub not_false : is_false F lit ≡ false
  pub variable : has_variable (variable_of lit) clause ≡ true
  pub inside : has_outside v clause ≡ false → is_outside v lit ≡ false
  pub any : (test : ℕ → Bool) → test lit ≡ true → list_any test clause ≡ true

pub first-of : (v : ℕ) (F clause : List ℕ) (lit : ℕ) (rest : List ℕ) → left_of F clause ≡ lit ∷ rest → First v F clause lit
first-of v F [] lit rest e = absurd cc
first-of v F (x ∷ xs) lit rest e =
    elim (cases_Bool (is_false F x)) [
      | inl there ↦ (let f = first-of v F xs lit rest (sym (left-in F x xs there) ∙ e) in record {
        not_false = f.not_false;
        variable = or_right (eqb (variable_of lit) (variable_of x)) (has_variable (variable_of lit) xs) f.variable;
        inside = λ h. f.inside (tail-inside v x xs h);
        any = λ test t. or_right (test x) (list_any test xs) (f.any test t);
      })
      | inr absent ↦ (let same : x ≡ lit = head-of x (left_of F xs) lit rest (sym (left-out F x xs absent) ∙ e) in record {
        not_false = subst (λ (y : ℕ). is_false F y ≡ false) same absent;
        variable = or_left (eqb (variable_of lit) (variable_of x)) (has_variable (variable_of lit) xs)
            (eq-eqb (variable_of lit) (variable_of x) (ap variable_of (sym same)));
        inside = λ h. subst (λ (y : ℕ). is_outside v y ≡ false) same (head-inside v x xs h);
        any = λ test t. or_left (test x) (list_any test xs) (subst (λ (y : ℕ). test y ≡ true) (sym same) t);
      })
    ]
