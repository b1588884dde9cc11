-- The literals of a clause that aren't false, counted to two.
-- `match` on an enum in place of `!=` on it: the arms give `.is` and `.not-V`, where a derived `ne` gives nothing that a tactic
-- reads.
use Rattle.std.proofs.Common.{◌≡◌, ℕ, ◌+◌, ◌/◌, ◌<◌, ◌||◌, eqb, ltb, inl, inr, subst, Bool, true, false, not, cond, List, [], ◌∷◌, ◌++◌, length, get_or, take, drop, refl, sym, ap, ◌∙◌, arith, Option, Some, None}
use Rattle.std.proofs.lemmas.List.{take-append-drop, drop_more, append-nil}
use Rattle.std.proofs.lemmas.List.Elements.{filter-append, filter_more}
use Rattle.std.proofs.lemmas.Bool.{or_parts, cases_Bool}
use Rattle.pv_cnf.specs.Literal.{complement, is_outside}
use Rattle.pv_cnf.specs.Clause.{has_outside}
use Rattle.pv_log.specs.declared.left.Left.{Left}
use Rattle.pv_log.specs.declared.left.Left.TheVariants as left
use Rattle.pv_log.specs.Propagation.{is_false, left_of, sole_unset, unit_of, is_falsified}
use Rattle.pv_log.specs.Checking.{left_as}

none-is-nil : (xs : List ℕ) → left_as xs ≡ left.None → xs ≡ []
none-is-nil [] e = refl
none-is-nil (x ∷ []) e = absurd cc
none-is-nil (x ∷ z ∷ xs) e = absurd cc

push-more : (xs : List ℕ) (y : ℕ) (ys : List ℕ) → (left_as xs ≡ left.None → ⊥) → left.More ≡ left_as (xs ++ y ∷ ys)
push-more [] y ys ne = absurd (ne refl)
push-more (x ∷ []) y ys ne = refl
push-more (x ∷ z ∷ xs) y ys ne = refl

module _ (falses clause : List ℕ) (i : ℕ) (lt : i < length clause) where
  left-at : left_of falses (take (i + 1) clause) ≡ left_of falses (take i clause) ++ cond (not (is_false falses (get_or clause i 0))) (get_or clause i 0 ∷ []) []
  left-at = filter_more (λ (lit : ℕ). not (is_false falses lit)) clause i 0 lt

  -- a false literal changes nothing
  pub left-false : is_false falses (get_or clause i 0) ≡ true → left_of falses (take (i + 1) clause) ≡ left_of falses (take i clause)
  left-false e = left-at ∙ ap (λ (b : Bool). left_of falses (take i clause) ++ cond (not b) (get_or clause i 0 ∷ []) []) e ∙ append-nil (left_of falses (take i clause))

  -- the first one that isn't false
  pub left-first : is_false falses (get_or clause i 0) ≡ false → left_as (left_of falses (take i clause)) ≡ left.None → left.One (get_or clause i 0) ≡ left_as (left_of falses (take (i + 1) clause))
  left-first e none =
      let more : left_of falses (take (i + 1) clause) ≡ left_of falses (take i clause) ++ get_or clause i 0 ∷ [] = left-at ∙ ap (λ (b : Bool). left_of falses (take i clause) ++ cond (not b) (get_or clause i 0 ∷ []) []) e in
      sym (ap left_as (more ∙ ap (λ (xs : List ℕ). xs ++ get_or clause i 0 ∷ []) (none-is-nil (left_of falses (take i clause)) none)))

  -- the second one
  pub left-second : is_false falses (get_or clause i 0) ≡ false → (left_as (left_of falses (take i clause)) ≡ left.None → ⊥) → left.More ≡ left_as (left_of falses clause)
  left-second e some =
      let parts : clause ≡ take i clause ++ get_or clause i 0 ∷ drop (i + 1) clause = sym (take-append-drop i clause) ∙ ap (λ (xs : List ℕ). take i clause ++ xs) (drop_more clause i 0 lt) in
      let rest : left_of falses (get_or clause i 0 ∷ drop (i + 1) clause) ≡ get_or clause i 0 ∷ left_of falses (drop (i + 1) clause) = ap (λ (b : Bool). cond (not b) (get_or clause i 0 ∷ left_of falses (drop (i + 1) clause)) (left_of falses (drop (i + 1) clause))) e in
      let whole : left_of falses clause ≡ left_of falses (take i clause) ++ get_or clause i 0 ∷ left_of falses (drop (i + 1) clause) =
      ap (left_of falses) parts ∙ filter-append (λ (lit : ℕ). not (is_false falses lit)) (take i clause) (get_or clause i 0 ∷ drop (i + 1) clause) ∙ ap (λ (xs : List ℕ). left_of falses (take i clause) ++ xs) rest in
      push-more (left_of falses (take i clause)) (get_or clause i 0) (left_of falses (drop (i + 1) clause)) some ∙ sym (ap left_as whole)

-- what is asked of a clause, by what is left of it
abbrev pub sole_as : List ℕ → Left → Option ℕ
sole_as falses left.None = None
sole_as falses (left.One lit) = cond (is_false falses (complement lit)) None (Some lit)
sole_as falses left.More = None

abbrev pub falsified_as : Left → Bool
falsified_as left.None = true
falsified_as (left.One lit) = false
falsified_as left.More = false

sole-as : (falses xs : List ℕ) → sole_unset falses xs ≡ sole_as falses (left_as xs)
sole-as falses [] = refl
sole-as falses (x ∷ []) = refl
sole-as falses (x ∷ y ∷ xs) = refl

pub unit-as : (falses clause : List ℕ) (l : Left) → l ≡ left_as (left_of falses clause) → unit_of falses clause ≡ sole_as falses l
unit-as falses clause l e = sole-as falses (left_of falses clause) ∙ ap (sole_as falses) (sym e)

nil-as : (xs : List ℕ) → (elim xs as (λ _. Bool) [ [] ↦ true | _ ∷ _ ↦ false ]) ≡ falsified_as (left_as xs)
nil-as [] = refl
nil-as (x ∷ []) = refl
nil-as (x ∷ y ∷ xs) = refl

pub falsified-as : (falses clause : List ℕ) (l : Left) → l ≡ left_as (left_of falses clause) → is_falsified falses clause ≡ falsified_as l
falsified-as falses clause l e = nil-as (left_of falses clause) ∙ ap falsified_as (sym e)

one-of : (lit x : ℕ) (xs : List ℕ) → left.One lit ≡ left_as (x ∷ xs) → lit ≡ x
one-of lit x [] e = cc
one-of lit x (y ∷ xs) e = absurd cc

-- the one literal that isn't false is one of the clause's, and isn't false
pub one-inside : (v : ℕ) (falses clause : List ℕ) (lit : ℕ) → left.One lit ≡ left_as (left_of falses clause) → has_outside v clause ≡ false → (is_outside v lit ≡ false) × (is_false falses lit ≡ false)
one-inside v falses [] lit e h = absurd cc
one-inside v falses (x ∷ xs) lit e h =
    let parts = or_parts (is_outside v x) (has_outside v xs) h in
    elim (cases_Bool (is_false falses x)) [
      | inl there ↦ one-inside v falses xs lit (e ∙ ap (λ (b : Bool). left_as (cond (not b) (x ∷ left_of falses xs) (left_of falses xs))) there) parts.1
      | inr absent ↦ (let same = one-of lit x (left_of falses xs) (e ∙ ap (λ (b : Bool). left_as (cond (not b) (x ∷ left_of falses xs) (left_of falses xs))) absent) in
          (subst (λ (y : ℕ). is_outside v y ≡ false) (sym same) parts.0, subst (λ (y : ℕ). is_false falses y ≡ false) (sym same) absent))
    ]

pub complement-variable : (lit : ℕ) → complement lit / 2 ≡ lit / 2
complement-variable lit = omega arith

pub complement-complement : (lit : ℕ) → complement (complement lit) ≡ lit
complement-complement lit = omega arith

pub complement-inside : (v lit : ℕ) → is_outside v lit ≡ false → is_outside v (complement lit) ≡ false
complement-inside v lit h = subst (λ (w : ℕ). (eqb w 0 || ltb v w) ≡ false) (sym (complement-variable lit)) h
