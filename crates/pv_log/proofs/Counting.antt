-- How many new lines there can be.
-- A clause's number to base 3 has a digit for each variable: 0 where it is absent, 1 and 2 where it is there with either sign.
-- Clauses with one number have the same literals, so new lines have different numbers, and where none is empty none of them is 0.
use Rattle.std.proofs.Common.{◌≡◌, ℕ, zero, suc, ◌+◌, ◌*◌, ◌/◌, ◌^◌, ◌<◌, ◌≤◌, ◌⊎◌, Bool, true, false, cond, eqb, List, [], ◌∷◌, ◌++◌, length, map, refl, sym, ap, ◌∙◌, arith, inl, inr}
use Rattle.std.specs.List.{list_any, list_all, AllByRecursion, IsDistinct}
use Rattle.std.proofs.Math.Nat.{pow-suc, one-le-pow}
use Rattle.std.proofs.lemmas.Bool.{eqb-true, eq-eqb, ne_eqb, cases_eq, cases_Bool, both_ways, and_from, or_parts, or_left, or_right, or_cases}
use Rattle.std.proofs.lemmas.List.{length-map}
use Rattle.std.proofs.lemmas.List.Folds.{list_any-append}
use Rattle.std.proofs.lemmas.Map.Steps.{length-le_from_distinct_below}
use Rattle.pv_cnf.specs.Literal.{is_outside}
use Rattle.pv_cnf.specs.Clause.{has_outside, has_double}
use Rattle.pv_log.specs.declared.line.Line.{Line}
use Rattle.pv_log.specs.Propagation.{is_false}
use Rattle.pv_log.specs.Follows.{EachFollows}
use Rattle.pv_log.specs.Newness.{subsumes, is_subsumed, FollowsNew, NoneEmpty}
use Rattle.pv_log.proofs.Literals.{inside-bounds}

-- ---- a clause's number

-- by whether the variable is there, and whether its negation is
abbrev sign_digit : Bool → Bool → ℕ
sign_digit positive negative = cond positive 1 (cond negative 2 0)

-- what a clause has of a variable
abbrev digit : List ℕ → ℕ → ℕ
digit lits v = sign_digit (is_false lits (2 * v)) (is_false lits (2 * v + 1))

abbrev number : ℕ → List ℕ → ℕ
number zero lits = 0
number (suc v) lits = 3 * number v lits + digit lits (suc v)

digit-below : (a b : Bool) → sign_digit a b < 3
digit-below true b = omega arith
digit-below false true = omega arith
digit-below false false = omega arith

digit-positive : (a b c d : Bool) → sign_digit a b ≡ sign_digit c d → a ≡ true → c ≡ true
digit-positive true b true d e there = refl
digit-positive true b false true e there = absurd (omega (arith, e))
digit-positive true b false false e there = absurd (omega (arith, e))
digit-positive false b c d e there = absurd (both_ways false refl there)

digit-negative : (a b c d : Bool) → sign_digit a b ≡ sign_digit c d → a ≡ false → b ≡ true → d ≡ true
digit-negative true b c d e absent there = absurd (both_ways true absent refl)
digit-negative false false c d e absent there = absurd (both_ways false refl there)
digit-negative false true c true e absent there = refl
digit-negative false true true false e absent there = absurd (omega (arith, e))
digit-negative false true false false e absent there = absurd (omega (arith, e))

number-below : (v : ℕ) (lits : List ℕ) → number v lits < 3 ^ v
number-below zero lits = omega arith
number-below (suc v) lits =
    let below = number-below v lits in
    let last = digit-below (is_false lits (2 * suc v)) (is_false lits (2 * suc v + 1)) in
    omega (arith, pow-suc 3 v)

number-nil : (v : ℕ) → number v [] ≡ 0
number-nil zero = refl
number-nil (suc v) = omega (arith, number-nil v)

same-digit : (v : ℕ) (xs ys : List ℕ) → number v xs ≡ number v ys → (i : ℕ) → 1 ≤ i → i ≤ v → digit xs i ≡ digit ys i
same-digit zero xs ys e i low high = absurd (omega arith)
same-digit (suc v) xs ys e i low high =
    let a = digit-below (is_false xs (2 * suc v)) (is_false xs (2 * suc v + 1)) in
    let b = digit-below (is_false ys (2 * suc v)) (is_false ys (2 * suc v + 1)) in
    let front : number v xs ≡ number v ys = omega (arith, e) in
    let last : digit xs (suc v) ≡ digit ys (suc v) = omega (arith, e, front) in
    elim (cases_eq i (suc v)) [
      | inl same ↦ ap (digit xs) same ∙ last ∙ sym (ap (digit ys) same)
      | inr other ↦ same-digit v xs ys front i low (omega arith)
    ]

-- ---- one number, the same literals

any-same : (x b : ℕ) (xs : List ℕ) → x / 2 ≡ b / 2 → is_false xs b ≡ true → list_any (λ lit. eqb (x / 2) (lit / 2)) xs ≡ true
any-same x b [] e there = absurd (both_ways false refl there)
any-same x b (y ∷ xs) e there =
    elim (or_cases (eqb b y) (is_false xs b) there) [
      | inl here ↦ (let same = eqb-true b y here in or_left _ _ (eq-eqb (x / 2) (y / 2) (e ∙ ap (λ (w : ℕ). w / 2) same)))
      | inr more ↦ or_right _ _ (any-same x b xs e more)
    ]

-- a list without a double hasn't both literals of a variable
not-both : (xs : List ℕ) (a b : ℕ) → has_double xs ≡ false → a / 2 ≡ b / 2 → (a ≡ b → ⊥) → is_false xs a ≡ true → is_false xs b ≡ true → ⊥
not-both [] a b d e ne there other = both_ways false refl there
not-both (x ∷ xs) a b d e ne there other =
    let parts = or_parts (list_any (λ lit. eqb (x / 2) (lit / 2)) xs) (has_double xs) d in
    elim (or_cases (eqb a x) (is_false xs a) there) [
      | inl here ↦ (let same = eqb-true a x here in elim (or_cases (eqb b x) (is_false xs b) other) [
        | inl here' ↦ ne (same ∙ sym (eqb-true b x here'))
        | inr more ↦ both_ways _ parts.0 (any-same x b xs (sym (ap (λ (w : ℕ). w / 2) same) ∙ e) more)
      ])
      | inr more ↦ elim (or_cases (eqb b x) (is_false xs b) other) [
        | inl here ↦ (let same = eqb-true b x here in both_ways _ parts.0 (any-same x a xs (sym (ap (λ (w : ℕ). w / 2) same) ∙ sym e) more))
        | inr more' ↦ not-both xs a b parts.1 e ne more more'
      ]
    ]

inside-at : (v : ℕ) (xs : List ℕ) (lit : ℕ) → has_outside v xs ≡ false → is_false xs lit ≡ true → is_outside v lit ≡ false
inside-at v [] lit h there = absurd (both_ways false refl there)
inside-at v (x ∷ xs) lit h there =
    let parts = or_parts (is_outside v x) (has_outside v xs) h in
    elim (or_cases (eqb lit x) (is_false xs lit) there) [
      | inl here ↦ ap (is_outside v) (eqb-true lit x here) ∙ parts.0
      | inr more ↦ inside-at v xs lit parts.1 more
    ]

sign-cases : (lit : ℕ) → (lit ≡ 2 * (lit / 2)) ⊎ (lit ≡ 2 * (lit / 2) + 1)
sign-cases lit = elim (cases_eq lit (2 * (lit / 2))) [ inl e ↦ inl e | inr ne ↦ inr (omega arith) ]

all-there : (test : ℕ → Bool) (xs : List ℕ) → ((lit : ℕ) → is_false xs lit ≡ true → test lit ≡ true) → list_all test xs ≡ true
all-there test [] each = refl
all-there test (x ∷ xs) each =
    and_from (test x) (list_all test xs) (each x (or_left _ _ (eq-eqb x x refl))) (all-there test xs (λ lit there. each lit (or_right (eqb lit x) _ there)))

module _ (v : ℕ) (xs ys : List ℕ) (inside : has_outside v xs ≡ false) (distinct : has_double xs ≡ false) (e : number v xs ≡ number v ys) where
  there-too : (lit : ℕ) → is_false xs lit ≡ true → is_false ys lit ≡ true
  there-too lit there =
      let b = inside-bounds v lit (inside-at v xs lit inside there) in
      let same = same-digit v xs ys e (lit / 2) b.0 b.1 in
      let there-at : (w : ℕ) → lit ≡ w → is_false xs w ≡ true = λ w is. ap (is_false xs) (sym is) ∙ there in
      elim (sign-cases lit) [
        | inl is ↦ ap (is_false ys) is ∙ digit-positive (is_false xs (2 * (lit / 2))) _ (is_false ys (2 * (lit / 2))) _ same (there-at _ is)
        | inr is ↦ (let other : is_false xs (2 * (lit / 2)) ≡ false = elim (cases_Bool (is_false xs (2 * (lit / 2)))) [
          | inl both ↦ absurd (not-both xs (2 * (lit / 2)) lit distinct (omega arith) (λ w. omega arith) both there)
          | inr absent ↦ absent
        ] in
            ap (is_false ys) is ∙ digit-negative (is_false xs (2 * (lit / 2))) (is_false xs (2 * (lit / 2) + 1)) (is_false ys (2 * (lit / 2))) (is_false ys (2 * (lit / 2) + 1)) same other (there-at _ is))
      ]

  -- a clause with the same number has all its literals
  one-number-subsumes : subsumes xs ys ≡ true
  one-number-subsumes = all-there (is_false ys) xs there-too

-- ---- new lines have different numbers

not-subsumed-later : (v : ℕ) (c : List ℕ) (clauses : List (List ℕ)) (lines : List Line) → ((lits : List ℕ) → is_subsumed clauses lits ≡ false → subsumes c lits ≡ false) → EachFollows (FollowsNew v) clauses lines → AllByRecursion (λ line. subsumes c line.lits ≡ false) lines
not-subsumed-later v c clauses [] has e = tt
not-subsumed-later v c clauses (line ∷ lines) has e = (
  has line.lits e.0.fresh,
  not-subsumed-later v c (clauses ++ line.lits ∷ []) lines (λ lits none. has lits (or_parts (is_subsumed clauses lits) _ (sym (list_any-append (λ clause. subsumes clause lits) clauses (line.lits ∷ [])) ∙ none)).0) e.1,
)

number-differs : (v : ℕ) (c : List ℕ) (lines : List Line) → has_outside v c ≡ false → has_double c ≡ false → AllByRecursion (λ line. subsumes c line.lits ≡ false) lines → AllByRecursion (λ q. eqb (number v c) q ≡ false) (map (λ line. number v line.lits) lines)
number-differs v c [] inside distinct none = tt
number-differs v c (line ∷ lines) inside distinct none = (
  ne_eqb (number v c) (number v line.lits) (λ e. both_ways (subsumes c line.lits) none.0 (one-number-subsumes v c line.lits inside distinct e)),
  number-differs v c lines inside distinct none.1,
)

last-in : (clauses : List (List ℕ)) (c lits : List ℕ) → is_subsumed (clauses ++ c ∷ []) lits ≡ false → subsumes c lits ≡ false
last-in clauses c lits none =
    (or_parts (subsumes c lits) false (or_parts (is_subsumed clauses lits) _ (sym (list_any-append (λ clause. subsumes clause lits) clauses (c ∷ [])) ∙ none)).1).0

numbers-differ : (v : ℕ) (clauses : List (List ℕ)) (lines : List Line) → EachFollows (FollowsNew v) clauses lines → IsDistinct eqb (map (λ line. number v line.lits) lines)
unfolding IsDistinct
numbers-differ v clauses [] e = tt
numbers-differ v clauses (line ∷ lines) e = (
  number-differs v line.lits lines e.0.follows.inside e.0.follows.distinct (not-subsumed-later v line.lits (clauses ++ line.lits ∷ []) lines (last-in clauses line.lits) e.1),
  numbers-differ v (clauses ++ line.lits ∷ []) lines e.1,
)

not-nil : (xs : List ℕ) → 0 < length xs → subsumes xs [] ≡ true → ⊥
not-nil [] some e = omega arith
not-nil (x ∷ xs) some e = both_ways false refl e

none-is-zero : (v : ℕ) (clauses : List (List ℕ)) (lines : List Line) → EachFollows (FollowsNew v) clauses lines → NoneEmpty lines → AllByRecursion (λ q. eqb 0 q ≡ false) (map (λ line. number v line.lits) lines)
none-is-zero v clauses [] e some = tt
none-is-zero v clauses (line ∷ lines) e some = (
  ne_eqb 0 (number v line.lits) (λ z. not-nil line.lits some.0 (one-number-subsumes v line.lits [] e.0.follows.inside e.0.follows.distinct (sym z ∙ sym (number-nil v)))),
  none-is-zero v (clauses ++ line.lits ∷ []) lines e.1 some.1,
)

below-power : (v : ℕ) (lines : List Line) (q : ℕ) → list_any (eqb q) (map (λ line. number v line.lits) lines) ≡ true → q < 3 ^ v
below-power v [] q there = absurd (both_ways false refl there)
below-power v (line ∷ lines) q there =
    elim (or_cases (eqb q (number v line.lits)) (list_any (eqb q) (map (λ line. number v line.lits) lines)) there) [
      | inl e ↦ (let same : q ≡ number v line.lits = eqb-true q (number v line.lits) e in let below = number-below v line.lits in omega arith)
      | inr more ↦ below-power v lines q more
    ]

with-zero : (xs : List ℕ) → AllByRecursion (λ q. eqb 0 q ≡ false) xs → IsDistinct eqb xs → IsDistinct eqb (0 ∷ xs)
unfolding IsDistinct
with-zero xs none d = (none, d)

pub new-lines-few : (v : ℕ) (clauses : List (List ℕ)) (lines : List Line) → EachFollows (FollowsNew v) clauses lines → NoneEmpty lines → length lines < 3 ^ v
new-lines-few v clauses lines e some =
    let numbers = map (λ (line : Line). number v line.lits) lines in
    let below : (q : ℕ) → list_any (eqb q) (0 ∷ numbers) ≡ true → q < 3 ^ v = λ q there.
    elim (or_cases (eqb q 0) (list_any (eqb q) numbers) there) [
      | inl z ↦ (let same : q ≡ 0 = eqb-true q 0 z in let least = one-le-pow v 3 (omega arith) in omega arith)
      | inr more ↦ below-power v lines q more
    ] in
    let bound : suc (length numbers) ≤ 3 ^ v = length-le_from_distinct_below (0 ∷ numbers) (3 ^ v) (with-zero numbers (none-is-zero v clauses lines e some) (numbers-differ v clauses lines e)) below in
    omega (arith, length-map lines (λ (line : Line). number v line.lits))
