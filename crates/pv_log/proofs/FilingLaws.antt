-- Clauses that are filed under one of their literals each.
-- A chain is followed by counting steps: one more clause changes no chain of those before it, since each leads to smaller numbers, and
-- it stands in front of the chain of its literal. A search of a chain keeps that what is to be found still comes.
use Rattle.std.proofs.Common.{◌≡◌, ℕ, zero, suc, ◌+◌, ◌-◌, ◌<◌, ◌≤◌, ◌⊎◌, ◌&&◌, ◌||◌, Bool, true, false, not, cond, eqb, List, [], ◌∷◌, ◌++◌, length, get_or, set, take, refl, sym, ap, subst, ◌∙◌, arith, inl, inr, Option, Some, None}
use Rattle.std.specs.Prelude.{slice_get}
use Rattle.std.specs.List.{list_any, AllByRecursion}
use Rattle.std.proofs.lemmas.Bool.{eqb-true, cases_eq, cases_lt, cases_Bool, both_ways, and_parts, or_left, or_right, or_cases}
use Rattle.std.proofs.lemmas.Grind.{get_or_default_zero}
use Rattle.std.proofs.lemmas.List.{length-set, length-append, get_or-set_same, get_or-set_other, take_more}
use Rattle.pv_log.specs.Propagation.{is_false, left_of, is_falsified, named}
use Rattle.pv_log.proofs.Literals.{false-push}
use Rattle.pv_log.specs.Newness.{subsumes, is_subsumed}
use Rattle.pv_log.specs.Filing.{Filed, steps_back, ComesAfter, IsUnder, HasPlace, IsFiled, FindsFalse, is_false_one}

-- ---- one more clause

get-left : (xs : List ℕ) (y n : ℕ) → n < length xs → get_or (xs ++ y ∷ []) n 0 ≡ get_or xs n 0
get-left [] y n lt = absurd (omega arith)
get-left (x ∷ xs) y zero lt = refl
get-left (x ∷ xs) y (suc n) lt = get-left xs y n (omega arith)

get-last : (xs : List ℕ) (y n : ℕ) → n ≡ length xs → get_or (xs ++ y ∷ []) n 0 ≡ y
get-last [] y zero e = refl
get-last [] y (suc n) e = absurd (omega arith)
get-last (x ∷ xs) y zero e = absurd (omega arith)
get-last (x ∷ xs) y (suc n) e = get-last xs y n (omega arith)

get-past : (xs : List ℕ) (y n : ℕ) → length xs < n → get_or (xs ++ y ∷ []) n 0 ≡ 0
get-past [] y zero lt = absurd (omega arith)
get-past [] y (suc n) lt = refl
get-past (x ∷ xs) y zero lt = absurd (omega arith)
get-past (x ∷ xs) y (suc n) lt = get-past xs y n (omega arith)

steps-left : (nexts : List ℕ) (y k id : ℕ) → ((i : ℕ) → get_or nexts i 0 ≤ i - 1) → id < length nexts → steps_back (nexts ++ y ∷ []) k id ≡ steps_back nexts k id
steps-left nexts y zero id before lt = refl
steps-left nexts y (suc k) id before lt =
    let less = before id in
    ap (steps_back (nexts ++ y ∷ []) k) (get-left nexts y id lt) ∙ steps-left nexts y k (get_or nexts id 0) before (omega arith)

named-cases : (clauses : List (List ℕ)) (c : List ℕ) (n : ℕ) (clause : List ℕ) → slice_get (clauses ++ c ∷ []) n ≡ Some clause → (slice_get clauses n ≡ Some clause) ⊎ ((n ≡ length clauses) × (clause ≡ c))
named-cases [] c zero clause e = inr (refl, cc)
named-cases [] c (suc n) clause e = absurd cc
named-cases (x ∷ xs) c zero clause e = inl e
named-cases (x ∷ xs) c (suc n) clause e = elim (named-cases xs c n clause e) [ inl before ↦ inl before | inr (at, is) ↦ inr (omega arith, is) ]

-- what is filed after one more clause under a literal
abbrev pub with_clause : Filed → ℕ → Filed
with_clause filed lit = record {
  heads = set filed.heads lit (length filed.nexts);
  nexts = filed.nexts ++ get_or filed.heads lit 0 ∷ [];
}

module _ (filed : Filed) (lit : ℕ) where
  module _ (v : ℕ) (clauses : List (List ℕ)) (f : IsFiled v filed clauses) (inside : lit < length filed.heads) where
    first-more : (l : ℕ) → get_or (set filed.heads lit (length filed.nexts)) l 0 < length (filed.nexts ++ get_or filed.heads lit 0 ∷ [])
    first-more l =
        let longer = length-append filed.nexts (get_or filed.heads lit 0 ∷ []) in
        elim (cases_eq l lit) [
          | inl e ↦ (let at : get_or (set filed.heads lit (length filed.nexts)) l 0 ≡ length filed.nexts = ap (λ (i : ℕ). get_or (set filed.heads lit (length filed.nexts)) i 0) e ∙ get_or-set_same filed.heads lit (length filed.nexts) 0 inside in omega (arith, at, longer))
          | inr ne ↦ (let at = get_or-set_other filed.heads lit l (length filed.nexts) 0 ne in let old = f.first l in omega (arith, at, longer))
        ]

    before-more : (i : ℕ) → get_or (filed.nexts ++ get_or filed.heads lit 0 ∷ []) i 0 ≤ i - 1
    before-more i =
        elim (cases_eq i (length filed.nexts)) [
          | inl e ↦ (let at = get-last filed.nexts (get_or filed.heads lit 0) i e in let old = f.first lit in omega (arith, at))
          | inr ne ↦ elim (cases_lt i (length filed.nexts)) [
            | inl lt ↦ (let at = get-left filed.nexts (get_or filed.heads lit 0) i lt in let old = f.before i in omega (arith, at))
            | inr le ↦ (let past : length filed.nexts < i = omega (arith, le, ne) in let at = get-past filed.nexts (get_or filed.heads lit 0) i past in omega (arith, at))
          ]
        ]

    -- the chain of another literal, and the rest of that of this one
    chain-left : (k l : ℕ) → steps_back (filed.nexts ++ get_or filed.heads lit 0 ∷ []) k (get_or filed.heads l 0) ≡ steps_back filed.nexts k (get_or filed.heads l 0)
    chain-left k l = steps-left filed.nexts (get_or filed.heads lit 0) k (get_or filed.heads l 0) f.before (f.first l)

    head-new : get_or (set filed.heads lit (length filed.nexts)) lit 0 ≡ length filed.nexts
    head-new = get_or-set_same filed.heads lit (length filed.nexts) 0 inside

    under-more : (l id : ℕ) → IsUnder filed l id → IsUnder (with_clause filed lit) l id
    under-more l id u =
        elim (cases_eq l lit) [
          | inl e ↦ record {
            back = suc u.back;
            there =
                ap (λ (i : ℕ). steps_back (filed.nexts ++ get_or filed.heads lit 0 ∷ []) (suc u.back) (get_or (set filed.heads lit (length filed.nexts)) i 0)) e
                ∙ ap (steps_back (filed.nexts ++ get_or filed.heads lit 0 ∷ []) (suc u.back)) head-new
                ∙ ap (steps_back (filed.nexts ++ get_or filed.heads lit 0 ∷ []) u.back) (get-last filed.nexts (get_or filed.heads lit 0) (length filed.nexts) refl)
                ∙ chain-left u.back lit
                ∙ ap (λ (i : ℕ). steps_back filed.nexts u.back (get_or filed.heads i 0)) (sym e)
                ∙ u.there;
          }
          | inr ne ↦ record {
            back = u.back;
            there =
                ap (steps_back (filed.nexts ++ get_or filed.heads lit 0 ∷ []) u.back) (get_or-set_other filed.heads lit l (length filed.nexts) 0 ne)
                ∙ chain-left u.back l
                ∙ u.there;
          }
        ]

    place-more : (id : ℕ) (clause : List ℕ) → HasPlace filed id clause → HasPlace (with_clause filed lit) id clause
    place-more id clause p = record { lit = p.lit; own = p.own; under = under-more p.lit id p.under }

    each-more : (lits : List ℕ) → is_false (0 ∷ lits) lit ≡ true → (id : ℕ) (clause : List ℕ) → named (clauses ++ lits ∷ []) id ≡ Some clause → HasPlace (with_clause filed lit) id clause
    each-more lits own zero clause e = absurd cc
    each-more lits own (suc n) clause e =
        elim (named-cases clauses lits n clause e) [
          | inl before ↦ place-more (suc n) clause (f.each (suc n) clause before)
          | inr (at, is) ↦ record {
            lit = lit;
            own = ap (λ (c : List ℕ). is_false (0 ∷ c) lit) is ∙ own;
            under = record { back = 0; there = head-new ∙ omega (arith, f.count, at) };
          }
        ]

    -- one more clause is filed
    pub filed-more : (lits : List ℕ) → is_false (0 ∷ lits) lit ≡ true → IsFiled v (with_clause filed lit) (clauses ++ lits ∷ [])
    filed-more lits own = record {
      literals = length-set filed.heads lit (length filed.nexts) ∙ f.literals;
      count = length-append filed.nexts (get_or filed.heads lit 0 ∷ []) ∙ omega (arith, f.count, length-append clauses (lits ∷ []));
      first = first-more;
      before = before-more;
      each = each-more lits own;
    }

pub filed-as : (v : ℕ) (clauses : List (List ℕ)) (heads nexts : List ℕ) (lit id last : ℕ) (after lits : List ℕ) → IsFiled v (record { heads = heads; nexts = nexts }) clauses → lit < length heads → is_false (0 ∷ lits) lit ≡ true → id ≡ length nexts → after ≡ nexts ++ last ∷ [] → last ≡ get_or heads lit last → IsFiled v (record { heads = set heads lit id; nexts = after }) (clauses ++ lits ∷ [])
filed-as v clauses heads nexts lit id last after lits f inside own id-is after-is last-is =
    let first : last ≡ get_or heads lit 0 = last-is ∙ get_or_default_zero heads lit last inside in
    let all : after ≡ nexts ++ get_or heads lit 0 ∷ [] = after-is ∙ ap (λ (x : ℕ). nexts ++ x ∷ []) first in
    let more = filed-more (record { heads = heads; nexts = nexts }) lit v clauses f inside lits own in
    subst (λ (n : ℕ). IsFiled v (record { heads = set heads lit n; nexts = after }) (clauses ++ lits ∷ [])) (sym id-is)
    (subst (λ (ns : List ℕ). IsFiled v (record { heads = set heads lit (length nexts); nexts = ns }) (clauses ++ lits ∷ [])) (sym all) more)

-- ---- a search of a chain

zero-stays : (nexts : List ℕ) (k : ℕ) → ((i : ℕ) → get_or nexts i 0 ≤ i - 1) → steps_back nexts k 0 ≡ 0
zero-stays nexts zero before = refl
zero-stays nexts (suc k) before =
    let least = before 0 in
    let none : get_or nexts 0 0 ≡ 0 = omega (arith, least) in
    ap (steps_back nexts k) none ∙ zero-stays nexts k before

-- a clause that is false still comes
abbrev pub StillComes : List ℕ → List (List ℕ) → Filed → ℕ → ℕ → Type 0
StillComes falses clauses filed lit from =
    (id : ℕ) (clause : List ℕ) → named clauses id ≡ Some clause → IsUnder filed lit id → is_falsified falses clause ≡ true → ComesAfter filed.nexts from id

module _ (falses : List ℕ) (clauses : List (List ℕ)) (filed : Filed) (lit : ℕ) where
  pub comes-first : StillComes falses clauses filed lit (get_or filed.heads lit 0)
  comes-first = λ id clause at under false. under

  comes-cases : (k from id : ℕ) → steps_back filed.nexts k from ≡ id → (id ≡ from) ⊎ ComesAfter filed.nexts (get_or filed.nexts from 0) id
  comes-cases zero from id there = inl (sym there)
  comes-cases (suc k) from id there = inr (record { back = k; there = there })

  -- this one isn't false
  pub comes-next : (from : ℕ) → StillComes falses clauses filed lit from → ((clause : List ℕ) → named clauses from ≡ Some clause → is_falsified falses clause ≡ true → ⊥) → StillComes falses clauses filed lit (get_or filed.nexts from 0)
  comes-next from still not_this = λ id clause at under is.
      elim (let comes = still id clause at under is in comes-cases comes.back from id comes.there) [
        | inl e ↦ absurd (not_this clause (subst (λ (i : ℕ). named clauses i ≡ Some clause) e at) is)
        | inr comes ↦ comes
      ]

  none-named : (id : ℕ) (clause : List ℕ) → id ≡ 0 → named clauses id ≡ Some clause → ⊥
  none-named zero clause e at = absurd cc
  none-named (suc n) clause e at = absurd (omega arith)

  -- at the chain's end there is none
  pub comes-never : ((i : ℕ) → get_or filed.nexts i 0 ≤ i - 1) → StillComes falses clauses filed lit 0 → FindsFalse falses clauses filed lit false
  comes-never before still = λ id clause at under.
      elim (cases_Bool (is_falsified falses clause)) [
        | inl is ↦ (let comes = still id clause at under is in absurd (none-named id clause (sym comes.there ∙ zero-stays filed.nexts comes.back before) at))
        | inr not ↦ not
      ]

any-get : (p : List ℕ → Bool) (clauses : List (List ℕ)) (n : ℕ) (clause : List ℕ) → slice_get clauses n ≡ Some clause → p clause ≡ true → list_any p clauses ≡ true
any-get p [] n clause at is = absurd cc
any-get p (x ∷ xs) zero clause at is = (let same : x ≡ clause = cc in or_left _ _ (ap p same ∙ is))
any-get p (x ∷ xs) (suc n) clause at is = or_right (p x) _ (any-get p xs n clause at is)

one-any : (falses : List ℕ) (clauses : List (List ℕ)) (n : ℕ) (found : Option (List ℕ)) → slice_get clauses n ≡ found → is_false_one falses found ≡ true → list_any (is_falsified falses) clauses ≡ true
one-any falses clauses n None at is = absurd (both_ways false refl is)
one-any falses clauses n (Some clause) at is = any-get (is_falsified falses) clauses n clause at is

-- a clause that is false is one of all
pub found-at : (falses : List ℕ) (clauses : List (List ℕ)) (id : ℕ) → is_false_one falses (named clauses id) ≡ true → list_any (is_falsified falses) clauses ≡ true
found-at falses clauses zero is = absurd (both_ways false refl is)
found-at falses clauses (suc n) is = one-any falses clauses n (slice_get clauses n) refl is

pub not-at : (falses : List ℕ) (clauses : List (List ℕ)) (id : ℕ) → is_false_one falses (named clauses id) ≡ false → (clause : List ℕ) → named clauses id ≡ Some clause → is_falsified falses clause ≡ true → ⊥
not-at falses clauses id none clause at is = both_ways (is_falsified falses clause) (sym (ap (is_false_one falses) at) ∙ none) is

one-below : (h : ℕ) (lits : List ℕ) (lit : ℕ) → AllByRecursion (λ l. l < h) lits → is_false lits lit ≡ true → lit < h
one-below h [] lit all there = absurd (both_ways false refl there)
one-below h (x ∷ xs) lit all there =
    elim (or_cases (eqb lit x) (is_false xs lit) there) [
      | inl e ↦ (let same : lit ≡ x = eqb-true lit x e in let b = all.0 in omega arith)
      | inr more ↦ one-below h xs lit all.1 more
    ]

pub place-below : (h : ℕ) (lits : List ℕ) (lit : ℕ) → 0 < h → AllByRecursion (λ l. l < h) lits → is_false (0 ∷ lits) lit ≡ true → lit < h
place-below h lits lit some all own =
    elim (or_cases (eqb lit 0) (is_false lits lit) own) [
      | inl e ↦ (let z : lit ≡ 0 = eqb-true lit 0 e in omega arith)
      | inr more ↦ one-below h lits lit all more
    ]

-- ---- what is false where a line's literals alone are

falsified-step : (falses : List ℕ) (x : ℕ) (xs : List ℕ) (b : Bool) → is_false falses x ≡ b → is_falsified falses (x ∷ xs) ≡ (b && is_falsified falses xs)
falsified-step falses x xs true e = ap (λ (b : Bool). elim (cond (not b) (x ∷ left_of falses xs) (left_of falses xs)) as (λ _. Bool) [ [] ↦ true | _ ∷ _ ↦ false ]) e
falsified-step falses x xs false e = ap (λ (b : Bool). elim (cond (not b) (x ∷ left_of falses xs) (left_of falses xs)) as (λ _. Bool) [ [] ↦ true | _ ∷ _ ↦ false ]) e

falsified-subsumes : (lits clause : List ℕ) → is_falsified lits clause ≡ subsumes clause lits
falsified-subsumes lits [] = refl
falsified-subsumes lits (x ∷ xs) = falsified-step lits x xs (is_false lits x) refl ∙ ap (λ (b : Bool). is_false lits x && b) (falsified-subsumes lits xs)

any-falsified : (lits : List ℕ) (clauses : List (List ℕ)) → list_any (is_falsified lits) clauses ≡ is_subsumed clauses lits
any-falsified lits [] = refl
any-falsified lits (c ∷ cs) =
    ap (λ (b : Bool). b || list_any (is_falsified lits) cs) (falsified-subsumes lits c) ∙ ap (λ (b : Bool). subsumes c lits || b) (any-falsified lits cs)

any-at : (p : List ℕ → Bool) (clauses : List (List ℕ)) → list_any p clauses ≡ true → (n : ℕ) × (clause : List ℕ) × (slice_get clauses n ≡ Some clause) × (p clause ≡ true)
any-at p [] e = absurd (both_ways false refl e)
any-at p (c ∷ cs) e =
    elim (or_cases (p c) (list_any p cs) e) [
      | inl here ↦ (0, c, refl, here)
      | inr more ↦ (let (n, clause, at, is) = any-at p cs more in (suc n, clause, at, is))
    ]

own-too : (clause lits : List ℕ) (lit : ℕ) → subsumes clause lits ≡ true → is_false clause lit ≡ true → is_false lits lit ≡ true
own-too [] lits lit all there = absurd (both_ways false refl there)
own-too (x ∷ xs) lits lit all there =
    let parts = and_parts (is_false lits x) (subsumes xs lits) all in
    elim (or_cases (eqb lit x) (is_false xs lit) there) [
      | inl e ↦ ap (is_false lits) (eqb-true lit x e) ∙ parts.0
      | inr more ↦ own-too xs lits lit parts.1 more
    ]

place-too : (clause lits : List ℕ) (lit : ℕ) → subsumes clause lits ≡ true → is_false (0 ∷ clause) lit ≡ true → is_false (0 ∷ lits) lit ≡ true
place-too clause lits lit all own =
    elim (or_cases (eqb lit 0) (is_false clause lit) own) [
      | inl e ↦ or_left _ _ e
      | inr more ↦ or_right (eqb lit 0) _ (own-too clause lits lit all more)
    ]

module _ (falses lits : List ℕ) (same : falses ≡ lits) (clauses : List (List ℕ)) (filed : Filed) where
  pub subsumed-found : (lit : ℕ) → FindsFalse falses clauses filed lit true → true ≡ is_subsumed clauses lits
  subsumed-found lit found = sym (sym (any-falsified lits clauses) ∙ ap (λ (fs : List ℕ). list_any (is_falsified fs) clauses) (sym same) ∙ found)

  pub subsumed-nowhere : (v : ℕ) → IsFiled v filed clauses → ((lit : ℕ) → is_false (0 ∷ lits) lit ≡ true → FindsFalse falses clauses filed lit false) → false ≡ is_subsumed clauses lits
  subsumed-nowhere v f none =
      elim (cases_Bool (is_subsumed clauses lits)) [
        | inr not ↦ sym not
        | inl is ↦ (let (n, clause, at, sub) = any-at (λ c. subsumes c lits) clauses is in
            let place = f.each (suc n) clause at in
            let never = none place.lit (place-too clause lits place.lit sub place.own) (suc n) clause at place.under in
            absurd (both_ways (is_falsified falses clause) never (ap (λ (fs : List ℕ). is_falsified fs clause) same ∙ falsified-subsumes lits clause ∙ sub)))
      ]

-- ---- the literals of a line so far

pub searched-more : (P : ℕ → Type 0) (lits : List ℕ) (i m : ℕ) → m ≡ i + 1 → i < length lits → ((lit : ℕ) → is_false (0 ∷ take i lits) lit ≡ true → P lit) → P (get_or lits i 0) → (lit : ℕ) → is_false (0 ∷ take m lits) lit ≡ true → P lit
searched-more P lits i m next lt so_far here lit own =
    let more : take m lits ≡ take i lits ++ get_or lits i 0 ∷ [] = ap (λ (k : ℕ). take k lits) next ∙ take_more lits i 0 lt in
    elim (or_cases (eqb lit 0) (is_false (take m lits) lit) own) [
      | inl z ↦ so_far lit (or_left _ _ z)
      | inr there ↦ elim (or_cases (is_false (take i lits) lit) (eqb lit (get_or lits i 0) || false) (sym (ap (λ (xs : List ℕ). is_false xs lit) more ∙ false-push (take i lits) (get_or lits i 0) lit) ∙ there)) [
        | inl before ↦ so_far lit (or_right (eqb lit 0) _ before)
        | inr last ↦ elim (or_cases (eqb lit (get_or lits i 0)) false last) [
          | inl e ↦ subst P (sym (eqb-true lit (get_or lits i 0) e)) here
          | inr none ↦ absurd (both_ways false refl none)
        ]
      ]
    ]
