-- What follows is true wherever the clauses before it are.
use Rattle.std.proofs.Common.{◌≡◌, ℕ, zero, suc, ◌/◌, ◌%◌, ◌||◌, Bool, true, false, not, cond, eqb, List, [], ◌∷◌, ◌++◌, length, refl, sym, ap, subst, ◌∙◌, arith, Some, None, inl, inr}
use Rattle.std.specs.List.{list_all, AllByRecursion}
use Rattle.std.proofs.lemmas.Bool.{eqb-true, eq-eqb, ne_eqb, cases_eq, cases_Bool, and_parts, and_from, or_parts, or_left, or_right, or_cases, both_ways}
use Rattle.std.proofs.lemmas.List.{nil_from_length}
use Rattle.std.proofs.lemmas.List.Folds.{list_any-append}
use Rattle.pv_cnf.specs.Literal.{complement, literal_value}
use Rattle.pv_cnf.specs.Clause.{clause_value}
use Rattle.pv_log.specs.declared.line.Line.{Line}
use Rattle.pv_log.specs.Propagation.{is_false, left_of, sole_unset, named, LeadsToFalse}
use Rattle.pv_log.specs.Follows.{Follows, EachFollows, ends_empty}
use Rattle.pv_log.proofs.FindLaws.{slice_get-all}

negated-complement : (lit : ℕ) → eqb (complement lit % 2) 1 ≡ not (eqb (lit % 2) 1)
negated-complement lit =
    elim (cases_eq (lit % 2) 1) [
      | inl e ↦ ne_eqb (complement lit % 2) 1 (λ h. omega arith) ∙ sym (ap not (eq-eqb (lit % 2) 1 e))
      | inr ne ↦ eq-eqb (complement lit % 2) 1 (omega arith) ∙ sym (ap not (ne_eqb (lit % 2) 1 ne))
    ]

cond-not : (b x : Bool) → cond (not b) (not x) x ≡ not (cond b (not x) x)
cond-not true true = refl
cond-not true false = refl
cond-not false true = refl
cond-not false false = refl

value-complement : (values : ℕ → Bool) (lit : ℕ) → literal_value values (complement lit) ≡ not (literal_value values lit)
value-complement values lit =
    let same : complement lit / 2 ≡ lit / 2 = omega arith in
    ap (λ (w : ℕ). cond (eqb (complement lit % 2) 1) (not (values w)) (values w)) same
    ∙ ap (λ (b : Bool). cond b (not (values (lit / 2))) (values (lit / 2))) (negated-complement lit)
    ∙ cond-not (eqb (lit % 2) 1) (values (lit / 2))

-- under these values each of the literals is false
pub record AreFalse (values : ℕ → Bool) (falses : List ℕ) : Type 0 where
  pub at : (lit : ℕ) → is_false falses lit ≡ true → literal_value values lit ≡ false

module _ (values : ℕ → Bool) where
  -- a literal of a clause that is true is true and not false
  true-left : (falses clause : List ℕ) → AreFalse values falses → clause_value values clause ≡ true → clause_value values (left_of falses clause) ≡ true
  true-left falses [] f h = h
  true-left falses (x ∷ xs) f h =
      elim (cases_Bool (is_false falses x)) [
        | inl there ↦ (let rest : clause_value values xs ≡ true = elim (or_cases (literal_value values x) (clause_value values xs) h) [
          | inl t ↦ absurd (both_ways (literal_value values x) (f.at x there) t)
          | inr t ↦ t
        ] in
            ap (λ (b : Bool). clause_value values (cond (not b) (x ∷ left_of falses xs) (left_of falses xs))) there ∙ true-left falses xs f rest)
        | inr absent ↦ ap (λ (b : Bool). clause_value values (cond (not b) (x ∷ left_of falses xs) (left_of falses xs))) absent
            ∙ elim (or_cases (literal_value values x) (clause_value values xs) h) [
              | inl t ↦ or_left (literal_value values x) (clause_value values (left_of falses xs)) t
              | inr t ↦ or_right (literal_value values x) (clause_value values (left_of falses xs)) (true-left falses xs f t)
            ]
      ]

  nil-false : (xs : List ℕ) → (elim xs as (λ _. Bool) [ [] ↦ true | _ ∷ _ ↦ false ]) ≡ true → clause_value values xs ≡ false
  nil-false [] e = refl
  nil-false (x ∷ xs) e = absurd cc

  cond-some : (b : Bool) (x y : ℕ) → cond b None (Some x) ≡ Some y → x ≡ y
  cond-some true x y e = absurd cc
  cond-some false x y e = cc

  sole-true : (falses xs : List ℕ) (lit : ℕ) → sole_unset falses xs ≡ Some lit → clause_value values xs ≡ true → literal_value values lit ≡ true
  sole-true falses [] lit e h = absurd cc
  sole-true falses (x ∷ []) lit e h =
      let same = cond-some (is_false falses (complement x)) x lit e in
      subst (λ (y : ℕ). literal_value values y ≡ true) same (elim (or_cases (literal_value values x) false h) [ inl t ↦ t | inr t ↦ absurd (both_ways false refl t) ])
  sole-true falses (x ∷ y ∷ xs) lit e h = absurd cc

  false-after : (falses : List ℕ) (lit : ℕ) → AreFalse values falses → literal_value values lit ≡ true → AreFalse values (falses ++ complement lit ∷ [])
  false-after falses lit f t = record {
    at = λ l there. elim (or_cases (is_false falses l) (eqb l (complement lit) || false) (sym (list_any-append (eqb l) falses (complement lit ∷ [])) ∙ there)) [
      | inl before ↦ f.at l before
      | inr here ↦ elim (or_cases (eqb l (complement lit)) false here) [
        | inl e ↦ (let same = eqb-true l (complement lit) e in ap (literal_value values) same ∙ value-complement values lit ∙ ap not t)
        | inr none ↦ absurd (both_ways false refl none)
      ]
    ];
  }

  all-true : (clauses : List (List ℕ)) → list_all (clause_value values) clauses ≡ true → AllByRecursion (λ (c : List ℕ). clause_value values c ≡ true) clauses
  all-true [] h = tt
  all-true (c ∷ cs) h = (let parts = and_parts (clause_value values c) (list_all (clause_value values) cs) h in (parts.0, all-true cs parts.1))

  named-true : (clauses : List (List ℕ)) (h : ℕ) (clause : List ℕ) → list_all (clause_value values) clauses ≡ true → named clauses h ≡ Some clause → clause_value values clause ≡ true
  named-true clauses zero clause all e = absurd cc
  named-true clauses (suc n) clause all e = slice_get-all (λ (c : List ℕ). clause_value values c ≡ true) clauses n clause (all-true clauses all) e

  -- no hints lead from false literals to a false clause where the clauses are true
  pub no-false : (clauses : List (List ℕ)) (hints falses : List ℕ) → list_all (clause_value values) clauses ≡ true → AreFalse values falses → LeadsToFalse clauses falses hints → ⊥
  no-false clauses [] falses all f l = l
  no-false clauses (h ∷ []) falses all f (clause, at, is) =
      both_ways (clause_value values (left_of falses clause)) (nil-false (left_of falses clause) is) (true-left falses clause f (named-true clauses h clause all at))
  no-false clauses (h ∷ next ∷ hints) falses all f (clause, lit, at, is, more) =
      let t = sole-true falses (left_of falses clause) lit is (true-left falses clause f (named-true clauses h clause all at)) in
      no-false clauses (next ∷ hints) (falses ++ complement lit ∷ []) all (false-after falses lit f t) more

  false-lits : (lits : List ℕ) → clause_value values lits ≡ false → AreFalse values lits
  false-lits [] h = record { at = λ l there. absurd (both_ways false refl there) }
  false-lits (x ∷ xs) h =
      let parts = or_parts (literal_value values x) (clause_value values xs) h in
      record {
        at = λ l there. elim (or_cases (eqb l x) (is_false xs l) there) [
          | inl e ↦ (let same = eqb-true l x e in ap (literal_value values) same ∙ parts.0)
          | inr more ↦ (false-lits xs parts.1).at l more
        ];
      }

  pub line-true : (v : ℕ) (clauses : List (List ℕ)) (line : Line) → Follows v clauses line → list_all (clause_value values) clauses ≡ true → clause_value values line.lits ≡ true
  line-true v clauses line f all =
      elim (cases_Bool (clause_value values line.lits)) [
        | inl t ↦ t
        | inr none ↦ absurd (no-false clauses line.hints line.lits all (false-lits line.lits none) f.refutes)
      ]

  all-append : (clauses : List (List ℕ)) (c : List ℕ) → list_all (clause_value values) clauses ≡ true → clause_value values c ≡ true → list_all (clause_value values) (clauses ++ c ∷ []) ≡ true
  all-append [] c all t = and_from (clause_value values c) true t refl
  all-append (x ∷ xs) c all t =
      let parts = and_parts (clause_value values x) (list_all (clause_value values) xs) all in
      and_from (clause_value values x) (list_all (clause_value values) (xs ++ c ∷ [])) parts.0 (all-append xs c parts.1 t)

  pub accepted-refutes : (v : ℕ) (clauses : List (List ℕ)) (lines : List Line) → EachFollows (Follows v) clauses lines → ends_empty lines ≡ true → list_all (clause_value values) clauses ≡ true → ⊥
  accepted-refutes v clauses [] e ends all = both_ways false refl ends
  accepted-refutes v clauses (line ∷ []) e ends all =
      let nil : line.lits ≡ [] = nil_from_length line.lits (eqb-true (length line.lits) 0 ends) in
      both_ways (clause_value values line.lits) (ap (clause_value values) nil) (line-true v clauses line e.0 all)
  accepted-refutes v clauses (line ∷ next ∷ lines) e ends all =
      accepted-refutes v (clauses ++ line.lits ∷ []) (next ∷ lines) e.1 ends (all-append clauses line.lits all (line-true v clauses line e.0 all))
