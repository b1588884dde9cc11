-- What follows where propagation has ended without a false clause.
-- `Within` carries it: whatever hints make false from fewer literals is false at the end already.
use Rattle.std.proofs.Common.{◌≡◌, ℕ, zero, suc, ◌+◌, ◌*◌, ◌/◌, ◌%◌, ◌≤◌, ◌⊎◌, Bool, true, false, not, cond, ◌||◌, eqb, List, [], ◌∷◌, ◌++◌, refl, sym, ap, subst, ◌∙◌, inl, inr, Some, arith}
use Rattle.std.specs.List.{list_all}
use Rattle.std.proofs.lemmas.Bool.{eqb-true, eq-eqb, ne_eqb, cases_eq, cases_Bool, both_ways, and_parts, and_from, or_parts, or_from, or_cases, or_left, or_right}
use Rattle.pv_cnf.specs.Literal.{complement, variable_of, literal_value, is_outside}
use Rattle.pv_cnf.specs.Clause.{has_double, has_variable, clause_value, IsClause, AreClauses}
use Rattle.pv_log.specs.Propagation.{is_false, left_of, unit_of, named, LeadsToFalse}
use Rattle.pv_log.proofs.ForCallers.{slice_get-all, inside-bounds}
use Rattle.pv_watch.specs.Quiet.{IsQuiet, AreQuiet}
use Rattle.pv_solver.specs.Quiet.{NoneFalse}
use Rattle.pv_log.specs.Newness.{subsumes, is_subsumed}
use Rattle.pv_solver.specs.Search.{AllSet}
use Rattle.pv_watch.proofs.ForCallers.{Within, false-append, left-in, left-out, left-within, falsified-nil, unit-is, quiet-one, quiet-not-nil, first-of}

pub named-quiet : (F : List ℕ) (clauses : List (List ℕ)) (h : ℕ) (clause : List ℕ) → AreQuiet F clauses
    → named clauses h ≡ Some clause → IsQuiet F clause
named-quiet F clauses zero clause q e = absurd cc
named-quiet F clauses (suc n) clause q e = slice_get-all (IsQuiet F) clauses n clause q e

-- ---- no hints lead to a false clause

within-push : (A F : List ℕ) (x : ℕ) → Within A F → is_false F x ≡ true → Within (A ++ x ∷ []) F
within-push A F x w there = record {
  at = λ lit e. elim (or_cases (is_false A lit) (eqb lit x || false) (sym (false-append A (x ∷ []) lit) ∙ e)) [
    | inl before ↦ w.at lit before
    | inr here ↦ elim (or_cases (eqb lit x) false here) [
      | inl same ↦ subst (λ (y : ℕ). is_false F y ≡ true) (sym (eqb-true lit x same)) there
      | inr none ↦ absurd (both_ways false refl none)
    ]
  ];
}

pub none-leads : (F : List ℕ) (clauses : List (List ℕ)) → AreQuiet F clauses → (hints A : List ℕ)
    → Within A F → LeadsToFalse clauses A hints → ⊥
none-leads F clauses q [] A w l = l
none-leads F clauses q (h ∷ []) A w (clause, at, is) =
    quiet-not-nil F clause (named-quiet F clauses h clause q at) (left-within A F clause w ∙ ap (left_of F) (falsified-nil A clause is))
none-leads F clauses q (h ∷ next ∷ hints) A w (clause, lit, at, is, more) =
    let here = named-quiet F clauses h clause q at in
    let u = unit-is A clause lit is in
    let left : left_of F clause ≡ left_of F (lit ∷ []) = left-within A F clause w ∙ ap (left_of F) u.0 in
    elim (cases_Bool (is_false F lit)) [
      | inl there ↦ absurd (quiet-not-nil F clause here (left ∙ left-in F lit [] there))
      | inr absent ↦ none-leads F clauses q (next ∷ hints) (A ++ complement lit ∷ [])
          (within-push A F (complement lit) w (quiet-one F clause lit here (left ∙ left-out F lit [] absent))) more
    ]

pub none-false : (F : List ℕ) (clauses : List (List ℕ)) → AreQuiet F clauses → NoneFalse clauses
none-false F clauses q hints l = none-leads F clauses q hints [] (record { at = λ lit e. absurd (both_ways false refl e) }) l

-- ---- a clause that is unit there is new

left-has : (F C : List ℕ) (x : ℕ) → is_false C x ≡ true → is_false F x ≡ false → is_false (left_of F C) x ≡ true
left-has F [] x e absent = absurd (both_ways false refl e)
left-has F (y ∷ ys) x e absent =
    elim (cases_Bool (is_false F y)) [
      | inl there ↦ ap (λ (xs : List ℕ). is_false xs x) (left-in F y ys there) ∙ (elim (or_cases (eqb x y) (is_false ys x) e) [
        | inl same ↦ absurd (both_ways (is_false F y) (subst (λ (z : ℕ). is_false F z ≡ false) (eqb-true x y same) absent) there)
        | inr more ↦ left-has F ys x more absent
      ])
      | inr out ↦ ap (λ (xs : List ℕ). is_false xs x) (left-out F y ys out) ∙ (elim (or_cases (eqb x y) (is_false ys x) e) [
        | inl same ↦ or_left (eqb x y) (is_false (left_of F ys) x) same
        | inr more ↦ or_right (eqb x y) (is_false (left_of F ys) x) (left-has F ys x more absent)
      ])
    ]

sole-member : (u x : ℕ) → is_false (u ∷ []) x ≡ true → x ≡ u
sole-member u x e = elim (or_cases (eqb x u) false e) [ inl same ↦ eqb-true x u same | inr none ↦ absurd (both_ways false refl none) ]

-- of a clause among the literals only `u` is left, and at most once
only : (F C D : List ℕ) (u : ℕ) → left_of F C ≡ u ∷ [] → subsumes D C ≡ true → has_double D ≡ false
    → (left_of F D ≡ []) ⊎ (left_of F D ≡ u ∷ [])
only F C [] u left sub d = inl refl
only F C (x ∷ xs) u left sub d =
    let parts = and_parts (is_false C x) (subsumes xs C) sub in
    let apart = or_parts (has_variable (variable_of x) xs) (has_double xs) d in
    let rest = only F C xs u left parts.1 apart.1 in
    elim (cases_Bool (is_false F x)) [
      | inl there ↦ elim rest [ inl e ↦ inl (left-in F x xs there ∙ e) | inr e ↦ inr (left-in F x xs there ∙ e) ]
      | inr absent ↦ (let same : x ≡ u = sole-member u x (sym (ap (λ (ys : List ℕ). is_false ys x) left) ∙ left-has F C x parts.0 absent) in
          elim rest [
            | inl e ↦ inr (left-out F x xs absent ∙ ap (λ (ys : List ℕ). x ∷ ys) e ∙ ap (λ (y : ℕ). y ∷ []) same)
            | inr e ↦ absurd (both_ways (has_variable (variable_of x) xs) apart.0 (subst (λ (y : ℕ). has_variable (variable_of y) xs ≡ true)
                (sym same) (first-of 0 F xs u [] e).variable))
          ])
    ]

apart-one : (F C D : List ℕ) (u : ℕ) → IsQuiet F D → has_double D ≡ false → left_of F C ≡ u ∷ []
    → is_false F (complement u) ≡ false → subsumes D C ≡ false
apart-one F C D u q d left absent =
    elim (cases_Bool (subsumes D C)) [
      | inr isnt ↦ isnt
      | inl sub ↦ elim (only F C D u left sub d) [
        | inl e ↦ absurd (quiet-not-nil F D q e)
        | inr e ↦ absurd (both_ways (is_false F (complement u)) absent (quiet-one F D u q e))
      ]
    ]

pub fresh : (F C : List ℕ) (u v : ℕ) (clauses : List (List ℕ)) → AreQuiet F clauses → AreClauses v clauses
    → unit_of F C ≡ Some u → is_subsumed clauses C ≡ false
fresh F C u v [] q a e = refl
fresh F C u v (D ∷ clauses) q a e =
    let one = unit-is F C u e in
    or_from (subsumes D C) (is_subsumed clauses C) (apart-one F C D u q.0 a.0.distinct one.0 one.1) (fresh F C u v clauses q.1 a.1 e)

-- ---- where each variable has a value the clauses hold

-- a literal that isn't false is true
lit-true : (v : ℕ) (F : List ℕ) (truth : ℕ → Bool) (lit : ℕ) → AllSet v F → is_outside v lit ≡ false → is_false F lit ≡ false
    → ((x : ℕ) → x ≤ v → truth x ≡ is_false F (2 * x + 1)) → literal_value truth lit ≡ true
lit-true v F truth lit set inside absent t =
    let b = inside-bounds v lit inside in
    let x = lit / 2 in
    elim (cases_eq (lit % 2) 1) [
      | inl odd ↦ (let is : 2 * (lit / 2) + 1 ≡ lit = omega arith in
          ap (λ (c : Bool). cond c (not (truth (lit / 2))) (truth (lit / 2))) (eq-eqb (lit % 2) 1 odd)
          ∙ ap not (t (lit / 2) b.1 ∙ ap (is_false F) is ∙ absent))
      | inr even ↦ (let is : 2 * (lit / 2) ≡ lit = omega arith in
          ap (λ (c : Bool). cond c (not (truth (lit / 2))) (truth (lit / 2))) (ne_eqb (lit % 2) 1 even)
          ∙ t (lit / 2) b.1 ∙ (elim (cases_Bool (is_false F (2 * (lit / 2) + 1))) [
            | inl there ↦ there
            | inr free ↦ absurd (set (lit / 2) (record {
              from_one = b.0;
              to_last = b.1;
              not_false =
                  ap (is_false F) is ∙ absent;
              not_true = free;
            }))
          ]))
    ]

shape : (xs : List ℕ) → (xs ≡ []) ⊎ ((x : ℕ) × (ys : List ℕ) × (xs ≡ x ∷ ys))
shape [] = inl refl
shape (x ∷ ys) = inr (x, ys, refl)

pub clause-true : (v : ℕ) (F : List ℕ) (truth : ℕ → Bool) (clause : List ℕ) → AllSet v F → IsQuiet F clause → IsClause v clause
    → ((x : ℕ) → x ≤ v → truth x ≡ is_false F (2 * x + 1)) → clause_value truth clause ≡ true
clause-true v F truth clause set q c t =
    elim (shape (left_of F clause)) [
      | inl e ↦ absurd (quiet-not-nil F clause q e)
      | inr (lit, rest, e) ↦ (let f = first-of v F clause lit rest e in
          f.any (literal_value truth) (lit-true v F truth lit set (f.inside c.inside) f.not_false t))
    ]

pub all-true : (v : ℕ) (F : List ℕ) (truth : ℕ → Bool) (clauses : List (List ℕ)) → AllSet v F → AreQuiet F clauses → AreClauses v clauses
    → ((x : ℕ) → x ≤ v → truth x ≡ is_false F (2 * x + 1)) → list_all (clause_value truth) clauses ≡ true
all-true v F truth [] set q c t = refl
all-true v F truth (x ∷ xs) set q c t =
    and_from (clause_value truth x) (list_all (clause_value truth) xs) (clause-true v F truth x set q.0 c.0 t)
    (all-true v F truth xs set q.1 c.1 t)

pub all-front : (truth : ℕ → Bool) (xs ys : List (List ℕ)) → list_all (clause_value truth) (xs ++ ys) ≡ true
    → list_all (clause_value truth) xs ≡ true
all-front truth [] ys h = refl
all-front truth (x ∷ xs) ys h =
    let parts = and_parts (clause_value truth x) (list_all (clause_value truth) (xs ++ ys)) h in
    and_from (clause_value truth x) (list_all (clause_value truth) xs) parts.0 (all-front truth xs ys parts.1)
