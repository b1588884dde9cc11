-- How long a line that follows can be: each hint but the last makes a literal false of which neither sign was, and no variable stands
-- twice among those that are false.
use Rattle.std.proofs.Common.{◌≡◌, ℕ, zero, suc, ◌+◌, ◌≤◌, Bool, false, not, cond, List, [], ◌∷◌, ◌++◌, length, refl, sym, ap, subst, ◌∙◌, arith, inl, inr, None, Some}
use Rattle.std.proofs.lemmas.Bool.{cases_Bool, or_parts}
use Rattle.std.proofs.lemmas.List.{length_push}
use Rattle.std.proofs.lemmas.Option.{same_Some}
use Rattle.pv_cnf.specs.Literal.{complement, is_outside}
use Rattle.pv_cnf.specs.Clause.{has_outside, has_double, IsClause, AreClauses}
use Rattle.pv_log.specs.declared.line.Line.{Line}
use Rattle.pv_log.specs.Propagation.{is_false, left_of, sole_unset, named, LeadsToFalse}
use Rattle.pv_log.specs.Follows.{Follows}
use Rattle.pv_log.proofs.Literals.{double-push, outside-push, length-le-variables}
use Rattle.pv_log.proofs.FindLaws.{slice_get-all}
use Rattle.pv_log.proofs.LeftLaws.{complement-inside, complement-complement}

pub few-lits : (v : ℕ) (clauses : List (List ℕ)) (line : Line) → Follows v clauses line → length line.lits ≤ v
few-lits v clauses line f = length-le-variables v line.lits f.inside f.distinct

-- a literal of a clause that is left
record IsLeft (v : ℕ) (falses : List ℕ) (lit : ℕ) : Type 0 where
  pub inside : is_outside v lit ≡ false
  pub free : is_false falses lit ≡ false
  pub open_ : is_false falses (complement lit) ≡ false

left-first : (v : ℕ) (falses clause : List ℕ) (lit : ℕ) (rest : List ℕ) → left_of falses clause ≡ lit ∷ rest → has_outside v clause ≡ false
    → (is_outside v lit ≡ false) × (is_false falses lit ≡ false)
left-first v falses [] lit rest e inside = absurd cc
left-first v falses (x ∷ xs) lit rest e inside =
    let parts = or_parts (is_outside v x) (has_outside v xs) inside in
    elim (cases_Bool (is_false falses x)) [
      | inl gone ↦ left-first v falses xs lit rest
          (sym (ap (λ (b : Bool). cond (not b) (x ∷ left_of falses xs) (left_of falses xs)) gone) ∙ e) parts.1
      | inr free ↦ (let here : x ∷ left_of falses xs ≡ lit ∷ rest =
          sym (ap (λ (b : Bool). cond (not b) (x ∷ left_of falses xs) (left_of falses xs)) free) ∙ e in
          let same : x ≡ lit = cc in
          (subst (λ (y : ℕ). is_outside v y ≡ false) same parts.0, subst (λ (y : ℕ). is_false falses y ≡ false) same free))
    ]

sole-left : (v : ℕ) (falses clause left : List ℕ) (lit : ℕ) → left_of falses clause ≡ left → sole_unset falses left ≡ Some lit
    → has_outside v clause ≡ false → IsLeft v falses lit
sole-left v falses clause [] lit e is inside = absurd cc
sole-left v falses clause (x ∷ []) lit e is inside =
    let first = left-first v falses clause x [] e inside in
    elim (cases_Bool (is_false falses (complement x))) [
      | inl there ↦ (let bad = sym (ap (λ (b : Bool). cond b None (Some x)) there) ∙ is in absurd cc)
      | inr absent ↦ (let same : x ≡ lit = same_Some x lit (sym (ap (λ (b : Bool). cond b None (Some x)) absent) ∙ is) in record {
        inside = subst (λ (y : ℕ). is_outside v y ≡ false) same first.0;
        free = subst (λ (y : ℕ). is_false falses y ≡ false) same first.1;
        open_ = subst (λ (y : ℕ). is_false falses (complement y) ≡ false) same absent;
      })
    ]
sole-left v falses clause (x ∷ y ∷ left) lit e is inside = absurd cc

named-clause : (v : ℕ) (clauses : List (List ℕ)) (id : ℕ) (clause : List ℕ) → AreClauses v clauses → named clauses id ≡ Some clause → IsClause v clause
named-clause v clauses zero clause all e = absurd cc
named-clause v clauses (suc n) clause all e = slice_get-all (IsClause v) clauses n clause all e

-- the literals that are false at the beginning, and one more for each hint but the last, are no more than the variables
few-more : (v : ℕ) (clauses : List (List ℕ)) → AreClauses v clauses → (hints falses : List ℕ) → has_outside v falses ≡ false
    → has_double falses ≡ false → LeadsToFalse clauses falses hints → length falses + length hints ≤ v + 1
few-more v clauses all [] falses inside distinct l = absurd l
few-more v clauses all (h ∷ []) falses inside distinct l =
    let few = length-le-variables v falses inside distinct in omega (arith, few)
few-more v clauses all (h ∷ next ∷ hints) falses inside distinct (clause, lit, at, unit, more) =
    let valid = named-clause v clauses h clause all at in
    let left = sole-left v falses clause (left_of falses clause) lit refl unit valid.inside in
    let rest = few-more v clauses all (next ∷ hints) (falses ++ complement lit ∷ [])
    (outside-push v falses (complement lit) inside (complement-inside v lit left.inside))
    (double-push falses (complement lit) distinct left.open_ (ap (is_false falses) (complement-complement lit) ∙ left.free)) more in
    omega (arith, rest, length_push falses (complement lit))

pub few-hints : (v : ℕ) (clauses : List (List ℕ)) (line : Line) → AreClauses v clauses → Follows v clauses line → length line.hints ≤ v + 1
few-hints v clauses line all f =
    let few = few-more v clauses all line.hints line.lits f.inside f.distinct f.refutes in omega (arith, few)
