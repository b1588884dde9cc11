-- A lemma's literals that become false from left to right.
use Rattle.std.proofs.Common.{◌≡◌, ℕ, ◌+◌, ◌/◌, ◌<◌, ◌≤◌, true, false, eqb, ltb, List, [], ◌∷◌, ◌++◌, length, get_or, take, drop, sym, ap, subst, ◌∙◌}
use Rattle.std.proofs.lemmas.Bool.{or_from, ne_eqb, le-ltb}
use Rattle.std.proofs.lemmas.List.{take-append-drop, drop_more}
use Rattle.pv_cnf.specs.Literal.{complement, is_outside}
use Rattle.pv_cnf.specs.Clause.{has_double}
use Rattle.pv_log.specs.Propagation.{is_false}
use Rattle.pv_log.proofs.Literals.{double-again, double-complement, double-push}

pub not-outside : (v lit : ℕ) → (lit / 2 ≡ 0 → ⊥) → lit / 2 ≤ v → is_outside v lit ≡ false
not-outside v lit ne le = or_from (eqb (lit / 2) 0) (ltb v (lit / 2)) (ne_eqb (lit / 2) 0 ne) (le-ltb v (lit / 2) le)

parts-at : (lits : List ℕ) (i : ℕ) → i < length lits → take i lits ++ get_or lits i 0 ∷ drop (i + 1) lits ≡ lits
parts-at lits i lt = ap (λ (xs : List ℕ). take i lits ++ xs) (sym (drop_more lits i 0 lt)) ∙ take-append-drop i lits

pub doubled : (lits : List ℕ) (i : ℕ) (falses : List ℕ) → i < length lits → falses ≡ take i lits → is_false falses (get_or lits i 0) ≡ true → has_double lits ≡ true
doubled lits i falses lt is there =
    ap has_double (sym (parts-at lits i lt)) ∙ double-again (take i lits) (get_or lits i 0) (drop (i + 1) lits) (subst (λ (xs : List ℕ). is_false xs (get_or lits i 0) ≡ true) is there)

pub doubled_complement : (lits : List ℕ) (i : ℕ) (falses : List ℕ) (other : ℕ) → i < length lits → falses ≡ take i lits → other ≡ complement (get_or lits i 0) → is_false falses other ≡ true → has_double lits ≡ true
doubled_complement lits i falses other lt is flip there =
    ap has_double (sym (parts-at lits i lt)) ∙ double-complement (take i lits) (get_or lits i 0) (drop (i + 1) lits) (subst (λ (xs : List ℕ). is_false xs (complement (get_or lits i 0)) ≡ true) is (subst (λ (y : ℕ). is_false falses y ≡ true) flip there))

pub undoubled : (lits : List ℕ) (i : ℕ) (falses : List ℕ) (other : ℕ) → falses ≡ take i lits → has_double (take i lits) ≡ false → other ≡ complement (get_or lits i 0) → is_false falses (get_or lits i 0) ≡ false → is_false falses other ≡ false → has_double (take i lits ++ get_or lits i 0 ∷ []) ≡ false
undoubled lits i falses other is d flip absent opposite =
    double-push (take i lits) (get_or lits i 0) d
    (subst (λ (xs : List ℕ). is_false xs (get_or lits i 0) ≡ false) is absent)
    (subst (λ (xs : List ℕ). is_false xs (complement (get_or lits i 0)) ≡ false) is (subst (λ (y : ℕ). is_false falses y ≡ false) flip opposite))
