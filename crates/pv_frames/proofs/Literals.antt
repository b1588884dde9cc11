-- Literals of a formula: complements, and their values.
use Rattle.std.proofs.Common.{◌≡◌, ℕ, ◌/◌, ◌%◌, Bool, true, false, not, cond, eqb, ◌||◌, refl, sym, ◌∙◌, ap, arith, inl, inr, nat_lt}
use Rattle.std.proofs.lemmas.Bool.{cases_eq, eq-eqb, ne_eqb, eqb-false}
use Rattle.pv_cnf.specs.Literal.{variable_of, complement, literal_value, is_outside}

pub variable-complement : (lit : ℕ) → variable_of (complement lit) ≡ variable_of lit
variable-complement lit = omega arith

pub outside-complement : (n lit : ℕ) → is_outside n (complement lit) ≡ is_outside n lit
outside-complement n lit = ap (λ (v : ℕ). eqb v 0 || nat_lt n v) (variable-complement lit)

pub value-negated : (values : ℕ → Bool) (lit v : ℕ) → lit / 2 ≡ v → lit % 2 ≡ 1 → literal_value values lit ≡ not (values v)
value-negated values lit v e h =
    ap (λ (t : Bool). cond t (not (values (lit / 2))) (values (lit / 2))) (eq-eqb (lit % 2) 1 h) ∙ ap (λ (n : ℕ). not (values n)) e

pub value-plain : (values : ℕ → Bool) (lit v : ℕ) → lit / 2 ≡ v → lit % 2 ≡ 0 → literal_value values lit ≡ values v
value-plain values lit v e h =
    ap (λ (t : Bool). cond t (not (values (lit / 2))) (values (lit / 2))) (ne_eqb (lit % 2) 1 (λ one. omega arith)) ∙ ap values e

not_not : (b : Bool) → b ≡ not (not b)
not_not true = refl
not_not false = refl

pub value-complement : (values : ℕ → Bool) (lit : ℕ) → literal_value values (complement lit) ≡ not (literal_value values lit)
value-complement values lit = elim (cases_eq (lit % 2) 1) [
  | inl odd ↦
      value-plain values (complement lit) (lit / 2) (variable-complement lit) (omega arith)
      ∙ (not_not (values (lit / 2)) ∙ sym (ap not (value-negated values lit (lit / 2) refl odd)))
  | inr even ↦
      value-negated values (complement lit) (lit / 2) (variable-complement lit) (omega arith)
      ∙ sym (ap not (value-plain values lit (lit / 2) refl (omega arith)))
]

-- a literal of the same variable is the literal or its complement
pub apart : (lit other : ℕ) → eqb other lit ≡ false → eqb other (complement lit) ≡ false → eqb (variable_of lit) (variable_of other) ≡ false
apart lit other same opposite = ne_eqb (lit / 2) (other / 2) (λ e.
    let ne : other ≡ lit → ⊥ = eqb-false other lit same in
    let opp : other ≡ complement lit → ⊥ = eqb-false other (complement lit) opposite in
    elim (cases_eq (other % 2) (lit % 2)) [ inl p ↦ ne (omega arith) | inr p ↦ opp (omega arith) ])
