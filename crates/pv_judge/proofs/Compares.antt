-- Comparisons of two numbers that are one more.
use Rattle.std.proofs.Common.{◌≡◌, ℕ, suc, eqb, ap, sym, ◌∙◌, inl, inr, arith}
use Rattle.std.specs.Prelude.{nat_lt}
use Rattle.std.proofs.lemmas.Bool.{cases_lt, cases_eq, lt-ltb, le-ltb, eq-eqb, ne_eqb}

pub lt-suc : (m n : ℕ) → nat_lt (suc m) (suc n) ≡ nat_lt m n
lt-suc m n = elim (cases_lt m n) [
  | inl lt ↦ lt-ltb (suc m) (suc n) (omega (arith, lt)) ∙ sym (lt-ltb m n lt)
  | inr ge ↦ le-ltb (suc m) (suc n) (omega (arith, ge)) ∙ sym (le-ltb m n ge)
]

pub eq-suc : (m n : ℕ) → eqb (suc m) (suc n) ≡ eqb m n
eq-suc m n = elim (cases_eq m n) [
  | inl is ↦ eq-eqb (suc m) (suc n) (ap suc is) ∙ sym (eq-eqb m n is)
  | inr differ ↦ ne_eqb (suc m) (suc n) (λ e. differ (omega (arith, e))) ∙ sym (ne_eqb m n differ)
]
