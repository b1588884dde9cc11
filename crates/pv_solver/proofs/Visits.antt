-- Variables without a value, and the values of all.
use Rattle.std.proofs.Common.{◌≡◌, ℕ, zero, suc, ◌+◌, ◌*◌, ◌/◌, ◌%◌, ◌<◌, inl, inr, eqb, ltb, Bool, false, List, [], ◌∷◌, ◌++◌, length, get_or, refl, subst, ◌∙◌, arith}
use Rattle.std.proofs.lemmas.Bool.{cases_eq, cases_lt, ne_eqb, le-ltb, or_from}
use Rattle.std.proofs.lemmas.List.{length_push, get_or_append_left, get_or_push}
use Rattle.pv_cnf.specs.Literal.{complement, is_outside}
use Rattle.pv_log.specs.Propagation.{is_false}
use Rattle.pv_solver.specs.Logged.{values_to}
use Rattle.pv_solver.specs.Search.{IsFree}

-- a literal that can be made false
pub record Unset (variables : ℕ) (falses : List ℕ) (lit : ℕ) : Type 0 where
  pub inside : is_outside variables lit ≡ false
  pub not_false : is_false falses lit ≡ false
  pub not_true : is_false falses (complement lit) ≡ false

-- a literal of a variable without a value has none
pub free-unset : (v : ℕ) (falses : List ℕ) (lit : ℕ) → IsFree v falses (lit / 2) → Unset v falses lit
free-unset v falses lit f =
    let ne : lit / 2 ≡ 0 → ⊥ = λ e. omega (arith, f.from_one) in
    let inside : is_outside v lit ≡ false = or_from (eqb (lit / 2) 0) (ltb v (lit / 2))
    (ne_eqb (lit / 2) 0 ne) (le-ltb v (lit / 2) f.to_last) in
    elim (cases_eq (lit % 2) 1) [
      | inl odd ↦ (let is : 2 * (lit / 2) + 1 ≡ lit = omega arith in let other : 2 * (lit / 2) ≡ complement lit = omega arith in record {
        inside = inside;
        not_false = subst (λ (l : ℕ). is_false falses l ≡ false) is f.not_true;
        not_true = subst (λ (l : ℕ). is_false falses l ≡ false) other f.not_false;
      })
      | inr even ↦ (let is : 2 * (lit / 2) ≡ lit = omega arith in let other : 2 * (lit / 2) + 1 ≡ complement lit = omega arith in record {
        inside = inside;
        not_false = subst (λ (l : ℕ). is_false falses l ≡ false) is f.not_false;
        not_true = subst (λ (l : ℕ). is_false falses l ≡ false) other f.not_true;
      })
    ]

-- one more value
values-push : (items : List Bool) (falses : List ℕ) (n : ℕ) (b : Bool) → length items ≡ n
    → ((x : ℕ) → x < n → get_or items x false ≡ is_false falses (2 * x + 1)) → b ≡ is_false falses (2 * n + 1) → (x : ℕ) → x < n + 1
    → get_or (items ++ b ∷ []) x false ≡ is_false falses (2 * x + 1)
values-push items falses n b size each here x lt =
    elim (cases_lt x n) [
      | inl below ↦ get_or_append_left items (b ∷ []) false x (omega arith) ∙ each x below
      | inr from ↦ (let e : n ≡ x = omega arith in
          subst (λ (k : ℕ). get_or (items ++ b ∷ []) k false ≡ is_false falses (2 * k + 1)) e (get_or_push items b false n size ∙ here))
    ]

pub values-size : (falses : List ℕ) (n : ℕ) → length (values_to falses n) ≡ n
values-size falses zero = refl
values-size falses (suc n) = omega (arith, length_push (values_to falses n) (is_false falses (2 * n + 1)), values-size falses n)

pub values-at : (falses : List ℕ) (n x : ℕ) → x < n → get_or (values_to falses n) x false ≡ is_false falses (2 * x + 1)
values-at falses zero x lt = absurd (omega arith)
values-at falses (suc n) x lt =
    values-push (values_to falses n) falses n (is_false falses (2 * n + 1)) (values-size falses n) (values-at falses n) refl x (omega (arith, lt))
