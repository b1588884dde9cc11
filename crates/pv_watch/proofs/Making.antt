-- A propagator without clauses keeps what it has to.
use Rattle.std.proofs.Common.{◌≡◌, ◌↔◌, Result, Err, ℕ, zero, suc, ◌+◌, ◌-◌, ◌*◌, ◌/◌, ◌≤◌, List, [], length, get_or, replicate, refl, sym, ap, subst, ◌∙◌, arith, Contains}
use Rattle.std.specs.List.{AllByRecursion}
use Rattle.std.proofs.lemmas.List.{length-replicate}
use Rattle.pv_cnf.specs.Clause.{has_double, AreClauses}
use Rattle.pv_region.specs.declared.watch.Watch.{Watch}
use Rattle.pv_region.specs.Stored.{Stored, used_of, all_lits, list_of}
use Rattle.pv_watch.specs.Trail.{Path}
use Rattle.pv_watch.specs.Watched.{IsSlotOf, Keeps}
use Rattle.pv_watch.proofs.Moving.{named-within}
use Rattle.pv_watch.proofs.Stepping.{named-from-one}

abbrev pub empty : ℕ → ℕ → Stored
empty variables words = record { variables = variables; capacity = words; clauses = []; lemmas = []; lists = replicate (2 * variables) [] }

no-list : (n k : ℕ) (none : List Watch) → get_or (replicate n none) k none ≡ none
no-list zero k none = refl
no-list (suc n) zero none = refl
no-list (suc n) (suc k) none = no-list n k none

no-entry : (w : Watch) → Contains [] w → ⊥
no-entry w (k, lt, e) = omega (arith, lt)

module _ (s : Stored) (words variables : ℕ) (is : s ≡ empty variables words) where
  no-slot : (w : Watch) (clause : List ℕ) → IsSlotOf s w clause → ⊥
  no-slot w clause o =
      let within = named-within (all_lits s) w.id clause o.at in
      let from_one = named-from-one (all_lits s) w.id clause o.at in
      let none : length (all_lits s) ≡ 0 = ap (λ (u : Stored). length (all_lits u)) is in
      omega (arith, within, from_one, none)

  no-watch : (lit : ℕ) (w : Watch) → Contains (list_of s lit) w → ⊥
  no-watch lit w c =
      no-entry w (subst (λ (ws : List Watch). Contains ws w) (ap (λ (u : Stored). list_of u lit) is ∙ no-list (2 * variables) (lit - 2) []) c)

  pub keeps-made : (path : Path) (slots : List ℕ) → path.variables ≡ variables → path.falses ≡ [] → path.starts ≡ [] → length slots ≡ 2 * (words / 3) + 2 → words ≤ 250000000
      → used_of s ≤ s.capacity → Keeps s path slots 0
  keeps-made path slots same early undecided size small fits = record {
    variables = ap (λ (u : Stored). u.variables) is ∙ sym same;
    small = let capacity : s.capacity ≡ words = ap (λ (u : Stored). u.capacity) is in omega (arith, capacity, small);
    lists =
        ap (λ (u : Stored). length u.lists) is ∙ length-replicate (2 * variables) [] ∙ ap (λ (n : ℕ). 2 * n) (sym (ap (λ (u : Stored). u.variables) is));
    valid = subst (λ (u : Stored). AreClauses u.variables (all_lits u)) (sym is) tt;
    distinct = ap has_double early;
    fits = fits;
    room = size ∙ ap (λ (n : ℕ). 2 * (n / 3) + 2) (sym (ap (λ (u : Stored). u.capacity) is));
    watched = record {
      each = λ w clause o. absurd (no-slot w clause o);
      only = λ lit w two c. absurd (no-watch lit w c);
    };
    guarded = λ w clause o. absurd (no-slot w clause o);
    turns = subst (AllByRecursion (λ (start : ℕ). start ≤ 0)) (sym undecided) tt;
    within = omega arith;
  }

err-one : {A E : Type 0} (e f : E) → ◌≡◌ {A = Result A E} (Err e) (Err f) → e ≡ f
err-one e f p = cc

-- a refusal that is handed on
pub full-as : {A B E : Type 0} (e f : E) (P : Type 0) → (◌≡◌ {A = Result A E} (Err e) (Err f) ↔ P) → (◌≡◌ {A = Result B E} (Err e) (Err f) ↔ P)
full-as {A = A} {B = B} {E = E} e f P h =
    (λ p. h.0 (ap (λ (x : E). Err x) (err-one e f p)), λ p. ap (λ (x : E). Err x) (err-one e f (h.1 p)))
