-- Runs of so many scans, where base is met for no number up to that.
use Rattle.std.proofs.Common.{◌≡◌, ℕ, zero, suc, ◌≤◌, false, List, [], ◌∷◌, length, refl, arith}
use Rattle.std.specs.List.{AllByRecursion}
use Rattle.std.proofs.lemmas.Bool.{false_from_ne_true}
use Rattle.pv_machine.specs.Machines.{Machine, Values, IsInput, AreParams}
use Rattle.pv_machine.specs.Queries.{MeetsBase, FailsAtLast, IsGoodScan, NoneFails}

-- a run that fails has a scan
pub some_scan : (m : Machine) (s : Values) (inputs : List Values) → FailsAtLast m s inputs → 1 ≤ length inputs
some_scan m s [] f = absurd f
some_scan m s (i ∷ inputs) f = omega arith

one_later : (m : Machine) (s i t : Values) (inputs : List Values) → IsGoodScan m s i t → FailsAtLast m t inputs → FailsAtLast m s (i ∷ inputs)
one_later m s i t [] good f = absurd f
one_later m s i t (j ∷ inputs) good f = (t, good, f)

none_fails_within : (m : Machine) (n : ℕ) (s : Values) (inputs : List Values) → length inputs ≤ n → AllByRecursion (IsInput m) inputs
    → ((others : List Values) → length others ≤ n → AllByRecursion (IsInput m) others → FailsAtLast m s others → ⊥) → NoneFails m s inputs
none_fails_within m n s [] few all never = tt
none_fails_within m zero s (i ∷ inputs) few all never = absurd (omega arith)
none_fails_within m (suc n) s (i ∷ inputs) few all never =
    let keeps : m.fails s i ≡ false = false_from_ne_true (m.fails s i) (λ f. never (i ∷ []) (omega arith) (all.0, tt) f) in (
      keeps,
      λ t is. none_fails_within m n t inputs (omega arith) all.1
          (λ others less are f. never (i ∷ others) (omega arith) (all.0, are) (one_later m s i t others (record { done = is; keeps = keeps }) f)),
    )

pub none_early : (m : Machine) (n : ℕ) → ((j : ℕ) → 1 ≤ j → j ≤ n → MeetsBase m j → ⊥) → (params : Values) (inputs : List Values)
    → AreParams m params → AllByRecursion (IsInput m) inputs → length inputs ≤ n → NoneFails m (m.start params) inputs
none_early m n base params inputs are_params are_inputs few =
    none_fails_within m n (m.start params) inputs few are_inputs
    (λ others less are f. base (length others) (some_scan m (m.start params) others f) less
    (record { params = params; inputs = others; are_params = are_params; are_inputs = are; count = refl; fails = f }))
