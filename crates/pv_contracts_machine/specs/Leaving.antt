-- The reduction of a toggle that leaves out one of its inputs.
use Rattle.std.specs.Prelude.{◌≡◌, ℕ, zero, suc, pos, true, [], ◌∷◌, refl}
use Rattle.std.proofs.Common.{subst, ap}
use Rattle.pv_place.specs.Ranges.{AreWithin}
use Rattle.pv_machine.specs.Machines.{Values, done}
use Rattle.pv_machine.specs.Reductions.{Maps, StepsTo, IsReduction, IsExact}
use Rattle.pv_contracts_machine.specs.Toggles.{bytes, toggle, turned, zero_is_byte}

-- all values but that of this number, or but the last where there is none of it
abbrev pub without : ℕ → Values → Values
without n [] = []
without zero (v ∷ values) = values
without (suc n) (v ∷ []) = []
without (suc n) (v ∷ w ∷ values) = v ∷ without n (w ∷ values)

-- a zero with this number, or as the last where there are fewer values
abbrev pub with_zero : ℕ → Values → Values
with_zero zero values = pos 0 ∷ values
with_zero (suc n) [] = pos 0 ∷ []
with_zero (suc n) (v ∷ values) = v ∷ with_zero n values

abbrev pub leaving : ℕ → Maps
leaving n = record {
  inv = λ s. true;
  abs = λ s. s;
  push = λ s i. without n i;
  pull = λ j. with_zero n j;
  embed = λ t. t;
}

without_fits : (n left : ℕ) (values : Values) → AreWithin (bytes (suc left)) values → AreWithin (bytes left) (without n values)
without_fits n left [] are = absurd are
without_fits zero left (v ∷ values) are = are.1
without_fits (suc n) zero (v ∷ []) are = tt
without_fits (suc n) (suc left) (v ∷ []) are = absurd are.1
without_fits (suc n) zero (v ∷ w ∷ values) are = absurd are.1
without_fits (suc n) (suc left) (v ∷ w ∷ values) are = (are.0, without_fits n left (w ∷ values) are.1)

with_fits : (n left : ℕ) (values : Values) → AreWithin (bytes left) values → AreWithin (bytes (suc left)) (with_zero n values)
with_fits zero left values are = (zero_is_byte, are)
with_fits (suc n) zero [] are = (zero_is_byte, tt)
with_fits (suc n) (suc left) [] are = absurd are
with_fits (suc n) zero (v ∷ values) are = absurd are
with_fits (suc n) (suc left) (v ∷ values) are = (are.0, with_fits n left values are.1)

pub without_with : (n : ℕ) (values : Values) → without n (with_zero n values) ≡ values
without_with zero values = refl
without_with (suc n) [] = refl
without_with (suc zero) (v ∷ values) = refl
without_with (suc (suc n)) (v ∷ []) = refl
without_with (suc (suc n)) (v ∷ w ∷ values) = ap (λ (rest : Values). v ∷ rest) (without_with (suc n) (w ∷ values))

steps_alike : (n : ℕ) (s : Values) → StepsTo (leaving n) (done (turned s)) (done (turned s))
steps_alike n s = (refl, refl)

reduces : (n left : ℕ) → IsReduction (toggle (suc left)) (toggle left) (leaving n)
reduces n left = record {
  starts = λ p are. refl;
  to_starts = λ p are. record { params = p; are_params = are; is = refl };
  of_starts = λ t start. record { params = start.params; are_params = start.are_params; is = start.is };
  states = λ s is. is.is_state;
  inputs = λ s i is at. without_fits n left i at;
  steps = λ s i is at. steps_alike n s;
  fails = λ s i is at. refl;
  embeds = λ t is. record { is_state = is; inv = refl };
  embeds_back = λ t is. refl;
  pulls = λ j at. with_fits n left j at;
}

pub leaving_reduces : (n left all : ℕ) → suc left ≡ all → IsReduction (toggle all) (toggle left) (leaving n)
leaving_reduces n left all e = subst (λ (m : ℕ). IsReduction (toggle m) (toggle left) (leaving n)) e (reduces n left)

pub leaving_replays : (n left all : ℕ) → suc left ≡ all → IsExact (toggle all) (toggle left) (leaving n)
leaving_replays n left all e = λ s j is at. without_with n j
