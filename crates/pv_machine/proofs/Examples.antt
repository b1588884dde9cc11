-- A toggle, one bit that each step turns round and that fails where it is 1, with the queries that it meets.
use Rattle.std.proofs.Common.{◌≡◌, ◌⊎◌, inl, inr, sym, length, ℕ, pos, zero, suc, negsuc, Bool, true, false, List, [], ◌∷◌, refl, arith}
use Rattle.std.proofs.lemmas.Int.{ints}
use Rattle.std.proofs.lemmas.Bool.{true≢false}
use Rattle.pv_place.specs.Ranges.{IsWithin}
use Rattle.pv_machine.specs.Machines.{Machine, Values, done}
use Rattle.pv_machine.specs.Queries.{FailsAtLast, MeetsBase, MeetsStep}

abbrev turned : Values → Values
turned (pos zero ∷ more) = pos 1 ∷ []
turned other = pos 0 ∷ []

abbrev is_on : Values → Bool
is_on [] = false
is_on (pos zero ∷ more) = false
is_on (pos (suc n) ∷ more) = true
is_on (negsuc n ∷ more) = false

abbrev toggle : Machine
toggle = record {
  state = record { least = pos 0; greatest = pos 1 } ∷ [];
  input = [];
  params = [];
  start = λ p. pos 0 ∷ [];
  step = λ s i. done (turned s);
  fails = λ s i. is_on s;
}

is_bit : (n : ℕ) → n ≡ 0 ⊎ n ≡ 1 → IsWithin (record { least = pos 0; greatest = pos 1 }) (pos n)
is_bit n is = record { from = omega (arith, ints); to = omega (arith, ints, is) }

-- its start doesn't fail
first_scan_is_good : MeetsBase toggle 1 → ⊥
first_scan_is_good met = one met.inputs met.count met.fails
  where
    one : (inputs : List Values) → length inputs ≡ 1 → FailsAtLast toggle (pos 0 ∷ []) inputs → ⊥
    one [] count f = f
    one (i ∷ []) count f = true≢false (sym f)
    one (i ∷ j ∷ inputs) count f = absurd (omega (arith, count))

second_scan_fails : MeetsBase toggle 2
second_scan_fails = record {
  params = [];
  inputs = [] ∷ [] ∷ [];
  are_params = tt;
  are_inputs = (tt, (tt, tt));
  count = refl;
  fails = (pos 1 ∷ [], record { done = refl; keeps = refl }, refl);
}

-- from 1 it fails at once, from 0 at the second scan
fails_at_once : MeetsStep toggle 0
fails_at_once = record {
  state = pos 1 ∷ [];
  inputs = [] ∷ [];
  is_state = (is_bit 1 (inr refl), tt);
  are_inputs = (tt, tt);
  count = refl;
  fails = refl;
}

fails_then : MeetsStep toggle 1
fails_then = record {
  state = pos 0 ∷ [];
  inputs = [] ∷ [] ∷ [];
  is_state = (is_bit 0 (inl refl), tt);
  are_inputs = (tt, (tt, tt));
  count = refl;
  fails = (pos 1 ∷ [], record { done = refl; keeps = refl }, refl);
}
