-- A toggle that ignores its inputs.
use Rattle.std.specs.Prelude.{ℕ, zero, suc, pos, negsuc, Bool, true, false, List, [], ◌∷◌}
use Rattle.std.proofs.Common.{subst, ap}
use Rattle.pv_place.specs.Ranges.{Range, IsWithin, AreWithin}
use Rattle.pv_machine.specs.Machines.{Machine, Values, Step, done, trap, over, IsLawful}

abbrev pub bit : Range
bit = record { least = pos 0; greatest = pos 1 }

abbrev pub byte : Range
byte = record { least = pos 0; greatest = pos 255 }

abbrev pub bytes : ℕ → List Range
bytes zero = []
bytes (suc n) = byte ∷ bytes n

abbrev pub turned : Values → Values
turned [] = pos 0 ∷ []
turned (pos zero ∷ more) = pos 1 ∷ []
turned (pos (suc n) ∷ more) = pos 0 ∷ []
turned (negsuc n ∷ more) = pos 0 ∷ []

abbrev pub is_on : Values → Bool
is_on [] = false
is_on (pos zero ∷ more) = false
is_on (pos (suc n) ∷ more) = true
is_on (negsuc n ∷ more) = false

-- one kept bit, and so many inputs
abbrev pub toggle : ℕ → Machine
toggle n = record {
  state = bit ∷ [];
  input = bytes n;
  params = [];
  start = λ p. pos 0 ∷ [];
  step = λ s i. done (turned s);
  fails = λ s i. is_on s;
}

-- ---- it is lawful

zero_fits : IsWithin bit (pos 0)
zero_fits = record { from = record { le = tt }; to = record { le = tt } }

one_fits : IsWithin bit (pos 1)
one_fits = record { from = record { le = tt }; to = record { le = tt } }

pub zero_is_byte : IsWithin byte (pos 0)
zero_is_byte = record { from = record { le = tt }; to = record { le = tt } }

turned_fits : (s : Values) → AreWithin (bit ∷ []) (turned s)
turned_fits [] = (zero_fits, tt)
turned_fits (pos zero ∷ more) = (one_fits, tt)
turned_fits (pos (suc n) ∷ more) = (zero_fits, tt)
turned_fits (negsuc n ∷ more) = (zero_fits, tt)

abbrev left_by : Step → Values
left_by (done s) = s
left_by (trap kind place) = []
left_by (over place) = []

pub toggle_is_lawful : (n : ℕ) → IsLawful (toggle n)
toggle_is_lawful n = record {
  starts = λ p are. (zero_fits, tt);
  steps = λ s i t is at steps. subst (λ (x : Values). AreWithin (bit ∷ []) x) (ap left_by steps) (turned_fits s);
}
