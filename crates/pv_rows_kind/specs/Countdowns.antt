-- A machine that counts down to 0, and fails where its number is 1.
use Rattle.std.proofs.Common.{◌≡◌, ℕ, ◌-◌, ◌≤◌, Bool, List, [], ◌∷◌, ℤ, pos, negsuc, ap, subst, arith}
use Rattle.std.specs.Prelude.{nat_eq, nat_lt}
use Rattle.std.proofs.lemmas.Int.{ints}
use Rattle.pv_place.specs.Ranges.{Range, IsWithin, AreWithin}
use Rattle.pv_machine.specs.Machines.{Machine, Values, Step, done, trap, over, IsState, IsLawful}
use Rattle.pv_cert.specs.declared.proof.Query.{Query}
use Rattle.pv_cert.specs.declared.proof.Query.TheVariants as query

-- the number of a state
abbrev pub number_of : Values → ℕ
number_of [] = 0
number_of (pos n ∷ rest) = n
number_of (negsuc n ∷ rest) = 0

-- the numbers up to the greatest
abbrev pub up_to : ℕ → Range
up_to most = record { least = pos 0; greatest = pos most }

abbrev pub counting : ℕ → ℕ → Machine
counting start most = record {
  state = up_to most ∷ [];
  input = [];
  params = [];
  start = λ params. pos start ∷ [];
  step = λ state input. done (pos (number_of state - 1) ∷ []);
  fails = λ state input. nat_eq (number_of state) 1;
}

-- whether it meets a query
abbrev pub is_met : ℕ → ℕ → Query → Bool
is_met start most (query.Base k) = nat_eq k start
is_met start most (query.Step k) = nat_lt k most

-- ---- it is lawful

within : (n most : ℕ) → n ≤ most → IsWithin (up_to most) (pos n)
within n most le = record { from = omega (arith, ints); to = omega (arith, ints) }

pub number_within : (start most : ℕ) (s : Values) → IsState (counting start most) s → number_of s ≤ most
number_within start most [] is = absurd is
number_within start most (pos n ∷ []) is = omega (arith, ints, is.0.to)
number_within start most (negsuc n ∷ []) is = omega arith
number_within start most (pos n ∷ v ∷ rest) is = absurd is.1
number_within start most (negsuc n ∷ v ∷ rest) is = absurd is.1

abbrev pub left_by : Step → Values
left_by (done s) = s
left_by (trap kind place) = []
left_by (over place) = []

pub state_at : (n most : ℕ) → n ≤ most → AreWithin (up_to most ∷ []) (pos n ∷ [])
state_at n most le = (within n most le, tt)

pub counting_is_lawful : (start most : ℕ) → start ≤ most → IsLawful (counting start most)
counting_is_lawful start most le = record {
  starts = λ p are. state_at start most le;
  steps = λ s i t is at steps. subst (λ (x : Values). AreWithin (up_to most ∷ []) x) (ap left_by steps)
      (let fits = number_within start most s is in state_at (number_of s - 1) most (omega arith));
}
