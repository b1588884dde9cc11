-- Where a zero is put, and how many values an input has.
use Rattle.std.proofs.Common.{◌≡◌, ◌≤◌, ℕ, zero, suc, pos, insert, [], ◌∷◌, length, refl, ap, arith}
use Rattle.pv_place.specs.Ranges.{AreWithin}
use Rattle.pv_machine.specs.Machines.{Values}
use Rattle.pv_contracts_machine.specs.Toggles.{bytes}
use Rattle.pv_contracts_machine.specs.Leaving.{with_zero}

pub bytes_length : (n : ℕ) → n ≡ length (bytes n)
bytes_length zero = refl
bytes_length (suc n) = ap suc (bytes_length n)

pub input_length : (n : ℕ) (values : Values) → AreWithin (bytes n) values → n ≡ length values
input_length zero [] are = refl
input_length zero (v ∷ values) are = absurd are
input_length (suc n) [] are = absurd are
input_length (suc n) (v ∷ values) are = ap suc (input_length n values are.1)

pub inserted : (n : ℕ) (values : Values) → n ≤ length values → insert values n (pos 0) ≡ with_zero n values
inserted zero values le = refl
inserted (suc n) [] le = absurd (omega (arith, le))
inserted (suc n) (v ∷ values) le = ap (λ (rest : Values). v ∷ rest) (inserted n values (omega (arith, le)))
