-- The number of elements between two bounds.
use Rattle.std.specs.Prelude.{◌≡◌, ◌+◌, ◌*◌, ◌-◌, ◌≤◌, ℕ, zero, suc, ℤ, pos, negsuc, ◌+ℤ◌, ◌-ℤ◌, ◌≤ℤ◌, ◌<ℤ◌, refl}
use Rattle.std.proofs.Common.{ap, sym, ◌∙◌, arith}
use Rattle.std.proofs.Math.Nat.{suc-mul}
use Rattle.std.proofs.lemmas.Int.{ints}
use Rattle.pv_types.specs.Leaves.{count_of, count_between}

one_less : (z w : ℤ) → w ≡ z -ℤ pos 1 → pos 1 ≤ℤ z → count_of z ≡ suc (count_of w)
one_less (pos zero) w e le = absurd (omega (arith, ints, le))
one_less (pos (suc n)) w e le = let here : w ≡ pos n = omega (arith, ints, e) in sym (ap (λ v. suc (count_of v)) here)
one_less (negsuc n) w e le = absurd (omega (arith, ints, le))

none_left : (z : ℤ) → z ≤ℤ pos 0 → count_of z ≡ 0
none_left (pos zero) le = refl
none_left (pos (suc n)) le = absurd (omega (arith, ints, le))
none_left (negsuc n) le = refl

pub count_some : (i high : ℤ) → i ≤ℤ high → count_between i high ≡ suc (count_between (i +ℤ pos 1) high)
count_some i high le = one_less ((high +ℤ pos 1) -ℤ i) ((high +ℤ pos 1) -ℤ (i +ℤ pos 1)) (omega (arith, ints)) (omega (arith, ints, le))

pub count_none : (i high : ℤ) → high <ℤ i → count_between i high ≡ 0
count_none i high lt = none_left ((high +ℤ pos 1) -ℤ i) (omega (arith, ints, lt))

pub elements_fall : (n w c : ℕ) → c ≡ suc n → 1 + n * (1 + w) + w ≤ 1 + c * (1 + w) - 1
elements_fall n w c e = let more : c * (1 + w) ≡ n * (1 + w) + (1 + w) = ap (λ m. m * (1 + w)) e ∙ suc-mul n (1 + w) in omega (arith, more)
