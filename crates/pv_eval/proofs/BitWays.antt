-- What works bit by bit, on 0 and 1 alone.
use Rattle.std.proofs.Common.{◌≡◌, ℕ, zero, suc, ◌≤◌, ◌-◌, ◌+◌, ap, sym, refl, ◌∙◌, arith}
use Rattle.std.specs.Prelude.{ℤ, pos, negsuc, ◌-ℤ◌, bit_and, bit_or}
use Rattle.std.proofs.lemmas.Int.{ints}
use Rattle.pv_word.specs.declared.types.Ty.{Ty}
use Rattle.pv_word.specs.declared.types.Ty.TheVariants.{Bool, Byte, Word, Dword, Int, Dint, Time}
use Rattle.pv_word.specs.Types.{InRange, wrap_of, pattern_of, and_of, or_of, not_of}
use Rattle.pv_mean.specs.Values.{lesser, greater}
use Rattle.pv_eval.specs.Operators.{IsBit}
use Rattle.pv_eval.proofs.OperatorLaws.{own, own_pattern}

in_each : (ty : Ty) (x : ℕ) → x ≤ 1 → InRange ty (pos x)
in_each Bool x h = record { from = omega (arith, ints); to = omega (arith, ints) }
in_each Byte x h = record { from = omega (arith, ints); to = omega (arith, ints) }
in_each Word x h = record { from = omega (arith, ints); to = omega (arith, ints) }
in_each Dword x h = record { from = omega (arith, ints); to = omega (arith, ints) }
in_each Int x h = record { from = omega (arith, ints); to = omega (arith, ints) }
in_each Dint x h = record { from = omega (arith, ints); to = omega (arith, ints) }
in_each Time x h = record { from = omega (arith, ints); to = omega (arith, ints) }

own_bits : (ty : Ty) (x : ℕ) → x ≤ 1 → pattern_of ty (pos x) ≡ x
own_bits ty x h = own_pattern ty (pos x) (omega (arith, ints)) (in_each ty x h)

-- by two numbers below 2 and what they come to
on_small : (ty : Ty) (f : ℕ → ℕ → ℕ) (x y z : ℕ) → x ≤ 1 → y ≤ 1 → z ≤ 1 → f x y ≡ z → pos z ≡ wrap_of ty (pos (f (pattern_of ty (pos x)) (pattern_of ty (pos y))))
on_small ty f x y z p q r e =
    own ty (pos z) (in_each ty z r)
    ∙ ap (λ m. wrap_of ty (pos m)) (sym (ap (λ a. f a (pattern_of ty (pos y))) (own_bits ty x p) ∙ ap (f x) (own_bits ty y q) ∙ e))

pub and_bits : (ty : Ty) (a b : ℤ) → IsBit a → IsBit b → lesser a b ≡ and_of ty a b
and_bits ty (pos zero) (pos zero) p q = on_small ty bit_and 0 0 0 (omega arith) (omega arith) (omega arith) refl
and_bits ty (pos zero) (pos (suc zero)) p q = on_small ty bit_and 0 1 0 (omega arith) (omega arith) (omega arith) refl
and_bits ty (pos (suc zero)) (pos zero) p q = on_small ty bit_and 1 0 0 (omega arith) (omega arith) (omega arith) refl
and_bits ty (pos (suc zero)) (pos (suc zero)) p q = on_small ty bit_and 1 1 1 (omega arith) (omega arith) (omega arith) refl
and_bits ty (pos (suc (suc n))) b p q = absurd (omega (arith, ints, p.to))
and_bits ty (negsuc n) b p q = absurd (omega (arith, ints, p.from))
and_bits ty (pos zero) (pos (suc (suc n))) p q = absurd (omega (arith, ints, q.to))
and_bits ty (pos (suc zero)) (pos (suc (suc n))) p q = absurd (omega (arith, ints, q.to))
and_bits ty (pos zero) (negsuc n) p q = absurd (omega (arith, ints, q.from))
and_bits ty (pos (suc zero)) (negsuc n) p q = absurd (omega (arith, ints, q.from))

pub or_bits : (ty : Ty) (a b : ℤ) → IsBit a → IsBit b → greater a b ≡ or_of ty a b
or_bits ty (pos zero) (pos zero) p q = on_small ty bit_or 0 0 0 (omega arith) (omega arith) (omega arith) refl
or_bits ty (pos zero) (pos (suc zero)) p q = on_small ty bit_or 0 1 1 (omega arith) (omega arith) (omega arith) refl
or_bits ty (pos (suc zero)) (pos zero) p q = on_small ty bit_or 1 0 1 (omega arith) (omega arith) (omega arith) refl
or_bits ty (pos (suc zero)) (pos (suc zero)) p q = on_small ty bit_or 1 1 1 (omega arith) (omega arith) (omega arith) refl
or_bits ty (pos (suc (suc n))) b p q = absurd (omega (arith, ints, p.to))
or_bits ty (negsuc n) b p q = absurd (omega (arith, ints, p.from))
or_bits ty (pos zero) (pos (suc (suc n))) p q = absurd (omega (arith, ints, q.to))
or_bits ty (pos (suc zero)) (pos (suc (suc n))) p q = absurd (omega (arith, ints, q.to))
or_bits ty (pos zero) (negsuc n) p q = absurd (omega (arith, ints, q.from))
or_bits ty (pos (suc zero)) (negsuc n) p q = absurd (omega (arith, ints, q.from))

not_small : (x z : ℕ) → x ≤ 1 → z ≤ 1 → 2 - (x + 1) ≡ z → pos z ≡ not_of Bool (pos x)
not_small x z p r e = own Bool (pos z) (in_each Bool z r) ∙ ap (λ m. wrap_of Bool (pos m)) (sym (ap (λ a. 2 - (a + 1)) (own_bits Bool x p) ∙ e))

pub not_bit : (a : ℤ) → IsBit a → pos 1 -ℤ a ≡ not_of Bool a
not_bit (pos zero) p = not_small 0 1 (omega arith) (omega arith) refl
not_bit (pos (suc zero)) p = not_small 1 0 (omega arith) (omega arith) refl
not_bit (pos (suc (suc n))) p = absurd (omega (arith, ints, p.to))
not_bit (negsuc n) p = absurd (omega (arith, ints, p.from))
