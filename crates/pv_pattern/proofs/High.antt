-- A byte has no bit above its eighth.
use Rattle.std.proofs.Common.{◌≡◌, ℕ, ◌<◌, ◌≤◌, ◌/◌, ◌%◌, ◌^◌, ℤ, pos, sym, ap, arith}
use Rattle.std.proofs.Math.Nat.{div-eq_of_lt, pow-le-pow_right}
use Rattle.pv_word.specs.declared.types.Ty.TheVariants.{Byte}
use Rattle.pv_word.specs.Types.{bit_of}
use Rattle.pv_word.specs.Bits.{pattern_at}
use Rattle.pv_word.proofs.ForCallers.{pattern-lt}

pub no_high_bit : (v : ℤ) (b : ℕ) → 8 ≤ b → pos 0 ≡ pos (bit_of Byte v b)
no_high_bit v b high =
    let most : 2 ^ 8 ≤ 2 ^ b = pow-le-pow_right (omega arith) {i = 8} {j = b} high in
    let below : pattern_at 8 v < 2 ^ b = omega (arith, pattern-lt 8 v) in
    let none : pattern_at 8 v / 2 ^ b ≡ 0 = div-eq_of_lt below in
    ap pos (sym (ap (λ n. n % 2) none))
