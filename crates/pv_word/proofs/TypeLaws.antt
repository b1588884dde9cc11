-- The laws of the types: each has a bit, and at most 32.
-- `width_of ty` at a variable type closes by cases alone in small functions (`least`, `greatest`, `in_range`).
use Rattle.std.proofs.Common.{ℕ, ◌+◌, ◌-◌, ◌<◌, ◌≤◌, ◌^◌, arith, Bool as Truth, true, false}
use Rattle.std.specs.Prelude.{ℤ}
use Rattle.std.proofs.lemmas.Int.{ints}
use Rattle.std.proofs.lemmas.Nat.{pow_pos}
use Rattle.std.proofs.Math.Nat.{pow-le-pow_right}
use borrow.Author.Differences.{up, down}
use Rattle.pv_word.specs.declared.types.Ty.{Ty}
use Rattle.pv_word.specs.declared.types.Ty.TheVariants.{Bool, Byte, Word, Dword, Int, Dint, Time}
use Rattle.pv_word.specs.Range.{IsInRange}
use Rattle.pv_word.specs.Types.{width_of, is_signed_of, InRange}
use Rattle.pv_word.proofs.WrapLaws.{double}

pub wide : (ty : Ty) → 0 < width_of ty
wide Bool = omega arith
wide Byte = omega arith
wide Word = omega arith
wide Dword = omega arith
wide Int = omega arith
wide Dint = omega arith
wide Time = omega arith

pub narrow : (ty : Ty) → width_of ty ≤ 32
narrow Bool = omega arith
narrow Byte = omega arith
narrow Word = omega arith
narrow Dword = omega arith
narrow Int = omega arith
narrow Dint = omega arith
narrow Time = omega arith

-- the parts of a number of w bits
parts-within : (w : ℕ) (s : Truth) (v : ℤ) → 0 < w → IsInRange w s v → (up v < down v + 2 ^ w) × (down v ≤ up v + 2 ^ w)
parts-within w false v p h = omega (arith, ints, h.from, h.to)
parts-within w true v p h = omega (arith, ints, h.from, h.to, double w p, pow_pos (w - 1))

-- a value is at most 2 ^ 32, without regard to sign
pub value-within : (ty : Ty) (v : ℤ) → InRange ty v → (up v < down v + 2 ^ 32) × (down v ≤ up v + 2 ^ 32)
value-within ty v h =
    let inside = parts-within (width_of ty) (is_signed_of ty) v (wide ty) h in
    let most : 2 ^ width_of ty ≤ 2 ^ 32 = pow-le-pow_right (omega arith) (narrow ty) in
    omega (arith, inside.0, inside.1)
