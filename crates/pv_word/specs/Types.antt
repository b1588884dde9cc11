-- The elementary types of S7-300/400 blocks: how wide each is, which are signed, and the words of the contracts over them.
-- Widths and ranges are those of the manual S7-SCL for S7-300/S7-400, "Elementary Data Types".
use Rattle.std.specs.Prelude.{◌≡◌, ℕ, ◌+◌, ◌-◌, ◌*◌, ◌/◌, ◌<◌, ◌^◌, ℤ, pos, List, [], ◌∷◌, ⊤, Bool as Truth, true, false, bit_and, bit_or, bit_xor}
use Rattle.pv_word.specs.declared.types.Ty.{Ty}
use Rattle.pv_word.specs.declared.types.Ty.TheVariants.{Bool, Byte, Word, Dword, Int, Dint, Time}
use Rattle.pv_word.specs.Range.{least_at, greatest_at, IsInRange}
use Rattle.pv_word.specs.Wrap.{IsWrap, wrap_at}
use Rattle.pv_word.specs.Bits.{pattern_at, pattern_bit_at}

-- the number of bits
abbrev pub width_of : Ty → ℕ
width_of Bool = 1
width_of Byte = 8
width_of Word = 16
width_of Dword = 32
width_of Int = 16
width_of Dint = 32
width_of Time = 32

-- two's complement: INT, DINT and TIME
abbrev pub is_signed_of : Ty → Truth
is_signed_of Bool = false
is_signed_of Byte = false
is_signed_of Word = false
is_signed_of Dword = false
is_signed_of Int = true
is_signed_of Dint = true
is_signed_of Time = true

-- the least and the greatest value
abbrev pub least_of : Ty → ℤ
least_of ty = least_at (width_of ty) (is_signed_of ty)

abbrev pub greatest_of : Ty → ℤ
greatest_of ty = greatest_at (width_of ty) (is_signed_of ty)

-- v is a value of the type
abbrev pub InRange : Ty → ℤ → Type 0
InRange ty v = IsInRange (width_of ty) (is_signed_of ty) v

-- one value of each type, in order
abbrev pub AreValues : List Ty → List ℤ → Type 0
AreValues [] [] = ⊤
AreValues [] (v ∷ vs) = ⊥
AreValues (ty ∷ tys) [] = ⊥
AreValues (ty ∷ tys) (v ∷ vs) = InRange ty v × AreValues tys vs

-- r is the value of the type that is congruent to n
abbrev pub IsWrapOf : Ty → ℤ → ℤ → Type 0
IsWrapOf ty n r = IsWrap (width_of ty) (is_signed_of ty) n r

-- the value of the type that is congruent to n
abbrev pub wrap_of : Ty → ℤ → ℤ
wrap_of ty n = wrap_at (width_of ty) (is_signed_of ty) n

-- the bits of v as a number from 0
abbrev pub pattern_of : Ty → ℤ → ℕ
pattern_of ty v = pattern_at (width_of ty) v

-- bit i of v, 0 or 1
abbrev pub bit_of : Ty → ℤ → ℕ → ℕ
bit_of ty v i = pattern_bit_at (width_of ty) v i

-- r is the value of the type whose bits are f
pub record HasBits (ty : Ty) (r : ℤ) (f : ℕ → ℕ) : Type 0 where
  pub in_range : InRange ty r
  pub bits : (i : ℕ) → i < width_of ty → bit_of ty r i ≡ f i

-- the operations on patterns
abbrev pub and_of : Ty → ℤ → ℤ → ℤ
and_of ty a b = wrap_of ty (pos (bit_and (pattern_of ty a) (pattern_of ty b)))

abbrev pub or_of : Ty → ℤ → ℤ → ℤ
or_of ty a b = wrap_of ty (pos (bit_or (pattern_of ty a) (pattern_of ty b)))

abbrev pub xor_of : Ty → ℤ → ℤ → ℤ
xor_of ty a b = wrap_of ty (pos (bit_xor (pattern_of ty a) (pattern_of ty b)))

abbrev pub not_of : Ty → ℤ → ℤ
not_of ty a = wrap_of ty (pos (2 ^ width_of ty - (pattern_of ty a + 1)))

abbrev pub shl_of : Ty → ℤ → ℕ → ℤ
shl_of ty a n = wrap_of ty (pos (pattern_of ty a * 2 ^ n))

abbrev pub shr_of : Ty → ℤ → ℕ → ℤ
shr_of ty a n = wrap_of ty (pos (pattern_of ty a / 2 ^ n))
