-- Quotients and remainders of a type's values for every divisor, 0 too, as terms and circuits have them: what is divided by 0 there
-- traps before it is asked.
use Rattle.std.specs.Prelude.{ℤ, pos, negsuc, zero, suc, Bool, true, false}
use Rattle.pv_word.specs.declared.types.Ty.{Ty}
use Rattle.pv_word.specs.Types.{is_signed_of, wrap_of}
use Rattle.pv_word.specs.Division.{quotient, remainder}

-- what the quotient by zero is before it is wrapped: -1, or 1 for a negative dividend; of a type
-- from 0 that is the greatest value
abbrev pub by_zero : Bool → ℤ → ℤ
by_zero true (negsuc n) = pos 1
by_zero true (pos n) = negsuc 0
by_zero false v = negsuc 0

abbrev pub quotient_of : Ty → ℤ → ℤ → ℤ
quotient_of ty v (pos zero) = wrap_of ty (by_zero (is_signed_of ty) v)
quotient_of ty v (pos (suc n)) = wrap_of ty (quotient v (pos (suc n)))
quotient_of ty v (negsuc n) = wrap_of ty (quotient v (negsuc n))

-- by zero the remainder is the dividend
abbrev pub remainder_of : Ty → ℤ → ℤ → ℤ
remainder_of ty v (pos zero) = v
remainder_of ty v (pos (suc n)) = wrap_of ty (remainder v (pos (suc n)))
remainder_of ty v (negsuc n) = wrap_of ty (remainder v (negsuc n))
