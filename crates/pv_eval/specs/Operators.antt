-- What is made of values, by the definitions of operators and functions.
use Rattle.std.specs.Prelude.{ℤ, pos, neg_ℤ, ◌+ℤ◌, ◌-ℤ◌, ◌*ℤ◌, ◌≤ℤ◌, unsigned_abs, int_lt, int_le, not, if◌then◌else◌}
use Rattle.std.specs.Ordering.{int_eq}
use Rattle.pv_word.specs.declared.types.Ty.{Ty}
use Rattle.pv_word.specs.Types.{wrap_of, and_of, or_of, xor_of, not_of, shl_of, shr_of}
use Rattle.pv_word.specs.Division.{quotient, remainder}
use Rattle.pv_place.specs.declared.place.Place.{Place}
use Rattle.pv_mean.specs.Endings.{Value, got}
use Rattle.pv_mean.specs.Values.{number_of, is_true, divided, lesser, greater}
use Rattle.pv_eval.specs.declared.node.OneOp.{OneOp}
use Rattle.pv_eval.specs.declared.node.OneOp.TheVariants.{Minus, Not, Wrap, Abs}
use Rattle.pv_eval.specs.declared.node.TwoOp.{TwoOp}
use Rattle.pv_eval.specs.declared.node.TwoOp.TheVariants.{Mul, Div, Mod, Add, Sub, Less, Greater, LessEqual, GreaterEqual, Equal, NotEqual, And, Xor, Or, Min, Max, Shl, Shr}
use Rattle.pv_eval.specs.declared.node.ThreeOp.{ThreeOp}
use Rattle.pv_eval.specs.declared.node.ThreeOp.TheVariants.{Limit, Sel}

-- 0 or 1
pub record IsBit (a : ℤ) : Type 0 where
  pub from : pos 0 ≤ℤ a
  pub to : a ≤ℤ pos 1

abbrev pub one_result : OneOp → Ty → ℤ → ℤ
one_result Minus ty a = wrap_of ty (neg_ℤ a)
one_result Not ty a = not_of ty a
one_result Wrap ty a = wrap_of ty a
one_result Abs ty a = wrap_of ty (pos (unsigned_abs a))

abbrev pub two_result : TwoOp → Ty → Place → ℤ → ℤ → Value
two_result Mul ty place a b = got (wrap_of ty (a *ℤ b))
two_result Div ty place a b = divided place b (wrap_of ty (quotient a b))
two_result Mod ty place a b = divided place b (wrap_of ty (remainder a b))
two_result Add ty place a b = got (wrap_of ty (a +ℤ b))
two_result Sub ty place a b = got (wrap_of ty (a -ℤ b))
two_result Less ty place a b = got (number_of (int_lt a b))
two_result Greater ty place a b = got (number_of (int_lt b a))
two_result LessEqual ty place a b = got (number_of (int_le a b))
two_result GreaterEqual ty place a b = got (number_of (int_le b a))
two_result Equal ty place a b = got (number_of (int_eq a b))
two_result NotEqual ty place a b = got (number_of (not (int_eq a b)))
two_result And ty place a b = got (and_of ty a b)
two_result Xor ty place a b = got (xor_of ty a b)
two_result Or ty place a b = got (or_of ty a b)
two_result Min ty place a b = got (lesser a b)
two_result Max ty place a b = got (greater a b)
two_result Shl ty place a b = got (shl_of ty a (unsigned_abs b))
two_result Shr ty place a b = got (shr_of ty a (unsigned_abs b))

abbrev pub three_result : ThreeOp → ℤ → ℤ → ℤ → ℤ
three_result Limit a b c = lesser c (greater a b)
three_result Sel a b c = if is_true a then c else b
