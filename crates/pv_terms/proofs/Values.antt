-- What the forms are worth.
use Rattle.std.proofs.Common.{◌≡◌, ◌≤◌, ℕ, zero, suc, ◌+◌, ◌-◌, ◌%◌, ◌^◌, ℤ, pos, negsuc, neg_ℤ, refl, sym, ap, ◌∙◌, arith}
use Rattle.std.specs.Prelude.{bit_or, int_le, int_lt, unsigned_abs, Bool as Truth, true, false, ◌&&◌, ◌||◌, not, if◌then◌else◌}
use Rattle.std.specs.Ordering.{int_eq}
use Rattle.std.proofs.lemmas.Int.{ints}
use Rattle.pv_word.specs.declared.types.Ty.{Ty}
use Rattle.pv_word.specs.declared.types.Ty.TheVariants.{Bool, Byte, Word, Dword, Int, Dint, Time}
use Rattle.pv_word.specs.Types.{InRange, wrap_of, pattern_of, not_of, or_of}
use Rattle.pv_word.specs.Division.{quotient, remainder}
use Rattle.pv_word.specs.Quotients.{quotient_of, remainder_of}
use Rattle.pv_word.proofs.ForCallers.{wide, wrap-own, pattern-pos}
use Rattle.pv_place.specs.declared.place.Place.{Place}
use Rattle.pv_place.specs.declared.trap.TrapKind.TheVariants.{DivideByZero}
use Rattle.pv_tree.specs.declared.expr.UnaryOp.TheVariants as one
use Rattle.pv_tree.specs.declared.expr.BinaryOp.TheVariants as two
use Rattle.pv_tree.specs.declared.expr.StdFunction.TheVariants as std
use Rattle.pv_mean.specs.Endings.{Value, got, trap}
use Rattle.pv_mean.specs.Values as mean
use Rattle.pv_flow.specs.declared.op.UnaryOp.TheVariants.{Convert}
use Rattle.pv_flow.specs.Terms.{Term, constant, variable, unary, binary, select, Valuation, value_of, number_of, is_true, select_value}
use Rattle.pv_terms.specs.Forms.{is_same, made_of, argument_term}
use Rattle.pv_terms.specs.Correct.{ConversionsHold, UnariesHold, BinariesHold, FunctionsHold, IndexesHold}

-- ---- conversions

own : (ty : Ty) (v : ℤ) → InRange ty v → wrap_of ty v ≡ v
own ty v is = wrap-own (wide ty) is

-- types that widen to each other are one
same : (a b : Ty) → is_same a b ≡ true → a ≡ b
same Bool Bool e = refl
same Byte Byte e = refl
same Word Word e = refl
same Dword Dword e = refl
same Int Int e = refl
same Dint Dint e = refl
same Time Time e = refl
same Bool Byte e = cc
same Bool Word e = cc
same Bool Dword e = cc
same Bool Int e = cc
same Bool Dint e = cc
same Bool Time e = cc
same Byte Bool e = cc
same Byte Word e = cc
same Byte Dword e = cc
same Byte Int e = cc
same Byte Dint e = cc
same Byte Time e = cc
same Word Bool e = cc
same Word Byte e = cc
same Word Dword e = cc
same Word Int e = cc
same Word Dint e = cc
same Word Time e = cc
same Dword Bool e = cc
same Dword Byte e = cc
same Dword Word e = cc
same Dword Int e = cc
same Dword Dint e = cc
same Dword Time e = cc
same Int Bool e = cc
same Int Byte e = cc
same Int Word e = cc
same Int Dword e = cc
same Int Dint e = cc
same Int Time e = cc
same Dint Bool e = cc
same Dint Byte e = cc
same Dint Word e = cc
same Dint Dword e = cc
same Dint Int e = cc
same Dint Time e = cc
same Time Bool e = cc
same Time Byte e = cc
same Time Word e = cc
same Time Dword e = cc
same Time Int e = cc
same Time Dint e = cc

made : (w : Valuation) (from to : Ty) (t : Term) → InRange from (value_of w t)
    → value_of w (made_of from to t) ≡ wrap_of to (value_of w t)
made w from to t is = lead (is_same from to) refl
  where
    lead : (b : Truth) → is_same from to ≡ b → value_of w (if b then t else unary Convert to t) ≡ wrap_of to (value_of w t)
    lead true e = sym (own from (value_of w t) is) ∙ ap (λ (ty : Ty). wrap_of ty (value_of w t)) (same from to e)
    lead false e = refl

pub conversions_hold : ConversionsHold
conversions_hold w from to (constant ty v) is = refl
conversions_hold w from to (variable n) is = made w from to (variable n) is
conversions_hold w from to (unary op ty t) is = made w from to (unary op ty t) is
conversions_hold w from to (binary op ty s t) is = made w from to (binary op ty s t) is
conversions_hold w from to (select ty c s t) is = made w from to (select ty c s t) is

-- ---- operators

pub unaries_hold : UnariesHold
unaries_hold w one.Plus ty t = refl
unaries_hold w one.Minus ty t = refl
unaries_hold w one.Not ty t = refl

number-same : (b : Truth) → mean.number_of b ≡ number_of b
number-same true = refl
number-same false = refl

told : (b c : Truth) → b ≡ c → got (mean.number_of b) ≡ got (number_of c)
told b c e = ap (λ (x : ℤ). got x) (number-same b ∙ ap number_of e)

-- the other truth
bit-range : (n : ℕ) → n ≤ 1 → InRange Bool (pos n)
bit-range n le = record { from = omega (arith, ints); to = omega (arith, ints) }

turned : (b : Truth) → not_of Bool (number_of b) ≡ number_of (not b)
turned true = ap (λ (m : ℕ). wrap_of Bool (pos (2 ^ 1 - (m + 1)))) (pattern-pos 1 1) ∙ own Bool (pos 0) (bit-range 0 (omega arith))
turned false = ap (λ (m : ℕ). wrap_of Bool (pos (2 ^ 1 - (m + 1)))) (pattern-pos 1 0) ∙ own Bool (pos 1) (bit-range 1 (omega arith))

not-less : (a b : ℤ) → int_le a b ≡ not (int_lt b a)
not-less a b = lead (int_le a b) (int_lt b a) refl refl
  where
    lead : (k l : Truth) → int_le a b ≡ k → int_lt b a ≡ l → k ≡ not l
    lead true false e f = refl
    lead false true e f = refl
    lead true true e f = absurd (grind (arith, ints))
    lead false false e f = absurd (grind (arith, ints))

by-not : (b c : Truth) → b ≡ not c → got (mean.number_of b) ≡ got (not_of Bool (number_of c))
by-not b c e = ap (λ (x : ℤ). got x) (number-same b ∙ ap number_of e ∙ sym (turned c))

true-number : (b : Truth) → is_true (number_of b) ≡ b
true-number true = refl
true-number false = refl

quotient-is : (ty : Ty) (place : Place) (a b : ℤ)
    → mean.divided place b (wrap_of ty (quotient a b)) ≡ (if int_eq b (pos 0) then trap DivideByZero place else got (quotient_of ty a b))
quotient-is ty place a (pos zero) = refl
quotient-is ty place a (pos (suc n)) = refl
quotient-is ty place a (negsuc n) = refl

remainder-is : (ty : Ty) (place : Place) (a b : ℤ)
    → mean.divided place b (wrap_of ty (remainder a b)) ≡ (if int_eq b (pos 0) then trap DivideByZero place else got (remainder_of ty a b))
remainder-is ty place a (pos zero) = refl
remainder-is ty place a (pos (suc n)) = refl
remainder-is ty place a (negsuc n) = refl

guarded : (b : Truth) (x y : Value) → (if b then x else y) ≡ (if is_true (number_of b) then x else y)
guarded true x y = refl
guarded false x y = refl

pub binaries_hold : BinariesHold
binaries_hold w two.Mul ty place s t = refl
binaries_hold w two.Div ty place s t =
    quotient-is ty place (value_of w s) (value_of w t) ∙ guarded (int_eq (value_of w t) (pos 0)) (trap DivideByZero place) (got (quotient_of ty (value_of w s) (value_of w t)))
binaries_hold w two.Mod ty place s t =
    remainder-is ty place (value_of w s) (value_of w t) ∙ guarded (int_eq (value_of w t) (pos 0)) (trap DivideByZero place) (got (remainder_of ty (value_of w s) (value_of w t)))
binaries_hold w two.Add ty place s t = refl
binaries_hold w two.Sub ty place s t = refl
binaries_hold w two.Less ty place s t = told (int_lt (value_of w s) (value_of w t)) (int_lt (value_of w s) (value_of w t)) refl
binaries_hold w two.Greater ty place s t = told (int_lt (value_of w t) (value_of w s)) (int_lt (value_of w t) (value_of w s)) refl
binaries_hold w two.LessEqual ty place s t =
    by-not (int_le (value_of w s) (value_of w t)) (int_lt (value_of w t) (value_of w s)) (not-less (value_of w s) (value_of w t))
binaries_hold w two.GreaterEqual ty place s t =
    by-not (int_le (value_of w t) (value_of w s)) (int_lt (value_of w s) (value_of w t)) (not-less (value_of w t) (value_of w s))
binaries_hold w two.Equal ty place s t = told (int_eq (value_of w s) (value_of w t)) (int_eq (value_of w s) (value_of w t)) refl
binaries_hold w two.NotEqual ty place s t = by-not (not (int_eq (value_of w s) (value_of w t))) (int_eq (value_of w s) (value_of w t)) refl
binaries_hold w two.And ty place s t = refl
binaries_hold w two.Xor ty place s t = refl
binaries_hold w two.Or ty place s t = refl

-- ---- functions

chosen : (b : Truth) (x y : ℤ) → select_value (number_of b) x y ≡ (if b then x else y)
chosen true x y = refl
chosen false x y = refl

lesser-is : (a b : ℤ) → (if int_lt a b then a else b) ≡ mean.lesser a b
lesser-is a b = lead (int_lt a b) (int_le a b) refl refl
  where
    lead : (l k : Truth) → int_lt a b ≡ l → int_le a b ≡ k → (if l then a else b) ≡ (if k then a else b)
    lead true true e f = refl
    lead false false e f = refl
    lead true false e f = absurd (grind (arith, ints))
    lead false true e f = grind (arith, ints)

greater-is : (a b : ℤ) → (if int_lt a b then b else a) ≡ mean.greater a b
greater-is a b = lead (int_lt a b) (int_le a b) refl refl
  where
    lead : (l k : Truth) → int_lt a b ≡ l → int_le a b ≡ k → (if l then b else a) ≡ (if k then b else a)
    lead true true e f = refl
    lead false false e f = refl
    lead true false e f = absurd (grind (arith, ints))
    lead false true e f = grind (arith, ints)

lesser-term : (a b : ℤ) → select_value (number_of (int_lt a b)) a b ≡ mean.lesser a b
lesser-term a b = chosen (int_lt a b) a b ∙ lesser-is a b

greater-term : (a b : ℤ) → select_value (number_of (int_lt a b)) b a ≡ mean.greater a b
greater-term a b = chosen (int_lt a b) b a ∙ greater-is a b

magnitude : (ty : Ty) (a : ℤ) → InRange ty a
    → select_value (number_of (int_lt a (pos 0))) (wrap_of ty (neg_ℤ a)) a ≡ wrap_of ty (pos (unsigned_abs a))
magnitude ty (pos n) is = lead (int_lt (pos n) (pos 0)) refl
  where
    lead : (b : Truth) → int_lt (pos n) (pos 0) ≡ b → select_value (number_of b) (wrap_of ty (neg_ℤ (pos n))) (pos n) ≡ wrap_of ty (pos n)
    lead true e = absurd (grind (arith, ints))
    lead false e = sym (own ty (pos n) is)
magnitude ty (negsuc n) is = refl

pub functions_hold : FunctionsHold
functions_hold w (std.Convert from to) ty count ts is = conversions_hold w from to (argument_term 0 from ts) is
functions_hold w std.Abs ty count ts is = magnitude ty (value_of w (argument_term 0 ty ts)) is
functions_hold w std.Min ty count ts is = lesser-term (value_of w (argument_term 0 ty ts)) (value_of w (argument_term 1 ty ts))
functions_hold w std.Max ty count ts is = greater-term (value_of w (argument_term 0 ty ts)) (value_of w (argument_term 1 ty ts))
functions_hold w std.Limit ty count ts is =
    ap (λ (x : ℤ). select_value (number_of (int_lt (value_of w (argument_term 2 ty ts)) x)) (value_of w (argument_term 2 ty ts)) x)
    (greater-term (value_of w (argument_term 0 ty ts)) (value_of w (argument_term 1 ty ts)))
    ∙ lesser-term (value_of w (argument_term 2 ty ts)) (mean.greater (value_of w (argument_term 0 ty ts)) (value_of w (argument_term 1 ty ts)))
functions_hold w std.Sel ty count ts is = refl
functions_hold w std.Shl ty count ts is = refl
functions_hold w std.Shr ty count ts is = refl

-- ---- indexes

or-is : (a b z : ℕ) → bit_or (a % 2 ^ 1) (b % 2 ^ 1) ≡ z → z ≤ 1 → or_of Bool (pos a) (pos b) ≡ pos z
or-is a b z e le =
    ap (λ (m : ℕ). wrap_of Bool (pos (bit_or m (pattern_of Bool (pos b))))) (pattern-pos 1 a)
    ∙ ap (λ (m : ℕ). wrap_of Bool (pos (bit_or (a % 2 ^ 1) m))) (pattern-pos 1 b)
    ∙ ap (λ (m : ℕ). wrap_of Bool (pos m)) e
    ∙ own Bool (pos z) (bit-range z le)

either : (b c : Truth) → is_true (or_of Bool (number_of b) (number_of c)) ≡ b || c
either true true = ap is_true (or-is 1 1 1 refl (omega arith))
either true false = ap is_true (or-is 1 0 1 refl (omega arith))
either false true = ap is_true (or-is 0 1 1 refl (omega arith))
either false false = ap is_true (or-is 0 0 0 refl (omega arith))

outside : (low high v : ℤ) → (int_lt v low || int_lt high v) ≡ not (int_le low v && int_le v high)
outside low high v =
    lead (int_lt v low) (int_lt high v) (int_le low v) (int_le v high) (not-less low v) (not-less v high)
  where
    lead : (b c d e : Truth) → d ≡ not b → e ≡ not c → (b || c) ≡ not (d && e)
    lead true c d e p q = ap (λ (x : Truth). not (x && e)) (sym p)
    lead false true d e p q = sym (ap (λ (x : Truth). not (x && e)) p ∙ ap not q)
    lead false false d e p q = sym (ap (λ (x : Truth). not (x && e)) p ∙ ap not q)

pub indexes_hold : IndexesHold
indexes_hold = record {
  outside = λ w i low high. either (int_lt (value_of w i) low) (int_lt high (value_of w i)) ∙ outside low high (value_of w i);
  is_index = λ w i v. true-number (int_eq (value_of w i) v);
}
