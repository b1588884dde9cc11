-- The accumulators (the reference manual Statement List (STL) for S7-300/S7-400, "Integer Math", "Comparison", "Word Logic", "Shift
-- and Rotate", "Conversion" and "Accumulator Instructions"): what each instruction does to them and to the condition codes. What it
-- reads it reads before it divides.
use Rattle.std.specs.Prelude.{ℕ, ◌+◌, ◌*◌, ◌/◌, ℤ, pos, ◌-ℤ◌, ◌*ℤ◌, int_lt, int_le, Bool as Truth, true, false, not, Option, Some, None}
use Rattle.std.specs.Ordering.{int_eq}
use Rattle.pv_word.specs.declared.types.Ty.{Ty}
use Rattle.pv_word.specs.declared.types.Ty.TheVariants.{Word as WordType, Dword, Int, Dint}
use Rattle.pv_word.specs.Types.{wrap_of, pattern_of}
use Rattle.pv_word.specs.Division.{quotient, remainder}
use Rattle.pv_place.specs.declared.place.Place.{Place}
use Rattle.pv_place.specs.declared.trap.TrapKind.TheVariants.{DivideByZero}
use Rattle.pv_mean.specs.Endings.{Tried, got, trap, and_then}
use Rattle.pv_mean.specs.Registers.{Codes, Registers, no_codes, had, resulting, with_logic, with_accu1, with_accu2, with_codes}

-- the low word of an accumulator, or the whole
pub data Part : Type 0 where
  low : Part
  whole : Part

-- the types of its numbers, with a sign and without
abbrev pub signed : Part → Ty
signed low = Int
signed whole = Dint

abbrev pub unsigned : Part → Ty
unsigned low = WordType
unsigned whole = Dword

-- the number of a high and a low word
abbrev pub of_words : ℕ → ℕ → ℤ
of_words high lower = pos (high * 65536 + lower)

-- the part takes a number's bits, and a low word leaves the high one
abbrev pub put : Part → ℤ → ℤ → ℤ
put low a v = of_words (pattern_of Dword a / 65536) (pattern_of WordType v)
put whole a v = wrap_of Dword v

-- ---- condition codes

-- CC1 and CC0 by a number: 00 for zero, 01 for one below, 10 for one above
abbrev pub codes_by : Truth → ℤ → Codes
codes_by ov n = record { ov = Some ov; cc1 = Some (int_lt (pos 0) n); cc0 = Some (int_lt n (pos 0)) }

-- CC1 for a result that isn't 0; CC0 and OV are 0
abbrev pub codes_of_pattern : ℤ → Codes
codes_of_pattern n =
    record { ov = Some false; cc1 = Some (not (int_eq n (pos 0))); cc0 = Some false }

-- the type doesn't hold the number
abbrev pub overflows : Ty → ℤ → Truth
overflows ty n = not (int_eq (wrap_of ty n) n)

-- ---- arithmetic

-- the number of an accumulator's part, with its sign
abbrev pub number : Part → ℤ → ℤ
number part v = wrap_of (signed part) v

-- goes on with what ACCU2 and ACCU1 have
abbrev pub with_both : {A : Type 0} → Place → Registers → (ℤ → ℤ → Tried A) → Tried A
with_both place r next = and_then (had place r.accu2)
    (λ b. and_then (had place r.accu1) (λ a. next b a))

abbrev pub became : Registers → ℤ → Codes → Registers
became r a codes = with_codes (with_accu1 r (Some a)) codes

-- +I, -I, +D, -D: the part is the wrapped sum or difference
abbrev pub summed : (ℤ → ℤ → ℤ) → Part → Place → Registers → Tried Registers
summed op part place r = with_both place r (λ b a.
    let n = op (number part b) (number part a) in
    got (became r (put part a n) (codes_by (overflows (signed part) n) (number part n))))

-- *I: ACCU1 is the whole product
abbrev pub product_of_words : Place → Registers → Tried Registers
product_of_words place r = with_both place r (λ b a.
    let n = number low b *ℤ number low a in
    got (became r (wrap_of Dword n) (codes_by (overflows Int n) n)))

-- *D: ACCU1 is the wrapped product, and no code has a value
abbrev pub product : Place → Registers → Tried Registers
product place r = with_both place r (λ b a.
    got (became r (wrap_of Dword (number whole b *ℤ number whole a)) no_codes))

-- a divisor of zero traps
abbrev pub divided_by : {A : Type 0} → Place → ℤ → Tried A → Tried A
divided_by place divisor other = elim (int_eq divisor (pos 0)) [
  | true ↦ trap DivideByZero place
  | false ↦ other
]

-- the least number by -1: the type doesn't hold the quotient, and no code has a value
abbrev pub codes_of_quotient : Part → ℤ → Codes
codes_of_quotient part q = elim (overflows (signed part) q) [
  | true ↦ no_codes
  | false ↦ codes_by false q
]

-- /I: the low word is the quotient, the high word the remainder
abbrev pub quotient_of_words : Place → Registers → Tried Registers
quotient_of_words place r = with_both place r (λ b a. divided_by place (number low a)
    (let q = quotient (number low b) (number low a) in
    let rest = remainder (number low b) (number low a) in
    got (became r (of_words (pattern_of WordType rest) (pattern_of WordType q))
    (codes_of_quotient low q))))

-- /D
abbrev pub quotient_of_wholes : Place → Registers → Tried Registers
quotient_of_wholes place r = with_both place r (λ b a. divided_by place (number whole a)
    (let q = quotient (number whole b) (number whole a) in
    got (became r (wrap_of Dword q) (codes_of_quotient whole q))))

-- MOD
abbrev pub remainder_of_wholes : Place → Registers → Tried Registers
remainder_of_wholes place r = with_both place r (λ b a. divided_by place (number whole a)
    (let rest = remainder (number whole b) (number whole a) in
    got (became r (wrap_of Dword rest) (codes_by false rest))))

-- ---- comparisons

-- the RLO is what the comparison gives, whatever it was, and the codes are those of the difference
abbrev pub compared : (ℤ → ℤ → Truth) → Part → Place → Registers → Tried Registers
compared relation part place r = with_both place r (λ b a. got (with_codes
    (with_logic r (resulting true (relation (number part b) (number part a))))
    (codes_by false (number part b -ℤ number part a))))

abbrev pub is_not : ℤ → ℤ → Truth
is_not a b = not (int_eq a b)

abbrev pub is_above : ℤ → ℤ → Truth
is_above a b = int_lt b a

abbrev pub is_from : ℤ → ℤ → Truth
is_from a b = int_le b a

-- ---- words bit by bit, and shifts

-- the part of ACCU1 is joined to that of ACCU2, or to a literal
abbrev pub joined_word : (Ty → ℤ → ℤ → ℤ) → Part → Option ℤ → Place → Registers → Tried Registers
joined_word op part literal place r = and_then (had place r.accu1) (λ a. and_then (elim literal [
  | None ↦ had place r.accu2
  | Some v ↦ got v
]) (λ b. got (became r (put part a (op (unsigned part) a b))
    (codes_of_pattern (op (unsigned part) a b)))))

-- zeros come in, and no code has a value
abbrev pub shifted : (Ty → ℤ → ℕ → ℤ) → Part → ℕ → Place → Registers → Tried Registers
shifted op part count place r = and_then (had place r.accu1)
    (λ a. got (became r (put part a (op (unsigned part) a count)) no_codes))

-- ---- moves

-- ITD: the low word's number with its sign, as 32 bits
abbrev pub extended : Place → Registers → Tried Registers
extended place r = and_then (had place r.accu1)
    (λ a. got (with_accu1 r (Some (wrap_of Dword (number low a)))))

-- L: ACCU2 takes what ACCU1 has, a number or none
abbrev pub loaded : ℤ → Registers → Registers
loaded v r = with_accu1 (with_accu2 r r.accu1) (Some v)

-- TAK, PUSH, POP
abbrev pub swapped : Registers → Registers
swapped r = with_accu1 (with_accu2 r r.accu1) r.accu2

abbrev pub pushed : Registers → Registers
pushed r = with_accu2 r r.accu1

abbrev pub popped : Registers → Registers
popped r = with_accu1 r r.accu2

-- LOOP: the low word less 1
abbrev pub counted : ℤ → ℤ
counted a = wrap_of WordType (a -ℤ pos 1)
