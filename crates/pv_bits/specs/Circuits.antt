-- The circuits of words: which gates, and in which order. A word is a list of literals, the least bit first.
use Rattle.std.specs.Prelude.{ℕ, ◌+◌, ◌-◌, ◌/◌, ℤ, neg_ℤ, pos, Bool, true, false, List, [], ◌∷◌, ◌++◌, length, take, drop, map, reverse, replicate, min, slice_index_or}
use Rattle.pv_gate.specs.Node.{true_literal, false_literal}
use Rattle.pv_gate.specs.Building.{Building, done, and_then, make_and, make_or, make_xor, make_mux, each, pairs}

abbrev pub Word : Type 0
Word = List ℤ

-- so many times constant false
abbrev pub falses : ℕ → Word
falses n = replicate n false_literal

-- the complement of each bit
abbrev pub complements : Word → Word
complements bits = map (λ b. neg_ℤ b) bits

-- the highest bit
abbrev pub top : Word → ℤ
top bits = slice_index_or bits (length bits - 1) (pos 0)

-- all bits but the highest
abbrev pub below_top : Word → Word
below_top bits = take (length bits - 1) bits

-- ---- equal, less, select

unfoldable pub equal_bit : ℤ → ℤ × ℤ → Building ℤ
equal_bit so_far p = and_then (make_xor p.0 p.1) (λ differ. make_and so_far (neg_ℤ differ))

unfoldable pub equal : Word → Word → Building ℤ
equal a b = each equal_bit true_literal (pairs a b)

-- where the bits differ it is the second one that decides
unfoldable pub less_bit : ℤ → ℤ × ℤ → Building ℤ
less_bit so_far p = and_then (make_xor p.0 p.1) (λ differ. make_mux differ p.1 so_far)

unfoldable pub less_unsigned : Word → Word → Building ℤ
less_unsigned a b = each less_bit false_literal (pairs a b)

-- the highest bits are complemented
unfoldable pub less_signed : Word → Word → Building ℤ
less_signed a b =
    and_then (less_unsigned (below_top a) (below_top b)) (λ so_far.
    less_bit so_far (neg_ℤ (top a), neg_ℤ (top b)))

unfoldable pub less : Bool → Word → Word → Building ℤ
less true a b = less_signed a b
less false a b = less_unsigned a b

unfoldable pub select_bit : ℤ → Word → ℤ × ℤ → Building Word
select_bit s so_far p = and_then (make_mux s p.0 p.1) (λ bit. done (so_far ++ bit ∷ []))

-- a where s, else b
unfoldable pub select : ℤ → Word → Word → Building Word
select s a b = each (select_bit s) [] (pairs a b)

-- ---- shifts, which take no gate

abbrev pub shifted : Bool → Word → ℕ → Word
shifted true a n = falses (min n (length a)) ++ take (length a - min n (length a)) a
shifted false a n = drop (min n (length a)) a ++ falses (min n (length a))

-- ---- sums

-- the sum bit and the carry of three bits
unfoldable pub full_adder : ℤ → ℤ → ℤ → Building (ℤ × ℤ)
full_adder a b carry =
    and_then (make_xor a b) (λ differ.
    and_then (make_xor differ carry) (λ sum.
    and_then (make_and a b) (λ both.
    and_then (make_and differ carry) (λ one.
    and_then (make_or both one) (λ next.
    done (sum, next))))))

-- the sum so far and the carry
unfoldable pub adder_bit : Word × ℤ → ℤ × ℤ → Building (Word × ℤ)
adder_bit s p = and_then (full_adder p.0 p.1 s.1) (λ o. done (s.0 ++ o.0 ∷ [], o.1))

unfoldable pub adder : Word → Word → ℤ → Building Word
adder a b carry = and_then (each adder_bit ([], carry) (pairs a b)) (λ s. done s.0)

unfoldable pub subtract : Word → Word → Building Word
subtract a b = adder a (complements b) true_literal

unfoldable pub negate : Word → Building Word
negate a = subtract (falses (length a)) a

-- ---- products

unfoldable pub and_bit : ℤ → Word → ℤ → Building Word
and_bit b so_far a = and_then (make_and a b) (λ bit. done (so_far ++ bit ∷ []))

-- each bit and b
unfoldable pub and_each : Word → ℤ → Building Word
and_each a b = each (and_bit b) [] a

-- the sum so far and the first factor as it is shifted by now
unfoldable pub multiply_bit : Word × Word → ℤ → Building (Word × Word)
multiply_bit s b =
    and_then (and_each s.1 b) (λ part.
    and_then (adder s.0 part false_literal) (λ sum.
    done (sum, shifted true s.1 1)))

unfoldable pub multiply : Word → Word → Building Word
multiply a b = and_then (each multiply_bit (falses (length a), a) b) (λ s. done s.0)

-- ---- quotients

-- what is left of the dividend, with one bit more than the divisor, shifts left and takes the
-- dividend's next bit
abbrev pub taken : ℤ → Word → Word
taken bit left = bit ∷ below_top left

-- a bit of the quotient, and what is left
unfoldable pub divide_step : Word → Word → ℤ → Building (ℤ × Word)
divide_step wide left bit =
    and_then (less_unsigned (taken bit left) wide) (λ below.
    and_then (subtract (taken bit left) wide) (λ difference.
    and_then (select (neg_ℤ below) difference (taken bit left)) (λ next.
    done (neg_ℤ below, next))))

-- the quotient so far, and what is left
unfoldable pub divide_bit : Word → Word × Word → ℤ → Building (Word × Word)
divide_bit wide s bit = and_then (divide_step wide s.1 bit) (λ o. done (o.0 ∷ s.0, o.1))

-- quotient and remainder, from the dividend's highest bit on
unfoldable pub divide_unsigned : Word → Word → Building (Word × Word)
divide_unsigned a b =
    and_then (each (divide_bit (b ++ false_literal ∷ [])) ([], falses (length a + 1)) (reverse a)) (λ s.
    done (s.0, below_top s.1))

-- the negated number where s
unfoldable pub negate_if : ℤ → Word → Building Word
negate_if s a = and_then (negate a) (λ minus. select s minus a)

-- the division of the magnitudes
unfoldable pub divide_magnitudes : Word → Word → Building (Word × Word)
divide_magnitudes a b =
    and_then (negate_if (top a) a) (λ dividend.
    and_then (negate_if (top b) b) (λ divisor.
    divide_unsigned dividend divisor))

-- the quotient is negated where the signs differ, and the remainder where the dividend's is true
unfoldable pub put_back : ℤ → ℤ → Word × Word → Building (Word × Word)
put_back dividend divisor d =
    and_then (make_xor dividend divisor) (λ differ.
    and_then (negate_if differ d.0) (λ quotient.
    and_then (negate_if dividend d.1) (λ remainder.
    done (quotient, remainder))))

-- the magnitudes are divided, and the signs put back
unfoldable pub divide_signed : Word → Word → Building (Word × Word)
divide_signed a b = and_then (divide_magnitudes a b) (λ d. put_back (top a) (top b) d)

unfoldable pub divide : Bool → Word → Word → Building (Word × Word)
divide true a b = divide_signed a b
divide false a b = divide_unsigned a b

-- ---- overflow

-- what stands above a word: its highest bit again, or constant false above a number from 0
abbrev pub sign : Bool → Word → ℤ
sign true a = top a
sign false a = false_literal

-- the word with one bit more
abbrev pub wider : Bool → Word → Word
wider signed a = a ++ sign signed a ∷ []

-- whether a result with one bit more doesn't fit without it: its two highest bits differ, or from 0
-- the highest one is true
unfoldable pub past : Bool → Word → Building ℤ
past true result = make_xor (top (below_top result)) (top result)
past false result = done (top result)

unfoldable pub sum_overflow : Bool → Word → Word → Building ℤ
sum_overflow signed a b =
    and_then (adder (wider signed a) (wider signed b) false_literal) (λ sum. past signed sum)

unfoldable pub difference_overflow : Bool → Word → Word → Building ℤ
difference_overflow signed a b =
    and_then (subtract (wider signed a) (wider signed b)) (λ difference. past signed difference)

-- the lower half, with its highest bit in each place above
abbrev pub from_half : Word → Word
from_half a =
    take (length a / 2) a ++ replicate (length a - length a / 2) (top (take (length a / 2) a))

-- the product isn't what its lower half stands for
unfoldable pub product_overflow : Word → Word → Building ℤ
product_overflow a b =
    and_then (multiply a b) (λ product.
    and_then (equal product (from_half product)) (λ fits.
    done (neg_ℤ fits)))
