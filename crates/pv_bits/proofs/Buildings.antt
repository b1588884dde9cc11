-- Each circuit adds gates to those that are there, and made once it is found again.
use Rattle.std.proofs.Common.{ℤ, neg_ℤ, Bool, true, false}
use Rattle.pv_gate.specs.Building.{IsBuilding}
use Rattle.pv_gate.proofs.ForCallers.{building_done, building_then, building_and, building_or, building_xor, building_mux, building_each}
use Rattle.pv_bits.specs.Circuits.{Word, equal_bit, equal, less_bit, less_unsigned, less_signed, less, select_bit, select, full_adder, adder_bit, adder, subtract, negate, and_bit, and_each, multiply_bit, multiply, divide_step, divide_bit, divide_unsigned, negate_if, divide_magnitudes, put_back, divide_signed, divide, past, sum_overflow, difference_overflow, product_overflow}

pub building_equal_bit : (s : ℤ) (p : ℤ × ℤ) → IsBuilding (equal_bit s p)
unfolding equal_bit
building_equal_bit s p = building_then _ _ (building_xor p.0 p.1) (λ d. building_and s (neg_ℤ d))

pub building_equal : (a b : Word) → IsBuilding (equal a b)
unfolding equal
building_equal a b = building_each equal_bit building_equal_bit _ _

pub building_less_bit : (s : ℤ) (p : ℤ × ℤ) → IsBuilding (less_bit s p)
unfolding less_bit
building_less_bit s p = building_then _ _ (building_xor p.0 p.1) (λ d. building_mux d p.1 s)

pub building_less_unsigned : (a b : Word) → IsBuilding (less_unsigned a b)
unfolding less_unsigned
building_less_unsigned a b = building_each less_bit building_less_bit _ _

pub building_less_signed : (a b : Word) → IsBuilding (less_signed a b)
unfolding less_signed
building_less_signed a b = building_then _ _ (building_less_unsigned _ _) (λ s. building_less_bit s _)

pub building_less : (signed : Bool) (a b : Word) → IsBuilding (less signed a b)
unfolding less
building_less true a b = building_less_signed a b
building_less false a b = building_less_unsigned a b

pub building_select_bit : (s : ℤ) (w : Word) (p : ℤ × ℤ) → IsBuilding (select_bit s w p)
unfolding select_bit
building_select_bit s w p = building_then _ _ (building_mux s p.0 p.1) (λ b. building_done _)

pub building_select : (s : ℤ) (a b : Word) → IsBuilding (select s a b)
unfolding select
building_select s a b = building_each (select_bit s) (building_select_bit s) _ _

pub building_full_adder : (a b c : ℤ) → IsBuilding (full_adder a b c)
unfolding full_adder
building_full_adder a b c =
    building_then _ _ (building_xor a b) (λ x. building_then _ _ (building_xor x c) (λ sum. building_then _ _ (building_and a b) (λ both.
    building_then _ _ (building_and x c) (λ one. building_then _ _ (building_or both one) (λ next. building_done _)))))

pub building_adder_bit : (s : Word × ℤ) (p : ℤ × ℤ) → IsBuilding (adder_bit s p)
unfolding adder_bit
building_adder_bit s p = building_then _ _ (building_full_adder p.0 p.1 s.1) (λ o. building_done _)

pub building_adder : (a b : Word) (carry : ℤ) → IsBuilding (adder a b carry)
unfolding adder
building_adder a b carry = building_then _ _ (building_each adder_bit building_adder_bit _ _) (λ s. building_done _)

pub building_subtract : (a b : Word) → IsBuilding (subtract a b)
unfolding subtract
building_subtract a b = building_adder _ _ _

pub building_negate : (a : Word) → IsBuilding (negate a)
unfolding negate
building_negate a = building_subtract _ _

pub building_and_bit : (b : ℤ) (w : Word) (a : ℤ) → IsBuilding (and_bit b w a)
unfolding and_bit
building_and_bit b w a = building_then _ _ (building_and a b) (λ bit. building_done _)

pub building_and_each : (a : Word) (b : ℤ) → IsBuilding (and_each a b)
unfolding and_each
building_and_each a b = building_each (and_bit b) (building_and_bit b) _ _

pub building_multiply_bit : (s : Word × Word) (b : ℤ) → IsBuilding (multiply_bit s b)
unfolding multiply_bit
building_multiply_bit s b = building_then _ _ (building_and_each s.1 b) (λ part. building_then _ _ (building_adder _ _ _) (λ sum. building_done _))

pub building_multiply : (a b : Word) → IsBuilding (multiply a b)
unfolding multiply
building_multiply a b = building_then _ _ (building_each multiply_bit building_multiply_bit _ _) (λ s. building_done _)

pub building_divide_step : (wide left : Word) (bit : ℤ) → IsBuilding (divide_step wide left bit)
unfolding divide_step
building_divide_step wide left bit =
    building_then _ _ (building_less_unsigned _ _) (λ below. building_then _ _ (building_subtract _ _) (λ difference.
    building_then _ _ (building_select _ _ _) (λ next. building_done _)))

pub building_divide_bit : (wide : Word) (s : Word × Word) (bit : ℤ) → IsBuilding (divide_bit wide s bit)
unfolding divide_bit
building_divide_bit wide s bit = building_then _ _ (building_divide_step wide s.1 bit) (λ o. building_done _)

pub building_divide_unsigned : (a b : Word) → IsBuilding (divide_unsigned a b)
unfolding divide_unsigned
building_divide_unsigned a b = building_then _ _ (building_each _ (building_divide_bit _) _ _) (λ s. building_done _)

pub building_negate_if : (s : ℤ) (a : Word) → IsBuilding (negate_if s a)
unfolding negate_if
building_negate_if s a = building_then _ _ (building_negate a) (λ minus. building_select _ _ _)

pub building_divide_magnitudes : (a b : Word) → IsBuilding (divide_magnitudes a b)
unfolding divide_magnitudes
building_divide_magnitudes a b =
    building_then _ _ (building_negate_if _ a) (λ dividend. building_then _ _ (building_negate_if _ b) (λ divisor. building_divide_unsigned _ _))

pub building_put_back : (s t : ℤ) (d : Word × Word) → IsBuilding (put_back s t d)
unfolding put_back
building_put_back s t d =
    building_then _ _ (building_xor s t) (λ differ. building_then _ _ (building_negate_if _ _) (λ quotient.
    building_then _ _ (building_negate_if _ _) (λ remainder. building_done _)))

pub building_divide_signed : (a b : Word) → IsBuilding (divide_signed a b)
unfolding divide_signed
building_divide_signed a b = building_then _ _ (building_divide_magnitudes a b) (λ d. building_put_back _ _ d)

pub building_divide : (signed : Bool) (a b : Word) → IsBuilding (divide signed a b)
unfolding divide
building_divide true a b = building_divide_signed a b
building_divide false a b = building_divide_unsigned a b

pub building_past : (signed : Bool) (r : Word) → IsBuilding (past signed r)
unfolding past
building_past true r = building_xor _ _
building_past false r = building_done _

pub building_sum_overflow : (signed : Bool) (a b : Word) → IsBuilding (sum_overflow signed a b)
unfolding sum_overflow
building_sum_overflow signed a b = building_then _ _ (building_adder _ _ _) (λ sum. building_past signed sum)

pub building_difference_overflow : (signed : Bool) (a b : Word) → IsBuilding (difference_overflow signed a b)
unfolding difference_overflow
building_difference_overflow signed a b = building_then _ _ (building_subtract _ _) (λ difference. building_past signed difference)

pub building_product_overflow : (a b : Word) → IsBuilding (product_overflow a b)
unfolding product_overflow
building_product_overflow a b =
    building_then _ _ (building_multiply a b) (λ product. building_then _ _ (building_equal _ _) (λ fits. building_done _))
