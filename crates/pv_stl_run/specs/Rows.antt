-- The rows of the table that change the registers alone, by the code's names for them; and what instructions leave, as the
-- definitions have it.
use Rattle.std.specs.Prelude.{ℕ, ℤ, ◌+ℤ◌, ◌-ℤ◌, int_lt, int_le, Bool as Truth, false, Result, Ok, Err}
use Rattle.std.specs.Ordering.{int_eq}
use Rattle.pv_word.specs.declared.types.Ty.{Ty}
use Rattle.pv_word.specs.Types.{and_of, or_of, xor_of, shl_of, shr_of}
use Rattle.pv_place.specs.declared.place.Place.{Place}
use Rattle.pv_mean.specs.Endings.{Tried, got, trap, and_then}
use Rattle.pv_mean.specs.Registers as m
use Rattle.pv_mean.specs.Registers.{resulting, with_logic}
use Rattle.pv_mean.specs.BitLogic.{keep_or, open_nesting, close_nesting, negate_result}
use Rattle.pv_mean.specs.Accumulators.{summed, product_of_words, product, quotient_of_words, quotient_of_wholes, remainder_of_wholes, compared, is_not, is_above, is_from, joined_word, shifted, extended, loaded, swapped, pushed, popped}
use Rattle.pv_mean.specs.Instructions.{is_zero, is_not_zero, is_plus, is_minus, is_not_minus, is_not_plus}
use Rattle.pv_eval.specs.declared.trap.Trap.{Trap}
use Rattle.pv_stl_run.specs.declared.instr.Math.{Math}
use Rattle.pv_stl_run.specs.declared.instr.Math.TheVariants.{Sum, Difference, ProductOfWords, Product, QuotientOfWords, QuotientOfWholes, RemainderOfWholes}
use Rattle.pv_stl_run.specs.declared.instr.Relation.{Relation}
use Rattle.pv_stl_run.specs.declared.instr.Relation.TheVariants.{Equal, NotEqual, Greater, Less, GreaterEqual, LessEqual}
use Rattle.pv_stl_run.specs.declared.instr.Combining.{Combining}
use Rattle.pv_stl_run.specs.declared.instr.Combining.TheVariants as joined
use Rattle.pv_stl_run.specs.declared.instr.Shifting.{Shifting}
use Rattle.pv_stl_run.specs.declared.instr.Shifting.TheVariants.{Left, Right}
use Rattle.pv_stl_run.specs.declared.instr.Test.{Test}
use Rattle.pv_stl_run.specs.declared.instr.Test.TheVariants.{Zero, NotZero, Plus, Minus, NotMinus, NotPlus}
use Rattle.pv_stl_run.specs.declared.instr.Change.{Change}
use Rattle.pv_stl_run.specs.declared.instr.Change.TheVariants.{Nothing, KeepOr, Open, Close, Negate, Put, Load, Calculate, Compare, Combine, Shift, Extend, Swap, Push, Pop}
use Rattle.pv_stl_run.specs.declared.registers.Logic.{Logic}
use Rattle.pv_stl_run.specs.declared.registers.Registers.{Registers}
use Rattle.pv_stl_run.specs.Views.{part_of, logic_of, junction_of, registers_of}

abbrev pub math_row : Math → Place → m.Registers → Tried m.Registers
math_row (Sum part) place r = summed ◌+ℤ◌ (part_of part) place r
math_row (Difference part) place r = summed ◌-ℤ◌ (part_of part) place r
math_row ProductOfWords place r = product_of_words place r
math_row Product place r = product place r
math_row QuotientOfWords place r = quotient_of_words place r
math_row QuotientOfWholes place r = quotient_of_wholes place r
math_row RemainderOfWholes place r = remainder_of_wholes place r

abbrev pub relation_of : Relation → ℤ → ℤ → Truth
relation_of Equal b a = int_eq b a
relation_of NotEqual b a = is_not b a
relation_of Greater b a = is_above b a
relation_of Less b a = int_lt b a
relation_of GreaterEqual b a = is_from b a
relation_of LessEqual b a = int_le b a

abbrev pub combining_of : Combining → Ty → ℤ → ℤ → ℤ
combining_of joined.And ty a b = and_of ty a b
combining_of joined.Or ty a b = or_of ty a b
combining_of joined.Xor ty a b = xor_of ty a b

abbrev pub shift_of : Shifting → Ty → ℤ → ℕ → ℤ
shift_of Left ty a n = shl_of ty a n
shift_of Right ty a n = shr_of ty a n

abbrev pub test_of : Test → Truth → Truth → Truth
test_of Zero cc1 cc0 = is_zero cc1 cc0
test_of NotZero cc1 cc0 = is_not_zero cc1 cc0
test_of Plus cc1 cc0 = is_plus cc1 cc0
test_of Minus cc1 cc0 = is_minus cc1 cc0
test_of NotMinus cc1 cc0 = is_not_minus cc1 cc0
test_of NotPlus cc1 cc0 = is_not_plus cc1 cc0

-- the row of a change
abbrev pub row_of : Change → Place → m.Registers → Tried m.Registers
row_of Nothing place r = got r
row_of KeepOr place r = and_then (keep_or place r.logic) (λ l. got (with_logic r l))
row_of (Open j) place r = got (open_nesting (junction_of j) r)
row_of Close place r = close_nesting place r
row_of Negate place r = and_then (negate_result place r.logic) (λ l. got (with_logic r l))
row_of (Put bit) place r = got (with_logic r (resulting false bit))
row_of (Load v) place r = got (loaded v r)
row_of (Calculate op) place r = math_row op place r
row_of (Compare relation part) place r = compared (relation_of relation) (part_of part) place r
row_of (Combine op part literal) place r =
    joined_word (combining_of op) (part_of part) literal place r
row_of (Shift way part n) place r = shifted (shift_of way) (part_of part) n place r
row_of Extend place r = extended place r
row_of Swap place r = got (swapped r)
row_of Push place r = got (pushed r)
row_of Pop place r = got (popped r)

-- ---- what is left

-- the registers, or a trap
abbrev pub left_in : Result Unit Trap → Registers → Tried m.Registers
left_in (Ok done) r = got (registers_of r)
left_in (Err t) r = trap t.kind t.place

abbrev pub logic_in : Result Logic Trap → Tried m.Logic
logic_in (Ok l) = got (logic_of l)
logic_in (Err t) = trap t.kind t.place
