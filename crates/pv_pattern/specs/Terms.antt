-- Terms over visible cells: their values, the cells that they read, and which expression one is.
use Rattle.std.specs.Prelude.{◌≡◌, ℕ, ◌-◌, ◌==◌, ◌<◌, ◌≤◌, ◌^◌, nat_le, nat_lt, ℤ, pos, neg_ℤ, ◌≤ℤ◌, ◌<ℤ◌, [], Bool, false, ◌&&◌, ◌||◌}
use Rattle.std.specs.List.{list_any}
use Rattle.pv_word.specs.declared.types.Ty.TheVariants.{Byte as A_byte}
use Rattle.pv_word.specs.Types.{wrap_of, pattern_of, bit_of}
use Rattle.pv_place.specs.declared.place.Place.{Place}
use Rattle.pv_tree.specs.Tree.{ExprTree}
use Rattle.pv_mean.specs.Sources.{Source}
use Rattle.pv_mean.specs.Frames.{Frame, visible_value}
use Rattle.pv_mean.specs.Endings.{Value, got, trap}
use Rattle.pv_mean.specs.Spots.{number_of_bytes}
use Rattle.pv_mean.specs.Values.{is_true}
use Rattle.pv_mean.specs.Scans.{Visible, pattern_value}
use Rattle.pv_eval.specs.Operators.{one_result, two_result, three_result}
use Rattle.pv_pattern.specs.declared.term.Term.{Term, Constant, Cell, Bit, Byte, Word, Double, One', Two', Three'}
use Rattle.pv_pattern.specs.Reads.{cells_read}

-- 64 bits hold the number, as they do each value of a type
abbrev pub IsStored : ℤ → Type 0
IsStored v = (neg_ℤ (pos (2 ^ 63)) ≤ℤ v) × (v <ℤ pos (2 ^ 63))

-- the frame in which a pattern's expressions have their values
abbrev pub frame_by : Visible → Frame
frame_by values = record { visible = values; brief = [] }

-- ---- values

-- the number that is got; a pattern's expression doesn't trap
abbrev pub number_in : Value → ℤ
number_in (got v) = v
number_in (trap kind place) = pos 0

-- the place of a trap that doesn't come
abbrev pub no_place : Place
no_place = record { file = 0; offset = 0 }

abbrev pub term_value : Visible → Term → ℤ
term_value values (Constant v) = v
term_value values (Cell n) = visible_value (frame_by values) n
term_value values (Bit n b) = pos (bit_of A_byte (visible_value (frame_by values) n) b)
term_value values (Byte n) = pos (pattern_of A_byte (visible_value (frame_by values) n))
term_value values (Word ty n) = wrap_of ty (pos (number_of_bytes (frame_by values) n 2 0))
term_value values (Double ty n) = wrap_of ty (pos (number_of_bytes (frame_by values) n 4 0))
term_value values (One' op ty p arg) = one_result op ty (term_value values arg)
term_value values (Two' op ty p left q right) =
    number_in (two_result op ty no_place (term_value values left) (term_value values right))
term_value values (Three' op p first q second r third) =
    three_result op (term_value values first) (term_value values second)
    (term_value values third)

abbrev pub is_true_term : Visible → Term → Bool
is_true_term values t = is_true (term_value values t)

-- ---- cells

-- one of so many numbers from this one on
abbrev pub is_among : ℕ → ℕ → ℕ → Bool
is_among n first count = nat_le first n && nat_lt (n - first) count

abbrev pub term_reads : ℕ → Term → Bool
term_reads n (Constant v) = false
term_reads n (Cell m) = n == m
term_reads n (Bit m b) = n == m
term_reads n (Byte m) = n == m
term_reads n (Word ty m) = is_among n m 2
term_reads n (Double ty m) = is_among n m 4
term_reads n (One' op ty p arg) = term_reads n arg
term_reads n (Two' op ty p left q right) = term_reads n left || term_reads n right
term_reads n (Three' op p first q second r third) =
    term_reads n first || (term_reads n second || term_reads n third)

-- ---- which expression a term is

-- it has the expression's value, whatever values the visible cells have, and it reads the cells that the expression reads
pub record IsTermOf (source : Source) (t : Term) (e : ExprTree) : Type 0 where
  pub value : (values : Visible) → pattern_value source values e ≡ got (term_value values t)
  pub reads : (n : ℕ) → term_reads n t ≡ list_any (λ m. n == m) (cells_read source e)
