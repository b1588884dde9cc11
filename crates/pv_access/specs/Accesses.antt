-- Reads and writes of what an operand names, as terms and sets of an automaton's variables. Indexes move what is named among elements:
-- reading is the element at the lowest index and a choice for each further one, writing sets each element, to the value or to itself. A
-- bit is one of its byte, and bytes in a row are the pattern of a BYTE, WORD or DWORD, the high byte first. (After this project's own
-- circuits of array reads and writes; areas as in the manual S7-SCL for S7-300/S7-400, "Global Data".)
use Rattle.std.specs.Prelude.{ℕ, zero, suc, ◌+◌, ◌*◌, ◌^◌, nat_le, ℤ, pos, ◌+ℤ◌, ◌-ℤ◌, unsigned_abs, List, [], ◌∷◌, ◌++◌, Bool as Truth, true, false, if◌then◌else◌, ◌==◌}
use Rattle.pv_word.specs.declared.types.Ty.{Ty}
use Rattle.pv_word.specs.declared.types.Ty.TheVariants.{Bool, Byte, Word, Dword}
use Rattle.pv_place.specs.declared.place.Place.{Place}
use Rattle.pv_place.specs.declared.trap.TrapKind.{TrapKind}
use Rattle.pv_place.specs.declared.trap.TrapKind.TheVariants.{Unset}
use Rattle.pv_flow.specs.declared.op.UnaryOp.TheVariants.{Left, Right}
use Rattle.pv_flow.specs.declared.op.BinaryOp.TheVariants.{And, Or}
use Rattle.pv_flow.specs.Terms.{Term, constant, variable, unary, binary, select}
use Rattle.pv_flow.specs.Automata.{Set}
use Rattle.pv_terms.specs.Forms.{converted, yes_term, not_term, is_index_term}
use Rattle.pv_access.specs.declared.access.Storage.{Storage}
use Rattle.pv_access.specs.declared.access.Storage.TheVariants.{Cell, Brief, Bit, Bytes, Fixed, Nowhere}

-- what stops a scan where it is true
pub record Check : Type 0 where
  pub term : Term
  pub kind : TrapKind
  pub place : Place

-- an index, a DINT, moves what is named among elements, each of so many cells
pub record Move : Type 0 where
  pub index : Term
  pub low : ℤ
  pub high : ℤ
  pub stride : ℕ

-- ---- elements

-- from the lowest index to the highest there are so many steps
abbrev pub steps_of : Move → ℕ
steps_of m = unsigned_abs (m.high -ℤ m.low)

abbrev pub index_at : Move → ℕ → ℤ
index_at m k = m.low +ℤ pos k

abbrev pub is_at : Move → ℕ → Term
is_at m k = is_index_term m.index (index_at m k)

-- the term of the first element, and for each further one up to the k-th a choice
abbrev pub chosen_up : Ty → Move → (ℕ → Term) → ℕ → Term
chosen_up ty m element zero = element zero
chosen_up ty m element (suc k) = select ty (is_at m (suc k)) (element (suc k)) (chosen_up ty m element k)

-- the variable n, moved; a cell takes so many variables
abbrev pub element_term : Ty → ℕ → List Move → ℕ → Term
element_term ty width [] n = variable n
element_term ty width (m ∷ more) n =
    chosen_up ty m (λ k. element_term ty width more (n + k * (m.stride * width))) (steps_of m)

-- what is put where all conditions hold, and else what was there
abbrev pub where_all : Ty → List Term → Term → Term → Term
where_all ty [] new old = new
where_all ty (c ∷ conditions) new old = select ty c (where_all ty conditions new old) old

abbrev pub set_of : ℕ → Term → Set
set_of n t = record { variable = n; value = t }

-- what a write puts, by what was there: the value, and whether there is one
pub record Writing : Type 0 where
  pub value : Term → Term
  pub present : Term → Term

-- an assignment puts this value whatever was there
abbrev pub assigning : Term → Writing
assigning t = record { value = λ old. t; present = λ old. yes_term }

-- yes where the first is true, and else the second
abbrev pub yes_where : Term → Term → Term
yes_where on old = select Bool on yes_term old

-- where the first term is true the second is put, a BOOL, and else what was there
abbrev pub choosing : Term → Term → Writing
choosing on t = record { value = λ old. select Bool on t old; present = λ old. yes_where on old }

-- what is put into variable n, where all conditions hold
abbrev pub new_value : Ty → List Term → ℕ → Writing → Term
new_value ty conditions n w = where_all ty conditions (w.value (variable n)) (variable n)

abbrev pub new_present : List Term → ℕ → Writing → Term
new_present conditions n w = where_all Bool conditions (w.present (variable n)) (variable n)

abbrev pub value_set : Ty → List Term → ℕ → Writing → Set
value_set ty conditions n w = set_of n (new_value ty conditions n w)

abbrev pub present_set : List Term → ℕ → Writing → Set
present_set conditions n w = set_of n (new_present conditions n w)

-- a cell's variable, and the 'set' of a brief one, which is the next
abbrev pub cell_sets : Truth → Ty → List Term → ℕ → Writing → List Set
cell_sets false ty conditions n w = value_set ty conditions n w ∷ []
cell_sets true ty conditions n w = value_set ty conditions n w ∷ present_set conditions (suc n) w ∷ []

-- so many variables each cell takes
abbrev pub width_of : Truth → ℕ
width_of false = 1
width_of true = 2

-- those of each of the first k elements
abbrev pub each_below : (ℕ → List Set) → ℕ → List Set
each_below sets zero = []
each_below sets (suc k) = each_below sets k ++ sets k

abbrev pub element_sets : Truth → Ty → Writing → List Term → List Move → ℕ → List Set
element_sets paired ty w conditions [] n = cell_sets paired ty conditions n w
element_sets paired ty w conditions (m ∷ more) n =
    each_below (λ k. element_sets paired ty w (conditions ++ is_at m k ∷ []) more
    (n + k * (m.stride * width_of paired))) (suc (steps_of m))

-- ---- bits and bytes

abbrev pub left_by : Ty → ℕ → Term → Term
left_by ty n t = if n == 0 then t else unary (Left n) ty t

abbrev pub right_by : Ty → ℕ → Term → Term
right_by ty n t = if n == 0 then t else unary (Right n) ty t

abbrev pub bit_term : ℕ → ℕ → Term
bit_term n b = converted Byte Bool (right_by Byte b (variable n))

-- a byte with bit b left out
abbrev pub others_term : ℕ → ℕ → Term
others_term n b = binary And Byte (variable n) (constant Byte (pos 255 -ℤ pos (2 ^ b)))

abbrev pub wide_bit : Term → Term
wide_bit t = converted Bool Byte t

-- and with the value in its place
abbrev pub with_bit_term : ℕ → ℕ → Term → Term
with_bit_term n b t = binary Or Byte (others_term n b) (left_by Byte b (wide_bit t))

-- the byte in variable n, so many bytes from the lowest
abbrev pub byte_term : Ty → ℕ → ℕ → Term
byte_term ty n k = left_by ty (8 * k) (converted Byte ty (variable n))

-- those of so many bytes from variable n on, behind the pattern of those before
abbrev pub bytes_behind : Ty → ℕ → ℕ → Term → Term
bytes_behind ty n zero before = before
bytes_behind ty n (suc count) before = bytes_behind ty (suc n) count (binary Or ty before (byte_term ty n count))

-- the type of the pattern that so many bytes are
abbrev pub pattern_type : ℕ → Ty
pattern_type count = if nat_le count 1 then Byte else (if nat_le count 2 then Word else Dword)

abbrev pub pattern_term : Ty → ℕ → ℕ → Term
pattern_term ty n zero = constant ty (pos 0)
pattern_term ty n (suc count) = bytes_behind ty (suc n) count (byte_term ty n count)

abbrev pub bytes_term : Ty → ℕ → ℕ → Term
bytes_term ty n count = converted (pattern_type count) ty (pattern_term (pattern_type count) n count)

-- the byte of a pattern that is so many bytes from the lowest
abbrev pub byte_set : Ty → ℕ → ℕ → Term → Set
byte_set ty n k value = set_of n (converted ty Byte (right_by ty (8 * k) value))

abbrev pub pattern_sets : Ty → ℕ → ℕ → Term → List Set
pattern_sets ty n zero value = []
pattern_sets ty n (suc count) value = byte_set ty n count value ∷ pattern_sets ty (suc n) count value

abbrev pub byte_sets : Ty → ℕ → ℕ → Term → List Set
byte_sets ty n count value =
    pattern_sets (pattern_type count) n count (converted ty (pattern_type count) value)

-- ---- reads and writes

-- what is read; a constant has the type of the operand
abbrev pub read_term : Ty → Storage → List Move → Term
read_term ty (Cell own n) moves = element_term own 1 moves n
read_term ty (Brief own n) moves = element_term own 2 moves n
read_term ty (Bit n b) moves = bit_term n b
read_term ty (Bytes own n count) moves = bytes_term own n count
read_term ty (Fixed v) moves = constant ty v
read_term ty Nowhere moves = constant ty (pos 0)

-- a brief cell may have no value
abbrev pub lacks_term : List Move → ℕ → Term
lacks_term moves n = not_term (element_term Bool 2 moves (suc n))

abbrev pub unset_check : List Move → ℕ → Place → Check
unset_check moves n place = record { term = lacks_term moves n; kind = Unset; place = place }

abbrev pub unset_checks : Storage → List Move → Place → List Check
unset_checks (Cell ty n) moves place = []
unset_checks (Brief ty n) moves place = unset_check moves n place ∷ []
unset_checks (Bit n b) moves place = []
unset_checks (Bytes ty n count) moves place = []
unset_checks (Fixed v) moves place = []
unset_checks Nowhere moves place = []

-- what is set where it is written; a constant is written nowhere
abbrev pub write_sets : Storage → List Move → Writing → List Set
write_sets (Cell ty n) moves w = element_sets false ty w [] moves n
write_sets (Brief ty n) moves w = element_sets true ty w [] moves n
write_sets (Bit n b) moves w = set_of n (with_bit_term n b (w.value (bit_term n b))) ∷ []
write_sets (Bytes ty n count) moves w = byte_sets ty n count (w.value (bytes_term ty n count))
write_sets (Fixed v) moves w = []
write_sets Nowhere moves w = []
