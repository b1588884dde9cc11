-- The table of instructions: one row each, from what a block works with to the same and where it goes on, or a trap at the
-- instruction's word. After the reference manual Statement List (STL) for S7-300/S7-400, "Bit Logic", "Load and Transfer", "Logic
-- Control" and "Program Control Instructions"; what is read and left in the status bits is this project's own.
use Rattle.std.specs.Prelude.{ℕ, ℤ, pos, ◌+ℤ◌, ◌-ℤ◌, unsigned_abs, int_lt, int_le, List, Bool as Truth, true, false, ◌&&◌, ◌||◌, not, Option, Some, None, unwrap_or, option_map}
use Rattle.std.specs.Ordering.{int_eq}
use Rattle.pv_word.specs.declared.types.Ty.{Ty}
use Rattle.pv_word.specs.declared.types.Ty.TheVariants.{Dint}
use Rattle.pv_word.specs.Types.{wrap_of, pattern_of, and_of, or_of, xor_of, shl_of, shr_of}
use Rattle.pv_place.specs.declared.place.Place.{Place}
use Rattle.pv_tree.specs.declared.instr.Op.{Op}
use Rattle.pv_tree.specs.declared.instr.Op.TheVariants as op
use Rattle.pv_tree.specs.Tree.{OperandTree, CallPlain, InstrTree}
use Rattle.pv_tree.specs.Callees.{CallSite}
use Rattle.pv_tree.specs.Sorts.{own_type}
use Rattle.pv_tree.specs.Literals.{type_alone}
use Rattle.pv_tree.specs.Types.{sort_of_operand}
use Rattle.pv_tree.specs.InstructionGroups.{label_of_jump}
use Rattle.pv_tree.specs.Parts.{how_of}
use Rattle.pv_mean.specs.Sources.{Source}
use Rattle.pv_mean.specs.Frames.{Frame}
use Rattle.pv_mean.specs.Endings.{Tried, got, and_then, Ended, ended, trapped, over, end_of, and_end}
use Rattle.pv_mean.specs.Spots.{Spot, nowhere, read_spot, write_spot}
use Rattle.pv_mean.specs.Activations.{Activation, scope_in}
use Rattle.pv_mean.specs.Values.{number_of, is_true, locate}
use Rattle.pv_mean.specs.Statements.{Calls}
use Rattle.pv_mean.specs.Placed.{call_placed}
use Rattle.pv_mean.specs.Registers.{Logic, by_and, by_or, by_xor, Junction, Registers, Working, fresh, had, result_of, resulting, with_logic, with_accu1}
use Rattle.pv_mean.specs.BitLogic.{join, keep_or, open_nesting, close_nesting, negate_result, edge}
use Rattle.pv_mean.specs.Accumulators.{low, whole, put, summed, product_of_words, product, quotient_of_words, quotient_of_wholes, remainder_of_wholes, compared, is_not, is_above, is_from, joined_word, shifted, extended, loaded, swapped, pushed, popped, counted}

-- where a block goes on: at the next instruction, at the label of this name, or nowhere, as it has ended
pub data Next : Type 0 where
  onward : Working → Next
  at_label : List ℕ → Working → Next
  left : Frame → Next

-- what an instruction does
abbrev pub Effect : Type 0
Effect = Working → Ended Next

-- ---- operands

-- the spot that the operand names
abbrev pub spot_behind : Source → Activation → Frame → InstrTree → Tried Spot
spot_behind source act frame i =
    elim i.operand [ None ↦ got nowhere | Some o ↦ locate source act frame o ]

-- the type of an operand; what breaks a rule has none, and then it doesn't matter
abbrev pub operand_type : Source → Activation → OperandTree → Ty
operand_type source act o = unwrap_or (own_type (sort_of_operand (scope_in source act) o)) Dint

abbrev pub type_behind : Source → Activation → InstrTree → Ty
type_behind source act i = elim i.operand [ None ↦ Dint | Some o ↦ operand_type source act o ]

abbrev pub bit_at : Frame → Place → Spot → Tried Truth
bit_at frame place spot = and_then (read_spot frame place spot) (λ v. got (is_true v))

abbrev pub bit_behind : Source → Activation → InstrTree → Frame → Tried Truth
bit_behind source act i frame =
    and_then (spot_behind source act frame i) (λ spot. bit_at frame i.place spot)

-- the bits that L loads, zeros above them: a literal's, or the operand's
abbrev pub loaded_number : Source → Activation → InstrTree → Frame → Tried ℤ
loaded_number source act i frame = elim i.literal [
  | Some l ↦ got (pos (pattern_of (type_alone l.ty l.value) l.value))
  | None ↦ and_then (spot_behind source act frame i) (λ spot. and_then (read_spot frame i.place spot)
      (λ v. got (pos (pattern_of (type_behind source act i) v))))
]

abbrev pub value_behind : InstrTree → Option ℤ
value_behind i = option_map (λ l. l.value) i.literal

-- the number of a shift's places
abbrev pub count_behind : InstrTree → ℕ
count_behind i = unsigned_abs (unwrap_or (value_behind i) (pos 0))

-- ---- effects

abbrev pub nothing : Effect
nothing w = ended (onward w)

abbrev pub goes_on : Tried Working → Ended Next
goes_on t = end_of (and_then t (λ w. got (onward w)))

abbrev pub with_registers : Working → Registers → Working
with_registers w r = record { registers = r; frame = w.frame }

-- on the registers alone
abbrev pub on_registers : (Registers → Tried Registers) → Effect
on_registers f w = goes_on (and_then (f w.registers) (λ r. got (with_registers w r)))

-- on the bits of the chain alone
abbrev pub on_logic : (Logic → Tried Logic) → Effect
on_logic f = on_registers (λ r. and_then (f r.logic) (λ l. got (with_logic r l)))

-- a bit is joined
abbrev pub joins : Source → Activation → InstrTree → Junction → Effect
joins source act i j w = end_of (and_then (bit_behind source act i w.frame)
    (λ b. and_then (join i.place j b w.registers.logic)
    (λ l. got (onward (with_registers w (with_logic w.registers l))))))

-- `=` writes the resulting, S and R write 1 or 0 where it is 1; a chain ends there
abbrev pub writes : Source → Activation → InstrTree → (Truth → Option Truth) → Effect
writes source act i written w = end_of (and_then (result_of i.place w.registers.logic)
    (λ e. and_then (spot_behind source act w.frame i) (λ spot. got (onward (record {
      registers = with_logic w.registers (resulting false e);
      frame = elim (written e) [
        | None ↦ w.frame
        | Some b ↦ write_spot source w.frame spot (number_of b)
      ];
    })))))

abbrev pub where_true : Truth → Truth → Option Truth
where_true b true = Some b
where_true b false = None

-- FP and FN: the operand holds the result of before
abbrev pub finds_edge : Source → Activation → InstrTree → Truth → Effect
finds_edge source act i rising w = end_of (and_then (result_of i.place w.registers.logic)
    (λ e. and_then (spot_behind source act w.frame i) (λ spot. and_then (bit_at w.frame i.place spot)
    (λ before. got (onward (record {
      registers = with_logic w.registers (resulting true (edge rising e before));
      frame = write_spot source w.frame spot (number_of e);
    }))))))

abbrev pub loads : Source → Activation → InstrTree → Effect
loads source act i w = goes_on (and_then (loaded_number source act i w.frame)
    (λ v. got (with_registers w (loaded v w.registers))))

-- T: the operand takes as many of ACCU1's low bits as it has
abbrev pub transfers : Source → Activation → InstrTree → Effect
transfers source act i w = goes_on (and_then (had i.place w.registers.accu1)
    (λ a. and_then (spot_behind source act w.frame i) (λ spot. got (record {
      registers = w.registers;
      frame = write_spot source w.frame spot (wrap_of (type_behind source act i) a);
    }))))

-- ---- jumps and ends

abbrev pub jump : InstrTree → Effect
jump i w = ended (elim (label_of_jump i) [
  | None ↦ onward w
  | Some l ↦ at_label l.0.key w
])

abbrev pub jump_where : InstrTree → Truth → Effect
jump_where i b w = elim b [
  | true ↦ jump i w
  | false ↦ nothing w
]

-- goes on with the resulting, which is 1 behind it as a chain ends there
abbrev pub by_result : InstrTree → Working → (Truth → Effect) → Ended Next
by_result i w next = and_end (end_of (result_of i.place w.registers.logic)) (λ e. next e
    (with_registers w (with_logic w.registers (resulting false true))))

-- jumps where the result is this
abbrev pub jump_by_result : InstrTree → Truth → Effect
jump_by_result i true w = by_result i w (λ e. jump_where i e)
jump_by_result i false w = by_result i w (λ e. jump_where i (not e))

-- jumps where CC1 and CC0 are such
abbrev pub jump_by_codes : InstrTree → (Truth → Truth → Truth) → Effect
jump_by_codes i test w = and_end (end_of (had i.place w.registers.codes.cc1))
    (λ one. and_end (end_of (had i.place w.registers.codes.cc0))
    (λ zero. jump_where i (test one zero) w))

abbrev pub jump_by_overflow : InstrTree → Effect
jump_by_overflow i w =
    and_end (end_of (had i.place w.registers.codes.ov)) (λ ov. jump_where i ov w)

abbrev pub loop_jump : InstrTree → Effect
loop_jump i w = and_end (end_of (had i.place w.registers.accu1)) (λ a. jump_where i
    (not (int_eq (counted a) (pos 0)))
    (with_registers w (with_accu1 w.registers (Some (put low a (counted a))))))

-- by CC1 and CC0: zero, not zero, above, below, not below, not above
abbrev pub is_zero : Truth → Truth → Truth
is_zero cc1 cc0 = not cc1 && not cc0

abbrev pub is_not_zero : Truth → Truth → Truth
is_not_zero cc1 cc0 = (not cc1 && cc0) || (cc1 && not cc0)

abbrev pub is_plus : Truth → Truth → Truth
is_plus cc1 cc0 = cc1 && not cc0

abbrev pub is_minus : Truth → Truth → Truth
is_minus cc1 cc0 = not cc1 && cc0

abbrev pub is_not_minus : Truth → Truth → Truth
is_not_minus cc1 cc0 = is_zero cc1 cc0 || is_plus cc1 cc0

abbrev pub is_not_plus : Truth → Truth → Truth
is_not_plus cc1 cc0 = is_zero cc1 cc0 || is_minus cc1 cc0

abbrev pub ends : Effect
ends w = ended (left w.frame)

abbrev pub ends_where : Truth → Effect
ends_where true w = ends w
ends_where false w = nothing w

-- ---- the table

abbrev pub junction : Op → Junction
junction op.A = record { joining = by_and; negates = false }
junction op.AOpen = record { joining = by_and; negates = false }
junction op.An = record { joining = by_and; negates = true }
junction op.AnOpen = record { joining = by_and; negates = true }
junction op.O = record { joining = by_or; negates = false }
junction op.OOpen = record { joining = by_or; negates = false }
junction op.On = record { joining = by_or; negates = true }
junction op.OnOpen = record { joining = by_or; negates = true }
junction op.X = record { joining = by_xor; negates = false }
junction op.XOpen = record { joining = by_xor; negates = false }
junction op.Xn = record { joining = by_xor; negates = true }
junction op.XnOpen = record { joining = by_xor; negates = true }
junction other = record { joining = by_and; negates = false }

-- the effect of each; a call is made apart
abbrev pub effect : Source → Activation → InstrTree → Op → Effect
effect source act i op.A w = joins source act i (junction op.A) w
effect source act i op.An w = joins source act i (junction op.An) w
effect source act i op.O w = elim i.operand [
  | None ↦ on_logic (keep_or i.place) w
  | Some o ↦ joins source act i (junction op.O) w
]
effect source act i op.On w = joins source act i (junction op.On) w
effect source act i op.X w = joins source act i (junction op.X) w
effect source act i op.Xn w = joins source act i (junction op.Xn) w
effect source act i op.AOpen w = on_registers (λ r. got (open_nesting (junction op.AOpen) r)) w
effect source act i op.AnOpen w = on_registers (λ r. got (open_nesting (junction op.AnOpen) r)) w
effect source act i op.OOpen w = on_registers (λ r. got (open_nesting (junction op.OOpen) r)) w
effect source act i op.OnOpen w = on_registers (λ r. got (open_nesting (junction op.OnOpen) r)) w
effect source act i op.XOpen w = on_registers (λ r. got (open_nesting (junction op.XOpen) r)) w
effect source act i op.XnOpen w = on_registers (λ r. got (open_nesting (junction op.XnOpen) r)) w
effect source act i op.Close w = on_registers (close_nesting i.place) w
effect source act i op.Assign w = writes source act i (λ e. Some e) w
effect source act i op.S w = writes source act i (where_true true) w
effect source act i op.R w = writes source act i (where_true false) w
effect source act i op.Not w = on_logic (negate_result i.place) w
effect source act i op.Set w = on_logic (λ l. got (resulting false true)) w
effect source act i op.Clr w = on_logic (λ l. got (resulting false false)) w
effect source act i op.Fp w = finds_edge source act i true w
effect source act i op.Fn w = finds_edge source act i false w
effect source act i op.Save w = nothing w
effect source act i op.Nop w = nothing w
effect source act i op.Bld w = nothing w
effect source act i op.L w = loads source act i w
effect source act i op.T w = transfers source act i w
effect source act i op.AddI w = on_registers (summed ◌+ℤ◌ low i.place) w
effect source act i op.SubI w = on_registers (summed ◌-ℤ◌ low i.place) w
effect source act i op.MulI w = on_registers (product_of_words i.place) w
effect source act i op.DivI w = on_registers (quotient_of_words i.place) w
effect source act i op.AddD w = on_registers (summed ◌+ℤ◌ whole i.place) w
effect source act i op.SubD w = on_registers (summed ◌-ℤ◌ whole i.place) w
effect source act i op.MulD w = on_registers (product i.place) w
effect source act i op.DivD w = on_registers (quotient_of_wholes i.place) w
effect source act i op.Mod w = on_registers (remainder_of_wholes i.place) w
effect source act i op.EqI w = on_registers (compared int_eq low i.place) w
effect source act i op.NeI w = on_registers (compared is_not low i.place) w
effect source act i op.GtI w = on_registers (compared is_above low i.place) w
effect source act i op.LtI w = on_registers (compared int_lt low i.place) w
effect source act i op.GeI w = on_registers (compared is_from low i.place) w
effect source act i op.LeI w = on_registers (compared int_le low i.place) w
effect source act i op.EqD w = on_registers (compared int_eq whole i.place) w
effect source act i op.NeD w = on_registers (compared is_not whole i.place) w
effect source act i op.GtD w = on_registers (compared is_above whole i.place) w
effect source act i op.LtD w = on_registers (compared int_lt whole i.place) w
effect source act i op.GeD w = on_registers (compared is_from whole i.place) w
effect source act i op.LeD w = on_registers (compared int_le whole i.place) w
effect source act i op.Aw w = on_registers (joined_word and_of low (value_behind i) i.place) w
effect source act i op.Ow w = on_registers (joined_word or_of low (value_behind i) i.place) w
effect source act i op.Xow w = on_registers (joined_word xor_of low (value_behind i) i.place) w
effect source act i op.Ad w = on_registers (joined_word and_of whole (value_behind i) i.place) w
effect source act i op.Od w = on_registers (joined_word or_of whole (value_behind i) i.place) w
effect source act i op.Xod w = on_registers (joined_word xor_of whole (value_behind i) i.place) w
effect source act i op.Slw w = on_registers (shifted shl_of low (count_behind i) i.place) w
effect source act i op.Srw w = on_registers (shifted shr_of low (count_behind i) i.place) w
effect source act i op.Sld w = on_registers (shifted shl_of whole (count_behind i) i.place) w
effect source act i op.Srd w = on_registers (shifted shr_of whole (count_behind i) i.place) w
effect source act i op.Itd w = on_registers (extended i.place) w
effect source act i op.Tak w = on_registers (λ r. got (swapped r)) w
effect source act i op.Push w = on_registers (λ r. got (pushed r)) w
effect source act i op.Pop w = on_registers (λ r. got (popped r)) w
effect source act i op.Ju w = jump i w
effect source act i op.Jc w = jump_by_result i true w
effect source act i op.Jcb w = jump_by_result i true w
effect source act i op.Jcn w = jump_by_result i false w
effect source act i op.Jnb w = jump_by_result i false w
effect source act i op.Jz w = jump_by_codes i is_zero w
effect source act i op.Jn w = jump_by_codes i is_not_zero w
effect source act i op.Jp w = jump_by_codes i is_plus w
effect source act i op.Jm w = jump_by_codes i is_minus w
effect source act i op.Jpz w = jump_by_codes i is_not_minus w
effect source act i op.Jmz w = jump_by_codes i is_not_plus w
effect source act i op.Jo w = jump_by_overflow i w
effect source act i op.Loop w = loop_jump i w
effect source act i op.Be w = ends w
effect source act i op.Beu w = ends w
effect source act i op.Bec w = by_result i w ends_where
effect source act i op.Call w = nothing w
effect source act i op.Uc w = nothing w

-- CALL and UC as they are made
abbrev pub site_of : InstrTree → CallPlain → CallSite
site_of i call = record { how = how_of i.op; call = call_placed call }

-- behind a call nothing is left of the accumulators and bits
abbrev pub makes_call : Calls → Activation → InstrTree → CallPlain → Effect
makes_call calls act i call w =
    and_end (calls act (site_of i call) w.frame) (λ back. ended (onward (record { registers = fresh; frame = back.frame })))

-- whatever stops an instruction stops it at its word, also where an index of its operand does
abbrev pub at_word : Place → Ended Next → Ended Next
at_word place (ended next) = ended next
at_word place (trapped kind at) = trapped kind place
at_word place (over at) = over place

-- one instruction
abbrev pub step : Source → Calls → Activation → InstrTree → Effect
step source calls act i w = elim i.call [
  | None ↦ at_word i.place (effect source act i i.op w)
  | Some call ↦ makes_call calls act i call w
]
