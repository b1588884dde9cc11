-- Rows with an operand, by what its spot, its value and the registers give: each way in which the code ends one.
use Rattle.std.proofs.Common.{◌≡◌, ℤ, pos, Bool, true, false, Option, Some, None, ap, sym, refl, ◌∙◌}
use Rattle.pv_word.specs.declared.types.Ty.{Ty}
use Rattle.pv_word.specs.Types.{wrap_of, pattern_of}
use Rattle.pv_place.specs.declared.place.Place.{Place}
use Rattle.pv_place.specs.declared.trap.TrapKind.{TrapKind}
use Rattle.pv_place.specs.declared.trap.TrapKind.TheVariants.{Unset}
use Rattle.pv_types.specs.declared.declaration.Literal.{Literal}
use Rattle.pv_tree.specs.Tree.{OperandTree, InstrTree}
use Rattle.pv_tree.specs.Literals.{type_alone}
use Rattle.pv_mean.specs.Sources.{Source}
use Rattle.pv_mean.specs.Frames.{Frame}
use Rattle.pv_mean.specs.Endings.{Tried, got, trap, and_then, Ended, ended, trapped, end_of}
use Rattle.pv_mean.specs.Spots.{Spot, nowhere, read_spot, write_spot}
use Rattle.pv_mean.specs.Activations.{Activation}
use Rattle.pv_mean.specs.Values.{number_of, locate}
use Rattle.pv_mean.specs.Registers.{Logic, Junction, Registers, Working, had, result_of, resulting, with_logic}
use Rattle.pv_mean.specs.BitLogic.{join, edge}
use Rattle.pv_mean.specs.Accumulators.{loaded}
use Rattle.pv_mean.specs.Instructions.{Next, onward, spot_behind, type_behind, bit_at, with_registers, joins, writes, finds_edge, loads, transfers}
use Rattle.pv_stl_run.specs.Actions.{frame_taking}

-- the spot of an instruction with an operand
spot_is : (source : Source) (act : Activation) (frame : Frame) (i : InstrTree) (o : OperandTree) → i.operand ≡ Some o
    → spot_behind source act frame i ≡ locate source act frame o
spot_is source act frame i o e = ap (λ (x : Option OperandTree). elim x [ None ↦ got nowhere | Some p ↦ locate source act frame p ]) e

-- ---- A, O and X

abbrev joined_to : Place → Junction → Working → Bool → Tried Next
joined_to place j w b = and_then (join place j b w.registers.logic)
    (λ l. got (onward (with_registers w (with_logic w.registers l))))

abbrev joins_by : Place → Junction → Working → Tried Spot → Ended Next
joins_by place j w s = end_of (and_then (and_then s (λ spot. bit_at w.frame place spot)) (λ b. joined_to place j w b))

joins_at : (source : Source) (act : Activation) (i : InstrTree) (j : Junction) (w : Working) (o : OperandTree) (place : Place)
    → i.place ≡ place → i.operand ≡ Some o
    → joins source act i j w ≡ joins_by place j w (locate source act w.frame o)
joins_at source act i j w o place p q =
    ap (λ at. joins_by at j w (spot_behind source act w.frame i)) p ∙ ap (joins_by place j w) (spot_is source act w.frame i o q)

pub joins_unlocated : (source : Source) (act : Activation) (i : InstrTree) (j : Junction) (w : Working) (o : OperandTree) (place : Place)
    (kind : TrapKind) (at : Place) → i.place ≡ place → i.operand ≡ Some o
    → trap kind at ≡ locate source act w.frame o → trapped kind at ≡ joins source act i j w
joins_unlocated source act i j w o place kind at p q e =
    sym (joins_at source act i j w o place p q ∙ ap (joins_by place j w) (sym e))

joins_read : (source : Source) (act : Activation) (i : InstrTree) (j : Junction) (w : Working) (o : OperandTree) (place : Place)
    (spot : Spot) (t : Tried Bool) → i.place ≡ place → i.operand ≡ Some o
    → got spot ≡ locate source act w.frame o → t ≡ bit_at w.frame place spot
    → joins source act i j w ≡ end_of (and_then t (λ b. joined_to place j w b))
joins_read source act i j w o place spot t p q e f = joins_at source act i j w o place p q ∙ ap (joins_by place j w) (sym e)
    ∙ ap (λ x. end_of (and_then x (λ b. joined_to place j w b))) (sym f)

pub joins_unread : (source : Source) (act : Activation) (i : InstrTree) (j : Junction) (w : Working) (o : OperandTree) (place : Place)
    (spot : Spot) (kind : TrapKind) (at : Place) → i.place ≡ place → i.operand ≡ Some o
    → got spot ≡ locate source act w.frame o → trap kind at ≡ bit_at w.frame place spot → trapped kind at ≡ joins source act i j w
joins_unread source act i j w o place spot kind at p q e f = sym (joins_read source act i j w o place spot (trap kind at) p q e f)

pub joins_stops : (source : Source) (act : Activation) (i : InstrTree) (j : Junction) (w : Working) (o : OperandTree) (place : Place)
    (spot : Spot) (b : Bool) (kind : TrapKind) (at : Place) → i.place ≡ place → i.operand ≡ Some o
    → got spot ≡ locate source act w.frame o → got b ≡ bit_at w.frame place spot
    → trap kind at ≡ join place j b w.registers.logic → trapped kind at ≡ joins source act i j w
joins_stops source act i j w o place spot b kind at p q e f g = sym (joins_read source act i j w o place spot (got b) p q e f
    ∙ ap (λ x. end_of (and_then x (λ l. got (onward (with_registers w (with_logic w.registers l)))))) (sym g))

pub joins_done : (source : Source) (act : Activation) (i : InstrTree) (j : Junction) (w : Working) (o : OperandTree) (place : Place)
    (spot : Spot) (b : Bool) (l : Logic) → i.place ≡ place → i.operand ≡ Some o
    → got spot ≡ locate source act w.frame o → got b ≡ bit_at w.frame place spot
    → got l ≡ join place j b w.registers.logic → ended (onward (with_registers w (with_logic w.registers l))) ≡ joins source act i j w
joins_done source act i j w o place spot b l p q e f g = sym (joins_read source act i j w o place spot (got b) p q e f
    ∙ ap (λ x. end_of (and_then x (λ m. got (onward (with_registers w (with_logic w.registers m)))))) (sym g))

-- ---- =, S and R

abbrev pub written_frame : Source → Working → Spot → Option Bool → Frame
written_frame source w spot taken = elim taken [ None ↦ w.frame | Some b ↦ write_spot source w.frame spot (number_of b) ]

abbrev pub wrote : Source → Working → Bool → Spot → Option Bool → Working
wrote source w e spot taken =
    record { registers = with_logic w.registers (resulting false e); frame = written_frame source w spot taken }

abbrev writes_by : Source → (Bool → Option Bool) → Working → Tried Bool → Tried Spot → Ended Next
writes_by source written w t s = end_of (and_then t (λ e. and_then s (λ spot. got (onward (wrote source w e spot (written e))))))

writes_at : (source : Source) (act : Activation) (i : InstrTree) (written : Bool → Option Bool) (w : Working) (o : OperandTree)
    (place : Place) (t : Tried Bool) → i.place ≡ place → i.operand ≡ Some o → t ≡ result_of place w.registers.logic
    → writes source act i written w ≡ writes_by source written w t (locate source act w.frame o)
writes_at source act i written w o place t p q r =
    ap (λ at. writes_by source written w (result_of at w.registers.logic) (spot_behind source act w.frame i)) p
    ∙ ap (λ x. writes_by source written w x (spot_behind source act w.frame i)) (sym r)
    ∙ ap (writes_by source written w t) (spot_is source act w.frame i o q)

pub writes_unset : (source : Source) (act : Activation) (i : InstrTree) (written : Bool → Option Bool) (w : Working) (o : OperandTree)
    (place : Place) (kind : TrapKind) (at : Place) → i.place ≡ place → i.operand ≡ Some o
    → trap kind at ≡ result_of place w.registers.logic → trapped kind at ≡ writes source act i written w
writes_unset source act i written w o place kind at p q r = sym (writes_at source act i written w o place (trap kind at) p q r)

pub writes_unlocated : (source : Source) (act : Activation) (i : InstrTree) (written : Bool → Option Bool) (w : Working) (o : OperandTree)
    (place : Place) (e : Bool) (kind : TrapKind) (at : Place) → i.place ≡ place → i.operand ≡ Some o
    → got e ≡ result_of place w.registers.logic → trap kind at ≡ locate source act w.frame o
    → trapped kind at ≡ writes source act i written w
writes_unlocated source act i written w o place e kind at p q r s =
    sym (writes_at source act i written w o place (got e) p q r ∙ ap (writes_by source written w (got e)) (sym s))

pub writes_done : (source : Source) (act : Activation) (i : InstrTree) (written : Bool → Option Bool) (w : Working) (o : OperandTree)
    (place : Place) (e : Bool) (spot : Spot) → i.place ≡ place → i.operand ≡ Some o
    → got e ≡ result_of place w.registers.logic → got spot ≡ locate source act w.frame o
    → ended (onward (wrote source w e spot (written e))) ≡ writes source act i written w
writes_done source act i written w o place e spot p q r s =
    sym (writes_at source act i written w o place (got e) p q r ∙ ap (writes_by source written w (got e)) (sym s))

-- as the code makes it
pub writes_made : (source : Source) (act : Activation) (i : InstrTree) (written : Bool → Option Bool) (w : Working) (o : OperandTree)
    (place : Place) (e : Bool) (spot : Spot) (l : Logic) (taken : Option Bool) (frame : Frame) → i.place ≡ place → i.operand ≡ Some o
    → got e ≡ result_of place w.registers.logic → got spot ≡ locate source act w.frame o
    → l ≡ resulting false e → taken ≡ written e → frame_taking source w.frame spot taken ≡ frame
    → ended (onward (record { registers = with_logic w.registers l; frame = frame })) ≡ writes source act i written w
writes_made source act i written w o place e spot l taken frame p q r s le te fe =
    ap (λ f. ended (onward (record { registers = with_logic w.registers l; frame = f }))) (sym fe)
    ∙ ap (λ t. ended (onward (record { registers = with_logic w.registers l; frame = frame_taking source w.frame spot t }))) te
    ∙ ap (λ x. ended (onward (record { registers = with_logic w.registers x; frame = frame_taking source w.frame spot (written e) }))) le
    ∙ ap (λ f. ended (onward (record { registers = with_logic w.registers (resulting false e); frame = f }))) (taking (written e))
    ∙ writes_done source act i written w o place e spot p q r s where
      taking : (t : Option Bool) → frame_taking source w.frame spot t ≡ written_frame source w spot t
      taking None = refl
      taking (Some b) = refl

-- ---- FP and FN

abbrev pub edged : Source → Bool → Working → Bool → Spot → Bool → Working
edged source rising w e spot before = record {
  registers = with_logic w.registers (resulting true (edge rising e before));
  frame = write_spot source w.frame spot (number_of e);
}

abbrev edge_by : Source → Bool → Working → Bool → Spot → Tried Bool → Tried Next
edge_by source rising w e spot t = and_then t (λ before. got (onward (edged source rising w e spot before)))

abbrev finds_by : Source → Bool → Place → Working → Tried Bool → Tried Spot → Ended Next
finds_by source rising place w t s = end_of (and_then t (λ e. and_then s (λ spot. edge_by source rising w e spot (bit_at w.frame place spot))))

finds_at : (source : Source) (act : Activation) (i : InstrTree) (rising : Bool) (w : Working) (o : OperandTree)
    (place : Place) (t : Tried Bool) → i.place ≡ place → i.operand ≡ Some o → t ≡ result_of place w.registers.logic
    → finds_edge source act i rising w ≡ finds_by source rising place w t (locate source act w.frame o)
finds_at source act i rising w o place t p q r =
    ap (λ at. finds_by source rising at w (result_of at w.registers.logic) (spot_behind source act w.frame i)) p
    ∙ ap (λ x. finds_by source rising place w x (spot_behind source act w.frame i)) (sym r)
    ∙ ap (finds_by source rising place w t) (spot_is source act w.frame i o q)

pub finds_unset : (source : Source) (act : Activation) (i : InstrTree) (rising : Bool) (w : Working) (o : OperandTree)
    (place : Place) (kind : TrapKind) (at : Place) → i.place ≡ place → i.operand ≡ Some o
    → trap kind at ≡ result_of place w.registers.logic → trapped kind at ≡ finds_edge source act i rising w
finds_unset source act i rising w o place kind at p q r = sym (finds_at source act i rising w o place (trap kind at) p q r)

pub finds_unlocated : (source : Source) (act : Activation) (i : InstrTree) (rising : Bool) (w : Working) (o : OperandTree)
    (place : Place) (e : Bool) (kind : TrapKind) (at : Place) → i.place ≡ place → i.operand ≡ Some o
    → got e ≡ result_of place w.registers.logic → trap kind at ≡ locate source act w.frame o
    → trapped kind at ≡ finds_edge source act i rising w
finds_unlocated source act i rising w o place e kind at p q r s =
    sym (finds_at source act i rising w o place (got e) p q r ∙ ap (finds_by source rising place w (got e)) (sym s))

finds_read : (source : Source) (act : Activation) (i : InstrTree) (rising : Bool) (w : Working) (o : OperandTree)
    (place : Place) (e : Bool) (spot : Spot) (t : Tried Bool) → i.place ≡ place → i.operand ≡ Some o
    → got e ≡ result_of place w.registers.logic → got spot ≡ locate source act w.frame o → t ≡ bit_at w.frame place spot
    → finds_edge source act i rising w ≡ end_of (edge_by source rising w e spot t)
finds_read source act i rising w o place e spot t p q r s u =
    finds_at source act i rising w o place (got e) p q r ∙ ap (finds_by source rising place w (got e)) (sym s)
    ∙ ap (λ x. end_of (edge_by source rising w e spot x)) (sym u)

pub finds_unread : (source : Source) (act : Activation) (i : InstrTree) (rising : Bool) (w : Working) (o : OperandTree)
    (place : Place) (e : Bool) (spot : Spot) (kind : TrapKind) (at : Place) → i.place ≡ place → i.operand ≡ Some o
    → got e ≡ result_of place w.registers.logic → got spot ≡ locate source act w.frame o → trap kind at ≡ bit_at w.frame place spot
    → trapped kind at ≡ finds_edge source act i rising w
finds_unread source act i rising w o place e spot kind at p q r s u =
    sym (finds_read source act i rising w o place e spot (trap kind at) p q r s u)

pub finds_done : (source : Source) (act : Activation) (i : InstrTree) (rising : Bool) (w : Working) (o : OperandTree)
    (place : Place) (e : Bool) (spot : Spot) (before : Bool) → i.place ≡ place → i.operand ≡ Some o
    → got e ≡ result_of place w.registers.logic → got spot ≡ locate source act w.frame o → got before ≡ bit_at w.frame place spot
    → ended (onward (edged source rising w e spot before)) ≡ finds_edge source act i rising w
finds_done source act i rising w o place e spot before p q r s u =
    sym (finds_read source act i rising w o place e spot (got before) p q r s u)

pub finds_made : (source : Source) (act : Activation) (i : InstrTree) (rising : Bool) (w : Working) (o : OperandTree)
    (place : Place) (e : Bool) (spot : Spot) (before x : Bool) (l : Logic) (frame : Frame) → i.place ≡ place → i.operand ≡ Some o
    → got e ≡ result_of place w.registers.logic → got spot ≡ locate source act w.frame o → got before ≡ bit_at w.frame place spot
    → l ≡ resulting true x → x ≡ edge rising e before → write_spot source w.frame spot (number_of e) ≡ frame
    → ended (onward (record { registers = with_logic w.registers l; frame = frame })) ≡ finds_edge source act i rising w
finds_made source act i rising w o place e spot before x l frame p q r s u le xe fe =
    ap (λ f. ended (onward (record { registers = with_logic w.registers l; frame = f }))) (sym fe)
    ∙ ap (λ y. ended (onward (record { registers = with_logic w.registers y; frame = write_spot source w.frame spot (number_of e) })))
    (le ∙ ap (resulting true) xe)
    ∙ finds_done source act i rising w o place e spot before p q r s u

-- ---- L

abbrev goes_with : Working → Tried ℤ → Ended Next
goes_with w t = end_of (and_then (and_then t (λ n. got (with_registers w (loaded n w.registers)))) (λ v. got (onward v)))

abbrev bits_by : Place → Ty → Frame → Tried Spot → Tried ℤ
bits_by place ty frame s = and_then s (λ spot. and_then (read_spot frame place spot) (λ v. got (pos (pattern_of ty v))))

loads_at : (source : Source) (act : Activation) (i : InstrTree) (w : Working) (o : OperandTree) (place : Place) (ty : Ty)
    → i.place ≡ place → i.operand ≡ Some o → i.literal ≡ None → ty ≡ type_behind source act i
    → loads source act i w ≡ goes_with w (bits_by place ty w.frame (locate source act w.frame o))
loads_at source act i w o place ty p q n t =
    ap (λ (l : Option Literal). goes_with w (elim l [
      | Some m ↦ got (pos (pattern_of (type_alone m.ty m.value) m.value))
      | None ↦ bits_by i.place (type_behind source act i) w.frame (spot_behind source act w.frame i)
    ])) n
    ∙ ap (λ at. goes_with w (bits_by at (type_behind source act i) w.frame (spot_behind source act w.frame i))) p
    ∙ ap (λ x. goes_with w (bits_by place x w.frame (spot_behind source act w.frame i))) (sym t)
    ∙ ap (λ s. goes_with w (bits_by place ty w.frame s)) (spot_is source act w.frame i o q)

pub loads_unlocated : (source : Source) (act : Activation) (i : InstrTree) (w : Working) (o : OperandTree) (place : Place) (ty : Ty)
    (kind : TrapKind) (at : Place) → i.place ≡ place → i.operand ≡ Some o → i.literal ≡ None → ty ≡ type_behind source act i
    → trap kind at ≡ locate source act w.frame o → trapped kind at ≡ loads source act i w
loads_unlocated source act i w o place ty kind at p q n t e =
    sym (loads_at source act i w o place ty p q n t ∙ ap (λ s. goes_with w (bits_by place ty w.frame s)) (sym e))

loads_read : (source : Source) (act : Activation) (i : InstrTree) (w : Working) (o : OperandTree) (place : Place) (ty : Ty) (spot : Spot)
    (x : Tried ℤ) → i.place ≡ place → i.operand ≡ Some o → i.literal ≡ None → ty ≡ type_behind source act i
    → got spot ≡ locate source act w.frame o → x ≡ read_spot w.frame place spot
    → loads source act i w ≡ goes_with w (and_then x (λ v. got (pos (pattern_of ty v))))
loads_read source act i w o place ty spot x p q n t e f =
    loads_at source act i w o place ty p q n t ∙ ap (λ s. goes_with w (bits_by place ty w.frame s)) (sym e)
    ∙ ap (λ y. goes_with w (and_then y (λ v. got (pos (pattern_of ty v))))) (sym f)

pub loads_unread : (source : Source) (act : Activation) (i : InstrTree) (w : Working) (o : OperandTree) (place : Place) (ty : Ty) (spot : Spot)
    (kind : TrapKind) (at : Place) → i.place ≡ place → i.operand ≡ Some o → i.literal ≡ None → ty ≡ type_behind source act i
    → got spot ≡ locate source act w.frame o → trap kind at ≡ read_spot w.frame place spot → trapped kind at ≡ loads source act i w
loads_unread source act i w o place ty spot kind at p q n t e f = sym (loads_read source act i w o place ty spot (trap kind at) p q n t e f)

pub loads_done : (source : Source) (act : Activation) (i : InstrTree) (w : Working) (o : OperandTree) (place : Place) (ty : Ty) (spot : Spot)
    (v : ℤ) → i.place ≡ place → i.operand ≡ Some o → i.literal ≡ None → ty ≡ type_behind source act i
    → got spot ≡ locate source act w.frame o → got v ≡ read_spot w.frame place spot
    → ended (onward (with_registers w (loaded (pos (pattern_of ty v)) w.registers))) ≡ loads source act i w
loads_done source act i w o place ty spot v p q n t e f = sym (loads_read source act i w o place ty spot (got v) p q n t e f)

pub loads_made : (source : Source) (act : Activation) (i : InstrTree) (w : Working) (o : OperandTree) (place : Place) (ty : Ty) (spot : Spot)
    (v n : ℤ) (r : Registers) → i.place ≡ place → i.operand ≡ Some o → i.literal ≡ None → ty ≡ type_behind source act i
    → got spot ≡ locate source act w.frame o → got v ≡ read_spot w.frame place spot → r ≡ loaded n w.registers → n ≡ pos (pattern_of ty v)
    → ended (onward (record { registers = r; frame = w.frame })) ≡ loads source act i w
loads_made source act i w o place ty spot v n r p q none t e f re ne =
    ap (λ x. ended (onward (record { registers = x; frame = w.frame }))) (re ∙ ap (λ y. loaded y w.registers) ne)
    ∙ loads_done source act i w o place ty spot v p q none t e f

-- ---- T

abbrev pub moved : Source → Ty → Working → ℤ → Spot → Working
moved source ty w a spot = record { registers = w.registers; frame = write_spot source w.frame spot (wrap_of ty a) }

abbrev moves_by : Source → Ty → Working → Tried ℤ → Tried Spot → Ended Next
moves_by source ty w t s = end_of (and_then (and_then t (λ a. and_then s (λ spot. got (moved source ty w a spot)))) (λ v. got (onward v)))

moves_at : (source : Source) (act : Activation) (i : InstrTree) (w : Working) (o : OperandTree) (place : Place) (ty : Ty) (t : Tried ℤ)
    → i.place ≡ place → i.operand ≡ Some o → ty ≡ type_behind source act i → t ≡ had place w.registers.accu1
    → transfers source act i w ≡ moves_by source ty w t (locate source act w.frame o)
moves_at source act i w o place ty t p q r e =
    ap (λ at. moves_by source (type_behind source act i) w (had at w.registers.accu1) (spot_behind source act w.frame i)) p
    ∙ ap (λ x. moves_by source x w (had place w.registers.accu1) (spot_behind source act w.frame i)) (sym r)
    ∙ ap (λ x. moves_by source ty w x (spot_behind source act w.frame i)) (sym e)
    ∙ ap (moves_by source ty w t) (spot_is source act w.frame i o q)

pub moves_unset : (source : Source) (act : Activation) (i : InstrTree) (w : Working) (o : OperandTree) (place : Place) (ty : Ty)
    (kind : TrapKind) (at : Place) → i.place ≡ place → i.operand ≡ Some o → ty ≡ type_behind source act i
    → kind ≡ Unset → at ≡ place → w.registers.accu1 ≡ None → trapped kind at ≡ transfers source act i w
moves_unset source act i w o place ty kind at p q r k l e =
    ap (λ x. trapped x at) k ∙ ap (trapped Unset) l
    ∙ sym (moves_at source act i w o place ty (trap Unset place) p q r (sym (ap (had place) e)))

pub moves_unlocated : (source : Source) (act : Activation) (i : InstrTree) (w : Working) (o : OperandTree) (place : Place) (ty : Ty) (a : ℤ)
    (kind : TrapKind) (at : Place) → i.place ≡ place → i.operand ≡ Some o → ty ≡ type_behind source act i
    → w.registers.accu1 ≡ Some a → trap kind at ≡ locate source act w.frame o → trapped kind at ≡ transfers source act i w
moves_unlocated source act i w o place ty a kind at p q r e f =
    sym (moves_at source act i w o place ty (got a) p q r (sym (ap (had place) e)) ∙ ap (moves_by source ty w (got a)) (sym f))

pub moves_done : (source : Source) (act : Activation) (i : InstrTree) (w : Working) (o : OperandTree) (place : Place) (ty : Ty) (a : ℤ)
    (spot : Spot) → i.place ≡ place → i.operand ≡ Some o → ty ≡ type_behind source act i
    → w.registers.accu1 ≡ Some a → got spot ≡ locate source act w.frame o
    → ended (onward (moved source ty w a spot)) ≡ transfers source act i w
moves_done source act i w o place ty a spot p q r e f =
    sym (moves_at source act i w o place ty (got a) p q r (sym (ap (had place) e)) ∙ ap (moves_by source ty w (got a)) (sym f))

pub moves_made : (source : Source) (act : Activation) (i : InstrTree) (w : Working) (o : OperandTree) (place : Place) (ty : Ty) (a v : ℤ)
    (spot : Spot) (frame : Frame) → i.place ≡ place → i.operand ≡ Some o → ty ≡ type_behind source act i
    → w.registers.accu1 ≡ Some a → got spot ≡ locate source act w.frame o → v ≡ wrap_of ty a → write_spot source w.frame spot v ≡ frame
    → ended (onward (record { registers = w.registers; frame = frame })) ≡ transfers source act i w
moves_made source act i w o place ty a v spot frame p q r e f ve fe =
    ap (λ x. ended (onward (record { registers = w.registers; frame = x })))
    (sym fe ∙ ap (write_spot source w.frame spot) ve)
    ∙ moves_done source act i w o place ty a spot p q r e f
