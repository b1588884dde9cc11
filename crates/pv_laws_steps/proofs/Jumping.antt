-- Only jumps lead to labels, each to its own.
use Rattle.std.proofs.Common.{◌≡◌, pos, ◌+ℤ◌, Bool, true, false, not, Option, Some, None, refl}
use Rattle.std.specs.Prelude.{⊤, ◌-ℤ◌, int_lt, int_le}
use Rattle.std.specs.Ordering.{int_eq}
use Rattle.pv_word.specs.Types.{wrap_of, and_of, or_of, xor_of, shl_of, shr_of}
use Rattle.pv_place.specs.declared.place.Place.{Place}
use Rattle.pv_tree.specs.declared.instr.Op.{Op}
use Rattle.pv_tree.specs.declared.instr.Op.TheVariants as op
use Rattle.pv_tree.specs.Tree.{PlacedName, OperandTree, CallPlain, InstrTree}
use Rattle.pv_tree.specs.InstructionGroups.{label_of_jump}
use Rattle.pv_mean.specs.Sources.{Source}
use Rattle.pv_mean.specs.Endings.{Tried, got, trap, and_then, Ended, ended, trapped, over, end_of, and_end}
use Rattle.pv_mean.specs.Spots.{Spot, write_spot}
use Rattle.pv_mean.specs.Activations.{Activation}
use Rattle.pv_mean.specs.Values.{number_of}
use Rattle.pv_mean.specs.Statements.{Calls}
use Rattle.pv_mean.specs.Registers.{Logic, Junction, Registers, Working, fresh, had, result_of, resulting, with_logic, with_accu1}
use Rattle.pv_mean.specs.BitLogic.{join, keep_or, open_nesting, close_nesting, negate_result, edge}
use Rattle.pv_mean.specs.Accumulators.{low, whole, put, summed, product_of_words, product, quotient_of_words, quotient_of_wholes, remainder_of_wholes, compared, is_not, is_above, is_from, joined_word, shifted, extended, loaded, swapped, pushed, popped, counted}
use Rattle.pv_mean.specs.Instructions.{Next, onward, at_label, left, spot_behind, type_behind, bit_at, bit_behind, loaded_number, value_behind, count_behind, goes_on, with_registers, on_registers, on_logic, joins, writes, where_true, finds_edge, loads, transfers, jump, jump_where, by_result, jump_by_result, jump_by_codes, jump_by_overflow, loop_jump, is_zero, is_not_zero, is_plus, is_minus, is_not_minus, is_not_plus, ends_where, junction, effect, site_of, makes_call, at_word, step}

-- where it leads to a label, the instruction jumps to it
abbrev pub LeadsToLabel : InstrTree → Ended Next → Type 0
LeadsToLabel i (ended (onward w)) = ⊤
LeadsToLabel i (ended (at_label key w)) = (l : PlacedName) × (label_of_jump i ≡ Some l) × (key ≡ l.0.key)
LeadsToLabel i (ended (left frame)) = ⊤
LeadsToLabel i (trapped kind place) = ⊤
LeadsToLabel i (over place) = ⊤

abbrev IsOnward : Tried Next → Type 0
IsOnward (got (onward w)) = ⊤
IsOnward (got (at_label key w)) = ⊥
IsOnward (got (left frame)) = ⊤
IsOnward (trap kind place) = ⊤

then_onward : {A : Type 0} (t : Tried A) (f : A → Tried Next) → ((a : A) → IsOnward (f a)) → IsOnward (and_then t f)
then_onward (got a) f each = each a
then_onward (trap kind place) f each = tt

end_onward : (i : InstrTree) (t : Tried Next) → IsOnward t → LeadsToLabel i (end_of t)
end_onward i (got (onward w)) h = tt
end_onward i (got (at_label key w)) h = absurd h
end_onward i (got (left frame)) h = tt
end_onward i (trap kind place) h = tt

ended_leads : {A : Type 0} (i : InstrTree) (t : Ended A) (f : A → Ended Next) → ((a : A) → LeadsToLabel i (f a)) → LeadsToLabel i (and_end t f)
ended_leads i (ended a) f each = each a
ended_leads i (trapped kind place) f each = tt
ended_leads i (over place) f each = tt

-- ---- effects

goes_onward : (i : InstrTree) (t : Tried Working) → LeadsToLabel i (goes_on t)
goes_onward i t = end_onward i (and_then t (λ w. got (onward w))) (then_onward t (λ w. got (onward w)) (λ w. tt))

registers_onward : (i : InstrTree) (f : Registers → Tried Registers) (w : Working) → LeadsToLabel i (on_registers f w)
registers_onward i f w = goes_onward i (and_then (f w.registers) (λ r. got (with_registers w r)))

logic_onward : (i : InstrTree) (f : Logic → Tried Logic) (w : Working) → LeadsToLabel i (on_logic f w)
logic_onward i f w = registers_onward i (λ r. and_then (f r.logic) (λ l. got (with_logic r l))) w

joins_onward : (source : Source) (act : Activation) (i : InstrTree) (j : Junction) (w : Working) → LeadsToLabel i (joins source act i j w)
joins_onward source act i j w =
    end_onward i (and_then (bit_behind source act i w.frame) joined_bit)
    (then_onward (bit_behind source act i w.frame) joined_bit (λ b. then_onward (join i.place j b w.registers.logic) after (λ l. tt)))
  where
    after : Logic → Tried Next
    after l = got (onward (with_registers w (with_logic w.registers l)))

    joined_bit : Bool → Tried Next
    joined_bit b = and_then (join i.place j b w.registers.logic) after

lead_or : (source : Source) (act : Activation) (i : InstrTree) (w : Working) → LeadsToLabel i (effect source act i op.O w)
lead_or source act i w = lead i.operand
  where
    lead : (o : Option OperandTree) → LeadsToLabel i (elim o [
      | None ↦ on_logic (keep_or i.place) w
      | Some x ↦ joins source act i (junction op.O) w
    ])
    lead None = logic_onward i (keep_or i.place) w
    lead (Some x) = joins_onward source act i (junction op.O) w

writes_onward : (source : Source) (act : Activation) (i : InstrTree) (written : Bool → Option Bool) (w : Working)
    → LeadsToLabel i (writes source act i written w)
writes_onward source act i written w =
    end_onward i (and_then (result_of i.place w.registers.logic) found)
    (then_onward (result_of i.place w.registers.logic) found (λ e. then_onward (spot_behind source act w.frame i) (put_there e) (λ spot. tt)))
  where
    put_there : Bool → Spot → Tried Next
    put_there e spot = got (onward (record {
      registers = with_logic w.registers (resulting false e);
      frame = elim (written e) [
        | None ↦ w.frame
        | Some b ↦ write_spot source w.frame spot (number_of b)
      ];
    }))

    found : Bool → Tried Next
    found e = and_then (spot_behind source act w.frame i) (put_there e)

edge_onward : (source : Source) (act : Activation) (i : InstrTree) (rising : Bool) (w : Working)
    → LeadsToLabel i (finds_edge source act i rising w)
edge_onward source act i rising w =
    end_onward i (and_then (result_of i.place w.registers.logic) found)
    (then_onward (result_of i.place w.registers.logic) found (λ e. then_onward (spot_behind source act w.frame i) (compared_there e)
    (λ spot. then_onward (bit_at w.frame i.place spot) (put_there e spot) (λ before. tt))))
  where
    put_there : Bool → Spot → Bool → Tried Next
    put_there e spot before = got (onward (record {
      registers = with_logic w.registers (resulting true (edge rising e before));
      frame = write_spot source w.frame spot (number_of e);
    }))

    compared_there : Bool → Spot → Tried Next
    compared_there e spot = and_then (bit_at w.frame i.place spot) (put_there e spot)

    found : Bool → Tried Next
    found e = and_then (spot_behind source act w.frame i) (compared_there e)

loads_onward : (source : Source) (act : Activation) (i : InstrTree) (w : Working) → LeadsToLabel i (loads source act i w)
loads_onward source act i w = goes_onward i (and_then (loaded_number source act i w.frame) (λ v. got (with_registers w (loaded v w.registers))))

transfers_onward : (source : Source) (act : Activation) (i : InstrTree) (w : Working) → LeadsToLabel i (transfers source act i w)
transfers_onward source act i w = goes_onward i (and_then (had i.place w.registers.accu1)
    (λ a. and_then (spot_behind source act w.frame i) (λ spot. got (record {
      registers = w.registers;
      frame = write_spot source w.frame spot (wrap_of (type_behind source act i) a);
    }))))

-- ---- jumps

jump_jumps : (i : InstrTree) (w : Working) → LeadsToLabel i (jump i w)
jump_jumps i w = lead (label_of_jump i) refl
  where
    lead : (o : Option PlacedName) → label_of_jump i ≡ o → LeadsToLabel i (ended (elim o [ None ↦ onward w | Some l ↦ at_label l.0.key w ]))
    lead None e = tt
    lead (Some l) e = (l, e, refl)

where_jumps : (i : InstrTree) (b : Bool) (w : Working) → LeadsToLabel i (jump_where i b w)
where_jumps i true w = jump_jumps i w
where_jumps i false w = tt

-- the bits behind a result that was read
abbrev read_behind : Working → Working
read_behind w = with_registers w (with_logic w.registers (resulting false true))

by_result_jumps : (i : InstrTree) (b : Bool) (w : Working) → LeadsToLabel i (jump_by_result i b w)
by_result_jumps i true w =
    ended_leads i (end_of (result_of i.place w.registers.logic)) (λ e. jump_where i e (read_behind w)) (λ e. where_jumps i e (read_behind w))
by_result_jumps i false w =
    ended_leads i (end_of (result_of i.place w.registers.logic)) (λ e. jump_where i (not e) (read_behind w))
    (λ e. where_jumps i (not e) (read_behind w))

ends_jump : (i : InstrTree) (w : Working) → LeadsToLabel i (by_result i w ends_where)
ends_jump i w = ended_leads i (end_of (result_of i.place w.registers.logic)) (λ e. ends_where e (read_behind w)) (λ e. lead e)
  where
    lead : (e : Bool) → LeadsToLabel i (ends_where e (read_behind w))
    lead true = tt
    lead false = tt

by_codes_jumps : (i : InstrTree) (test : Bool → Bool → Bool) (w : Working) → LeadsToLabel i (jump_by_codes i test w)
by_codes_jumps i test w =
    ended_leads i (end_of (had i.place w.registers.codes.cc1))
    (λ one. and_end (end_of (had i.place w.registers.codes.cc0)) (λ zero. jump_where i (test one zero) w))
    (λ one. ended_leads i (end_of (had i.place w.registers.codes.cc0)) (λ zero. jump_where i (test one zero) w)
    (λ zero. where_jumps i (test one zero) w))

by_overflow_jumps : (i : InstrTree) (w : Working) → LeadsToLabel i (jump_by_overflow i w)
by_overflow_jumps i w =
    ended_leads i (end_of (had i.place w.registers.codes.ov)) (λ ov. jump_where i ov w) (λ ov. where_jumps i ov w)

loop_jumps : (i : InstrTree) (w : Working) → LeadsToLabel i (loop_jump i w)
loop_jumps i w =
    ended_leads i (end_of (had i.place w.registers.accu1)) (λ a. jump_where i (not (int_eq (counted a) (pos 0)))
    (with_registers w (with_accu1 w.registers (Some (put low a (counted a)))))) (λ a. where_jumps i (not (int_eq (counted a) (pos 0)))
    (with_registers w (with_accu1 w.registers (Some (put low a (counted a))))))

effect_jumps : (source : Source) (act : Activation) (i : InstrTree) (o : Op) (w : Working) → LeadsToLabel i (effect source act i o w)
effect_jumps source act i op.A w = joins_onward source act i (junction op.A) w
effect_jumps source act i op.An w = joins_onward source act i (junction op.An) w
effect_jumps source act i op.O w = lead_or source act i w
effect_jumps source act i op.On w = joins_onward source act i (junction op.On) w
effect_jumps source act i op.X w = joins_onward source act i (junction op.X) w
effect_jumps source act i op.Xn w = joins_onward source act i (junction op.Xn) w
effect_jumps source act i op.AOpen w = registers_onward i (λ r. got (open_nesting (junction op.AOpen) r)) w
effect_jumps source act i op.AnOpen w = registers_onward i (λ r. got (open_nesting (junction op.AnOpen) r)) w
effect_jumps source act i op.OOpen w = registers_onward i (λ r. got (open_nesting (junction op.OOpen) r)) w
effect_jumps source act i op.OnOpen w = registers_onward i (λ r. got (open_nesting (junction op.OnOpen) r)) w
effect_jumps source act i op.XOpen w = registers_onward i (λ r. got (open_nesting (junction op.XOpen) r)) w
effect_jumps source act i op.XnOpen w = registers_onward i (λ r. got (open_nesting (junction op.XnOpen) r)) w
effect_jumps source act i op.Close w = registers_onward i (close_nesting i.place) w
effect_jumps source act i op.Assign w = writes_onward source act i (λ e. Some e) w
effect_jumps source act i op.S w = writes_onward source act i (where_true true) w
effect_jumps source act i op.R w = writes_onward source act i (where_true false) w
effect_jumps source act i op.Not w = logic_onward i (negate_result i.place) w
effect_jumps source act i op.Set w = logic_onward i (λ l. got (resulting false true)) w
effect_jumps source act i op.Clr w = logic_onward i (λ l. got (resulting false false)) w
effect_jumps source act i op.Fp w = edge_onward source act i true w
effect_jumps source act i op.Fn w = edge_onward source act i false w
effect_jumps source act i op.Save w = tt
effect_jumps source act i op.Nop w = tt
effect_jumps source act i op.Bld w = tt
effect_jumps source act i op.L w = loads_onward source act i w
effect_jumps source act i op.T w = transfers_onward source act i w
effect_jumps source act i op.AddI w = registers_onward i (summed ◌+ℤ◌ low i.place) w
effect_jumps source act i op.SubI w = registers_onward i (summed ◌-ℤ◌ low i.place) w
effect_jumps source act i op.MulI w = registers_onward i (product_of_words i.place) w
effect_jumps source act i op.DivI w = registers_onward i (quotient_of_words i.place) w
effect_jumps source act i op.AddD w = registers_onward i (summed ◌+ℤ◌ whole i.place) w
effect_jumps source act i op.SubD w = registers_onward i (summed ◌-ℤ◌ whole i.place) w
effect_jumps source act i op.MulD w = registers_onward i (product i.place) w
effect_jumps source act i op.DivD w = registers_onward i (quotient_of_wholes i.place) w
effect_jumps source act i op.Mod w = registers_onward i (remainder_of_wholes i.place) w
effect_jumps source act i op.EqI w = registers_onward i (compared int_eq low i.place) w
effect_jumps source act i op.NeI w = registers_onward i (compared is_not low i.place) w
effect_jumps source act i op.GtI w = registers_onward i (compared is_above low i.place) w
effect_jumps source act i op.LtI w = registers_onward i (compared int_lt low i.place) w
effect_jumps source act i op.GeI w = registers_onward i (compared is_from low i.place) w
effect_jumps source act i op.LeI w = registers_onward i (compared int_le low i.place) w
effect_jumps source act i op.EqD w = registers_onward i (compared int_eq whole i.place) w
effect_jumps source act i op.NeD w = registers_onward i (compared is_not whole i.place) w
effect_jumps source act i op.GtD w = registers_onward i (compared is_above whole i.place) w
effect_jumps source act i op.LtD w = registers_onward i (compared int_lt whole i.place) w
effect_jumps source act i op.GeD w = registers_onward i (compared is_from whole i.place) w
effect_jumps source act i op.LeD w = registers_onward i (compared int_le whole i.place) w
effect_jumps source act i op.Aw w = registers_onward i (joined_word and_of low (value_behind i) i.place) w
effect_jumps source act i op.Ow w = registers_onward i (joined_word or_of low (value_behind i) i.place) w
effect_jumps source act i op.Xow w = registers_onward i (joined_word xor_of low (value_behind i) i.place) w
effect_jumps source act i op.Ad w = registers_onward i (joined_word and_of whole (value_behind i) i.place) w
effect_jumps source act i op.Od w = registers_onward i (joined_word or_of whole (value_behind i) i.place) w
effect_jumps source act i op.Xod w = registers_onward i (joined_word xor_of whole (value_behind i) i.place) w
effect_jumps source act i op.Slw w = registers_onward i (shifted shl_of low (count_behind i) i.place) w
effect_jumps source act i op.Srw w = registers_onward i (shifted shr_of low (count_behind i) i.place) w
effect_jumps source act i op.Sld w = registers_onward i (shifted shl_of whole (count_behind i) i.place) w
effect_jumps source act i op.Srd w = registers_onward i (shifted shr_of whole (count_behind i) i.place) w
effect_jumps source act i op.Itd w = registers_onward i (extended i.place) w
effect_jumps source act i op.Tak w = registers_onward i (λ r. got (swapped r)) w
effect_jumps source act i op.Push w = registers_onward i (λ r. got (pushed r)) w
effect_jumps source act i op.Pop w = registers_onward i (λ r. got (popped r)) w
effect_jumps source act i op.Ju w = jump_jumps i w
effect_jumps source act i op.Jc w = by_result_jumps i true w
effect_jumps source act i op.Jcb w = by_result_jumps i true w
effect_jumps source act i op.Jcn w = by_result_jumps i false w
effect_jumps source act i op.Jnb w = by_result_jumps i false w
effect_jumps source act i op.Jz w = by_codes_jumps i is_zero w
effect_jumps source act i op.Jn w = by_codes_jumps i is_not_zero w
effect_jumps source act i op.Jp w = by_codes_jumps i is_plus w
effect_jumps source act i op.Jm w = by_codes_jumps i is_minus w
effect_jumps source act i op.Jpz w = by_codes_jumps i is_not_minus w
effect_jumps source act i op.Jmz w = by_codes_jumps i is_not_plus w
effect_jumps source act i op.Jo w = by_overflow_jumps i w
effect_jumps source act i op.Loop w = loop_jumps i w
effect_jumps source act i op.Be w = tt
effect_jumps source act i op.Beu w = tt
effect_jumps source act i op.Bec w = ends_jump i w
effect_jumps source act i op.Call w = tt
effect_jumps source act i op.Uc w = tt

-- ---- steps

word_leads : (i : InstrTree) (place : Place) (r : Ended Next) → LeadsToLabel i r → LeadsToLabel i (at_word place r)
word_leads i place (ended next) h = h
word_leads i place (trapped kind at) h = tt
word_leads i place (over at) h = tt

pub step_leads : (source : Source) (calls : Calls) (act : Activation) (i : InstrTree) (w : Working)
    → LeadsToLabel i (step source calls act i w)
step_leads source calls act i w = lead i.call
  where
    lead : (o : Option CallPlain) → LeadsToLabel i (elim o [
      | None ↦ at_word i.place (effect source act i i.op w)
      | Some call ↦ makes_call calls act i call w
    ])
    lead None = word_leads i i.place (effect source act i i.op w) (effect_jumps source act i i.op w)
    lead (Some call) = ended_leads i (calls act (site_of i call) w.frame)
        (λ back. ended (onward (record { registers = fresh; frame = back.frame }))) (λ back. tt)
