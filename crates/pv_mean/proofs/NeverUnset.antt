-- An instruction that has a value in all that it reads doesn't trap for want of one.
use Rattle.std.proofs.Common.{◌≡◌, ◌≢◌, ℤ, ◌+ℤ◌, ◌-ℤ◌, List, [], ◌∷◌, Bool, true, false, not, Option, Some, None, refl, sym, ap, subst, ◌∙◌, pos}
use Rattle.std.specs.Prelude.{⊤, IsSome, int_lt, int_le, option_map}
use Rattle.std.specs.Ordering.{int_eq}
use Rattle.pv_word.specs.declared.types.Ty.{Ty}
use Rattle.pv_word.specs.Types.{pattern_of, and_of, or_of, xor_of, shl_of, shr_of}
use Rattle.pv_place.specs.declared.place.Place.{Place}
use Rattle.pv_place.specs.declared.trap.TrapKind.TheVariants.{DivideByZero, Unset}
use Rattle.pv_types.specs.declared.declaration.Literal.{Literal}
use Rattle.pv_tree.specs.declared.instr.Op.{Op}
use Rattle.pv_tree.specs.declared.instr.Op.TheVariants as op
use Rattle.pv_tree.specs.Tree.{OperandTree, InstrTree}
use Rattle.pv_tree.specs.Literals.{type_alone}
use Rattle.pv_mean.specs.Sources.{Source}
use Rattle.pv_mean.specs.Frames.{Frame}
use Rattle.pv_mean.specs.Endings.{Tried, got, trap, and_then, Ended, ended, trapped, over, end_of, and_end}
use Rattle.pv_mean.specs.Spots.{Spot, read_spot, write_spot}
use Rattle.pv_mean.specs.Values.{number_of}
use Rattle.pv_mean.specs.Activations.{Activation}
use Rattle.pv_mean.specs.Statements.{Calls}
use Rattle.pv_mean.specs.Registers.{Logic, Junction, Nesting, Registers, Working, had, result_of, resulting, with_logic, with_nestings}
use Rattle.pv_mean.specs.BitLogic.{negated, joined, join, keep_or, close_nesting, negate_result, edge}
use Rattle.pv_mean.specs.Registers.{Joining, by_and, by_or, by_xor}
use Rattle.pv_mean.specs.Accumulators.{Part, low, whole, number, with_both, divided_by, summed, product_of_words, product, quotient_of_words, quotient_of_wholes, remainder_of_wholes, compared, is_not, is_above, is_from, joined_word, shifted, extended}
use Rattle.pv_mean.specs.Instructions.{Next, onward, Effect, spot_behind, type_behind, bit_at, bit_behind, loaded_number, value_behind, count_behind, goes_on, on_registers, on_logic, joins, writes, where_true, finds_edge, loads, transfers, jump_where, by_result, jump_by_codes, jump_by_overflow, loop_jump, is_zero, is_not_zero, is_plus, is_minus, is_not_minus, is_not_plus, ends_where, at_word, junction, effect, step}
use Rattle.pv_mean.specs.InstructionReads.{rlo, rlo_if_checked, accu1, accu2, cc1, cc0, ov, value, reads, IsNotUnset, WaitsWithValue, HaveValues}
use Rattle.pv_mean.proofs.Instructing.{stepped}

-- the same of what ends
abbrev IsFine : {A : Type 0} → Ended A → Type 0
IsFine (ended a) = ⊤
IsFine (trapped kind place) = kind ≢ Unset
IsFine (over place) = ⊤

-- ---- the ways of going on

then-fine : {A B : Type 0} (t : Tried A) (next : A → Tried B) → IsNotUnset t → ((a : A) → IsNotUnset (next a)) → IsNotUnset (and_then t next)
then-fine (got a) next is more = more a
then-fine (trap kind place) next is more = is

end-fine : {A : Type 0} (t : Tried A) → IsNotUnset t → IsFine (end_of t)
end-fine (got a) is = tt
end-fine (trap kind place) is = is

ends-fine : {A B : Type 0} (t : Tried A) (next : A → Ended B) → IsNotUnset t → ((a : A) → IsFine (next a)) → IsFine (and_end (end_of t) next)
ends-fine (got a) next is more = more a
ends-fine (trap kind place) next is more = is

goes-fine : (t : Tried Working) → IsNotUnset t → IsFine (goes_on t)
goes-fine (got w) is = tt
goes-fine (trap kind place) is = is

word-fine : (place : Place) (e : Ended Next) → IsFine e → IsFine (at_word place e)
word-fine place (ended next) is = tt
word-fine place (trapped kind at) is = is
word-fine place (over at) is = tt

had-fine : {A : Type 0} (place : Place) (o : Option A) → IsSome o → IsNotUnset (had place o)
had-fine place None is = absurd (cc is)
had-fine place (Some a) is = tt

result-fine : (place : Place) (l : Logic) → IsSome l.rlo → IsNotUnset (result_of place l)
result-fine place l is = then-fine (had place l.rlo) _ (had-fine place l.rlo is) (λ r. tt)

-- ---- bit logic

joined-fine : (place : Place) (j : Joining) (b : Bool) (l : Logic) → IsSome l.rlo → IsNotUnset (joined place j b l)
joined-fine place by_and b l is = then-fine (had place l.rlo) _ (had-fine place l.rlo is) (λ r. tt)
joined-fine place by_or b l is = then-fine (result_of place l) _ (result-fine place l is) (λ r. tt)
joined-fine place by_xor b l is = then-fine (result_of place l) _ (result-fine place l is) (λ r. tt)

join-fine : (place : Place) (j : Junction) (b : Bool) (l : Logic) → (l.checked ≡ true → IsSome l.rlo) → IsNotUnset (join place j b l)
join-fine place j b l is = lead l.checked is
  where
    lead : (c : Bool) → (c ≡ true → IsSome l.rlo) → IsNotUnset {A = Logic} (elim c [
      | false ↦ got (record { checked = true; rlo = Some (negated j.negates b); kept_or = l.kept_or })
      | true ↦ joined place j.joining (negated j.negates b) l
    ])
    lead false h = tt
    lead true h = joined-fine place j.joining (negated j.negates b) l (h refl)

keep-fine : (place : Place) (l : Logic) → (l.checked ≡ true → IsSome l.rlo) → IsNotUnset (keep_or place l)
keep-fine place l is = lead l.checked is
  where
    lead : (c : Bool) → (c ≡ true → IsSome l.rlo) → IsNotUnset {A = Logic} (elim c [
      | false ↦ got l
      | true ↦ and_then (result_of place l)
          (λ e. got (record { checked = false; rlo = Some false; kept_or = e }))
    ])
    lead false h = tt
    lead true h = then-fine (result_of place l) _ (result-fine place l (h refl)) (λ e. tt)

close-fine : (place : Place) (r : Registers) → IsSome r.logic.rlo → WaitsWithValue r.nestings → IsNotUnset (close_nesting place r)
close-fine place r is waits = then-fine (result_of place r.logic) _ (result-fine place r.logic is) (λ e. lead e r.nestings waits)
  where
    lead : (e : Bool) (ns : List Nesting) → WaitsWithValue ns → IsNotUnset {A = Registers} (elim ns [
      | [] ↦ got r
      | n ∷ more ↦ and_then (join place n.junction e n.outer)
          (λ l. got (with_logic (with_nestings r more) l))
    ])
    lead e [] h = tt
    lead e (n ∷ more) h = then-fine (join place n.junction e n.outer) _ (join-fine place n.junction e n.outer h) (λ l. tt)

-- ---- accumulators

both-fine : (place : Place) (r : Registers) (next : ℤ → ℤ → Tried Registers) → IsSome r.accu2 → IsSome r.accu1
    → ((b a : ℤ) → IsNotUnset (next b a)) → IsNotUnset (with_both place r next)
both-fine place r next two one more =
    then-fine (had place r.accu2) _ (had-fine place r.accu2 two)
    (λ b. then-fine (had place r.accu1) _ (had-fine place r.accu1 one) (λ a. more b a))

divided-fine : (place : Place) (d : ℤ) (r : Registers) → IsNotUnset (divided_by place d (got r))
divided-fine place d r = lead (int_eq d (pos 0))
  where
    lead : (c : Bool) → IsNotUnset {A = Registers} (elim c [
      | true ↦ trap DivideByZero place
      | false ↦ got r
    ])
    lead true = λ e. cc e
    lead false = tt

word-joined-fine : (o : Ty → ℤ → ℤ → ℤ) (part : Part) (literal : Option ℤ) (place : Place) (r : Registers) → IsSome r.accu1
    → (literal ≡ None → IsSome r.accu2) → IsNotUnset (joined_word o part literal place r)
word-joined-fine o part None place r one two =
    then-fine (had place r.accu1) _ (had-fine place r.accu1 one)
    (λ a. then-fine (had place r.accu2) _ (had-fine place r.accu2 (two refl)) (λ b. tt))
word-joined-fine o part (Some v) place r one two = then-fine (had place r.accu1) _ (had-fine place r.accu1 one) (λ a. tt)

one-fine : (place : Place) (r : Registers) (next : ℤ → Tried Registers) → IsSome r.accu1 → ((a : ℤ) → IsNotUnset (next a))
    → IsNotUnset (and_then (had place r.accu1) next)
one-fine place r next one more = then-fine (had place r.accu1) next (had-fine place r.accu1 one) more

-- ---- effects

registers-fine : (f : Registers → Tried Registers) (w : Working) → IsNotUnset (f w.registers) → IsFine (on_registers f w)
registers-fine f w is = goes-fine _ (then-fine (f w.registers) _ is (λ r. tt))

logic-fine : (f : Logic → Tried Logic) (w : Working) → IsNotUnset (f w.registers.logic) → IsFine (on_logic f w)
logic-fine f w is = goes-fine _ (then-fine _ _ (then-fine (f w.registers.logic) _ is (λ l. tt)) (λ r. tt))

-- what has a value may be gone on with
read-then : {B : Type 0} (frame : Frame) (place : Place) (t : Tried Spot) (next : ℤ → Tried B)
    → IsNotUnset (and_then t (λ spot. read_spot frame place spot)) → ((v : ℤ) → IsNotUnset (next v))
    → IsNotUnset (and_then t (λ spot. and_then (read_spot frame place spot) next))
read-then frame place (got spot) next is more = then-fine (read_spot frame place spot) next is more
read-then frame place (trap kind at) next is more = is

abbrev HasOperand : Source → Activation → InstrTree → Working → Type 0
HasOperand source act i w = IsNotUnset (and_then (spot_behind source act w.frame i) (λ spot. read_spot w.frame i.place spot))

joins-fine : (source : Source) (act : Activation) (i : InstrTree) (j : Junction) (w : Working) → HasOperand source act i w
    → (w.registers.logic.checked ≡ true → IsSome w.registers.logic.rlo) → IsFine (joins source act i j w)
joins-fine source act i j w has is =
    end-fine _ (then-fine (bit_behind source act i w.frame) _
    (read-then w.frame i.place (spot_behind source act w.frame i) _ has (λ v. tt))
    (λ b. then-fine (join i.place j b w.registers.logic) _ (join-fine i.place j b w.registers.logic is) (λ l. tt)))

writes-fine : (source : Source) (act : Activation) (i : InstrTree) (written : Bool → Option Bool) (w : Working) → IsSome w.registers.logic.rlo
    → IsNotUnset (spot_behind source act w.frame i) → IsFine (writes source act i written w)
writes-fine source act i written w is at =
    end-fine _ (then-fine (result_of i.place w.registers.logic) _ (result-fine i.place w.registers.logic is)
    (λ e. then-fine (spot_behind source act w.frame i) _ at (λ spot. tt)))

bit-then : {B : Type 0} (frame : Frame) (place : Place) (t : Tried Spot) (next : Spot → Bool → B)
    → IsNotUnset (and_then t (λ spot. read_spot frame place spot))
    → IsNotUnset (and_then t (λ spot. and_then (bit_at frame place spot) (λ b. got (next spot b))))
bit-then frame place (got spot) next is =
    then-fine (bit_at frame place spot) (λ b. got (next spot b)) (then-fine (read_spot frame place spot) _ is (λ v. tt)) (λ b. tt)
bit-then frame place (trap kind at) next is = is

edge-fine : (source : Source) (act : Activation) (i : InstrTree) (rising : Bool) (w : Working) → IsSome w.registers.logic.rlo
    → HasOperand source act i w → IsFine (finds_edge source act i rising w)
edge-fine source act i rising w is has =
    end-fine _ (then-fine (result_of i.place w.registers.logic) _ (result-fine i.place w.registers.logic is)
    (λ e. bit-then w.frame i.place (spot_behind source act w.frame i) (λ spot before. onward (record {
      registers = with_logic w.registers (resulting true (edge rising e before));
      frame = write_spot source w.frame spot (number_of e);
    })) has))

loads-fine : (source : Source) (act : Activation) (i : InstrTree) (w : Working) → IsNotUnset (loaded_number source act i w.frame)
    → IsFine (loads source act i w)
loads-fine source act i w is = goes-fine _ (then-fine (loaded_number source act i w.frame) _ is (λ v. tt))

transfers-fine : (source : Source) (act : Activation) (i : InstrTree) (w : Working) → IsSome w.registers.accu1
    → IsNotUnset (spot_behind source act w.frame i) → IsFine (transfers source act i w)
transfers-fine source act i w one at =
    goes-fine _ (then-fine (had i.place w.registers.accu1) _ (had-fine i.place w.registers.accu1 one)
    (λ a. then-fine (spot_behind source act w.frame i) _ at (λ spot. tt)))

where-fine : (i : InstrTree) (b : Bool) (w : Working) → IsFine (jump_where i b w)
where-fine i true w = tt
where-fine i false w = tt

ends-where-fine : (e : Bool) (w : Working) → IsFine (ends_where e w)
ends-where-fine true w = tt
ends-where-fine false w = tt

by-result-fine : (i : InstrTree) (w : Working) (next : Bool → Effect) → IsSome w.registers.logic.rlo
    → ((e : Bool) (v : Working) → IsFine (next e v)) → IsFine (by_result i w next)
by-result-fine i w next is more =
    ends-fine (result_of i.place w.registers.logic) _ (result-fine i.place w.registers.logic is) (λ e. more e _)

codes-fine : (i : InstrTree) (test : Bool → Bool → Bool) (w : Working) → IsSome w.registers.codes.cc1 → IsSome w.registers.codes.cc0
    → IsFine (jump_by_codes i test w)
codes-fine i test w one zero =
    ends-fine (had i.place w.registers.codes.cc1) _ (had-fine i.place w.registers.codes.cc1 one)
    (λ a. ends-fine (had i.place w.registers.codes.cc0) _ (had-fine i.place w.registers.codes.cc0 zero) (λ b. where-fine i (test a b) w))

overflow-fine : (i : InstrTree) (w : Working) → IsSome w.registers.codes.ov → IsFine (jump_by_overflow i w)
overflow-fine i w is = ends-fine (had i.place w.registers.codes.ov) _ (had-fine i.place w.registers.codes.ov is) (λ b. where-fine i b w)

loop-fine : (i : InstrTree) (w : Working) → IsSome w.registers.accu1 → IsFine (loop_jump i w)
loop-fine i w is = ends-fine (had i.place w.registers.accu1) _ (had-fine i.place w.registers.accu1 is) (λ a. where-fine i _ _)

-- ---- the table

fine : (source : Source) (act : Activation) (i : InstrTree) (w : Working) (o : Op) → HaveValues source act i w (reads i o)
    → IsFine (effect source act i o w)
fine source act i w op.A h = joins-fine source act i (junction op.A) w h.0 h.1.0
fine source act i w op.An h = joins-fine source act i (junction op.An) w h.0 h.1.0
fine source act i w op.O h = lead i.operand h
  where
    lead : (x : Option OperandTree) → HaveValues source act i w (elim x [
      | None ↦ rlo_if_checked ∷ []
      | Some y ↦ value ∷ rlo_if_checked ∷ []
    ]) → IsFine {A = Next} (elim x [
      | None ↦ on_logic (keep_or i.place) w
      | Some y ↦ joins source act i (junction op.O) w
    ])
    lead None k = logic-fine (keep_or i.place) w (keep-fine i.place w.registers.logic k.0)
    lead (Some y) k = joins-fine source act i (junction op.O) w k.0 k.1.0
fine source act i w op.On h = joins-fine source act i (junction op.On) w h.0 h.1.0
fine source act i w op.X h = joins-fine source act i (junction op.X) w h.0 h.1.0
fine source act i w op.Xn h = joins-fine source act i (junction op.Xn) w h.0 h.1.0
fine source act i w op.AOpen h = tt
fine source act i w op.AnOpen h = tt
fine source act i w op.OOpen h = tt
fine source act i w op.OnOpen h = tt
fine source act i w op.XOpen h = tt
fine source act i w op.XnOpen h = tt
fine source act i w op.Close h = registers-fine (close_nesting i.place) w (close-fine i.place w.registers h.0 h.1.0)
fine source act i w op.Assign h = writes-fine source act i (λ e. Some e) w h.0 h.1.0
fine source act i w op.S h = writes-fine source act i (where_true true) w h.0 h.1.0
fine source act i w op.R h = writes-fine source act i (where_true false) w h.0 h.1.0
fine source act i w op.Not h = logic-fine (negate_result i.place) w (then-fine (result_of i.place w.registers.logic) _ (result-fine i.place w.registers.logic h.0) (λ e. tt))
fine source act i w op.Set h = tt
fine source act i w op.Clr h = tt
fine source act i w op.Fp h = edge-fine source act i true w h.0 h.1.0
fine source act i w op.Fn h = edge-fine source act i false w h.0 h.1.0
fine source act i w op.Save h = tt
fine source act i w op.Nop h = tt
fine source act i w op.Bld h = tt
fine source act i w op.L h = loads-fine source act i w (lead i.literal h)
  where
    lead : (x : Option Literal) → HaveValues source act i w (elim x [
      | None ↦ value ∷ []
      | Some l ↦ []
    ]) → IsNotUnset {A = ℤ} (elim x [
      | Some l ↦ got (pos (pattern_of (type_alone l.ty l.value) l.value))
      | None ↦ and_then (spot_behind source act w.frame i) (λ spot. and_then (read_spot w.frame i.place spot)
          (λ v. got (pos (pattern_of (type_behind source act i) v))))
    ])
    lead None k = read-then w.frame i.place (spot_behind source act w.frame i) _ k.0 (λ v. tt)
    lead (Some l) k = tt
fine source act i w op.T h = transfers-fine source act i w h.0 h.1.0
fine source act i w op.AddI h = registers-fine (summed ◌+ℤ◌ low i.place) w (both-fine i.place w.registers _ h.0 h.1.0 (λ b a. tt))
fine source act i w op.SubI h = registers-fine (summed ◌-ℤ◌ low i.place) w (both-fine i.place w.registers _ h.0 h.1.0 (λ b a. tt))
fine source act i w op.MulI h = registers-fine (product_of_words i.place) w (both-fine i.place w.registers _ h.0 h.1.0 (λ b a. tt))
fine source act i w op.DivI h = registers-fine (quotient_of_words i.place) w (both-fine i.place w.registers _ h.0 h.1.0 (λ b a. divided-fine i.place (number low a) _))
fine source act i w op.AddD h = registers-fine (summed ◌+ℤ◌ whole i.place) w (both-fine i.place w.registers _ h.0 h.1.0 (λ b a. tt))
fine source act i w op.SubD h = registers-fine (summed ◌-ℤ◌ whole i.place) w (both-fine i.place w.registers _ h.0 h.1.0 (λ b a. tt))
fine source act i w op.MulD h = registers-fine (product i.place) w (both-fine i.place w.registers _ h.0 h.1.0 (λ b a. tt))
fine source act i w op.DivD h = registers-fine (quotient_of_wholes i.place) w (both-fine i.place w.registers _ h.0 h.1.0 (λ b a. divided-fine i.place (number whole a) _))
fine source act i w op.Mod h = registers-fine (remainder_of_wholes i.place) w (both-fine i.place w.registers _ h.0 h.1.0 (λ b a. divided-fine i.place (number whole a) _))
fine source act i w op.EqI h = registers-fine (compared int_eq low i.place) w (both-fine i.place w.registers _ h.0 h.1.0 (λ b a. tt))
fine source act i w op.NeI h = registers-fine (compared is_not low i.place) w (both-fine i.place w.registers _ h.0 h.1.0 (λ b a. tt))
fine source act i w op.GtI h = registers-fine (compared is_above low i.place) w (both-fine i.place w.registers _ h.0 h.1.0 (λ b a. tt))
fine source act i w op.LtI h = registers-fine (compared int_lt low i.place) w (both-fine i.place w.registers _ h.0 h.1.0 (λ b a. tt))
fine source act i w op.GeI h = registers-fine (compared is_from low i.place) w (both-fine i.place w.registers _ h.0 h.1.0 (λ b a. tt))
fine source act i w op.LeI h = registers-fine (compared int_le low i.place) w (both-fine i.place w.registers _ h.0 h.1.0 (λ b a. tt))
fine source act i w op.EqD h = registers-fine (compared int_eq whole i.place) w (both-fine i.place w.registers _ h.0 h.1.0 (λ b a. tt))
fine source act i w op.NeD h = registers-fine (compared is_not whole i.place) w (both-fine i.place w.registers _ h.0 h.1.0 (λ b a. tt))
fine source act i w op.GtD h = registers-fine (compared is_above whole i.place) w (both-fine i.place w.registers _ h.0 h.1.0 (λ b a. tt))
fine source act i w op.LtD h = registers-fine (compared int_lt whole i.place) w (both-fine i.place w.registers _ h.0 h.1.0 (λ b a. tt))
fine source act i w op.GeD h = registers-fine (compared is_from whole i.place) w (both-fine i.place w.registers _ h.0 h.1.0 (λ b a. tt))
fine source act i w op.LeD h = registers-fine (compared int_le whole i.place) w (both-fine i.place w.registers _ h.0 h.1.0 (λ b a. tt))
fine source act i w op.Aw h = registers-fine (joined_word and_of low (value_behind i) i.place) w (lead i.literal h)
  where
    lead : (x : Option Literal) → HaveValues source act i w (elim x [
      | None ↦ accu1 ∷ accu2 ∷ []
      | Some l ↦ accu1 ∷ []
    ]) → IsNotUnset (joined_word and_of low (option_map (λ l. l.value) x) i.place w.registers)
    lead None k = word-joined-fine and_of low None i.place w.registers k.0 (λ e. k.1.0)
    lead (Some l) k = word-joined-fine and_of low (Some l.value) i.place w.registers k.0 (λ e. absurd (cc e))
fine source act i w op.Ow h = registers-fine (joined_word or_of low (value_behind i) i.place) w (lead i.literal h)
  where
    lead : (x : Option Literal) → HaveValues source act i w (elim x [
      | None ↦ accu1 ∷ accu2 ∷ []
      | Some l ↦ accu1 ∷ []
    ]) → IsNotUnset (joined_word or_of low (option_map (λ l. l.value) x) i.place w.registers)
    lead None k = word-joined-fine or_of low None i.place w.registers k.0 (λ e. k.1.0)
    lead (Some l) k = word-joined-fine or_of low (Some l.value) i.place w.registers k.0 (λ e. absurd (cc e))
fine source act i w op.Xow h = registers-fine (joined_word xor_of low (value_behind i) i.place) w (lead i.literal h)
  where
    lead : (x : Option Literal) → HaveValues source act i w (elim x [
      | None ↦ accu1 ∷ accu2 ∷ []
      | Some l ↦ accu1 ∷ []
    ]) → IsNotUnset (joined_word xor_of low (option_map (λ l. l.value) x) i.place w.registers)
    lead None k = word-joined-fine xor_of low None i.place w.registers k.0 (λ e. k.1.0)
    lead (Some l) k = word-joined-fine xor_of low (Some l.value) i.place w.registers k.0 (λ e. absurd (cc e))
fine source act i w op.Ad h = registers-fine (joined_word and_of whole (value_behind i) i.place) w (lead i.literal h)
  where
    lead : (x : Option Literal) → HaveValues source act i w (elim x [
      | None ↦ accu1 ∷ accu2 ∷ []
      | Some l ↦ accu1 ∷ []
    ]) → IsNotUnset (joined_word and_of whole (option_map (λ l. l.value) x) i.place w.registers)
    lead None k = word-joined-fine and_of whole None i.place w.registers k.0 (λ e. k.1.0)
    lead (Some l) k = word-joined-fine and_of whole (Some l.value) i.place w.registers k.0 (λ e. absurd (cc e))
fine source act i w op.Od h = registers-fine (joined_word or_of whole (value_behind i) i.place) w (lead i.literal h)
  where
    lead : (x : Option Literal) → HaveValues source act i w (elim x [
      | None ↦ accu1 ∷ accu2 ∷ []
      | Some l ↦ accu1 ∷ []
    ]) → IsNotUnset (joined_word or_of whole (option_map (λ l. l.value) x) i.place w.registers)
    lead None k = word-joined-fine or_of whole None i.place w.registers k.0 (λ e. k.1.0)
    lead (Some l) k = word-joined-fine or_of whole (Some l.value) i.place w.registers k.0 (λ e. absurd (cc e))
fine source act i w op.Xod h = registers-fine (joined_word xor_of whole (value_behind i) i.place) w (lead i.literal h)
  where
    lead : (x : Option Literal) → HaveValues source act i w (elim x [
      | None ↦ accu1 ∷ accu2 ∷ []
      | Some l ↦ accu1 ∷ []
    ]) → IsNotUnset (joined_word xor_of whole (option_map (λ l. l.value) x) i.place w.registers)
    lead None k = word-joined-fine xor_of whole None i.place w.registers k.0 (λ e. k.1.0)
    lead (Some l) k = word-joined-fine xor_of whole (Some l.value) i.place w.registers k.0 (λ e. absurd (cc e))
fine source act i w op.Slw h = registers-fine (shifted shl_of low (count_behind i) i.place) w (one-fine i.place w.registers _ h.0 (λ a. tt))
fine source act i w op.Srw h = registers-fine (shifted shr_of low (count_behind i) i.place) w (one-fine i.place w.registers _ h.0 (λ a. tt))
fine source act i w op.Sld h = registers-fine (shifted shl_of whole (count_behind i) i.place) w (one-fine i.place w.registers _ h.0 (λ a. tt))
fine source act i w op.Srd h = registers-fine (shifted shr_of whole (count_behind i) i.place) w (one-fine i.place w.registers _ h.0 (λ a. tt))
fine source act i w op.Itd h = registers-fine (extended i.place) w (one-fine i.place w.registers _ h.0 (λ a. tt))
fine source act i w op.Tak h = tt
fine source act i w op.Push h = tt
fine source act i w op.Pop h = tt
fine source act i w op.Ju h = tt
fine source act i w op.Jc h = by-result-fine i w (λ e. jump_where i e) h.0 (λ e v. where-fine i e v)
fine source act i w op.Jcb h = by-result-fine i w (λ e. jump_where i e) h.0 (λ e v. where-fine i e v)
fine source act i w op.Jcn h = by-result-fine i w (λ e. jump_where i (not e)) h.0 (λ e v. where-fine i (not e) v)
fine source act i w op.Jnb h = by-result-fine i w (λ e. jump_where i (not e)) h.0 (λ e v. where-fine i (not e) v)
fine source act i w op.Jz h = codes-fine i is_zero w h.0 h.1.0
fine source act i w op.Jn h = codes-fine i is_not_zero w h.0 h.1.0
fine source act i w op.Jp h = codes-fine i is_plus w h.0 h.1.0
fine source act i w op.Jm h = codes-fine i is_minus w h.0 h.1.0
fine source act i w op.Jpz h = codes-fine i is_not_minus w h.0 h.1.0
fine source act i w op.Jmz h = codes-fine i is_not_plus w h.0 h.1.0
fine source act i w op.Jo h = overflow-fine i w h.0
fine source act i w op.Loop h = loop-fine i w h.0
fine source act i w op.Be h = tt
fine source act i w op.Beu h = tt
fine source act i w op.Bec h = by-result-fine i w ends_where h.0 ends-where-fine
fine source act i w op.Call h = tt
fine source act i w op.Uc h = tt

not-unset : {A : Type 0} (e : Ended A) (place : Place) → IsFine e → e ≡ trapped Unset place → ⊥
not-unset e place is p = subst IsFine p is refl

pub never-unset : (source : Source) (calls : Calls) (act : Activation) (i : InstrTree) (w : Working) (place : Place) → i.call ≡ None
    → HaveValues source act i w (reads i i.op) → step source calls act i w ≡ trapped Unset place → ⊥
never-unset source calls act i w place none has p =
    not-unset (at_word i.place (effect source act i i.op w)) place
    (word-fine i.place (effect source act i i.op w) (fine source act i w i.op has))
    (ap (stepped source calls act i w) (sym none) ∙ p)
