-- Instructions, as statements in Holding and Fuel: what each written operand and each call keeps, a run of them keeps; and two ways
-- of making calls that agree on each call give one run.
use Rattle.std.proofs.Common.{◌≡◌, ℕ, zero, suc, ℤ, ◌+ℤ◌, ◌-ℤ◌, List, [], ◌∷◌, Bool, true, false, not, Option, Some, None, refl, ap, subst, ◌∙◌}
use Rattle.std.proofs.Math.Path.{fun_ext}
use Rattle.std.specs.Prelude.{⊤, IfSome, IsTrue, int_lt, int_le}
use Rattle.std.specs.Ordering.{int_eq}
use Rattle.pv_word.specs.Types.{wrap_of, and_of, or_of, xor_of, shl_of, shr_of}
use Rattle.pv_place.specs.declared.place.Place.{Place}
use Rattle.pv_tree.specs.declared.instr.Op.{Op}
use Rattle.pv_tree.specs.declared.instr.Op.TheVariants as op
use Rattle.pv_tree.specs.Tree.{PlacedName, OperandTree, CallPlain, InstrTree}
use Rattle.pv_tree.specs.Callees.{CallSite}
use Rattle.pv_tree.specs.InstructionGroups.{is_written, group_of, label_of_jump}
use Rattle.pv_mean.specs.Sources.{Source}
use Rattle.pv_mean.specs.Frames.{Frame}
use Rattle.pv_mean.specs.Endings.{Tried, got, trap, and_then, Ended, ended, trapped, over, end_of, and_end}
use Rattle.pv_mean.specs.Spots.{Spot, nowhere, write_spot}
use Rattle.pv_mean.specs.Activations.{Activation}
use Rattle.pv_mean.specs.Values.{number_of, locate}
use Rattle.pv_mean.specs.Statements.{Calls, Returned}
use Rattle.pv_mean.specs.Registers.{Junction, Registers, Working, fresh, had, result_of, resulting, with_logic}
use Rattle.pv_mean.specs.BitLogic.{join, keep_or, open_nesting, close_nesting, negate_result}
use Rattle.pv_mean.specs.Accumulators.{low, whole, summed, product_of_words, product, quotient_of_words, quotient_of_wholes, remainder_of_wholes, compared, is_not, is_above, is_from, joined_word, shifted, extended, swapped, pushed, popped}
use Rattle.pv_mean.specs.Instructions.{Next, onward, at_label, left, Effect, spot_behind, type_behind, bit_at, bit_behind, loaded_number, value_behind, count_behind, goes_on, with_registers, on_registers, on_logic, joins, writes, where_true, finds_edge, loads, transfers, jump, jump_where, by_result, jump_by_codes, jump_by_overflow, loop_jump, is_zero, is_not_zero, is_plus, is_minus, is_not_minus, is_not_plus, ends_where, site_of, makes_call, at_word, junction, effect, step}
use Rattle.pv_mean.specs.InstructionRuns.{Sought, here, label, is_named, is_jumped_to, again, turns, arrives, follow, run_instructions, frame_left, run_stl}
use Rattle.pv_mean.specs.Doings.{HoldsOf, HoldsIfGot, InstructionDoing, EachInstruction, Goes}
use Rattle.pv_mean.proofs.Holding.{Writes, CallKeeps, any-holds, end-holds, from-holds, ends-hold, also-holds}

-- ---- tests that all instructions pass

any-instruction : (T : OperandTree → Type 0) (C : CallSite → Type 0) → ((o : OperandTree) → T o) → ((c : CallSite) → C c) → (i : InstrTree)
    → InstructionDoing T C i
any-instruction T C t c i = (of-operand i.operand, of-call i.call)
  where
    of-operand : (o : Option OperandTree) → IfSome o (λ x. IsTrue (is_written (group_of i.op)) → T x)
    of-operand None = tt
    of-operand (Some o) = λ w. t o

    of-call : (o : Option CallPlain) → IfSome o (λ x. C (site_of i x))
    of-call None = tt
    of-call (Some call) = c _

pub any-instructions : (T : OperandTree → Type 0) (C : CallSite → Type 0) → ((o : OperandTree) → T o) → ((c : CallSite) → C c)
    → (is : List InstrTree) → EachInstruction T C is
any-instructions T C t c [] = tt
any-instructions T C t c (i ∷ more) = (any-instruction T C t c i, any-instructions T C t c more)

-- ---- operands that are written

got-same : {A : Type 0} (d : A) {a b : A} → got a ≡ got b → a ≡ b
got-same d p = ap (or-else d) p
  where
    or-else : {B : Type 0} → B → Tried B → B
    or-else e (got x) = x
    or-else e (trap kind place) = e

abbrev IsKept : (Frame → Type 0) → Source → Activation → InstrTree → Type 0
IsKept P source act i = IfSome i.operand (λ o. Writes P source act o)

spot-kept : (P : Frame → Type 0) (source : Source) (act : Activation) (i : InstrTree) → IsKept P source act i → (at_frame : Frame) (spot : Spot)
    → spot_behind source act at_frame i ≡ got spot → (f : Frame) (v : ℤ) → P f → P (write_spot source f spot v)
spot-kept P source act i kept at_frame spot at f v is = lead i.operand kept at
  where
    lead : (o : Option OperandTree) → IfSome o (λ x. Writes P source act x) → elim o [
      | None ↦ got nowhere
      | Some x ↦ locate source act at_frame x
    ] ≡ got spot → P (write_spot source f spot v)
    lead None k e = subst (λ (s : Spot). P (write_spot source f s v)) (got-same nowhere e) is
    lead (Some x) k e = k f spot at_frame v e is

-- ---- effects

goes-holds : (P : Frame → Type 0) (t : Tried Working) → HoldsIfGot (λ (w : Working). P w.frame) t → HoldsOf (Goes P) (goes_on t)
goes-holds P (got w) is = is
goes-holds P (trap kind place) is = tt

h-registers : (P : Frame → Type 0) (f : Registers → Tried Registers) (w : Working) → P w.frame → HoldsOf (Goes P) (on_registers f w)
h-registers P f w is = goes-holds P _ (any-holds (λ (v : Working). P v.frame) (f w.registers) _ (λ r. is))

h-joins : (P : Frame → Type 0) (source : Source) (act : Activation) (i : InstrTree) (j : Junction) (w : Working) → P w.frame
    → HoldsOf (Goes P) (joins source act i j w)
h-joins P source act i j w is =
    end-holds (Goes P) _ (any-holds (Goes P) (bit_behind source act i w.frame) _
    (λ b. any-holds (Goes P) (join i.place j b w.registers.logic) _ (λ l. is)))

h-writes : (P : Frame → Type 0) (source : Source) (act : Activation) (i : InstrTree) → IsKept P source act i → (written : Bool → Option Bool)
    (w : Working) → P w.frame → HoldsOf (Goes P) (writes source act i written w)
h-writes P source act i kept written w is =
    end-holds (Goes P) _ (any-holds (Goes P) (result_of i.place w.registers.logic) _
    (λ e. from-holds (Goes P) (spot_behind source act w.frame i) _ (λ spot at. lead spot at (written e))))
  where
    lead : (spot : Spot) → spot_behind source act w.frame i ≡ got spot → (o : Option Bool) → P (elim o [
      | None ↦ w.frame
      | Some b ↦ write_spot source w.frame spot (number_of b)
    ])
    lead spot at None = is
    lead spot at (Some b) = spot-kept P source act i kept w.frame spot at w.frame (number_of b) is

h-edge : (P : Frame → Type 0) (source : Source) (act : Activation) (i : InstrTree) → IsKept P source act i → (rising : Bool) (w : Working)
    → P w.frame → HoldsOf (Goes P) (finds_edge source act i rising w)
h-edge P source act i kept rising w is =
    end-holds (Goes P) _ (any-holds (Goes P) (result_of i.place w.registers.logic) _
    (λ e. from-holds (Goes P) (spot_behind source act w.frame i) _
    (λ spot at. any-holds (Goes P) (bit_at w.frame i.place spot) _
    (λ before. spot-kept P source act i kept w.frame spot at w.frame (number_of e) is))))

h-loads : (P : Frame → Type 0) (source : Source) (act : Activation) (i : InstrTree) (w : Working) → P w.frame
    → HoldsOf (Goes P) (loads source act i w)
h-loads P source act i w is =
    goes-holds P _ (any-holds (λ (v : Working). P v.frame) (loaded_number source act i w.frame) _ (λ v. is))

h-transfers : (P : Frame → Type 0) (source : Source) (act : Activation) (i : InstrTree) → IsKept P source act i → (w : Working)
    → P w.frame → HoldsOf (Goes P) (transfers source act i w)
h-transfers P source act i kept w is =
    goes-holds P _ (any-holds (λ (v : Working). P v.frame) (had i.place w.registers.accu1) _
    (λ a. from-holds (λ (v : Working). P v.frame) (spot_behind source act w.frame i) _
    (λ spot at. spot-kept P source act i kept w.frame spot at w.frame (wrap_of (type_behind source act i) a) is)))

h-jump : (P : Frame → Type 0) (i : InstrTree) (w : Working) → P w.frame → HoldsOf (Goes P) (jump i w)
h-jump P i w is = lead (label_of_jump i)
  where
    lead : (o : Option PlacedName) → Goes P (elim o [
      | None ↦ onward w
      | Some l ↦ at_label l.0.key w
    ])
    lead None = is
    lead (Some l) = is

h-where : (P : Frame → Type 0) (i : InstrTree) (b : Bool) (w : Working) → P w.frame → HoldsOf (Goes P) (jump_where i b w)
h-where P i true w is = h-jump P i w is
h-where P i false w is = is

h-result : (P : Frame → Type 0) (i : InstrTree) (w : Working) (next : Bool → Effect)
    → ((e : Bool) (v : Working) → P v.frame → HoldsOf (Goes P) (next e v)) → P w.frame → HoldsOf (Goes P) (by_result i w next)
h-result P i w next h is =
    ends-hold (Goes P) (end_of (result_of i.place w.registers.logic)) _
    (λ e. h e (with_registers w (with_logic w.registers (resulting false true))) is)

h-codes : (P : Frame → Type 0) (i : InstrTree) (test : Bool → Bool → Bool) (w : Working) → P w.frame
    → HoldsOf (Goes P) (jump_by_codes i test w)
h-codes P i test w is =
    ends-hold (Goes P) (end_of (had i.place w.registers.codes.cc1)) _
    (λ a. ends-hold (Goes P) (end_of (had i.place w.registers.codes.cc0)) _ (λ b. h-where P i (test a b) w is))

h-overflow : (P : Frame → Type 0) (i : InstrTree) (w : Working) → P w.frame → HoldsOf (Goes P) (jump_by_overflow i w)
h-overflow P i w is = ends-hold (Goes P) (end_of (had i.place w.registers.codes.ov)) _ (λ b. h-where P i b w is)

h-loop : (P : Frame → Type 0) (i : InstrTree) (w : Working) → P w.frame → HoldsOf (Goes P) (loop_jump i w)
h-loop P i w is = ends-hold (Goes P) (end_of (had i.place w.registers.accu1)) _ (λ a. h-where P i _ _ is)

h-ends : (P : Frame → Type 0) (e : Bool) (w : Working) → P w.frame → HoldsOf (Goes P) (ends_where e w)
h-ends P true w is = is
h-ends P false w is = is

h-call : (P : Frame → Type 0) (calls : Calls) (act : Activation) (i : InstrTree) (call : CallPlain)
    → CallKeeps P calls act (site_of i call) → (w : Working) → P w.frame
    → HoldsOf (Goes P) (makes_call calls act i call w)
h-call P calls act i call keeps w is =
    also-holds (λ (back : Returned). P back.frame) (Goes P) _ _ (keeps w.frame is) (λ back p. p)

h-word : (P : Frame → Type 0) (place : Place) (e : Ended Next) → HoldsOf (Goes P) e → HoldsOf (Goes P) (at_word place e)
h-word P place (ended next) is = is
h-word P place (trapped kind at) is = tt
h-word P place (over at) is = tt

-- an operand that is written is kept by the test, and another one isn't asked for
written-kept : (P : Frame → Type 0) (source : Source) (act : Activation) (i : InstrTree) (o : Op) → is_written (group_of o) ≡ true
    → IfSome i.operand (λ x. IsTrue (is_written (group_of o)) → Writes P source act x) → IsKept P source act i
written-kept P source act i o e is = lead i.operand is
  where
    lead : (x : Option OperandTree) → IfSome x (λ y. IsTrue (is_written (group_of o)) → Writes P source act y)
        → IfSome x (λ y. Writes P source act y)
    lead None k = tt
    lead (Some y) k = k e

holds-effect : (P : Frame → Type 0) (source : Source) (act : Activation) (i : InstrTree) (o : Op)
    → IfSome i.operand (λ x. IsTrue (is_written (group_of o)) → Writes P source act x) → (w : Working) → P w.frame
    → HoldsOf (Goes P) (effect source act i o w)
holds-effect P source act i op.A k w is = h-joins P source act i (junction op.A) w is
holds-effect P source act i op.An k w is = h-joins P source act i (junction op.An) w is
holds-effect P source act i op.O k w is = lead i.operand
  where
    lead : (x : Option OperandTree) → HoldsOf (Goes P) (elim x [
      | None ↦ on_logic (keep_or i.place) w
      | Some y ↦ joins source act i (junction op.O) w
    ])
    lead None = h-registers P (λ r. and_then (keep_or i.place r.logic) (λ l. got (with_logic r l))) w is
    lead (Some y) = h-joins P source act i (junction op.O) w is
holds-effect P source act i op.On k w is = h-joins P source act i (junction op.On) w is
holds-effect P source act i op.X k w is = h-joins P source act i (junction op.X) w is
holds-effect P source act i op.Xn k w is = h-joins P source act i (junction op.Xn) w is
holds-effect P source act i op.AOpen k w is = h-registers P (λ r. got (open_nesting (junction op.AOpen) r)) w is
holds-effect P source act i op.AnOpen k w is = h-registers P (λ r. got (open_nesting (junction op.AnOpen) r)) w is
holds-effect P source act i op.OOpen k w is = h-registers P (λ r. got (open_nesting (junction op.OOpen) r)) w is
holds-effect P source act i op.OnOpen k w is = h-registers P (λ r. got (open_nesting (junction op.OnOpen) r)) w is
holds-effect P source act i op.XOpen k w is = h-registers P (λ r. got (open_nesting (junction op.XOpen) r)) w is
holds-effect P source act i op.XnOpen k w is = h-registers P (λ r. got (open_nesting (junction op.XnOpen) r)) w is
holds-effect P source act i op.Close k w is = h-registers P (close_nesting i.place) w is
holds-effect P source act i op.Assign k w is = h-writes P source act i (written-kept P source act i op.Assign refl k) (λ e. Some e) w is
holds-effect P source act i op.S k w is = h-writes P source act i (written-kept P source act i op.S refl k) (where_true true) w is
holds-effect P source act i op.R k w is = h-writes P source act i (written-kept P source act i op.R refl k) (where_true false) w is
holds-effect P source act i op.Not k w is = h-registers P (λ r. and_then (negate_result i.place r.logic) (λ x. got (with_logic r x))) w is
holds-effect P source act i op.Set k w is = h-registers P (λ r. and_then (got (resulting false true)) (λ x. got (with_logic r x))) w is
holds-effect P source act i op.Clr k w is = h-registers P (λ r. and_then (got (resulting false false)) (λ x. got (with_logic r x))) w is
holds-effect P source act i op.Fp k w is = h-edge P source act i (written-kept P source act i op.Fp refl k) true w is
holds-effect P source act i op.Fn k w is = h-edge P source act i (written-kept P source act i op.Fn refl k) false w is
holds-effect P source act i op.Save k w is = is
holds-effect P source act i op.Nop k w is = is
holds-effect P source act i op.Bld k w is = is
holds-effect P source act i op.L k w is = h-loads P source act i w is
holds-effect P source act i op.T k w is = h-transfers P source act i (written-kept P source act i op.T refl k) w is
holds-effect P source act i op.AddI k w is = h-registers P (summed ◌+ℤ◌ low i.place) w is
holds-effect P source act i op.SubI k w is = h-registers P (summed ◌-ℤ◌ low i.place) w is
holds-effect P source act i op.MulI k w is = h-registers P (product_of_words i.place) w is
holds-effect P source act i op.DivI k w is = h-registers P (quotient_of_words i.place) w is
holds-effect P source act i op.AddD k w is = h-registers P (summed ◌+ℤ◌ whole i.place) w is
holds-effect P source act i op.SubD k w is = h-registers P (summed ◌-ℤ◌ whole i.place) w is
holds-effect P source act i op.MulD k w is = h-registers P (product i.place) w is
holds-effect P source act i op.DivD k w is = h-registers P (quotient_of_wholes i.place) w is
holds-effect P source act i op.Mod k w is = h-registers P (remainder_of_wholes i.place) w is
holds-effect P source act i op.EqI k w is = h-registers P (compared int_eq low i.place) w is
holds-effect P source act i op.NeI k w is = h-registers P (compared is_not low i.place) w is
holds-effect P source act i op.GtI k w is = h-registers P (compared is_above low i.place) w is
holds-effect P source act i op.LtI k w is = h-registers P (compared int_lt low i.place) w is
holds-effect P source act i op.GeI k w is = h-registers P (compared is_from low i.place) w is
holds-effect P source act i op.LeI k w is = h-registers P (compared int_le low i.place) w is
holds-effect P source act i op.EqD k w is = h-registers P (compared int_eq whole i.place) w is
holds-effect P source act i op.NeD k w is = h-registers P (compared is_not whole i.place) w is
holds-effect P source act i op.GtD k w is = h-registers P (compared is_above whole i.place) w is
holds-effect P source act i op.LtD k w is = h-registers P (compared int_lt whole i.place) w is
holds-effect P source act i op.GeD k w is = h-registers P (compared is_from whole i.place) w is
holds-effect P source act i op.LeD k w is = h-registers P (compared int_le whole i.place) w is
holds-effect P source act i op.Aw k w is = h-registers P (joined_word and_of low (value_behind i) i.place) w is
holds-effect P source act i op.Ow k w is = h-registers P (joined_word or_of low (value_behind i) i.place) w is
holds-effect P source act i op.Xow k w is = h-registers P (joined_word xor_of low (value_behind i) i.place) w is
holds-effect P source act i op.Ad k w is = h-registers P (joined_word and_of whole (value_behind i) i.place) w is
holds-effect P source act i op.Od k w is = h-registers P (joined_word or_of whole (value_behind i) i.place) w is
holds-effect P source act i op.Xod k w is = h-registers P (joined_word xor_of whole (value_behind i) i.place) w is
holds-effect P source act i op.Slw k w is = h-registers P (shifted shl_of low (count_behind i) i.place) w is
holds-effect P source act i op.Srw k w is = h-registers P (shifted shr_of low (count_behind i) i.place) w is
holds-effect P source act i op.Sld k w is = h-registers P (shifted shl_of whole (count_behind i) i.place) w is
holds-effect P source act i op.Srd k w is = h-registers P (shifted shr_of whole (count_behind i) i.place) w is
holds-effect P source act i op.Itd k w is = h-registers P (extended i.place) w is
holds-effect P source act i op.Tak k w is = h-registers P (λ r. got (swapped r)) w is
holds-effect P source act i op.Push k w is = h-registers P (λ r. got (pushed r)) w is
holds-effect P source act i op.Pop k w is = h-registers P (λ r. got (popped r)) w is
holds-effect P source act i op.Ju k w is = h-jump P i w is
holds-effect P source act i op.Jc k w is = h-result P i w (λ e. jump_where i e) (λ e v p. h-where P i e v p) is
holds-effect P source act i op.Jcb k w is = h-result P i w (λ e. jump_where i e) (λ e v p. h-where P i e v p) is
holds-effect P source act i op.Jcn k w is = h-result P i w (λ e. jump_where i (not e)) (λ e v p. h-where P i (not e) v p) is
holds-effect P source act i op.Jnb k w is = h-result P i w (λ e. jump_where i (not e)) (λ e v p. h-where P i (not e) v p) is
holds-effect P source act i op.Jz k w is = h-codes P i is_zero w is
holds-effect P source act i op.Jn k w is = h-codes P i is_not_zero w is
holds-effect P source act i op.Jp k w is = h-codes P i is_plus w is
holds-effect P source act i op.Jm k w is = h-codes P i is_minus w is
holds-effect P source act i op.Jpz k w is = h-codes P i is_not_minus w is
holds-effect P source act i op.Jmz k w is = h-codes P i is_not_plus w is
holds-effect P source act i op.Jo k w is = h-overflow P i w is
holds-effect P source act i op.Loop k w is = h-loop P i w is
holds-effect P source act i op.Be k w is = is
holds-effect P source act i op.Beu k w is = is
holds-effect P source act i op.Bec k w is = h-result P i w ends_where (λ e v p. h-ends P e v p) is
holds-effect P source act i op.Call k w is = is
holds-effect P source act i op.Uc k w is = is

-- ---- runs

holds-again : (P : Frame → Type 0) (turn : Effect) → ((w : Working) → P w.frame → HoldsOf (Goes P) (turn w)) → (l : PlacedName) (n : Next)
    → Goes P n → HoldsOf (Goes P) (again turn l n)
holds-again P turn keeps l (onward w) is = is
holds-again P turn keeps l (at_label key w) is = lead (is_named key (Some l))
  where
    lead : (b : Bool) → HoldsOf (Goes P) (elim b [
      | true ↦ turn w
      | false ↦ ended (at_label key w)
    ])
    lead true = keeps w is
    lead false = is
holds-again P turn keeps l (left frame) is = is

holds-turns : (P : Frame → Type 0) (body : Effect) → ((w : Working) → P w.frame → HoldsOf (Goes P) (body w)) → (l : PlacedName) (n : ℕ)
    (w : Working) → P w.frame → HoldsOf (Goes P) (turns body l n w)
holds-turns P body keeps l zero w is = tt
holds-turns P body keeps l (suc n) w is =
    also-holds (Goes P) (Goes P) (body w) _ (keeps w is)
    (λ next p. holds-again P (λ v. turns body l n v) (λ v q. holds-turns P body keeps l n v q) l next p)

holds-arrives : (P : Frame → Type 0) (source : Source) (o : Option PlacedName) (range : List InstrTree) (body : Effect)
    → ((w : Working) → P w.frame → HoldsOf (Goes P) (body w)) → (w : Working) → P w.frame
    → HoldsOf (Goes P) (arrives source o range body w)
holds-arrives P source None range body keeps w is = keeps w is
holds-arrives P source (Some l) range body keeps w is = lead (is_jumped_to l.0.key range)
  where
    lead : (b : Bool) → HoldsOf (Goes P) (elim b [
      | true ↦ turns body l source.bound w
      | false ↦ body w
    ])
    lead true = holds-turns P body keeps l source.bound w is
    lead false = keeps w is

holds-follow : (P : Frame → Type 0) (more : Sought → Effect) → ((at : Sought) (w : Working) → P w.frame → HoldsOf (Goes P) (more at w))
    → (n : Next) → Goes P n → HoldsOf (Goes P) (follow more n)
holds-follow P more keeps (onward w) is = keeps here w is
holds-follow P more keeps (at_label key w) is = keeps (label key) w is
holds-follow P more keeps (left frame) is = is

-- an instruction, and those behind it
holds-body : (P : Frame → Type 0) (source : Source) (calls : Calls) (act : Activation) (i : InstrTree)
    → InstructionDoing (Writes P source act) (CallKeeps P calls act) i → (more : Sought → Effect)
    → ((at : Sought) (w : Working) → P w.frame → HoldsOf (Goes P) (more at w)) → (w : Working) → P w.frame
    → HoldsOf (Goes P) (and_end (step source calls act i w) (λ next. follow more next))
holds-body P source calls act i each more keeps w is =
    also-holds (Goes P) (Goes P) (step source calls act i w) _ (lead i.call each.1) (λ next p. holds-follow P more keeps next p)
  where
    lead : (o : Option CallPlain) → IfSome o (λ call. CallKeeps P calls act (site_of i call))
        → HoldsOf (Goes P) (elim o [
          | None ↦ at_word i.place (effect source act i i.op w)
          | Some call ↦ makes_call calls act i call w
        ])
    lead None k = h-word P i.place _ (holds-effect P source act i i.op each.0 w is)
    lead (Some call) k = h-call P calls act i call k w is

either-holds : (P : Frame → Type 0) (b : Bool) (x y : Ended Next) → HoldsOf (Goes P) x → HoldsOf (Goes P) y → HoldsOf (Goes P) (elim b [
  | true ↦ x
  | false ↦ y
])
either-holds P true x y p q = p
either-holds P false x y p q = q

-- an instruction as it is arrived at, with those behind it
abbrev entered : Source → Calls → Activation → InstrTree → List InstrTree → Effect
entered source calls act i more w = arrives source i.label (i ∷ more) (λ v. and_end (step source calls act i v)
    (λ next. follow (λ at x. run_instructions source calls act more at x) next)) w

pub holds-instructions : (P : Frame → Type 0) (source : Source) (calls : Calls) (act : Activation) (is : List InstrTree)
    → EachInstruction (Writes P source act) (CallKeeps P calls act) is → (at : Sought) (w : Working) → P w.frame
    → HoldsOf (Goes P) (run_instructions source calls act is at w)
holds-instructions P source calls act [] each here w p = p
holds-instructions P source calls act [] each (label key) w p = p
holds-instructions P source calls act (i ∷ more) each here w p =
    holds-arrives P source i.label (i ∷ more) _ (λ v q. holds-body P source calls act i each.0
    (λ at x. run_instructions source calls act more at x)
    (λ at x r. holds-instructions P source calls act more each.1 at x r) v q) w p
holds-instructions P source calls act (i ∷ more) each (label key) w p =
    either-holds P (is_named key i.label) (entered source calls act i more w) (run_instructions source calls act more (label key) w)
    (holds-arrives P source i.label (i ∷ more) _ (λ v q. holds-body P source calls act i each.0
    (λ at x. run_instructions source calls act more at x)
    (λ at x r. holds-instructions P source calls act more each.1 at x r) v q) w p)
    (holds-instructions P source calls act more each.1 (label key) w p)

pub holds-stl : (P : Frame → Type 0) (source : Source) (calls : Calls) (act : Activation) (is : List InstrTree)
    → EachInstruction (Writes P source act) (CallKeeps P calls act) is → (frame : Frame) → P frame
    → HoldsOf P (run_stl source calls act is frame)
holds-stl P source calls act is each frame p =
    also-holds (Goes P) P (run_instructions source calls act is here (record { registers = fresh; frame = frame })) _
    (holds-instructions P source calls act is each here (record { registers = fresh; frame = frame }) p) (λ next q. q)

-- ---- two ways of making calls

two : {A B C : Type 0} (f : A → B → C) {a x : A} {b y : B} → a ≡ x → b ≡ y → f a b ≡ f x y
two f {a} {x} {b} {y} p q = ap (λ z. f z b) p ∙ ap (λ z. f x z) q

abbrev pub Agree : Calls → Calls → Activation → CallSite → Type 0
Agree c d act site = (frame : Frame) → c act site frame ≡ d act site frame

-- an instruction by the call that it makes, if it makes one
abbrev pub stepped : Source → Calls → Activation → InstrTree → Working → Option CallPlain → Ended Next
stepped source calls act i w o = elim o [
  | None ↦ at_word i.place (effect source act i i.op w)
  | Some call ↦ makes_call calls act i call w
]

same-step : (source : Source) (c d : Calls) (act : Activation) (i : InstrTree) → InstructionDoing (λ o. ⊤) (Agree c d act) i → (w : Working)
    → step source c act i w ≡ step source d act i w
same-step source c d act i each w = lead i.call each.1
  where
    lead : (o : Option CallPlain) → IfSome o (λ call. Agree c d act (site_of i call))
        → stepped source c act i w o ≡ stepped source d act i w o
    lead None k = refl
    lead (Some call) k = ap (λ (e : Ended Returned). let r : Ended Next = and_end e
        (λ back. ended (onward (record { registers = fresh; frame = back.frame }))) in r) (k w.frame)

same-body : (source : Source) (c d : Calls) (act : Activation) (i : InstrTree) → InstructionDoing (λ o. ⊤) (Agree c d act) i
    → (x y : Sought → Effect) → ((at : Sought) (w : Working) → x at w ≡ y at w) → (w : Working)
    → and_end (step source c act i w) (λ next. follow x next) ≡ and_end (step source d act i w) (λ next. follow y next)
same-body source c d act i each x y same w =
    two (λ (e : Ended Next) (more : Sought → Effect). and_end e (λ next. follow more next)) (same-step source c d act i each w)
    (fun_ext (λ at. fun_ext (λ v. same at v)))

pub same-instructions : (source : Source) (c d : Calls) (act : Activation) (is : List InstrTree)
    → EachInstruction (λ o. ⊤) (Agree c d act) is → (at : Sought) (w : Working)
    → run_instructions source c act is at w ≡ run_instructions source d act is at w
same-instructions source c d act [] each here w = refl
same-instructions source c d act [] each (label key) w = refl
same-instructions source c d act (i ∷ more) each here w =
    ap (λ (body : Effect). arrives source i.label (i ∷ more) body w) (fun_ext (λ v. same-body source c d act i each.0
    (λ at x. run_instructions source c act more at x) (λ at x. run_instructions source d act more at x)
    (λ at x. same-instructions source c d act more each.1 at x) v))
same-instructions source c d act (i ∷ more) each (label key) w =
    two (λ (body : Effect) (other : Ended Next). elim (is_named key i.label) [
      | true ↦ arrives source i.label (i ∷ more) body w
      | false ↦ other
    ]) (fun_ext (λ v. same-body source c d act i each.0
    (λ at x. run_instructions source c act more at x) (λ at x. run_instructions source d act more at x)
    (λ at x. same-instructions source c d act more each.1 at x) v)) (same-instructions source c d act more each.1 (label key) w)

pub same-stl : (source : Source) (c d : Calls) (act : Activation) (is : List InstrTree) → EachInstruction (λ o. ⊤) (Agree c d act) is
    → (frame : Frame) → run_stl source c act is frame ≡ run_stl source d act is frame
same-stl source c d act is each frame =
    ap (λ (e : Ended Next). and_end e (λ next. ended (frame_left next)))
    (same-instructions source c d act is each here (record { registers = fresh; frame = frame }))

-- ---- tests that follow from others

pub passed-instructions : (S T : OperandTree → Type 0) → ((o : OperandTree) → S o → T o) → (C D : CallSite → Type 0)
    → ((s : CallSite) → C s → D s) → (is : List InstrTree) → EachInstruction S C is → EachInstruction T D is
passed-instructions S T f C D g [] each = tt
passed-instructions S T f C D g (i ∷ more) each = (
  (of-operand i.operand each.0.0, of-call i.call each.0.1),
  passed-instructions S T f C D g more each.1,
)
  where
    of-operand : (o : Option OperandTree) → IfSome o (λ x. IsTrue (is_written (group_of i.op)) → S x)
        → IfSome o (λ x. IsTrue (is_written (group_of i.op)) → T x)
    of-operand None k = tt
    of-operand (Some o) k = λ w. f o (k w)

    of-call : (o : Option CallPlain) → IfSome o (λ call. C (site_of i call)) → IfSome o (λ call. D (site_of i call))
    of-call None k = tt
    of-call (Some call) k = g _ k
