-- The laws of instructions.
use Rattle.std.proofs.Common.{◌≡◌, ℕ, ◌+◌, ◌*◌, ◌/◌, ◌^◌, ℤ, pos, ◌+ℤ◌, List, [], ◌∷◌, ◌++◌, Bool, true, false, Option, Some, None, not, refl, sym, ap, subst, ◌∙◌, arith}
use Rattle.std.specs.Ordering.{int_eq}
use Rattle.std.proofs.lemmas.Bool.Decides.{Decides-int_eq}
use Rattle.pv_word.specs.declared.types.Ty.{Ty}
use Rattle.pv_word.specs.declared.types.Ty.TheVariants.{Word as WordType, Dword, Int}
use Rattle.pv_word.specs.Wrap.{IsCongruent}
use Rattle.pv_word.specs.Bits.{pattern_at}
use Rattle.pv_word.specs.Types.{width_of, is_signed_of, InRange, wrap_of, pattern_of}
use Rattle.pv_word.proofs.ForCallers.{wide, wrap-own, wrap-in_range, wrap-congruent_same, congruent-trans, pattern-wrap, pattern-congruent, pattern-congruent_same}
use Rattle.pv_place.specs.declared.place.Place.{Place}
use Rattle.pv_tree.specs.declared.instr.Op.{Op}
use Rattle.pv_tree.specs.declared.instr.Op.TheVariants as op
use Rattle.pv_tree.specs.Tree.{PlacedName, OperandTree, CallPlain, InstrTree}
use Rattle.pv_tree.specs.InstructionGroups.{opening, group_of}
use Rattle.pv_mean.specs.Sources.{Source}
use Rattle.pv_mean.specs.Endings.{Value, Tried, got, trap, and_then, Ended, ended, trapped, over, end_of, and_end}
use Rattle.pv_mean.specs.Spots.{Spot, read_spot, write_spot}
use Rattle.pv_mean.specs.Activations.{Activation}
use Rattle.pv_mean.specs.Values.{locate}
use Rattle.pv_mean.specs.Statements.{Calls}
use Rattle.pv_mean.specs.Registers.{Logic, Nesting, Working, no_logic, had, result_of, resulting, with_logic, with_nestings}
use Rattle.pv_mean.specs.BitLogic.{join, open_nesting}
use Rattle.pv_mean.specs.Accumulators.{low, number, put, overflows, codes_by, became, loaded}
use Rattle.pv_mean.specs.Instructions.{operand_type, Next, onward, at_label, left, goes_on, with_registers, at_word, junction, effect, step}
use Rattle.pv_mean.specs.InstructionRuns.{here, label, is_named, arrives, follow, run_instructions}
use Rattle.pv_mean.proofs.Instructing.{stepped}
use Rattle.pv_mean.specs.CorrectInstructions.{plainly, is_comparison, having, having_open, AreUnlabelled}

-- ---- comparisons

forgetting : (source : Source) (act : Activation) (i : InstrTree) (o : Op) → is_comparison o ≡ true → (w : Working) (l : Logic)
    → effect source act i o (having w l) ≡ effect source act i o w
forgetting source act i op.A e w l = absurd (cc e)
forgetting source act i op.An e w l = absurd (cc e)
forgetting source act i op.O e w l = absurd (cc e)
forgetting source act i op.On e w l = absurd (cc e)
forgetting source act i op.X e w l = absurd (cc e)
forgetting source act i op.Xn e w l = absurd (cc e)
forgetting source act i op.AOpen e w l = absurd (cc e)
forgetting source act i op.AnOpen e w l = absurd (cc e)
forgetting source act i op.OOpen e w l = absurd (cc e)
forgetting source act i op.OnOpen e w l = absurd (cc e)
forgetting source act i op.XOpen e w l = absurd (cc e)
forgetting source act i op.XnOpen e w l = absurd (cc e)
forgetting source act i op.Close e w l = absurd (cc e)
forgetting source act i op.Assign e w l = absurd (cc e)
forgetting source act i op.S e w l = absurd (cc e)
forgetting source act i op.R e w l = absurd (cc e)
forgetting source act i op.Not e w l = absurd (cc e)
forgetting source act i op.Set e w l = absurd (cc e)
forgetting source act i op.Clr e w l = absurd (cc e)
forgetting source act i op.Fp e w l = absurd (cc e)
forgetting source act i op.Fn e w l = absurd (cc e)
forgetting source act i op.Save e w l = absurd (cc e)
forgetting source act i op.Nop e w l = absurd (cc e)
forgetting source act i op.Bld e w l = absurd (cc e)
forgetting source act i op.L e w l = absurd (cc e)
forgetting source act i op.T e w l = absurd (cc e)
forgetting source act i op.AddI e w l = absurd (cc e)
forgetting source act i op.SubI e w l = absurd (cc e)
forgetting source act i op.MulI e w l = absurd (cc e)
forgetting source act i op.DivI e w l = absurd (cc e)
forgetting source act i op.AddD e w l = absurd (cc e)
forgetting source act i op.SubD e w l = absurd (cc e)
forgetting source act i op.MulD e w l = absurd (cc e)
forgetting source act i op.DivD e w l = absurd (cc e)
forgetting source act i op.Mod e w l = absurd (cc e)
forgetting source act i op.EqI e w l = refl
forgetting source act i op.NeI e w l = refl
forgetting source act i op.GtI e w l = refl
forgetting source act i op.LtI e w l = refl
forgetting source act i op.GeI e w l = refl
forgetting source act i op.LeI e w l = refl
forgetting source act i op.EqD e w l = refl
forgetting source act i op.NeD e w l = refl
forgetting source act i op.GtD e w l = refl
forgetting source act i op.LtD e w l = refl
forgetting source act i op.GeD e w l = refl
forgetting source act i op.LeD e w l = refl
forgetting source act i op.Aw e w l = absurd (cc e)
forgetting source act i op.Ow e w l = absurd (cc e)
forgetting source act i op.Xow e w l = absurd (cc e)
forgetting source act i op.Ad e w l = absurd (cc e)
forgetting source act i op.Od e w l = absurd (cc e)
forgetting source act i op.Xod e w l = absurd (cc e)
forgetting source act i op.Slw e w l = absurd (cc e)
forgetting source act i op.Srw e w l = absurd (cc e)
forgetting source act i op.Sld e w l = absurd (cc e)
forgetting source act i op.Srd e w l = absurd (cc e)
forgetting source act i op.Itd e w l = absurd (cc e)
forgetting source act i op.Tak e w l = absurd (cc e)
forgetting source act i op.Push e w l = absurd (cc e)
forgetting source act i op.Pop e w l = absurd (cc e)
forgetting source act i op.Ju e w l = absurd (cc e)
forgetting source act i op.Jc e w l = absurd (cc e)
forgetting source act i op.Jcb e w l = absurd (cc e)
forgetting source act i op.Jcn e w l = absurd (cc e)
forgetting source act i op.Jnb e w l = absurd (cc e)
forgetting source act i op.Jz e w l = absurd (cc e)
forgetting source act i op.Jn e w l = absurd (cc e)
forgetting source act i op.Jp e w l = absurd (cc e)
forgetting source act i op.Jm e w l = absurd (cc e)
forgetting source act i op.Jpz e w l = absurd (cc e)
forgetting source act i op.Jmz e w l = absurd (cc e)
forgetting source act i op.Jo e w l = absurd (cc e)
forgetting source act i op.Loop e w l = absurd (cc e)
forgetting source act i op.Be e w l = absurd (cc e)
forgetting source act i op.Beu e w l = absurd (cc e)
forgetting source act i op.Bec e w l = absurd (cc e)
forgetting source act i op.Call e w l = absurd (cc e)
forgetting source act i op.Uc e w l = absurd (cc e)

pub forgets : (source : Source) (calls : Calls) (act : Activation) (i : InstrTree) (w : Working) (l : Logic) → is_comparison i.op ≡ true
    → step source calls act i (having w l) ≡ step source calls act i w
forgets source calls act i w l e = lead i.call
  where
    lead : (o : Option CallPlain) → stepped source calls act i (having w l) o ≡ stepped source calls act i w o
    lead None = ap (at_word i.place) (forgetting source act i i.op e w l)
    lead (Some call) = refl

-- ---- SET and `=`

pub set-stores : (source : Source) (calls : Calls) (act : Activation) (o : OperandTree) (spot : Spot) (p q : Place) (w : Working)
    → locate source act w.frame o ≡ got spot
    → run_instructions source calls act (plainly op.Set None None p ∷ plainly op.Assign (Some o) None q ∷ []) here w
    ≡ ended (onward (record {
      registers = with_logic w.registers (resulting false true);
      frame = write_spot source w.frame spot (pos 1);
    }))
set-stores source calls act o spot p q w at =
    ap (λ (t : Tried Spot). and_end (at_word q (end_of (and_then t (λ s. got (onward (record {
      registers = with_logic w.registers (resulting false true);
      frame = write_spot source w.frame s (pos 1);
    })))))) (λ next. follow (λ at x. run_instructions source calls act [] at x) next)) at

-- ---- one list behind another

same-onward : {v w : Working} → ended (onward v) ≡ ended (onward w) → v ≡ w
same-onward {v} {w} e = ap of e
  where
    of : Ended Next → Working
    of (ended (onward x)) = x
    of (ended (at_label key x)) = x
    of (ended (left f)) = v
    of (trapped kind place) = v
    of (over place) = v

not-found : (source : Source) (calls : Calls) (act : Activation) (is : List InstrTree) → AreUnlabelled is → (key : List ℕ) (w : Working)
    → run_instructions source calls act is (label key) w ≡ ended (at_label key w)
not-found source calls act [] un key w = refl
not-found source calls act (i ∷ more) un key w =
    ap (λ (b : Bool). elim b [
      | true ↦ arrives source i.label (i ∷ more) (λ v. and_end (step source calls act i v)
          (λ next. follow (λ at x. run_instructions source calls act more at x) next)) w
      | false ↦ run_instructions source calls act more (label key) w
    ]) (ap (λ (o : Option PlacedName). is_named key o) un.0) ∙ not-found source calls act more un.1 key w

-- an instruction without a label is run as it stands
unlabelled-first : (source : Source) (calls : Calls) (act : Activation) (i : InstrTree) → i.label ≡ None → (more : List InstrTree) (w : Working)
    → run_instructions source calls act (i ∷ more) here w
    ≡ and_end (step source calls act i w) (λ next. follow (λ at x. run_instructions source calls act more at x) next)
unlabelled-first source calls act i un more w =
    ap (λ (o : Option PlacedName). arrives source o (i ∷ more) (λ v. and_end (step source calls act i v)
    (λ next. follow (λ at x. run_instructions source calls act more at x) next)) w) un

pub run-behind : (source : Source) (calls : Calls) (act : Activation) (front back : List InstrTree) (w v : Working) → AreUnlabelled front
    → run_instructions source calls act front here w ≡ ended (onward v)
    → run_instructions source calls act (front ++ back) here w ≡ run_instructions source calls act back here v
run-behind source calls act [] back w v un e = ap (λ (x : Working). run_instructions source calls act back here x) (same-onward e)
run-behind source calls act (i ∷ more) back w v un e =
    unlabelled-first source calls act i un.0 (more ++ back) w
    ∙ lead (step source calls act i w) (sym (unlabelled-first source calls act i un.0 more w) ∙ e)
    (λ x p. run-behind source calls act more back x v un.1 p)
  where
    lead : (s : Ended Next) → and_end s (λ next. follow (λ at x. run_instructions source calls act more at x) next) ≡ ended (onward v)
        → ((x : Working) → run_instructions source calls act more here x ≡ ended (onward v)
        → run_instructions source calls act (more ++ back) here x ≡ run_instructions source calls act back here v)
        → and_end s (λ next. follow (λ at x. run_instructions source calls act (more ++ back) at x) next)
        ≡ run_instructions source calls act back here v
    lead (ended (onward x)) p h = h x p
    lead (ended (at_label key x)) p h =
        absurd (apart (sym (not-found source calls act more un.1 key x) ∙ p))
      where
        apart : ended (at_label key x) ≡ ended (onward v) → ⊥
        apart q = cc q
    lead (ended (left f)) p h = absurd (cc p)
    lead (trapped kind place) p h = absurd (cc p)
    lead (over place) p h = absurd (cc p)

-- ---- nestings

opening-step : (source : Source) (act : Activation) (i : InstrTree) (o : Op) → group_of o ≡ opening → (w : Working)
    → effect source act i o w ≡ ended (onward (with_registers w (open_nesting (junction o) w.registers)))
opening-step source act i op.A e w = absurd (cc e)
opening-step source act i op.An e w = absurd (cc e)
opening-step source act i op.O e w = absurd (cc e)
opening-step source act i op.On e w = absurd (cc e)
opening-step source act i op.X e w = absurd (cc e)
opening-step source act i op.Xn e w = absurd (cc e)
opening-step source act i op.AOpen e w = refl
opening-step source act i op.AnOpen e w = refl
opening-step source act i op.OOpen e w = refl
opening-step source act i op.OnOpen e w = refl
opening-step source act i op.XOpen e w = refl
opening-step source act i op.XnOpen e w = refl
opening-step source act i op.Close e w = absurd (cc e)
opening-step source act i op.Assign e w = absurd (cc e)
opening-step source act i op.S e w = absurd (cc e)
opening-step source act i op.R e w = absurd (cc e)
opening-step source act i op.Not e w = absurd (cc e)
opening-step source act i op.Set e w = absurd (cc e)
opening-step source act i op.Clr e w = absurd (cc e)
opening-step source act i op.Fp e w = absurd (cc e)
opening-step source act i op.Fn e w = absurd (cc e)
opening-step source act i op.Save e w = absurd (cc e)
opening-step source act i op.Nop e w = absurd (cc e)
opening-step source act i op.Bld e w = absurd (cc e)
opening-step source act i op.L e w = absurd (cc e)
opening-step source act i op.T e w = absurd (cc e)
opening-step source act i op.AddI e w = absurd (cc e)
opening-step source act i op.SubI e w = absurd (cc e)
opening-step source act i op.MulI e w = absurd (cc e)
opening-step source act i op.DivI e w = absurd (cc e)
opening-step source act i op.AddD e w = absurd (cc e)
opening-step source act i op.SubD e w = absurd (cc e)
opening-step source act i op.MulD e w = absurd (cc e)
opening-step source act i op.DivD e w = absurd (cc e)
opening-step source act i op.Mod e w = absurd (cc e)
opening-step source act i op.EqI e w = absurd (cc e)
opening-step source act i op.NeI e w = absurd (cc e)
opening-step source act i op.GtI e w = absurd (cc e)
opening-step source act i op.LtI e w = absurd (cc e)
opening-step source act i op.GeI e w = absurd (cc e)
opening-step source act i op.LeI e w = absurd (cc e)
opening-step source act i op.EqD e w = absurd (cc e)
opening-step source act i op.NeD e w = absurd (cc e)
opening-step source act i op.GtD e w = absurd (cc e)
opening-step source act i op.LtD e w = absurd (cc e)
opening-step source act i op.GeD e w = absurd (cc e)
opening-step source act i op.LeD e w = absurd (cc e)
opening-step source act i op.Aw e w = absurd (cc e)
opening-step source act i op.Ow e w = absurd (cc e)
opening-step source act i op.Xow e w = absurd (cc e)
opening-step source act i op.Ad e w = absurd (cc e)
opening-step source act i op.Od e w = absurd (cc e)
opening-step source act i op.Xod e w = absurd (cc e)
opening-step source act i op.Slw e w = absurd (cc e)
opening-step source act i op.Srw e w = absurd (cc e)
opening-step source act i op.Sld e w = absurd (cc e)
opening-step source act i op.Srd e w = absurd (cc e)
opening-step source act i op.Itd e w = absurd (cc e)
opening-step source act i op.Tak e w = absurd (cc e)
opening-step source act i op.Push e w = absurd (cc e)
opening-step source act i op.Pop e w = absurd (cc e)
opening-step source act i op.Ju e w = absurd (cc e)
opening-step source act i op.Jc e w = absurd (cc e)
opening-step source act i op.Jcb e w = absurd (cc e)
opening-step source act i op.Jcn e w = absurd (cc e)
opening-step source act i op.Jnb e w = absurd (cc e)
opening-step source act i op.Jz e w = absurd (cc e)
opening-step source act i op.Jn e w = absurd (cc e)
opening-step source act i op.Jp e w = absurd (cc e)
opening-step source act i op.Jm e w = absurd (cc e)
opening-step source act i op.Jpz e w = absurd (cc e)
opening-step source act i op.Jmz e w = absurd (cc e)
opening-step source act i op.Jo e w = absurd (cc e)
opening-step source act i op.Loop e w = absurd (cc e)
opening-step source act i op.Be e w = absurd (cc e)
opening-step source act i op.Beu e w = absurd (cc e)
opening-step source act i op.Bec e w = absurd (cc e)
opening-step source act i op.Call e w = absurd (cc e)
opening-step source act i op.Uc e w = absurd (cc e)

closing : (source : Source) (calls : Calls) (act : Activation) (q : Place) (v : Working) (n : Nesting) (ns : List Nesting)
    → v.registers.nestings ≡ n ∷ ns
    → run_instructions source calls act (plainly op.Close None None q ∷ []) here v
    ≡ at_word q (end_of (and_then (result_of q v.registers.logic) (λ e. and_then (join q n.junction e n.outer)
    (λ l. got (onward (having_open v l ns))))))
closing source calls act q v n ns is =
    ap (λ (pending : List Nesting). and_end (at_word q (goes_on (and_then (and_then (result_of q v.registers.logic) (λ e. elim pending [
      | [] ↦ got v.registers
      | x ∷ more ↦ and_then (join q x.junction e x.outer) (λ l. got (with_logic (with_nestings v.registers more) l))
    ])) (λ r. got (with_registers v r))))) (λ next. follow (λ at x. run_instructions source calls act [] at x) next)) is
    ∙ lead (result_of q v.registers.logic)
  where
    inner : (t : Tried Logic) → and_end (at_word q (goes_on (and_then (and_then t
        (λ l. got (with_logic (with_nestings v.registers ns) l))) (λ r. got (with_registers v r)))))
        (λ next. follow (λ at x. run_instructions source calls act [] at x) next)
        ≡ at_word q (end_of (and_then t (λ l. got (onward (having_open v l ns)))))
    inner (got l) = refl
    inner (trap kind place) = refl

    lead : (t : Tried Bool) → and_end (at_word q (goes_on (and_then (and_then t
        (λ e. and_then (join q n.junction e n.outer) (λ l. got (with_logic (with_nestings v.registers ns) l))))
        (λ r. got (with_registers v r))))) (λ next. follow (λ at x. run_instructions source calls act [] at x) next)
        ≡ at_word q (end_of (and_then t (λ e. and_then (join q n.junction e n.outer) (λ l. got (onward (having_open v l ns))))))
    lead (got e) = inner (join q n.junction e n.outer)
    lead (trap kind place) = refl

pub nested : (source : Source) (calls : Calls) (act : Activation) (o : Op) (body : List InstrTree) (p q : Place) (w v : Working)
    → group_of o ≡ opening → AreUnlabelled body
    → run_instructions source calls act body here
    (having_open w no_logic (record { outer = w.registers.logic; junction = junction o } ∷ w.registers.nestings)) ≡ ended (onward v)
    → v.registers.nestings ≡ record { outer = w.registers.logic; junction = junction o } ∷ w.registers.nestings
    → run_instructions source calls act (plainly o None None p ∷ body ++ plainly op.Close None None q ∷ []) here w
    ≡ at_word q (end_of (and_then (result_of q v.registers.logic) (λ e. and_then (join q (junction o) e w.registers.logic)
    (λ l. got (onward (having_open v l w.registers.nestings))))))
nested source calls act o body p q w v is un runs waits =
    ap (λ (s : Ended Next). and_end (at_word p s) (λ next. follow
    (λ at x. run_instructions source calls act (body ++ plainly op.Close None None q ∷ []) at x) next))
    (opening-step source act (plainly o None None p) o is w)
    ∙ run-behind source calls act body (plainly op.Close None None q ∷ []) _ v un runs
    ∙ closing source calls act q v (record { outer = w.registers.logic; junction = junction o }) w.registers.nestings waits

-- ---- L and T

abbrev Run : Type 0
Run = Ended Next

pub moved : (source : Source) (calls : Calls) (act : Activation) (o p : OperandTree) (from to : Spot) (v : ℤ) (q r : Place) (w : Working)
    → locate source act w.frame o ≡ got from → read_spot w.frame q from ≡ got v → locate source act w.frame p ≡ got to
    → run_instructions source calls act (plainly op.L (Some o) None q ∷ plainly op.T (Some p) None r ∷ []) here w
    ≡ ended (onward (record {
      registers = loaded (pos (pattern_of (operand_type source act o) v)) w.registers;
      frame = write_spot source w.frame to
          (wrap_of (operand_type source act p) (pos (pattern_of (operand_type source act o) v)));
    }))
moved source calls act o p from to v q r w found read goal =
    ap (λ (a : Tried Spot). let e : Run = and_end (at_word q (goes_on (and_then (and_then a
    (λ spot. and_then (read_spot w.frame q spot) (λ x. got (pos (pattern_of (operand_type source act o) x)))))
    (λ x. got (with_registers w (loaded x w.registers)))))) (λ next. follow
    (λ at x. run_instructions source calls act (plainly op.T (Some p) None r ∷ []) at x) next) in e) found
    ∙ ap (λ (b : Value). let e : Run = and_end (at_word q (goes_on (and_then (and_then b
    (λ x. got (pos (pattern_of (operand_type source act o) x))))
    (λ x. got (with_registers w (loaded x w.registers)))))) (λ next. follow
    (λ at x. run_instructions source calls act (plainly op.T (Some p) None r ∷ []) at x) next) in e) read
    ∙ ap (λ (c : Tried Spot). let e : Run = and_end (at_word r (goes_on (and_then c (λ spot. got (record {
      registers = loaded (pos (pattern_of (operand_type source act o) v)) w.registers;
      frame = write_spot source w.frame spot
          (wrap_of (operand_type source act p) (pos (pattern_of (operand_type source act o) v)));
    }))))) (λ next. follow (λ at x. run_instructions source calls act [] at x) next) in e) goal

pub value-back : (ty : Ty) (v : ℤ) → InRange ty v → wrap_of ty (pos (pattern_of ty v)) ≡ v
value-back ty v is =
    wrap-congruent_same (is_signed_of ty) (wide ty) (pattern-congruent (width_of ty) v) ∙ wrap-own (wide ty) is

pub bits-kept : (from to : Ty) (v : ℤ) → width_of from ≡ width_of to
    → pattern_of to (wrap_of to (pos (pattern_of from v))) ≡ pattern_of from v
bits-kept from to v same =
    pattern-wrap (width_of to) (is_signed_of to) (pos (pattern_of from v)) (wide to)
    ∙ ap (λ (n : ℕ). pattern_at n (pos (pattern_of from v))) (sym same)
    ∙ pattern-congruent_same (width_of from) (pattern-congruent (width_of from) v)

-- ---- sums

pub sum-step : (source : Source) (calls : Calls) (act : Activation) (place : Place) (w : Working) (a b : ℤ) → w.registers.accu1 ≡ Some a
    → w.registers.accu2 ≡ Some b
    → step source calls act (plainly op.AddI None None place) w ≡ ended (onward (with_registers w (became w.registers
    (put low a (number low b +ℤ number low a))
    (codes_by (overflows Int (number low b +ℤ number low a)) (wrap_of Int (number low b +ℤ number low a))))))
sum-step source calls act place w a b one two =
    ap (λ (x : Option ℤ). let e : Run = at_word place (goes_on (and_then (and_then (had place x) (λ c. and_then (had place w.registers.accu1)
    (λ d. got (became w.registers (put low d (number low c +ℤ number low d))
    (codes_by (overflows Int (number low c +ℤ number low d)) (wrap_of Int (number low c +ℤ number low d)))))))
    (λ r. got (with_registers w r)))) in e) two
    ∙ ap (λ (x : Option ℤ). let e : Run = at_word place (goes_on (and_then (and_then (had place x)
    (λ d. got (became w.registers (put low d (number low b +ℤ number low d))
    (codes_by (overflows Int (number low b +ℤ number low d)) (wrap_of Int (number low b +ℤ number low d))))))
    (λ r. got (with_registers w r)))) in e) one

pub low-word : (a n : ℤ) → number low (put low a n) ≡ wrap_of Int n
low-word a n = wrap-congruent_same true (wide Int) (congruent-trans above (pattern-congruent 16 n))
  where
    above : IsCongruent (2 ^ 16) (pos (pattern_of Dword a / 65536 * 65536 + pattern_of WordType n)) (pos (pattern_of WordType n))
    above = record { left = 0; right = pattern_of Dword a / 65536; equal = ap pos (omega arith) }

pub in-range-if : (ty : Ty) (n : ℤ) → overflows ty n ≡ false → InRange ty n
in-range-if ty n is = subst (InRange ty) ((Decides-int_eq (wrap_of ty n) n).0 (yes (int_eq (wrap_of ty n) n) is))
    (wrap-in_range (width_of ty) (is_signed_of ty) n (wide ty))
  where
    yes : (b : Bool) → not b ≡ false → b ≡ true
    yes true e = refl
    yes false e = absurd (cc e)

pub fits-if : (ty : Ty) (n : ℤ) → InRange ty n → overflows ty n ≡ false
fits-if ty n is = ap not ((Decides-int_eq (wrap_of ty n) n).1 (wrap-own (wide ty) is))
