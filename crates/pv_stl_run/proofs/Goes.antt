-- A body at work: where it goes on behind an instruction.
use Rattle.std.proofs.Common.{◌≡◌, ℕ, zero, suc, ◌+◌, ◌-◌, ◌<◌, ◌≤◌, List, [], ◌∷◌, length, take, drop, Bool, true, false, Option, Some, None, Ok, Err, arith, ap, sym, subst, refl, ◌∙◌}
use Rattle.std.proofs.lemmas.Option.{slice_get_within, slice_get_past}
use Rattle.std.specs.Prelude.{Result, slice_get}
use Rattle.pv_place.specs.declared.place.Place.{Place}
use Rattle.pv_place.specs.declared.trap.TrapKind.{TrapKind}
use Rattle.pv_tree.specs.Tree.{PlacedName, CallPlain, InstrTree}
use Rattle.pv_tree.specs.InstructionGroups.{label_of_jump}
use Rattle.pv_mean.specs.Sources.{Source}
use Rattle.pv_mean.specs.Frames.{Frame}
use Rattle.pv_mean.specs.Endings.{Ended, ended, trapped}
use Rattle.pv_mean.specs.Activations.{Activation}
use Rattle.pv_mean.specs.Statements.{Calls}
use Rattle.pv_mean.specs.Registers.{Working}
use Rattle.pv_mean.specs.Instructions.{Next, onward, at_label, left, jump, at_word, effect, makes_call}
use Rattle.pv_mean.specs.InstructionRuns.{here, run_instructions}
use Rattle.pv_stl_run.specs.declared.instr.Instr.{Instr}
use Rattle.pv_stl_run.specs.declared.instr.Goal.TheVariants.{Ahead, Back}
use Rattle.pv_stl_run.specs.declared.steps.Next as steps
use Rattle.pv_stl_run.specs.declared.steps.Next.TheVariants as next
use Rattle.pv_stl_run.specs.declared.stop.Stop.{Stop}
use Rattle.pv_stl_run.specs.declared.turns.Turn.{Turn}
use Rattle.pv_stl_run.specs.Code.{opened}
use Rattle.pv_stl_run.specs.Going.{entered_of, rest_of, resumed, HasRanges, IsAhead, IsBack, left_of, frame_end, Fell, GoesTo, did, then_follows, nested_behind, nested_at}
use Rattle.pv_stl_run.proofs.RunLaws.{sought, not_found, resumed_trap, resumed_left, resumed_onward}
use Rattle.pv_stl_run.proofs.TurnLaws.{drop_at, drop_past, get_dropped}

-- ---- jumps

jump_is : (i : InstrTree) (l : PlacedName) (w : Working) → label_of_jump i ≡ Some l → jump i w ≡ ended (at_label l.0.key w)
jump_is i l w e = ap (λ (o : Option PlacedName). ended (elim o [ None ↦ onward w | Some n ↦ at_label n.0.key w ])) e

dropped_more : {A : Type 0} (xs : List A) (j n m : ℕ) → m ≡ j + n → drop n (drop j xs) ≡ drop m xs
dropped_more xs zero n m e = let same : n ≡ m = omega arith in ap (λ k. drop k xs) same
dropped_more [] (suc j) zero zero e = refl
dropped_more [] (suc j) zero (suc m) e = refl
dropped_more [] (suc j) (suc n) zero e = refl
dropped_more [] (suc j) (suc n) (suc m) e = refl
dropped_more (x ∷ xs) (suc j) n zero e = absurd (omega arith)
dropped_more (x ∷ xs) (suc j) n (suc m) e = dropped_more xs j n m (omega arith)

-- a jump ahead
pub follows_ahead : (source : Source) (calls : Calls) (act : Activation) (all : List InstrTree) (k to : ℕ) (i : InstrTree) (l : PlacedName) (w : Working)
    → label_of_jump i ≡ Some l → IsAhead all k l.0.key to
    → then_follows source calls act (drop (suc k) all) (jump i w) ≡ run_instructions source calls act (drop to all) here w
follows_ahead source calls act all k to i l w is ahead =
    let n = to - suc k in
    let sum : to ≡ suc k + n = (let lt : k < to = ahead.ahead in omega arith) in
    let at : slice_get (drop (suc k) all) n ≡ Some ahead.goal = get_dropped all (suc k) n to sum ∙ ahead.at in
    ap (then_follows source calls act (drop (suc k) all)) (jump_is i l w is)
    ∙ sought source calls act l.0.key n (drop (suc k) all) ahead.goal w
    (λ m x lt e. ahead.between (suc k + m) x (omega arith) (omega (arith, sum)) (sym (get_dropped all (suc k) m (suc k + m) refl) ∙ e)) at ahead.named
    ∙ ap (λ (xs : List InstrTree). run_instructions source calls act xs here w) (dropped_more all (suc k) n to sum)

-- a jump back
pub follows_back : (source : Source) (calls : Calls) (act : Activation) (all : List InstrTree) (k to : ℕ) (i : InstrTree) (l : PlacedName) (w : Working)
    → label_of_jump i ≡ Some l → IsBack all k l.0.key to
    → then_follows source calls act (drop (suc k) all) (jump i w) ≡ ended (at_label l.0.key w)
follows_back source calls act all k to i l w is back =
    ap (then_follows source calls act (drop (suc k) all)) (jump_is i l w is)
    ∙ not_found source calls act l.0.key (drop (suc k) all) w
    (λ m x e. let at : slice_get all (suc k + m) ≡ Some x = sym (get_dropped all (suc k) m (suc k + m) refl) ∙ e in
    back.behind (suc k + m) x (omega arith) (slice_get_within all (suc k + m) x at) at)

-- ---- ends

-- past the last instruction
pub past_end : (source : Source) (calls : Calls) (act : Activation) (all : List InstrTree) (ts : List Turn) (w : Working) (tail : List InstrTree)
    → tail ≡ [] → frame_end (resumed source calls act all ts (rest_of source calls act tail w)) ≡ ended w.frame
past_end source calls act all ts w tail e =
    ap (λ (xs : List InstrTree). frame_end (resumed source calls act all ts (rest_of source calls act xs w))) e
    ∙ ap frame_end (resumed_onward source calls act all ts w)

pub past_here : (source : Source) (calls : Calls) (act : Activation) (all : List InstrTree) (ts : List Turn) (w : Working) (tail : List InstrTree)
    → tail ≡ [] → frame_end (resumed source calls act all ts (run_instructions source calls act tail here w)) ≡ ended w.frame
past_here source calls act all ts w tail e =
    ap (λ (xs : List InstrTree). frame_end (resumed source calls act all ts (run_instructions source calls act xs here w))) e
    ∙ ap frame_end (resumed_onward source calls act all ts w)

pub left_end : (source : Source) (calls : Calls) (act : Activation) (all : List InstrTree) (ts : List Turn) (more : List InstrTree) (frame : Frame)
    → frame_end (resumed source calls act all ts (then_follows source calls act more (ended (left frame)))) ≡ ended frame
left_end source calls act all ts more frame = ap frame_end (resumed_left source calls act all ts frame)

-- ---- one instruction

-- what is left at an instruction that isn't a call
pub left_at : (source : Source) (calls : Calls) (act : Activation) (all : List InstrTree) (turns : List Turn) (entered at : ℕ) (i : InstrTree)
    (w : Working) → slice_get all at ≡ Some i → i.call ≡ None
    → left_of source calls act all turns entered at w
    ≡ resumed source calls act all (entered_of turns entered)
    (then_follows source calls act (drop (suc at) all) (at_word i.place (effect source act i i.op w)))
left_at source calls act all turns entered at i w is none =
    ap (λ (xs : List InstrTree). resumed source calls act all (entered_of turns entered) (rest_of source calls act xs w)) (drop_at all at i is)
    ∙ ap (λ (o : Option CallPlain). resumed source calls act all (entered_of turns entered) (then_follows source calls act (drop (suc at) all) (elim o [
      | None ↦ at_word i.place (effect source act i i.op w)
      | Some call ↦ makes_call calls act i call w
    ]))) none

pub traps_at : (source : Source) (calls : Calls) (act : Activation) (all : List InstrTree) (turns : List Turn) (entered at : ℕ) (i : InstrTree)
    (w : Working) (kind : TrapKind) (place : Place) → slice_get all at ≡ Some i → i.call ≡ None
    → trapped kind place ≡ at_word i.place (effect source act i i.op w)
    → trapped kind place ≡ left_of source calls act all turns entered at w
traps_at source calls act all turns entered at i w kind place is none e =
    sym (left_at source calls act all turns entered at i w is none
    ∙ ap (λ x. resumed source calls act all (entered_of turns entered) (then_follows source calls act (drop (suc at) all) x)) (sym e)
    ∙ resumed_trap source calls act all (entered_of turns entered) kind place)

pub goes_at : (source : Source) (calls : Calls) (act : Activation) (all : List InstrTree) (turns : List Turn) (entered at : ℕ) (i : InstrTree)
    (w : Working) (next : Ended Next) → slice_get all at ≡ Some i → i.call ≡ None
    → next ≡ at_word i.place (effect source act i i.op w)
    → left_of source calls act all turns entered at w
    ≡ resumed source calls act all (entered_of turns entered) (then_follows source calls act (drop (suc at) all) next)
goes_at source calls act all turns entered at i w next is none e =
    left_at source calls act all turns entered at i w is none
    ∙ ap (λ x. resumed source calls act all (entered_of turns entered) (then_follows source calls act (drop (suc at) all) x)) (sym e)

-- ---- nestings

pub nested_next : (code : List Instr) (k : ℕ) (c : Instr) → slice_get code k ≡ Some c → nested_at code (suc k) ≡ opened c.action (nested_at code k)
nested_next code k c e = behind_next code k 0 e where
  behind_next : (xs : List Instr) (j n : ℕ) → slice_get xs j ≡ Some c → nested_behind (take (suc j) xs) n ≡ opened c.action (nested_behind (take j xs) n)
  behind_next [] j n h = absurd (cc)
  behind_next (x ∷ xs) zero n h = ap (λ (i : Instr). opened i.action n) (first_is x h) where
    first_is : (a : Instr) → Some a ≡ Some c → a ≡ c
    first_is a g = cc
  behind_next (x ∷ xs) (suc j) n h = behind_next xs j (opened x.action n) h

-- ---- for the moves of the code

pub goes_ahead : (source : Source) (calls : Calls) (act : Activation) (all : List InstrTree) (k to : ℕ) (i : InstrTree) (n : steps.Next) (w : Working)
    → n ≡ next.To (Ahead to) → GoesTo all k i n
    → then_follows source calls act (drop (suc k) all) (did i n w) ≡ run_instructions source calls act (drop to all) here w
goes_ahead source calls act all k to i n w is goes =
    let its : GoesTo all k i (next.To (Ahead to)) = subst (GoesTo all k i) is goes in
    ap (λ (x : steps.Next). then_follows source calls act (drop (suc k) all) (did i x w)) is
    ∙ follows_ahead source calls act all k to i its.0 w its.1 its.2

pub goes_back_to : (source : Source) (calls : Calls) (act : Activation) (all : List InstrTree) (k to : ℕ) (i : InstrTree) (n : steps.Next) (w : Working)
    → n ≡ next.To (Back to) → GoesTo all k i n
    → (l : PlacedName) × IsBack all k l.0.key to
    × (then_follows source calls act (drop (suc k) all) (did i n w) ≡ ended (at_label l.0.key w))
goes_back_to source calls act all k to i n w is goes =
    let its : GoesTo all k i (next.To (Back to)) = subst (GoesTo all k i) is goes in (
      its.0,
      its.2,
      ap (λ (x : steps.Next). then_follows source calls act (drop (suc k) all) (did i x w)) is
          ∙ follows_back source calls act all k to i its.0 w its.1 its.2,
    )

pub goes_nowhere : (source : Source) (calls : Calls) (act : Activation) (all : List InstrTree) (ts : List Turn) (more : List InstrTree) (i : InstrTree)
    (n : steps.Next) (w : Working) → n ≡ next.Left
    → frame_end (resumed source calls act all ts (then_follows source calls act more (did i n w))) ≡ ended w.frame
goes_nowhere source calls act all ts more i n w is =
    ap (λ (x : steps.Next). frame_end (resumed source calls act all ts (then_follows source calls act more (did i x w)))) is
    ∙ left_end source calls act all ts more w.frame

pub fell_more : (r : Result Bool Stop) (a b c : ℕ) → Fell r a b → b ≤ c → Fell r a c
fell_more (Ok true) a b c h le = omega arith
fell_more (Ok false) a b c h le = tt
fell_more (Err s) a b c h le = tt

-- behind the last position
pub at_last : (code : List Instr) (all : List InstrTree) (k : ℕ) → HasRanges code all → length code ≤ k → drop (suc k) all ≡ []
at_last code all k h last = drop_past all (suc k) (slice_get_past all (suc k) (omega (arith, h.same, last)))
