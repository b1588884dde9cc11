-- A body at work, from one instruction to the next.
use Rattle.std.proofs.Common.{◌≡◌, ℕ, suc, ◌<◌, ◌≤◌, List, drop, Bool, true, false, Some, None, Ok, arith, ap, sym, subst, refl, ◌∙◌}
use Rattle.std.specs.Prelude.{Result, slice_get}
use Rattle.pv_tree.specs.Tree.{InstrTree, BlockTree}
use Rattle.pv_mean.specs.Sources.{Source}
use Rattle.pv_mean.specs.Frames.{Frame}
use Rattle.pv_mean.specs.Endings.{Ended, ended, trapped}
use Rattle.pv_mean.specs.Activations.{Activation}
use Rattle.pv_mean.specs.Statements.{Calls}
use Rattle.pv_mean.specs.Registers.{Working}
use Rattle.pv_mean.specs.Instructions.{Next, at_word, effect}
use Rattle.pv_eval.specs.declared.target.Target.{Target}
use Rattle.pv_eval.specs.declared.trap.Trap.{Trap}
use Rattle.pv_stl_run.specs.declared.instr.Goal.{Goal}
use Rattle.pv_stl_run.specs.declared.instr.Change.TheVariants as change
use Rattle.pv_stl_run.specs.declared.instr.Action.{Action}
use Rattle.pv_stl_run.specs.declared.instr.Action.TheVariants as action
use Rattle.pv_stl_run.specs.declared.instr.Instr.{Instr}
use Rattle.pv_stl_run.specs.declared.registers.Registers.{Registers}
use Rattle.pv_stl_run.specs.declared.steps.Next as steps
use Rattle.pv_stl_run.specs.declared.steps.Next.TheVariants as next
use Rattle.pv_stl_run.specs.declared.stop.Stop.{Stop}
use Rattle.pv_stl_run.specs.declared.turns.Turn.{Turn}
use Rattle.pv_stl_run.specs.Code.{IsAction, working, next_of, GoesBy, opened, MayDo}
use Rattle.pv_stl_run.specs.Actions.{call_of}
use Rattle.pv_stl_run.specs.Going.{entered_of, resumed, HasRanges, Does, Jumps, JumpsSo, IsInstr, AreInstrs, Nested, nested_at, left_of, frame_end, Went, Fell, WhereOn, GoesTo, did, then_follows, UpToCall}
use Rattle.pv_stl_run.proofs.Moves.{tree_beside, tree_at, tree_past}
use Rattle.pv_stl_run.proofs.Goes.{past_end, traps_at, goes_at, nested_next}

-- what is left is what it was, with ranges and nestings as the text has them
pub record GoesOn (source : Source) (calls : Calls) (act : Activation) (all : List InstrTree) (code : List Instr) (turns : List Turn)
    (entered at : ℕ) (w : Working) (depth : ℕ) (before : Ended Next) : Type 0 where
  pub same : left_of source calls act all turns entered at w ≡ before
  pub nested : Nested code turns entered (suc at)
  pub depth_is : depth ≤ nested_at code at

pub has_ranges : {source : Source} {block : BlockTree} {targets : List Target} {room : ℕ}
    {code : List Instr} {all : List InstrTree} → AreInstrs source block targets room code all → HasRanges code all
has_ranges {source} {block} {targets} {room} {code} {all} are = record {
  same = are.same;
  each = λ k c e. let found = tree_beside code all k c are.same e in (are.each k c found.0 e found.1).range;
}

-- the instruction at a position, in the text
pub record Here (source : Source) (block : BlockTree) (targets : List Target) (room : ℕ)
    (code : List Instr) (all : List InstrTree) (k : ℕ) (c : Instr) : Type 0 where
  pub tree : InstrTree
  pub is : slice_get all k ≡ Some tree
  pub instr : IsInstr source block targets room all code k c tree

pub here_is : {source : Source} {block : BlockTree} {targets : List Target} {room : ℕ}
    {code : List Instr} {all : List InstrTree} → AreInstrs source block targets room code all
    → (k : ℕ) (c : Instr) → slice_get code k ≡ Some c → Here source block targets room code all k c
here_is {code = code} {all = all} are k c e =
    let found = tree_at code all k c (has_ranges are) e in
    record { tree = found.0; is = found.1; instr = are.each k c found.0 e found.1 }

-- ---- ends

pub at_end : {source : Source} {calls : Calls} {act : Activation} {all : List InstrTree} {code : List Instr} {turns : List Turn}
    {entered at : ℕ} {w : Working} {depth : ℕ} {before : Ended Next} {block : BlockTree} {targets : List Target} {room : ℕ}
    → GoesOn source calls act all code turns entered at w depth before → AreInstrs source block targets room code all
    → slice_get code at ≡ None → frame_end before ≡ ended w.frame
at_end {source} {calls} {act} {all} {code} {turns} {entered} {at} {w} g are e =
    ap frame_end (sym g.same)
    ∙ past_end source calls act all (entered_of turns entered) w (drop at all) (tree_past code all at (has_ranges are) e)

pub at_call : {source : Source} {calls : Calls} {act : Activation} {all : List InstrTree} {code : List Instr} {turns : List Turn}
    {entered at : ℕ} {w : Working} {depth : ℕ} {before : Ended Next}
    → GoesOn source calls act all code turns entered at w depth before → (block : BlockTree) (c : Instr) (n : ℕ)
    → slice_get code at ≡ Some c → call_of c.action ≡ Some n
    → UpToCall source block code turns entered at depth n (left_of source calls act all turns entered at w) before
at_call g block c n e f = record { same = g.same; call = c; at_call = e; is = call_is c.action f; nested = g.nested } where
  call_is : (d : Action) → call_of d ≡ Some n → d ≡ action.Call n
  call_is (action.Call m) h = let same : m ≡ n = cc in ap action.Call same
  call_is (action.Change x) h = absurd (cc)
  call_is (action.Join x y) h = absurd (cc)
  call_is (action.Write x y) h = absurd (cc)
  call_is (action.Edge x y) h = absurd (cc)
  call_is (action.Load x y) h = absurd (cc)
  call_is (action.Transfer x y) h = absurd (cc)
  call_is (action.Jump x y) h = absurd (cc)
  call_is action.End h = absurd (cc)
  call_is action.EndWhere h = absurd (cc)

-- ---- one instruction that isn't a call

pub does_plainly : {source : Source} {block : BlockTree} {targets : List Target} {room : ℕ}
    (d : Action) (i : InstrTree) → Does source block targets room d i → call_of d ≡ None
    → (i.call ≡ None) × IsAction source block targets room d i
does_plainly (action.Call m) i does h = absurd (cc)
does_plainly (action.Change x) i does h = does
does_plainly (action.Join x y) i does h = does
does_plainly (action.Write x y) i does h = does
does_plainly (action.Edge x y) i does h = does
does_plainly (action.Load x y) i does h = does
does_plainly (action.Transfer x y) i does h = does
does_plainly (action.Jump x y) i does h = does
does_plainly action.End i does h = does
does_plainly action.EndWhere i does h = does

pub at_trap : {source : Source} {calls : Calls} {act : Activation} {all : List InstrTree} {code : List Instr} {turns : List Turn}
    {entered at : ℕ} {w : Working} {depth : ℕ} {before : Ended Next}
    → GoesOn source calls act all code turns entered at w depth before → (i : InstrTree) (t : Trap) → slice_get all at ≡ Some i → i.call ≡ None
    → trapped t.kind t.place ≡ at_word i.place (effect source act i i.op w) → trapped t.kind t.place ≡ before
at_trap {source} {calls} {act} {all} {code} {turns} {entered} {at} {w} g i t is none e =
    traps_at source calls act all turns entered at i w t.kind t.place is none e ∙ g.same

next_did : (i : InstrTree) (n : steps.Next) (r : Registers) (frame : Frame) → next_of i (Ok n) r frame ≡ did i n (working r frame)
next_did i next.Onward r frame = refl
next_did i (next.To goal) r frame = refl
next_did i next.Left r frame = refl

-- what follows is what was left
pub at_next : {source : Source} {calls : Calls} {act : Activation} {all : List InstrTree} {code : List Instr} {turns : List Turn}
    {entered at : ℕ} {w : Working} {depth : ℕ} {before : Ended Next}
    → GoesOn source calls act all code turns entered at w depth before
    → (i : InstrTree) (n : steps.Next) (r : Registers) (frame : Frame) → slice_get all at ≡ Some i → i.call ≡ None
    → next_of i (Ok n) r frame ≡ at_word i.place (effect source act i i.op w)
    → resumed source calls act all (entered_of turns entered) (then_follows source calls act (drop (suc at) all) (did i n (working r frame))) ≡ before
at_next {source} {calls} {act} {all} {code} {turns} {entered} {at} {w} g i n r frame is none e =
    sym (goes_at source calls act all turns entered at i w (did i n (working r frame)) is none (sym (next_did i n r frame) ∙ e)) ∙ g.same

pub leads : (all : List InstrTree) (code : List Instr) (k : ℕ) (i : InstrTree) (d : Action) (n : steps.Next)
    → GoesBy d (Ok n) → JumpsSo all code k i d → GoesTo all k i n
leads all code k i d next.Onward g j = tt
leads all code k i d (next.To goal) g j =
    let its : Jumps all code k i goal = subst (JumpsSo all code k i) g.1 j in (its.label, its.is, its.leads)
leads all code k i d next.Left g j = tt

-- ---- what follows

pub went_on : (b : Bool) (now before : Ended Next) (frame : Frame) → b ≡ true → Went (Ok b) now frame before → now ≡ before
went_on true now before frame e h = h
went_on false now before frame e h = absurd (cc)

pub went_off : (b : Bool) (now before : Ended Next) (frame : Frame) → b ≡ false → Went (Ok b) now frame before
    → frame_end before ≡ ended frame
went_off true now before frame e h = absurd (cc)
went_off false now before frame e h = h

pub fell_on : (b : Bool) (now before : ℕ) → b ≡ true → Fell (Ok b) now before → now < before
fell_on true now before e h = h
fell_on false now before e h = absurd (cc)

pub where_on : (b : Bool) (p : Type 0) → b ≡ true → WhereOn (Ok b) p → p
where_on true p e h = h
where_on false p e h = absurd (cc)

-- ---- nestings

pub may_less : (d : Action) (n m : ℕ) → n ≤ m → MayDo d m → MayDo d n
may_less (action.Change (change.Open j)) n m h may = omega arith
may_less (action.Change change.Close) n m h may = tt
may_less (action.Change change.Nothing) n m h may = tt
may_less (action.Change change.KeepOr) n m h may = tt
may_less (action.Change change.Negate) n m h may = tt
may_less (action.Change (change.Put b)) n m h may = tt
may_less (action.Change (change.Load v)) n m h may = tt
may_less (action.Change (change.Calculate x)) n m h may = tt
may_less (action.Change (change.Compare x y)) n m h may = tt
may_less (action.Change (change.Combine x y z)) n m h may = tt
may_less (action.Change (change.Shift x y z)) n m h may = tt
may_less (action.Change change.Extend) n m h may = tt
may_less (action.Change change.Swap) n m h may = tt
may_less (action.Change change.Push) n m h may = tt
may_less (action.Change change.Pop) n m h may = tt
may_less (action.Join x y) n m h may = tt
may_less (action.Write x y) n m h may = tt
may_less (action.Edge x y) n m h may = tt
may_less (action.Load x y) n m h may = tt
may_less (action.Transfer x y) n m h may = tt
may_less (action.Jump x y) n m h may = tt
may_less action.End n m h may = tt
may_less action.EndWhere n m h may = tt
may_less (action.Call x) n m h may = tt

opened_more : (d : Action) (n m : ℕ) → n ≤ m → opened d n ≤ opened d m
opened_more (action.Change (change.Open j)) n m h = omega arith
opened_more (action.Change change.Close) n m h = omega arith
opened_more (action.Change change.Nothing) n m h = h
opened_more (action.Change change.KeepOr) n m h = h
opened_more (action.Change change.Negate) n m h = h
opened_more (action.Change (change.Put b)) n m h = h
opened_more (action.Change (change.Load v)) n m h = h
opened_more (action.Change (change.Calculate x)) n m h = h
opened_more (action.Change (change.Compare x y)) n m h = h
opened_more (action.Change (change.Combine x y z)) n m h = h
opened_more (action.Change (change.Shift x y z)) n m h = h
opened_more (action.Change change.Extend) n m h = h
opened_more (action.Change change.Swap) n m h = h
opened_more (action.Change change.Push) n m h = h
opened_more (action.Change change.Pop) n m h = h
opened_more (action.Join x y) n m h = h
opened_more (action.Write x y) n m h = h
opened_more (action.Edge x y) n m h = h
opened_more (action.Load x y) n m h = h
opened_more (action.Transfer x y) n m h = h
opened_more (action.Jump x y) n m h = h
opened_more action.End n m h = h
opened_more action.EndWhere n m h = h
opened_more (action.Call x) n m h = h

pub depth_on : (code : List Instr) (k to depth now : ℕ) (c : Instr) → slice_get code k ≡ Some c → depth ≤ nested_at code k
    → now ≤ opened c.action depth → to ≡ suc k → now ≤ nested_at code to
depth_on code k to depth now c e h g t =
    omega (arith, opened_more c.action depth (nested_at code k) h, nested_next code k c e, ap (nested_at code) t)

pub depth_jump : (all : List InstrTree) (code : List Instr) (k to depth now : ℕ) (i : InstrTree) (d : Action) (goal : Goal)
    → GoesBy d (Ok (next.To goal)) → JumpsSo all code k i d → depth ≤ nested_at code k → now ≤ opened d depth → now ≤ nested_at code to
depth_jump all code k to depth now i d goal g j h o =
    let its : Jumps all code k i goal = subst (JumpsSo all code k i) g.1 j in
    let same : opened d depth ≡ depth = ap (λ (x : Action). opened x depth) g.1 in
    let none : nested_at code k ≡ 0 = its.outside in
    omega arith

-- behind an instruction, wherever it goes on
pub depth_behind : (all : List InstrTree) (code : List Instr) (k to depth now : ℕ) (i : InstrTree) (c : Instr) (n : steps.Next)
    (r : Result Bool Stop) → r ≡ Ok true → slice_get code k ≡ Some c → GoesBy c.action (Ok n) → JumpsSo all code k i c.action
    → depth ≤ nested_at code k → now ≤ opened c.action depth → (n ≡ next.Onward → WhereOn r (to ≡ suc k)) → (n ≡ next.Left → r ≡ Ok false)
    → now ≤ nested_at code to
depth_behind all code k to depth now i c next.Onward r ok e g j h o onward left =
    depth_on code k to depth now c e h o (subst (λ x. WhereOn x (to ≡ suc k)) ok (onward refl))
depth_behind all code k to depth now i c (next.To goal) r ok e g j h o onward left = depth_jump all code k to depth now i c.action goal g j h o
depth_behind all code k to depth now i c next.Left r ok e g j h o onward left =
    let both : ◌≡◌ {A = Result Bool Stop} (Ok true) (Ok false) = sym ok ∙ left refl in absurd (cc)
