-- The code of a body, what is left of its run at an instruction, and how much that may be.
use Rattle.std.specs.Prelude.{◌≡◌, ◌≢◌, ℕ, zero, suc, ◌+◌, ◌*◌, ◌<◌, ◌≤◌, ◌^◌, List, [], ◌∷◌, length, take, drop, slice_get, nat_eq, Bool as Truth, true, false, Option, Some, None, Result, Ok, Err}
use Rattle.pv_place.specs.declared.place.Place.{Place}
use Rattle.pv_tree.specs.Tree.{PlacedName, CallPlain, InstrTree, BlockTree}
use Rattle.pv_tree.specs.InstructionGroups.{label_of_jump}
use Rattle.pv_mean.specs.Sources.{Source}
use Rattle.pv_mean.specs.Frames.{Frame}
use Rattle.pv_mean.specs.Endings.{Ended, ended, trapped, over, and_end}
use Rattle.pv_mean.specs.Activations.{Activation}
use Rattle.pv_mean.specs.Statements.{Calls}
use Rattle.pv_mean.specs.Registers.{Working}
use Rattle.pv_mean.specs.Instructions.{Next, onward, at_label, left, Effect, jump, step}
use Rattle.pv_mean.specs.InstructionRuns.{is_named, is_jumped_to, again, turns, follow, run_instructions, frame_left}
use Rattle.pv_eval.specs.declared.target.Target.{Target}
use Rattle.pv_stl_run.specs.declared.instr.Goal.{Goal}
use Rattle.pv_stl_run.specs.declared.instr.Goal.TheVariants.{Ahead, Back}
use Rattle.pv_stl_run.specs.declared.instr.Action.{Action}
use Rattle.pv_stl_run.specs.declared.instr.Action.TheVariants.{Jump, Call}
use Rattle.pv_stl_run.specs.declared.instr.Instr.{Instr}
use Rattle.pv_stl_run.specs.declared.steps.Next as steps
use Rattle.pv_stl_run.specs.declared.steps.Next.TheVariants as next
use Rattle.pv_stl_run.specs.declared.stop.Stop.{Stop}
use Rattle.pv_stl_run.specs.declared.stop.Stop.TheVariants as stop
use Rattle.pv_stl_run.specs.declared.turns.Turn.{Turn}
use Rattle.pv_stl_run.specs.declared.go.Going.{Going}
use Rattle.pv_stl_run.specs.Code.{IsAction, MayDo, opened}

-- ---- ranges that were entered

abbrev pub turn_at : Option Turn → Turn
turn_at (Some t) = t
turn_at None = record { at = 0; left = 0 }

-- the first so many, the last one first
abbrev pub entered_of : List Turn → ℕ → List Turn
entered_of all zero = []
entered_of all (suc n) = turn_at (slice_get all n) ∷ entered_of all n

-- ---- what is left of a run

-- the first instruction, which was arrived at, and then the others
abbrev pub rest_of : Source → Calls → Activation → List InstrTree → Effect
rest_of source calls act [] w = ended (onward w)
rest_of source calls act (i ∷ more) w = and_end (step source calls act i w)
    (λ next. follow (λ at x. run_instructions source calls act more at x) next)

-- behind a run from the label of a range on, with so many turns left
abbrev pub behind_turn : Source → Calls → Activation → List InstrTree → ℕ → Next → Ended Next
behind_turn source calls act [] n next = ended next
behind_turn source calls act (i ∷ more) n next = elim i.label [
  | None ↦ ended next
  | Some l ↦ again (λ v. turns (λ x. rest_of source calls act (i ∷ more) x) l n v) l next
]

-- behind the ranges that were entered, the innermost one first
abbrev pub resumed : Source → Calls → Activation → List InstrTree → List Turn → Ended Next
    → Ended Next
resumed source calls act all [] e = e
resumed source calls act all (t ∷ ts) e = resumed source calls act all ts
    (and_end e (λ next. behind_turn source calls act (drop t.at all) t.left next))

-- ---- the code of a body

-- where the label of the first instruction is jumped to, its place
abbrev pub place_where : Place → Truth → Option Place
place_where place true = Some place
place_where place false = None

abbrev pub range_by : List InstrTree → Option PlacedName → Option Place
range_by from None = None
range_by from (Some l) = place_where l.1 (is_jumped_to l.0.key from)

abbrev pub range_of : List InstrTree → Option Place
range_of [] = None
range_of (i ∷ more) = range_by (i ∷ more) i.label

-- no instruction from one number up to before another has the label
abbrev pub NoneIsNamed : List ℕ → List InstrTree → ℕ → ℕ → Type 0
NoneIsNamed key all from to = (n : ℕ) (i : InstrTree) → from ≤ n → n < to
    → slice_get all n ≡ Some i → is_named key i.label ≡ false

-- the goal of a jump at an instruction: the first one behind it that has the label; where none has it the only one that has, or
-- none at all
pub record IsAhead (all : List InstrTree) (k : ℕ) (key : List ℕ) (to : ℕ) : Type 0 where
  pub ahead : k < to
  pub goal : InstrTree
  pub at : slice_get all to ≡ Some goal
  pub named : is_named key goal.label ≡ true
  pub between : NoneIsNamed key all (suc k) to

pub record IsBack (all : List InstrTree) (k : ℕ) (key : List ℕ) (to : ℕ) : Type 0 where
  pub behind : NoneIsNamed key all (suc k) (length all)
  pub named : (i : InstrTree) → slice_get all to ≡ Some i → is_named key i.label ≡ true
  pub others : (n : ℕ) (i : InstrTree) → n ≢ to → slice_get all n ≡ Some i
      → is_named key i.label ≡ false

abbrev pub LeadsTo : List InstrTree → ℕ → List ℕ → Goal → Type 0
LeadsTo all k key (Ahead to) = IsAhead all k key to
LeadsTo all k key (Back to) = IsBack all k key to

-- how many nestings are open behind instructions, at most
abbrev pub nested_behind : List Instr → ℕ → ℕ
nested_behind [] n = n
nested_behind (c ∷ cs) n = nested_behind cs (opened c.action n)

abbrev pub nested_at : List Instr → ℕ → ℕ
nested_at code k = nested_behind (take k code) 0

-- a call, or an instruction that isn't one; which call it is says who makes it
abbrev pub Does : Source → BlockTree → List Target → ℕ → Action → InstrTree → Type 0
Does source block targets room (Call n) i = (call : CallPlain) × (i.call ≡ Some call)
Does source block targets room d i = (i.call ≡ None) × IsAction source block targets room d i

-- a jump that isn't within a nesting, and where it leads
pub record Jumps (all : List InstrTree) (code : List Instr) (k : ℕ) (i : InstrTree) (goal : Goal)
    : Type 0 where
  pub label : PlacedName
  pub is : label_of_jump i ≡ Some label
  pub leads : LeadsTo all k label.0.key goal
  pub outside : nested_at code k ≡ 0

abbrev pub JumpsSo : List InstrTree → List Instr → ℕ → InstrTree → Action → Type 0
JumpsSo all code k i (Jump w goal) = Jumps all code k i goal
JumpsSo all code k i d = Unit {0}

-- the instruction of this number
pub record IsInstr (source : Source) (block : BlockTree) (targets : List Target) (room : ℕ)
    (all : List InstrTree) (code : List Instr) (k : ℕ) (c : Instr) (i : InstrTree) : Type 0 where
  pub place : i.place ≡ c.place
  pub does : Does source block targets room c.action i
  pub range : c.range ≡ range_of (drop k all)
  pub jumps : JumpsSo all code k i c.action
  pub nests : MayDo c.action (nested_at code k)

-- a body
pub record AreInstrs (source : Source) (block : BlockTree) (targets : List Target) (room : ℕ)
    (code : List Instr) (all : List InstrTree) : Type 0 where
  pub same : length code ≡ length all
  pub each : (k : ℕ) (c : Instr) (i : InstrTree) → slice_get code k ≡ Some c
      → slice_get all k ≡ Some i
      → IsInstr source block targets room all code k c i

-- ---- how much is left

-- at most so many instructions are made from here on, where what begins a range has so many turns
abbrev pub most_behind : ℕ → List Instr → ℕ
most_behind bound [] = 0
most_behind bound (c ∷ cs) = elim c.range [
  | None ↦ suc (most_behind bound cs)
  | Some place ↦ suc bound * suc (most_behind bound cs)
]

-- behind the arrival at the first one
abbrev pub most_from : ℕ → List Instr → ℕ
most_from bound [] = 0
most_from bound (c ∷ cs) = suc (most_behind bound cs)

-- in the turns that are left
abbrev pub most_in : ℕ → List Instr → List Turn → ℕ
most_in bound code [] = 0
most_in bound code (t ∷ ts) = t.left * most_from bound (drop t.at code) + most_in bound code ts

-- the place of the label at a position, if that begins a range
abbrev pub range_at : List Instr → ℕ → Option Place
range_at code k = elim (slice_get code k) [ None ↦ None | Some c ↦ c.range ]

-- how many ranges begin among instructions
abbrev pub ranges_in : List Instr → ℕ
ranges_in [] = 0
ranges_in (c ∷ cs) = elim c.range [ None ↦ ranges_in cs | Some place ↦ suc (ranges_in cs) ]

-- the ranges that were entered begin one behind another, so they are no more than begin before the limit
pub record Entered (code : List Instr) (d at : ℕ) : Type 0 where
  pub begin : Instr
  pub is : slice_get code at ≡ Some begin
  pub label : Place
  pub range : begin.range ≡ Some label
  pub few : d < ranges_in (take (suc at) code)

pub record Nested (code : List Instr) (all : List Turn) (entered limit : ℕ) : Type 0 where
  pub few : entered ≤ ranges_in (take limit code)
  pub each : (d : ℕ) → d < entered → Entered code d (turn_at (slice_get all d)).at

-- ---- moves

-- where the instructions' labels begin ranges
pub record HasRanges (code : List Instr) (all : List InstrTree) : Type 0 where
  pub same : length code ≡ length all
  pub each : (k : ℕ) (c : Instr) → slice_get code k ≡ Some c → c.range ≡ range_of (drop k all)

abbrev pub stop_of : {A : Type 0} → Stop → Ended A
stop_of (stop.Trap t) = trapped t.kind t.place
stop_of (stop.Over place) = over place

-- behind an arrival: so many ranges are entered, and the instruction is to be made
abbrev pub arrived : Source → Calls → Activation → List InstrTree → ℕ → Working → Result ℕ Stop
    → List Turn → Ended Next
arrived source calls act all at w (Ok n) turns =
    resumed source calls act all (entered_of turns n) (rest_of source calls act (drop at all) w)
arrived source calls act all at w (Err s) turns = stop_of s

-- behind a jump back to a label; where none was passed the block has ended there
abbrev pub returned : Source → Calls → Activation → List InstrTree → ℕ → List ℕ → Working
    → Result (Option ℕ) Stop → List Turn → Ended Next
returned source calls act all at key w (Ok (Some n)) turns =
    resumed source calls act all (entered_of turns n) (rest_of source calls act (drop at all) w)
returned source calls act all at key w (Ok None) turns = ended (at_label key w)
returned source calls act all at key w (Err s) turns = stop_of s

-- the ranges that are left where the one at a position is gone back to; none are entered then, if it wasn't
abbrev pub left_to : ℕ → List Turn → ℕ → ℕ
left_to at all zero = 0
left_to at all (suc n) = elim (nat_eq (turn_at (slice_get all n)).at at) [
  | true ↦ suc n
  | false ↦ left_to at all n
]

-- as many as are still to be made
abbrev pub most_left : ℕ → List Instr → ℕ → List Turn → ℕ → ℕ
most_left bound code at all entered =
    most_from bound (drop at code) + most_in bound code (entered_of all entered)

abbrev pub MostArrived : ℕ → List Instr → ℕ → List Turn → ℕ → Result ℕ Stop → List Turn → Type 0
MostArrived bound code at old entered (Ok n) new =
    most_left bound code at new n
    ≤ most_behind bound (drop at code) + most_in bound code (entered_of old entered)
MostArrived bound code at old entered (Err s) new = Unit {0}

abbrev pub MostReturned : ℕ → List Instr → ℕ → List Turn → ℕ → Result (Option ℕ) Stop → List Turn
    → Type 0
MostReturned bound code at old entered (Ok (Some n)) new =
    most_left bound code at new n ≤ most_in bound code (entered_of old entered)
MostReturned bound code at old entered (Ok None) new = Unit {0}
MostReturned bound code at old entered (Err s) new = Unit {0}

-- ---- a body at work

abbrev pub frame_end : Ended Next → Ended Frame
frame_end e = and_end e (λ next. ended (frame_left next))

-- what is left of the run of a body
abbrev pub left_of : Source → Calls → Activation → List InstrTree → List Turn → ℕ → ℕ → Working
    → Ended Next
left_of source calls act all turns entered at w =
    resumed source calls act all (entered_of turns entered) (rest_of source calls act (drop at all) w)

-- it goes on so, or the block has ended with this frame, or stops
abbrev pub Went : Result Truth Stop → Ended Next → Frame → Ended Next → Type 0
Went (Ok true) now frame before = now ≡ before
Went (Ok false) now frame before = frame_end before ≡ ended frame
Went (Err s) now frame before = stop_of s ≡ before

-- where it goes on there is less to be made
abbrev pub Fell : Result Truth Stop → ℕ → ℕ → Type 0
Fell (Ok true) now before = now < before
Fell (Ok false) now before = Unit {0}
Fell (Err s) now before = Unit {0}

abbrev pub WhereOn : Result Truth Stop → Type 0 → Type 0
WhereOn (Ok true) p = p
WhereOn (Ok false) p = Unit {0}
WhereOn (Err s) p = Unit {0}

-- where a jump of an instruction at a position leads, by its code
abbrev pub GoesTo : List InstrTree → ℕ → InstrTree → steps.Next → Type 0
GoesTo all k i (next.To goal) =
    (l : PlacedName) × (label_of_jump i ≡ Some l) × LeadsTo all k l.0.key goal
GoesTo all k i next.Onward = Unit {0}
GoesTo all k i next.Left = Unit {0}

-- what an instruction leaves, in registers and frame
abbrev pub did : InstrTree → steps.Next → Working → Ended Next
did i next.Onward w = ended (onward w)
did i (next.To goal) w = jump i w
did i next.Left w = ended (left w.frame)

-- and the run behind it
abbrev pub then_follows : Source → Calls → Activation → List InstrTree → Ended Next → Ended Next
then_follows source calls act more e =
    and_end e (λ next. follow (λ at x. run_instructions source calls act more at x) next)

-- a body up to a call of this number, its end, or where it stops
pub record UpToCall (source : Source) (block : BlockTree) (code : List Instr) (turns : List Turn)
    (entered at depth n : ℕ) (now before : Ended Next) : Type 0 where
  pub same : now ≡ before
  pub call : Instr
  pub at_call : slice_get code at ≡ Some call
  pub is : call.action ≡ Call n
  pub nested : Nested code turns entered (suc at)

abbrev pub Gone : Result (Option ℕ) Stop → (ℕ → Type 0) → Frame → Ended Next → Type 0
Gone (Ok (Some n)) up_to frame before = up_to n
Gone (Ok None) up_to frame before = frame_end before ≡ ended frame
Gone (Err s) up_to frame before = stop_of s ≡ before

-- up to a call, where so many may be made with it and behind it, which are no more than before
abbrev pub UpToMost : Result (Option ℕ) Stop → ℕ → ℕ → Type 0
UpToMost (Ok (Some n)) now before = now ≤ before
UpToMost (Ok None) now before = Unit {0}
UpToMost (Err s) now before = Unit {0}

-- a body that is begun
abbrev pub begun : Source → Calls → Activation → List InstrTree → Working → Result Going Stop
    → List Turn → Ended Next
begun source calls act all w (Ok g) turns = left_of source calls act all turns g.entered g.at w
begun source calls act all w (Err s) turns = stop_of s
