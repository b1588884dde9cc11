-- The run of a block's instructions as a list of single steps, as the reference manual Statement List (STL) for S7-300/S7-400 tells it:
-- one instruction takes accumulators, bits, nestings and frame to the same and to the next place. A step arrives at an instruction,
-- which then runs. Where the instruction has a label and one jumps to it from there or from behind, the label begins a range, up to
-- the last of these jumps, and the arrival is a turn: the first where the step comes from outside, else one more. A turn more than the
-- source's bound is over, at the label.
use Rattle.std.specs.Prelude.{◌≡◌, ℕ, suc, List, [], ◌∷◌, drop, slice_get, nat_eq, nat_lt, nat_le, Bool as Truth, false, ◌&&◌, if◌then◌else◌, Option, Some, None, option_map}
use Rattle.pv_tree.specs.Tree.{PlacedName, InstrTree}
use Rattle.pv_mean.specs.Sources.{Source}
use Rattle.pv_mean.specs.Frames.{Frame}
use Rattle.pv_mean.specs.Endings.{Ended, ended, trapped, over}
use Rattle.pv_mean.specs.Activations.{Activation}
use Rattle.pv_mean.specs.Statements.{Calls}
use Rattle.pv_mean.specs.Registers.{Working, fresh}
use Rattle.pv_mean.specs.Instructions.{Next, onward, at_label, left, step}
use Rattle.pv_mean.specs.InstructionRuns.{is_named, is_jumped_to}

-- the machine: what the instructions work on, the number of the next one, that of the one from which the step comes, if one does, and
-- which turn was the last at each label
pub record State : Type 0 where
  pub from : Option ℕ
  pub next : ℕ
  pub working : Working
  pub turns : ℕ → ℕ

pub data Moved : Type 0 where
  goes : State → Moved
  stops : Ended Frame → Moved

-- ---- labels and ranges

-- the number of the first instruction that has this label
abbrev pub place_of_label : List ℕ → List InstrTree → Option ℕ
place_of_label key [] = None
place_of_label key (i ∷ more) =
    if is_named key i.label then Some 0 else option_map suc (place_of_label key more)

-- one jumps to the label from this instruction or from one behind it
abbrev pub jumps_from : List InstrTree → ℕ → List ℕ → Truth
jumps_from instructions n key = is_jumped_to key (drop n instructions)

-- the label with which a range begins at instruction n
abbrev pub range_label : List InstrTree → ℕ → InstrTree → Option PlacedName
range_label instructions n i = elim i.label [
  | None ↦ None
  | Some l ↦ if jumps_from instructions n l.0.key then Some l else None
]

-- the step comes from inside the range that begins at instruction n: from there or behind, and no farther than the last jump to it
abbrev pub comes_from_inside : List InstrTree → ℕ → PlacedName → Option ℕ → Truth
comes_from_inside instructions n l None = false
comes_from_inside instructions n l (Some m) = nat_le n m && jumps_from instructions m l.0.key

-- ---- turns

abbrev pub turn_of : List InstrTree → State → PlacedName → ℕ
turn_of instructions s l =
    if comes_from_inside instructions s.next l s.from then suc (s.turns s.next) else 1

abbrev pub with_turn : (ℕ → ℕ) → ℕ → ℕ → ℕ → ℕ
with_turn turns n turn k = if nat_eq k n then turn else turns k

-- what an arrival makes of the turns
abbrev pub arrival : Source → List InstrTree → State → Option PlacedName → Ended (ℕ → ℕ)
arrival source instructions s None = ended s.turns
arrival source instructions s (Some l) =
    if nat_lt source.bound (turn_of instructions s l) then over l.1
    else ended (with_turn s.turns s.next (turn_of instructions s l))

-- ---- steps

-- the end of a block's run is that of its frame
abbrev pub moved_by : {A : Type 0} → Ended A → (A → Moved) → Moved
moved_by (ended a) next = next a
moved_by (trapped kind place) next = stops (trapped kind place)
moved_by (over place) next = stops (over place)

-- where an instruction leads; a jump to no label breaks a rule
abbrev pub moved : List InstrTree → ℕ → (ℕ → ℕ) → Next → Moved
moved instructions n turns (onward w) =
    goes (record { from = Some n; next = suc n; working = w; turns = turns })
moved instructions n turns (at_label key w) = elim (place_of_label key instructions) [
  | None ↦ stops (ended w.frame)
  | Some m ↦ goes (record { from = Some n; next = m; working = w; turns = turns })
]
moved instructions n turns (left frame) = stops (ended frame)

-- a single step; behind the last instruction the block ends
abbrev pub single : Source → Calls → Activation → List InstrTree → State → Moved
single source calls act instructions s = elim (slice_get instructions s.next) [
  | None ↦ stops (ended s.working.frame)
  | Some i ↦ moved_by (arrival source instructions s (range_label instructions s.next i))
      (λ turns. moved_by (step source calls act i s.working) (λ next. moved instructions s.next turns next))
]

-- ---- runs

-- from this state on these are the states one after another, and the last step ends so
pub data Runs (source : Source) (calls : Calls) (act : Activation) (instructions : List InstrTree) : State → List State
    → Ended Frame → Type 0 where
  ending : {s : State} {end : Ended Frame} → single source calls act instructions s ≡ stops end
      → Runs source calls act instructions s (s ∷ []) end
  going : {s t : State} {states : List State} {end : Ended Frame} → single source calls act instructions s ≡ goes t
      → Runs source calls act instructions t states end → Runs source calls act instructions s (s ∷ states) end

-- before the first instruction of a block
abbrev pub first_state : Frame → State
first_state frame = record {
  from = None;
  next = 0;
  working = record { registers = fresh; frame = frame };
  turns = λ n. 0;
}
