-- The run of a block's instructions: one behind another from the first on; a jump goes on at its label. The label of a backward
-- jump begins a range, up to the last jump to it, and each arrival there is a turn: the entry from outside is the first, and a
-- jump from inside the range starts the next. An entry that would start one turn more than the source's bound is over, at the
-- label, before its instruction runs. (The reference manual Statement List (STL) for S7-300/S7-400, "Logic Control Instructions".)
use Rattle.std.specs.Prelude.{ℕ, zero, suc, List, [], ◌∷◌, bytes_eq, Bool as Truth, true, false, Option, Some, None}
use Rattle.std.specs.List.{list_any}
use Rattle.pv_tree.specs.Tree.{PlacedName, InstrTree}
use Rattle.pv_tree.specs.InstructionGroups.{label_of_jump}
use Rattle.pv_mean.specs.Sources.{Source}
use Rattle.pv_mean.specs.Frames.{Frame}
use Rattle.pv_mean.specs.Endings.{Ended, ended, over, and_end}
use Rattle.pv_mean.specs.Activations.{Activation}
use Rattle.pv_mean.specs.Statements.{Calls}
use Rattle.pv_mean.specs.Registers.{fresh}
use Rattle.pv_mean.specs.Instructions.{Next, onward, at_label, left, Effect, step}

-- where the instructions are entered: at the first of them, or at the one with a label of this name
pub data Sought : Type 0 where
  here : Sought
  label : List ℕ → Sought

abbrev pub is_named : List ℕ → Option PlacedName → Truth
is_named key None = false
is_named key (Some l) = bytes_eq key l.0.key

-- one of the instructions jumps to the label of this name
abbrev pub is_jumped_to : List ℕ → List InstrTree → Truth
is_jumped_to key instructions = list_any (λ i. is_named key (label_of_jump i)) instructions

-- behind a turn: a jump to the range's own label starts the next one
abbrev pub again : Effect → PlacedName → Next → Ended Next
again turn its_label (onward w) = ended (onward w)
again turn its_label (at_label key w) = elim (is_named key (Some its_label)) [
  | true ↦ turn w
  | false ↦ ended (at_label key w)
]
again turn its_label (left frame) = ended (left frame)

-- the turns of a range, where so many are left
abbrev pub turns : Effect → PlacedName → ℕ → Effect
turns body its_label zero w = over its_label.1
turns body its_label (suc n) w =
    and_end (body w) (λ next. again (λ v. turns body its_label n v) its_label next)

-- the arrival at an instruction: its label, and whether it is jumped to from there or from behind it
abbrev pub arrives : Source → Option PlacedName → List InstrTree → Effect → Effect
arrives source None range body w = body w
arrives source (Some l) range body w = elim (is_jumped_to l.0.key range) [
  | true ↦ turns body l source.bound w
  | false ↦ body w
]

-- behind an instruction: at the next one, or at the label among those behind it
abbrev pub follow : (Sought → Effect) → Next → Ended Next
follow more (onward w) = more here w
follow more (at_label key w) = more (label key) w
follow more (left frame) = ended (left frame)

-- the instructions of a block from one on. A jump to a label that isn't among them is handed back to the one that has it
abbrev pub run_instructions : Source → Calls → Activation → List InstrTree → Sought → Effect
run_instructions source calls act [] here w = ended (onward w)
run_instructions source calls act [] (label key) w = ended (at_label key w)
run_instructions source calls act (i ∷ more) here w = arrives source i.label (i ∷ more)
    (λ v. and_end (step source calls act i v)
    (λ next. follow (λ at x. run_instructions source calls act more at x) next)) w
run_instructions source calls act (i ∷ more) (label key) w = elim (is_named key i.label) [
  | true ↦ arrives source i.label (i ∷ more)
      (λ v. and_end (step source calls act i v)
      (λ next. follow (λ at x. run_instructions source calls act more at x) next)) w
  | false ↦ run_instructions source calls act more (label key) w
]

-- the frame that is left at a block's end; a jump to no label breaks a rule
abbrev pub frame_left : Next → Frame
frame_left (onward w) = w.frame
frame_left (at_label key w) = w.frame
frame_left (left frame) = frame

-- the run of all of them, in the frame of their block
abbrev pub run_stl : Source → Calls → Activation → List InstrTree → Frame → Ended Frame
run_stl source calls act instructions frame = and_end
    (run_instructions source calls act instructions here
    (record { registers = fresh; frame = frame })) (λ next. ended (frame_left next))
