-- Words of STL by the rows of the table that they have.
use Rattle.std.specs.Prelude.{◌≡◌, ℕ, List, Some}
use Rattle.pv_tree.specs.declared.instr.Op.{Op}
use Rattle.pv_tree.specs.declared.instr.Op.TheVariants.{Assign, S, R, Fp, Fn}
use Rattle.pv_tree.specs.InstructionGroups.{Group, bit_read, opening, closing, alone, no_operation, display, word_logic, double_logic, word_shift, double_shift, block_end}
use Rattle.pv_tree.specs.Tree.{OperandTree, InstrTree, BlockTree}
use Rattle.pv_mean.specs.Sources.{Source}
use Rattle.pv_mean.specs.Activations.{Activation}
use Rattle.pv_mean.specs.Registers.{Working}
use Rattle.pv_mean.specs.Instructions as m
use Rattle.pv_mean.specs.Instructions.{Effect, effect, on_registers, value_behind, count_behind}
use Rattle.pv_eval.specs.declared.target.Target.{Target}
use Rattle.pv_stl_run.specs.declared.numbers.Part.{Part}
use Rattle.pv_stl_run.specs.declared.registers.Junction.{Junction}
use Rattle.pv_stl_run.specs.declared.instr.Combining.{Combining}
use Rattle.pv_stl_run.specs.declared.instr.Shifting.{Shifting}
use Rattle.pv_stl_run.specs.declared.instr.Change.{Change}
use Rattle.pv_stl_run.specs.declared.instr.Change.TheVariants.{Combine, Shift}
use Rattle.pv_stl_run.specs.declared.instr.Written.{Written}
use Rattle.pv_stl_run.specs.declared.instr.When.{When}
use Rattle.pv_stl_run.specs.declared.instr.Action.{Action}
use Rattle.pv_stl_run.specs.Views.{junction_of}
use Rattle.pv_stl_run.specs.Rows.{row_of}
use Rattle.pv_stl_run.specs.Code.{HasRow, jump_row, written_of, IsAction}
use Rattle.std.specs.Prelude.{Bool as Truth, true, false}

-- which words have a row of each kind
abbrev pub is_joined : Group → Truth
is_joined bit_read = true
is_joined group = false

abbrev pub is_taken : Op → Truth
is_taken Assign = true
is_taken S = true
is_taken R = true
is_taken op = false

abbrev pub is_edge : Op → Truth
is_edge Fp = true
is_edge Fn = true
is_edge op = false

abbrev pub is_end : Group → Truth
is_end block_end = true
is_end group = false

abbrev pub is_change : Group → Truth
is_change opening = true
is_change closing = true
is_change no_operation = true
is_change display = true
is_change alone = true
is_change group = false

abbrev pub is_combined : Group → Truth
is_combined word_logic = true
is_combined double_logic = true
is_combined group = false

abbrev pub is_shift : Group → Truth
is_shift word_shift = true
is_shift double_shift = true
is_shift group = false

-- a row, whatever the instruction works on
abbrev pub WordHas : Op → (Source → Activation → InstrTree → Effect) → Type 0
WordHas op row = (source : Source) (act : Activation) (i : InstrTree) (w : Working)
    → effect source act i op w ≡ row source act i w

-- a change of the registers alone
abbrev pub WordChanges : Op → Change → Type 0
WordChanges op c = WordHas op (λ source act i. on_registers (λ r. row_of c i.place r))

abbrev pub WordCombines : Op → Combining → Part → Type 0
WordCombines op how part = WordHas op
    (λ source act i. on_registers (λ r. row_of (Combine how part (value_behind i)) i.place r))

abbrev pub WordShifts : Op → Shifting → Part → Type 0
WordShifts op way part = WordHas op
    (λ source act i. on_registers (λ r. row_of (Shift way part (count_behind i)) i.place r))

abbrev pub WordJumps : Op → When → Type 0
WordJumps op test = WordHas op (λ source act i. jump_row test i)

-- where it has an operand
abbrev pub WordJoins : Op → Junction → Type 0
WordJoins op j = (source : Source) (act : Activation) (i : InstrTree) (o : OperandTree)
    (w : Working) → i.operand ≡ Some o
    → effect source act i op w ≡ m.joins source act i (junction_of j) w

abbrev pub WordWrites : Op → Written → Type 0
WordWrites op written =
    WordHas op (λ source act i. m.writes source act i (λ e. written_of written e))

abbrev pub WordFindsEdge : Op → Truth → Type 0
WordFindsEdge op rising = WordHas op (λ source act i. m.finds_edge source act i rising)

-- an action of the word alone
abbrev pub WordDoes : Op → Action → Type 0
WordDoes op d = (source : Source) (block : BlockTree) (targets : List Target) (room : ℕ)
    (i : InstrTree) → op ≡ i.op → IsAction source block targets room d i

-- an instruction that changes the registers alone
abbrev pub ChangesBy : InstrTree → Change → Type 0
ChangesBy i c = (source : Source) (block : BlockTree)
    → HasRow source block i (λ act. on_registers (λ r. row_of c i.place r))
