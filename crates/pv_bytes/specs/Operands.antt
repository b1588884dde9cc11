-- The operands of statements and instructions, in the order of the text, and the bytes that they name.
use Rattle.std.specs.Prelude.{◌≡◌, ℕ, List, [], ◌++◌, flat_map, nat_eq, Bool as Truth, ◌||◌, option_to_list}
use Rattle.std.specs.List.{list_any}
use Rattle.pv_tree.specs.declared.expr.Area.{Area}
use Rattle.pv_tree.specs.Tree.{OperandTree, CallPlain, StmtTree, assign, assign_call, if_, case_, for_, while_, repeat_, exit_, continue_, return_, call_, empty_, InstrTree}
use Rattle.pv_tree.specs.InstructionGroups.{operand_of_instruction}
use Rattle.pv_tree.specs.Operands.{operands_in, operands_within}
use Rattle.pv_tree.specs.Parts.{conditions_of, calls_of_instruction}
use Rattle.pv_mean.specs.AreaBytes.{bytes_of_operand}
use Rattle.pv_bytes.specs.Numbers.{flag_at}

abbrev pub operands_in_call : CallPlain → List OperandTree
operands_in_call call = flat_map (λ a. operands_in a.value) call.args

-- what a statement itself reads, and not those in it
abbrev pub operands_in_stmt : StmtTree → List OperandTree
operands_in_stmt (assign target place value) = operands_within target ++ operands_in value
operands_in_stmt (assign_call target place call) = operands_within target ++ operands_in_call call
operands_in_stmt (if_ conditions other place) = flat_map operands_in (conditions_of conditions)
operands_in_stmt (case_ selector choices other place) = operands_in selector
operands_in_stmt (for_ name name_place first last by body place) =
    operands_in first ++ operands_in last
operands_in_stmt (while_ condition body place) = operands_in condition
operands_in_stmt (repeat_ body condition place) = operands_in condition
operands_in_stmt (exit_ place) = []
operands_in_stmt (continue_ place) = []
operands_in_stmt (return_ place) = []
operands_in_stmt (call_ call) = operands_in_call call
operands_in_stmt (empty_ place) = []

-- what an instruction reads
abbrev pub operands_in_instr : InstrTree → List OperandTree
operands_in_instr i =
    flat_map operands_within (option_to_list (operand_of_instruction i))
    ++ flat_map (λ s. operands_in_call s.call) (calls_of_instruction i)

-- the bytes of an area that operands name
abbrev pub names_byte : Area → List OperandTree → ℕ → Truth
names_byte area os k = list_any (nat_eq k) (flat_map (bytes_of_operand area) os)

-- more marks: those of the bytes that operands name
abbrev pub MarksAlso : Area → List Truth → List Truth → List OperandTree → Type 0
MarksAlso area old new os = (k : ℕ) → flag_at new k ≡ (flag_at old k || names_byte area os k)
