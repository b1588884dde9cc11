-- The operands that expressions and statements read, those in indexes too, whatever is wanted of the expressions.
use Rattle.std.specs.Prelude.{List, [], ◌++◌, flat_map, option_to_list}
use Rattle.pv_tree.specs.Tree.{OperandTree, CallPlain, StmtTree, assign, assign_call, if_, case_, for_, while_, repeat_, exit_, continue_, return_, call_, empty_, InstrTree, StartTree}
use Rattle.pv_tree.specs.InstructionGroups.{operand_of_instruction}
use Rattle.pv_tree.specs.Operands.{operands_in, operands_within}
use Rattle.pv_tree.specs.Parts.{conditions_of}
use Rattle.pv_tree.specs.Rules.Callable.{read_operand}

abbrev pub reads_of_call : CallPlain → List OperandTree
reads_of_call call = flat_map (λ a. operands_in a.value) call.args

-- of a statement itself
abbrev pub reads_of_stmt : StmtTree → List OperandTree
reads_of_stmt (assign target place value) = operands_within target ++ operands_in value
reads_of_stmt (assign_call target place call) = operands_within target ++ reads_of_call call
reads_of_stmt (if_ conditions other place) = flat_map operands_in (conditions_of conditions)
reads_of_stmt (case_ selector choices other place) = operands_in selector
reads_of_stmt (for_ name name_place first last by body place) = operands_in first ++ operands_in last
reads_of_stmt (while_ condition body place) = operands_in condition
reads_of_stmt (repeat_ body condition place) = operands_in condition
reads_of_stmt (exit_ place) = []
reads_of_stmt (continue_ place) = []
reads_of_stmt (return_ place) = []
reads_of_stmt (call_ call) = reads_of_call call
reads_of_stmt (empty_ place) = []

-- of the parts of a data block that are given values
abbrev pub reads_of_starts : List StartTree → List OperandTree
reads_of_starts list = flat_map (λ v. operands_within v.0) list

-- of an instruction: in its operand's indexes, in the arguments of its call, and the operand itself where it reads that
abbrev pub reads_of_instruction : InstrTree → List OperandTree
reads_of_instruction i =
    flat_map operands_within (option_to_list (operand_of_instruction i)) ++ flat_map reads_of_call (option_to_list i.call)
    ++ option_to_list (read_operand i)
