-- The places by depth of instructions are those of their parts.
use Rattle.std.proofs.Common.{List, [], ◌∷◌, Option, Some, None}
use Rattle.pv_tree.specs.Tree.{OperandTree, CallPlain, InstrTree}
use Rattle.pv_tree.specs.Nesting.{parts_of_variable, parts_of_call, parts_of_instr, parts_of_instrs}
use Rattle.pv_parse.specs.InstrShades.{places_of_variable, places_of_option_call, places_of_instr, places_of_instrs}
use Rattle.pv_parse.proofs.ForCallers.{MarksParts as Marks, marks_none, marks_both, marks-operand}
use Rattle.pv_parse_source.proofs.StmtMarks.{marks-call}

marks-variable : (o : Option OperandTree) → Marks (places_of_variable o) 0 (parts_of_variable o)
marks-variable None = marks_none 0
marks-variable (Some variable) = marks-operand 0 variable

marks-option-call : (o : Option CallPlain) → Marks (places_of_option_call o) 0 (parts_of_call o)
marks-option-call None = marks_none 0
marks-option-call (Some call) = marks-call 0 call

pub marks-instrs : (l : List InstrTree) → Marks (places_of_instrs l) 0 (parts_of_instrs l)
marks-instrs [] = marks_none 0
marks-instrs (i ∷ l) =
    marks_both 0 (places_of_instr i) (places_of_instrs l) (parts_of_instr i) (parts_of_instrs l)
    (marks_both 0 (places_of_variable i.operand) (places_of_option_call i.call) (parts_of_variable i.operand) (parts_of_call i.call)
    (marks-variable i.operand) (marks-option-call i.call)) (marks-instrs l)
