-- Of which statements and instructions nothing is too large: 64 bits hold their literals, and their addresses are of a bit or of at
-- most four bytes.
use Rattle.std.specs.Prelude.{⊤, FitsSigned, Option, Some, None, List}
use Rattle.std.specs.Int.{w64}
use Rattle.std.specs.List.{AllByRecursion}
use Rattle.pv_types.specs.declared.declaration.Literal.{Literal}
use Rattle.pv_tree.specs.declared.stmt.Choice.{Choice}
use Rattle.pv_tree.specs.declared.stmt.Choice.TheVariants.{Lit, Const}
use Rattle.pv_tree.specs.Tree.{OperandTree, CallPlain, Choices, StmtTree, assign, assign_call, if_, case_, for_, while_, repeat_, exit_, continue_, return_, call_, empty_, StmtTrees, no_stmts, stmts, ArmTrees, no_arms, arms, BranchTrees, no_branches, branches, ElseTree, no_else, else_, InstrTree, BodyTree, scl, stl, starts}
use Rattle.pv_tree.specs.InstructionGroups.{operand_of_instruction}
use Rattle.pv_resolve.specs.Rooms.{FitsExpr, FitsOperand}

abbrev pub FitsLiteral : Option Literal → Type 0
FitsLiteral None = ⊤
FitsLiteral (Some l) = FitsSigned w64 l.value

abbrev pub FitsOption : Option OperandTree → Type 0
FitsOption None = ⊤
FitsOption (Some o) = FitsOperand o

-- ---- values of CASE, calls

abbrev pub FitsChoice : Choice → Type 0
FitsChoice (Lit l) = FitsSigned w64 l.value
FitsChoice (Const name place) = ⊤

abbrev pub FitsUpper : Option Choice → Type 0
FitsUpper None = ⊤
FitsUpper (Some c) = FitsChoice c

abbrev pub FitsChoices : Choices → Type 0
FitsChoices cs = AllByRecursion (λ c. FitsChoice c.0 × FitsUpper c.1) cs

abbrev pub FitsCall : CallPlain → Type 0
FitsCall call = AllByRecursion (λ a. FitsExpr a.value) call.args

abbrev pub FitsCallOption : Option CallPlain → Type 0
FitsCallOption None = ⊤
FitsCallOption (Some call) = FitsCall call

-- ---- statements

abbrev mutual
  pub FitsStmt : StmtTree → Type 0
  FitsStmt (assign target place value) = FitsOperand target × FitsExpr value
  FitsStmt (assign_call target place call) = FitsOperand target × FitsCall call
  FitsStmt (if_ conditions other place) = FitsArms conditions × FitsElse other
  FitsStmt (case_ selector choices other place) =
      FitsExpr selector × (FitsBranches choices × FitsElse other)
  FitsStmt (for_ name name_place first last by body place) =
      FitsExpr first × (FitsExpr last × (FitsLiteral by × FitsStmts body))
  FitsStmt (while_ condition body place) = FitsExpr condition × FitsStmts body
  FitsStmt (repeat_ body condition place) = FitsExpr condition × FitsStmts body
  FitsStmt (exit_ place) = ⊤
  FitsStmt (continue_ place) = ⊤
  FitsStmt (return_ place) = ⊤
  FitsStmt (call_ call) = FitsCall call
  FitsStmt (empty_ place) = ⊤

  pub FitsStmts : StmtTrees → Type 0
  FitsStmts no_stmts = ⊤
  FitsStmts (stmts s more) = FitsStmt s × FitsStmts more

  pub FitsArms : ArmTrees → Type 0
  FitsArms no_arms = ⊤
  FitsArms (arms condition body more) = FitsExpr condition × (FitsStmts body × FitsArms more)

  pub FitsBranches : BranchTrees → Type 0
  FitsBranches no_branches = ⊤
  FitsBranches (branches values body more) =
      FitsChoices values × (FitsStmts body × FitsBranches more)

  pub FitsElse : ElseTree → Type 0
  FitsElse no_else = ⊤
  FitsElse (else_ body) = FitsStmts body

-- ---- instructions

pub record FitsInstr (i : InstrTree) : Type 0 where
  pub variable : FitsOption (operand_of_instruction i)
  pub literal : FitsLiteral i.literal
  pub call : FitsCallOption i.call

abbrev pub FitsBody : BodyTree → Type 0
FitsBody (scl statements) = FitsStmts statements
FitsBody (stl instructions) = AllByRecursion FitsInstr instructions
FitsBody (starts values) = ⊤
