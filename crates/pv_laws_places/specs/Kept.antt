-- The places that a tree keeps, all of them: `EachOf..` says that each one is so, and that addresses have the widths that texts give them.
use Rattle.std.specs.Prelude.{◌≡◌, ◌⊎◌, ℕ, ⊤, Option, Some, None, List}
use Rattle.std.specs.List.{AllByRecursion}
use Rattle.pv_place.specs.declared.place.Place.{Place}
use Rattle.pv_types.specs.declared.declaration.Literal.{Literal}
use Rattle.pv_types.specs.Tree.{TypeTree, plain, array, structure, named, unread, var, VarTrees, no_vars, _then_}
use Rattle.pv_types.specs.View.{listed}
use Rattle.pv_tree.specs.declared.block.BlockKind.{BlockKind}
use Rattle.pv_tree.specs.declared.block.BlockKind.TheVariants.{Fb, Fc, Ob, Db, Udt}
use Rattle.pv_tree.specs.declared.expr.Root.{Root}
use Rattle.pv_tree.specs.declared.expr.Root.TheVariants.{Local, Named, Area}
use Rattle.pv_tree.specs.declared.stmt.Choice.{Choice}
use Rattle.pv_tree.specs.declared.stmt.Choice.TheVariants.{Lit, Const}
use Rattle.pv_tree.specs.Tree.{PlacedName, ExprTree, lit, read, unary, binary, std, paren, ExprTrees, no_exprs, exprs, OperandTree, operand, StepTree, field, index, StepTrees, no_steps, steps, ArgTree, CallPlain, Choices, StmtTree, assign, assign_call, if_, case_, for_, while_, repeat_, exit_, continue_, return_, call_, empty_, StmtTrees, no_stmts, stmts, ArmTrees, no_arms, arms, BranchTrees, no_branches, branches, ElseTree, no_else, else_, InstrTree, StartTree, BodyTree, scl, stl, starts, BlockTree}

-- ---- names, literals, expressions and operands

abbrev pub EachOfName : (Place → Type 0) → Option PlacedName → Type 0
EachOfName P None = ⊤
EachOfName P (Some name) = P name.1

abbrev pub EachOfLiteral : (Place → Type 0) → Option Literal → Type 0
EachOfLiteral P None = ⊤
EachOfLiteral P (Some literal) = P literal.place

-- the bits of an address: one, or those of a byte, a word or a double word
abbrev pub IsWidth : ℕ → Type 0
IsWidth bits = (bits ≡ 1) ⊎ ((bits ≡ 8) ⊎ ((bits ≡ 16) ⊎ (bits ≡ 32)))

abbrev pub EachOfRoot : (Place → Type 0) → Root → Type 0
EachOfRoot P (Local name hash place) = P place
EachOfRoot P (Named name) = ⊤
EachOfRoot P (Area area bits byte bit) = IsWidth bits

abbrev mutual
  pub EachOfExpr : (Place → Type 0) → ExprTree → Type 0
  EachOfExpr P (lit ty value place) = P place
  EachOfExpr P (read o) = EachOfOperand P o
  EachOfExpr P (unary op place arg) = P place × EachOfExpr P arg
  EachOfExpr P (binary op place left right) = P place × (EachOfExpr P left × EachOfExpr P right)
  EachOfExpr P (std function place args) = P place × EachOfExprs P args
  EachOfExpr P (paren place inner) = P place × EachOfExpr P inner

  pub EachOfExprs : (Place → Type 0) → ExprTrees → Type 0
  EachOfExprs P no_exprs = ⊤
  EachOfExprs P (exprs e more) = EachOfExpr P e × EachOfExprs P more

  pub EachOfOperand : (Place → Type 0) → OperandTree → Type 0
  EachOfOperand P (operand root more place) = P place × (EachOfRoot P root × EachOfSteps P more)

  pub EachOfSteps : (Place → Type 0) → StepTrees → Type 0
  EachOfSteps P no_steps = ⊤
  EachOfSteps P (steps step more) = EachOfStep P step × EachOfSteps P more

  pub EachOfStep : (Place → Type 0) → StepTree → Type 0
  EachOfStep P (field name place) = P place
  EachOfStep P (index e place) = P place × EachOfExpr P e

-- ---- calls

pub record EachOfArg (P : Place → Type 0) (arg : ArgTree) : Type 0 where
  pub its_word : EachOfName P arg.name
  pub its_value : EachOfExpr P arg.value
  pub its_own : P arg.place

pub record EachOfCall (P : Place → Type 0) (call : CallPlain) : Type 0 where
  pub its_name : P call.name_place
  pub its_base : EachOfName P call.base
  pub its_args : AllByRecursion (EachOfArg P) call.args
  pub its_own : P call.place

abbrev pub EachOfCallOption : (Place → Type 0) → Option CallPlain → Type 0
EachOfCallOption P None = ⊤
EachOfCallOption P (Some call) = EachOfCall P call

-- ---- statements

abbrev pub EachOfChoice : (Place → Type 0) → Choice → Type 0
EachOfChoice P (Lit literal) = P literal.place
EachOfChoice P (Const name place) = P place

abbrev pub EachOfUpper : (Place → Type 0) → Option Choice → Type 0
EachOfUpper P None = ⊤
EachOfUpper P (Some upper) = EachOfChoice P upper

abbrev pub EachOfRange : (Place → Type 0) → Choice × Option Choice → Type 0
EachOfRange P range = EachOfChoice P range.0 × EachOfUpper P range.1

abbrev pub EachOfChoices : (Place → Type 0) → Choices → Type 0
EachOfChoices P choices = AllByRecursion (EachOfRange P) choices

abbrev mutual
  pub EachOfStmt : (Place → Type 0) → StmtTree → Type 0
  EachOfStmt P (assign target place value) =
      P place × (EachOfOperand P target × EachOfExpr P value)
  EachOfStmt P (assign_call target place call) =
      P place × (EachOfOperand P target × EachOfCall P call)
  EachOfStmt P (if_ conditions other place) =
      P place × (EachOfArms P conditions × EachOfElse P other)
  EachOfStmt P (case_ selector choices other place) =
      P place × (EachOfExpr P selector × (EachOfBranches P choices × EachOfElse P other))
  EachOfStmt P (for_ name name_place first last by body place) =
      P place × (P name_place × (EachOfExpr P first × (EachOfExpr P last × (EachOfLiteral P by
      × EachOfStmts P body))))
  EachOfStmt P (while_ condition body place) =
      P place × (EachOfExpr P condition × EachOfStmts P body)
  EachOfStmt P (repeat_ body condition place) =
      P place × (EachOfStmts P body × EachOfExpr P condition)
  EachOfStmt P (exit_ place) = P place
  EachOfStmt P (continue_ place) = P place
  EachOfStmt P (return_ place) = P place
  EachOfStmt P (call_ call) = EachOfCall P call
  EachOfStmt P (empty_ place) = P place

  pub EachOfStmts : (Place → Type 0) → StmtTrees → Type 0
  EachOfStmts P no_stmts = ⊤
  EachOfStmts P (stmts s more) = EachOfStmt P s × EachOfStmts P more

  pub EachOfArms : (Place → Type 0) → ArmTrees → Type 0
  EachOfArms P no_arms = ⊤
  EachOfArms P (arms condition body more) =
      EachOfExpr P condition × (EachOfStmts P body × EachOfArms P more)

  pub EachOfBranches : (Place → Type 0) → BranchTrees → Type 0
  EachOfBranches P no_branches = ⊤
  EachOfBranches P (branches choices body more) =
      EachOfChoices P choices × (EachOfStmts P body × EachOfBranches P more)

  pub EachOfElse : (Place → Type 0) → ElseTree → Type 0
  EachOfElse P no_else = ⊤
  EachOfElse P (else_ body) = EachOfStmts P body

-- ---- instructions

abbrev pub EachOfOperandOption : (Place → Type 0) → Option OperandTree → Type 0
EachOfOperandOption P None = ⊤
EachOfOperandOption P (Some o) = EachOfOperand P o

pub record EachOfInstr (P : Place → Type 0) (i : InstrTree) : Type 0 where
  pub its_label : EachOfName P i.label
  pub its_operand : EachOfOperandOption P i.operand
  pub its_literal : EachOfLiteral P i.literal
  pub its_call : EachOfCallOption P i.call
  pub its_own : P i.place

-- ---- declarations

abbrev mutual
  pub EachOfType : (Place → Type 0) → TypeTree → Type 0
  EachOfType P (plain ty) = ⊤
  EachOfType P (array low high of place) = P place × EachOfType P of
  EachOfType P (structure inner) = EachOfVars P inner
  EachOfType P (named name place) = P place
  EachOfType P unread = ⊤

  pub EachOfVars : (Place → Type 0) → VarTrees → Type 0
  EachOfVars P no_vars = ⊤
  EachOfVars P (_then_ (var name section ty start place) more) =
      P place × (EachOfType P ty × (EachOfLiteral P start × EachOfVars P more))

-- ---- blocks

abbrev pub EachOfKind : (Place → Type 0) → BlockKind → Type 0
EachOfKind P Fb = ⊤
EachOfKind P Fc = ⊤
EachOfKind P Ob = ⊤
EachOfKind P (Db of) = EachOfName P of
EachOfKind P Udt = ⊤

abbrev pub EachOfStart : (Place → Type 0) → StartTree → Type 0
EachOfStart P start = EachOfOperand P start.0 × P start.1.place

abbrev pub EachOfBody : (Place → Type 0) → BodyTree → Type 0
EachOfBody P (scl statements) = EachOfStmts P statements
EachOfBody P (stl instructions) = AllByRecursion (EachOfInstr P) instructions
EachOfBody P (starts values) = AllByRecursion (EachOfStart P) values

pub record EachOfBlock (P : Place → Type 0) (block : BlockTree) : Type 0 where
  pub its_kind : EachOfKind P block.kind
  pub its_vars : EachOfVars P (listed block.vars)
  pub its_body : EachOfBody P block.body
  pub its_own : P block.place

abbrev pub EachOfBlocks : (Place → Type 0) → List BlockTree → Type 0
EachOfBlocks P blocks = AllByRecursion (EachOfBlock P) blocks
