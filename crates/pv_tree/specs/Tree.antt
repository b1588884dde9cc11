-- Trees as plain data: all names, values and places of a block, a statement, an instruction or an
-- expression, and nothing of where it lies in memory. Every definition of reading, rules and
-- meaning is over these.
use Rattle.std.specs.Prelude.{ℤ, Bool, List, Option}
use Rattle.pv_word.specs.declared.types.Ty.{Ty}
use Rattle.pv_place.specs.declared.place.Place.{Place}
use Rattle.pv_types.specs.declared.name.Name.{Name}
use Rattle.pv_types.specs.declared.declaration.Literal.{Literal}
use Rattle.pv_types.specs.Tree.{VarTree}
use Rattle.pv_tree.specs.declared.expr.Root.{Root}
use Rattle.pv_tree.specs.declared.expr.UnaryOp.{UnaryOp}
use Rattle.pv_tree.specs.declared.expr.BinaryOp.{BinaryOp}
use Rattle.pv_tree.specs.declared.expr.StdFunction.{StdFunction}
use Rattle.pv_tree.specs.declared.stmt.Choice.{Choice}
use Rattle.pv_tree.specs.declared.instr.Op.{Op}
use Rattle.pv_tree.specs.declared.block.BlockKind.{BlockKind}

-- a name and its place
abbrev pub PlacedName : Type 0
PlacedName = Name × Place

mutual
  -- an expression, with the places that it keeps
  pub data ExprTree : Type 0 where
    lit : Option Ty → ℤ → Place → ExprTree
    read : OperandTree → ExprTree
    unary : UnaryOp → Place → ExprTree → ExprTree
    binary : BinaryOp → Place → ExprTree → ExprTree → ExprTree
    std : StdFunction → Place → ExprTrees → ExprTree
    paren : Place → ExprTree → ExprTree

  -- the arguments of a function
  pub data ExprTrees : Type 0 where
    no_exprs : ExprTrees
    exprs : ExprTree → ExprTrees → ExprTrees

  -- what is read or assigned: where it begins, the steps from there, and the place of its first
  -- token
  pub data OperandTree : Type 0 where
    operand : Root → StepTrees → Place → OperandTree

  -- a step into a part: the field of a name, or the element at an index
  pub data StepTree : Type 0 where
    field : Name → Place → StepTree
    index : ExprTree → Place → StepTree

  pub data StepTrees : Type 0 where
    no_steps : StepTrees
    steps : StepTree → StepTrees → StepTrees

-- an argument: its word, its value, and the place of `:=`, `=>` or of its first token
pub record ArgTree : Type 0 where
  pub name : Option PlacedName
  pub value : ExprTree
  pub place : Place

-- a call: the called name, its place and whether `#` stands before it, the second name, the
-- arguments, and the place of the first token
pub record CallPlain : Type 0 where
  pub name : Name
  pub name_place : Place
  pub hash : Bool
  pub base : Option PlacedName
  pub args : List ArgTree
  pub place : Place

-- the values of a branch of CASE: each is one value, or the lower end of a range
abbrev pub Choices : Type 0
Choices = List (Choice × Option Choice)

mutual
  -- a statement
  pub data StmtTree : Type 0 where
    assign : OperandTree → Place → ExprTree → StmtTree
    assign_call : OperandTree → Place → CallPlain → StmtTree
    if_ : ArmTrees → ElseTree → Place → StmtTree
    case_ : ExprTree → BranchTrees → ElseTree → Place → StmtTree
    for_ : Name → Place → ExprTree → ExprTree → Option Literal → StmtTrees → Place → StmtTree
    while_ : ExprTree → StmtTrees → Place → StmtTree
    repeat_ : StmtTrees → ExprTree → Place → StmtTree
    exit_ : Place → StmtTree
    continue_ : Place → StmtTree
    return_ : Place → StmtTree
    call_ : CallPlain → StmtTree
    empty_ : Place → StmtTree

  pub data StmtTrees : Type 0 where
    no_stmts : StmtTrees
    stmts : StmtTree → StmtTrees → StmtTrees

  -- the conditions of an IF with their statements
  pub data ArmTrees : Type 0 where
    no_arms : ArmTrees
    arms : ExprTree → StmtTrees → ArmTrees → ArmTrees

  -- the branches of a CASE
  pub data BranchTrees : Type 0 where
    no_branches : BranchTrees
    branches : Choices → StmtTrees → BranchTrees → BranchTrees

  -- what stands behind ELSE
  pub data ElseTree : Type 0 where
    no_else : ElseTree
    else_ : StmtTrees → ElseTree

-- an instruction
pub record InstrTree : Type 0 where
  pub label : Option PlacedName
  pub op : Op
  pub operand : Option OperandTree
  pub literal : Option Literal
  pub call : Option CallPlain
  pub place : Place

-- a value that a data block gives to a part of it
abbrev pub StartTree : Type 0
StartTree = OperandTree × Literal

-- the body of a block
pub data BodyTree : Type 0 where
  scl : StmtTrees → BodyTree
  stl : List InstrTree → BodyTree
  starts : List StartTree → BodyTree

-- a block, with the place of its name's first token
pub record BlockTree : Type 0 where
  pub kind : BlockKind
  pub name : Name
  pub vars : List VarTree
  pub value : Option Ty
  pub body : BodyTree
  pub place : Place
