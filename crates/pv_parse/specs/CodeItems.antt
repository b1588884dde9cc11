-- Parts of statements and calls that lie on the stack, as plain data.
use Rattle.std.specs.Prelude.{List, map, Option, option_map, Vec, Box}
use Rattle.std.specs.declared.alloc.Global.{Global}
use Rattle.pv_types.specs.declared.declaration.Literal.{Literal}
use Rattle.pv_tree.specs.declared.expr.Expr.{Expr}
use Rattle.pv_tree.specs.declared.stmt.Arg.{Arg}
use Rattle.pv_tree.specs.declared.range.ChoiceRange.{ChoiceRange}
use Rattle.pv_tree.specs.declared.stmt.Choice.{Choice}
use Rattle.pv_tree.specs.declared.stmt.Stmt.{Stmt}
use Rattle.pv_tree.specs.Tree.{ExprTree, ArgTree, CallPlain, Choices, StmtTree, StmtTrees}
use Rattle.pv_tree.specs.View.{expr_tree, arg_tree, call_tree, stmt_tree, stmt_trees}
use Rattle.pv_parse.specs.declared.code_item.Value.{Value}
use Rattle.pv_parse.specs.declared.code_item.Value.TheVariants as v
use Rattle.pv_parse.specs.declared.code_item.CodeItem.{CodeItem}
use Rattle.pv_parse.specs.declared.code_item.CodeItem.TheVariants as i

-- the right side of an assignment
pub data ValueTree : Type 0 where
  of_expr : ExprTree → ValueTree
  of_call : CallPlain → ValueTree

-- a condition of an IF with its statements
abbrev pub ArmTree : Type 0
ArmTree = ExprTree × StmtTrees

-- a branch of a CASE
abbrev pub BranchTree : Type 0
BranchTree = Choices × StmtTrees

-- a part of a statement or of a call
pub data CodeTree : Type 0 where
  arguments : List ArgTree → CodeTree
  called : CallPlain → CodeTree
  value : ValueTree → CodeTree
  statement : StmtTree → CodeTree
  statements : List StmtTree → CodeTree
  conditions : List ArmTree → CodeTree
  otherwise : Option StmtTrees → CodeTree
  stepping : Option Literal → CodeTree
  choice : Choice → CodeTree
  choices : Choices → CodeTree
  cases : List BranchTree → CodeTree

-- ---- the code's

abbrev pub value_tree : Value → ValueTree
value_tree (v.Expr e) = of_expr (expr_tree e.value)
value_tree (v.Call c) = of_call (call_tree c.value)

abbrev pub arg_list : Vec Arg Global → List ArgTree
arg_list args = map arg_tree args.items

abbrev pub stmt_list : Vec Stmt Global → List StmtTree
stmt_list body = map stmt_tree body.items

abbrev pub arm_tree : Expr × Vec Stmt Global → ArmTree
arm_tree arm = (expr_tree arm.0, stmt_trees arm.1.items)

abbrev pub arm_list : Vec (Expr × Vec Stmt Global) Global → List ArmTree
arm_list all = map arm_tree all.items

abbrev pub else_list : Option (Box (Vec Stmt Global) Global) → Option StmtTrees
else_list other = option_map (λ body. stmt_trees body.value.items) other

-- the values of a label, each alone or as the lower end of a range
abbrev pub ChoiceVec : Type 0
ChoiceVec = Vec ChoiceRange Global

abbrev pub choice_list : ChoiceVec → Choices
choice_list label = label.items

abbrev pub branch_tree : ChoiceVec × Vec Stmt Global → BranchTree
branch_tree branch = (branch.0.items, stmt_trees branch.1.items)

abbrev pub branch_list : Vec (ChoiceVec × Vec Stmt Global) Global → List BranchTree
branch_list all = map branch_tree all.items

abbrev pub code_of : CodeItem → CodeTree
code_of (i.Args list) = arguments (arg_list list)
code_of (i.Call c) = called (call_tree c.value)
code_of (i.Value x) = value (value_tree x)
code_of (i.Stmt x) = statement (stmt_tree x)
code_of (i.Stmts list) = statements (stmt_list list)
code_of (i.Arms list) = conditions (arm_list list)
code_of (i.Else list) = otherwise (else_list list)
code_of (i.By literal) = stepping (option_map (λ l. l.value) literal)
code_of (i.Choice x) = choice x.value
code_of (i.Choices list) = choices (choice_list list)
code_of (i.Branches list) = cases (branch_list list)
