-- Trees of the code as plain data, and plain lists as lists.
use Rattle.std.specs.Prelude.{List, [], ◌∷◌, map, Option, option_map, Some, None}
use Rattle.pv_types.specs.View.{var_trees}
use Rattle.pv_types.specs.declared.declaration.Literal.{Literal}
use Rattle.pv_tree.specs.declared.expr.Expr.{Expr, fold-Expr}
use Rattle.pv_tree.specs.declared.expr.Expr.TheOpen.{Expr-F, Step-F}
use Rattle.pv_tree.specs.declared.expr.Operand.{Operand, Operand-F, fold-Operand}
use Rattle.pv_tree.specs.declared.expr.Step.{Step, fold-Step}
use Rattle.pv_tree.specs.declared.stmt.Choice.{Choice}
use Rattle.pv_tree.specs.declared.stmt.Arg.{Arg}
use Rattle.pv_tree.specs.declared.stmt.CallTree.{CallTree}
use Rattle.pv_tree.specs.declared.stmt.Stmt.{Stmt, fold-Stmt}
use Rattle.pv_tree.specs.declared.stmt.Stmt.TheOpen.{Stmt-F}
use Rattle.pv_tree.specs.declared.instr.Instr.{Instr}
use Rattle.pv_tree.specs.declared.instr.Behind.{Behind}
use Rattle.pv_tree.specs.declared.instr.Behind.TheVariants as behind
use Rattle.pv_tree.specs.declared.block.Body.{Body}
use Rattle.pv_tree.specs.declared.block.Body.TheVariants as body
use Rattle.pv_tree.specs.declared.block.Block.{Block}
use Rattle.pv_tree.specs.Tree.{ExprTree, lit, read, unary, binary, std, paren, ExprTrees, no_exprs, exprs, OperandTree, operand, StepTree, field, index, StepTrees, no_steps, steps, ArgTree, CallPlain, Choices, StmtTree, assign, assign_call, if_, case_, for_, while_, repeat_, exit_, continue_, return_, call_, empty_, StmtTrees, no_stmts, stmts, ArmTrees, no_arms, arms, BranchTrees, no_branches, branches, ElseTree, no_else, else_, InstrTree, StartTree, BodyTree, scl, stl, starts, BlockTree}

-- ---- lists as parts of trees, and back

abbrev pub exprs_of : List ExprTree → ExprTrees
exprs_of [] = no_exprs
exprs_of (e ∷ es) = exprs e (exprs_of es)

abbrev pub list_of_exprs : ExprTrees → List ExprTree
list_of_exprs no_exprs = []
list_of_exprs (exprs e es) = e ∷ list_of_exprs es

abbrev pub steps_of : List StepTree → StepTrees
steps_of [] = no_steps
steps_of (s ∷ ss) = steps s (steps_of ss)

abbrev pub list_of_steps : StepTrees → List StepTree
list_of_steps no_steps = []
list_of_steps (steps s ss) = s ∷ list_of_steps ss

abbrev pub stmts_of : List StmtTree → StmtTrees
stmts_of [] = no_stmts
stmts_of (s ∷ ss) = stmts s (stmts_of ss)

abbrev pub list_of_stmts : StmtTrees → List StmtTree
list_of_stmts no_stmts = []
list_of_stmts (stmts s ss) = s ∷ list_of_stmts ss

abbrev pub arms_of : List (ExprTree × StmtTrees) → ArmTrees
arms_of [] = no_arms
arms_of (a ∷ as_) = arms a.0 a.1 (arms_of as_)

abbrev pub branches_of : List (Choices × StmtTrees) → BranchTrees
branches_of [] = no_branches
branches_of (b ∷ bs) = branches b.0 b.1 (branches_of bs)

abbrev pub else_of : Option StmtTrees → ElseTree
else_of None = no_else
else_of (Some list) = else_ list

-- ---- expressions: one level of each, with what lies below it seen already

abbrev pub expr_step : Expr-F ExprTree StepTree OperandTree → ExprTree
expr_step (Expr-F.Lit ty value place) = lit ty value place
expr_step (Expr-F.Read o) = read o
expr_step (Expr-F.Unary op place arg) = unary op place arg.value
expr_step (Expr-F.Binary op place left right) = binary op place left.value right.value
expr_step (Expr-F.Std function place args) = std function place (exprs_of args.items)
expr_step (Expr-F.Paren place inner) = paren place inner.value

abbrev pub operand_step : Operand-F ExprTree StepTree OperandTree → OperandTree
operand_step o = operand o.root.value (steps_of o.steps.items) o.place

abbrev pub step_step : Step-F ExprTree StepTree OperandTree → StepTree
step_step (Step-F.Field name place) = field name place
step_step (Step-F.Index at place) = index at.value place

abbrev pub expr_tree : Expr → ExprTree
expr_tree = fold-Expr ExprTree StepTree OperandTree expr_step step_step operand_step

abbrev pub operand_tree : Operand → OperandTree
operand_tree = fold-Operand ExprTree StepTree OperandTree expr_step step_step operand_step

abbrev pub step_tree : Step → StepTree
step_tree = fold-Step ExprTree StepTree OperandTree expr_step step_step operand_step

-- ---- calls and statements

abbrev pub arg_tree : Arg → ArgTree
arg_tree arg = record { name = arg.name; value = expr_tree arg.value; place = arg.place }

abbrev pub call_tree : CallTree → CallPlain
call_tree call = record {
  name = call.name;
  name_place = call.name_place;
  hash = call.hash;
  base = call.base;
  args = map arg_tree call.args.items;
  place = call.place;
}

-- the values of a branch
abbrev pub choices_of : List (Choice × Option Choice) → Choices
choices_of list = list

abbrev pub stmt_step : Stmt-F StmtTree → StmtTree
stmt_step (Stmt-F.Assign target place value) = assign (operand_tree target) place (expr_tree value.value)
stmt_step (Stmt-F.AssignCall target place call) = assign_call (operand_tree target) place
    (call_tree call.value)
stmt_step (Stmt-F.If all other place) =
    if_ (arms_of (map (λ a. (expr_tree a.0, stmts_of a.1.items)) all.items))
    (else_of (option_map (λ o. stmts_of o.value.items) other)) place
stmt_step (Stmt-F.Case selector all other place) =
    case_ (expr_tree selector.value) (branches_of (map (λ b. (b.0.items, stmts_of b.1.items)) all.items))
    (else_of (option_map (λ o. stmts_of o.value.items) other)) place
stmt_step (Stmt-F.For head body place) =
    for_ head.value.var head.value.var_place (expr_tree head.value.first) (expr_tree head.value.last) head.value.by
    (stmts_of body.items) place
stmt_step (Stmt-F.While cond body place) = while_ (expr_tree cond.value) (stmts_of body.items) place
stmt_step (Stmt-F.Repeat body cond place) = repeat_ (stmts_of body.items) (expr_tree cond.value) place
stmt_step (Stmt-F.Exit place) = exit_ place
stmt_step (Stmt-F.Continue place) = continue_ place
stmt_step (Stmt-F.Return place) = return_ place
stmt_step (Stmt-F.Call call) = call_ (call_tree call.value)
stmt_step (Stmt-F.Empty place) = empty_ place

abbrev pub stmt_tree : Stmt → StmtTree
stmt_tree = fold-Stmt StmtTree stmt_step

abbrev pub stmt_trees : List Stmt → StmtTrees
stmt_trees list = stmts_of (map stmt_tree list)

-- ---- instructions and blocks

abbrev pub operand_behind : Behind → Option OperandTree
operand_behind behind.Nothing = None
operand_behind (behind.Operand o) = Some (operand_tree o.value)
operand_behind (behind.Literal l) = None
operand_behind (behind.Call c) = None

abbrev pub literal_behind : Behind → Option Literal
literal_behind behind.Nothing = None
literal_behind (behind.Operand o) = None
literal_behind (behind.Literal l) = Some l.value
literal_behind (behind.Call c) = None

abbrev pub call_behind : Behind → Option CallPlain
call_behind behind.Nothing = None
call_behind (behind.Operand o) = None
call_behind (behind.Literal l) = None
call_behind (behind.Call c) = Some (call_tree c.value)

abbrev pub instr_tree : Instr → InstrTree
instr_tree instr = record {
  label = option_map (λ l. l.value) instr.label;
  op = instr.op;
  operand = operand_behind instr.behind;
  literal = literal_behind instr.behind;
  call = call_behind instr.behind;
  place = instr.place;
}

abbrev pub start_tree : Operand × Literal → StartTree
start_tree start = (operand_tree start.0, start.1)

abbrev pub body_tree : Body → BodyTree
body_tree (body.Scl list) = scl (stmt_trees list.items)
body_tree (body.Stl list) = stl (map instr_tree list.items)
body_tree (body.Starts list) = starts (map start_tree list.items)

abbrev pub block_tree : Block → BlockTree
block_tree block = record {
  kind = block.kind;
  name = block.name;
  vars = var_trees block.interface.vars.items;
  value = block.interface.value;
  body = body_tree block.body;
  place = block.place;
}

abbrev pub block_trees : List Block → List BlockTree
block_trees = map block_tree
