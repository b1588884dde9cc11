-- What parts of statements and calls lie on top of the stack, and what is under them.
use Rattle.std.specs.Prelude.{List, Option, Some, None, option_and_then}
use Rattle.pv_types.specs.declared.declaration.Literal.{Literal}
use Rattle.pv_tree.specs.declared.stmt.Choice.{Choice}
use Rattle.pv_tree.specs.Tree.{ArgTree, CallPlain, Choices, StmtTree, StmtTrees}
use Rattle.pv_parse.specs.CodeItems.{ValueTree, ArmTree, BranchTree, CodeTree, arguments, called, value, statement, statements, conditions, otherwise, stepping, choice, choices, cases}
use Rattle.pv_parse.specs.Items.{Stack, code_on}

-- what is taken of a part that lies on top
abbrev pub part_on : {A : Type 0} → (CodeTree → Option A) → Stack → Option (A × Stack)
part_on part s = option_and_then (λ x. option_and_then (λ found. Some (found, x.1)) (part x.0)) (code_on s)

abbrev pub args_in : CodeTree → Option (List ArgTree)
args_in (arguments x) = Some x
args_in _ = None

abbrev pub args_on : Stack → Option ((List ArgTree) × Stack)
args_on s = part_on args_in s

abbrev pub call_in : CodeTree → Option CallPlain
call_in (called x) = Some x
call_in _ = None

abbrev pub call_on : Stack → Option (CallPlain × Stack)
call_on s = part_on call_in s

abbrev pub value_in : CodeTree → Option ValueTree
value_in (value x) = Some x
value_in _ = None

abbrev pub value_on : Stack → Option (ValueTree × Stack)
value_on s = part_on value_in s

abbrev pub stmt_in : CodeTree → Option StmtTree
stmt_in (statement x) = Some x
stmt_in _ = None

abbrev pub stmt_on : Stack → Option (StmtTree × Stack)
stmt_on s = part_on stmt_in s

abbrev pub stmts_in : CodeTree → Option (List StmtTree)
stmts_in (statements x) = Some x
stmts_in _ = None

abbrev pub stmts_on : Stack → Option ((List StmtTree) × Stack)
stmts_on s = part_on stmts_in s

abbrev pub arms_in : CodeTree → Option (List ArmTree)
arms_in (conditions x) = Some x
arms_in _ = None

abbrev pub arms_on : Stack → Option ((List ArmTree) × Stack)
arms_on s = part_on arms_in s

abbrev pub else_in : CodeTree → Option (Option StmtTrees)
else_in (otherwise x) = Some x
else_in _ = None

abbrev pub else_on : Stack → Option ((Option StmtTrees) × Stack)
else_on s = part_on else_in s

abbrev pub by_in : CodeTree → Option (Option Literal)
by_in (stepping x) = Some x
by_in _ = None

abbrev pub by_on : Stack → Option ((Option Literal) × Stack)
by_on s = part_on by_in s

abbrev pub choice_in : CodeTree → Option Choice
choice_in (choice x) = Some x
choice_in _ = None

abbrev pub choice_on : Stack → Option (Choice × Stack)
choice_on s = part_on choice_in s

abbrev pub choices_in : CodeTree → Option Choices
choices_in (choices x) = Some x
choices_in _ = None

abbrev pub choices_on : Stack → Option (Choices × Stack)
choices_on s = part_on choices_in s

abbrev pub branches_in : CodeTree → Option (List BranchTree)
branches_in (cases x) = Some x
branches_in _ = None

abbrev pub branches_on : Stack → Option ((List BranchTree) × Stack)
branches_on s = part_on branches_in s
