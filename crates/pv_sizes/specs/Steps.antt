-- What the code adds up, step by step: the arms of an IF and the branches of a CASE, and the checks of an instruction by where
-- they come from.
use Rattle.std.specs.Prelude.{ℕ, ◌+◌, List, [], ◌∷◌, Vec, Box, map, Option, Some, None, option_map}
use Rattle.std.specs.declared.alloc.Global.{Global}
use Rattle.pv_types.specs.declared.declaration.Literal.{Literal}
use Rattle.pv_tree.specs.declared.expr.Expr.{Expr}
use Rattle.pv_tree.specs.declared.stmt.Choice.{Choice}
use Rattle.pv_tree.specs.declared.stmt.Stmt.{Stmt}
use Rattle.pv_tree.specs.Tree.{ArmTrees, BranchTrees, ElseTree, InstrTree}
use Rattle.pv_tree.specs.View.{expr_tree, stmt_tree, stmts_of, arms_of, branches_of, else_of}
use Rattle.pv_tree.specs.Scopes.{Scope}
use Rattle.pv_mean.specs.InstructionReads.{Read, rlo, rlo_if_checked, outer_rlo, accu1, accu2, cc1, cc0, ov, found, value, reads}
use Rattle.pv_sizes.specs.Checks.{one_if}
use Rattle.pv_sizes.specs.InstructionChecks.{checks_of_found, checks_of_value, divides_by_accu, ways_of}

-- ---- the arms of an IF, the branches of a CASE and an ELSE, as plain data

abbrev pub arm_trees : List (Expr × Vec Stmt Global) → ArmTrees
arm_trees list = arms_of (map (λ a. (expr_tree a.0, stmts_of (map stmt_tree a.1.items))) list)

abbrev pub branch_trees : List (Vec (Choice × Option Choice) Global × Vec Stmt Global) → BranchTrees
branch_trees list = branches_of (map (λ b. (b.0.items, stmts_of (map stmt_tree b.1.items))) list)

abbrev pub other_tree : Option (Box (Vec Stmt Global) Global) → ElseTree
other_tree other = else_of (option_map (λ o. stmts_of (map stmt_tree o.value.items)) other)

-- ---- an instruction's checks: those of its operand, and those of what else it reads

abbrev pub apart : Read → ℕ
apart found = 0
apart value = 0
apart rlo = 1
apart rlo_if_checked = 1
apart outer_rlo = 1
apart accu1 = 1
apart accu2 = 1
apart cc1 = 1
apart cc0 = 1
apart ov = 1

abbrev pub sum_apart : List Read → ℕ
sum_apart [] = 0
sum_apart (r ∷ more) = apart r + sum_apart more

abbrev pub behind : Scope → InstrTree → Read → ℕ
behind scope i found = checks_of_found scope i
behind scope i value = checks_of_value scope i
behind scope i rlo = 0
behind scope i rlo_if_checked = 0
behind scope i outer_rlo = 0
behind scope i accu1 = 0
behind scope i accu2 = 0
behind scope i cc1 = 0
behind scope i cc0 = 0
behind scope i ov = 0

abbrev pub sum_behind : Scope → InstrTree → List Read → ℕ
sum_behind scope i [] = 0
sum_behind scope i (r ∷ more) = behind scope i r + sum_behind scope i more

-- with the check of its divisor and its ways
abbrev pub size_apart : InstrTree → ℕ
size_apart i = sum_apart (reads i i.op) + one_if (divides_by_accu i.op) + ways_of i.op

abbrev pub checks_behind : Scope → InstrTree → ℕ
checks_behind scope i = sum_behind scope i (reads i i.op)

-- AW and the like read ACCU2 unless they have a literal; L reads its operand unless it has one
abbrev pub joined_edges : Option Literal → ℕ
joined_edges None = 3
joined_edges (Some l) = 2

abbrev pub checks_of_load : Scope → InstrTree → ℕ
checks_of_load scope i = elim i.literal [ None ↦ checks_of_value scope i | Some l ↦ 0 ]
