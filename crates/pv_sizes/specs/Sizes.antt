-- Sizes: how many checks, edges and call edges a block has as an automaton, by its tree alone. A check is an edge that leads to a trap. t
-- stands for the number of checks of a statement's own expressions. (This project's own.)
use Rattle.std.specs.Prelude.{ℕ, ◌+◌, List, [], ◌∷◌, Option, Some, None}
use Rattle.pv_types.specs.declared.declaration.Section.{Section}
use Rattle.pv_types.specs.declared.declaration.Section.TheVariants.{Input, Output, InOut, Static, Temp, Const}
use Rattle.pv_tree.specs.Tree.{ExprTree, ArgTree, StmtTree, assign, assign_call, if_, case_, for_, while_, repeat_, exit_, continue_, return_, call_, empty_, StmtTrees, no_stmts, stmts, ArmTrees, no_arms, arms, BranchTrees, no_branches, branches, ElseTree, no_else, else_, InstrTree, BodyTree, scl, stl, starts, BlockTree}
use Rattle.pv_tree.specs.Scopes.{Scope, is_fc}
use Rattle.pv_tree.specs.Callees.{How, as_statement, as_value, CallSite, callee_of, block_of_callee, Param, param_for}
use Rattle.pv_tree.specs.Parts.{operand_of, site, how_of}
use Rattle.pv_sizes.specs.Checks.{one_if, checks_of, checks_of_target}
use Rattle.pv_sizes.specs.InstructionChecks.{checks_of_instr, ways_of}

-- ---- calls

-- an argument that takes a value is an operand; another breaks a rule
abbrev pub checks_of_taker : Scope → ExprTree → ℕ
checks_of_taker scope e = elim (operand_of e) [ None ↦ 0 | Some o ↦ checks_of_target scope o ]

-- a value that is copied in is t + 1; one that is copied out is t + 1, and one more where a function has it, which may have none; an
-- in-out is both, and has a value
abbrev pub size_of_copy : Scope → BlockTree → ExprTree → Section → ℕ
size_of_copy scope callee value Input = checks_of scope value + 1
size_of_copy scope callee value Output =
    checks_of_taker scope value + 1 + one_if (is_fc callee.kind)
size_of_copy scope callee value InOut =
    checks_of scope value + 1 + checks_of_taker scope value + 1
size_of_copy scope callee value Static = 0
size_of_copy scope callee value Temp = 0
size_of_copy scope callee value Const = 0

-- an argument that is for no parameter breaks a rule
abbrev pub size_of_param : Scope → BlockTree → ExprTree → Option Param → ℕ
size_of_param scope callee value None = 0
size_of_param scope callee value (Some p) = size_of_copy scope callee value p.section

abbrev pub size_of_arg : Scope → How → BlockTree → ArgTree → ℕ
size_of_arg scope how callee arg =
    size_of_param scope callee arg.value (param_for how callee arg)

abbrev pub size_of_args : Scope → How → BlockTree → List ArgTree → ℕ
size_of_args scope how callee [] = 0
size_of_args scope how callee (arg ∷ more) =
    size_of_arg scope how callee arg + size_of_args scope how callee more

-- the copies, and the call edge; a call that runs no block breaks a rule
abbrev pub size_of_run : Scope → CallSite → Option BlockTree → ℕ
size_of_run scope s None = 1
size_of_run scope s (Some callee) = size_of_args scope s.how callee s.call.args + 1

abbrev pub size_of_call : Scope → CallSite → ℕ
size_of_call scope s = size_of_run scope s (block_of_callee (callee_of scope s))

-- ---- statements

abbrev mutual
  -- where a function's value is assigned, the value is copied out as its outputs are; the two edges of a test; of FOR the start, the
  -- end, the test and the step
  pub size_of_stmt : Scope → StmtTree → ℕ
  size_of_stmt scope (assign target place value) = checks_of_target scope target + checks_of scope value + 1
  size_of_stmt scope (assign_call target place call) =
      size_of_call scope (site as_value call) + checks_of_target scope target + 2
  size_of_stmt scope (if_ conditions other place) = size_of_arms scope conditions + size_of_else scope other
  size_of_stmt scope (case_ selector choices other place) =
      checks_of scope selector + 1 + size_of_branches scope choices + size_of_else scope other
  size_of_stmt scope (for_ name name_place first last by body place) =
      checks_of scope first + checks_of scope last + 2 + 2 + size_of_list scope body + 1
  size_of_stmt scope (while_ condition body place) = checks_of scope condition + 2 + size_of_list scope body
  size_of_stmt scope (repeat_ body condition place) = checks_of scope condition + 2 + size_of_list scope body
  size_of_stmt scope (exit_ place) = 1
  size_of_stmt scope (continue_ place) = 1
  size_of_stmt scope (return_ place) = 1
  size_of_stmt scope (call_ call) = size_of_call scope (site as_statement call)
  size_of_stmt scope (empty_ place) = 1

  -- an empty list is one edge
  pub size_of_list : Scope → StmtTrees → ℕ
  size_of_list scope no_stmts = 1
  size_of_list scope (stmts s more) = size_of_stmt scope s + sum_of_sizes scope more

  pub sum_of_sizes : Scope → StmtTrees → ℕ
  sum_of_sizes scope no_stmts = 0
  sum_of_sizes scope (stmts s more) = size_of_stmt scope s + sum_of_sizes scope more

  pub size_of_arms : Scope → ArmTrees → ℕ
  size_of_arms scope no_arms = 0
  size_of_arms scope (arms condition body more) =
      checks_of scope condition + 2 + size_of_list scope body + size_of_arms scope more

  pub size_of_branches : Scope → BranchTrees → ℕ
  size_of_branches scope no_branches = 0
  size_of_branches scope (branches values body more) = 2 + size_of_list scope body + size_of_branches scope more

  -- an ELSE that isn't there counts nothing, an empty one 1
  pub size_of_else : Scope → ElseTree → ℕ
  size_of_else scope no_else = 0
  size_of_else scope (else_ body) = size_of_list scope body

-- ---- instructions

abbrev pub size_of_instr : Scope → InstrTree → ℕ
size_of_instr scope i = elim i.call [
  | None ↦ checks_of_instr scope i + ways_of i.op
  | Some call ↦ size_of_call scope (site (how_of i.op) call)
]

abbrev pub sum_of_instrs : Scope → List InstrTree → ℕ
sum_of_instrs scope [] = 0
sum_of_instrs scope (i ∷ more) = size_of_instr scope i + sum_of_instrs scope more

abbrev pub size_of_instrs : Scope → List InstrTree → ℕ
size_of_instrs scope [] = 1
size_of_instrs scope (i ∷ more) = size_of_instr scope i + sum_of_instrs scope more

-- ---- blocks

-- a body without statements or instructions is one edge
abbrev pub size_of_body : Scope → BodyTree → ℕ
size_of_body scope (scl statements) = size_of_list scope statements
size_of_body scope (stl instructions) = size_of_instrs scope instructions
size_of_body scope (starts values) = 1

-- the size of the block whose names the scope has
abbrev pub size_of_block : Scope → ℕ
size_of_block scope = size_of_body scope scope.block.body
