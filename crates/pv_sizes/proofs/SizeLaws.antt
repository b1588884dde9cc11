-- Sizes are at least 1; which blocks the limit asks about.
use Rattle.std.proofs.Common.{◌≤◌, ◌+◌, List, [], ◌∷◌, Option, Some, None, arith}
use Rattle.pv_tree.specs.declared.instr.Op.{Op}
use Rattle.pv_tree.specs.declared.instr.Op.TheVariants as op
use Rattle.pv_tree.specs.Tree.{StmtTree, assign, assign_call, if_, case_, for_, while_, repeat_, exit_, continue_, return_, call_, empty_, StmtTrees, no_stmts, stmts, no_arms, arms, InstrTree, CallPlain, BlockTree}
use Rattle.pv_tree.specs.Lexemes.{Lexeme}
use Rattle.pv_tree.specs.Statements.{SpellsStmt, SpellsStmts}
use Rattle.pv_tree.specs.Scopes.{ProjectTree, Scope}
use Rattle.pv_tree.specs.Callees.{as_statement, CallSite, callee_of, block_of_callee}
use Rattle.pv_tree.specs.Parts.{site, how_of}
use Rattle.pv_tree.specs.Rules.Chains.{Calls, here, by}
use Rattle.pv_sizes.specs.InstructionChecks.{checks_of_instr, ways_of}
use Rattle.pv_sizes.specs.Sizes.{size_of_run, size_of_call, size_of_instr, size_of_instrs, size_of_list, size_of_stmt}
use Rattle.pv_sizes.specs.Limits.{IsAsked}

run_one : (scope : Scope) (s : CallSite) (o : Option BlockTree) → 1 ≤ size_of_run scope s o
run_one scope s None = omega arith
run_one scope s (Some callee) = omega arith

pub call_one : (scope : Scope) (s : CallSite) → 1 ≤ size_of_call scope s
call_one scope s = run_one scope s (block_of_callee (callee_of scope s))

pub stmt_one : (scope : Scope) (s : StmtTree) (tokens : List Lexeme) → SpellsStmt s tokens → 1 ≤ size_of_stmt scope s
stmt_one scope (assign target place value) tokens h = omega arith
stmt_one scope (assign_call target place call) tokens h = omega arith
stmt_one scope (if_ no_arms other place) tokens h = absurd h.in_front
stmt_one scope (if_ (arms condition body more) other place) tokens h = omega arith
stmt_one scope (case_ selector choices other place) tokens h = omega arith
stmt_one scope (for_ name name_place first last step body place) tokens h = omega arith
stmt_one scope (while_ condition body place) tokens h = omega arith
stmt_one scope (repeat_ body condition place) tokens h = omega arith
stmt_one scope (exit_ place) tokens h = omega arith
stmt_one scope (continue_ place) tokens h = omega arith
stmt_one scope (return_ place) tokens h = omega arith
stmt_one scope (call_ call) tokens h = call_one scope (site as_statement call)
stmt_one scope (empty_ place) tokens h = omega arith

pub list_one : (scope : Scope) (list : StmtTrees) (tokens : List Lexeme) → SpellsStmts list tokens → 1 ≤ size_of_list scope list
list_one scope no_stmts tokens h = omega arith
list_one scope (stmts s more) tokens h = let one = stmt_one scope s h.front h.in_front in omega (arith, one)

ways_one : (o : Op) → 1 ≤ ways_of o
ways_one op.Jc = omega arith
ways_one op.Jcb = omega arith
ways_one op.Jcn = omega arith
ways_one op.Jnb = omega arith
ways_one op.Jz = omega arith
ways_one op.Jn = omega arith
ways_one op.Jp = omega arith
ways_one op.Jm = omega arith
ways_one op.Jpz = omega arith
ways_one op.Jmz = omega arith
ways_one op.Jo = omega arith
ways_one op.Loop = omega arith
ways_one op.Bec = omega arith
ways_one other = omega arith

instr_by : (scope : Scope) (i : InstrTree) (o : Option CallPlain)
    → 1 ≤ elim o [ None ↦ checks_of_instr scope i + ways_of i.op | Some call ↦ size_of_call scope (site (how_of i.op) call) ]
instr_by scope i None = let one = ways_one i.op in omega (arith, one)
instr_by scope i (Some call) = call_one scope (site (how_of i.op) call)

pub instr_one : (scope : Scope) (i : InstrTree) → 1 ≤ size_of_instr scope i
instr_one scope i = instr_by scope i i.call

pub instrs_one : (scope : Scope) (list : List InstrTree) → 1 ≤ size_of_instrs scope list
instrs_one scope [] = omega arith
instrs_one scope (i ∷ more) = let one = instr_one scope i in omega (arith, one)

pub asked_on : (project : ProjectTree) (entry caller callee : BlockTree) → IsAsked project entry caller → Calls project caller callee
    → IsAsked project entry callee
asked_on project entry caller callee here calls = by calls here
asked_on project entry caller callee (by first rest) calls = by first (asked_on project _ caller callee rest calls)
