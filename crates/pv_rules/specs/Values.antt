-- Where the value of a function that has none is read, and where what is called can't be.
use Rattle.std.specs.Prelude.{List, [], flat_map, Bool as Truth, true, false, Option, Some, None}
use Rattle.pv_place.specs.declared.place.Place.{Place}
use Rattle.pv_tree.specs.Tree.{OperandTree, BodyTree, scl, stl, starts, BlockTree}
use Rattle.pv_tree.specs.Scopes.{ProjectTree, Scope}
use Rattle.pv_tree.specs.Callees.{Callee, runs, not_declared, not_callable, unknown, CallSite, callee_of}
use Rattle.pv_tree.specs.Parts.{calls_of_stmt, calls_of_instruction}
use Rattle.pv_tree.specs.Rules.Callable.{ReadsVoid}
use Rattle.pv_rules_expr.specs.Members.{HasSome}
use Rattle.pv_rules_expr.specs.NearestIn.{nearest_in}
use Rattle.pv_rules_expr.specs.Operands.{void_at}
use Rattle.pv_rules.specs.Statements.{all_of}
use Rattle.pv_rules.specs.Outputs.{is_written}
use Rattle.pv_rules.specs.Reads.{reads_of_stmt, reads_of_instruction, reads_of_starts}

-- a place, unless the test passes
abbrev pub unless : Truth → Option Place → Option Place
unless true place = None
unless false place = place

-- the name of a function without a value that an operand is, unless a call writes the operand
abbrev pub value_at : Scope → List CallSite → OperandTree → Option Place
value_at scope calls o = unless (is_written scope calls o) (void_at scope o)

-- a name that can't be called
abbrev pub refused_at : Callee → Option Place
refused_at (runs b) = None
refused_at (not_declared place) = None
refused_at (not_callable place) = Some place
refused_at unknown = None

abbrev pub call_at : Scope → CallSite → Option Place
call_at scope s = refused_at (callee_of scope s)

-- in calls, and in operands that are read, in this order
abbrev pub calls_in : Scope → List CallSite → Option Place → Option Place
calls_in scope = nearest_in (call_at scope)

abbrev pub values_in : Scope → List CallSite → List OperandTree → Option Place → Option Place
values_in scope calls = nearest_in (value_at scope calls)

-- in both
abbrev pub both_in : Scope → List CallSite → List OperandTree → Option Place → Option Place
both_in scope calls reads nearest = values_in scope calls reads (calls_in scope calls nearest)

-- the operands that the statements of a body read
abbrev pub reads_of_statements : BodyTree → List OperandTree
reads_of_statements (scl list) = flat_map reads_of_stmt (all_of list)
reads_of_statements (stl list) = []
reads_of_statements (starts list) = []

-- none of the operands is the name of a function without a value
abbrev pub AreNoVoids : Scope → List OperandTree → Type 0
AreNoVoids scope reads = (at : Place) → HasSome (ReadsVoid scope at) reads → ⊥

-- in a body
abbrev pub body_place : Scope → BodyTree → Option Place → Option Place
body_place scope (scl list) nearest =
    both_in scope (flat_map calls_of_stmt (all_of list)) (flat_map reads_of_stmt (all_of list)) nearest
body_place scope (stl list) nearest =
    both_in scope (flat_map calls_of_instruction list) (flat_map reads_of_instruction list) nearest
body_place scope (starts list) nearest = values_in scope [] (reads_of_starts list) nearest

-- in the blocks of a project
abbrev pub block_place : ProjectTree → BlockTree → Option Place
block_place project b = body_place (record { project = project; block = b }) b.body None

abbrev pub project_place : ProjectTree → Option Place
project_place project = nearest_in (block_place project) project.blocks None
