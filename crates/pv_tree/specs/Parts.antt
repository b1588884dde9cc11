-- The parts of a block that the rules speak of: statements with the loops around them, expressions with what is wanted of them,
-- operands with what they begin with, and calls.
use Rattle.std.specs.Prelude.{List, [], ◌∷◌, ◌++◌, map, flat_map, false, is_some, if◌then◌else◌, Option, Some, None, option_to_list}
use Rattle.pv_place.specs.declared.place.Place.{Place}
use Rattle.pv_types.specs.declared.name.Name.{Name}
use Rattle.pv_types.specs.Tree.{plain}
use Rattle.pv_tree.specs.declared.expr.Root.{Root}
use Rattle.pv_tree.specs.declared.expr.Root.TheVariants.{Local, Named, Area}
use Rattle.pv_tree.specs.declared.instr.Op.{Op}
use Rattle.pv_tree.specs.declared.instr.Op.TheVariants.{Uc}
use Rattle.pv_tree.specs.Tree.{ExprTree, lit, read, unary, binary, std, paren, ExprTrees, no_exprs, exprs, OperandTree, operand, StepTree, field, index, StepTrees, no_steps, steps, CallPlain, StmtTree, assign, assign_call, if_, case_, for_, while_, repeat_, exit_, continue_, return_, call_, empty_, StmtTrees, no_stmts, stmts, ArmTrees, no_arms, arms, BranchTrees, no_branches, branches, ElseTree, no_else, else_, InstrTree, StartTree, BodyTree, scl, stl, starts, BlockTree}
use Rattle.pv_tree.specs.LiteralTypes.{Want, nothing, this, unsure, is_whole_number}
use Rattle.pv_tree.specs.Sorts.{Sort, untyped, typed, one, whole, broken, wanted_beside, wants_of}
use Rattle.pv_tree.specs.Scopes.{ProjectTree, Scope}
use Rattle.pv_tree.specs.Things.{Thing, part, untold, thing_of_root, root_place, thing_of_word, thing_behind, thing_at, last_behind, dated, field_of_kind}
use Rattle.pv_tree.specs.Types.{signed, literal_of, sort_of, sorts_of, sort_of_operand}
use Rattle.pv_tree.specs.InstructionGroups.{operand_of_instruction, written_operand}
use Rattle.pv_tree.specs.Callees.{How, as_statement, as_value, by_call, by_uc, CallSite, want_of_arg}

-- ---- statements

-- a loop around a statement: FOR with its variable, or another
pub data Loop : Type 0 where
  a_for : Name → Loop
  another : Loop

-- a statement and the loops around it, the innermost first
pub record Spot : Type 0 where
  pub loops : List Loop
  pub stmt : StmtTree

-- a statement with those that stand in it
abbrev mutual
  pub spots_of : List Loop → StmtTree → List Spot
  spots_of loops (assign target place value) =
      record { loops = loops; stmt = assign target place value } ∷ []
  spots_of loops (assign_call target place call) =
      record { loops = loops; stmt = assign_call target place call } ∷ []
  spots_of loops (if_ conditions other place) =
      record { loops = loops; stmt = if_ conditions other place } ∷ spots_of_arms loops conditions
      ++ spots_of_else loops other
  spots_of loops (case_ selector choices other place) =
      record { loops = loops; stmt = case_ selector choices other place }
      ∷ spots_of_branches loops choices ++ spots_of_else loops other
  spots_of loops (for_ name name_place first last by body place) =
      record { loops = loops; stmt = for_ name name_place first last by body place }
      ∷ spots_of_stmts (a_for name ∷ loops) body
  spots_of loops (while_ condition body place) =
      record { loops = loops; stmt = while_ condition body place } ∷ spots_of_stmts (another
      ∷ loops) body
  spots_of loops (repeat_ body condition place) =
      record { loops = loops; stmt = repeat_ body condition place } ∷ spots_of_stmts (another
      ∷ loops) body
  spots_of loops (exit_ place) = record { loops = loops; stmt = exit_ place } ∷ []
  spots_of loops (continue_ place) = record { loops = loops; stmt = continue_ place } ∷ []
  spots_of loops (return_ place) = record { loops = loops; stmt = return_ place } ∷ []
  spots_of loops (call_ call) = record { loops = loops; stmt = call_ call } ∷ []
  spots_of loops (empty_ place) = record { loops = loops; stmt = empty_ place } ∷ []

  pub spots_of_stmts : List Loop → StmtTrees → List Spot
  spots_of_stmts loops no_stmts = []
  spots_of_stmts loops (stmts s more) = spots_of loops s ++ spots_of_stmts loops more

  pub spots_of_arms : List Loop → ArmTrees → List Spot
  spots_of_arms loops no_arms = []
  spots_of_arms loops (arms condition body more) =
      spots_of_stmts loops body ++ spots_of_arms loops more

  pub spots_of_branches : List Loop → BranchTrees → List Spot
  spots_of_branches loops no_branches = []
  spots_of_branches loops (branches values body more) =
      spots_of_stmts loops body ++ spots_of_branches loops more

  pub spots_of_else : List Loop → ElseTree → List Spot
  spots_of_else loops no_else = []
  spots_of_else loops (else_ body) = spots_of_stmts loops body

-- all statements of a body, and all instructions
abbrev pub spots_of_body : BodyTree → List Spot
spots_of_body (scl statements) = spots_of_stmts [] statements
spots_of_body (stl instructions) = []
spots_of_body (starts values) = []

abbrev pub instructions_of : BodyTree → List InstrTree
instructions_of (scl statements) = []
instructions_of (stl instructions) = instructions
instructions_of (starts values) = []

abbrev pub starts_of : BodyTree → List StartTree
starts_of (scl statements) = []
starts_of (stl instructions) = []
starts_of (starts values) = values

-- ---- expressions

-- an expression and what is wanted of it
pub record Part : Type 0 where
  pub want : Want
  pub expr : ExprTree

-- an expression with those in it, those in indexes too; a literal has none
abbrev mutual
  pub parts_of : Scope → Want → ExprTree → List Part
  parts_of scope want (lit ty value place) = record { want = want; expr = lit ty value place } ∷ []
  parts_of scope want (read o) = record { want = want; expr = read o } ∷ parts_of_operand scope o
  parts_of scope want (unary op place arg) =
      record { want = want; expr = unary op place arg } ∷ (if is_some (signed op
      (literal_of arg)) then [] else parts_of scope nothing arg)
  parts_of scope want (binary op place left right) =
      record { want = want; expr = binary op place left right }
      ∷ parts_of scope (wanted_beside (sort_of scope left ∷ sort_of scope right ∷ [])) left
      ++ parts_of scope (wanted_beside (sort_of scope left ∷ sort_of scope right ∷ [])) right
  parts_of scope want (std function place args) =
      record { want = want; expr = std function place args } ∷ parts_of_args scope
      (wants_of function (sorts_of scope args)) args
  parts_of scope want (paren place inner) =
      record { want = want; expr = paren place inner } ∷ (if is_some (literal_of inner) then []
      else parts_of scope want inner)

  pub parts_of_args : Scope → List Want → ExprTrees → List Part
  parts_of_args scope wants no_exprs = []
  parts_of_args scope [] (exprs e more) = parts_of scope nothing e ++ parts_of_args scope [] more
  parts_of_args scope (want ∷ wants) (exprs e more) =
      parts_of scope want e ++ parts_of_args scope wants more

  pub parts_of_operand : Scope → OperandTree → List Part
  parts_of_operand scope (operand root more place) = parts_of_steps scope more

  pub parts_of_steps : Scope → StepTrees → List Part
  parts_of_steps scope no_steps = []
  parts_of_steps scope (steps step more) = parts_of_step scope step ++ parts_of_steps scope more

  pub parts_of_step : Scope → StepTree → List Part
  parts_of_step scope (field name place) = []
  parts_of_step scope (index e place) = parts_of scope nothing e

-- what an assignment wants of its value: the type of its target
abbrev pub want_of_sort : Sort → Want
want_of_sort (untyped v) = unsure
want_of_sort (typed ty v) = this ty
want_of_sort (one ty) = this ty
want_of_sort whole = unsure
want_of_sort broken = unsure

abbrev pub want_of_target : Scope → OperandTree → Want
want_of_target scope target = want_of_sort (sort_of_operand scope target)

-- a FOR wants its variable's type of its start and its end
abbrev pub want_of_thing : Thing → Want
want_of_thing (part (plain ty)) = if is_whole_number ty then this ty else unsure
want_of_thing thing = unsure

abbrev pub want_of_counter : Scope → Name → Place → Want
want_of_counter scope name place = want_of_thing (thing_of_word scope name.key false place)

-- the conditions of an IF
abbrev pub conditions_of : ArmTrees → List ExprTree
conditions_of no_arms = []
conditions_of (arms condition body more) = condition ∷ conditions_of more

-- the calls of a statement itself, and of an instruction
abbrev pub site : How → CallPlain → CallSite
site how call = record { how = how; call = call }

abbrev pub calls_of_stmt : StmtTree → List CallSite
calls_of_stmt (assign_call target place call) = site as_value call ∷ []
calls_of_stmt (call_ call) = site as_statement call ∷ []
calls_of_stmt (assign target place value) = []
calls_of_stmt (if_ conditions other place) = []
calls_of_stmt (case_ selector choices other place) = []
calls_of_stmt (for_ name name_place first last by body place) = []
calls_of_stmt (while_ condition body place) = []
calls_of_stmt (repeat_ body condition place) = []
calls_of_stmt (exit_ place) = []
calls_of_stmt (continue_ place) = []
calls_of_stmt (return_ place) = []
calls_of_stmt (empty_ place) = []

abbrev pub how_of : Op → How
how_of Uc = by_uc
how_of op = by_call

abbrev pub calls_of_instruction : InstrTree → List CallSite
calls_of_instruction i = map (site (how_of i.op)) (option_to_list i.call)

-- all calls of a block
abbrev pub calls_of : BlockTree → List CallSite
calls_of block =
    flat_map (λ s. calls_of_stmt s.stmt) (spots_of_body block.body) ++ flat_map calls_of_instruction
    (instructions_of block.body)

abbrev pub parts_of_call : Scope → CallSite → List Part
parts_of_call scope s = flat_map (λ a. parts_of scope (want_of_arg scope s a) a.value) s.call.args

-- the expressions of a statement itself, and of an instruction
abbrev pub parts_of_stmt : Scope → StmtTree → List Part
parts_of_stmt scope (assign target place value) =
    parts_of_operand scope target ++ parts_of scope (want_of_target scope target) value
parts_of_stmt scope (assign_call target place call) =
    parts_of_operand scope target ++ parts_of_call scope (site as_value call)
parts_of_stmt scope (if_ conditions other place) =
    flat_map (parts_of scope nothing) (conditions_of conditions)
parts_of_stmt scope (case_ selector choices other place) = parts_of scope nothing selector
parts_of_stmt scope (for_ name name_place first last by body place) =
    parts_of scope (want_of_counter scope name name_place) first ++ parts_of scope
    (want_of_counter scope name name_place) last
parts_of_stmt scope (while_ condition body place) = parts_of scope nothing condition
parts_of_stmt scope (repeat_ body condition place) = parts_of scope nothing condition
parts_of_stmt scope (exit_ place) = []
parts_of_stmt scope (continue_ place) = []
parts_of_stmt scope (return_ place) = []
parts_of_stmt scope (call_ call) = parts_of_call scope (site as_statement call)
parts_of_stmt scope (empty_ place) = []

abbrev pub parts_of_instruction : Scope → InstrTree → List Part
parts_of_instruction scope i =
    flat_map (parts_of_operand scope) (option_to_list (operand_of_instruction i)) ++ flat_map
    (parts_of_call scope) (calls_of_instruction i)

-- all expressions of a block
abbrev pub parts_of_block : ProjectTree → BlockTree → List Part
parts_of_block project block =
    flat_map (λ s. parts_of_stmt scope s.stmt) (spots_of_body block.body)
    ++ flat_map (parts_of_instruction scope) (instructions_of block.body)
    ++ flat_map (λ v. parts_of_operand scope v.0) (starts_of block.body)
  where
    scope : Scope
    scope = record { project = project; block = block }

-- ---- operands

-- steps behind what an operand begins with, whose name stands at this place
pub record Path : Type 0 where
  pub from : Thing
  pub last : Place
  pub more : StepTrees

abbrev pub path_of : Scope → OperandTree → Path
path_of scope (operand root more place) =
    record { from = thing_of_root scope root place; last = root_place root place; more = more }

-- a value of a data block is given to one of its fields
abbrev pub start_thing : Scope → Root → Thing
start_thing scope (Local name hash place) =
    field_of_kind scope scope.block.kind scope.block.vars name.key place
start_thing scope (Named name) = untold
start_thing scope (Area area bits byte bit) = untold

abbrev pub path_of_start : Scope → OperandTree → Path
path_of_start scope (operand root more place) =
    record { from = start_thing scope root; last = root_place root place; more = more }

abbrev pub thing_of_path : Scope → Path → Thing
thing_of_path scope p = thing_behind scope p.last p.from p.more

-- an index and what it stands behind
pub record IndexAt : Type 0 where
  pub within : Thing
  pub index : ExprTree

abbrev pub indexes_of_step : Thing → StepTree → List IndexAt
indexes_of_step thing (field name place) = []
indexes_of_step thing (index e place) = record { within = thing; index = e } ∷ []

abbrev pub indexes_behind : Scope → Place → Thing → StepTrees → List IndexAt
indexes_behind scope last thing no_steps = []
indexes_behind scope last thing (steps step more) =
    indexes_of_step (dated last thing) step ++ indexes_behind scope (last_behind last step)
    (thing_at scope (dated last thing) step) more

abbrev pub indexes_of : Scope → Path → List IndexAt
indexes_of scope p = indexes_behind scope p.last p.from p.more

-- the operand that an expression reads
abbrev pub operand_of : ExprTree → Option OperandTree
operand_of (read o) = Some o
operand_of (lit ty value place) = None
operand_of (unary op place arg) = None
operand_of (binary op place left right) = None
operand_of (std function place args) = None
operand_of (paren place inner) = None

-- the operands that expressions read
abbrev pub operands_read : ExprTree → List OperandTree
operands_read e = option_to_list (operand_of e)

abbrev pub reads_of_parts : List Part → List OperandTree
reads_of_parts ps = flat_map (λ p. operands_read p.expr) ps

-- the target of a statement
abbrev pub target_of : StmtTree → Option OperandTree
target_of (assign target place value) = Some target
target_of (assign_call target place call) = Some target
target_of (if_ conditions other place) = None
target_of (case_ selector choices other place) = None
target_of (for_ name name_place first last by body place) = None
target_of (while_ condition body place) = None
target_of (repeat_ body condition place) = None
target_of (exit_ place) = None
target_of (continue_ place) = None
target_of (return_ place) = None
target_of (call_ call) = None
target_of (empty_ place) = None

-- the operands that a block's statements assign, and those that its instructions write
abbrev pub assigned_operands : BlockTree → List OperandTree
assigned_operands block =
    flat_map (λ s. option_to_list (target_of s.stmt)) (spots_of_body block.body)

abbrev pub written_operands : BlockTree → List OperandTree
written_operands block = assigned_operands block ++ flat_map (λ i. option_to_list
    (written_operand i)) (instructions_of block.body)

abbrev pub instruction_operands : BlockTree → List OperandTree
instruction_operands block =
    flat_map (λ i. option_to_list (operand_of_instruction i)) (instructions_of block.body)

-- all operands of a block
abbrev pub operands_of : ProjectTree → BlockTree → List OperandTree
operands_of project block =
    reads_of_parts (parts_of_block project block) ++ assigned_operands block
    ++ instruction_operands block

-- and what all of them, and all parts of a data block that are given a value, begin with
abbrev pub paths_of : ProjectTree → BlockTree → List Path
paths_of project block = map (path_of scope) (operands_of project block) ++ map
    (λ v. path_of_start scope v.0) (starts_of block.body)
  where
    scope : Scope
    scope = record { project = project; block = block }
