-- The parts of a block that the rules speak of keep places of the block: statements, expressions, operands, calls and declarations.
use Rattle.std.proofs.Common.{List, [], ◌∷◌, ◌++◌, map, Option, Some, None}
use Rattle.std.specs.Prelude.{flat_map, option_to_list, is_some, Bool as Truth, true, false, if◌then◌else◌}
use Rattle.std.specs.List.{AllByRecursion}
use Rattle.pv_place.specs.declared.place.Place.{Place}
use Rattle.pv_types.specs.declared.declaration.Literal.{Literal}
use Rattle.pv_types.specs.Tree.{TypeTree, plain, array, structure, named, unread, VarTree, var, VarTrees, no_vars, _then_}
use Rattle.pv_types.specs.View.{listed, fields_of}
use Rattle.pv_tree.specs.declared.block.BlockKind.{BlockKind}
use Rattle.pv_tree.specs.declared.block.BlockKind.TheVariants.{Fb, Fc, Ob, Db, Udt}
use Rattle.pv_tree.specs.declared.stmt.Choice.{Choice}
use Rattle.pv_tree.specs.declared.stmt.Choice.TheVariants.{Lit, Const}
use Rattle.pv_tree.specs.Tree.{PlacedName, ExprTree, lit, read, unary, binary, std, paren, ExprTrees, no_exprs, exprs, OperandTree, operand, StepTree, field, index, StepTrees, no_steps, steps, CallPlain, Choices, StmtTree, assign, assign_call, if_, case_, for_, while_, repeat_, exit_, continue_, return_, call_, empty_, StmtTrees, no_stmts, stmts, ArmTrees, no_arms, arms, BranchTrees, no_branches, branches, ElseTree, no_else, else_, InstrTree, BodyTree, scl, stl, starts, BlockTree}
use Rattle.pv_tree.specs.LiteralTypes.{Want, nothing}
use Rattle.pv_tree.specs.Sorts.{wanted_beside, wants_of}
use Rattle.pv_tree.specs.Scopes.{ProjectTree, Scope}
use Rattle.pv_tree.specs.Things.{first_place, place_of_operand}
use Rattle.pv_tree.specs.Types.{sort_of, sorts_of, literal_of, signed}
use Rattle.pv_tree.specs.InstructionGroups.{is_jump, is_written, group_of, operand_of_instruction, written_operand}
use Rattle.pv_tree.specs.Callees.{CallSite, as_value, as_statement, want_of_arg}
use Rattle.pv_tree.specs.Interfaces.{types_in, types_in_vars, fields_in, vars_in, all_types, all_vars, names_of_vars}
use Rattle.pv_tree.specs.Parts.{Loop, a_for, another, Spot, spots_of, spots_of_stmts, spots_of_arms, spots_of_branches, spots_of_else, spots_of_body, instructions_of, starts_of, Part, parts_of, parts_of_args, parts_of_operand, parts_of_steps, parts_of_step, want_of_target, want_of_counter, conditions_of, site, calls_of_stmt, how_of, calls_of_instruction, calls_of, parts_of_call, parts_of_stmt, parts_of_instruction, parts_of_block, operands_read, reads_of_parts, target_of, assigned_operands, written_operands, instruction_operands, operands_of}
use Rattle.pv_tree.specs.Rules.MissingNames.{values_of_choices, values_of_branches, values_of_case, name_of_choice, counter_of, words_of}
use Rattle.pv_tree.specs.Rules.MissingTypes.{names_in, names_in_vars, name_of_kind, named_types}
use Rattle.pv_laws_places.specs.Kept.{EachOfName, EachOfLiteral, EachOfExpr, EachOfExprs, EachOfOperand, EachOfSteps, EachOfStep, EachOfArg, EachOfCall, EachOfCallOption, EachOfChoice, EachOfUpper, EachOfRange, EachOfChoices, EachOfStmt, EachOfStmts, EachOfArms, EachOfBranches, EachOfElse, EachOfOperandOption, EachOfInstr, EachOfType, EachOfVars, EachOfKind, EachOfStart, EachOfBody, EachOfBlock}
use Rattle.pv_laws_places.proofs.Lists.{each-append, each-flat_map}

each-unless : {X : Type 0} (Q : X → Type 0) (b : Truth) (xs : List X) → AllByRecursion Q xs → AllByRecursion Q (if b then [] else xs)
each-unless Q true xs a = tt
each-unless Q false xs a = a

-- ---- options

pub operand-option : (P : Place → Type 0) (o : Option OperandTree) → EachOfOperandOption P o → AllByRecursion (EachOfOperand P) (option_to_list o)
operand-option P None a = tt
operand-option P (Some o) a = (a, tt)

pub name-option : (P : Place → Type 0) (o : Option PlacedName) → EachOfName P o → AllByRecursion (λ n. P n.1) (option_to_list o)
name-option P None a = tt
name-option P (Some n) a = (a, tt)

pub literal-option : (P : Place → Type 0) (o : Option Literal) → EachOfLiteral P o → AllByRecursion (λ l. P l.place) (option_to_list o)
literal-option P None a = tt
literal-option P (Some l) a = (a, tt)

call-option : (P : Place → Type 0) (o : Option CallPlain) → EachOfCallOption P o → AllByRecursion (EachOfCall P) (option_to_list o)
call-option P None a = tt
call-option P (Some call) a = (a, tt)

-- ---- first places

pub place-of : (P : Place → Type 0) (o : OperandTree) → EachOfOperand P o → P (place_of_operand o)
place-of P (operand root more place) a = a.0

pub place-of-first : (P : Place → Type 0) (e : ExprTree) → EachOfExpr P e → P (first_place e)
place-of-first P (lit ty value place) a = a
place-of-first P (read o) a = place-of P o a
place-of-first P (unary op place arg) a = a.0
place-of-first P (binary op place left right) a = place-of-first P left a.1.0
place-of-first P (std function place args) a = a.0
place-of-first P (paren place inner) a = a.0

-- ---- statements

abbrev pub SpotHas : (Place → Type 0) → Spot → Type 0
SpotHas P s = EachOfStmt P s.stmt

mutual
  each-spot : (P : Place → Type 0) (loops : List Loop) (s : StmtTree) → EachOfStmt P s → AllByRecursion (SpotHas P) (spots_of loops s)
  each-spot P loops (assign target place value) a = (a, tt)
  each-spot P loops (assign_call target place call) a = (a, tt)
  each-spot P loops (if_ conditions other place) a = (
    a,
    each-append (SpotHas P) (spots_of_arms loops conditions) (spots_of_else loops other) (arm-spots P loops conditions a.1.0)
        (else-spots P loops other a.1.1),
  )
  each-spot P loops (case_ selector choices other place) a = (
    a,
    each-append (SpotHas P) (spots_of_branches loops choices) (spots_of_else loops other) (branch-spots P loops choices a.1.1.0)
        (else-spots P loops other a.1.1.1),
  )
  each-spot P loops (for_ name name_place first last by body place) a = (a, stmt-spots P (a_for name ∷ loops) body a.1.1.1.1.1)
  each-spot P loops (while_ condition body place) a = (a, stmt-spots P (another ∷ loops) body a.1.1)
  each-spot P loops (repeat_ body condition place) a = (a, stmt-spots P (another ∷ loops) body a.1.0)
  each-spot P loops (exit_ place) a = (a, tt)
  each-spot P loops (continue_ place) a = (a, tt)
  each-spot P loops (return_ place) a = (a, tt)
  each-spot P loops (call_ call) a = (a, tt)
  each-spot P loops (empty_ place) a = (a, tt)

  stmt-spots : (P : Place → Type 0) (loops : List Loop) (list : StmtTrees) → EachOfStmts P list → AllByRecursion (SpotHas P) (spots_of_stmts loops list)
  stmt-spots P loops no_stmts a = tt
  stmt-spots P loops (stmts s more) a =
      each-append (SpotHas P) (spots_of loops s) (spots_of_stmts loops more) (each-spot P loops s a.0) (stmt-spots P loops more a.1)

  arm-spots : (P : Place → Type 0) (loops : List Loop) (list : ArmTrees) → EachOfArms P list → AllByRecursion (SpotHas P) (spots_of_arms loops list)
  arm-spots P loops no_arms a = tt
  arm-spots P loops (arms condition body more) a =
      each-append (SpotHas P) (spots_of_stmts loops body) (spots_of_arms loops more) (stmt-spots P loops body a.1.0) (arm-spots P loops more a.1.1)

  branch-spots : (P : Place → Type 0) (loops : List Loop) (list : BranchTrees) → EachOfBranches P list
      → AllByRecursion (SpotHas P) (spots_of_branches loops list)
  branch-spots P loops no_branches a = tt
  branch-spots P loops (branches values body more) a =
      each-append (SpotHas P) (spots_of_stmts loops body) (spots_of_branches loops more) (stmt-spots P loops body a.1.0)
      (branch-spots P loops more a.1.1)

  else-spots : (P : Place → Type 0) (loops : List Loop) (other : ElseTree) → EachOfElse P other → AllByRecursion (SpotHas P) (spots_of_else loops other)
  else-spots P loops no_else a = tt
  else-spots P loops (else_ body) a = stmt-spots P loops body a

pub body-spots : (P : Place → Type 0) (body : BodyTree) → EachOfBody P body → AllByRecursion (SpotHas P) (spots_of_body body)
body-spots P (scl statements) a = stmt-spots P [] statements a
body-spots P (stl instructions) a = tt
body-spots P (starts values) a = tt

pub body-instrs : (P : Place → Type 0) (body : BodyTree) → EachOfBody P body → AllByRecursion (EachOfInstr P) (instructions_of body)
body-instrs P (scl statements) a = tt
body-instrs P (stl instructions) a = a
body-instrs P (starts values) a = tt

pub body-starts : (P : Place → Type 0) (body : BodyTree) → EachOfBody P body → AllByRecursion (EachOfStart P) (starts_of body)
body-starts P (scl statements) a = tt
body-starts P (stl instructions) a = tt
body-starts P (starts values) a = a

-- ---- expressions

abbrev pub PartHas : (Place → Type 0) → Part → Type 0
PartHas P p = EachOfExpr P p.expr

mutual
  pub each-part : (P : Place → Type 0) (scope : Scope) (want : Want) (e : ExprTree) → EachOfExpr P e → AllByRecursion (PartHas P) (parts_of scope want e)
  each-part P scope want (lit ty value place) a = (a, tt)
  each-part P scope want (read o) a = (a, operand-parts P scope o a)
  each-part P scope want (unary op place arg) a =
      (a, each-unless (PartHas P) (is_some (signed op (literal_of arg))) (parts_of scope nothing arg) (each-part P scope nothing arg a.1))
  each-part P scope want (binary op place left right) a =
      let w = wanted_beside (sort_of scope left ∷ sort_of scope right ∷ []) in
      (a, each-append (PartHas P) (parts_of scope w left) (parts_of scope w right) (each-part P scope w left a.1.0) (each-part P scope w right a.1.1))
  each-part P scope want (std function place args) a = (a, arg-parts P scope (wants_of function (sorts_of scope args)) args a.1)
  each-part P scope want (paren place inner) a =
      (a, each-unless (PartHas P) (is_some (literal_of inner)) (parts_of scope want inner) (each-part P scope want inner a.1))

  arg-parts : (P : Place → Type 0) (scope : Scope) (wants : List Want) (args : ExprTrees) → EachOfExprs P args
      → AllByRecursion (PartHas P) (parts_of_args scope wants args)
  arg-parts P scope wants no_exprs a = tt
  arg-parts P scope [] (exprs e more) a =
      each-append (PartHas P) (parts_of scope nothing e) (parts_of_args scope [] more) (each-part P scope nothing e a.0) (arg-parts P scope [] more a.1)
  arg-parts P scope (want ∷ wants) (exprs e more) a =
      each-append (PartHas P) (parts_of scope want e) (parts_of_args scope wants more) (each-part P scope want e a.0) (arg-parts P scope wants more a.1)

  pub operand-parts : (P : Place → Type 0) (scope : Scope) (o : OperandTree) → EachOfOperand P o → AllByRecursion (PartHas P) (parts_of_operand scope o)
  operand-parts P scope (operand root more place) a = steps-parts P scope more a.1.1

  steps-parts : (P : Place → Type 0) (scope : Scope) (more : StepTrees) → EachOfSteps P more → AllByRecursion (PartHas P) (parts_of_steps scope more)
  steps-parts P scope no_steps a = tt
  steps-parts P scope (steps step more) a =
      each-append (PartHas P) (parts_of_step scope step) (parts_of_steps scope more) (step-parts P scope step a.0) (steps-parts P scope more a.1)

  step-parts : (P : Place → Type 0) (scope : Scope) (step : StepTree) → EachOfStep P step → AllByRecursion (PartHas P) (parts_of_step scope step)
  step-parts P scope (field name place) a = tt
  step-parts P scope (index e place) a = each-part P scope nothing e a.1

-- ---- calls

abbrev pub SiteHas : (Place → Type 0) → CallSite → Type 0
SiteHas P s = EachOfCall P s.call

pub stmt-calls : (P : Place → Type 0) (s : StmtTree) → EachOfStmt P s → AllByRecursion (SiteHas P) (calls_of_stmt s)
stmt-calls P (assign_call target place call) a = (a.1.1, tt)
stmt-calls P (call_ call) a = (a, tt)
stmt-calls P (assign target place value) a = tt
stmt-calls P (if_ conditions other place) a = tt
stmt-calls P (case_ selector choices other place) a = tt
stmt-calls P (for_ name name_place first last by body place) a = tt
stmt-calls P (while_ condition body place) a = tt
stmt-calls P (repeat_ body condition place) a = tt
stmt-calls P (exit_ place) a = tt
stmt-calls P (continue_ place) a = tt
stmt-calls P (return_ place) a = tt
stmt-calls P (empty_ place) a = tt

pub instr-calls : (P : Place → Type 0) (i : InstrTree) → EachOfInstr P i → AllByRecursion (SiteHas P) (calls_of_instruction i)
instr-calls P i a = lead i.call a.its_call
  where
    lead : (o : Option CallPlain) → EachOfCallOption P o → AllByRecursion (SiteHas P) (map (site (how_of i.op)) (option_to_list o))
    lead None b = tt
    lead (Some call) b = (b, tt)

pub block-calls : (P : Place → Type 0) (block : BlockTree) → EachOfBlock P block → AllByRecursion (SiteHas P) (calls_of block)
block-calls P block a =
    each-append (SiteHas P) (flat_map (λ s. calls_of_stmt s.stmt) (spots_of_body block.body)) (flat_map calls_of_instruction
    (instructions_of block.body))
    (each-flat_map (SpotHas P) (SiteHas P) (λ s. calls_of_stmt s.stmt) (λ s b. stmt-calls P s.stmt b) (spots_of_body block.body)
    (body-spots P block.body a.its_body))
    (each-flat_map (EachOfInstr P) (SiteHas P) calls_of_instruction (instr-calls P) (instructions_of block.body)
    (body-instrs P block.body a.its_body))

call-parts : (P : Place → Type 0) (scope : Scope) (s : CallSite) → SiteHas P s → AllByRecursion (PartHas P) (parts_of_call scope s)
call-parts P scope s a =
    each-flat_map (EachOfArg P) (PartHas P) (λ x. parts_of scope (want_of_arg scope s x) x.value)
    (λ x b. each-part P scope (want_of_arg scope s x) x.value b.its_value) s.call.args a.its_args

-- ---- expressions of statements and blocks

pub arm-conditions : (P : Place → Type 0) (list : ArmTrees) → EachOfArms P list → AllByRecursion (EachOfExpr P) (conditions_of list)
arm-conditions P no_arms a = tt
arm-conditions P (arms condition body more) a = (a.0, arm-conditions P more a.1.1)

stmt-parts : (P : Place → Type 0) (scope : Scope) (s : StmtTree) → EachOfStmt P s → AllByRecursion (PartHas P) (parts_of_stmt scope s)
stmt-parts P scope (assign target place value) a =
    each-append (PartHas P) (parts_of_operand scope target) (parts_of scope (want_of_target scope target) value)
    (operand-parts P scope target a.1.0) (each-part P scope (want_of_target scope target) value a.1.1)
stmt-parts P scope (assign_call target place call) a =
    each-append (PartHas P) (parts_of_operand scope target) (parts_of_call scope (site as_value call)) (operand-parts P scope target a.1.0)
    (call-parts P scope (site as_value call) a.1.1)
stmt-parts P scope (if_ conditions other place) a =
    each-flat_map (EachOfExpr P) (PartHas P) (parts_of scope nothing) (each-part P scope nothing) (conditions_of conditions)
    (arm-conditions P conditions a.1.0)
stmt-parts P scope (case_ selector choices other place) a = each-part P scope nothing selector a.1.0
stmt-parts P scope (for_ name name_place first last by body place) a =
    let w = want_of_counter scope name name_place in
    each-append (PartHas P) (parts_of scope w first) (parts_of scope w last) (each-part P scope w first a.1.1.0) (each-part P scope w last a.1.1.1.0)
stmt-parts P scope (while_ condition body place) a = each-part P scope nothing condition a.1.0
stmt-parts P scope (repeat_ body condition place) a = each-part P scope nothing condition a.1.1
stmt-parts P scope (exit_ place) a = tt
stmt-parts P scope (continue_ place) a = tt
stmt-parts P scope (return_ place) a = tt
stmt-parts P scope (call_ call) a = call-parts P scope (site as_statement call) a
stmt-parts P scope (empty_ place) a = tt

pub instr-operand : (P : Place → Type 0) (i : InstrTree) → EachOfInstr P i → EachOfOperandOption P (operand_of_instruction i)
instr-operand P i a = lead (is_jump (group_of i.op))
  where
    lead : (b : Truth) → EachOfOperandOption P (if b then None else i.operand)
    lead true = tt
    lead false = a.its_operand

instr-written : (P : Place → Type 0) (i : InstrTree) → EachOfInstr P i → EachOfOperandOption P (written_operand i)
instr-written P i a = lead (is_written (group_of i.op))
  where
    lead : (b : Truth) → EachOfOperandOption P (if b then i.operand else None)
    lead true = a.its_operand
    lead false = tt

instr-parts : (P : Place → Type 0) (scope : Scope) (i : InstrTree) → EachOfInstr P i → AllByRecursion (PartHas P) (parts_of_instruction scope i)
instr-parts P scope i a =
    each-append (PartHas P) (flat_map (parts_of_operand scope) (option_to_list (operand_of_instruction i))) (flat_map (parts_of_call scope)
    (calls_of_instruction i))
    (each-flat_map (EachOfOperand P) (PartHas P) (parts_of_operand scope) (operand-parts P scope) (option_to_list (operand_of_instruction i))
    (operand-option P (operand_of_instruction i) (instr-operand P i a)))
    (each-flat_map (SiteHas P) (PartHas P) (parts_of_call scope) (call-parts P scope) (calls_of_instruction i) (instr-calls P i a))

pub block-parts : (P : Place → Type 0) (project : ProjectTree) (block : BlockTree) → EachOfBlock P block
    → AllByRecursion (PartHas P) (parts_of_block project block)
block-parts P project block a =
    let scope : Scope = record { project = project; block = block } in
    each-append (PartHas P)
    (flat_map (λ s. parts_of_stmt scope s.stmt) (spots_of_body block.body) ++ flat_map (parts_of_instruction scope) (instructions_of block.body))
    (flat_map (λ v. parts_of_operand scope v.0) (starts_of block.body))
    (each-append (PartHas P) (flat_map (λ s. parts_of_stmt scope s.stmt) (spots_of_body block.body))
    (flat_map (parts_of_instruction scope) (instructions_of block.body))
    (each-flat_map (SpotHas P) (PartHas P) (λ s. parts_of_stmt scope s.stmt) (λ s b. stmt-parts P scope s.stmt b) (spots_of_body block.body)
    (body-spots P block.body a.its_body))
    (each-flat_map (EachOfInstr P) (PartHas P) (parts_of_instruction scope) (instr-parts P scope) (instructions_of block.body)
    (body-instrs P block.body a.its_body)))
    (each-flat_map (EachOfStart P) (PartHas P) (λ v. parts_of_operand scope v.0) (λ v b. operand-parts P scope v.0 b.0) (starts_of block.body)
    (body-starts P block.body a.its_body))

-- ---- operands

read-operands : (P : Place → Type 0) (e : ExprTree) → EachOfExpr P e → AllByRecursion (EachOfOperand P) (operands_read e)
read-operands P (read o) a = (a, tt)
read-operands P (lit ty value place) a = tt
read-operands P (unary op place arg) a = tt
read-operands P (binary op place left right) a = tt
read-operands P (std function place args) a = tt
read-operands P (paren place inner) a = tt

pub reads : (P : Place → Type 0) (ps : List Part) → AllByRecursion (PartHas P) ps → AllByRecursion (EachOfOperand P) (reads_of_parts ps)
reads P ps a = each-flat_map (PartHas P) (EachOfOperand P) (λ p. operands_read p.expr) (λ p b. read-operands P p.expr b) ps a

pub targets : (P : Place → Type 0) (s : StmtTree) → EachOfStmt P s → AllByRecursion (EachOfOperand P) (option_to_list (target_of s))
targets P (assign target place value) a = (a.1.0, tt)
targets P (assign_call target place call) a = (a.1.0, tt)
targets P (if_ conditions other place) a = tt
targets P (case_ selector choices other place) a = tt
targets P (for_ name name_place first last by body place) a = tt
targets P (while_ condition body place) a = tt
targets P (repeat_ body condition place) a = tt
targets P (exit_ place) a = tt
targets P (continue_ place) a = tt
targets P (return_ place) a = tt
targets P (call_ call) a = tt
targets P (empty_ place) a = tt

assigned : (P : Place → Type 0) (block : BlockTree) → EachOfBlock P block → AllByRecursion (EachOfOperand P) (assigned_operands block)
assigned P block a =
    each-flat_map (SpotHas P) (EachOfOperand P) (λ s. option_to_list (target_of s.stmt)) (λ s b. targets P s.stmt b) (spots_of_body block.body)
    (body-spots P block.body a.its_body)

pub written : (P : Place → Type 0) (block : BlockTree) → EachOfBlock P block → AllByRecursion (EachOfOperand P) (written_operands block)
written P block a =
    each-append (EachOfOperand P) (assigned_operands block) (flat_map (λ i. option_to_list (written_operand i)) (instructions_of block.body))
    (assigned P block a)
    (each-flat_map (EachOfInstr P) (EachOfOperand P) (λ i. option_to_list (written_operand i))
    (λ i b. operand-option P (written_operand i) (instr-written P i b)) (instructions_of block.body) (body-instrs P block.body a.its_body))

pub instr-operands : (P : Place → Type 0) (block : BlockTree) → EachOfBlock P block → AllByRecursion (EachOfOperand P) (instruction_operands block)
instr-operands P block a =
    each-flat_map (EachOfInstr P) (EachOfOperand P) (λ i. option_to_list (operand_of_instruction i))
    (λ i b. operand-option P (operand_of_instruction i) (instr-operand P i b)) (instructions_of block.body) (body-instrs P block.body a.its_body)

pub operands : (P : Place → Type 0) (project : ProjectTree) (block : BlockTree) → EachOfBlock P block
    → AllByRecursion (EachOfOperand P) (operands_of project block)
operands P project block a =
    each-append (EachOfOperand P) (reads_of_parts (parts_of_block project block) ++ assigned_operands block) (instruction_operands block)
    (each-append (EachOfOperand P) (reads_of_parts (parts_of_block project block)) (assigned_operands block)
    (reads P (parts_of_block project block) (block-parts P project block a)) (assigned P block a))
    (instr-operands P block a)

-- ---- words of statements

ranges : (P : Place → Type 0) (cs : Choices) → EachOfChoices P cs → AllByRecursion (EachOfChoice P) (values_of_choices cs)
ranges P cs a = each-flat_map (EachOfRange P) (EachOfChoice P) (λ c. c.0 ∷ option_to_list c.1) (λ c b. (b.0, upper c.1 b.1)) cs a
  where
    upper : (o : Option Choice) → EachOfUpper P o → AllByRecursion (EachOfChoice P) (option_to_list o)
    upper None b = tt
    upper (Some c) b = (b, tt)

branch-values : (P : Place → Type 0) (list : BranchTrees) → EachOfBranches P list → AllByRecursion (EachOfChoice P) (values_of_branches list)
branch-values P no_branches a = tt
branch-values P (branches values body more) a =
    each-append (EachOfChoice P) (values_of_choices values) (values_of_branches more) (ranges P values a.0) (branch-values P more a.1.1)

pub case-values : (P : Place → Type 0) (s : StmtTree) → EachOfStmt P s → AllByRecursion (EachOfChoice P) (values_of_case s)
case-values P (case_ selector choices other place) a = branch-values P choices a.1.1.0
case-values P (assign target place value) a = tt
case-values P (assign_call target place call) a = tt
case-values P (if_ conditions other place) a = tt
case-values P (for_ name name_place first last by body place) a = tt
case-values P (while_ condition body place) a = tt
case-values P (repeat_ body condition place) a = tt
case-values P (exit_ place) a = tt
case-values P (continue_ place) a = tt
case-values P (return_ place) a = tt
case-values P (call_ call) a = tt
case-values P (empty_ place) a = tt

pub counters : (P : Place → Type 0) (s : StmtTree) → EachOfStmt P s → AllByRecursion (λ n. P n.1) (counter_of s)
counters P (for_ name name_place first last by body place) a = (a.1.0, tt)
counters P (case_ selector choices other place) a = tt
counters P (assign target place value) a = tt
counters P (assign_call target place call) a = tt
counters P (if_ conditions other place) a = tt
counters P (while_ condition body place) a = tt
counters P (repeat_ body condition place) a = tt
counters P (exit_ place) a = tt
counters P (continue_ place) a = tt
counters P (return_ place) a = tt
counters P (call_ call) a = tt
counters P (empty_ place) a = tt

choice-names : (P : Place → Type 0) (c : Choice) → EachOfChoice P c → AllByRecursion (λ n. P n.1) (name_of_choice c)
choice-names P (Lit l) a = tt
choice-names P (Const name place) a = (a, tt)

pub words : (P : Place → Type 0) (s : StmtTree) → EachOfStmt P s → AllByRecursion (λ n. P n.1) (words_of s)
words P s a =
    each-append (λ n. P n.1) (counter_of s) (flat_map name_of_choice (values_of_case s)) (counters P s a)
    (each-flat_map (EachOfChoice P) (λ n. P n.1) name_of_choice (choice-names P) (values_of_case s) (case-values P s a))

-- ---- declarations

abbrev pub EachOfVar : (Place → Type 0) → VarTree → Type 0
EachOfVar P (var name section ty start place) = P place × (EachOfType P ty × EachOfLiteral P start)

mutual
  types-within : (P : Place → Type 0) (ty : TypeTree) → EachOfType P ty → AllByRecursion (EachOfType P) (types_in ty)
  types-within P (plain ty) a = (tt, tt)
  types-within P (array low high of place) a = (a, types-within P of a.1)
  types-within P (structure vars) a = (a, var-types P vars a)
  types-within P (named name place) a = (a, tt)
  types-within P unread a = (tt, tt)

  var-types : (P : Place → Type 0) (vars : VarTrees) → EachOfVars P vars → AllByRecursion (EachOfType P) (types_in_vars vars)
  var-types P no_vars a = tt
  var-types P (_then_ (var name section ty start place) more) a =
      each-append (EachOfType P) (types_in ty) (types_in_vars more) (types-within P ty a.1.0) (var-types P more a.1.1.1)

mutual
  fields-within : (P : Place → Type 0) (ty : TypeTree) → EachOfType P ty → AllByRecursion (EachOfVar P) (fields_in ty)
  fields-within P (plain ty) a = tt
  fields-within P (array low high of place) a = fields-within P of a.1
  fields-within P (structure vars) a = vars-within P vars a
  fields-within P (named name place) a = tt
  fields-within P unread a = tt

  vars-within : (P : Place → Type 0) (vars : VarTrees) → EachOfVars P vars → AllByRecursion (EachOfVar P) (vars_in vars)
  vars-within P no_vars a = tt
  vars-within P (_then_ (var name section ty start place) more) a =
      ((a.0, (a.1.0, a.1.1.0)), each-append (EachOfVar P) (fields_in ty) (vars_in more) (fields-within P ty a.1.0) (vars-within P more a.1.1.1))

mutual
  names-within : (P : Place → Type 0) (ty : TypeTree) → EachOfType P ty → AllByRecursion (λ n. P n.1) (names_in ty)
  names-within P (plain ty) a = tt
  names-within P (array low high of place) a = names-within P of a.1
  names-within P (structure vars) a = names-in-vars P vars a
  names-within P (named name place) a = (a, tt)
  names-within P unread a = tt

  names-in-vars : (P : Place → Type 0) (vars : VarTrees) → EachOfVars P vars → AllByRecursion (λ n. P n.1) (names_in_vars vars)
  names-in-vars P no_vars a = tt
  names-in-vars P (_then_ (var name section ty start place) more) a =
      each-append (λ n. P n.1) (names_in ty) (names_in_vars more) (names-within P ty a.1.0) (names-in-vars P more a.1.1.1)

pub block-types : (P : Place → Type 0) (block : BlockTree) → EachOfBlock P block → AllByRecursion (EachOfType P) (all_types block.vars)
block-types P block a = var-types P (listed block.vars) a.its_vars

pub block-vars : (P : Place → Type 0) (block : BlockTree) → EachOfBlock P block → AllByRecursion (EachOfVar P) (all_vars block.vars)
block-vars P block a = vars-within P (listed block.vars) a.its_vars

kind-names : (P : Place → Type 0) (kind : BlockKind) → EachOfKind P kind → AllByRecursion (λ n. P n.1) (name_of_kind kind)
kind-names P Fb a = tt
kind-names P Fc a = tt
kind-names P Ob a = tt
kind-names P (Db None) a = tt
kind-names P (Db (Some name)) a = (a, tt)
kind-names P Udt a = tt

pub block-type-names : (P : Place → Type 0) (block : BlockTree) → EachOfBlock P block → AllByRecursion (λ n. P n.1) (named_types block)
block-type-names P block a =
    each-append (λ n. P n.1) (names_in_vars (listed block.vars)) (name_of_kind block.kind) (names-in-vars P (listed block.vars) a.its_vars)
    (kind-names P block.kind a.its_kind)

pub declared-names : (P : Place → Type 0) (vars : List VarTree) → EachOfVars P (listed vars) → AllByRecursion (λ n. P n.1) (names_of_vars vars)
declared-names P [] a = tt
declared-names P (var name section ty start place ∷ vars) a = (a.0, declared-names P vars a.1.1.1)

pub field-names : (P : Place → Type 0) (vars : VarTrees) → EachOfVars P vars → AllByRecursion (λ n. P n.1) (names_of_vars (fields_of vars))
field-names P no_vars a = tt
field-names P (_then_ (var name section ty start place) more) a = (a.0, field-names P more a.1.1.1)
