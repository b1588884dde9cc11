-- Nesting: statements, expressions (one in parentheses is one) and types inside each other. From
-- below it is the number of levels of a tree; from above, each part has the number of those around
-- it.
use Rattle.std.specs.Prelude.{ℕ, suc, max, List, [], ◌∷◌, ◌++◌, Option, Some, None}
use Rattle.pv_place.specs.declared.place.Place.{Place}
use Rattle.pv_tree.specs.Tree.{ExprTree, lit, read, unary, binary, std, paren, ExprTrees, no_exprs, exprs, OperandTree, operand, StepTree, field, index, StepTrees, no_steps, steps, ArgTree, CallPlain, StmtTree, assign, assign_call, if_, case_, for_, while_, repeat_, exit_, continue_, return_, call_, empty_, StmtTrees, no_stmts, stmts, ArmTrees, no_arms, arms, BranchTrees, no_branches, branches, ElseTree, no_else, else_, InstrTree, StartTree, BodyTree, scl, stl, starts}

-- the most levels that a source may have
abbrev pub most_levels : ℕ
most_levels = 64

-- ---- first tokens

-- the place of the first token of an operand, an expression and a statement
abbrev pub first_of_operand : OperandTree → Place
first_of_operand (operand root path place) = place

abbrev pub first_of : ExprTree → Place
first_of (lit own value place) = place
first_of (read variable) = first_of_operand variable
first_of (unary op place arg) = place
first_of (binary op place left right) = first_of left
first_of (std function place args) = place
first_of (paren place inner) = place

abbrev pub first_of_stmt : StmtTree → Place
first_of_stmt (assign target place value) = first_of_operand target
first_of_stmt (assign_call target place call) = first_of_operand target
first_of_stmt (if_ first other place) = place
first_of_stmt (case_ selector all other place) = place
first_of_stmt (for_ var var_place first last by body place) = place
first_of_stmt (while_ cond body place) = place
first_of_stmt (repeat_ body cond place) = place
first_of_stmt (exit_ place) = place
first_of_stmt (continue_ place) = place
first_of_stmt (return_ place) = place
first_of_stmt (call_ call) = call.place
first_of_stmt (empty_ place) = place

-- ---- from below: the levels of a tree

abbrev mutual
  pub levels : ExprTree → ℕ
  levels (lit own value place) = 1
  levels (read variable) = suc (levels_of_operand variable)
  levels (unary op place arg) = suc (levels arg)
  levels (binary op place left right) = suc (max (levels left) (levels right))
  levels (std function place args) = suc (levels_of_exprs args)
  levels (paren place inner) = suc (levels inner)

  pub levels_of_exprs : ExprTrees → ℕ
  levels_of_exprs no_exprs = 0
  levels_of_exprs (exprs arg args) = max (levels arg) (levels_of_exprs args)

  pub levels_of_operand : OperandTree → ℕ
  levels_of_operand (operand root path place) = levels_of_steps path

  pub levels_of_steps : StepTrees → ℕ
  levels_of_steps no_steps = 0
  levels_of_steps (steps step others) = max (levels_of_step step) (levels_of_steps others)

  pub levels_of_step : StepTree → ℕ
  levels_of_step (field name place) = 0
  levels_of_step (index at place) = levels at

-- a call is no level of its own
abbrev pub levels_of_args : List ArgTree → ℕ
levels_of_args [] = 0
levels_of_args (arg ∷ args) = max (levels arg.value) (levels_of_args args)

abbrev mutual
  -- the levels within a statement
  pub levels_within : StmtTree → ℕ
  levels_within (assign target place value) = max (levels_of_operand target) (levels value)
  levels_within (assign_call target place call) = max (levels_of_operand target)
      (levels_of_args call.args)
  levels_within (if_ first other place) = max (levels_of_arms first) (levels_of_else other)
  levels_within (case_ selector all other place) =
      max (levels selector) (max (levels_of_branches all) (levels_of_else other))
  levels_within (for_ var var_place first last by body place) =
      max (levels first) (max (levels last) (levels_of_stmts body))
  levels_within (while_ cond body place) = max (levels cond) (levels_of_stmts body)
  levels_within (repeat_ body cond place) = max (levels_of_stmts body) (levels cond)
  levels_within (exit_ place) = 0
  levels_within (continue_ place) = 0
  levels_within (return_ place) = 0
  levels_within (call_ call) = levels_of_args call.args
  levels_within (empty_ place) = 0

  -- a statement is one level
  pub levels_of_stmts : StmtTrees → ℕ
  levels_of_stmts no_stmts = 0
  levels_of_stmts (stmts stmt others) = max (suc (levels_within stmt)) (levels_of_stmts others)

  pub levels_of_arms : ArmTrees → ℕ
  levels_of_arms no_arms = 0
  levels_of_arms (arms cond body others) = max (levels cond)
      (max (levels_of_stmts body) (levels_of_arms others))

  pub levels_of_branches : BranchTrees → ℕ
  levels_of_branches no_branches = 0
  levels_of_branches (branches choices body others) = max (levels_of_stmts body)
      (levels_of_branches others)

  pub levels_of_else : ElseTree → ℕ
  levels_of_else no_else = 0
  levels_of_else (else_ body) = levels_of_stmts body

-- bodies: an instruction and a value of a data block are no level
abbrev pub levels_of_variable : Option OperandTree → ℕ
levels_of_variable None = 0
levels_of_variable (Some variable) = levels_of_operand variable

abbrev pub levels_of_call : Option CallPlain → ℕ
levels_of_call None = 0
levels_of_call (Some call) = levels_of_args call.args

abbrev pub levels_of_instrs : List InstrTree → ℕ
levels_of_instrs [] = 0
levels_of_instrs (instr ∷ others) =
    max (max (levels_of_variable instr.operand) (levels_of_call instr.call))
    (levels_of_instrs others)

abbrev pub levels_of_starts : List StartTree → ℕ
levels_of_starts [] = 0
levels_of_starts (start ∷ others) = max (levels_of_operand start.0) (levels_of_starts others)

abbrev pub levels_of_body : BodyTree → ℕ
levels_of_body (scl statements) = levels_of_stmts statements
levels_of_body (stl instrs) = levels_of_instrs instrs
levels_of_body (starts values) = levels_of_starts values

-- ---- from above: the parts of a tree, in the order of the text

-- a part: how many parts are around it, and the place of its first token
pub record Part : Type 0 where
  pub above : ℕ
  pub first : Place

abbrev pub part : ℕ → Place → Part
part above first = record { above = above; first = first }

abbrev mutual
  -- the parts of an expression that has so many parts around it
  pub parts : ℕ → ExprTree → List Part
  parts n (lit own value place) = part n place ∷ []
  parts n (read variable) = part n (first_of_operand variable) ∷ parts_of_operand (suc n) variable
  parts n (unary op place arg) = part n place ∷ parts (suc n) arg
  parts n (binary op place left right) = part n (first_of left)
      ∷ (parts (suc n) left ++ parts (suc n) right)
  parts n (std function place args) = part n place ∷ parts_of_exprs (suc n) args
  parts n (paren place inner) = part n place ∷ parts (suc n) inner

  pub parts_of_exprs : ℕ → ExprTrees → List Part
  parts_of_exprs n no_exprs = []
  parts_of_exprs n (exprs arg args) = parts n arg ++ parts_of_exprs n args

  pub parts_of_operand : ℕ → OperandTree → List Part
  parts_of_operand n (operand root path place) = parts_of_steps n path

  pub parts_of_steps : ℕ → StepTrees → List Part
  parts_of_steps n no_steps = []
  parts_of_steps n (steps step others) = parts_of_step n step ++ parts_of_steps n others

  pub parts_of_step : ℕ → StepTree → List Part
  parts_of_step n (field name place) = []
  parts_of_step n (index at place) = parts n at

abbrev pub parts_of_args : ℕ → List ArgTree → List Part
parts_of_args n [] = []
parts_of_args n (arg ∷ args) = parts n arg.value ++ parts_of_args n args

abbrev mutual
  -- the parts within a statement, which have so many parts around them
  pub parts_within : ℕ → StmtTree → List Part
  parts_within n (assign target place value) = parts_of_operand n target ++ parts n value
  parts_within n (assign_call target place call) = parts_of_operand n target
      ++ parts_of_args n call.args
  parts_within n (if_ first other place) = parts_of_arms n first ++ parts_of_else n other
  parts_within n (case_ selector all other place) =
      parts n selector ++ (parts_of_branches n all ++ parts_of_else n other)
  parts_within n (for_ var var_place first last by body place) =
      parts n first ++ (parts n last ++ parts_of_stmts n body)
  parts_within n (while_ cond body place) = parts n cond ++ parts_of_stmts n body
  parts_within n (repeat_ body cond place) = parts_of_stmts n body ++ parts n cond
  parts_within n (exit_ place) = []
  parts_within n (continue_ place) = []
  parts_within n (return_ place) = []
  parts_within n (call_ call) = parts_of_args n call.args
  parts_within n (empty_ place) = []

  -- a statement, what is within it, and the statements behind it
  pub parts_of_stmts : ℕ → StmtTrees → List Part
  parts_of_stmts n no_stmts = []
  parts_of_stmts n (stmts stmt others) =
      (part n (first_of_stmt stmt) ∷ parts_within (suc n) stmt) ++ parts_of_stmts n others

  pub parts_of_arms : ℕ → ArmTrees → List Part
  parts_of_arms n no_arms = []
  parts_of_arms n (arms cond body others) = parts n cond
      ++ (parts_of_stmts n body ++ parts_of_arms n others)

  pub parts_of_branches : ℕ → BranchTrees → List Part
  parts_of_branches n no_branches = []
  parts_of_branches n (branches choices body others) = parts_of_stmts n body
      ++ parts_of_branches n others

  pub parts_of_else : ℕ → ElseTree → List Part
  parts_of_else n no_else = []
  parts_of_else n (else_ body) = parts_of_stmts n body

-- ---- bodies: nothing is around an instruction's parts or those of a data block's paths

abbrev pub parts_of_variable : Option OperandTree → List Part
parts_of_variable None = []
parts_of_variable (Some variable) = parts_of_operand 0 variable

abbrev pub parts_of_call : Option CallPlain → List Part
parts_of_call None = []
parts_of_call (Some call) = parts_of_args 0 call.args

abbrev pub parts_of_instr : InstrTree → List Part
parts_of_instr instr = parts_of_variable instr.operand ++ parts_of_call instr.call

abbrev pub parts_of_instrs : List InstrTree → List Part
parts_of_instrs [] = []
parts_of_instrs (instr ∷ others) = parts_of_instr instr ++ parts_of_instrs others

abbrev pub parts_of_starts : List StartTree → List Part
parts_of_starts [] = []
parts_of_starts (start ∷ others) = parts_of_operand 0 start.0 ++ parts_of_starts others

abbrev pub parts_of_body : BodyTree → List Part
parts_of_body (scl statements) = parts_of_stmts 0 statements
parts_of_body (stl instrs) = parts_of_instrs instrs
parts_of_body (starts values) = parts_of_starts values
