-- Statements of SCL: which tokens spell them, and which are well formed.
use Rattle.std.specs.Prelude.{Bool, true, false, All, Option, Some, None}
use Rattle.pv_place.specs.declared.place.Place.{Place}
use Rattle.pv_types.specs.declared.declaration.Literal.{Literal}
use Rattle.pv_tree.specs.declared.stmt.Choice.{Choice}
use Rattle.pv_tree.specs.declared.stmt.Choice.TheVariants as choice
use Rattle.pv_tree.specs.Tree.{StmtTree, assign, assign_call, if_, case_, for_, while_, repeat_, exit_, continue_, return_, call_, empty_, StmtTrees, no_stmts, stmts, ArmTrees, no_arms, arms, BranchTrees, no_branches, branches, ElseTree, no_else, else_}
use Rattle.pv_tree.specs.Lexemes.{Form, nothing, never, ◌⨾◌, maybe, word, word_at, sign, sign_at, listed}
use Rattle.pv_tree.specs.Words.{SpellsWord, IsFree}
use Rattle.pv_tree.specs.Literals.{SpellsLiteral}
use Rattle.pv_tree.specs.Expressions.{SpellsExpr, SpellsOperand, IsFormedExpr, IsFormedOperand}
use Rattle.pv_tree.specs.Calls.{SpellsCall, IsFormedCall}

-- a value of a branch: a literal, or a constant's name
abbrev pub SpellsChoice : Choice → Form
SpellsChoice (choice.Lit literal) = SpellsLiteral literal
SpellsChoice (choice.Const name place) = SpellsWord name place

-- the upper end of a range
abbrev pub SpellsUpTo : Option Choice → Form
SpellsUpTo None = nothing
SpellsUpTo (Some upper) = sign ".." ⨾ SpellsChoice upper

abbrev pub SpellsRange : Choice × Option Choice → Form
SpellsRange range = SpellsChoice range.0 ⨾ SpellsUpTo range.1

-- the step of a FOR
abbrev pub SpellsBy : Option Literal → Form
SpellsBy None = nothing
SpellsBy (Some step) = word "BY" ⨾ SpellsLiteral step

-- the `;` behind a statement, which is all that an empty one has
abbrev pub SpellsEnd : StmtTree → Form
SpellsEnd (empty_ place) = sign_at ";" place
SpellsEnd _ = sign ";"

-- the word before a condition: IF at its place before the first, ELSIF before the others
abbrev pub SpellsArmWord : Option Place → Form
SpellsArmWord (Some place) = word_at "IF" place
SpellsArmWord None = word "ELSIF"

-- no condition more; an IF has at least one
abbrev pub SpellsNoArm : Option Place → Form
SpellsNoArm (Some place) = never
SpellsNoArm None = nothing

-- ELSE, which a colon may follow in a CASE
abbrev pub SpellsElseWord : Bool → Form
SpellsElseWord true = word "ELSE" ⨾ maybe (sign ":")
SpellsElseWord false = word "ELSE"

abbrev mutual
  -- a statement without its `;`
  pub SpellsStmt : StmtTree → Form
  SpellsStmt (assign target place value) = SpellsOperand target ⨾ sign_at ":=" place
      ⨾ SpellsExpr value
  SpellsStmt (assign_call target place call) = SpellsOperand target ⨾ sign_at ":=" place
      ⨾ SpellsCall call
  SpellsStmt (if_ first other place) =
      SpellsArms (Some place) first ⨾ SpellsElse false other ⨾ word "END_IF"
  SpellsStmt (case_ selector all other place) =
      word_at "CASE" place ⨾ SpellsExpr selector ⨾ word "OF" ⨾ SpellsBranches all
      ⨾ SpellsElse true other ⨾ word "END_CASE"
  SpellsStmt (for_ var var_place first last by body place) =
      word_at "FOR" place ⨾ SpellsWord var var_place ⨾ sign ":=" ⨾ SpellsExpr first ⨾ word "TO"
      ⨾ SpellsExpr last ⨾ SpellsBy by ⨾ word "DO" ⨾ SpellsStmts body ⨾ word "END_FOR"
  SpellsStmt (while_ cond body place) =
      word_at "WHILE" place ⨾ SpellsExpr cond ⨾ word "DO" ⨾ SpellsStmts body ⨾ word "END_WHILE"
  SpellsStmt (repeat_ body cond place) =
      word_at "REPEAT" place ⨾ SpellsStmts body ⨾ word "UNTIL" ⨾ SpellsExpr cond ⨾ word "END_REPEAT"
  SpellsStmt (exit_ place) = word_at "EXIT" place
  SpellsStmt (continue_ place) = word_at "CONTINUE" place
  SpellsStmt (return_ place) = word_at "RETURN" place
  SpellsStmt (call_ call) = SpellsCall call
  SpellsStmt (empty_ place) = nothing

  -- a list of statements, each with its `;`
  pub SpellsStmts : StmtTrees → Form
  SpellsStmts no_stmts = nothing
  SpellsStmts (stmts stmt others) = SpellsStmt stmt ⨾ SpellsEnd stmt ⨾ SpellsStmts others

  -- conditions with their statements: all, with the place of IF, or those behind the first
  pub SpellsArms : Option Place → ArmTrees → Form
  SpellsArms at no_arms = SpellsNoArm at
  SpellsArms at (arms cond body others) =
      SpellsArmWord at ⨾ SpellsExpr cond ⨾ word "THEN" ⨾ SpellsStmts body ⨾ SpellsArms None others

  pub SpellsBranches : BranchTrees → Form
  SpellsBranches no_branches = nothing
  SpellsBranches (branches choices body others) =
      listed SpellsRange choices ⨾ sign ":" ⨾ SpellsStmts body ⨾ SpellsBranches others

  -- the statements behind ELSE, or nothing
  pub SpellsElse : Bool → ElseTree → Form
  SpellsElse colon no_else = nothing
  SpellsElse colon (else_ body) = SpellsElseWord colon ⨾ SpellsStmts body

-- ---- well-formed statements

abbrev pub IsFormedChoice : Choice → Type 0
IsFormedChoice (choice.Lit literal) = Unit {0}
IsFormedChoice (choice.Const name place) = IsFree name

abbrev pub IsFormedUpTo : Option Choice → Type 0
IsFormedUpTo None = Unit {0}
IsFormedUpTo (Some upper) = IsFormedChoice upper

abbrev pub IsFormedRange : Choice × Option Choice → Type 0
IsFormedRange range = IsFormedChoice range.0 × IsFormedUpTo range.1

abbrev mutual
  -- each expression, operand, call and name in a statement is well formed
  pub IsFormedStmt : StmtTree → Type 0
  IsFormedStmt (assign target place value) = IsFormedOperand target × IsFormedExpr value
  IsFormedStmt (assign_call target place call) = IsFormedOperand target × IsFormedCall call
  IsFormedStmt (if_ first other place) = AreFormedArms first × IsFormedElse other
  IsFormedStmt (case_ selector all other place) =
      IsFormedExpr selector × AreFormedBranches all × IsFormedElse other
  IsFormedStmt (for_ var var_place first last by body place) =
      IsFree var × IsFormedExpr first × IsFormedExpr last × AreFormedStmts body
  IsFormedStmt (while_ cond body place) = IsFormedExpr cond × AreFormedStmts body
  IsFormedStmt (repeat_ body cond place) = AreFormedStmts body × IsFormedExpr cond
  IsFormedStmt (exit_ place) = Unit {0}
  IsFormedStmt (continue_ place) = Unit {0}
  IsFormedStmt (return_ place) = Unit {0}
  IsFormedStmt (call_ call) = IsFormedCall call
  IsFormedStmt (empty_ place) = Unit {0}

  pub AreFormedStmts : StmtTrees → Type 0
  AreFormedStmts no_stmts = Unit {0}
  AreFormedStmts (stmts stmt others) = IsFormedStmt stmt × AreFormedStmts others

  pub AreFormedArms : ArmTrees → Type 0
  AreFormedArms no_arms = Unit {0}
  AreFormedArms (arms cond body others) = IsFormedExpr cond × AreFormedStmts body
      × AreFormedArms others

  pub AreFormedBranches : BranchTrees → Type 0
  AreFormedBranches no_branches = Unit {0}
  AreFormedBranches (branches choices body others) =
      All IsFormedRange choices × AreFormedStmts body × AreFormedBranches others

  pub IsFormedElse : ElseTree → Type 0
  IsFormedElse no_else = Unit {0}
  IsFormedElse (else_ body) = AreFormedStmts body
