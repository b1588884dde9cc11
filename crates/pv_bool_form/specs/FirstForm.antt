-- The first form: function blocks of BOOL variables without start values and assignments to them, whose expressions are words,
-- TRUE, FALSE, NOT, AND, OR and parentheses. What decides on Boolean programs takes this form alone.
use Rattle.std.specs.Prelude.{◌≡◌, ◌⊎◌, ◌≤◌, ℤ, pos, List, All, length, true, false, is_some, Some, None, ⊤}
use Rattle.pv_word.specs.declared.types.Ty.TheVariants.{Bool}
use Rattle.pv_types.specs.declared.layout.TheConstants.{MAX_LEAVES}
use Rattle.pv_types.specs.declared.declaration.Section.{Section}
use Rattle.pv_types.specs.declared.declaration.Section.TheVariants.{Input, Output, Static}
use Rattle.pv_types.specs.Tree.{VarTree, var, plain}
use Rattle.pv_tree.specs.declared.expr.Root.{Root}
use Rattle.pv_tree.specs.declared.expr.Root.TheVariants.{Local, Named, Area}
use Rattle.pv_tree.specs.declared.expr.UnaryOp.TheVariants.{Not}
use Rattle.pv_tree.specs.declared.expr.BinaryOp.TheVariants.{And, Or}
use Rattle.pv_tree.specs.declared.block.BlockKind.TheVariants.{Fb}
use Rattle.pv_tree.specs.Tree.{ExprTree, lit, read, unary, binary, std, paren, OperandTree, operand, no_steps, StmtTree, assign, assign_call, if_, case_, for_, while_, repeat_, exit_, continue_, return_, call_, empty_, StmtTrees, no_stmts, stmts, BodyTree, scl, stl, starts, BlockTree}
use Rattle.pv_tree.specs.Scopes.{first_var}
use Rattle.pv_pattern.specs.Patterns.{Pattern, invariant, forbidden, implication, within, between, reach}

-- VAR_INPUT, VAR_OUTPUT and VAR
abbrev pub IsFirstSection : Section → Type 0
IsFirstSection section = (section ≡ Input) ⊎ ((section ≡ Output) ⊎ (section ≡ Static))

-- a variable of BOOL without a start value, in one of these sections
abbrev pub IsFirstVar : VarTree → Type 0
IsFirstVar (var name section ty start place) =
    IsFirstSection section × (ty ≡ plain Bool) × (start ≡ None)

-- a word without `#` before it, which one of these declares
abbrev pub IsFirstRoot : List VarTree → Root → Type 0
IsFirstRoot vars (Local name hash place) =
    (hash ≡ false) × (is_some (first_var vars name.key) ≡ true)
IsFirstRoot vars (Named name) = ⊥
IsFirstRoot vars (Area area bits byte bit) = ⊥

-- a word alone
abbrev pub IsFirstOperand : List VarTree → OperandTree → Type 0
IsFirstOperand vars (operand root more place) = IsFirstRoot vars root × (more ≡ no_steps)

-- TRUE as 1 or FALSE as 0
abbrev pub IsTruth : ℤ → Type 0
IsTruth v = (v ≡ pos 1) ⊎ (v ≡ pos 0)

-- words, TRUE, FALSE, NOT, AND, OR and parentheses
abbrev pub IsFirstExpr : List VarTree → ExprTree → Type 0
IsFirstExpr vars (lit ty value place) = (ty ≡ Some Bool) × IsTruth value
IsFirstExpr vars (read o) = IsFirstOperand vars o
IsFirstExpr vars (unary op place arg) = (op ≡ Not) × IsFirstExpr vars arg
IsFirstExpr vars (binary op place left right) =
    ((op ≡ And) ⊎ (op ≡ Or)) × IsFirstExpr vars left × IsFirstExpr vars right
IsFirstExpr vars (std function place args) = ⊥
IsFirstExpr vars (paren place inner) = IsFirstExpr vars inner

-- a pattern that is asked of a scan's end alone, each of whose expressions is one of these
abbrev pub IsFirstPattern : List VarTree → Pattern → Type 0
IsFirstPattern vars (invariant a) = IsFirstExpr vars a
IsFirstPattern vars (forbidden a) = IsFirstExpr vars a
IsFirstPattern vars (implication a b) = IsFirstExpr vars a × IsFirstExpr vars b
IsFirstPattern vars (within a b) = ⊥
IsFirstPattern vars (between a b c) = ⊥
IsFirstPattern vars (reach a) = IsFirstExpr vars a

-- an assignment of such an expression to a word
abbrev pub IsFirstStmt : List VarTree → StmtTree → Type 0
IsFirstStmt vars (assign target place value) = IsFirstOperand vars target × IsFirstExpr vars value
IsFirstStmt vars (assign_call target place call) = ⊥
IsFirstStmt vars (if_ conditions other place) = ⊥
IsFirstStmt vars (case_ selector choices other place) = ⊥
IsFirstStmt vars (for_ name name_place first last by body place) = ⊥
IsFirstStmt vars (while_ condition body place) = ⊥
IsFirstStmt vars (repeat_ body condition place) = ⊥
IsFirstStmt vars (exit_ place) = ⊥
IsFirstStmt vars (continue_ place) = ⊥
IsFirstStmt vars (return_ place) = ⊥
IsFirstStmt vars (call_ call) = ⊥
IsFirstStmt vars (empty_ place) = ⊥

abbrev pub AreFirstStmts : List VarTree → StmtTrees → Type 0
AreFirstStmts vars no_stmts = ⊤
AreFirstStmts vars (stmts s more) = IsFirstStmt vars s × AreFirstStmts vars more

abbrev pub IsFirstBody : List VarTree → BodyTree → Type 0
IsFirstBody vars (scl statements) = AreFirstStmts vars statements
IsFirstBody vars (stl instructions) = ⊥
IsFirstBody vars (starts values) = ⊥

-- a function block of such variables and statements
pub record IsFirstForm (block : BlockTree) : Type 0 where
  pub kind : block.kind ≡ Fb
  pub value : block.value ≡ None
  pub vars : All IsFirstVar block.vars
  pub body : IsFirstBody block.vars block.body

-- a block of which programs are made: one of the first form with no more variables than a table has cells
pub record IsFirstBlock (block : BlockTree) : Type 0 where
  pub form : IsFirstForm block
  pub few : length block.vars ≤ MAX_LEAVES
