-- How many checks an expression and an operand make, each of which may stop a scan: zero divisors, indexes that may lie outside their
-- array's bounds, and reads of cells that may have no value yet. (This project's own; after the traps of its statements.)
use Rattle.std.specs.Prelude.{ℕ, ◌+◌, List, Bool as Truth, true, false, if◌then◌else◌, Option, Some, None, is_some, is_none}
use Rattle.pv_types.specs.Tree.{VarTree}
use Rattle.pv_types.specs.View.{section_of}
use Rattle.pv_tree.specs.declared.expr.Root.{Root}
use Rattle.pv_tree.specs.declared.expr.Root.TheVariants.{Local, Named, Area}
use Rattle.pv_tree.specs.declared.expr.BinaryOp.{BinaryOp}
use Rattle.pv_tree.specs.declared.expr.BinaryOp.TheVariants.{Div, Mod}
use Rattle.pv_tree.specs.Tree.{ExprTree, lit, read, unary, binary, std, paren, ExprTrees, no_exprs, exprs, OperandTree, operand, StepTree, field, index, StepTrees, no_steps, steps, BlockTree}
use Rattle.pv_tree.specs.Scopes.{Scope, first_var, own_value}
use Rattle.pv_tree.specs.Things.{quoted_value}
use Rattle.pv_tree.specs.Types.{literal_of}
use Rattle.pv_mean.specs.Layout.{is_brief_in}

abbrev pub one_if : Truth → ℕ
one_if test = if test then 1 else 0

-- ---- cells that may have no value: those that live within one activation, a function's value among them

abbrev pub is_brief_variable : BlockTree → Option VarTree → Truth → Truth
is_brief_variable block None other = other
is_brief_variable block (Some v) other = is_brief_in block (section_of v)

abbrev pub is_brief_word : BlockTree → List ℕ → Truth → Truth
is_brief_word block key hash =
    is_brief_variable block (first_var block.vars key) (is_some (own_value block key hash))

abbrev pub is_brief_root : BlockTree → Root → Truth
is_brief_root block (Local name hash place) = is_brief_word block name.key hash
is_brief_root block (Named name) = is_some (quoted_value block name.key)
is_brief_root block (Area area bits byte bit) = false

abbrev pub is_brief : Scope → OperandTree → Truth
is_brief scope (operand root more place) = is_brief_root scope.block root

-- ---- checks

-- the divisor may be zero, also where it is a literal
abbrev pub divides : BinaryOp → Truth
divides Div = true
divides Mod = true
divides op = false

abbrev mutual
  -- of an expression: those of all its parts, as all of them are evaluated
  pub checks_of : Scope → ExprTree → ℕ
  checks_of scope (lit ty value place) = 0
  checks_of scope (read o) = checks_of_target scope o + one_if (is_brief scope o)
  checks_of scope (unary op place arg) = checks_of scope arg
  checks_of scope (binary op place left right) =
      checks_of scope left + checks_of scope right + one_if (divides op)
  checks_of scope (std function place args) = checks_of_each scope args
  checks_of scope (paren place inner) = checks_of scope inner

  pub checks_of_each : Scope → ExprTrees → ℕ
  checks_of_each scope no_exprs = 0
  checks_of_each scope (exprs e more) = checks_of scope e + checks_of_each scope more

  -- of an operand that is assigned: those of its indexes
  pub checks_of_target : Scope → OperandTree → ℕ
  checks_of_target scope (operand root more place) = checks_of_steps scope more

  pub checks_of_steps : Scope → StepTrees → ℕ
  checks_of_steps scope no_steps = 0
  checks_of_steps scope (steps step more) = checks_of_step scope step + checks_of_steps scope more

  -- an index that is a literal lies within the bounds; a constant's name is no literal
  pub checks_of_step : Scope → StepTree → ℕ
  checks_of_step scope (field name place) = 0
  checks_of_step scope (index e place) = checks_of scope e + one_if (is_none (literal_of e))
