-- The operands of expressions, in the order of the text, those of indexes after their own.
use Rattle.std.specs.Prelude.{List, [], ◌∷◌, ◌++◌}
use Rattle.pv_tree.specs.Tree.{ExprTree, lit, read, unary, binary, std, paren, ExprTrees, no_exprs, exprs, OperandTree, operand, StepTree, field, index, StepTrees, no_steps, steps}

-- the operands that an expression reads, and those of an operand's indexes
abbrev mutual
  pub operands_in : ExprTree → List OperandTree
  operands_in (lit ty value place) = []
  operands_in (read o) = o ∷ operands_within o
  operands_in (unary op place arg) = operands_in arg
  operands_in (binary op place left right) = operands_in left ++ operands_in right
  operands_in (std function place args) = operands_in_args args
  operands_in (paren place inner) = operands_in inner

  pub operands_in_args : ExprTrees → List OperandTree
  operands_in_args no_exprs = []
  operands_in_args (exprs e more) = operands_in e ++ operands_in_args more

  pub operands_within : OperandTree → List OperandTree
  operands_within (operand root more place) = operands_in_steps more

  pub operands_in_steps : StepTrees → List OperandTree
  operands_in_steps no_steps = []
  operands_in_steps (steps step more) = operands_in_step step ++ operands_in_steps more

  pub operands_in_step : StepTree → List OperandTree
  operands_in_step (field name place) = []
  operands_in_step (index e place) = operands_in e
