-- A call as STL makes it: whatever traps in an argument traps at the call's word, so all parts of its arguments have that place.
use Rattle.std.specs.Prelude.{map}
use Rattle.pv_place.specs.declared.place.Place.{Place}
use Rattle.pv_tree.specs.Tree.{ExprTree, lit, read, unary, binary, std, paren, ExprTrees, no_exprs, exprs, OperandTree, operand, StepTree, field, index, StepTrees, no_steps, steps, ArgTree, CallPlain}

abbrev mutual
  pub placed : Place → ExprTree → ExprTree
  placed at (lit ty v place) = lit ty v at
  placed at (read o) = read (placed_operand at o)
  placed at (unary op place arg) = unary op at (placed at arg)
  placed at (binary op place left right) = binary op at (placed at left) (placed at right)
  placed at (std function place args) = std function at (all_placed at args)
  placed at (paren place inner) = paren at (placed at inner)

  pub all_placed : Place → ExprTrees → ExprTrees
  all_placed at no_exprs = no_exprs
  all_placed at (exprs e more) = exprs (placed at e) (all_placed at more)

  pub placed_operand : Place → OperandTree → OperandTree
  placed_operand at (operand root more place) = operand root (steps_placed at more) at

  pub step_placed : Place → StepTree → StepTree
  step_placed at (field name place) = field name at
  step_placed at (index e place) = index (placed at e) at

  pub steps_placed : Place → StepTrees → StepTrees
  steps_placed at no_steps = no_steps
  steps_placed at (steps step more) = steps (step_placed at step) (steps_placed at more)

abbrev pub arg_placed : Place → ArgTree → ArgTree
arg_placed at arg = record { name = arg.name; value = placed at arg.value; place = arg.place }

abbrev pub call_placed : CallPlain → CallPlain
call_placed call = record {
  name = call.name;
  name_place = call.name_place;
  hash = call.hash;
  base = call.base;
  args = map (arg_placed call.place) call.args;
  place = call.place;
}
