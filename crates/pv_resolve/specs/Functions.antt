-- Standard functions as nodes: how many arguments they take, and the arguments' nodes.
use Rattle.std.specs.Prelude.{◌≡◌, ℕ, ◌<◌, ℤ, List, map, length, All}
use Rattle.pv_word.specs.declared.types.Ty.{Ty}
use Rattle.pv_place.specs.declared.place.Place.{Place}
use Rattle.pv_tree.specs.declared.expr.StdFunction.{StdFunction}
use Rattle.pv_tree.specs.declared.expr.StdFunction.TheVariants.{Convert, Abs, Min, Max, Limit, Sel, Shl, Shr}
use Rattle.pv_tree.specs.Tree.{ExprTrees, BlockTree}
use Rattle.pv_mean.specs.Sources.{Source}
use Rattle.pv_mean.specs.Frames.{Frame}
use Rattle.pv_mean.specs.Endings.{Tried, Value, got, and_then}
use Rattle.pv_mean.specs.Values.{values, argument, arguments_behind, function_result}
use Rattle.pv_eval.specs.declared.node.Node.{Node}
use Rattle.pv_eval.specs.declared.node.OneOp.{OneOp}
use Rattle.pv_eval.specs.declared.node.TwoOp.{TwoOp}
use Rattle.pv_eval.specs.declared.node.ThreeOp.{ThreeOp}
use Rattle.pv_eval.specs.Operators.{one_result, two_result, three_result}
use Rattle.pv_eval.specs.Operands.{at}
use Rattle.pv_eval.specs.Nodes.{node_value}
use Rattle.pv_eval.specs.Order.{MayFollow}
use Rattle.pv_eval.specs.Means.{Makes, activation}

abbrev pub arity : StdFunction → ℕ
arity (Convert from to) = 1
arity Abs = 1
arity Min = 2
arity Max = 2
arity Limit = 3
arity Sel = 3
arity Shl = 2
arity Shr = 2

-- what is made of the first of some values, of the first two, and of the first three
abbrev pub one_value : OneOp → Ty → List ℤ → Value
one_value op ty vs = got (one_result op ty (argument vs))

abbrev pub two_value : TwoOp → Ty → Place → List ℤ → Value
two_value op ty place vs = two_result op ty place (argument vs) (argument (arguments_behind vs))

abbrev pub three_value : ThreeOp → List ℤ → Value
three_value op vs =
    got (three_result op (argument vs) (argument (arguments_behind vs))
    (argument (arguments_behind (arguments_behind vs))))

abbrev pub function_value : StdFunction → Ty → List ℤ → Value
function_value function ty vs = got (function_result function ty vs)

-- the node may stand behind those of the numbers, and its value is made of theirs
pub record AppliesTo (numbers : List ℕ) (node : Node) (f : List ℤ → Value) : Type 0 where
  pub follows : (before : List Node) → All (λ k. k < length before) numbers → MayFollow before node
  pub value : (first : ℕ) (frame : Frame) (ws : List ℤ)
      → node_value first frame ws node ≡ f (map (at ws) numbers)

-- the nodes of these numbers have the values of expressions
pub record HaveValues (source : Source) (block : BlockTree) (old new : List Node)
    (numbers : List ℕ) (es : ExprTrees) : Type 0 where
  pub makes : Makes old new (λ first ws. map (at ws) numbers)
      (λ first frame. values source (activation block first) frame es)

-- and whatever a function makes of them it makes of the values of expressions
pub record AreArguments (source : Source) (block : BlockTree) (old new : List Node)
    (numbers : List ℕ) (es : ExprTrees) : Type 0 where
  pub meaning : ℕ → Frame → Tried (List ℤ)
  pub makes : Makes old new (λ first ws. map (at ws) numbers) meaning
  pub same : (function : StdFunction) (ty : Ty) (first : ℕ) (frame : Frame)
      → and_then (meaning first frame) (function_value function ty)
      ≡ and_then (values source (activation block first) frame es) (function_value function ty)
