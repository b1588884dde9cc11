-- The operators of trees, as nodes have them.
use Rattle.pv_tree.specs.declared.expr.BinaryOp.{BinaryOp}
use Rattle.pv_tree.specs.declared.expr.BinaryOp.TheVariants as tree
use Rattle.pv_eval.specs.declared.node.TwoOp.{TwoOp}
use Rattle.pv_eval.specs.declared.node.TwoOp.TheVariants.{Mul, Div, Mod, Add, Sub, Less, Greater, LessEqual, GreaterEqual, Equal, NotEqual, And, Xor, Or}

abbrev pub two_of : BinaryOp → TwoOp
two_of tree.Mul = Mul
two_of tree.Div = Div
two_of tree.Mod = Mod
two_of tree.Add = Add
two_of tree.Sub = Sub
two_of tree.Less = Less
two_of tree.Greater = Greater
two_of tree.LessEqual = LessEqual
two_of tree.GreaterEqual = GreaterEqual
two_of tree.Equal = Equal
two_of tree.NotEqual = NotEqual
two_of tree.And = And
two_of tree.Xor = Xor
two_of tree.Or = Or
