-- Expressions and targets whose operations mean those of a block, in each activation of it and in each frame, whatever the values held
-- before.
use Rattle.std.specs.Prelude.{◌≡◌, ℕ, ◌≤◌, ℤ, List, length}
use Rattle.pv_tree.specs.Tree.{ExprTree, OperandTree, BlockTree}
use Rattle.pv_mean.specs.Sources.{Source}
use Rattle.pv_mean.specs.Frames.{Frame}
use Rattle.pv_mean.specs.Endings.{got, and_then}
use Rattle.pv_mean.specs.Values.{value, locate}
use Rattle.pv_eval.specs.declared.expression.Expression.{Expression}
use Rattle.pv_eval.specs.declared.target.Target.{Target}
use Rattle.pv_eval.specs.Ops.{fetched, accessed, run_ops}
use Rattle.pv_eval.specs.Means.{activation}

pub record Evaluates (source : Source) (block : BlockTree) (x : Expression) (e : ExprTree) : Type 0 where
  pub same : (first : ℕ) (frame : Frame) (values : List ℤ) → x.count ≤ length values
      → and_then (run_ops first frame x.ops.items values) (λ vs. got (fetched first frame vs x.result))
      ≡ value source (activation block first) frame e

pub record Locates (source : Source) (block : BlockTree) (t : Target) (o : OperandTree) : Type 0 where
  pub same : (first : ℕ) (frame : Frame) (values : List ℤ) → t.count ≤ length values
      → and_then (run_ops first frame t.ops.items values) (λ vs. got (accessed first frame vs t.access))
      ≡ locate source (activation block first) frame o
