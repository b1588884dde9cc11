-- Nodes that are put behind others, and what they mean: an expression or an operand of a block, in each activation of it and in
-- each frame.
use Rattle.std.specs.Prelude.{◌≡◌, ℕ, ◌<◌, ◌≤◌, ℤ, List, ◌++◌, length}
use Rattle.pv_tree.specs.Tree.{ExprTree, OperandTree, BlockTree}
use Rattle.pv_mean.specs.Sources.{Source}
use Rattle.pv_mean.specs.Frames.{Frame}
use Rattle.pv_mean.specs.Endings.{Tried, got, and_then}
use Rattle.pv_mean.specs.Activations.{Activation}
use Rattle.pv_mean.specs.Values.{value, locate}
use Rattle.pv_eval.specs.declared.node.Operand.{Operand}
use Rattle.pv_eval.specs.declared.node.Node.{Node}
use Rattle.pv_eval.specs.Operands.{at, spot_at}
use Rattle.pv_eval.specs.Nodes.{run}

-- behind the old nodes stand some more, and what is read off the values then is what is meant, or they trap as that does; later
-- values don't change it
pub record Makes {A : Type 0} (old new : List Node) (out : ℕ → List ℤ → A) (meaning : ℕ → Frame → Tried A) : Type 0 where
  pub code : List Node
  pub extends : new ≡ old ++ code
  pub same : (first : ℕ) (frame : Frame) (values : List ℤ) → length values ≡ length old
      → and_then (run first frame code values) (λ ws. got (out first ws)) ≡ meaning first frame
  pub kept : (first : ℕ) (ws more : List ℤ) → length new ≤ length ws
      → out first (ws ++ more) ≡ out first ws

abbrev pub activation : BlockTree → ℕ → Activation
activation block first = record { block = block; first = first }

-- node n has the value of the expression
pub record Means (source : Source) (block : BlockTree) (old new : List Node) (n : ℕ) (e : ExprTree) : Type 0 where
  pub within : n < length new
  pub makes : Makes old new (λ first ws. at ws n)
      (λ first frame. value source (activation block first) frame e)

-- the operand of nodes names the spot that the operand names
pub record Names (source : Source) (block : BlockTree) (old new : List Node) (o : Operand) (operand : OperandTree) : Type 0 where
  pub makes : Makes old new (λ first ws. spot_at first ws o)
      (λ first frame. locate source (activation block first) frame operand)
