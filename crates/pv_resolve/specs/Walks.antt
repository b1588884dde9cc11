-- Nodes of the indexes on the way along an operand's steps.
use Rattle.std.specs.Prelude.{◌≡◌, ℕ, ◌<◌, ℤ, unsigned_abs, List, [], ◌∷◌, length, IfSome}
use Rattle.pv_place.specs.declared.place.Place.{Place}
use Rattle.pv_tree.specs.declared.expr.Root.{Root}
use Rattle.pv_tree.specs.Tree.{StepTrees, BlockTree}
use Rattle.pv_mean.specs.Sources.{Source}
use Rattle.pv_mean.specs.Frames.{Frame}
use Rattle.pv_mean.specs.Endings.{Tried, got, and_then}
use Rattle.pv_mean.specs.Activations.{root_begins}
use Rattle.pv_mean.specs.Values.{behind, element_begins, argument, arguments_behind}
use Rattle.pv_eval.specs.declared.node.Node.{Node}
use Rattle.pv_eval.specs.Operands.{at}
use Rattle.pv_eval.specs.Means.{Makes, activation}
use Rattle.pv_resolve.specs.declared.begin.Begin.{Begin}
use Rattle.pv_resolve.specs.declared.walk.Walk.{Walk}
use Rattle.pv_resolve.specs.Begins.{HoldsBlock, address_value, begin_at, begins_further, walk_at}

-- the walk has come to where the root and these steps lead
pub record IsWalk (source : Source) (block : BlockTree) (base new : List Node) (w : Walk)
    (root : Root) (more : StepTrees) : Type 0 where
  pub meaning : ℕ → Frame → Tried ℤ
  pub makes : Makes base new (λ first ws. address_value w.address ws) meaning
  pub holds : HoldsBlock source.project w.begin w.block
  pub leads : (first : ℕ) (frame : Frame)
      → and_then (meaning first frame) (λ a. got (walk_at w first a))
      ≡ behind source (activation block first) frame
      (root_begins source (activation block first) root) more

-- the node of an address is there
abbrev pub HasAddress : List Node → Walk → Type 0
HasAddress nodes w = IfSome w.address (λ n. n < length nodes)

-- the values of an address and of an index
abbrev pub number_and_index : ℕ → ℕ → List ℤ → List ℤ
number_and_index from index ws = at ws from ∷ at ws index ∷ []

-- a walk that has come so far goes on to the element at an index
pub record GoesOn (source : Source) (base new : List Node) (begin : Begin) (next : Walk)
    (place : Place) (values : ℕ → Frame → Tried (List ℤ)) : Type 0 where
  pub meaning : ℕ → Frame → Tried ℤ
  pub makes : Makes base new (λ first ws. address_value next.address ws) meaning
  pub holds : HoldsBlock source.project next.begin next.block
  pub leads : (first : ℕ) (frame : Frame)
      → and_then (meaning first frame) (λ a. got (walk_at next first a))
      ≡ and_then (values first frame) (λ vs. element_begins source
      (begins_further (unsigned_abs (argument vs)) (begin_at begin first))
      (argument (arguments_behind vs)) place)
