-- Nodes stand behind their parts, and the numbers of cells keep within 32 bits.
use Rattle.std.specs.Prelude.{◌≡◌, ℕ, ◌+◌, ◌<◌, ◌≤◌, ◌^◌, ℤ, pos, negsuc, ◌+ℤ◌, ◌≤ℤ◌, List, take, length, slice_get, Option, Some, None, option_and_then}
use Rattle.pv_eval.specs.declared.node.Node.{Node}
use Rattle.pv_eval.specs.declared.node.Node.TheVariants.{Constant, Read, One, Two, Three, Element}
use Rattle.pv_eval.specs.Operands.{at, span, IsOperand}

-- the parts are among so many nodes
abbrev pub AreBelow : ℕ → Node → Type 0
AreBelow n (Constant v) = Unit {0}
AreBelow n (Read o place) = IsOperand n o
AreBelow n (One op ty arg) = arg < n
AreBelow n (Two op ty place left right) = (left < n) × (right < n)
AreBelow n (Three op a b c) = (a < n) × (b < n) × (c < n)
AreBelow n (Element from index low high stride most place) = (from < n) × (index < n)

-- the most that the number of a cell is, where the node has one
abbrev pub most_of : Node → Option ℕ
most_of (Constant (pos v)) = Some v
most_of (Constant (negsuc v)) = None
most_of (Read o place) = None
most_of (One op ty arg) = None
most_of (Two op ty place left right) = None
most_of (Three op a b c) = None
most_of (Element from index low high stride most place) = Some most

abbrev pub most_at : List Node → ℕ → Option ℕ
most_at nodes n = option_and_then most_of (slice_get nodes n)

-- with so many more it is still within these
abbrev pub IsMost : Option ℕ → ℕ → ℕ → Type 0
IsMost None more most = ⊥
IsMost (Some m) more most = m + more ≤ most

abbrev pub HasMost : List Node → Node → Type 0
HasMost before (Constant v) = Unit {0}
HasMost before (Read o place) = Unit {0}
HasMost before (One op ty arg) = Unit {0}
HasMost before (Two op ty place left right) = Unit {0}
HasMost before (Three op a b c) = Unit {0}
HasMost before (Element from index low high stride most place) =
    IsMost (most_at before from) (span low high stride) most × (most < 2 ^ 32)

-- a node that may stand behind these
pub record MayFollow (before : List Node) (node : Node) : Type 0 where
  pub below : AreBelow (length before) node
  pub most : HasMost before node

pub record AreNodes (nodes : List Node) : Type 0 where
  pub each : (k : ℕ) (node : Node) → slice_get nodes k ≡ Some node → MayFollow (take k nodes) node

-- the numbers of cells among the values are at most those of their nodes
pub record AreWithin (nodes : List Node) (values : List ℤ) : Type 0 where
  pub each : (k m : ℕ) → k < length values → most_at nodes k ≡ Some m
      → (pos 0 ≤ℤ at values k) × (at values k ≤ℤ pos m)

-- an element's number fits
abbrev pub IsRoomFor : List ℤ → Node → Type 0
IsRoomFor values (Constant v) = Unit {0}
IsRoomFor values (Read o place) = Unit {0}
IsRoomFor values (One op ty arg) = Unit {0}
IsRoomFor values (Two op ty place left right) = Unit {0}
IsRoomFor values (Three op a b c) = Unit {0}
IsRoomFor values (Element from index low high stride most place) =
    (pos 0 ≤ℤ at values from) × (at values from +ℤ pos (span low high stride)) ≤ℤ pos (2 ^ 32)
