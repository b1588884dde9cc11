-- Lists of nodes in which a node names only nodes before it.
use Rattle.std.specs.Prelude.{◌≡◌, ℕ, ℤ, List, [], ◌++◌, length, take, Some, slice_get, Bool, not, ◌&&◌, ◌||◌, if◌then◌else◌}
use Rattle.pv_gate.specs.declared.netlist.Node.{Node}
use Rattle.pv_gate.specs.declared.netlist.Node.TheVariants.{True, Input, And, Xor, Mux}
use Rattle.pv_gate.specs.Node.{Names, input_count}
use Rattle.pv_gate.specs.Value.{value_of, exclusive_or}

-- the nodes of a circuit, from node 1 on, and how many gates it may have
pub record Netlist : Type 0 where
  pub nodes : List Node
  pub limit : ℕ

-- the node may follow these nodes: only the first is constant true, inputs are numbered in order from 0, and operands name earlier nodes
abbrev pub MayFollow : List Node → Node → Type 0
MayFollow before True = before ≡ []
MayFollow before (Input n) = n ≡ input_count before
MayFollow before (And a b) = Names (length before) a × Names (length before) b
MayFollow before (Xor a b) = Names (length before) a × Names (length before) b
MayFollow before (Mux s a b) = Names (length before) s × (Names (length before) a × Names (length before) b)

-- node 1 is constant true, and each node may follow those before it
pub record IsNetlist (nodes : List Node) : Type 0 where
  pub first : slice_get nodes 0 ≡ Some True
  pub each : (k : ℕ) (node : Node) → slice_get nodes k ≡ Some node → MayFollow (take k nodes) node

-- new has the nodes of old, and maybe more after them
pub record Extends (old new : List Node) : Type 0 where
  pub added : List Node
  pub is : new ≡ old ++ added

-- each literal of old has the value in new that it has in old
abbrev pub KeepsValues : List Node → List Node → Type 0
KeepsValues old new = (inputs : ℕ → Bool) (literal : ℤ) → Names (length old) literal → value_of inputs new literal ≡ value_of inputs old literal

-- ---- what a literal of new stands for, whatever the inputs are

-- a new input's literal, where old has the inputs before it
abbrev pub IsInput : List Node → List Node → ℤ → Type 0
IsInput old new literal = (inputs : ℕ → Bool) → value_of inputs new literal ≡ inputs (input_count old)

-- not a
abbrev pub IsNot : List Node → ℤ → ℤ → Type 0
IsNot nodes a literal = (inputs : ℕ → Bool) → value_of inputs nodes literal ≡ not (value_of inputs nodes a)

-- a and b
abbrev pub IsAnd : List Node → ℤ → ℤ → List Node → ℤ → Type 0
IsAnd old a b new literal = (inputs : ℕ → Bool) → value_of inputs new literal ≡ (value_of inputs old a && value_of inputs old b)

-- a or b
abbrev pub IsOr : List Node → ℤ → ℤ → List Node → ℤ → Type 0
IsOr old a b new literal = (inputs : ℕ → Bool) → value_of inputs new literal ≡ (value_of inputs old a || value_of inputs old b)

-- a or b, and not both
abbrev pub IsXor : List Node → ℤ → ℤ → List Node → ℤ → Type 0
IsXor old a b new literal = (inputs : ℕ → Bool) → value_of inputs new literal ≡ exclusive_or (value_of inputs old a) (value_of inputs old b)

-- a where s, else b
abbrev pub IsMux : List Node → ℤ → ℤ → ℤ → List Node → ℤ → Type 0
IsMux old s a b new literal = (inputs : ℕ → Bool) → value_of inputs new literal ≡ (if value_of inputs old s then value_of inputs old a else value_of inputs old b)
