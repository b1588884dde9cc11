-- What the index and the counts beside a list of nodes say of it.
use Rattle.std.specs.Prelude.{◌≡◌, ℕ, ◌+◌, ◌≤◌, ℤ, pos, List, length, Option, IsTrue}
use Rattle.std.specs.Option.{option_map}
use Rattle.std.specs.Ordering.{nat_cmp, int_cmp, ordering_then}
use Rattle.std.specs.declared.cmp.Ordering.{Ordering}
use Rattle.std.specs.declared.cmp.Ordering.TheVariants.{Equal}
use Rattle.pv_gate.specs.declared.netlist.TheConstants.{MAX_GATES, MAX_INPUTS}
use Rattle.pv_gate.specs.declared.netlist.Node.{Node}
use Rattle.pv_gate.specs.declared.netlist.Node.TheVariants.{True, Input, And, Xor, Mux}
use Rattle.pv_gate.specs.Node.{is_gate, gate_count, input_count}
use Rattle.pv_gate.specs.Netlist.{IsNetlist}
use Rattle.pv_gate.specs.Build.{number_of}

-- what `get` answers for a node
abbrev pub Lookup : Type 0
Lookup = Node → Option ℤ

-- the nodes are in order, the counts are theirs and within their bounds, and the look-up finds each gate's literal
pub record IsKept (nodes : List Node) (find : Lookup) (gates inputs limit : ℕ) : Type 0 where
  pub netlist : IsNetlist nodes
  pub gates_are : gates ≡ gate_count nodes
  pub inputs_are : inputs ≡ input_count nodes
  pub all : length nodes ≡ 1 + gates + inputs
  pub within : gates ≤ limit
  pub few_gates : limit ≤ MAX_GATES
  pub few_inputs : inputs ≤ MAX_INPUTS
  pub finds : (node : Node) → IsTrue (is_gate node) → find node ≡ option_map pos (number_of node nodes)

-- the order of the index: by kind, then by operands
abbrev pub kind_of : Node → ℕ
kind_of True = 0
kind_of (Input n) = 1
kind_of (And a b) = 2
kind_of (Xor a b) = 3
kind_of (Mux s a b) = 4

abbrev pub node_cmp : Node → Node → Ordering
node_cmp True True = Equal
node_cmp (Input m) (Input n) = nat_cmp m n
node_cmp (And a b) (And c d) = ordering_then (int_cmp a c) (int_cmp b d)
node_cmp (Xor a b) (Xor c d) = ordering_then (int_cmp a c) (int_cmp b d)
node_cmp (Mux s a b) (Mux t c d) = ordering_then (int_cmp s t) (ordering_then (int_cmp a c) (int_cmp b d))
node_cmp x y = nat_cmp (kind_of x) (kind_of y)
