-- A step circuit: the nodes of one scan of a machine, and the literals that stand for the scan's beginning, end and outcome.
use Rattle.std.specs.Prelude.{◌≡◌, ℕ, ◌+◌, ℤ, pos, Bool, List, ◌∷◌, ◌++◌, length, map, All}
use Rattle.std.specs.List.{range_with_len}
use Rattle.std.specs.List.Sorted.{IsPermutation}
use Rattle.pv_gate.specs.declared.netlist.Node.{Node}
use Rattle.pv_gate.specs.declared.netlist.Node.TheVariants.{True, Input}
use Rattle.pv_gate.specs.Node.{Names, input_count}
use Rattle.pv_gate.specs.Value.{value_of}
use Rattle.pv_gate.specs.Netlist.{IsNetlist, Extends}

-- literals of bits, in their order
abbrev pub Literals : Type 0
Literals = List ℤ

-- the nodes before the scan: constant true, and n inputs
abbrev pub begin_nodes : ℕ → List Node
begin_nodes n = True ∷ map (λ i. Input i) (range_with_len 0 n)

-- the literals of n input nodes, from input m on: input i is node 2 + i
abbrev pub input_literals : ℕ → ℕ → Literals
input_literals m n = map (λ i. pos (2 + i)) (range_with_len m n)

-- a step circuit, as a list of nodes and the literals that stand for a scan's begin, end and outcome
pub record Circuit : Type 0 where
  pub nodes : List Node
  -- of the state's bits at the beginning
  pub state_in : Literals
  -- of the input's bits
  pub input : Literals
  -- of the state's bits at the end
  pub state_out : Literals
  pub ok : ℤ
  pub fail : ℤ

-- a circuit of these parts
abbrev pub circuit_with : List Node → Literals → Literals → Literals → ℤ → ℤ → Circuit
circuit_with nodes state_in input state_out ok fail =
    record { nodes = nodes; state_in = state_in; input = input; state_out = state_out; ok = ok; fail = fail }

-- the nodes are in order and the inputs stand first, each literal names a node, the state has as many literals after the scan as
-- before it, and those of the state and the input before it name the input nodes, each once
pub record IsCircuit (c : Circuit) : Type 0 where
  pub netlist : IsNetlist c.nodes
  pub inputs_first : Extends (begin_nodes (input_count c.nodes)) c.nodes
  pub state_in : All (Names (length c.nodes)) c.state_in
  pub input : All (Names (length c.nodes)) c.input
  pub state_out : All (Names (length c.nodes)) c.state_out
  pub ok : Names (length c.nodes) c.ok
  pub fail : Names (length c.nodes) c.fail
  pub same_state : length c.state_out ≡ length c.state_in
  pub all_inputs : IsPermutation (input_literals 0 (input_count c.nodes)) (c.state_in ++ c.input)

-- the values of literals
abbrev pub values_of : (ℕ → Bool) → List Node → Literals → List Bool
values_of inputs nodes literals = map (value_of inputs nodes) literals
