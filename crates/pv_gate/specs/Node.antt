-- Nodes and literals. A literal is a whole number: n is node number n, and -n the complement of node n.
use Rattle.std.specs.Prelude.{ℕ, ◌≤◌, ℤ, pos, negsuc, nat_eq, Bool, true, false, ◌&&◌, List, count_by, unsigned_abs}
use Rattle.std.specs.Ordering.{int_eq}
use Rattle.pv_gate.specs.declared.netlist.Node.{Node}
use Rattle.pv_gate.specs.declared.netlist.Node.TheVariants.{True, Input, And, Xor, Mux}

-- node 1 is constant true
abbrev pub true_literal : ℤ
true_literal = pos 1

abbrev pub false_literal : ℤ
false_literal = negsuc 0

-- the literal names one of the nodes 1 to count
pub record Names (count : ℕ) (literal : ℤ) : Type 0 where
  pub from_one : 1 ≤ unsigned_abs literal
  pub to_last : unsigned_abs literal ≤ count

-- And, Xor and Mux nodes are gates, which the limit counts together
abbrev pub is_gate : Node → Bool
is_gate True = false
is_gate (Input n) = false
is_gate (And a b) = true
is_gate (Xor a b) = true
is_gate (Mux s a b) = true

abbrev pub is_input : Node → Bool
is_input True = false
is_input (Input n) = true
is_input (And a b) = false
is_input (Xor a b) = false
is_input (Mux s a b) = false

abbrev pub gate_count : List Node → ℕ
gate_count nodes = count_by is_gate nodes

abbrev pub input_count : List Node → ℕ
input_count nodes = count_by is_input nodes

-- the same kind of node with the same operands
abbrev pub is_same : Node → Node → Bool
is_same True True = true
is_same (Input m) (Input n) = nat_eq m n
is_same (And a b) (And c d) = int_eq a c && int_eq b d
is_same (Xor a b) (Xor c d) = int_eq a c && int_eq b d
is_same (Mux s a b) (Mux t c d) = int_eq s t && (int_eq a c && int_eq b d)
is_same _ _ = false
