-- Which literal `and`, `xor` and `mux` give over a list of nodes, and which nodes there are then. Constants and complements fold, and a node that is there is used again.
use Rattle.std.specs.Prelude.{ℕ, ◌<◌, suc, ℤ, pos, neg_ℤ, unsigned_abs, nat_le, Bool, ◌||◌, if◌then◌else◌, Option, None, Some, List, [], ◌∷◌, ◌++◌, length}
use Rattle.std.specs.Int.{is_negative}
use Rattle.std.specs.Ordering.{int_eq}
use Rattle.pv_gate.specs.declared.netlist.Node.{Node}
use Rattle.pv_gate.specs.declared.netlist.Node.TheVariants.{Input, And, Xor, Mux}
use Rattle.pv_gate.specs.Value.{exclusive_or}
use Rattle.pv_gate.specs.Netlist.{Netlist}
use Rattle.pv_gate.specs.Node.{is_same, gate_count, input_count, true_literal, false_literal}

-- a literal, and the nodes that there are then
pub record Made : Type 0 where
  pub literal : ℤ
  pub nodes : List Node

-- more gates than the limit allows: what was to be made has a gate that is number limit + 1
abbrev pub IsBeyond : Netlist → Made → Type 0
IsBeyond before made = before.limit < gate_count made.nodes

-- a literal of nodes that are there already
abbrev pub present : List Node → ℤ → Made
present nodes literal = record { literal = literal; nodes = nodes }

abbrev pub complemented : Made → Made
complemented made = record { literal = neg_ℤ made.literal; nodes = made.nodes }

abbrev pub complemented_if : Bool → Made → Made
complemented_if flip made = if flip then complemented made else made

-- the number of the first such node, where the list begins at this number
abbrev pub number_from : ℕ → Node → List Node → Option ℕ
number_from n node [] = None
number_from n node (other ∷ others) = if is_same other node then Some n else number_from (suc n) node others

abbrev pub number_of : Node → List Node → Option ℕ
number_of node nodes = number_from 1 node nodes

-- the node as the next one
abbrev pub added : List Node → Node → Made
added nodes node = record { literal = pos (suc (length nodes)); nodes = nodes ++ node ∷ [] }

-- the node with this number, or else the next one
abbrev pub shared_at : List Node → Node → Option ℕ → Made
shared_at nodes node (Some n) = present nodes (pos n)
shared_at nodes node None = added nodes node

-- the node where it is there, or else the next one
unfoldable pub share : List Node → Node → Made
share nodes node = shared_at nodes node (number_of node nodes)

-- two operands, ordered by their nodes' numbers
abbrev pub lower : ℤ → ℤ → ℤ
lower a b = if nat_le (unsigned_abs a) (unsigned_abs b) then a else b

abbrev pub higher : ℤ → ℤ → ℤ
higher a b = if nat_le (unsigned_abs a) (unsigned_abs b) then b else a

abbrev pub input_gate : List Node → Made
input_gate nodes = added nodes (Input (input_count nodes))

-- false where one is false or one is the other's complement; the other where one is true; either where they are the same; else the node
unfoldable pub and_gate : List Node → ℤ → ℤ → Made
and_gate nodes a b =
    if int_eq a false_literal || (int_eq b false_literal || int_eq a (neg_ℤ b)) then present nodes false_literal
    else if int_eq a true_literal then present nodes b
    else if int_eq b true_literal || int_eq a b then present nodes a
    else share nodes (And (lower a b) (higher a b))

-- one of the two is true where not both complements are
unfoldable pub or_gate : List Node → ℤ → ℤ → Made
or_gate nodes a b = complemented (and_gate nodes (neg_ℤ a) (neg_ℤ b))

-- an Xor node has no complemented operand: the result is complemented once for each
unfoldable pub xor_made : List Node → ℤ → ℤ → Made
xor_made nodes a b =
    complemented_if (exclusive_or (is_negative a) (is_negative b)) (share nodes (Xor (lower (pos (unsigned_abs a)) (pos (unsigned_abs b))) (higher (pos (unsigned_abs a)) (pos (unsigned_abs b)))))

unfoldable pub xor_gate : List Node → ℤ → ℤ → Made
xor_gate nodes a b =
    if int_eq a false_literal then present nodes b
    else if int_eq a true_literal then present nodes (neg_ℤ b)
    else if int_eq b false_literal then present nodes a
    else if int_eq b true_literal then present nodes (neg_ℤ a)
    else if int_eq a b then present nodes false_literal
    else if int_eq a (neg_ℤ b) then present nodes true_literal
    else xor_made nodes a b

-- a Mux node's first choice is no complement: else both are complemented, and the result
unfoldable pub mux_made : List Node → ℤ → ℤ → ℤ → Made
mux_made nodes s a b =
    if is_negative a then complemented (share nodes (Mux s (neg_ℤ a) (neg_ℤ b)))
    else share nodes (Mux s a b)

-- a where s, else b, for an s that is a node and no complement or constant, and a and b that differ
unfoldable pub choice_gate : List Node → ℤ → ℤ → ℤ → Made
choice_gate nodes s a b =
    if int_eq a true_literal then or_gate nodes s b
    else if int_eq a false_literal then and_gate nodes (neg_ℤ s) b
    else if int_eq b true_literal then or_gate nodes (neg_ℤ s) a
    else if int_eq b false_literal then and_gate nodes s a
    else if int_eq b (neg_ℤ a) then complemented (xor_gate nodes s a)
    else mux_made nodes s a b

-- a where s, else b
unfoldable pub mux_gate : List Node → ℤ → ℤ → ℤ → Made
mux_gate nodes s a b =
    if int_eq s true_literal then present nodes a
    else if int_eq s false_literal then present nodes b
    else if int_eq a b then present nodes a
    else if is_negative s then choice_gate nodes (neg_ℤ s) b a
    else choice_gate nodes s a b
