-- The value of a literal under values of the inputs, where input 0 is the one that was made first.
use Rattle.std.specs.Prelude.{ℕ, ℤ, pos, negsuc, zero, suc, Bool, true, false, not, ◌&&◌, if◌then◌else◌, List, [], ◌∷◌, ◌++◌, slice_index_or, fold}
use Rattle.pv_gate.specs.declared.netlist.Node.{Node}
use Rattle.pv_gate.specs.declared.netlist.Node.TheVariants.{True, Input, And, Xor, Mux}

-- the value of a literal, where the list has the values of the nodes from node 1 on; 0 is no literal, and is never asked for
abbrev pub literal_value : List Bool → ℤ → Bool
literal_value values (pos zero) = false
literal_value values (pos (suc n)) = slice_index_or values n false
literal_value values (negsuc n) = not (slice_index_or values n false)

-- one and not the other
abbrev pub exclusive_or : Bool → Bool → Bool
exclusive_or true b = not b
exclusive_or false b = b

-- the value of a node, from the values of the nodes before it
abbrev pub node_value : (ℕ → Bool) → List Bool → Node → Bool
node_value inputs earlier True = true
node_value inputs earlier (Input n) = inputs n
node_value inputs earlier (And a b) = literal_value earlier a && literal_value earlier b
node_value inputs earlier (Xor a b) = exclusive_or (literal_value earlier a) (literal_value earlier b)
node_value inputs earlier (Mux s a b) = if literal_value earlier s then literal_value earlier a else literal_value earlier b

-- the values of all nodes, each made of those before it
abbrev pub node_values : (ℕ → Bool) → List Node → List Bool
node_values inputs nodes = fold (λ earlier node. earlier ++ node_value inputs earlier node ∷ []) [] nodes

-- the value of a literal over these nodes
unfoldable pub value_of : (ℕ → Bool) → List Node → ℤ → Bool
value_of inputs nodes literal = literal_value (node_values inputs nodes) literal
