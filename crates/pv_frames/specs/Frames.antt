-- Frames: a circuit's gates as clauses. A frame gives each node of the circuit a literal of the formula.
use Rattle.std.specs.Prelude.{ℕ, suc, ℤ, pos, negsuc, List, [], ◌∷◌, ◌++◌}
use Rattle.pv_gate.specs.declared.netlist.Node.{Node}
use Rattle.pv_gate.specs.declared.netlist.Node.TheVariants.{True, Input, And, Xor, Mux}
use Rattle.pv_cnf.specs.Literal.{complement}

-- the literal of each node, by the node's number
abbrev pub Frame : Type 0
Frame = ℕ → ℕ

-- the literal of a circuit's literal: that of its node, or its complement
abbrev pub literal_in : Frame → ℤ → ℕ
literal_in frame (pos n) = frame n
literal_in frame (negsuc n) = complement (frame (suc n))

-- ---- the clauses by which g is what a gate makes of its operands

abbrev pub and_clauses : ℕ → ℕ → ℕ → List (List ℕ)
and_clauses g a b =
    (complement g ∷ a ∷ [])
    ∷ (complement g ∷ b ∷ [])
    ∷ (g ∷ complement a ∷ complement b ∷ []) ∷ []

abbrev pub xor_clauses : ℕ → ℕ → ℕ → List (List ℕ)
xor_clauses g a b =
    (complement g ∷ a ∷ b ∷ [])
    ∷ (complement g ∷ complement a ∷ complement b ∷ [])
    ∷ (g ∷ complement a ∷ b ∷ [])
    ∷ (g ∷ a ∷ complement b ∷ []) ∷ []

abbrev pub mux_clauses : ℕ → ℕ → ℕ → ℕ → List (List ℕ)
mux_clauses g s a b =
    (complement g ∷ complement s ∷ a ∷ [])
    ∷ (g ∷ complement s ∷ complement a ∷ [])
    ∷ (complement g ∷ s ∷ b ∷ [])
    ∷ (g ∷ s ∷ complement b ∷ []) ∷ []

-- the clauses of node number n: a gate's, and none for the others
abbrev pub node_clauses : Frame → ℕ → Node → List (List ℕ)
node_clauses frame n True = []
node_clauses frame n (Input m) = []
node_clauses frame n (And a b) = and_clauses (frame n) (literal_in frame a) (literal_in frame b)
node_clauses frame n (Xor a b) = xor_clauses (frame n) (literal_in frame a) (literal_in frame b)
node_clauses frame n (Mux s a b) = mux_clauses (frame n) (literal_in frame s) (literal_in frame a) (literal_in frame b)

-- the clauses of the nodes in order, where the first is node number n
abbrev pub frame_clauses : Frame → ℕ → List Node → List (List ℕ)
frame_clauses frame n [] = []
frame_clauses frame n (node ∷ nodes) = node_clauses frame n node ++ frame_clauses frame (suc n) nodes
