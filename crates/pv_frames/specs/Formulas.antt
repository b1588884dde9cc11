-- The formula of a query: its frames' clauses, and the literals that have to be true.
use Rattle.std.specs.Prelude.{ℕ, ◌==◌, Bool, false, not, ◌||◌, if◌then◌else◌, List, [], ◌∷◌, ◌++◌, map, filter}
use Rattle.std.specs.List.{list_any, flat_map}
use Rattle.pv_gate.specs.declared.netlist.Node.{Node}
use Rattle.pv_cnf.specs.Literal.{complement}
use Rattle.pv_frames.specs.Frames.{Frame, frame_clauses}

-- whether a literal stands beside its complement
abbrev pub has_complements : List ℕ → Bool
has_complements [] = false
has_complements (lit ∷ lits) = list_any (λ other. other == complement lit) lits || has_complements lits

-- each literal where it stands first
abbrev pub once : List ℕ → List ℕ
once [] = []
once (lit ∷ lits) = lit ∷ filter (λ other. not (other == lit)) (once lits)

-- a clause as it is written: no literal twice, and no clause where a literal stands beside its complement
abbrev pub written : List ℕ → List (List ℕ)
written lits = if has_complements lits then [] else once lits ∷ []

-- the clause of one literal
abbrev pub unit : ℕ → List ℕ
unit lit = lit ∷ []

-- variable 1 is true, each frame's gates are what their operands make, and these literals are true
abbrev pub formula : List Node → List Frame → List ℕ → List (List ℕ)
formula nodes frames lits =
    flat_map written (unit 2 ∷ flat_map (λ frame. frame_clauses frame 1 nodes) frames ++ map unit lits)
