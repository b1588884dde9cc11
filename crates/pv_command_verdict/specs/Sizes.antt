-- How large what is decided may be: the edges of the entered block's automaton, and the gates of the circuit of its scan.
use Rattle.std.specs.Prelude.{◌<◌, ℕ, List, length, codes}
use Rattle.pv_gate.specs.Node.{gate_count}
use Rattle.pv_step.specs.Circuits.{circuit_of}
use Rattle.pv_sizes.specs.declared.count.TheConstants.{MAX_EDGES}
use Rattle.pv_queries.specs.declared.built.TheConstants.{MAX_BUILT_GATES}
use Rattle.pv_bool_load.specs.Handed.{limit_line, SubjectData}
use Rattle.pv_bool_load.specs.Forms.{program_of}

-- each assignment is an edge, as it makes no check that may stop the scan; that this is the automaton's size is a law (`CountsEdges`)
abbrev pub edges_of : SubjectData → ℕ
edges_of s = length (program_of s).body

abbrev pub HasTooManyEdges : SubjectData → Type 0
HasTooManyEdges s = MAX_EDGES < edges_of s

-- the gates of the circuit of one scan, by which all queries are put
abbrev pub gates_of : SubjectData → ℕ
gates_of s = gate_count (circuit_of (program_of s)).nodes

abbrev pub HasTooManyGates : SubjectData → Type 0
HasTooManyGates s = MAX_BUILT_GATES < gates_of s

abbrev pub edges_line : List ℕ
edges_line = limit_line (codes "edges") MAX_EDGES

abbrev pub gates_line : List ℕ
gates_line = limit_line (codes "gates") MAX_BUILT_GATES
