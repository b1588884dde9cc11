-- A graph of the code: for each node the nodes that it leads to at once.
use Rattle.std.specs.Prelude.{ℕ, List}
use Rattle.pv_graph.specs.Graphs.{lists_of}
use Rattle.pv_graph.specs.declared.graph.Graph.{Graph}

abbrev pub steps_of : Graph → List (List ℕ)
steps_of graph = lists_of graph.next.items
