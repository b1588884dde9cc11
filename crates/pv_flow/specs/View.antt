-- The code's parts as plain data: each number of a term is the tree that it stands for.
use Rattle.std.specs.Prelude.{ℕ, pos, List, [], ◌∷◌, ◌++◌, map, slice_get, slice_index_or, Option, Some, None}
use Rattle.pv_word.specs.declared.types.Ty.TheVariants.{Bool}
use Rattle.pv_flow.specs.declared.term.Node.{Node}
use Rattle.pv_flow.specs.declared.term.Node.TheVariants as node
use Rattle.pv_flow.specs.declared.parts.Variable.{Variable as CodeVariable}
use Rattle.pv_flow.specs.declared.parts.Set.{Set as CodeSet}
use Rattle.pv_flow.specs.declared.parts.Deed.{Deed as CodeDeed}
use Rattle.pv_flow.specs.declared.parts.Edge.{Edge as CodeEdge}
use Rattle.pv_flow.specs.declared.parts.CallEdge.{CallEdge as CodeCallEdge}
use Rattle.pv_flow.specs.declared.parts.Loop.{Loop as CodeLoop}
use Rattle.pv_flow.specs.declared.parts.TrapEnd.{TrapEnd as CodeTrapEnd}
use Rattle.pv_flow.specs.declared.parts.OverEnd.{OverEnd as CodeOverEnd}
use Rattle.pv_flow.specs.declared.parts.Parts.{Parts as CodeParts}
use Rattle.pv_flow.specs.Terms.{Term, constant, variable, unary, binary, select}
use Rattle.pv_flow.specs.Automata.{Variable, Set, Edge, CallEdge, Loop, TrapEnd, OverEnd, Parts}

-- ---- terms

abbrev pub false_term : Term
false_term = constant Bool (pos 0)

abbrev pub term_at : List Term → ℕ → Term
term_at terms n = slice_index_or terms n false_term

-- by the terms of the nodes before it
abbrev pub term_of : List Term → Node → Term
term_of terms (node.Constant ty v) = constant ty v
term_of terms (node.Variable n) = variable n
term_of terms (node.Unary op ty t) = unary op ty (term_at terms t)
term_of terms (node.Binary op ty s t) = binary op ty (term_at terms s) (term_at terms t)
term_of terms (node.Select ty c s t) = select ty (term_at terms c) (term_at terms s) (term_at terms t)

-- those before, and those of these nodes
abbrev pub terms_after : List Term → List Node → List Term
terms_after terms [] = terms
terms_after terms (n ∷ nodes) = terms_after (terms ++ term_of terms n ∷ []) nodes

abbrev pub terms_of : List Node → List Term
terms_of nodes = terms_after [] nodes

-- ---- parts

abbrev pub variable_of : CodeVariable → Variable
variable_of v = record { ty = v.ty; role = v.role; start = v.start; only = v.only }

abbrev pub set_of : List Term → CodeSet → Set
set_of terms set = record { variable = set.variable; value = term_at terms set.value }

abbrev pub guard_of : List Term → Option CodeDeed → Term
guard_of terms None = false_term
guard_of terms (Some deed) = term_at terms deed.guard

abbrev pub sets_of : List Term → Option CodeDeed → List Set
sets_of terms None = []
sets_of terms (Some deed) = map (set_of terms) deed.sets.items

abbrev pub edge_of : List Term → List CodeDeed → CodeEdge → Edge
edge_of terms deeds edge = record {
  from = edge.from;
  to = edge.to;
  guard = guard_of terms (slice_get deeds edge.deed);
  sets = sets_of terms (slice_get deeds edge.deed);
}

abbrev pub call_edge_of : CodeCallEdge → CallEdge
call_edge_of call = record { from = call.from; to = call.to; block = call.block; instance = call.instance; place = call.place }

abbrev pub loop_of : CodeLoop → Loop
loop_of loop = record { first = loop.first; last = loop.last; entry_turn = loop.entry_turn; turns = loop.turns.items; place = loop.place }

abbrev pub trap_end_of : CodeTrapEnd → TrapEnd
trap_end_of end = record { location = end.location; kind = end.kind; place = end.place }

abbrev pub over_end_of : CodeOverEnd → OverEnd
over_end_of end = record { location = end.location; place = end.place }

abbrev pub parts_of : CodeParts → Parts
parts_of p = record {
  vars = map variable_of p.vars.items;
  bound = p.bound;
  shared = p.shared;
  locations = p.locations;
  edges = map (edge_of (terms_of p.nodes.items) p.deeds.items) p.edges.items;
  calls = map call_edge_of p.calls.items;
  loops = map loop_of p.loops.items;
  done = p.done;
  traps = map trap_end_of p.traps.items;
  overs = map over_end_of p.overs.items;
}
