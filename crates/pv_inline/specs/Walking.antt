-- The walk down the text, as functions of what is made so far.
use Rattle.std.specs.Prelude.{ℕ, zero, suc, ◌+◌, ◌-◌, pos, List, [], ◌∷◌, ◌++◌, map, length, slice_get, slice_index_or, nat_lt, cond, Option, Some, None}
use Rattle.pv_word.specs.declared.types.Ty.TheVariants.{Bool}
use Rattle.pv_flow.specs.declared.term.Node.{Node}
use Rattle.pv_flow.specs.declared.term.Node.TheVariants as node
use Rattle.pv_flow.specs.declared.parts.Set.{Set as CodeSet}
use Rattle.pv_flow.specs.declared.parts.Edge.{Edge as CodeEdge}
use Rattle.pv_flow.specs.declared.parts.CallEdge.{CallEdge as CodeCallEdge}
use Rattle.pv_flow.specs.declared.parts.Parts.{Parts as CodeParts}
use Rattle.pv_flow.specs.Automata.{Loop}
use Rattle.pv_flow.specs.Calls.{own_count}
use Rattle.pv_flow.specs.View.{loop_of, parts_of}
use Rattle.pv_call_tables.specs.declared.marks.Standing.{Standing}
use Rattle.pv_call_tables.specs.declared.marks.Standing.TheVariants as standing
use Rattle.pv_call_tables.specs.declared.drawn.Aim.{Aim}
use Rattle.pv_call_tables.specs.declared.drawn.Aim.TheVariants as leads
use Rattle.pv_call_tables.specs.declared.drawn.Drawn.{Drawn}
use Rattle.pv_call_tables.specs.Chains.{Chains, along}
use Rattle.pv_call_tables.specs.Widths.{of_call}
use Rattle.pv_call_terms.specs.Numbers.{narrow}
use Rattle.pv_call_terms.specs.Terms.{node_at}
use Rattle.pv_call_terms.specs.Deeds.{Plain, deed_seen, deed_at}
use Rattle.pv_call_terms.specs.Resets.{reset_nodes, reset_sets}
use Rattle.pv_inline.specs.Blocks.{code_at}
use Rattle.pv_inline.specs.Tables.{Table, table_in}

-- ---- what is made

pub record Making : Type 0 where
  pub nodes : List Node
  pub deeds : List Plain
  pub drawn : List Drawn
  pub loops : List Loop

-- a deed whose guard is the first node, which is TRUE
abbrev pub true_deed : List CodeSet → Plain
true_deed sets = record { guard = 0; sets = sets }

-- nothing but that node and a deed that sets nothing
abbrev pub first_making : Making
first_making = record { nodes = node.Constant Bool (pos 1) ∷ []; deeds = true_deed [] ∷ []; drawn = []; loops = [] }

abbrev pub deed_put : List CodeSet → Making → Making
deed_put sets m = record { nodes = m.nodes; deeds = m.deeds ++ true_deed sets ∷ []; drawn = m.drawn; loops = m.loops }

abbrev pub drawn_more : Drawn → Making → Making
drawn_more d m = record { nodes = m.nodes; deeds = m.deeds; drawn = m.drawn ++ d ∷ []; loops = m.loops }

abbrev pub looped : Loop → Making → Making
looped loop m = record { nodes = m.nodes; deeds = m.deeds; drawn = m.drawn; loops = m.loops ++ loop ∷ [] }

-- ---- copies

pub record Copy : Type 0 where
  pub parts : CodeParts
  pub table : Table
  -- where its variables lie, and where its first shared one does
  pub place : ℕ → ℕ
  pub shared_at : ℕ
  -- where its text begins, where it leads once it is done, how many deeds and edges stand before its own, and the first number of a
  -- variable that neither its block nor its callers use
  pub start : ℕ
  pub out : Option Aim
  pub deeds : ℕ
  pub edges : ℕ
  pub free : ℕ

abbrev pub with_deeds : ℕ → Copy → Copy
with_deeds deeds c = record {
  parts = c.parts;
  table = c.table;
  place = c.place;
  shared_at = c.shared_at;
  start = c.start;
  out = c.out;
  deeds = deeds;
  edges = c.edges;
  free = c.free;
}

abbrev pub number : Copy → ℕ → ℕ
number c l = c.start + slice_index_or c.table.starts l 0

abbrev pub aim_by : Standing → ℕ → Aim
aim_by standing.Nothing here = leads.Location here
aim_by standing.Done here = leads.Location here
aim_by (standing.Trap kind place) here = leads.Trap kind place
aim_by (standing.Over place) here = leads.Over place

-- of what leads to location l
abbrev pub aim : Copy → ℕ → Aim
aim c l = aim_by (slice_index_or c.table.ends l standing.Nothing) (number c l)

-- the numbers of what begins at location l
abbrev pub numbers_at : Chains → ℕ → List ℕ
numbers_at chains l = along chains.nexts (length chains.nexts) (slice_index_or chains.heads l 0)

-- ---- edges

abbrev pub edge_drawn : Copy → CodeEdge → Drawn
edge_drawn c edge = record { from = number c edge.from; aim = aim c edge.to; deed = c.deeds + edge.deed }

abbrev pub one_drawn : Copy → Option CodeEdge → Making → Making
one_drawn c None m = m
one_drawn c (Some edge) m = drawn_more (edge_drawn c edge) m

abbrev pub all_drawn : Copy → List ℕ → Making → Making
all_drawn c [] m = m
all_drawn c (e ∷ numbers) m = all_drawn c numbers (one_drawn c (slice_get c.parts.edges.items e) m)

-- ---- loops

abbrev pub turn_by : Copy → ℕ → Option CodeEdge → ℕ
turn_by c e None = 0
turn_by c e (Some edge) = (c.edges + slice_index_or c.table.drawn edge.from 0) + slice_index_or c.table.ranks e 0

-- the number of the copy of edge e
abbrev pub turn : Copy → ℕ → ℕ
turn c e = turn_by c e (slice_get c.parts.edges.items e)

abbrev pub loop_made : Copy → Loop → Loop
loop_made c loop = record {
  first = number c loop.first;
  last = number c loop.last + of_call c.table.texts (slice_index_or c.table.calls loop.last None);
  entry_turn = loop.entry_turn;
  turns = map (turn c) loop.turns;
  place = loop.place;
}

abbrev pub one_looped : Copy → Option Loop → Making → Making
one_looped c None m = m
one_looped c (Some loop) m = looped (loop_made c loop) m

abbrev pub all_looped : Copy → List ℕ → Making → Making
all_looped c [] m = m
all_looped c (i ∷ numbers) m = all_looped c numbers (one_looped c (slice_get (map loop_of c.parts.loops.items) i) m)

-- ---- terms and deeds

abbrev pub tables_copied : Copy → Making → Making
tables_copied c m = record {
  nodes = m.nodes ++ map (node_at c.place (length m.nodes)) c.parts.nodes.items;
  deeds = m.deeds ++ map (deed_at c.place (length m.nodes)) (map deed_seen c.parts.deeds.items);
  drawn = m.drawn;
  loops = m.loops;
}

-- ---- edges in and out

abbrev pub edge_in_made : Copy → ℕ → Making → Making
edge_in_made c from m = record {
  nodes = m.nodes ++ reset_nodes c.parts.bound c.parts.shared 0 c.parts.vars.items;
  deeds = m.deeds ++ true_deed (reset_sets c.place c.parts.bound c.parts.shared (length m.nodes) 0 c.parts.vars.items) ∷ [];
  drawn = m.drawn ++ record { from = from; aim = aim c 0; deed = length m.deeds } ∷ [];
  loops = m.loops;
}

abbrev pub out_drawn : Copy → ℕ → Option Aim → Making → Making
out_drawn c l None m = m
out_drawn c l (Some aim) m = drawn_more (record { from = number c l; aim = aim; deed = 0 }) m

-- ---- called blocks

abbrev pub callee_place : (ℕ → ℕ) → ℕ → ℕ → ℕ → ℕ → ℕ → ℕ → ℕ
callee_place place instance b s shared_at base x = cond (nat_lt x b) (place (instance + x))
    (cond (nat_lt x (b + s)) (narrow (shared_at + (x - b))) (narrow (base + (x - (b + s)))))

-- from where on the callee's own variables lie
abbrev pub base : Copy → ℕ → ℕ
base c j = c.free + slice_index_or c.table.bases j 0

-- the copy of the block that call edge j from location l runs
abbrev pub callee_copy : List (Option CodeParts) → Copy → ℕ → ℕ → CodeCallEdge → CodeParts → Copy
callee_copy blocks c l j call q = record {
  parts = q;
  table = table_in blocks q 1;
  place = callee_place c.place call.instance q.bound q.shared c.shared_at (base c j);
  shared_at = c.shared_at;
  start = number c l + 1;
  out = Some (aim c call.to);
  deeds = 0;
  edges = (c.edges + slice_index_or c.table.drawn l 0) + 1;
  free = base c j + own_count (parts_of q);
}

-- `inner` makes the copy of a block once the edge into it is there
abbrev pub called_made : (Copy → Making → Making) → Copy → ℕ → Making → Making
called_made inner c from m = inner c (edge_in_made c from m)

abbrev pub block_made : List (Option CodeParts) → (Copy → Making → Making) → Copy → ℕ → ℕ → CodeCallEdge → Option CodeParts → Making → Making
block_made blocks inner c l j call None m = m
block_made blocks inner c l j call (Some q) m = called_made inner (callee_copy blocks c l j call q) (number c l) m

abbrev pub call_made : List (Option CodeParts) → (Copy → Making → Making) → Copy → ℕ → ℕ → Option CodeCallEdge → Making → Making
call_made blocks inner c l j None m = m
call_made blocks inner c l j (Some call) m = block_made blocks inner c l j call (code_at blocks call.block) m

-- ---- locations

abbrev pub goes_on : List (Option CodeParts) → (Copy → Making → Making) → Copy → ℕ → Option ℕ → Making → Making
goes_on blocks inner c l None m = all_drawn c (numbers_at c.table.edges l) m
goes_on blocks inner c l (Some j) m = call_made blocks inner c l j (slice_get c.parts.calls.items j) m

abbrev pub made_by : List (Option CodeParts) → (Copy → Making → Making) → Copy → ℕ → Standing → Making → Making
made_by blocks inner c l standing.Nothing m = goes_on blocks inner c l (slice_index_or c.table.calls l None) m
made_by blocks inner c l standing.Done m = out_drawn c l c.out m
made_by blocks inner c l (standing.Trap kind place) m = m
made_by blocks inner c l (standing.Over place) m = m

abbrev pub location_made : List (Option CodeParts) → (Copy → Making → Making) → Copy → ℕ → Making → Making
location_made blocks inner c l m =
    made_by blocks inner c l (slice_index_or c.table.ends l standing.Nothing) (all_looped c (numbers_at c.table.loops l) m)

-- of the locations below l
abbrev pub locations_made : List (Option CodeParts) → (Copy → Making → Making) → Copy → ℕ → Making → Making
locations_made blocks inner c zero m = m
locations_made blocks inner c (suc l) m = location_made blocks inner c l (locations_made blocks inner c l m)

abbrev pub copy_made : List (Option CodeParts) → (Copy → Making → Making) → Copy → Making → Making
copy_made blocks inner c m =
    locations_made blocks inner (with_deeds (length m.deeds) c) c.parts.locations (tables_copied c m)

-- down so many levels of calls
abbrev pub below : List (Option CodeParts) → ℕ → Copy → Making → Making
below blocks zero c m = m
below blocks (suc levels) c m = copy_made blocks (below blocks levels) c m

-- ---- the entry

abbrev pub entry_place : ℕ → ℕ → ℕ → ℕ
entry_place b s x = cond (nat_lt x b) x (cond (nat_lt x (b + s)) (narrow (b + (x - b))) (narrow (narrow (b + s) + (x - (b + s)))))

abbrev pub entry_copy : List (Option CodeParts) → CodeParts → Copy
entry_copy blocks p = record {
  parts = p;
  table = table_in blocks p 0;
  place = entry_place p.bound p.shared;
  shared_at = p.bound;
  start = 0;
  out = None;
  deeds = 0;
  edges = 0;
  free = length p.vars.items;
}

-- what is made of the entry and its calls
abbrev pub all_made : List (Option CodeParts) → CodeParts → Making
all_made blocks p = copy_made blocks (below blocks (length blocks)) (entry_copy blocks p) first_making
