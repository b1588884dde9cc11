-- The code's tables, copies and places are those of the lists.
use Rattle.std.proofs.Common.{◌≡◌, ℕ, suc, ◌+◌, ◌-◌, ◌<◌, ◌≤◌, ◌⊎◌, inl, inr, List, ◌++◌, map, length, replicate, nat_lt, cond, Option, Some, None, sym, ap, ◌∙◌, arith}
use Rattle.std.specs.Prelude.{slice_index_or}
use Rattle.std.proofs.Math.Path.{fun_ext}
use Rattle.std.proofs.lemmas.Bool.{cases_lt, cond-true, cond-false, lt-ltb, le-ltb}
use Rattle.std.proofs.lemmas.List.{length-map}
use Rattle.pv_flow.specs.declared.term.Node.{Node}
use Rattle.pv_flow.specs.declared.parts.Deed.{Deed as CodeDeed}
use Rattle.pv_flow.specs.declared.parts.CallEdge.{CallEdge as CodeCallEdge}
use Rattle.pv_flow.specs.declared.parts.Parts.{Parts as CodeParts}
use Rattle.pv_flow.specs.Automata.{Loop}
use Rattle.pv_flow.specs.Calls.{own_count}
use Rattle.pv_flow.specs.View.{parts_of}
use Rattle.pv_call_copies.specs.Inlined.{span}
use Rattle.pv_call_tables.specs.declared.marks.Standing.{Standing}
use Rattle.pv_call_tables.specs.declared.drawn.Aim.{Aim}
use Rattle.pv_call_tables.specs.declared.drawn.Drawn.{Drawn}
use Rattle.pv_call_tables.specs.Standings.{standings_of, calls_of}
use Rattle.pv_call_tables.specs.Chains.{Chains, chains_of, from_of, first_of}
use Rattle.pv_call_tables.specs.Ranks.{counted, ranks_by}
use Rattle.pv_call_tables.specs.Widths.{text_at, drawn_at, sums_below}
use Rattle.pv_call_terms.specs.declared.places.Places.{Places}
use Rattle.pv_call_terms.specs.Numbers.{narrow}
use Rattle.pv_call_terms.specs.Terms.{node_at}
use Rattle.pv_call_terms.specs.Deeds.{Plain, deed_seen, deed_at}
use Rattle.pv_call_terms.specs.Places.{place_of, IsEntry, IsCallee}
use Rattle.pv_inline.specs.declared.table.Table.{Table as CodeTable}
use Rattle.pv_inline.specs.declared.copying.Body.{Body as CodeBody}
use Rattle.pv_inline.specs.Blocks.{block_in, blocks_in, code_at}
use Rattle.pv_inline.specs.Inlining.{IsEntryBody}
use Rattle.pv_inline.specs.Seen.{table_seen, IsCalleeBody}
use Rattle.pv_inline.specs.Tables.{Table, span_below, spans_of, sizes_of, bases_of, starts_in, drawn_in, table_in}
use Rattle.pv_inline.specs.Walking.{Making, Copy, with_deeds, tables_copied, first_making, all_made, number, aim, callee_place, base, edge_in_made, callee_copy, called_made, block_made, call_made, entry_place, entry_copy, locations_made, copy_made, below}

-- ---- tables

abbrev table_with : List Standing → List (Option ℕ) → List ℕ → List ℕ → List ℕ → List ℕ → List ℕ → Chains → Chains → Table
table_with ends calls texts bases starts drawn ranks edges loops = record {
  ends = ends;
  calls = calls;
  texts = texts;
  bases = bases;
  starts = starts;
  drawn = drawn;
  ranks = ranks;
  edges = edges;
  loops = loops;
}

-- down as many levels as there are blocks
pub as_deep : (blocks : List (Option CodeParts)) (calls : List CodeCallEdge)
    → spans_of (span_below (blocks_in blocks) (length blocks)) calls ≡ spans_of (span (blocks_in blocks)) calls
as_deep blocks calls = sym (ap (λ (n : ℕ). spans_of (span_below (blocks_in blocks) n) calls) (length-map blocks block_in))

pub table_is : (blocks : List (Option CodeParts)) (p : CodeParts) (outs : ℕ) (t : Table) (calls : List CodeCallEdge) (sizes counts : List ℕ)
    → t.ends ≡ standings_of p → t.calls ≡ calls_of p → calls ≡ p.calls.items
    → t.texts ≡ spans_of (span_below (blocks_in blocks) (length blocks)) calls
    → sizes ≡ sizes_of (blocks_in blocks) calls → counts ≡ counted (replicate p.locations 0) p.edges.items
    → t.bases ≡ bases_of (blocks_in blocks) 0 calls
    → t.starts ≡ sums_below (text_at t.ends t.calls t.texts) p.locations
    → t.drawn ≡ sums_below (drawn_at t.ends t.calls sizes counts outs) p.locations
    → t.ranks ≡ ranks_by (replicate p.locations 0) p.edges.items
    → t.edges ≡ chains_of p.locations (map from_of p.edges.items) → t.loops ≡ chains_of p.locations (map first_of p.loops.items)
    → t ≡ table_in blocks p outs
table_is blocks p outs t calls sizes counts ends at same texts long many bases starts drawn ranks edges loops =
    ap (λ (x : List Standing). table_with x t.calls t.texts t.bases t.starts t.drawn t.ranks t.edges t.loops) ends
    ∙ (ap (λ (x : List (Option ℕ)). table_with (standings_of p) x t.texts t.bases t.starts t.drawn t.ranks t.edges t.loops) at
    ∙ (ap (λ (x : List ℕ). table_with (standings_of p) (calls_of p) x t.bases t.starts t.drawn t.ranks t.edges t.loops) text
    ∙ (ap (λ (x : List ℕ). table_with (standings_of p) (calls_of p) whole x t.starts t.drawn t.ranks t.edges t.loops)
    (bases ∙ ap (λ (cs : List CodeCallEdge). bases_of (blocks_in blocks) 0 cs) same)
    ∙ (ap (λ (x : List ℕ). table_with (standings_of p) (calls_of p) whole (bases_of (blocks_in blocks) 0 p.calls.items) x t.drawn t.ranks t.edges t.loops)
    (starts
    ∙ (ap (λ (x : List Standing). sums_below (text_at x t.calls t.texts) p.locations) ends
    ∙ (ap (λ (x : List (Option ℕ)). sums_below (text_at (standings_of p) x t.texts) p.locations) at
    ∙ ap (λ (x : List ℕ). sums_below (text_at (standings_of p) (calls_of p) x) p.locations) text)))
    ∙ (ap (λ (x : List ℕ). table_with (standings_of p) (calls_of p) whole (bases_of (blocks_in blocks) 0 p.calls.items)
    (starts_in (blocks_in blocks) p) x t.ranks t.edges t.loops)
    (drawn
    ∙ (ap (λ (x : List Standing). sums_below (drawn_at x t.calls sizes counts outs) p.locations) ends
    ∙ (ap (λ (x : List (Option ℕ)). sums_below (drawn_at (standings_of p) x sizes counts outs) p.locations) at
    ∙ (ap (λ (x : List ℕ). sums_below (drawn_at (standings_of p) (calls_of p) x counts outs) p.locations)
    (long ∙ ap (λ (cs : List CodeCallEdge). sizes_of (blocks_in blocks) cs) same)
    ∙ ap (λ (x : List ℕ). sums_below (drawn_at (standings_of p) (calls_of p) (sizes_of (blocks_in blocks) p.calls.items) x outs) p.locations) many))))
    ∙ (ap (λ (x : List ℕ). table_with (standings_of p) (calls_of p) whole (bases_of (blocks_in blocks) 0 p.calls.items)
    (starts_in (blocks_in blocks) p) (drawn_in (blocks_in blocks) p outs) x t.edges t.loops) ranks
    ∙ (ap (λ (x : Chains). table_with (standings_of p) (calls_of p) whole (bases_of (blocks_in blocks) 0 p.calls.items)
    (starts_in (blocks_in blocks) p) (drawn_in (blocks_in blocks) p outs) (ranks_by (replicate p.locations 0) p.edges.items) x t.loops) edges
    ∙ ap (λ (x : Chains). table_with (standings_of p) (calls_of p) whole (bases_of (blocks_in blocks) 0 p.calls.items)
    (starts_in (blocks_in blocks) p) (drawn_in (blocks_in blocks) p outs) (ranks_by (replicate p.locations 0) p.edges.items)
    (chains_of p.locations (map from_of p.edges.items)) x) loops)))))))
  where
    whole : List ℕ
    whole = spans_of (span (blocks_in blocks)) p.calls.items

    text : t.texts ≡ whole
    text = texts ∙ (ap (λ (cs : List CodeCallEdge). spans_of (span_below (blocks_in blocks) (length blocks)) cs) same ∙ as_deep blocks p.calls.items)

-- ---- places

abbrev place_by : List ℕ → ℕ → ℕ → ℕ → ℕ → ℕ → ℕ
place_by bound shared shared_at own own_at x = cond (nat_lt x shared) (slice_index_or bound x 0)
    (cond (nat_lt x own) (narrow (shared_at + (x - shared))) (narrow (own_at + (x - own))))

abbrev behind_bound : ℕ → ℕ → ℕ → ℕ → ℕ → ℕ
behind_bound b s shared_at own_at x = cond (nat_lt x (b + s)) (narrow (shared_at + (x - b))) (narrow (own_at + (x - (b + s))))

place_is : (q : Places) (b s shared_at own_at : ℕ) → q.shared ≡ b → q.shared_at ≡ shared_at → q.own ≡ b + s → q.own_at ≡ own_at → (x : ℕ)
    → place_of q x ≡ cond (nat_lt x b) (slice_index_or q.bound.items x 0) (behind_bound b s shared_at own_at x)
place_is q b s shared_at own_at shared at own mine x =
    ap (λ (n : ℕ). place_by q.bound.items n q.shared_at q.own q.own_at x) shared
    ∙ (ap (λ (n : ℕ). place_by q.bound.items b n q.own q.own_at x) at
    ∙ (ap (λ (n : ℕ). place_by q.bound.items b shared_at n q.own_at x) own
    ∙ ap (λ (n : ℕ). place_by q.bound.items b shared_at (b + s) n x) mine))

by_bound : (bound : List ℕ) (b rest x : ℕ) (f : ℕ → ℕ) → ((y : ℕ) → y < b → slice_index_or bound y 0 ≡ f y)
    → cond (nat_lt x b) (slice_index_or bound x 0) rest ≡ cond (nat_lt x b) (f x) rest
by_bound bound b rest x f same = by (cases_lt x b)
  where
    by : (x < b) ⊎ (b ≤ x) → cond (nat_lt x b) (slice_index_or bound x 0) rest ≡ cond (nat_lt x b) (f x) rest
    by (inl lt) =
        cond-true (nat_lt x b) (slice_index_or bound x 0) rest (lt-ltb x b lt)
        ∙ (same x lt ∙ sym (cond-true (nat_lt x b) (f x) rest (lt-ltb x b lt)))
    by (inr le) =
        cond-false (nat_lt x b) (slice_index_or bound x 0) rest (le-ltb x b le) ∙ sym (cond-false (nat_lt x b) (f x) rest (le-ltb x b le))

callee_places : (caller q : Places) (instance b s own_at : ℕ) → IsCallee caller instance b s own_at q
    → place_of q ≡ callee_place (place_of caller) instance b s caller.shared_at own_at
callee_places caller q instance b s own_at is = fun_ext (λ x.
    place_is q b s caller.shared_at own_at is.shared is.shared_at is.own is.own_at x
    ∙ by_bound q.bound.items b (behind_bound b s caller.shared_at own_at x) x (λ y. place_of caller (instance + y)) is.passed)

entry_places : (q : Places) (b s : ℕ) → IsEntry b s q → place_of q ≡ entry_place b s
entry_places q b s is = fun_ext (λ x.
    place_is q b s b (narrow (b + s)) is.shared is.shared_at is.own is.own_at x
    ∙ by_bound q.bound.items b (behind_bound b s b (narrow (b + s)) x) x (λ y. y) is.numbers)

-- ---- copies

abbrev copy_with : CodeParts → Table → (ℕ → ℕ) → ℕ → ℕ → Option Aim → ℕ → ℕ → ℕ → Copy
copy_with parts table place shared_at start out deeds edges free = record {
  parts = parts;
  table = table;
  place = place;
  shared_at = shared_at;
  start = start;
  out = out;
  deeds = deeds;
  edges = edges;
  free = free;
}

-- what is seen of such a copy
abbrev pub copy_of : CodeParts → CodeTable → Places → CodeBody → Copy
copy_of parts table places body = record {
  parts = parts;
  table = table_seen table;
  place = place_of places;
  shared_at = places.shared_at;
  start = body.start;
  out = body.out;
  deeds = body.deeds;
  edges = body.edges;
  free = body.free;
}

pub callee_seen : (blocks : List (Option CodeParts)) (c : Copy) (caller : Places) (l j : ℕ) (call : CodeCallEdge) (q : CodeParts) (t : CodeTable)
    (places : Places) (body : CodeBody) (own_at : ℕ) → c.place ≡ place_of caller → c.shared_at ≡ caller.shared_at → own_at ≡ base c j
    → table_seen t ≡ table_in blocks q 1 → IsCallee caller call.instance q.bound q.shared own_at places → IsCalleeBody c l call q own_at body
    → copy_of q t places body ≡ callee_copy blocks c l j call q
callee_seen blocks c caller l j call q t places body own_at place shared based table lie is =
    ap (λ (x : Table). copy_with q x (place_of places) places.shared_at body.start body.out body.deeds body.edges body.free) table
    ∙ (ap (λ (x : ℕ → ℕ). copy_with q (table_in blocks q 1) x places.shared_at body.start body.out body.deeds body.edges body.free)
    (callee_places caller places call.instance q.bound q.shared own_at lie
    ∙ (ap (λ (f : ℕ → ℕ). callee_place f call.instance q.bound q.shared caller.shared_at own_at) (sym place)
    ∙ (ap (λ (n : ℕ). callee_place c.place call.instance q.bound q.shared n own_at) (sym shared)
    ∙ ap (λ (n : ℕ). callee_place c.place call.instance q.bound q.shared c.shared_at n) based)))
    ∙ (ap (λ (x : ℕ). copy_with q (table_in blocks q 1) there x body.start body.out body.deeds body.edges body.free) (lie.shared_at ∙ sym shared)
    ∙ (ap (λ (x : ℕ). copy_with q (table_in blocks q 1) there c.shared_at x body.out body.deeds body.edges body.free) is.start
    ∙ (ap (λ (x : Option Aim). copy_with q (table_in blocks q 1) there c.shared_at (number c l + 1) x body.deeds body.edges body.free) is.out
    ∙ (ap (λ (x : ℕ). copy_with q (table_in blocks q 1) there c.shared_at (number c l + 1) (Some (aim c call.to)) x body.edges body.free) is.deeds
    ∙ (ap (λ (x : ℕ). copy_with q (table_in blocks q 1) there c.shared_at (number c l + 1) (Some (aim c call.to)) 0 x body.free) is.edges
    ∙ ap (λ (x : ℕ). copy_with q (table_in blocks q 1) there c.shared_at (number c l + 1) (Some (aim c call.to)) 0
    ((c.edges + slice_index_or c.table.drawn l 0) + 1) x) (is.free ∙ ap (λ (n : ℕ). n + own_count (parts_of q)) based)))))))
  where
    there : ℕ → ℕ
    there = callee_place c.place call.instance q.bound q.shared c.shared_at (base c j)

pub entry_seen : (blocks : List (Option CodeParts)) (p : CodeParts) (t : CodeTable) (places : Places) (body : CodeBody)
    → table_seen t ≡ table_in blocks p 0 → IsEntry p.bound p.shared places → IsEntryBody p body → copy_of p t places body ≡ entry_copy blocks p
entry_seen blocks p t places body table lie is =
    ap (λ (x : Table). copy_with p x (place_of places) places.shared_at body.start body.out body.deeds body.edges body.free) table
    ∙ (ap (λ (x : ℕ → ℕ). copy_with p (table_in blocks p 0) x places.shared_at body.start body.out body.deeds body.edges body.free)
    (entry_places places p.bound p.shared lie)
    ∙ (ap (λ (x : ℕ). copy_with p (table_in blocks p 0) there x body.start body.out body.deeds body.edges body.free) lie.shared_at
    ∙ (ap (λ (x : ℕ). copy_with p (table_in blocks p 0) there p.bound x body.out body.deeds body.edges body.free) is.start
    ∙ (ap (λ (x : Option Aim). copy_with p (table_in blocks p 0) there p.bound 0 x body.deeds body.edges body.free) is.out
    ∙ (ap (λ (x : ℕ). copy_with p (table_in blocks p 0) there p.bound 0 None x body.edges body.free) is.deeds
    ∙ (ap (λ (x : ℕ). copy_with p (table_in blocks p 0) there p.bound 0 None 0 x body.free) is.edges
    ∙ ap (λ (x : ℕ). copy_with p (table_in blocks p 0) there p.bound 0 None 0 0 x) is.free))))))
  where
    there : ℕ → ℕ
    there = entry_place p.bound p.shared

-- ---- called blocks

pub called_some : (blocks : List (Option CodeParts)) (levels : ℕ) (c : Copy) (from : ℕ) (m middle new : Making) → 0 < levels
    → middle ≡ edge_in_made c from m → new ≡ copy_made blocks (below blocks (levels - 1)) c middle
    → new ≡ called_made (below blocks levels) c from m
called_some blocks levels c from m middle new some entered made =
    made
    ∙ (ap (λ (x : Making). copy_made blocks (below blocks (levels - 1)) c x) entered
    ∙ sym (ap (λ (n : ℕ). below blocks n c (edge_in_made c from m)) (next levels some)))
  where
    next : (n : ℕ) → 0 < n → n ≡ suc (n - 1)
    next n h = omega (arith, h)

pub block_some : (blocks : List (Option CodeParts)) (inner : Copy → Making → Making) (c callee : Copy) (l j from : ℕ) (o : Option CodeCallEdge)
    (call : CodeCallEdge) (q : CodeParts) (m new : Making) → o ≡ Some call → code_at blocks call.block ≡ Some q
    → callee ≡ callee_copy blocks c l j call q → from ≡ number c l → new ≡ called_made inner callee from m → new ≡ call_made blocks inner c l j o m
block_some blocks inner c callee l j from o call q m new at there is here made =
    made
    ∙ (ap (λ (x : Copy). called_made inner x from m) is
    ∙ (ap (λ (n : ℕ). called_made inner (callee_copy blocks c l j call q) n m) here
    ∙ sym (ap (λ (x : Option CodeCallEdge). call_made blocks inner c l j x m) at
    ∙ ap (λ (x : Option CodeParts). block_made blocks inner c l j call x m) there)))

-- ---- the entry

pub copies_are : (blocks : List (Option CodeParts)) (levels : ℕ) (p : CodeParts) (c : Copy) (m new : Making)
    → new ≡ copy_made blocks (below blocks levels) c m → levels ≡ length blocks → c ≡ entry_copy blocks p → m ≡ first_making
    → new ≡ all_made blocks p
copies_are blocks levels p c m new made deep entry first =
    made
    ∙ (ap (λ (n : ℕ). copy_made blocks (below blocks n) c m) deep
    ∙ (ap (λ (x : Copy). copy_made blocks (below blocks (length blocks)) x m) entry
    ∙ ap (λ (x : Making). copy_made blocks (below blocks (length blocks)) (entry_copy blocks p) x) first))

-- ---- tables, by slices of their lists

pub starts_seen : (es ends : List Standing) (cs calls : List (Option ℕ)) (ts texts : List ℕ) (n : ℕ) (made : List ℕ)
    → es ≡ ends → cs ≡ calls → ts ≡ texts → made ≡ sums_below (text_at es cs ts) n → made ≡ sums_below (text_at ends calls texts) n
starts_seen es ends cs calls ts texts n made e c t is =
    is
    ∙ (ap (λ (x : List Standing). sums_below (text_at x cs ts) n) e
    ∙ (ap (λ (x : List (Option ℕ)). sums_below (text_at ends x ts) n) c
    ∙ ap (λ (x : List ℕ). sums_below (text_at ends calls x) n) t))

pub drawn_seen : (es ends : List Standing) (cs calls : List (Option ℕ)) (ss sizes ns counts : List ℕ) (outs n : ℕ) (made : List ℕ)
    → es ≡ ends → cs ≡ calls → ss ≡ sizes → ns ≡ counts → made ≡ sums_below (drawn_at es cs ss ns outs) n
    → made ≡ sums_below (drawn_at ends calls sizes counts outs) n
drawn_seen es ends cs calls ss sizes ns counts outs n made e c s k is =
    is
    ∙ (ap (λ (x : List Standing). sums_below (drawn_at x cs ss ns outs) n) e
    ∙ (ap (λ (x : List (Option ℕ)). sums_below (drawn_at ends x ss ns outs) n) c
    ∙ (ap (λ (x : List ℕ). sums_below (drawn_at ends calls x ns outs) n) s
    ∙ ap (λ (x : List ℕ). sums_below (drawn_at ends calls sizes x outs) n) k)))

-- ---- a copy's terms and deeds

abbrev made_with : List Node → List Plain → List Drawn → List Loop → Making
made_with nodes deeds drawn loops = record { nodes = nodes; deeds = deeds; drawn = drawn; loops = loops }

pub tables_are : (c : Copy) (m new : Making) (after : ℕ) (nodes : List Node) (deeds : List CodeDeed) → after ≡ length m.nodes
    → nodes ≡ c.parts.nodes.items → deeds ≡ c.parts.deeds.items → new.nodes ≡ m.nodes ++ map (node_at c.place after) nodes
    → new.deeds ≡ m.deeds ++ map (deed_at c.place after) (map deed_seen deeds) → new.drawn ≡ m.drawn → new.loops ≡ m.loops
    → new ≡ tables_copied c m
tables_are c m new after nodes deeds many own those made put drawn loops =
    ap (λ (x : List Node). made_with x new.deeds new.drawn new.loops)
    (made ∙ (ap (λ (n : ℕ). m.nodes ++ map (node_at c.place n) nodes) many
    ∙ ap (λ (ns : List Node). m.nodes ++ map (node_at c.place (length m.nodes)) ns) own))
    ∙ (ap (λ (x : List Plain). made_with (m.nodes ++ map (node_at c.place (length m.nodes)) c.parts.nodes.items) x new.drawn new.loops)
    (put ∙ (ap (λ (n : ℕ). m.deeds ++ map (deed_at c.place n) (map deed_seen deeds)) many
    ∙ ap (λ (ds : List CodeDeed). m.deeds ++ map (deed_at c.place (length m.nodes)) (map deed_seen ds)) those))
    ∙ (ap (λ (x : List Drawn). made_with (m.nodes ++ map (node_at c.place (length m.nodes)) c.parts.nodes.items)
    (m.deeds ++ map (deed_at c.place (length m.nodes)) (map deed_seen c.parts.deeds.items)) x new.loops) drawn
    ∙ ap (λ (x : List Loop). made_with (m.nodes ++ map (node_at c.place (length m.nodes)) c.parts.nodes.items)
    (m.deeds ++ map (deed_at c.place (length m.nodes)) (map deed_seen c.parts.deeds.items)) m.drawn x) loops))

pub copy_is : (blocks : List (Option CodeParts)) (inner : Copy → Making → Making) (c own : Copy) (deeds : ℕ) (m middle new : Making)
    → own ≡ with_deeds deeds c → deeds ≡ length m.deeds → middle ≡ tables_copied c m
    → new ≡ locations_made blocks inner own own.parts.locations middle → new ≡ copy_made blocks inner c m
copy_is blocks inner c own deeds m middle new is many tables made =
    made
    ∙ (ap (λ (x : Copy). locations_made blocks inner x x.parts.locations middle) (is ∙ ap (λ (n : ℕ). with_deeds n c) many)
    ∙ ap (λ (x : Making). locations_made blocks inner (with_deeds (length m.deeds) c) c.parts.locations x) tables)
