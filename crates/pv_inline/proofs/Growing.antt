-- There are no fewer nodes and deeds after a step than before it.
use Rattle.std.proofs.Common.{◌≡◌, ℕ, zero, suc, ◌≤◌, List, [], ◌∷◌, ◌++◌, length, length-append, map, slice_get, Option, Some, None, refl, ap, arith}
use Rattle.std.specs.Prelude.{slice_index_or}
use Rattle.pv_flow.specs.declared.term.Node.{Node}
use Rattle.pv_flow.specs.declared.parts.Edge.{Edge as CodeEdge}
use Rattle.pv_flow.specs.declared.parts.CallEdge.{CallEdge as CodeCallEdge}
use Rattle.pv_flow.specs.declared.parts.Parts.{Parts as CodeParts}
use Rattle.pv_flow.specs.Automata.{Loop}
use Rattle.pv_flow.specs.View.{loop_of}
use Rattle.pv_call_tables.specs.declared.marks.Standing.{Standing}
use Rattle.pv_call_tables.specs.declared.marks.Standing.TheVariants as standing
use Rattle.pv_call_tables.specs.declared.drawn.Aim.{Aim}
use Rattle.pv_call_terms.specs.Terms.{node_at}
use Rattle.pv_call_terms.specs.Deeds.{Plain, deed_seen, deed_at}
use Rattle.pv_call_terms.specs.Resets.{reset_nodes, reset_sets}
use Rattle.pv_inline.specs.Blocks.{code_at}
use Rattle.pv_inline.specs.Short.{HasNoMore}
use Rattle.pv_inline.specs.Walking.{Making, Copy, true_deed, one_drawn, all_drawn, one_looped, all_looped, numbers_at, tables_copied, edge_in_made, out_drawn, number, callee_copy, block_made, call_made, goes_on, made_by, location_made, locations_made, with_deeds, copy_made, below}

abbrev pub Grow : Making → Making → Type 0
Grow m new = HasNoMore m new

abbrev pub GrowsBy : (Copy → Making → Making) → Type 0
GrowsBy inner = (c : Copy) (m : Making) → Grow m (inner c m)

le_then : (a b c : ℕ) → a ≤ b → b ≤ c → a ≤ c
le_then a b c h g = omega (arith, h, g)

same_le : (n m : ℕ) → m ≡ n → n ≤ m
same_le n m e = omega (arith, e)

pub grow_then : (a b c : Making) → Grow a b → Grow b c → Grow a c
grow_then a b c h g = record {
  nodes = le_then (length a.nodes) (length b.nodes) (length c.nodes) h.nodes g.nodes;
  deeds = le_then (length a.deeds) (length b.deeds) (length c.deeds) h.deeds g.deeds;
}

same_grows : (m new : Making) → new.nodes ≡ m.nodes → new.deeds ≡ m.deeds → Grow m new
same_grows m new e h = record {
  nodes = same_le (length m.nodes) (length new.nodes) (ap (λ (ns : List Node). length ns) e);
  deeds = same_le (length m.deeds) (length new.deeds) (ap (λ (ds : List Plain). length ds) h);
}

pub stays : (m : Making) → Grow m m
stays m = same_grows m m refl refl

-- ---- edges and loops

pub one_drawn_grows : (c : Copy) (o : Option CodeEdge) (m : Making) → Grow m (one_drawn c o m)
one_drawn_grows c None m = stays m
one_drawn_grows c (Some edge) m = same_grows m (one_drawn c (Some edge) m) refl refl

pub drawn_grows : (c : Copy) (numbers : List ℕ) (m : Making) → Grow m (all_drawn c numbers m)
drawn_grows c [] m = stays m
drawn_grows c (e ∷ numbers) m =
    let next : Making = one_drawn c (slice_get c.parts.edges.items e) m in
    grow_then m next (all_drawn c numbers next) (one_drawn_grows c (slice_get c.parts.edges.items e) m) (drawn_grows c numbers next)

one_looped_grows : (c : Copy) (o : Option Loop) (m : Making) → Grow m (one_looped c o m)
one_looped_grows c None m = stays m
one_looped_grows c (Some loop) m = same_grows m (one_looped c (Some loop) m) refl refl

pub looped_grows : (c : Copy) (numbers : List ℕ) (m : Making) → Grow m (all_looped c numbers m)
looped_grows c [] m = stays m
looped_grows c (i ∷ numbers) m =
    let next : Making = one_looped c (slice_get (map loop_of c.parts.loops.items) i) m in
    grow_then m next (all_looped c numbers next) (one_looped_grows c (slice_get (map loop_of c.parts.loops.items) i) m) (looped_grows c numbers next)

out_grows : (c : Copy) (l : ℕ) (o : Option Aim) (m : Making) → Grow m (out_drawn c l o m)
out_grows c l None m = stays m
out_grows c l (Some to) m = same_grows m (out_drawn c l (Some to) m) refl refl

-- ---- terms and deeds

longer : {X : Type 0} (xs more : List X) → length xs ≤ length (xs ++ more)
longer xs more = let e = length-append xs more in omega (arith, e)

pub tables_grow : (c : Copy) (m : Making) → Grow m (tables_copied c m)
tables_grow c m = record {
  nodes = longer m.nodes (map (node_at c.place (length m.nodes)) c.parts.nodes.items);
  deeds = longer m.deeds (map (deed_at c.place (length m.nodes)) (map deed_seen c.parts.deeds.items));
}

pub in_grows : (c : Copy) (from : ℕ) (m : Making) → Grow m (edge_in_made c from m)
in_grows c from m = record {
  nodes = longer m.nodes (reset_nodes c.parts.bound c.parts.shared 0 c.parts.vars.items);
  deeds = longer m.deeds (true_deed (reset_sets c.place c.parts.bound c.parts.shared (length m.nodes) 0 c.parts.vars.items) ∷ []);
}

-- ---- called blocks

pub block_grows : (blocks : List (Option CodeParts)) (inner : Copy → Making → Making) → GrowsBy inner → (c : Copy) (l j : ℕ) (call : CodeCallEdge)
    (o : Option CodeParts) (m : Making) → Grow m (block_made blocks inner c l j call o m)
block_grows blocks inner grows c l j call None m = stays m
block_grows blocks inner grows c l j call (Some q) m =
    grow_then m (edge_in_made (callee_copy blocks c l j call q) (number c l) m) (block_made blocks inner c l j call (Some q) m)
    (in_grows (callee_copy blocks c l j call q) (number c l) m)
    (grows (callee_copy blocks c l j call q) (edge_in_made (callee_copy blocks c l j call q) (number c l) m))

pub call_grows : (blocks : List (Option CodeParts)) (inner : Copy → Making → Making) → GrowsBy inner → (c : Copy) (l j : ℕ)
    (o : Option CodeCallEdge) (m : Making) → Grow m (call_made blocks inner c l j o m)
call_grows blocks inner grows c l j None m = stays m
call_grows blocks inner grows c l j (Some call) m = block_grows blocks inner grows c l j call (code_at blocks call.block) m

pub on_grows : (blocks : List (Option CodeParts)) (inner : Copy → Making → Making) → GrowsBy inner → (c : Copy) (l : ℕ)
    (o : Option ℕ) (m : Making) → Grow m (goes_on blocks inner c l o m)
on_grows blocks inner grows c l None m =
    drawn_grows c (numbers_at c.table.edges l) m
on_grows blocks inner grows c l (Some j) m = call_grows blocks inner grows c l j (slice_get c.parts.calls.items j) m

pub by_grows : (blocks : List (Option CodeParts)) (inner : Copy → Making → Making) → GrowsBy inner → (c : Copy) (l : ℕ)
    (s : Standing) (m : Making) → Grow m (made_by blocks inner c l s m)
by_grows blocks inner grows c l standing.Nothing m = on_grows blocks inner grows c l (slice_index_or c.table.calls l None) m
by_grows blocks inner grows c l standing.Done m = out_grows c l c.out m
by_grows blocks inner grows c l (standing.Trap kind place) m = stays m
by_grows blocks inner grows c l (standing.Over place) m = stays m

pub location_grows : (blocks : List (Option CodeParts)) (inner : Copy → Making → Making) → GrowsBy inner → (c : Copy) (l : ℕ) (m : Making)
    → Grow m (location_made blocks inner c l m)
location_grows blocks inner grows c l m =
    grow_then m (all_looped c (numbers_at c.table.loops l) m) (location_made blocks inner c l m)
    (looped_grows c (numbers_at c.table.loops l) m)
    (by_grows blocks inner grows c l (slice_index_or c.table.ends l standing.Nothing) (all_looped c (numbers_at c.table.loops l) m))

pub locations_grow : (blocks : List (Option CodeParts)) (inner : Copy → Making → Making) → GrowsBy inner → (c : Copy) (l : ℕ) (m : Making)
    → Grow m (locations_made blocks inner c l m)
locations_grow blocks inner grows c zero m = stays m
locations_grow blocks inner grows c (suc l) m =
    grow_then m (locations_made blocks inner c l m) (locations_made blocks inner c (suc l) m) (locations_grow blocks inner grows c l m)
    (location_grows blocks inner grows c l (locations_made blocks inner c l m))

pub copy_grows : (blocks : List (Option CodeParts)) (inner : Copy → Making → Making) → GrowsBy inner → GrowsBy (copy_made blocks inner)
copy_grows blocks inner grows c m =
    grow_then m (tables_copied c m) (copy_made blocks inner c m) (tables_grow c m)
    (locations_grow blocks inner grows (with_deeds (length m.deeds) c) c.parts.locations (tables_copied c m))

pub below_grows : (blocks : List (Option CodeParts)) (levels : ℕ) → GrowsBy (below blocks levels)
below_grows blocks zero c m = stays m
below_grows blocks (suc levels) c m = copy_grows blocks (below blocks levels) (below_grows blocks levels) c m
