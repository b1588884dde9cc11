-- What each step of the walk adds.
use Rattle.std.proofs.Common.{◌≡◌, ℕ, zero, suc, ◌+◌, ◌<◌, ◌≤◌, List, [], ◌∷◌, ◌++◌, map, length, length-append, append-nil, slice_get, Bool, true, false, ◌==◌, nat_lt, cond, min, Option, Some, None, refl, sym, subst, ap, ◌∙◌, arith}
use Rattle.std.specs.Prelude.{slice_index_or}
use Rattle.std.specs.List.{AllByRecursion, list_all}
use Rattle.std.specs.Option.{option_map}
use Rattle.std.proofs.lemmas.Bool.{lt-ltb, and_parts, and_from}
use Rattle.std.proofs.lemmas.List.{length-map}
use Rattle.std.proofs.lemmas.Option.{same_Some, none-some, slice_get_within, slice_get-map}
use Rattle.pv_flow.specs.declared.term.Node.{Node}
use Rattle.pv_flow.specs.declared.parts.Variable.{Variable as CodeVariable}
use Rattle.pv_flow.specs.declared.parts.Set.{Set as CodeSet}
use Rattle.pv_flow.specs.declared.parts.Edge.{Edge as CodeEdge}
use Rattle.pv_flow.specs.declared.parts.Loop.{Loop as CodeLoop}
use Rattle.pv_flow.specs.declared.parts.Parts.{Parts as CodeParts}
use Rattle.pv_flow.specs.Terms.{Term, names_below}
use Rattle.pv_flow.specs.Automata.{Set, Edge, Loop, edges_from}
use Rattle.pv_flow.specs.Faults.{set_below, edge_below}
use Rattle.pv_flow.specs.Runs.{End, done, trap, over, end_at}
use Rattle.pv_flow.specs.Tables.{are_ordered, has_terms, AreTabled}
use Rattle.pv_flow.specs.View.{term_at, terms_of, set_of, variable_of, edge_of, loop_of, parts_of}
use Rattle.pv_call_copies.specs.Renaming.{renamed, true_term}
use Rattle.pv_call_copies.specs.Inlined.{Aim as Plain_aim, aim_by as plain_aim_by, called_at, before, span, number_in, aim_in, Drawn as Plain_drawn, drawn_edge, edge_in, edges_out, drawn_before, turn_by as plain_turn_by, turn_number, drawn_loop, loops_from}
use Rattle.pv_call_tables.specs.declared.marks.Standing.{Standing}
use Rattle.pv_call_tables.specs.declared.marks.Standing.TheVariants as standing
use Rattle.pv_call_tables.specs.declared.drawn.Aim.{Aim}
use Rattle.pv_call_tables.specs.declared.drawn.Drawn.{Drawn}
use Rattle.pv_call_tables.specs.Drawing.{aim_seen}
use Rattle.pv_call_tables.specs.Known.{standing_of}
use Rattle.pv_call_tables.specs.Chains.{from_of, first_of, numbers_from}
use Rattle.pv_call_tables.specs.Widths.{of_call}
use Rattle.pv_call_tables.proofs.ForCallers.{standings_are, ranks_are}
use Rattle.pv_inline.specs.Numbers.{MOST}
use Rattle.pv_call_terms.specs.Numbers.{narrow}
use Rattle.pv_call_terms.specs.Terms.{node_at}
use Rattle.pv_call_terms.specs.Deeds.{Plain, deed_seen, deed_at}
use Rattle.pv_call_terms.specs.Resets.{anew, nodes_by, sets_by, reset_nodes, reset_sets}
use Rattle.pv_call_terms.proofs.ForCallers.{terms_count, terms_are_copied, ordered_joined, terms_stay_ordered, plain_guard, plain_sets, guards_mean, sets_mean, all_seen, all_later, resets_are_made}
use Rattle.pv_inline.specs.Blocks.{blocks_in}
use Rattle.pv_inline.specs.Tables.{Table, table_in}
use Rattle.pv_inline.specs.Walking.{Making, Copy, true_deed, drawn_more, looped, number, aim_by, aim, edge_drawn, one_drawn, all_drawn, turn_by, turn, loop_made, one_looped, all_looped, tables_copied, edge_in_made, out_drawn, with_deeds}
use Rattle.pv_inline.specs.Reading.{guard_in, sets_in, values_below, has_nodes, read, has_deed, IsGood, Added}
use Rattle.pv_inline.specs.Copies.{aim_out, work_of, body_of, IsHeld}
use Rattle.pv_inline.proofs.Agreeing.{Agree, renamed_alike, sets_alike}
use Rattle.pv_inline.proofs.Reading.{get_ahead, get_behind, all_joined, all_wider, below_more, term_stays, guard_kept, sets_kept, nothing_added, added_then, one_edge, one_loop}
use Rattle.pv_inline.proofs.Tabling.{AreThere, called_is, starts_are}

-- ---- more nodes and deeds

abbrev grown : List Node → List Plain → Making → Making
grown nodes deeds m = record { nodes = m.nodes ++ nodes; deeds = m.deeds ++ deeds; drawn = m.drawn; loops = m.loops }

values_wider : (k n : ℕ) (sets : List CodeSet) → values_below k sets ≡ true → values_below (k + n) sets ≡ true
values_wider k n sets all =
    all_wider (λ (set : CodeSet). nat_lt set.value k) (λ (set : CodeSet). nat_lt set.value (k + n)) (λ set lt. below_more set.value k n lt) sets all

nodes_wider : (k n : ℕ) (deed : Plain) → has_nodes k deed ≡ true → has_nodes (k + n) deed ≡ true
nodes_wider k n deed has =
    let both = and_parts (nat_lt deed.guard k) (values_below k deed.sets) has in
    and_from (nat_lt deed.guard (k + n)) (values_below (k + n) deed.sets) (below_more deed.guard k n both.0) (values_wider k n deed.sets both.1)

some_deed : (m : Making) → IsGood m → 0 < length m.deeds
some_deed m good = slice_get_within m.deeds 0 (true_deed []) good.plain

grown_good : (m : Making) (nodes : List Node) (deeds : List Plain) → IsGood m → are_ordered 0 (m.nodes ++ nodes) ≡ true
    → list_all (has_nodes (length m.nodes + length nodes)) deeds ≡ true → IsGood (grown nodes deeds m)
grown_good m nodes deeds good ordered has = record {
  nodes = ordered;
  deeds = subst (λ (n : ℕ). list_all (has_nodes n) (m.deeds ++ deeds) ≡ true) (sym (length-append m.nodes nodes))
      (all_joined (has_nodes (length m.nodes + length nodes)) m.deeds deeds
      (all_wider (has_nodes (length m.nodes)) (has_nodes (length m.nodes + length nodes)) (nodes_wider (length m.nodes) (length nodes)) m.deeds good.deeds)
      has);
  drawn = subst (λ (n : ℕ). list_all (has_deed n) m.drawn ≡ true) (sym (length-append m.deeds deeds))
      (all_wider (has_deed (length m.deeds)) (has_deed (length m.deeds + length deeds))
      (λ d lt. below_more d.deed (length m.deeds) (length deeds) lt) m.drawn good.drawn);
  truth = term_stays m.nodes nodes 0 good.some ∙ good.truth;
  plain = get_ahead m.deeds deeds 0 (some_deed m good) ∙ good.plain;
  some = subst (λ (n : ℕ). 1 ≤ n) (sym (length-append m.nodes nodes)) (longer (length m.nodes) (length nodes) good.some);
}
  where
    longer : (a b : ℕ) → 1 ≤ a → 1 ≤ a + b
    longer a b h = omega (arith, h)

grown_added : (m : Making) (nodes : List Node) (deeds : List Plain) → IsGood (grown nodes deeds m) → Added m (grown nodes deeds m) [] []
grown_added m nodes deeds good = record {
  more_nodes = nodes;
  nodes = refl;
  more_deeds = deeds;
  deeds = refl;
  more_drawn = [];
  drawn = sym (append-nil m.drawn);
  is_read = refl;
  loops = sym (append-nil m.loops);
  good = good;
}

-- ---- a copy's terms and deeds

guard_same : (terms : List Term) (o : Option Plain) → guard_in terms o ≡ plain_guard terms o
guard_same terms None = refl
guard_same terms (Some deed) = refl

sets_same : (terms : List Term) (o : Option Plain) → sets_in terms o ≡ plain_sets terms o
sets_same terms None = refl
sets_same terms (Some deed) = refl

pub tables_good : (c : Copy) (m : Making) → AreTabled c.parts → IsGood m → IsGood (tables_copied c m)
tables_good c m tabled good =
    grown_good m (map (node_at c.place (length m.nodes)) c.parts.nodes.items)
    (map (deed_at c.place (length m.nodes)) (map deed_seen c.parts.deeds.items)) good
    (terms_stay_ordered c.place m.nodes c.parts.nodes.items good.nodes tabled.nodes)
    (subst (λ (n : ℕ). list_all (has_nodes (length m.nodes + n)) (map (deed_at c.place (length m.nodes)) (map deed_seen c.parts.deeds.items)) ≡ true)
    (sym (length-map c.parts.nodes.items (node_at c.place (length m.nodes))))
    (all_later c.place (length m.nodes) (length c.parts.nodes.items) (map deed_seen c.parts.deeds.items)
    (sym (all_seen (length c.parts.nodes.items) c.parts.deeds.items) ∙ tabled.deeds)))

pub tables_added : (c : Copy) (m : Making) → AreTabled c.parts → IsGood m → Added m (tables_copied c m) [] []
tables_added c m tabled good =
    grown_added m (map (node_at c.place (length m.nodes)) c.parts.nodes.items)
    (map (deed_at c.place (length m.nodes)) (map deed_seen c.parts.deeds.items)) (tables_good c m tabled good)

pub tables_held : (c : Copy) (m : Making) → AreTabled c.parts → length (tables_copied c m).nodes ≤ MOST
    → IsHeld (with_deeds (length m.deeds) c) (tables_copied c m).nodes (tables_copied c m).deeds
tables_held c m tabled small = record {
  fits = subst (λ (n : ℕ). length m.deeds + length c.parts.deeds.items ≤ n) (sym long) (least (length m.deeds + length c.parts.deeds.items));
  guards = λ n lt.
      ap (λ (ts : List Term). guard_in ts (slice_get (m.deeds ++ copies) (length m.deeds + n))) terms
      ∙ (ap (λ (o : Option Plain). guard_in whole o) (get_behind m.deeds copies n)
      ∙ (guard_same whole (slice_get copies n)
      ∙ guards_mean c.place (terms_of m.nodes) block (length m.nodes) c.parts.deeds.items n (sym (terms_count m.nodes)) most has lt));
  sets = λ n lt.
      ap (λ (ts : List Term). sets_in ts (slice_get (m.deeds ++ copies) (length m.deeds + n))) terms
      ∙ (ap (λ (o : Option Plain). sets_in whole o) (get_behind m.deeds copies n)
      ∙ (sets_same whole (slice_get copies n)
      ∙ sets_mean c.place (terms_of m.nodes) block (length m.nodes) c.parts.deeds.items n (sym (terms_count m.nodes)) most has lt));
}
  where
    least : (n : ℕ) → n ≤ n
    least n = omega arith

    copies : List Plain
    copies = map (deed_at c.place (length m.nodes)) (map deed_seen c.parts.deeds.items)

    block : List Term
    block = terms_of c.parts.nodes.items

    whole : List Term
    whole = terms_of m.nodes ++ map (renamed c.place) block

    long : length (m.deeds ++ copies) ≡ length m.deeds + length c.parts.deeds.items
    long = length-append m.deeds copies
        ∙ ap (λ (n : ℕ). length m.deeds + n) (length-map (map deed_seen c.parts.deeds.items) (deed_at c.place (length m.nodes))
        ∙ length-map c.parts.deeds.items deed_seen)

    enough : length m.nodes + length c.parts.nodes.items ≤ MOST
    enough = subst (λ (n : ℕ). n ≤ MOST) (length-append m.nodes (map (node_at c.place (length m.nodes)) c.parts.nodes.items)
        ∙ ap (λ (n : ℕ). length m.nodes + n) (length-map c.parts.nodes.items (node_at c.place (length m.nodes)))) small

    terms : terms_of (m.nodes ++ map (node_at c.place (length m.nodes)) c.parts.nodes.items) ≡ whole
    terms = terms_are_copied c.place m.nodes c.parts.nodes.items tabled.nodes enough

    most : length m.nodes + length block ≤ MOST
    most = subst (λ (n : ℕ). length m.nodes + n ≤ MOST) (sym (terms_count c.parts.nodes.items)) enough

    has : list_all (has_terms (length block)) c.parts.deeds.items ≡ true
    has = subst (λ (n : ℕ). list_all (has_terms n) c.parts.deeds.items ≡ true) (sym (terms_count c.parts.nodes.items)) tabled.deeds

-- they stay
pub held_added : (c : Copy) (m new : Making) (es : List Plain_drawn) (ls : List Loop) → IsGood m → Added m new es ls → IsHeld c m.nodes m.deeds
    → IsHeld c new.nodes new.deeds
held_added c m new es ls good h held =
    subst (λ (ns : List Node). IsHeld c ns new.deeds) (sym h.nodes)
    (subst (λ (ds : List Plain). IsHeld c (m.nodes ++ h.more_nodes) ds) (sym h.deeds) (record {
      fits = subst (λ (n : ℕ). c.deeds + length c.parts.deeds.items ≤ n) (sym (length-append m.deeds h.more_deeds))
          (longer (c.deeds + length c.parts.deeds.items) (length m.deeds) (length h.more_deeds) held.fits);
      guards = λ n lt. guard_kept m.nodes h.more_nodes m.deeds h.more_deeds (c.deeds + n) good.deeds
          (within c.deeds n (length c.parts.deeds.items) (length m.deeds) lt held.fits) ∙ held.guards n lt;
      sets = λ n lt. sets_kept m.nodes h.more_nodes m.deeds h.more_deeds (c.deeds + n) good.deeds
          (within c.deeds n (length c.parts.deeds.items) (length m.deeds) lt held.fits) ∙ held.sets n lt;
    }))
  where
    longer : (a b k : ℕ) → a ≤ b → a ≤ b + k
    longer a b k h = omega (arith, h)

    within : (a n k b : ℕ) → n < k → a + k ≤ b → a + n < b
    within a n k b lt h = omega (arith, lt, h)

-- ---- numbers and aims

pub number_is : (blocks : List (Option CodeParts)) (c : Copy) (place : ℕ → ℕ) (outs : ℕ) → c.table ≡ table_in blocks c.parts outs → (l : ℕ)
    → l ≤ c.parts.locations → number c l ≡ number_in (blocks_in blocks) (body_of c place) l
number_is blocks c place outs table l le =
    ap (λ (t : Table). c.start + slice_index_or t.starts l 0) table
    ∙ ap (λ (n : ℕ). c.start + n) (starts_are (blocks_in blocks) c.parts l le)

seen_by : (o : Option End) (here : ℕ) → aim_seen (aim_by (standing_of o) here) ≡ plain_aim_by o here
seen_by None here = refl
seen_by (Some done) here = refl
seen_by (Some (trap kind place)) here = refl
seen_by (Some (over place)) here = refl

before_it : (l n : ℕ) → l < n → l ≤ n
before_it l n lt = omega (arith, lt)

pub aim_is : (blocks : List (Option CodeParts)) (c : Copy) (place : ℕ → ℕ) (outs : ℕ) → c.table ≡ table_in blocks c.parts outs → (l : ℕ)
    → l < c.parts.locations → aim_seen (aim c l) ≡ aim_in (blocks_in blocks) (body_of c place) l
aim_is blocks c place outs table l lt =
    ap (λ (t : Table). aim_seen (aim_by (slice_index_or t.ends l standing.Nothing) (number c l))) table
    ∙ (ap (λ (s : Standing). aim_seen (aim_by s (number c l))) (standings_are c.parts l lt)
    ∙ (seen_by (end_at (parts_of c.parts) l) (number c l)
    ∙ ap (λ (n : ℕ). plain_aim_by (end_at (parts_of c.parts) l) n) (number_is blocks c place outs table l (before_it l c.parts.locations lt))))

-- ---- own edges

pub record IsEdgeThere (p : CodeParts) (edge : CodeEdge) : Type 0 where
  pub from : edge.from < p.locations
  pub to : edge.to < p.locations
  pub deed : edge.deed < length p.deeds.items
  pub below : edge_below (length (map variable_of p.vars.items)) (edge_of (terms_of p.nodes.items) p.deeds.items edge) ≡ true

edge_is : (blocks : List (Option CodeParts)) (c : Copy) (place : ℕ → ℕ) (outs : ℕ) (nodes : List Node) (deeds : List Plain)
    → c.table ≡ table_in blocks c.parts outs → Agree (length (map variable_of c.parts.vars.items)) c.place place → IsHeld c nodes deeds
    → (edge : CodeEdge) → IsEdgeThere c.parts edge
    → read nodes deeds (edge_drawn c edge)
    ≡ drawn_edge (blocks_in blocks) (body_of c place) (edge_of (terms_of c.parts.nodes.items) c.parts.deeds.items edge)
edge_is blocks c place outs nodes deeds table agree held edge is =
    ap (λ (n : ℕ). from_to n (aim_seen (aim c edge.to)) (read nodes deeds (edge_drawn c edge)).guard (read nodes deeds (edge_drawn c edge)).sets)
    (number_is blocks c place outs table edge.from (before_it edge.from c.parts.locations is.from))
    ∙ (ap (λ (a : Plain_aim). from_to from a (read nodes deeds (edge_drawn c edge)).guard (read nodes deeds (edge_drawn c edge)).sets)
    (aim_is blocks c place outs table edge.to is.to)
    ∙ (ap (λ (t : Term). from_to from aimed t (read nodes deeds (edge_drawn c edge)).sets)
    (held.guards edge.deed is.deed ∙ renamed_alike n c.place place agree own.guard both.0)
    ∙ ap (λ (ss : List Set). from_to from aimed (renamed place own.guard) ss)
    (held.sets edge.deed is.deed ∙ sets_alike n c.place place agree own.sets both.1)))
  where
    from_to : ℕ → Plain_aim → Term → List Set → Plain_drawn
    from_to from aim guard sets = record { from = from; aim = aim; guard = guard; sets = sets }

    n : ℕ
    n = length (map variable_of c.parts.vars.items)

    own : Edge
    own = edge_of (terms_of c.parts.nodes.items) c.parts.deeds.items edge

    from : ℕ
    from = number_in (blocks_in blocks) (body_of c place) edge.from

    aimed : Plain_aim
    aimed = aim_in (blocks_in blocks) (body_of c place) edge.to

    both : (names_below n own.guard ≡ true) × (list_all (set_below n) own.sets ≡ true)
    both = and_parts (names_below n own.guard) (list_all (set_below n) own.sets) is.below

one_under : (n : ℕ) → n < n + 1
one_under n = omega arith

same_le : (n : ℕ) → n ≤ n
same_le n = omega arith

first_of_them : (e : ℕ) → e ≡ e + 0
first_of_them e = omega arith

one_further : (e i : ℕ) → suc e + i ≡ e + suc i
one_further e i = omega arith

-- the edges from number e on, those of location l
pub edges_added : (blocks : List (Option CodeParts)) (c : Copy) (place : ℕ → ℕ) (outs : ℕ)
    → c.table ≡ table_in blocks c.parts outs → Agree (length (map variable_of c.parts.vars.items)) c.place place
    → (l e : ℕ) (edges : List CodeEdge) → ((i : ℕ) → slice_get c.parts.edges.items (e + i) ≡ slice_get edges i)
    → AllByRecursion (IsEdgeThere c.parts) edges → (m : Making) → IsGood m → IsHeld c m.nodes m.deeds
    → Added m (all_drawn c (numbers_from l e (map from_of edges)) m)
    (map (drawn_edge (blocks_in blocks) (body_of c place)) (edges_from l (map (edge_of (terms_of c.parts.nodes.items) c.parts.deeds.items) edges))) []
edges_added blocks c place outs table agree l e [] at there m good held = nothing_added m good
edges_added blocks c place outs table agree l e (edge ∷ edges) at there m good held =
    by (edge.from == l) (edges_added blocks c place outs table agree l (suc e) edges
    (λ i. ap (λ (n : ℕ). slice_get c.parts.edges.items n) (one_further e i) ∙ at (suc i)) there.1)
  where
    numbers : List ℕ
    numbers = numbers_from l (suc e) (map from_of edges)

    own : Edge
    own = edge_of (terms_of c.parts.nodes.items) c.parts.deeds.items edge

    rest : List Edge
    rest = edges_from l (map (edge_of (terms_of c.parts.nodes.items) c.parts.deeds.items) edges)

    drawn : List Edge → List Plain_drawn
    drawn es = map (drawn_edge (blocks_in blocks) (body_of c place)) es

    next : Making
    next = drawn_more (edge_drawn c edge) m

    one : Added m next (drawn_edge (blocks_in blocks) (body_of c place) own ∷ []) []
    one = one_edge m (edge_drawn c edge) (drawn_edge (blocks_in blocks) (body_of c place) own) good
        (within c.deeds edge.deed (length c.parts.deeds.items) (length m.deeds) (there.0).deed held.fits)
        (edge_is blocks c place outs m.nodes m.deeds table agree held edge there.0)
      where
        within : (a n k b : ℕ) → n < k → a + k ≤ b → a + n < b
        within a n k b lt h = omega (arith, lt, h)

    found : slice_get c.parts.edges.items e ≡ Some edge
    found = ap (λ (n : ℕ). slice_get c.parts.edges.items n) (first_of_them e) ∙ at 0

    by : (b : Bool) → ((x : Making) → IsGood x → IsHeld c x.nodes x.deeds → Added x (all_drawn c numbers x) (drawn rest) [])
        → Added m (all_drawn c (cond b (e ∷ numbers) numbers) m) (drawn (cond b (own ∷ rest) rest)) []
    by true go =
        subst (λ (o : Option CodeEdge). Added m (all_drawn c numbers (one_drawn c o m)) (drawn (own ∷ rest)) []) (sym found)
        (added_then m next (all_drawn c numbers next) (drawn_edge (blocks_in blocks) (body_of c place) own ∷ []) (drawn rest) [] []
        one (go next one.good held))
    by false go = go m good held

-- ---- loops

pub record IsLoopThere (p : CodeParts) (loop : CodeLoop) : Type 0 where
  pub first : loop.first < p.locations
  pub last : loop.last < p.locations

all_rec_at : (n : ℕ) (edges : List CodeEdge) (e : ℕ) (edge : CodeEdge) → AllByRecursion (λ (from : ℕ). from < n) (map from_of edges)
    → slice_get edges e ≡ Some edge → edge.from < n
all_rec_at n [] e edge all at = absurd (none-some edge at)
all_rec_at n (x ∷ xs) zero edge all at = subst (λ (y : CodeEdge). y.from < n) (same_Some x edge at) all.0
all_rec_at n (x ∷ xs) (suc e) edge all at = all_rec_at n xs e edge all.1 at

-- what is told of the edges before each location
abbrev pub AreBefore : List (Option CodeParts) → Copy → (ℕ → ℕ) → Type 0
AreBefore blocks c place =
    (l : ℕ) → l ≤ c.parts.locations → slice_index_or c.table.drawn l 0 ≡ drawn_before (blocks_in blocks) (body_of c place) l

turn_is : (blocks : List (Option CodeParts)) (c : Copy) (place : ℕ → ℕ) (outs : ℕ) → c.table ≡ table_in blocks c.parts outs
    → AreThere c.parts → AreBefore blocks c place → (e : ℕ)
    → turn c e ≡ turn_number (blocks_in blocks) (body_of c place) c.edges e
turn_is blocks c place outs table there before e =
    by (slice_get c.parts.edges.items e) refl
    ∙ sym (ap (λ (o : Option Edge). plain_turn_by (blocks_in blocks) (body_of c place) c.edges e o)
    (slice_get-map (edge_of (terms_of c.parts.nodes.items) c.parts.deeds.items) c.parts.edges.items e))
  where
    v : CodeEdge → Edge
    v = edge_of (terms_of c.parts.nodes.items) c.parts.deeds.items

    sums : {a b d f : ℕ} (i : ℕ) → a ≡ b → d ≡ f → (i + a) + d ≡ (i + b) + f
    sums {a} {b} {d} {f} i h g = omega (arith, h, g)

    by : (o : Option CodeEdge) → slice_get c.parts.edges.items e ≡ o
        → turn_by c e o ≡ plain_turn_by (blocks_in blocks) (body_of c place) c.edges e (option_map v o)
    by None at = refl
    by (Some edge) at =
        let lt : edge.from < c.parts.locations = all_rec_at c.parts.locations c.parts.edges.items e edge there.froms at in
        sums c.edges (before edge.from (before_it edge.from c.parts.locations lt))
        (ap (λ (t : Table). slice_index_or t.ranks e 0) table
        ∙ ranks_are (terms_of c.parts.nodes.items) c.parts.deeds.items c.parts.locations e c.parts.edges.items edge at lt)

turns_are : (f g : ℕ → ℕ) → ((e : ℕ) → f e ≡ g e) → (es : List ℕ) → map f es ≡ map g es
turns_are f g same [] = refl
turns_are f g same (e ∷ es) = ap (λ (n : ℕ). n ∷ map f es) (same e) ∙ ap (λ (ns : List ℕ). g e ∷ ns) (turns_are f g same es)

loop_is : (blocks : List (Option CodeParts)) (c : Copy) (place : ℕ → ℕ) (outs : ℕ) → c.table ≡ table_in blocks c.parts outs
    → AreThere c.parts → AreBefore blocks c place → (loop : CodeLoop) → IsLoopThere c.parts loop
    → loop_made c (loop_of loop) ≡ drawn_loop (blocks_in blocks) (body_of c place) c.edges (loop_of loop)
loop_is blocks c place outs table there before loop is =
    ap (λ (n : ℕ). range n (number c loop.last + of_call c.table.texts (slice_index_or c.table.calls loop.last None)) (map (turn c) loop.turns.items))
    (number_is blocks c place outs table loop.first (before_it loop.first c.parts.locations is.first))
    ∙ (ap (λ (n : ℕ). range first (n + of_call c.table.texts (slice_index_or c.table.calls loop.last None)) (map (turn c) loop.turns.items))
    (number_is blocks c place outs table loop.last (before_it loop.last c.parts.locations is.last))
    ∙ (ap (λ (t : Table). range first (number_in (blocks_in blocks) (body_of c place) loop.last + of_call t.texts (slice_index_or t.calls loop.last None))
    (map (turn c) loop.turns.items)) table
    ∙ (ap (λ (n : ℕ). range first (number_in (blocks_in blocks) (body_of c place) loop.last + n) (map (turn c) loop.turns.items))
    (called_is (span (blocks_in blocks)) c.parts loop.last is.last)
    ∙ ap (λ (ns : List ℕ). range first (number_in (blocks_in blocks) (body_of c place) loop.last
    + called_at (span (blocks_in blocks)) (parts_of c.parts) loop.last) ns)
    (turns_are (turn c) (turn_number (blocks_in blocks) (body_of c place) c.edges) (turn_is blocks c place outs table there before) loop.turns.items))))
  where
    range : ℕ → ℕ → List ℕ → Loop
    range first last turns = record { first = first; last = last; entry_turn = loop.entry_turn; turns = turns; place = loop.place }

    first : ℕ
    first = number_in (blocks_in blocks) (body_of c place) loop.first

pub loops_added : (blocks : List (Option CodeParts)) (c : Copy) (place : ℕ → ℕ) (outs : ℕ) → c.table ≡ table_in blocks c.parts outs
    → AreThere c.parts → AreBefore blocks c place
    → (l e : ℕ) (loops : List CodeLoop) → ((i : ℕ) → slice_get (map loop_of c.parts.loops.items) (e + i) ≡ slice_get (map loop_of loops) i)
    → AllByRecursion (IsLoopThere c.parts) loops → (m : Making) → IsGood m
    → Added m (all_looped c (numbers_from l e (map first_of loops)) m) []
    (map (drawn_loop (blocks_in blocks) (body_of c place) c.edges) (loops_from l (map loop_of loops)))
loops_added blocks c place outs table there before l e [] at are m good = nothing_added m good
loops_added blocks c place outs table there before l e (loop ∷ loops) at are m good =
    by (loop.first == l) (loops_added blocks c place outs table there before l (suc e) loops
    (λ i. ap (λ (n : ℕ). slice_get (map loop_of c.parts.loops.items) n) (one_further e i) ∙ at (suc i)) are.1)
  where
    numbers : List ℕ
    numbers = numbers_from l (suc e) (map first_of loops)

    rest : List Loop
    rest = loops_from l (map loop_of loops)

    drawn : List Loop → List Loop
    drawn ls = map (drawn_loop (blocks_in blocks) (body_of c place) c.edges) ls

    next : Making
    next = looped (loop_made c (loop_of loop)) m

    one : Added m next [] (drawn_loop (blocks_in blocks) (body_of c place) c.edges (loop_of loop) ∷ [])
    one = subst (λ (x : Loop). Added m next [] (x ∷ [])) (loop_is blocks c place outs table there before loop are.0)
        (one_loop m (loop_made c (loop_of loop)) good)

    found : slice_get (map loop_of c.parts.loops.items) e ≡ Some (loop_of loop)
    found = ap (λ (n : ℕ). slice_get (map loop_of c.parts.loops.items) n) (first_of_them e) ∙ at 0

    by : (b : Bool) → ((x : Making) → IsGood x → Added x (all_looped c numbers x) [] (drawn rest))
        → Added m (all_looped c (cond b (e ∷ numbers) numbers) m) [] (drawn (cond b (loop_of loop ∷ rest) rest))
    by true go =
        subst (λ (o : Option Loop). Added m (all_looped c numbers (one_looped c o m)) [] (drawn (loop_of loop ∷ rest))) (sym found)
        (added_then m next (all_looped c numbers next) [] [] (drawn_loop (blocks_in blocks) (body_of c place) c.edges (loop_of loop) ∷ []) (drawn rest)
        one (go next one.good))
    by false go = go m good

-- ---- the edge in

values_reset : (place : ℕ → ℕ) (bound shared n x k : ℕ) (vars : List CodeVariable) → n + length (reset_nodes bound shared x vars) ≤ k
    → values_below k (reset_sets place bound shared n x vars) ≡ true
values_reset place bound shared n x k [] le = refl
values_reset place bound shared n x k (v ∷ vars) le =
    by (anew bound shared x v.role) (subst (λ (i : ℕ). n + i ≤ k)
    (length-append (nodes_by (anew bound shared x v.role) v) (reset_nodes bound shared (suc x) vars)) le)
    (λ i h. values_reset place bound shared i (suc x) k vars h)
  where
    under : (most a r b : ℕ) → a + (1 + r) ≤ b → min a most < b
    under most a r b le = omega (arith, le)

    past_it : (a r b : ℕ) → a + (1 + r) ≤ b → (a + 1) + r ≤ b
    past_it a r b le = omega (arith, le)

    same_yet : (a r b : ℕ) → a + (0 + r) ≤ b → (a + 0) + r ≤ b
    same_yet a r b le = omega (arith, le)

    by : (b : Bool) → n + (length (nodes_by b v) + length (reset_nodes bound shared (suc x) vars)) ≤ k
        → ((i : ℕ) → i + length (reset_nodes bound shared (suc x) vars) ≤ k → values_below k (reset_sets place bound shared i (suc x) vars) ≡ true)
        → values_below k (sets_by b (place x) n ++ reset_sets place bound shared (n + length (nodes_by b v)) (suc x) vars) ≡ true
    by true h go =
        and_from (nat_lt (narrow n) k) (values_below k (reset_sets place bound shared (n + 1) (suc x) vars))
        (lt-ltb (narrow n) k (under MOST n (length (reset_nodes bound shared (suc x) vars)) k h))
        (go (n + 1) (past_it n (length (reset_nodes bound shared (suc x) vars)) k h))
    by false h go = go (n + 0) (same_yet n (length (reset_nodes bound shared (suc x) vars)) k h)

resets_ordered : (bound shared x k : ℕ) (vars : List CodeVariable) → are_ordered k (reset_nodes bound shared x vars) ≡ true
resets_ordered bound shared x k [] = refl
resets_ordered bound shared x k (v ∷ vars) = by (anew bound shared x v.role) (resets_ordered bound shared (suc x) k vars)
    (resets_ordered bound shared (suc x) (suc k) vars)
  where
    by : (b : Bool) → are_ordered k (reset_nodes bound shared (suc x) vars) ≡ true → are_ordered (suc k) (reset_nodes bound shared (suc x) vars) ≡ true
        → are_ordered k (nodes_by b v ++ reset_nodes bound shared (suc x) vars) ≡ true
    by true first more = more
    by false first more = first

pub edge_in_added : (blocks : List (Option CodeParts)) (c : Copy) (place : ℕ → ℕ) (outs from : ℕ) (m : Making)
    → c.table ≡ table_in blocks c.parts outs → Agree (length (map variable_of c.parts.vars.items)) c.place place → AreThere c.parts → IsGood m
    → length (edge_in_made c from m).nodes ≤ MOST
    → Added m (edge_in_made c from m) (edge_in (blocks_in blocks) (body_of c place) from ∷ []) []
edge_in_added blocks c place outs from m table agree there good small =
    added_then m wider (edge_in_made c from m) [] (edge_in (blocks_in blocks) (body_of c place) from ∷ []) [] []
    (grown_added m nodes (deed ∷ []) wide)
    (one_edge wider d (edge_in (blocks_in blocks) (body_of c place) from) wide
    (subst (λ (n : ℕ). length m.deeds < n) (sym (length-append m.deeds (deed ∷ []))) (one_under (length m.deeds))) reads)
  where
    vars : List CodeVariable
    vars = c.parts.vars.items

    nodes : List Node
    nodes = reset_nodes c.parts.bound c.parts.shared 0 vars

    sets : List CodeSet
    sets = reset_sets c.place c.parts.bound c.parts.shared (length m.nodes) 0 vars

    deed : Plain
    deed = true_deed sets

    d : Drawn
    d = record { from = from; aim = aim c 0; deed = length m.deeds }

    wider : Making
    wider = grown nodes (deed ∷ []) m

    wide : IsGood wider
    wide = grown_good m nodes (deed ∷ []) good
        (ordered_joined 0 m.nodes nodes good.nodes (resets_ordered c.parts.bound c.parts.shared 0 (0 + length m.nodes) vars))
        (and_from (has_nodes (length m.nodes + length nodes) deed) true
        (and_from (nat_lt 0 (length m.nodes + length nodes)) (values_below (length m.nodes + length nodes) sets)
        (lt-ltb 0 (length m.nodes + length nodes) (more (length m.nodes) (length nodes) good.some))
        (values_reset c.place c.parts.bound c.parts.shared (length m.nodes) 0 (length m.nodes + length nodes) vars (same_le (length m.nodes + length nodes))))
        refl)
      where
        more : (a b : ℕ) → 1 ≤ a → 0 < a + b
        more a b h = omega (arith, h)

    from_to : Plain_aim → Term → List Set → Plain_drawn
    from_to aim guard sets = record { from = from; aim = aim; guard = guard; sets = sets }

    found : slice_get (m.deeds ++ deed ∷ []) (length m.deeds) ≡ Some deed
    found = ap (λ (n : ℕ). slice_get (m.deeds ++ deed ∷ []) n) (first_of_them (length m.deeds)) ∙ get_behind m.deeds (deed ∷ []) 0

    first : (a b : ℕ) → a < b → 0 < b
    first a b h = omega (arith, h)

    reads : read (m.nodes ++ nodes) (m.deeds ++ deed ∷ []) d ≡ edge_in (blocks_in blocks) (body_of c place) from
    reads =
        ap (λ (o : Option Plain). from_to (aim_seen (aim c 0)) (guard_in (terms_of (m.nodes ++ nodes)) o) (sets_in (terms_of (m.nodes ++ nodes)) o)) found
        ∙ (ap (λ (a : Plain_aim). from_to a (term_at (terms_of (m.nodes ++ nodes)) 0) (map (set_of (terms_of (m.nodes ++ nodes))) sets))
        (aim_is blocks c place outs table 0 (first c.parts.done c.parts.locations there.is_done))
        ∙ (ap (λ (t : Term). from_to (aim_in (blocks_in blocks) (body_of c place) 0) t (map (set_of (terms_of (m.nodes ++ nodes))) sets)) wide.truth
        ∙ ap (λ (ss : List Set). from_to (aim_in (blocks_in blocks) (body_of c place) 0) true_term ss)
        (resets_are_made (work_of c place) c.place m.nodes vars refl
        (λ x lt. agree x (subst (λ (n : ℕ). x < n) (sym (length-map vars variable_of)) lt))
        (subst (λ (n : ℕ). n ≤ MOST) (length-append m.nodes nodes) small))))

-- ---- the edge out

pub out_added : (blocks : List (Option CodeParts)) (c : Copy) (place : ℕ → ℕ) (outs l : ℕ) (m : Making)
    → c.table ≡ table_in blocks c.parts outs → l < c.parts.locations → IsGood m → (o : Option Aim)
    → Added m (out_drawn c l o m) (edges_out (aim_out o) (number_in (blocks_in blocks) (body_of c place) l)) []
out_added blocks c place outs l m table lt good None = nothing_added m good
out_added blocks c place outs l m table lt good (Some to) =
    one_edge m (record { from = number c l; aim = to; deed = 0 }) _ good (some_deed m good)
    (ap (λ (n : ℕ). from_with n (guard_in (terms_of m.nodes) (slice_get m.deeds 0)) (sets_in (terms_of m.nodes) (slice_get m.deeds 0)))
    (number_is blocks c place outs table l (before_it l c.parts.locations lt))
    ∙ (ap (λ (p : Option Plain). from_with from (guard_in (terms_of m.nodes) p) (sets_in (terms_of m.nodes) p)) good.plain
    ∙ ap (λ (t : Term). from_with from t []) good.truth))
  where
    from_with : ℕ → Term → List Set → Plain_drawn
    from_with from guard sets = record { from = from; aim = aim_seen to; guard = guard; sets = sets }

    from : ℕ
    from = number_in (blocks_in blocks) (body_of c place) l
