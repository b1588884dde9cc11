-- The rows have the faults that they are named for, or none.
use Rattle.std.proofs.Common.{◌≡◌, ℕ, zero, suc, ◌+◌, ◌<◌, pos, List, [], ◌∷◌, length, map, slice_get, Bool as Truth, true, false, not, ◌&&◌, nat_lt, cond, Some, IfSome, refl, sym, subst, ap, ◌∙◌, arith}
use Rattle.std.specs.List.{list_all}
use Rattle.std.proofs.lemmas.Bool.{and_left, and_right, ne_eqb, true≢false, false≢true}
use Rattle.std.proofs.lemmas.Int.{ints}
use Rattle.std.proofs.lemmas.List.{length-map}
use Rattle.std.proofs.lemmas.List.Elements.{All-nil, All-from_recursion}
use Rattle.pv_word.specs.declared.types.Ty.TheVariants.{Bool}
use Rattle.pv_flow.specs.declared.term.Node.{Node}
use Rattle.pv_flow.specs.declared.parts.Parts.{Parts as CodeParts}
use Rattle.pv_flow.specs.declared.parts.Edge.{Edge as CodeEdge}
use Rattle.pv_flow.specs.declared.parts.Deed.{Deed as CodeDeed}
use Rattle.pv_flow.specs.declared.parts.Set.{Set as CodeSet}
use Rattle.pv_flow.specs.declared.parts.Loop.{Loop as CodeLoop}
use Rattle.pv_flow.specs.declared.automaton.Automaton.{Automaton}
use Rattle.pv_flow.specs.Terms.{Term, constant}
use Rattle.pv_flow.specs.Automata.{Variable, Edge, CallEdge, Loop, TrapEnd, OverEnd, Parts, types_of, edges_from, calls_from}
use Rattle.pv_flow.specs.Faults.{set_below, edge_below, cross, enters_well, IsFaultless}
use Rattle.pv_flow.specs.WellMade.{IsEdge, OneIsTrue, is_end, leads_well, IsWellMade}
use Rattle.pv_flow.specs.Machines.{IsInlined, IsAcyclic}
use Rattle.pv_flow.specs.View.{term_at, terms_of, variable_of, set_of, edge_of, call_edge_of, loop_of, trap_end_of, over_end_of, parts_of}
use Rattle.pv_flow.specs.Tables.{are_ordered, has_terms, AreTabled}
use Rattle.pv_flow.specs.AutomatonView.{automaton_of}
use Rattle.pv_contracts_flow.specs.Rows.{IsLoopOf, edge, AreLoopsOf, IsEdgePast, BeginWith, IsSetPast, IsCrossing, IsEnteredWithin, IsBareDeed, IsOneEdge}

clash : {b : Truth} → b ≡ false → b ≡ true → ⊥
clash off on = true≢false (sym on ∙ off)

-- ---- an edge past the last location

abbrev ends_at : CodeParts → ℕ → List CodeEdge → Truth
ends_at p n edges = list_all (λ (e : Edge). nat_lt e.from n && nat_lt e.to n) (map (edge_of (terms_of p.nodes.items) p.deeds.items) edges)

pub edge_refused : (p : CodeParts) → IsEdgePast p → IsFaultless (parts_of p) → ⊥
edge_refused p is h =
    let edges : ends_at p p.locations p.edges.items ≡ false =
    ap (λ (n : ℕ). ends_at p n p.edges.items) is.locations ∙ ap (λ (es : List CodeEdge). ends_at p 2 es) is.edges in
    clash (and_left _ _ (and_left _ _ (and_left _ _ edges))) h.locations

-- ---- a set past the last variable

abbrev below : List Term → ℕ → List CodeEdge → List CodeDeed → Truth
below terms k edges deeds = list_all (edge_below k) (map (edge_of terms deeds) edges)

sets_past : (terms : List Term) (sets : List CodeSet) → sets ≡ (record { variable = 3; value = 0 }) ∷ []
    → list_all (set_below 3) (map (set_of terms) sets) ≡ false
sets_past terms sets e = ap (λ (ss : List CodeSet). list_all (set_below 3) (map (set_of terms) ss)) e

deeds_past : (terms : List Term) (deeds : List CodeDeed) → BeginWith ((record { variable = 3; value = 0 }) ∷ []) deeds
    → below terms 3 (edge 0 1 ∷ []) deeds ≡ false
deeds_past terms [] h = absurd h
deeds_past terms (deed ∷ deeds) h = and_left _ _ (and_right _ _ (sets_past terms deed.sets.items h.sets))

pub set_refused : (p : CodeParts) → IsSetPast p → IsFaultless (parts_of p) → ⊥
set_refused p is h =
    let terms = terms_of p.nodes.items in
    let k : length (map variable_of p.vars.items) ≡ 3 = length-map p.vars.items variable_of ∙ is.vars in
    let edges : below terms (length (map variable_of p.vars.items)) p.edges.items p.deeds.items ≡ false =
    ap (λ (n : ℕ). below terms n p.edges.items p.deeds.items) k ∙ ap (λ (es : List CodeEdge). below terms 3 es p.deeds.items) is.edges
    ∙ deeds_past terms p.deeds.items is.deeds in
    clash (and_left _ _ edges) h.variables

-- ---- loops

abbrev plain : ℕ → ℕ → CodeLoop → Loop
plain first last loop = record { first = first; last = last; entry_turn = loop.entry_turn; turns = []; place = loop.place }

plainly : (first last : ℕ) (loop : CodeLoop) → IsLoopOf first last loop → loop_of loop ≡ plain first last loop
plainly first last loop is =
    ap (λ (n : ℕ). let l : Loop = record { first = n; last = loop.last; entry_turn = loop.entry_turn; turns = loop.turns.items; place = loop.place } in l) is.first
    ∙ ap (λ (n : ℕ). let l : Loop = record { first = first; last = n; entry_turn = loop.entry_turn; turns = loop.turns.items; place = loop.place } in l) is.last
    ∙ ap (λ (ts : List ℕ). let l : Loop = record { first = first; last = last; entry_turn = loop.entry_turn; turns = ts; place = loop.place } in l) is.turns

-- with these loops and edges in the place of the parts'
abbrev nests : CodeParts → List CodeEdge → List Loop → Truth
nests p edges loops = list_all
    (λ (loop : Loop).
    list_all (λ (e : ℕ). nat_lt e (length (parts_of p).edges)) loop.turns
    && list_all (λ (other : Loop). not (cross loop other)) loops
    && (list_all (λ (e : Edge). enters_well loop e.from e.to) (map (edge_of (terms_of p.nodes.items) p.deeds.items) edges)
    && list_all (λ (call : CallEdge). enters_well loop call.from call.to) (parts_of p).calls))
    loops

crossing_fails : (p : CodeParts) (edges : List CodeEdge) (loops : List CodeLoop) → AreLoopsOf ((0, 2) ∷ (1, 3) ∷ []) loops
    → nests p edges (map loop_of loops) ≡ false
crossing_fails p edges [] h = absurd h
crossing_fails p edges (a ∷ []) h = absurd h.1
crossing_fails p edges (a ∷ b ∷ []) h =
    ap (λ (l : Loop). nests p edges (l ∷ loop_of b ∷ [])) (plainly 0 2 a h.0)
    ∙ ap (λ (l : Loop). nests p edges (plain 0 2 a ∷ l ∷ [])) (plainly 1 3 b (h.1).0)
crossing_fails p edges (a ∷ b ∷ c ∷ loops) h = absurd (h.1).1

pub crossing_refused : (p : CodeParts) → IsCrossing p → IsFaultless (parts_of p) → ⊥
crossing_refused p is h = clash (crossing_fails p p.edges.items p.loops.items is) h.loops

entering_fails : (p : CodeParts) (loops : List CodeLoop) → AreLoopsOf ((0, 2) ∷ []) loops
    → nests p (edge 3 1 ∷ []) (map loop_of loops) ≡ false
entering_fails p [] h = absurd h
entering_fails p (a ∷ []) h = ap (λ (l : Loop). nests p (edge 3 1 ∷ []) (l ∷ [])) (plainly 0 2 a h.0)
entering_fails p (a ∷ b ∷ loops) h = absurd h.1

pub entering_refused : (p : CodeParts) → IsEnteredWithin p → IsFaultless (parts_of p) → ⊥
entering_refused p is h =
    clash (ap (λ (es : List CodeEdge). nests p es (map loop_of p.loops.items)) is.edges ∙ entering_fails p p.loops.items is.loops) h.loops

-- ---- parts without fault

abbrev taken : Edge
taken = record { from = 0; to = 1; guard = constant Bool (pos 1); sets = [] }

abbrev one_edge : Parts
one_edge = record {
  vars = [];
  bound = 0;
  shared = 0;
  locations = 2;
  edges = taken ∷ [];
  calls = [];
  loops = [];
  done = 1;
  traps = [];
  overs = [];
}

none : 0 < 0 → ⊥
none h = absurd (omega (arith, h))

none_behind : (l : ℕ) → edges_from (suc l) one_edge.edges ≡ []
none_behind l = ap (λ (b : Truth). cond b (taken ∷ []) []) (ne_eqb 0 (suc l) (λ e. absurd (omega (arith, e))))

one_true : OneIsTrue one_edge
one_true zero w are h = refl
one_true (suc l) w are h = absurd (none (subst (λ (edges : List Edge). 0 < length edges) (none_behind l) h))

ends_bare : (l : ℕ) → is_end one_edge l ≡ true → length (calls_from l []) + length (edges_from l one_edge.edges) ≡ 0
ends_bare zero e = absurd (false≢true e)
ends_bare (suc l) e = ap (λ (edges : List Edge). 0 + length edges) (none_behind l)

leads_on : (l : ℕ) → l < 2 → is_end one_edge l ≡ false → 0 < length (calls_from l []) + length (edges_from l one_edge.edges)
leads_on zero lt e = omega arith
leads_on (suc zero) lt e = absurd (true≢false e)
leads_on (suc (suc l)) lt e = absurd (omega (arith, lt))

is_edge : IsEdge (types_of one_edge) taken
is_edge = record {
  guard = record { from = omega (arith, ints); to = omega (arith, ints) };
  condition = refl;
  sets = All-nil _;
}

leads : (e : ℕ) → IfSome (slice_get one_edge.edges e) (λ edge. leads_well [] (Some e) edge.from edge.to ≡ true)
leads zero = refl
leads (suc e) = tt

is_well_made : IsWellMade one_edge
is_well_made = record {
  vars = All-nil _;
  counts = omega arith;
  edges = All-from_recursion (IsEdge (types_of one_edge)) one_edge.edges (is_edge, tt);
  guards = one_true;
  calls = λ l h. absurd (none h);
  ends = ends_bare;
  others = leads_on;
  different = refl;
  begins = refl;
  loops = All-nil _;
  apart = λ i j lt. tt;
  forward = leads;
  calls_forward = All-nil _;
}

edge_seen : (terms : List Term) (deeds : List CodeDeed) → terms ≡ constant Bool (pos 1) ∷ [] → IsBareDeed deeds
    → edge_of terms deeds (edge 0 1) ≡ taken
edge_seen terms [] t h = absurd h
edge_seen terms (deed ∷ []) t h =
    ap (λ (n : ℕ). let e : Edge = record { from = 0; to = 1; guard = term_at terms n; sets = map (set_of terms) deed.sets.items } in e) h.guard
    ∙ ap (λ (ss : List CodeSet). let e : Edge = record { from = 0; to = 1; guard = term_at terms 0; sets = map (set_of terms) ss } in e) h.sets
    ∙ ap (λ (ts : List Term). let e : Edge = record { from = 0; to = 1; guard = term_at ts 0; sets = [] } in e) t
edge_seen terms (deed ∷ other ∷ deeds) t h = absurd h

edges_seen : (p : CodeParts) → IsOneEdge p → map (edge_of (terms_of p.nodes.items) p.deeds.items) p.edges.items ≡ taken ∷ []
edges_seen p is =
    ap (map (edge_of (terms_of p.nodes.items) p.deeds.items)) is.edges
    ∙ ap (λ (e : Edge). e ∷ []) (edge_seen (terms_of p.nodes.items) p.deeds.items (ap terms_of is.nodes) is.deeds)

seen : (p : CodeParts) → IsOneEdge p → parts_of p ≡ one_edge
seen p is =
    let q = parts_of p in
    ap (λ (x : List Variable). let r : Parts = record { vars = x; bound = q.bound; shared = q.shared; locations = q.locations; edges = q.edges; calls = q.calls; loops = q.loops; done = q.done; traps = q.traps; overs = q.overs } in r) (ap (map variable_of) is.vars)
    ∙ ap (λ (x : ℕ). let r : Parts = record { vars = []; bound = x; shared = q.shared; locations = q.locations; edges = q.edges; calls = q.calls; loops = q.loops; done = q.done; traps = q.traps; overs = q.overs } in r) is.bound
    ∙ ap (λ (x : ℕ). let r : Parts = record { vars = []; bound = 0; shared = x; locations = q.locations; edges = q.edges; calls = q.calls; loops = q.loops; done = q.done; traps = q.traps; overs = q.overs } in r) is.shared
    ∙ ap (λ (x : ℕ). let r : Parts = record { vars = []; bound = 0; shared = 0; locations = x; edges = q.edges; calls = q.calls; loops = q.loops; done = q.done; traps = q.traps; overs = q.overs } in r) is.locations
    ∙ ap (λ (x : List Edge). let r : Parts = record { vars = []; bound = 0; shared = 0; locations = 2; edges = x; calls = q.calls; loops = q.loops; done = q.done; traps = q.traps; overs = q.overs } in r) (edges_seen p is)
    ∙ ap (λ (x : List CallEdge). let r : Parts = record { vars = []; bound = 0; shared = 0; locations = 2; edges = taken ∷ []; calls = x; loops = q.loops; done = q.done; traps = q.traps; overs = q.overs } in r) (ap (map call_edge_of) is.calls)
    ∙ ap (λ (x : List Loop). let r : Parts = record { vars = []; bound = 0; shared = 0; locations = 2; edges = taken ∷ []; calls = []; loops = x; done = q.done; traps = q.traps; overs = q.overs } in r) (ap (map loop_of) is.loops)
    ∙ ap (λ (x : ℕ). let r : Parts = record { vars = []; bound = 0; shared = 0; locations = 2; edges = taken ∷ []; calls = []; loops = []; done = x; traps = q.traps; overs = q.overs } in r) is.done
    ∙ ap (λ (x : List TrapEnd). let r : Parts = record { vars = []; bound = 0; shared = 0; locations = 2; edges = taken ∷ []; calls = []; loops = []; done = 1; traps = x; overs = q.overs } in r) (ap (map trap_end_of) is.traps)
    ∙ ap (λ (x : List OverEnd). let r : Parts = record { vars = []; bound = 0; shared = 0; locations = 2; edges = taken ∷ []; calls = []; loops = []; done = 1; traps = []; overs = x } in r) (ap (map over_end_of) is.overs)

pub one_is_well_made : (p : CodeParts) → IsOneEdge p → IsFaultless (parts_of p) → IsWellMade (parts_of p)
one_is_well_made p is h = subst (λ (q : Parts). IsWellMade q) (sym (seen p is)) is_well_made

deed_tabled : (deeds : List CodeDeed) → IsBareDeed deeds → list_all (has_terms 1) deeds ≡ true
deed_tabled [] h = absurd h
deed_tabled (deed ∷ []) h =
    ap (λ (n : ℕ). (nat_lt n 1 && list_all (λ (set : CodeSet). nat_lt set.value 1) deed.sets.items) && true) h.guard
    ∙ ap (λ (ss : List CodeSet). list_all (λ (set : CodeSet). nat_lt set.value 1) ss && true) h.sets
deed_tabled (deed ∷ other ∷ deeds) h = absurd h

deed_is_there : (deeds : List CodeDeed) → IsBareDeed deeds → list_all (λ (e : CodeEdge). nat_lt e.deed (length deeds)) (edge 0 1 ∷ []) ≡ true
deed_is_there [] h = absurd h
deed_is_there (deed ∷ []) h = refl
deed_is_there (deed ∷ other ∷ deeds) h = absurd h

pub one_is_tabled : (p : CodeParts) → IsOneEdge p → IsFaultless (parts_of p) → AreTabled p
one_is_tabled p is h = record {
  nodes = ap (are_ordered 0) is.nodes;
  deeds = ap (λ (nodes : List Node). list_all (has_terms (length nodes)) p.deeds.items) is.nodes ∙ deed_tabled p.deeds.items is.deeds;
  edges = ap (list_all (λ (edge : CodeEdge). nat_lt edge.deed (length p.deeds.items))) is.edges ∙ deed_is_there p.deeds.items is.deeds;
}

pub one_is_inlined : (a : Automaton) (p : CodeParts) → IsOneEdge p → automaton_of a ≡ parts_of p → IsInlined (automaton_of a) 16
one_is_inlined a p is e = subst (λ (q : Parts). IsInlined q 16) (sym (e ∙ seen p is)) (refl, omega arith)

pub one_is_acyclic : (a : Automaton) (p : CodeParts) → IsOneEdge p → automaton_of a ≡ parts_of p → IsAcyclic (automaton_of a)
one_is_acyclic a p is e = subst (λ (q : Parts). IsAcyclic q) (sym (e ∙ seen p is))
    (record { calls = refl; loops = refl; forward = All-from_recursion (λ (edge : Edge). edge.from < edge.to) one_edge.edges (omega arith, tt) })
