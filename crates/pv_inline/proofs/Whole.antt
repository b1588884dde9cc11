-- What is made of the entry and its calls, put together, is the automaton with copies.
use Rattle.std.proofs.Common.{◌≡◌, ℕ, ◌+◌, ◌<◌, ◌≤◌, List, [], ◌∷◌, ◌++◌, map, length, length-append, slice_get, true, nat_lt, MatchOption, Option, Some, None, Result, Ok, Err, IfOk, OnOk, refl, sym, subst, ap, ◌∙◌, arith}
use Rattle.std.specs.Prelude.{slice_index_or}
use Rattle.std.specs.List.{list_all}
use Rattle.std.proofs.lemmas.Bool.{and_parts, and_from, both_ways}
use Rattle.std.proofs.lemmas.List.{length-map}
use Rattle.pv_flow.specs.declared.term.Node.{Node}
use Rattle.pv_flow.specs.declared.parts.Deed.{Deed as CodeDeed}
use Rattle.pv_flow.specs.declared.automaton.Automaton.{Automaton}
use Rattle.pv_flow.specs.declared.parts.Variable.{Variable as CodeVariable}
use Rattle.pv_flow.specs.declared.parts.Edge.{Edge as CodeEdge}
use Rattle.pv_flow.specs.declared.parts.Loop.{Loop as CodeLoop}
use Rattle.pv_flow.specs.declared.inlined_machine.Inlined.{Inlined}
use Rattle.pv_flow.specs.declared.parts.CallEdge.{CallEdge as CodeCallEdge}
use Rattle.pv_flow.specs.declared.parts.TrapEnd.{TrapEnd as CodeTrapEnd}
use Rattle.pv_flow.specs.declared.parts.OverEnd.{OverEnd as CodeOverEnd}
use Rattle.pv_flow.specs.declared.parts.Parts.{Parts as CodeParts}
use Rattle.pv_flow.specs.Terms.{Term}
use Rattle.pv_flow.specs.Automata.{Variable, Set, Edge, CallEdge, Loop, TrapEnd, OverEnd, Parts}
use Rattle.pv_flow.specs.Calls.{Blocks, block_at, Work, entry_work}
use Rattle.pv_flow.specs.CallMachines.{IsMachineWithCalls}
use Rattle.pv_flow.specs.declared.fault.FlowFault.{FlowFault}
use Rattle.pv_flow.specs.declared.fault.FlowFault.TheVariants as flow
use Rattle.pv_flow.specs.Faults.{has_locations, has_variables, has_loops, IsFaultless, IsFaultOf}
use Rattle.pv_flow.specs.Fitting.{AreFitting}
use Rattle.pv_flow.specs.MachineView.{inlined_parts, bound_of}
use Rattle.pv_flow.specs.Machines.{inlined_machine}
use Rattle.pv_flow.specs.WellMade.{IsWellMade}
use Rattle.pv_flow.specs.Tables.{are_ordered, AreTabled}
use Rattle.pv_flow.specs.View.{terms_of, guard_of, sets_of, variable_of, edge_of, call_edge_of, loop_of, trap_end_of, over_end_of, parts_of}
use Rattle.pv_call_copies.specs.Inlined.{added_by_calls, added, before, span, Body, entry_body, Drawn as Plain_drawn, drawn_below, drawn, laid_below, laid, edges_of, traps_of, overs_of, behind, next_by, text_size, drawn_all, inlined}
use Rattle.pv_call_copies.proofs.ForCallers.{HasRoom, entry_room, sound_at, inlined_is_well_made, inlined_has_the_machine}
use Rattle.pv_call_tables.specs.declared.drawn.Drawn.{Drawn}
use Rattle.pv_call_tables.specs.Drawing.{aim_seen, drawn_seen, edges_by, traps_by, overs_by, next_after}
use Rattle.pv_call_tables.proofs.ForCallers.{edges_are, traps_are, overs_are, behind_is}
use Rattle.pv_inline.specs.Numbers.{MOST}
use Rattle.pv_call_terms.specs.Deeds.{Plain, deed_seen}
use Rattle.pv_call_terms.proofs.ForCallers.{seen_in, seen_at, all_seen}
use Rattle.pv_inline.specs.declared.fault.TooLarge.{TooLarge}
use Rattle.pv_inline.specs.declared.making.Making.{Making as CodeMaking}
use Rattle.pv_inline.specs.declared.inlining.Ways.{Ways as CodeWays}
use Rattle.pv_inline.specs.declared.table.Table.{Table as CodeTable}
use Rattle.pv_inline.specs.Blocks.{blocks_of, codes_of, block_in, blocks_in, code_at}
use Rattle.pv_inline.specs.Inlining.{IsThere, CanCopy, IsCopied, IsWithoutCalls, IsInlinedAs, HasTheMachine, IsAssembled, IsPutTogether, IsWays, IsInlining}
use Rattle.pv_inline.specs.Seen.{making_seen, table_seen}
use Rattle.pv_inline.specs.Tables.{Table, starts_in, table_in}
use Rattle.pv_inline.specs.Variables.{variables_in, variables_at}
use Rattle.pv_inline.specs.Walking.{Making, first_making, entry_copy, below, all_made}
use Rattle.pv_inline.specs.Reading.{guard_in, sets_in, has_nodes, read, has_deed, IsGood, Added}
use Rattle.pv_inline.specs.Copies.{work_of, body_of, IsWhole}
use Rattle.pv_inline.proofs.Coded.{some_block, none_block, code_of_block, same_blocks, sound_blocks}
use Rattle.pv_inline.proofs.Growing.{below_grows}
use Rattle.pv_inline.proofs.Lying.{entry_lies}
use Rattle.pv_inline.proofs.Tabling.{are_there, starts_are}
use Rattle.pv_inline.proofs.Walks.{work_with, body_with, IsCopy, copy_added, drawn_down, laid_down, levels_added}

-- ---- blocks

whole_of : (codes : List (Option CodeParts)) (b : ℕ) (vars : List Variable) → CanCopy codes b → length vars ≤ MOST → IsWhole codes vars
whole_of codes b vars can few = record { fit = can.fit; sound = can.sound; few = few; code = code_of_block codes can.tabled }

-- ---- the entry

abbrev pub all_vars : Blocks → Parts → List Variable
all_vars blocks p = p.vars ++ added_by_calls (added blocks) p.calls

entry_is : (blocks : List (Option CodeParts)) (b : ℕ) (p : CodeParts) → CanCopy blocks b → code_at blocks b ≡ Some p
    → length (all_vars (blocks_in blocks) (parts_of p)) ≤ MOST
    → IsCopy blocks (all_vars (blocks_in blocks) (parts_of p)) b (entry_copy blocks p) (λ x. x)
entry_is blocks b p can at few = record {
  at = some_block blocks b p at;
  tabled = can.tabled b p at;
  table = refl;
  lies = record { own = λ x lt. entry_lies p.bound p.shared (length (parts_of p).vars) x own lt; shared = λ y lt. refl };
  room = subst (λ (w : Work). HasRoom (blocks_in blocks) (all_vars (blocks_in blocks) (parts_of p)) w) works (entry_room (blocks_in blocks) (parts_of p));
}
  where
    own : length (parts_of p).vars ≤ MOST
    own = by MOST (length (parts_of p).vars) (length (added_by_calls (added (blocks_in blocks)) (parts_of p).calls))
        (subst (λ (n : ℕ). n ≤ MOST) (length-append (parts_of p).vars (added_by_calls (added (blocks_in blocks)) (parts_of p).calls)) few)
      where
        by : (most a b : ℕ) → a + b ≤ most → a ≤ most
        by most a b le = omega (arith, le)

    works : entry_work (parts_of p) ≡ work_of (entry_copy blocks p) (λ x. x)
    works = ap (λ (n : ℕ). work_with (parts_of p) (λ x. x) n) (length-map p.vars.items variable_of)

one_le : 1 ≤ 1
one_le = omega arith

first_good : IsGood first_making
first_good = record { nodes = refl; deeds = refl; drawn = refl; truth = refl; plain = refl; some = one_le }

-- what is made of it and of its calls
all_added : (blocks : List (Option CodeParts)) (b : ℕ) (p : CodeParts) → CanCopy blocks b → code_at blocks b ≡ Some p
    → length (all_vars (blocks_in blocks) (parts_of p)) ≤ MOST → length (all_made blocks p).nodes ≤ MOST
    → Added first_making (all_made blocks p) (drawn_all (blocks_in blocks) (parts_of p))
    (laid_below (blocks_in blocks) (laid (blocks_in blocks)) (entry_body (parts_of p)) 0 p.locations)
all_added blocks b p can at few small =
    subst (λ (x : Body). Added first_making (all_made blocks p)
    (drawn_below (blocks_in blocks) (drawn (blocks_in blocks)) x p.locations)
    (laid_below (blocks_in blocks) (laid (blocks_in blocks)) x 0 p.locations)) bodies
    (subst (λ (n : ℕ). Added first_making (all_made blocks p)
    (drawn_below (blocks_in blocks) (drawn_down (blocks_in blocks) n) (body_of (entry_copy blocks p) (λ x. x)) p.locations)
    (laid_below (blocks_in blocks) (laid_down (blocks_in blocks) n) (body_of (entry_copy blocks p) (λ x. x)) 0 p.locations))
    (sym (length-map blocks block_in))
    (copy_added blocks vars b (entry_copy blocks p) (λ x. x) whole (entry_is blocks b p can at few) (below blocks (length blocks))
    (drawn_down (blocks_in blocks) (length blocks)) (laid_down (blocks_in blocks) (length blocks)) (levels_added blocks vars whole (length blocks))
    (below_grows blocks (length blocks)) first_making first_good small))
  where
    vars : List Variable
    vars = all_vars (blocks_in blocks) (parts_of p)

    whole : IsWhole blocks vars
    whole = whole_of blocks b vars can few

    bodies : body_of (entry_copy blocks p) (λ x. x) ≡ entry_body (parts_of p)
    bodies = ap (λ (n : ℕ). body_with (work_with (parts_of p) (λ x. x) n) 0 None) (sym (length-map p.vars.items variable_of))

-- ---- edges, read by the code's tables

guard_alike : (terms : List Term) (o : Option CodeDeed) → guard_of terms o ≡ guard_in terms (seen_in o)
guard_alike terms None = refl
guard_alike terms (Some deed) = refl

sets_alike : (terms : List Term) (o : Option CodeDeed) → sets_of terms o ≡ sets_in terms (seen_in o)
sets_alike terms None = refl
sets_alike terms (Some deed) = refl

abbrev with_both : Drawn → Term → List Set → Plain_drawn
with_both d guard sets = record { from = d.from; aim = aim_seen d.aim; guard = guard; sets = sets }

seen_is_read : (nodes : List Node) (deeds : List CodeDeed) (ds : List Drawn)
    → map (drawn_seen (terms_of nodes) deeds) ds ≡ map (read nodes (map deed_seen deeds)) ds
seen_is_read nodes deeds [] = refl
seen_is_read nodes deeds (d ∷ ds) =
    ap (λ (t : Term). with_both d t (sets_of (terms_of nodes) (slice_get deeds d.deed)) ∷ map (drawn_seen (terms_of nodes) deeds) ds)
    (guard_alike (terms_of nodes) (slice_get deeds d.deed) ∙ ap (λ (o : Option Plain). guard_in (terms_of nodes) o) (seen_at deeds d.deed))
    ∙ (ap (λ (ss : List Set). with_both d (guard_in (terms_of nodes) (slice_get (map deed_seen deeds) d.deed)) ss
    ∷ map (drawn_seen (terms_of nodes) deeds) ds)
    (sets_alike (terms_of nodes) (slice_get deeds d.deed) ∙ ap (λ (o : Option Plain). sets_in (terms_of nodes) o) (seen_at deeds d.deed))
    ∙ ap (λ (rest : List Plain_drawn). read nodes (map deed_seen deeds) d ∷ rest) (seen_is_read nodes deeds ds))

deeds_there : (k next : ℕ) (ds : List Drawn) → list_all (has_deed k) ds ≡ true
    → list_all (λ (edge : CodeEdge). nat_lt edge.deed k) (edges_by next ds) ≡ true
deeds_there k next [] all = refl
deeds_there k next (d ∷ ds) all =
    let both = and_parts (nat_lt d.deed k) (list_all (has_deed k) ds) all in
    and_from (nat_lt d.deed k) (list_all (λ (edge : CodeEdge). nat_lt edge.deed k) (edges_by (next_by (aim_seen d.aim) next) ds)) both.0
    (deeds_there k (next_by (aim_seen d.aim) next) ds both.1)

-- ---- put together

same_parts : (a b : Parts) → a.vars ≡ b.vars → a.bound ≡ b.bound → a.shared ≡ b.shared → a.locations ≡ b.locations → a.edges ≡ b.edges
    → a.calls ≡ b.calls → a.loops ≡ b.loops → a.done ≡ b.done → a.traps ≡ b.traps → a.overs ≡ b.overs → a ≡ b
same_parts a b vars bound shared locations edges calls loops is_done traps overs =
    ap (λ (x : List Variable). parts x a.bound a.shared a.locations a.edges a.calls a.loops a.done a.traps a.overs) vars
    ∙ (ap (λ (x : ℕ). parts b.vars x a.shared a.locations a.edges a.calls a.loops a.done a.traps a.overs) bound
    ∙ (ap (λ (x : ℕ). parts b.vars b.bound x a.locations a.edges a.calls a.loops a.done a.traps a.overs) shared
    ∙ (ap (λ (x : ℕ). parts b.vars b.bound b.shared x a.edges a.calls a.loops a.done a.traps a.overs) locations
    ∙ (ap (λ (x : List Edge). parts b.vars b.bound b.shared b.locations x a.calls a.loops a.done a.traps a.overs) edges
    ∙ (ap (λ (x : List CallEdge). parts b.vars b.bound b.shared b.locations b.edges x a.loops a.done a.traps a.overs) calls
    ∙ (ap (λ (x : List Loop). parts b.vars b.bound b.shared b.locations b.edges b.calls x a.done a.traps a.overs) loops
    ∙ (ap (λ (x : ℕ). parts b.vars b.bound b.shared b.locations b.edges b.calls b.loops x a.traps a.overs) is_done
    ∙ (ap (λ (x : List TrapEnd). parts b.vars b.bound b.shared b.locations b.edges b.calls b.loops b.done x a.overs) traps
    ∙ ap (λ (x : List OverEnd). parts b.vars b.bound b.shared b.locations b.edges b.calls b.loops b.done b.traps x) overs))))))))
  where
    parts : List Variable → ℕ → ℕ → ℕ → List Edge → List CallEdge → List Loop → ℕ → List TrapEnd → List OverEnd → Parts
    parts vars bound shared locations edges calls loops last traps overs = record {
      vars = vars;
      bound = bound;
      shared = shared;
      locations = locations;
      edges = edges;
      calls = calls;
      loops = loops;
      done = last;
      traps = traps;
      overs = overs;
    }

-- the code's parts, by their lists
pub record IsPut (blocks : List (Option CodeParts)) (p q : CodeParts) (m : Making) (text : ℕ) : Type 0 where
  pub nodes : q.nodes.items ≡ m.nodes
  pub deeds : map deed_seen q.deeds.items ≡ m.deeds
  pub vars : map variable_of q.vars.items ≡ all_vars (blocks_in blocks) (parts_of p)
  pub bound : q.bound ≡ p.bound
  pub shared : q.shared ≡ p.shared
  pub locations : q.locations ≡ next_after text m.drawn
  pub edges : q.edges.items ≡ edges_by text m.drawn
  pub calls : q.calls.items ≡ []
  pub loops : map loop_of q.loops.items ≡ m.loops
  pub is_done : q.done ≡ before (span (blocks_in blocks)) (parts_of p) p.done
  pub traps : q.traps.items ≡ traps_by text m.drawn
  pub overs : q.overs.items ≡ overs_by text m.drawn
  pub text_is : text ≡ text_size (blocks_in blocks) (parts_of p)

pub put_together : (blocks : List (Option CodeParts)) (p q : CodeParts) (m : Making) (text : ℕ)
    → Added first_making m (drawn_all (blocks_in blocks) (parts_of p))
    (laid_below (blocks_in blocks) (laid (blocks_in blocks)) (entry_body (parts_of p)) 0 p.locations)
    → IsPut blocks p q m text → parts_of q ≡ inlined (blocks_in blocks) (parts_of p)
put_together blocks p q m text h is =
    same_parts (parts_of q) (inlined (blocks_in blocks) (parts_of p)) is.vars is.bound is.shared
    (is.locations
    ∙ (behind_is terms q.deeds.items text m.drawn
    ∙ (ap (λ (ds : List Plain_drawn). behind text ds) drawn_is ∙ ap (λ (n : ℕ). behind n all) is.text_is)))
    (ap (λ (es : List CodeEdge). map (edge_of terms q.deeds.items) es) is.edges
    ∙ (edges_are terms q.deeds.items text m.drawn
    ∙ (ap (λ (ds : List Plain_drawn). edges_of text ds) drawn_is ∙ ap (λ (n : ℕ). edges_of n all) is.text_is)))
    (ap (λ (cs : List CodeCallEdge). map call_edge_of cs) is.calls)
    (is.loops ∙ h.loops)
    (is.is_done ∙ none (before (span (blocks_in blocks)) (parts_of p) p.done))
    (ap (λ (ts : List CodeTrapEnd). map trap_end_of ts) is.traps
    ∙ (traps_are terms q.deeds.items text m.drawn
    ∙ (ap (λ (ds : List Plain_drawn). traps_of text ds) drawn_is ∙ ap (λ (n : ℕ). traps_of n all) is.text_is)))
    (ap (λ (os : List CodeOverEnd). map over_end_of os) is.overs
    ∙ (overs_are terms q.deeds.items text m.drawn
    ∙ (ap (λ (ds : List Plain_drawn). overs_of text ds) drawn_is ∙ ap (λ (n : ℕ). overs_of n all) is.text_is)))
  where
    terms : List Term
    terms = terms_of q.nodes.items

    all : List Plain_drawn
    all = drawn_all (blocks_in blocks) (parts_of p)

    none : (n : ℕ) → n ≡ 0 + n
    none n = omega arith

    drawn_is : map (drawn_seen terms q.deeds.items) m.drawn ≡ all
    drawn_is =
        seen_is_read q.nodes.items q.deeds.items m.drawn
        ∙ (ap (λ (ns : List Node). map (read ns (map deed_seen q.deeds.items)) m.drawn) is.nodes
        ∙ (ap (λ (ds : List Plain). map (read m.nodes ds) m.drawn) is.deeds
        ∙ (ap (λ (ds : List Drawn). map (read m.nodes m.deeds) ds) h.drawn ∙ h.is_read)))

pub put_tabled : (blocks : List (Option CodeParts)) (p q : CodeParts) (m : Making) (text : ℕ) → IsGood m → IsPut blocks p q m text → AreTabled q
put_tabled blocks p q m text good is = record {
  nodes = subst (λ (ns : List Node). are_ordered 0 ns ≡ true) (sym is.nodes) good.nodes;
  deeds = all_seen (length q.nodes.items) q.deeds.items
      ∙ subst (λ (ns : List Node). list_all (has_nodes (length ns)) (map deed_seen q.deeds.items) ≡ true) (sym is.nodes)
      (subst (λ (ds : List Plain). list_all (has_nodes (length m.nodes)) ds ≡ true) (sym is.deeds) good.deeds);
  edges = subst (λ (es : List CodeEdge). list_all (λ (edge : CodeEdge). nat_lt edge.deed (length q.deeds.items)) es ≡ true) (sym is.edges)
      (deeds_there (length q.deeds.items) text m.drawn
      (subst (λ (n : ℕ). list_all (has_deed n) m.drawn ≡ true)
      (sym (ap (λ (ds : List Plain). length ds) is.deeds) ∙ length-map q.deeds.items deed_seen) good.drawn));
}

-- ---- what the call answers

pub inlining_is : (codes : List (Option CodeParts)) (b : ℕ) (p q : CodeParts) (vars : List CodeVariable) (m : CodeMaking) (text last : ℕ)
    → map variable_of vars ≡ variables_at (blocks_in codes) b → length vars ≤ MOST → making_seen m ≡ all_made codes p
    → length m.nodes.items ≤ MOST → text ≡ slice_index_or (starts_in (blocks_in codes) p) p.locations 0
    → last ≡ slice_index_or (starts_in (blocks_in codes) p) p.done 0 → IsAssembled p vars m text last q → IsInlining codes b p q
inlining_is codes b p q vars m text last named few made small text_at last_at is = record {
  parts = λ can at. put_together codes p q (all_made codes p) text (added_all can at) (put can at);
  tabled = λ can at. put_tabled codes p q (all_made codes p) text (added_all can at).good (put can at);
}
  where
    same_le : (n : ℕ) → n ≤ n
    same_le n = omega arith

    vars_are : CanCopy codes b → code_at codes b ≡ Some p → map variable_of vars ≡ all_vars (blocks_in codes) (parts_of p)
    vars_are can at = named ∙ ap (λ (o : Option Parts). variables_in (blocks_in codes) o) (some_block codes b p at)

    few_of : CanCopy codes b → code_at codes b ≡ Some p → length (all_vars (blocks_in codes) (parts_of p)) ≤ MOST
    few_of can at = subst (λ (n : ℕ). n ≤ MOST) (sym (length-map vars variable_of) ∙ ap (λ (vs : List Variable). length vs) (vars_are can at)) few

    added_all : CanCopy codes b → code_at codes b ≡ Some p → Added first_making (all_made codes p) (drawn_all (blocks_in codes) (parts_of p))
        (laid_below (blocks_in codes) (laid (blocks_in codes)) (entry_body (parts_of p)) 0 p.locations)
    added_all can at = all_added codes b p can at (few_of can at) (subst (λ (x : Making). length x.nodes ≤ MOST) made small)

    drawn_is : m.drawn.items ≡ (all_made codes p).drawn
    drawn_is = ap (λ (x : Making). x.drawn) made

    done_there : CanCopy codes b → code_at codes b ≡ Some p → p.done ≤ p.locations
    done_there can at =
        let there = are_there p (sound_at (blocks_in codes) can.sound b (parts_of p) (some_block codes b p at)).faultless in
        weaker p.done p.locations there.is_done
      where
        weaker : (x y : ℕ) → x < y → x ≤ y
        weaker x y h = omega (arith, h)

    put : CanCopy codes b → code_at codes b ≡ Some p → IsPut codes p q (all_made codes p) text
    put can at = record {
      nodes = is.nodes ∙ ap (λ (x : Making). x.nodes) made;
      deeds = ap (λ (ds : List CodeDeed). map deed_seen ds) is.deeds ∙ ap (λ (x : Making). x.deeds) made;
      vars = ap (λ (vs : List CodeVariable). map variable_of vs) is.vars ∙ vars_are can at;
      bound = is.bound;
      shared = is.shared;
      locations = is.locations ∙ ap (λ (ds : List Drawn). next_after text ds) drawn_is;
      edges = is.edges ∙ ap (λ (ds : List Drawn). edges_by text ds) drawn_is;
      calls = is.calls;
      loops = ap (λ (ls : List CodeLoop). map loop_of ls) is.loops ∙ ap (λ (x : Making). x.loops) made;
      is_done = is.is_done ∙ (last_at ∙ starts_are (blocks_in codes) p p.done (done_there can at));
      traps = is.traps ∙ ap (λ (ds : List Drawn). traps_by text ds) drawn_is;
      overs = is.overs ∙ ap (λ (ds : List Drawn). overs_by text ds) drawn_is;
      text_is = text_at ∙ starts_are (blocks_in codes) p p.locations (same_le p.locations);
    }

-- by the code's table
pub started : (codes : List (Option CodeParts)) (p : CodeParts) (t : CodeTable) (starts : List ℕ) (l n : ℕ) → table_seen t ≡ table_in codes p 0
    → starts ≡ t.widths.starts.items → n ≡ slice_index_or starts l 0 → n ≡ slice_index_or (starts_in (blocks_in codes) p) l 0
started codes p t starts l n table same is =
    is ∙ (ap (λ (ns : List ℕ). slice_index_or ns l 0) same ∙ ap (λ (x : Table). slice_index_or x.starts l 0) table)

-- put together of what the code has at hand
pub assembling : (p : CodeParts) (vs : List CodeVariable) (m : CodeMaking) (text last : ℕ) (w : CodeWays) (q : CodeParts)
    → IsWays text m.drawn.items w → IsPutTogether p vs m last w q → IsAssembled p vs m text last q
assembling p vs m text last w q ways is = record {
  nodes = is.nodes;
  deeds = is.deeds;
  vars = is.vars;
  bound = is.bound;
  shared = is.shared;
  locations = is.locations ∙ ways.locations;
  edges = is.edges ∙ ways.edges;
  calls = is.calls;
  loops = is.loops;
  is_done = is.is_done;
  traps = is.traps ∙ ways.traps;
  overs = is.overs ∙ ways.overs;
}

-- ---- of a block that is there

pub copied_is : (codes : List (Option CodeParts)) (b : ℕ) (p q : CodeParts) → code_at codes b ≡ Some p → IsInlining codes b p q
    → CanCopy codes b → IsCopied (blocks_in codes) b q
copied_is codes b p q at is can =
    subst (λ (o : Option Parts). MatchOption o ⊥ (λ x. parts_of q ≡ inlined (blocks_in codes) x)) (sym (some_block codes b p at)) (is.parts can at)

pub sound_copy : (codes : List (Option CodeParts)) (b : ℕ) (p q : CodeParts) → code_at codes b ≡ Some p → IsInlining codes b p q
    → CanCopy codes b → IsWithoutCalls q
sound_copy codes b p q at is can = record {
  faultless = subst IsFaultless (sym same) made.0;
  well_made = subst IsWellMade (sym same) made.1;
  tabled = is.tabled can at;
  calls = subst (λ (x : Parts). length x.calls ≡ 0) (sym same) refl;
}
  where
    same : parts_of q ≡ inlined (blocks_in codes) (parts_of p)
    same = is.parts can at

    made : IsFaultless (inlined (blocks_in codes) (parts_of p)) × IsWellMade (inlined (blocks_in codes) (parts_of p))
    made = inlined_is_well_made (blocks_in codes) b (parts_of p) can.fit can.sound (some_block codes b p at)

-- of one that isn't nothing is asked
pub not_there : (codes : List (Option CodeParts)) (b : ℕ) → code_at codes b ≡ None → CanCopy codes b → ⊥
not_there codes b none can = subst IsThere (none_block codes b none) can.there

-- ---- as a machine

pub on_ok : {A E X : Type 0} (r : Result A E) → X → OnOk r X
on_ok (Ok a) x = x
on_ok (Err e) x = tt

pub inlined_as : (blocks : List (Option Automaton)) (b n : ℕ) (q : CodeParts) (r : Result Inlined TooLarge)
    → IsCopied (blocks_in (codes_of blocks)) b q → IfOk r (λ m. inlined_parts m ≡ parts_of q) → IfOk r (λ m. bound_of m ≡ n)
    → IfOk r (IsInlinedAs (blocks_of blocks) b n)
inlined_as blocks b n q (Ok m) is parts bound =
    by (block_at (blocks_of blocks) b) (subst (λ (bs : Blocks). MatchOption (block_at bs b) ⊥ (λ p. parts_of q ≡ inlined bs p)) (same_blocks blocks) is)
  where
    by : (o : Option Parts) → MatchOption o ⊥ (λ p. parts_of q ≡ inlined (blocks_of blocks) p)
        → MatchOption o ⊥ (λ p. (inlined_parts m ≡ inlined (blocks_of blocks) p) × (bound_of m ≡ n))
    by None h = h
    by (Some p) h = (parts ∙ h, bound)
inlined_as blocks b n q (Err fault) is parts bound = tt

pub machine_told : (blocks : List (Option Automaton)) (b n : ℕ) (r : Result Inlined TooLarge) → AreFitting (blocks_of blocks) → 0 < n
    → IfOk r (IsInlinedAs (blocks_of blocks) b n) → IfOk r (HasTheMachine (blocks_of blocks) b n)
machine_told blocks b n (Ok m) fit some is = by (block_at (blocks_of blocks) b) refl is
  where
    by : (o : Option Parts) → block_at (blocks_of blocks) b ≡ o
        → MatchOption o ⊥ (λ x. (inlined_parts m ≡ inlined (blocks_of blocks) x) × (bound_of m ≡ n))
        → MatchOption o ⊥ (λ x. IsMachineWithCalls (blocks_of blocks) n x (inlined_machine (inlined_parts m) n))
    by None e h = h
    by (Some x) e h =
        subst (λ (y : Parts). IsMachineWithCalls (blocks_of blocks) n x (inlined_machine y n)) (sym h.0)
        (inlined_has_the_machine (blocks_of blocks) n b x fit (sound_blocks blocks) some e)
machine_told blocks b n (Err fault) fit some is = tt

-- parts without a fault have none but want of memory
pub memory_alone : (p : Parts) (fault : FlowFault) → IsFaultless p → IsFaultOf p fault → fault ≡ flow.NoMemory
memory_alone p flow.BadLocation sound is = absurd (both_ways (has_locations p) is sound.locations)
memory_alone p flow.BadVariable sound is = absurd (both_ways (has_variables p) is.1 sound.variables)
memory_alone p flow.BadLoop sound is = absurd (both_ways (has_loops p) is.2 sound.loops)
memory_alone p flow.NoMemory sound is = refl
