-- What a push leaves stands for one spot more, where each list has what the spot adds to it.
use Rattle.std.proofs.Common.{◌≡◌, ℕ, suc, ◌+◌, ◌<◌, ◌≤◌, List, [], ◌∷◌, ◌++◌, map, length, true, Option, sym, subst, ap, ◌∙◌, arith}
use Rattle.std.specs.List.{list_all}
use Rattle.std.proofs.lemmas.List.{length-append, length-map, map-append}
use Rattle.pv_flow.specs.declared.parts.Parts.{Parts as CodeParts}
use Rattle.pv_flow.specs.declared.parts.Edge.{Edge as CodeEdge}
use Rattle.pv_flow.specs.Terms.{Term}
use Rattle.pv_flow.specs.Automata.{Edge, CallEdge, Loop, TrapEnd}
use Rattle.pv_flow.specs.View.{term_at, terms_of, call_edge_of, loop_of, trap_end_of}
use Rattle.pv_flow.specs.Tables.{are_ordered}
use Rattle.pv_layout.specs.Spots.{Spot, checks_of, edges_at}
use Rattle.pv_layout.specs.Layout.{Head, no_marks, way_marks, checks_in, edges_of, calls_of, traps_at, traps_of, marks_of, turned_loops}
use Rattle.pv_layer.specs.Making.{Plain, deed_seen}
use Rattle.pv_layer.specs.Standing.{head_by, AreNamed, Stands}
use Rattle.pv_layer.proofs.Appended.{checks_more, edges_more, traps_more, marks_more, calls_more}
use Rattle.pv_layer.proofs.Edged.{edge_seen, edges_same, plain_has, deeds_same, all_joined, deeds_also, edge_below, edges_also, edges_keep, edges_stay}

-- ---- what a push leaves alone

pub record SameHead (p q : CodeParts) : Type 0 where
  pub vars : q.vars.items ≡ p.vars.items
  pub bound : q.bound ≡ p.bound
  pub shared : q.shared ≡ p.shared
  pub done : q.done ≡ p.done
  pub overs : q.overs.items ≡ p.overs.items

-- ---- what it adds

pub record HasNodes (p q : CodeParts) : Type 0 where
  pub low : length p.nodes.items ≤ length q.nodes.items
  pub same : (i : ℕ) → i < length p.nodes.items → term_at (terms_of q.nodes.items) i ≡ term_at (terms_of p.nodes.items) i
  pub ordered : are_ordered 0 p.nodes.items ≡ true → are_ordered 0 q.nodes.items ≡ true

-- these deeds and edges, which are those of the spot, at this location and with so many checks before it
pub record HasEdges (done t here : ℕ) (spot : Spot) (p q : CodeParts) (ds : List Plain) (es : List CodeEdge) : Type 0 where
  pub deeds : map deed_seen q.deeds.items ≡ map deed_seen p.deeds.items ++ ds
  pub terms : list_all (plain_has (length q.nodes.items)) ds ≡ true
  pub edges : q.edges.items ≡ p.edges.items ++ es
  pub there : list_all (edge_below (length p.deeds.items + length ds)) es ≡ true
  pub alike : length ds ≡ length es
  pub are : map (edge_seen (terms_of q.nodes.items) (map deed_seen p.deeds.items ++ ds)) es ≡ edges_at done t here spot

pub record HasRest (done t here : ℕ) (spot : Spot) (marks : List (Option ℕ)) (loops : List Loop) (p q : CodeParts) : Type 0 where
  pub calls : map call_edge_of q.calls.items ≡ map call_edge_of p.calls.items ++ calls_of here (spot ∷ [])
  pub traps : map trap_end_of q.traps.items ≡ map trap_end_of p.traps.items ++ traps_at done t (checks_of spot)
  pub turning : map loop_of p.loops.items ≡ turned_loops marks 0 loops
      → map loop_of q.loops.items ≡ turned_loops (marks ++ (no_marks (checks_of spot) ++ way_marks spot)) 0 loops
  pub named : AreNamed (length loops) (no_marks (checks_of spot) ++ way_marks spot)
  pub locations : q.locations ≡ p.locations + length (checks_of spot)

-- ---- the lists so far

-- edges that were there, by longer tables
edges_so_far : (head : Head) (done : ℕ) (spots : List Spot) (loops : List Loop) (p q : CodeParts) (here truth : ℕ) (ds : List Plain)
    → Stands head done spots loops p here truth → HasNodes p q
    → map (edge_seen (terms_of q.nodes.items) (map deed_seen p.deeds.items ++ ds)) p.edges.items ≡ edges_of done 0 0 spots
edges_so_far head done spots loops p q here truth ds h n =
    edges_stay (terms_of q.nodes.items) (map deed_seen p.deeds.items) ds p.edges.items
    (subst (λ (k : ℕ). list_all (edge_below k) p.edges.items ≡ true) (sym (length-map p.deeds.items deed_seen)) (h.tabled).edges)
    ∙ (edges_keep (terms_of p.nodes.items) (terms_of q.nodes.items) (length p.nodes.items) (map deed_seen p.deeds.items) p.edges.items n.same
    (sym (deeds_same (length p.nodes.items) p.deeds.items) ∙ (h.tabled).deeds)
    ∙ (sym (edges_same (terms_of p.nodes.items) p.deeds.items p.edges.items) ∙ h.made))

named_joined : (n : ℕ) (ms ns : List (Option ℕ)) → AreNamed n ms → AreNamed n ns → AreNamed n (ms ++ ns)
named_joined n [] ns first rest = rest
named_joined n (m ∷ ms) ns first rest = (first.0, named_joined n ms ns first.1 rest)

-- ---- all lists

pub pushed_stands : (head : Head) (done : ℕ) (spots : List Spot) (loops : List Loop) (p q : CodeParts) (here truth : ℕ) (spot : Spot)
    (ds : List Plain) (es : List CodeEdge) → SameHead p q → HasNodes p q → HasEdges done (checks_in spots) here spot p q ds es
    → HasRest done (checks_in spots) here spot (marks_of spots) loops p q
    → Stands head done spots loops p here truth → Stands head done (spots ++ spot ∷ []) loops q (suc here) truth
pushed_stands head done spots loops p q here truth spot ds es s n e r h = record {
  heads = ap (λ (b : ℕ). head_by q.vars.items b q.shared) s.bound ∙ (ap (λ (b : ℕ). head_by q.vars.items p.bound b) s.shared
      ∙ (ap (λ vars. head_by vars p.bound p.shared) s.vars ∙ h.heads));
  ends_at = s.done ∙ h.ends_at;
  location = let was = h.location in let more = length-append spots (spot ∷ []) in omega (arith, was, more);
  made = edges_same us q.deeds.items q.edges.items
      ∙ (ap (λ (seen : List Plain). map (edge_seen us seen) q.edges.items) e.deeds
      ∙ (ap (λ (edges : List CodeEdge). map (edge_seen us seen) edges) e.edges
      ∙ (map-append (edge_seen us seen) p.edges.items es
      ∙ (ap (λ (first : List Edge). first ++ map (edge_seen us seen) es) (edges_so_far head done spots loops p q here truth ds h n)
      ∙ (ap (λ (more : List Edge). edges_of done 0 0 spots ++ more) e.are
      ∙ (ap (λ (t : ℕ). edges_of done 0 0 spots ++ edges_at done t here spot) none
      ∙ (ap (λ (l : ℕ). edges_of done 0 0 spots ++ edges_at done (0 + checks_in spots) l spot) start
      ∙ sym (edges_more done 0 0 spots spot))))))));
  calling = r.calls ∙ (ap (λ (more : List CallEdge). more ++ calls_of here (spot ∷ [])) h.calling
      ∙ (ap (λ (l : ℕ). calls_of 0 spots ++ calls_of l (spot ∷ [])) start ∙ sym (calls_more 0 spots spot)));
  ends = r.traps ∙ (ap (λ (more : List TrapEnd). more ++ traps_at done (checks_in spots) (checks_of spot)) h.ends
      ∙ (ap (λ (t : ℕ). traps_of done 0 spots ++ traps_at done t (checks_of spot)) none ∙ sym (traps_more done 0 spots spot)));
  turning = r.turning h.turning ∙ ap (λ (marks : List (Option ℕ)). turned_loops marks 0 loops) (sym (marks_more spots spot));
  named = subst (λ (marks : List (Option ℕ)). AreNamed (length loops) marks) (sym (marks_more spots spot))
      (named_joined (length loops) (marks_of spots) (no_marks (checks_of spot) ++ way_marks spot) h.named r.named);
  count = let checks = checks_more spots spot in let locations = r.locations in let was = h.count in omega (arith, checks, locations, was);
  none_over = s.overs ∙ h.none_over;
  owned =
      let were = h.owned in
      let more = e.alike in
      let edges = length-append p.edges.items es in
      deeds_count ∙ (let grown : length p.deeds.items + length ds ≡ length (p.edges.items ++ es) = omega (arith, were, more, edges) in
      grown ∙ ap (λ (all : List CodeEdge). length all) (sym e.edges));
  tabled = record {
    nodes = n.ordered (h.tabled).nodes;
    deeds = deeds_same (length q.nodes.items) q.deeds.items
        ∙ (ap (λ (seen : List Plain). list_all (plain_has (length q.nodes.items)) seen) e.deeds
        ∙ all_joined (plain_has (length q.nodes.items)) (map deed_seen p.deeds.items) ds
        (deeds_also (length p.nodes.items) (length q.nodes.items) (map deed_seen p.deeds.items) n.low
        (sym (deeds_same (length p.nodes.items) p.deeds.items) ∙ (h.tabled).deeds)) e.terms);
    edges = ap (λ (m : ℕ). list_all (edge_below m) q.edges.items) deeds_count
        ∙ (ap (λ (edges : List CodeEdge). list_all (edge_below (length p.deeds.items + length ds)) edges) e.edges
        ∙ all_joined (edge_below (length p.deeds.items + length ds)) p.edges.items es
        (edges_also (length p.deeds.items) (length p.deeds.items + length ds) p.edges.items (omega arith) (h.tabled).edges) e.there);
  };
  true_is = n.same truth h.true_there ∙ h.true_is;
  true_there = let low = n.low in let was = h.true_there in omega (arith, low, was);
}
  where
    us : List Term
    us = terms_of q.nodes.items

    seen : List Plain
    seen = map deed_seen p.deeds.items ++ ds

    start : here ≡ 0 + length spots
    start = let same = h.location in omega (arith, same)

    none : checks_in spots ≡ 0 + checks_in spots
    none = omega arith

    deeds_count : length q.deeds.items ≡ length p.deeds.items + length ds
    deeds_count = sym (length-map q.deeds.items deed_seen) ∙ (ap (λ (all : List Plain). length all) e.deeds
        ∙ (length-append (map deed_seen p.deeds.items) ds ∙ ap (λ (k : ℕ). k + length ds) (length-map p.deeds.items deed_seen)))
