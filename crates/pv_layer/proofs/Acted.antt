-- Each push by what it leaves in the lists: terms, loops and calls alone, and spots with checks, whose ways follow their traps.
use Rattle.std.proofs.Common.{◌≡◌, ℕ, suc, ◌+◌, ◌*◌, ◌<◌, ◌≤◌, List, [], ◌∷◌, ◌++◌, map, length, slice_get, true, nat_lt, IfSome, Option, Some, refl, sym, subst, ap, ◌∙◌, arith}
use Rattle.std.specs.List.{list_all}
use Rattle.std.proofs.lemmas.Bool.{and_from, lt-ltb}
use Rattle.std.proofs.lemmas.List.{length-append, length-map, map-append}
use Rattle.pv_flow.specs.declared.term.Node.{Node}
use Rattle.pv_flow.specs.declared.parts.Parts.{Parts as CodeParts}
use Rattle.pv_flow.specs.declared.parts.CallEdge.{CallEdge as CodeCallEdge}
use Rattle.pv_flow.specs.declared.parts.Edge.{Edge as CodeEdge}
use Rattle.pv_flow.specs.declared.parts.Set.{Set as CodeSet}
use Rattle.pv_flow.specs.declared.parts.TrapEnd.{TrapEnd as CodeTrapEnd}
use Rattle.pv_flow.specs.Terms.{Term}
use Rattle.pv_flow.specs.Automata.{Set, Edge, Loop, TrapEnd}
use Rattle.pv_flow.specs.View.{term_at, terms_of, set_of, edge_of, call_edge_of, loop_of, trap_end_of}
use Rattle.pv_flow.specs.Tables.{are_ordered}
use Rattle.pv_layout.specs.Spots.{Check, Spot, Act, checks_of, true_term, none_of, check_edges, way_edge, way_edges}
use Rattle.pv_layout.specs.Layout.{Head, no_marks, checks_in, traps_at, marks_of, turned_loops}
use Rattle.pv_layer.specs.declared.types.Check.{Check as CodeCheck}
use Rattle.pv_layer.specs.declared.types.Way.{Way as CodeWay}
use Rattle.pv_layer.specs.Making.{guard_nodes, last_none, Plain, deed_seen, plain_deed, trap_deeds, plain_edge, trap_edges, trap_ends, turned_once}
use Rattle.pv_layer.specs.Standing.{head_by, check_of, way_of, AreNamed, Stands}
use Rattle.pv_layer.proofs.Appended.{append_more, append_none}
use Rattle.pv_layer.proofs.Guarded.{guards_of, trap_guards, AreThere, HasChecks, has_checks}
use Rattle.pv_layer.proofs.Edged.{edge_by, edge_seen, edges_same, plain_has, deeds_same, all_joined, sets_also, deeds_also, edge_below, AreDeeds, get_at, are_deeds, traps_seen, deed_sets_same, edges_keep}
use Rattle.pv_layer.proofs.Turned.{act_turned, marks_count}
use Rattle.pv_layer.proofs.Pushed.{SameHead, HasNodes, HasEdges, pushed_stands}

-- ---- terms and loops

pub record SameLists (p q : CodeParts) : Type 0 where
  pub deeds : q.deeds.items ≡ p.deeds.items
  pub edges : q.edges.items ≡ p.edges.items
  pub calls : q.calls.items ≡ p.calls.items
  pub traps : q.traps.items ≡ p.traps.items
  pub locations : q.locations ≡ p.locations

-- more terms, and maybe more loops
pub still_stands : (head : Head) (done : ℕ) (spots : List Spot) (loops now : List Loop) (p q : CodeParts) (here truth : ℕ)
    → SameHead p q → HasNodes p q → SameLists p q
    → (map loop_of p.loops.items ≡ turned_loops (marks_of spots) 0 loops → map loop_of q.loops.items ≡ turned_loops (marks_of spots) 0 now)
    → (AreNamed (length loops) (marks_of spots) → AreNamed (length now) (marks_of spots))
    → Stands head done spots loops p here truth → Stands head done spots now q here truth
still_stands head done spots loops now p q here truth s n l turning named h = record {
  heads = ap (λ (b : ℕ). head_by q.vars.items b q.shared) s.bound ∙ (ap (λ (b : ℕ). head_by q.vars.items p.bound b) s.shared
      ∙ (ap (λ vars. head_by vars p.bound p.shared) s.vars ∙ h.heads));
  ends_at = s.done ∙ h.ends_at;
  location = h.location;
  made = edges_same us q.deeds.items q.edges.items
      ∙ (ap (λ deeds. map (edge_seen us (map deed_seen deeds)) q.edges.items) l.deeds
      ∙ (ap (λ edges. map (edge_seen us (map deed_seen p.deeds.items)) edges) l.edges
      ∙ (edges_keep (terms_of p.nodes.items) us (length p.nodes.items) (map deed_seen p.deeds.items) p.edges.items n.same
      (sym (deeds_same (length p.nodes.items) p.deeds.items) ∙ (h.tabled).deeds)
      ∙ (sym (edges_same (terms_of p.nodes.items) p.deeds.items p.edges.items) ∙ h.made))));
  calling = ap (λ calls. map call_edge_of calls) l.calls ∙ h.calling;
  ends = ap (λ traps. map trap_end_of traps) l.traps ∙ h.ends;
  turning = turning h.turning;
  named = named h.named;
  count = l.locations ∙ h.count;
  none_over = s.overs ∙ h.none_over;
  owned = ap (λ deeds. length deeds) l.deeds ∙ (h.owned ∙ ap (λ edges. length edges) (sym l.edges));
  tabled = record {
    nodes = n.ordered (h.tabled).nodes;
    deeds = deeds_same (length q.nodes.items) q.deeds.items
        ∙ (ap (λ deeds. list_all (plain_has (length q.nodes.items)) (map deed_seen deeds)) l.deeds
        ∙ deeds_also (length p.nodes.items) (length q.nodes.items) (map deed_seen p.deeds.items) n.low
        (sym (deeds_same (length p.nodes.items) p.deeds.items) ∙ (h.tabled).deeds));
    edges = ap (λ deeds. list_all (edge_below (length deeds)) q.edges.items) l.deeds
        ∙ (ap (λ edges. list_all (edge_below (length p.deeds.items)) edges) l.edges ∙ (h.tabled).edges);
  };
  true_is = n.same truth h.true_there ∙ h.true_is;
  true_there = let low = n.low in let was = h.true_there in omega (arith, low, was);
}
  where
    us : List Term
    us = terms_of q.nodes.items

-- ---- terms of a spot with checks

pub record HasTerms (p : CodeParts) (truth : ℕ) (checks : List CodeCheck) (all : List Node) : Type 0 where
  pub same : (i : ℕ) → i < length p.nodes.items → term_at (terms_of all) i ≡ term_at (terms_of p.nodes.items) i
  pub guards : map (λ (i : ℕ). term_at (terms_of all) i) (trap_guards (length p.nodes.items) checks)
      ≡ guards_of true_term (map (check_of (terms_of p.nodes.items)) checks)
  pub none : term_at (terms_of all) (last_none (length p.nodes.items) truth checks)
      ≡ none_of true_term (map (check_of (terms_of p.nodes.items)) checks)
  pub enough : length p.nodes.items + 3 * length checks ≤ length all
  pub there : last_none (length p.nodes.items) truth checks < length all
  pub ordered : are_ordered 0 p.nodes.items ≡ true → are_ordered 0 all ≡ true

guards_same : (ts us : List Term) (n k : ℕ) (checks : List CodeCheck) → ((i : ℕ) → i < n → term_at us i ≡ term_at ts i)
    → k + 3 * length checks ≤ n
    → map (λ (i : ℕ). term_at us i) (trap_guards k checks) ≡ map (λ (i : ℕ). term_at ts i) (trap_guards k checks)
guards_same ts us n k [] same le = refl
guards_same ts us n k (check ∷ checks) same le =
    ap (λ (t : Term). t ∷ map (λ (i : ℕ). term_at us i) (trap_guards (k + 3) checks)) (same k (omega (arith, le)))
    ∙ ap (λ (more : List Term). term_at ts k ∷ more) (guards_same ts us n (k + 3) checks same (omega (arith, le)))

pub act_terms : (p : CodeParts) (truth : ℕ) (checks : List CodeCheck) → truth < length p.nodes.items → term_at (terms_of p.nodes.items) truth ≡ true_term
    → AreThere (length p.nodes.items) checks
    → HasTerms p truth checks (p.nodes.items ++ guard_nodes (length p.nodes.items) truth checks)
act_terms p truth checks low is there = record {
  same = has.same;
  guards = has.guards ∙ ap (λ (t : Term). guards_of t plain) is;
  none = has.last ∙ ap (λ (t : Term). none_of t plain) is;
  enough = let e = has.count in omega (arith, e);
  there = has.there;
  ordered = has.ordered;
}
  where
    plain : List Check
    plain = map (check_of (terms_of p.nodes.items)) checks

    has : HasChecks p.nodes.items truth checks (p.nodes.items ++ guard_nodes (length p.nodes.items) truth checks)
    has = has_checks p.nodes.items truth checks low there

pub more_terms : (p : CodeParts) (truth : ℕ) (checks : List CodeCheck) (all more : List Node) → HasTerms p truth checks all
    → length all ≤ length more → ((i : ℕ) → i < length all → term_at (terms_of more) i ≡ term_at (terms_of all) i)
    → (are_ordered 0 all ≡ true → are_ordered 0 more ≡ true) → HasTerms p truth checks more
more_terms p truth checks all more has le same ordered = record {
  same = λ i lt. same i (let e = has.enough in omega (arith, e, lt)) ∙ has.same i lt;
  guards = guards_same (terms_of all) (terms_of more) (length all) (length p.nodes.items) checks same has.enough ∙ has.guards;
  none = same (last_none (length p.nodes.items) truth checks) has.there ∙ has.none;
  enough = let e = has.enough in omega (arith, e, le);
  there = let e = has.there in omega (arith, e, le);
  ordered = λ o. ordered (has.ordered o);
}

pub nodes_of : (p q : CodeParts) (truth : ℕ) (checks : List CodeCheck) → HasTerms p truth checks q.nodes.items → HasNodes p q
nodes_of p q truth checks has = record { low = let e = has.enough in omega (arith, e); same = has.same; ordered = has.ordered }

-- ---- edges of a spot with checks

deeds_there : (m k : ℕ) (checks : List CodeCheck) → k + 3 * length checks ≤ m → list_all (plain_has m) (trap_deeds k checks) ≡ true
deeds_there m k [] le = refl
deeds_there m k (check ∷ checks) le = and_from (plain_has m (plain_deed k [])) (list_all (plain_has m) (trap_deeds (k + 3) checks))
    (and_from (nat_lt k m) true (lt-ltb k m (omega (arith, le))) refl) (deeds_there m (k + 3) checks (omega (arith, le)))

edges_there : (m l to d : ℕ) (checks : List CodeCheck) → d + length checks ≤ m → list_all (edge_below m) (trap_edges l to d checks) ≡ true
edges_there m l to d [] le = refl
edges_there m l to d (check ∷ checks) le = and_from (nat_lt d m) (list_all (edge_below m) (trap_edges l (suc to) (suc d) checks))
    (lt-ltb d m (omega (arith, le))) (edges_there m l (suc to) (suc d) checks (omega (arith, le)))

pub count_deeds : (k : ℕ) (checks : List CodeCheck) → length (trap_deeds k checks) ≡ length checks
count_deeds k [] = refl
count_deeds k (check ∷ checks) = ap (λ (n : ℕ). suc n) (count_deeds (k + 3) checks)

pub count_edges : (l to d : ℕ) (checks : List CodeCheck) → length (trap_edges l to d checks) ≡ length checks
count_edges l to d [] = refl
count_edges l to d (check ∷ checks) = ap (λ (n : ℕ). suc n) (count_edges l (suc to) (suc d) checks)

pub has_edges : (head : Head) (done : ℕ) (spots : List Spot) (loops : List Loop) (p q : CodeParts) (here truth : ℕ) (spot : Spot)
    (checks : List CodeCheck) (wds : List Plain) (wes : List CodeEdge)
    → Stands head done spots loops p here truth → HasTerms p truth checks q.nodes.items
    → checks_of spot ≡ map (check_of (terms_of p.nodes.items)) checks
    → map deed_seen q.deeds.items ≡ map deed_seen p.deeds.items ++ (trap_deeds (length p.nodes.items) checks ++ wds)
    → list_all (plain_has (length q.nodes.items)) wds ≡ true
    → q.edges.items ≡ p.edges.items ++ (trap_edges here p.locations (length p.deeds.items) checks ++ wes)
    → list_all (edge_below (length p.deeds.items + (length checks + length wds))) wes ≡ true → length wds ≡ length wes
    → map (edge_seen (terms_of q.nodes.items) (map deed_seen p.deeds.items ++ (trap_deeds (length p.nodes.items) checks ++ wds))) wes
    ≡ way_edges here (none_of true_term (map (check_of (terms_of p.nodes.items)) checks)) spot
    → HasEdges done (checks_in spots) here spot p q (trap_deeds (length p.nodes.items) checks ++ wds)
    (trap_edges here p.locations (length p.deeds.items) checks ++ wes)
has_edges head done spots loops p q here truth spot checks wds wes h has own deeds terms edges there alike are = record {
  deeds = deeds;
  terms = all_joined (plain_has (length q.nodes.items)) (trap_deeds k checks) wds (deeds_there (length q.nodes.items) k checks has.enough) terms;
  edges = edges;
  there = ap (λ (n : ℕ). list_all (edge_below (length p.deeds.items + n)) (trap_edges here p.locations d checks ++ wes)) count
      ∙ all_joined (edge_below (d + (length checks + length wds))) (trap_edges here p.locations d checks) wes
      (edges_there (d + (length checks + length wds)) here p.locations d checks (omega arith)) there;
  alike =
      let one = length-append (trap_deeds k checks) wds in
      let other = length-append (trap_edges here p.locations d checks) wes in
      let first = count_deeds k checks in
      let second = count_edges here p.locations d checks in
      omega (arith, one, other, first, second, alike);
  are = map-append (edge_seen us seen) (trap_edges here p.locations d checks) wes
      ∙ (ap (λ (first : List Edge). first ++ map (edge_seen us seen) wes) traps
      ∙ (ap (λ (more : List Edge). check_edges done (checks_in spots) here true_term plain ++ more) are
      ∙ ap (λ (cs : List Check). check_edges done (checks_in spots) here true_term cs ++ way_edges here (none_of true_term cs) spot) (sym own)));
}
  where
    k : ℕ
    k = length p.nodes.items

    d : ℕ
    d = length p.deeds.items

    us : List Term
    us = terms_of q.nodes.items

    plain : List Check
    plain = map (check_of (terms_of p.nodes.items)) checks

    seen : List Plain
    seen = map deed_seen p.deeds.items ++ (trap_deeds k checks ++ wds)

    count : length (trap_deeds k checks ++ wds) ≡ length checks + length wds
    count = length-append (trap_deeds k checks) wds ∙ ap (λ (n : ℕ). n + length wds) (count_deeds k checks)

    traps : map (edge_seen us seen) (trap_edges here p.locations d checks) ≡ check_edges done (checks_in spots) here true_term plain
    traps = ap (λ (to : ℕ). map (edge_seen us seen) (trap_edges here to d checks)) h.count
        ∙ traps_seen (terms_of p.nodes.items) us seen done (checks_in spots) here d k true_term checks
        (subst (λ (n : ℕ). AreDeeds seen n k checks) (length-map p.deeds.items deed_seen) (are_deeds (map deed_seen p.deeds.items) k checks wds))
        has.guards

-- ---- ways

-- the deed of a way, which stands behind these two parts
pub way_at : (before mid : List Plain) (x : Plain) (rest : List Plain) (d : ℕ) → d ≡ length before + length mid
    → slice_get (before ++ (mid ++ x ∷ rest)) d ≡ Some x
way_at before mid x rest d is = ap (λ (all : List Plain). slice_get all d) (sym (append_more before mid (x ∷ rest)))
    ∙ (ap (λ (n : ℕ). slice_get ((before ++ mid) ++ x ∷ rest) n) (is ∙ sym (length-append before mid)) ∙ get_at (before ++ mid) x rest)

pub way_seen : (ts us : List Term) (k : ℕ) (seen : List Plain) (here d guard : ℕ) (w : CodeWay) (t : Term)
    → ((i : ℕ) → i < k → term_at us i ≡ term_at ts i) → list_all (λ set. nat_lt set.value k) w.sets.items ≡ true
    → slice_get seen d ≡ Some (plain_deed guard w.sets.items) → term_at us guard ≡ t
    → edge_seen us seen (plain_edge here w.to d) ≡ way_edge here t (way_of ts w)
way_seen ts us k seen here d guard w t same there stands is =
    ap (λ (o : Option Plain). edge_by us o (plain_edge here w.to d)) stands
    ∙ (ap (λ (g : Term). record { from = here; to = w.to; guard = g; sets = map (set_of us) w.sets.items }) is
    ∙ ap (λ (sets : List Set). record { from = here; to = w.to; guard = t; sets = sets }) (deed_sets_same ts us k w.sets.items same there))

pub deed_there : (k m guard : ℕ) (sets : List CodeSet) → k ≤ m → guard < m → list_all (λ set. nat_lt set.value k) sets ≡ true
    → plain_has m (plain_deed guard sets) ≡ true
deed_there k m guard sets le lt there = and_from (nat_lt guard m) (list_all (λ (set : CodeSet). nat_lt set.value m) sets)
    (lt-ltb guard m lt) (sets_also k m sets le there)

-- ---- the other lists

traps_same : (ts : List Term) (done t : ℕ) (checks : List CodeCheck)
    → map trap_end_of (trap_ends (done + suc t) checks) ≡ traps_at done t (map (check_of ts) checks)
traps_same ts done t [] = refl
traps_same ts done t (check ∷ checks) =
    ap (λ (more : List TrapEnd). record { location = done + suc t; kind = check.kind; place = check.place } ∷ more)
    (ap (λ (l : ℕ). map trap_end_of (trap_ends l checks)) next ∙ traps_same ts done (suc t) checks)
  where
    next : suc (done + suc t) ≡ done + suc (suc t)
    next = omega arith

pub traps_made : (head : Head) (done : ℕ) (spots : List Spot) (loops : List Loop) (p : CodeParts) (here truth : ℕ) (checks : List CodeCheck)
    (now : List CodeTrapEnd) → Stands head done spots loops p here truth → now ≡ p.traps.items ++ trap_ends p.locations checks
    → map trap_end_of now
    ≡ map trap_end_of p.traps.items ++ traps_at done (checks_in spots) (map (check_of (terms_of p.nodes.items)) checks)
traps_made head done spots loops p here truth checks now h is =
    ap (λ (traps : List CodeTrapEnd). map trap_end_of traps) is
    ∙ (map-append trap_end_of p.traps.items (trap_ends p.locations checks)
    ∙ ap (λ (more : List TrapEnd). map trap_end_of p.traps.items ++ more)
    (ap (λ (l : ℕ). map trap_end_of (trap_ends l checks)) h.count ∙ traps_same (terms_of p.nodes.items) done (checks_in spots) checks))

pub edges_before : (head : Head) (done : ℕ) (spots : List Spot) (loops : List Loop) (p : CodeParts) (here truth : ℕ)
    → Stands head done spots loops p here truth → length p.edges.items ≡ length (marks_of spots)
edges_before head done spots loops p here truth h = sym (length-map p.edges.items (edge_of (terms_of p.nodes.items) p.deeds.items))
    ∙ (ap (λ (edges : List Edge). length edges) h.made ∙ marks_count done 0 0 spots)

count_turned : (marks : List (Option ℕ)) (i : ℕ) (loops : List Loop) → length (turned_loops marks i loops) ≡ length loops
count_turned marks i [] = refl
count_turned marks i (loop ∷ loops) = ap (λ (n : ℕ). suc n) (count_turned marks (suc i) loops)

pub loops_before : (head : Head) (done : ℕ) (spots : List Spot) (loops : List Loop) (p : CodeParts) (here truth : ℕ)
    → Stands head done spots loops p here truth → length p.loops.items ≡ length loops
loops_before head done spots loops p here truth h = sym (length-map p.loops.items loop_of)
    ∙ (ap (λ (ls : List Loop). length ls) h.turning ∙ count_turned (marks_of spots) 0 loops)

pub none_named : (n : ℕ) (checks : List Check) (marks : List (Option ℕ)) → AreNamed n marks → AreNamed n (no_marks checks ++ marks)
none_named n [] marks named = named
none_named n (check ∷ checks) marks named = (tt, none_named n checks marks named)

pub turn_named : (n m : ℕ) (turn : Option ℕ) → n ≡ m → IfSome turn (λ i. i < n) → IfSome turn (λ i. i < m)
turn_named n m turn same named = subst (λ (k : ℕ). IfSome turn (λ i. i < k)) same named

-- ---- an act

pub record ActMade (p q : CodeParts) (here truth : ℕ) (checks : List CodeCheck) (w : CodeWay) : Type 0 where
  pub head : SameHead p q
  pub nodes : q.nodes.items ≡ p.nodes.items ++ guard_nodes (length p.nodes.items) truth checks
  pub deeds : map deed_seen q.deeds.items ≡ (map deed_seen p.deeds.items ++ trap_deeds (length p.nodes.items) checks)
      ++ plain_deed (last_none (length p.nodes.items) truth checks) w.sets.items ∷ []
  pub edges : q.edges.items ≡ (p.edges.items ++ trap_edges here p.locations (length p.deeds.items) checks)
      ++ plain_edge here w.to (length p.deeds.items + length checks) ∷ []
  pub calls : q.calls.items ≡ p.calls.items
  pub traps : q.traps.items ≡ p.traps.items ++ trap_ends p.locations checks
  pub loops : map loop_of q.loops.items ≡ turned_once w.turn 0 (length p.edges.items + length checks) (map loop_of p.loops.items)
  pub locations : q.locations ≡ p.locations + length checks

pub act_stands : (head : Head) (done : ℕ) (spots : List Spot) (loops : List Loop) (p q : CodeParts) (here truth : ℕ) (checks : List CodeCheck)
    (w : CodeWay) → ActMade p q here truth checks w → AreThere (length p.nodes.items) checks
    → list_all (λ set. nat_lt set.value (length p.nodes.items)) w.sets.items ≡ true → IfSome w.turn (λ i. i < length p.loops.items)
    → Stands head done spots loops p here truth
    → Stands head done (spots ++ Act (map (check_of (terms_of p.nodes.items)) checks) (way_of (terms_of p.nodes.items) w) ∷ []) loops q
    (suc here) truth
act_stands head done spots loops p q here truth checks w m there sets turn h =
    pushed_stands head done spots loops p q here truth spot (trap_deeds k checks ++ wds) (trap_edges here p.locations d checks ++ wes) m.head
    (nodes_of p q truth checks has)
    (has_edges head done spots loops p q here truth spot checks wds wes h has refl
    (m.deeds ∙ append_more (map deed_seen p.deeds.items) (trap_deeds k checks) wds)
    (and_from (plain_has (length q.nodes.items) (plain_deed none w.sets.items)) true
    (deed_there k (length q.nodes.items) none w.sets.items (let e = has.enough in omega (arith, e)) has.there sets) refl)
    (m.edges ∙ append_more p.edges.items (trap_edges here p.locations d checks) wes)
    (and_from (nat_lt (d + length checks) (d + (length checks + 1))) true (lt-ltb (d + length checks) (d + (length checks + 1)) (omega arith)) refl)
    refl
    (ap (λ (edge : Edge). edge ∷ []) (way_seen (terms_of p.nodes.items) us k seen here (d + length checks) none w (none_of true_term plain)
    has.same sets
    (way_at (map deed_seen p.deeds.items) (trap_deeds k checks) (plain_deed none w.sets.items) [] (d + length checks) long) has.none)))
    (record {
      calls = ap (λ (calls : List CodeCallEdge). map call_edge_of calls) m.calls ∙ sym (append_none (map call_edge_of p.calls.items));
      traps = traps_made head done spots loops p here truth checks q.traps.items h m.traps;
      turning = λ was. m.loops ∙ (ap (λ (ls : List Loop). turned_once w.turn 0 (length p.edges.items + length checks) ls) was
          ∙ (ap (λ (n : ℕ). turned_once w.turn 0 n (turned_loops (marks_of spots) 0 loops)) number
          ∙ sym (act_turned (marks_of spots) plain w.turn loops)));
      named = none_named (length loops) plain (w.turn ∷ [])
          (turn_named (length p.loops.items) (length loops) w.turn (loops_before head done spots loops p here truth h) turn, tt);
      locations = let e = m.locations in let all = length-map checks (check_of (terms_of p.nodes.items)) in omega (arith, e, all);
    }) h
  where
    k : ℕ
    k = length p.nodes.items

    d : ℕ
    d = length p.deeds.items

    none : ℕ
    none = last_none k truth checks

    us : List Term
    us = terms_of q.nodes.items

    plain : List Check
    plain = map (check_of (terms_of p.nodes.items)) checks

    spot : Spot
    spot = Act plain (way_of (terms_of p.nodes.items) w)

    wds : List Plain
    wds = plain_deed none w.sets.items ∷ []

    wes : List CodeEdge
    wes = plain_edge here w.to (d + length checks) ∷ []

    seen : List Plain
    seen = map deed_seen p.deeds.items ++ (trap_deeds k checks ++ wds)

    has : HasTerms p truth checks q.nodes.items
    has = subst (λ (all : List Node). HasTerms p truth checks all) (sym m.nodes) (act_terms p truth checks h.true_there h.true_is there)

    long : d + length checks ≡ length (map deed_seen p.deeds.items) + length (trap_deeds k checks)
    long = let first = length-map p.deeds.items deed_seen in let second = count_deeds k checks in omega (arith, first, second)

    number : length p.edges.items + length checks ≡ length (marks_of spots) + length plain
    number =
        let first = edges_before head done spots loops p here truth h in
        let second = length-map checks (check_of (terms_of p.nodes.items)) in
        omega (arith, first, second)
