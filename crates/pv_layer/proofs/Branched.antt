-- A branch: two ways, by the condition.
use Rattle.std.proofs.Common.{◌≡◌, ℕ, suc, ◌+◌, ◌<◌, ◌≤◌, List, [], ◌∷◌, ◌++◌, map, length, slice_get, true, ◌&&◌, nat_lt, IfSome, refl, sym, subst, ap, ◌∙◌, arith}
use Rattle.std.specs.List.{list_all}
use Rattle.std.proofs.lemmas.Bool.{and_from, lt-ltb}
use Rattle.std.proofs.lemmas.List.{length-append, length-map}
use Rattle.pv_flow.specs.declared.term.Node.{Node}
use Rattle.pv_flow.specs.declared.parts.Parts.{Parts as CodeParts}
use Rattle.pv_flow.specs.declared.parts.CallEdge.{CallEdge as CodeCallEdge}
use Rattle.pv_flow.specs.declared.parts.Edge.{Edge as CodeEdge}
use Rattle.pv_flow.specs.Terms.{Term}
use Rattle.pv_flow.specs.Automata.{Edge, Loop}
use Rattle.pv_flow.specs.View.{term_at, terms_of, call_edge_of, loop_of}
use Rattle.pv_layout.specs.Spots.{Check, Spot, Branch, both, negated, true_term, none_of, way_edge}
use Rattle.pv_layout.specs.Layout.{Head, marks_of, turned_loops}
use Rattle.pv_layer.specs.declared.types.Check.{Check as CodeCheck}
use Rattle.pv_layer.specs.declared.types.Way.{Way as CodeWay}
use Rattle.pv_layer.specs.Making.{guard_nodes, last_none, way_nodes, Plain, deed_seen, plain_deed, trap_deeds, plain_edge, trap_edges, trap_ends, turned_once}
use Rattle.pv_layer.specs.Standing.{check_of, way_of, Stands}
use Rattle.pv_layer.proofs.Appended.{append_more, append_none}
use Rattle.pv_layer.proofs.Guarded.{AreThere, HasFork, has_fork}
use Rattle.pv_layer.proofs.Edged.{edge_seen, plain_has}
use Rattle.pv_layer.proofs.Turned.{branch_turned}
use Rattle.pv_layer.proofs.Pushed.{SameHead, pushed_stands}
use Rattle.pv_layer.proofs.Acted.{HasTerms, act_terms, more_terms, nodes_of, count_deeds, has_edges, way_at, way_seen, deed_there, traps_made, edges_before, loops_before, none_named, turn_named}

abbrev pub checked_nodes : CodeParts → ℕ → List CodeCheck → List Node
checked_nodes p truth checks = p.nodes.items ++ guard_nodes (length p.nodes.items) truth checks

pub record BranchMade (p q : CodeParts) (here truth condition : ℕ) (checks : List CodeCheck) (one other : CodeWay) : Type 0 where
  pub head : SameHead p q
  pub nodes : q.nodes.items ≡ checked_nodes p truth checks
      ++ way_nodes (length (checked_nodes p truth checks)) condition (last_none (length p.nodes.items) truth checks)
  pub deeds : map deed_seen q.deeds.items ≡ ((map deed_seen p.deeds.items ++ trap_deeds (length p.nodes.items) checks)
      ++ plain_deed (length (checked_nodes p truth checks)) one.sets.items ∷ [])
      ++ plain_deed (length (checked_nodes p truth checks) + 2) other.sets.items ∷ []
  pub edges : q.edges.items ≡ ((p.edges.items ++ trap_edges here p.locations (length p.deeds.items) checks)
      ++ plain_edge here one.to (length p.deeds.items + length checks) ∷ [])
      ++ plain_edge here other.to (length p.deeds.items + length checks + 1) ∷ []
  pub calls : q.calls.items ≡ p.calls.items
  pub traps : q.traps.items ≡ p.traps.items ++ trap_ends p.locations checks
  pub loops : map loop_of q.loops.items ≡ turned_once other.turn 0 (suc (length p.edges.items + length checks))
      (turned_once one.turn 0 (length p.edges.items + length checks) (map loop_of p.loops.items))
  pub locations : q.locations ≡ p.locations + length checks

three_parts : {X : Type 0} (xs ys : List X) (y z : X) → ((xs ++ ys) ++ y ∷ []) ++ z ∷ [] ≡ xs ++ (ys ++ y ∷ z ∷ [])
three_parts xs ys y z = append_more (xs ++ ys) (y ∷ []) (z ∷ []) ∙ append_more xs ys (y ∷ z ∷ [])

pub branch_stands : (head : Head) (done : ℕ) (spots : List Spot) (loops : List Loop) (p q : CodeParts) (here truth condition : ℕ)
    (checks : List CodeCheck) (one other : CodeWay) → BranchMade p q here truth condition checks one other
    → AreThere (length p.nodes.items) checks → condition < length p.nodes.items
    → list_all (λ set. nat_lt set.value (length p.nodes.items)) one.sets.items ≡ true → IfSome one.turn (λ i. i < length p.loops.items)
    → list_all (λ set. nat_lt set.value (length p.nodes.items)) other.sets.items ≡ true → IfSome other.turn (λ i. i < length p.loops.items)
    → Stands head done spots loops p here truth
    → Stands head done (spots ++ Branch (map (check_of (terms_of p.nodes.items)) checks) (term_at (terms_of p.nodes.items) condition)
    (way_of (terms_of p.nodes.items) one) (way_of (terms_of p.nodes.items) other) ∷ []) loops q (suc here) truth
branch_stands head done spots loops p q here truth condition checks one other m there low sets turn osets oturn h =
    pushed_stands head done spots loops p q here truth spot (trap_deeds k checks ++ wds) (trap_edges here p.locations d checks ++ wes) m.head
    (nodes_of p q truth checks has)
    (has_edges head done spots loops p q here truth spot checks wds wes h has refl
    (m.deeds ∙ three_parts (map deed_seen p.deeds.items) (trap_deeds k checks) first_deed second_deed)
    (and_from (plain_has (length q.nodes.items) first_deed) (plain_has (length q.nodes.items) second_deed && true)
    (deed_there k (length q.nodes.items) g one.sets.items le (let e = size in omega (arith, e)) sets)
    (and_from (plain_has (length q.nodes.items) second_deed) true
    (deed_there k (length q.nodes.items) (g + 2) other.sets.items le (let e = size in omega (arith, e)) osets) refl))
    (m.edges ∙ three_parts p.edges.items (trap_edges here p.locations d checks) first_edge second_edge)
    (and_from (nat_lt (d + length checks) (d + (length checks + 2))) (nat_lt (d + length checks + 1) (d + (length checks + 2)) && true)
    (lt-ltb (d + length checks) (d + (length checks + 2)) (omega arith))
    (and_from (nat_lt (d + length checks + 1) (d + (length checks + 2))) true
    (lt-ltb (d + length checks + 1) (d + (length checks + 2)) (omega arith)) refl))
    refl
    (ap (λ (edge : Edge). edge ∷ edge_seen us seen second_edge ∷ []) first_way
    ∙ ap (λ (edge : Edge). way_edge here (both (term_at ts condition) (none_of true_term plain)) (way_of ts one) ∷ edge ∷ []) second_way))
    (record {
      calls = ap (λ (calls : List CodeCallEdge). map call_edge_of calls) m.calls ∙ sym (append_none (map call_edge_of p.calls.items));
      traps = traps_made head done spots loops p here truth checks q.traps.items h m.traps;
      turning = λ was. m.loops ∙ (ap (λ (ls : List Loop). turned_once other.turn 0 (suc (length p.edges.items + length checks))
          (turned_once one.turn 0 (length p.edges.items + length checks) ls)) was
          ∙ (ap (λ (n : ℕ). turned_once other.turn 0 (suc n) (turned_once one.turn 0 n (turned_loops (marks_of spots) 0 loops))) number
          ∙ sym (branch_turned (marks_of spots) plain one.turn other.turn loops)));
      named = none_named (length loops) plain (one.turn ∷ other.turn ∷ []) (
        turn_named (length p.loops.items) (length loops) one.turn (loops_before head done spots loops p here truth h) turn,
        (turn_named (length p.loops.items) (length loops) other.turn (loops_before head done spots loops p here truth h) oturn, tt),
      );
      locations = let e = m.locations in let all = length-map checks (check_of ts) in omega (arith, e, all);
    }) h
  where
    k : ℕ
    k = length p.nodes.items

    d : ℕ
    d = length p.deeds.items

    ts : List Term
    ts = terms_of p.nodes.items

    us : List Term
    us = terms_of q.nodes.items

    none : ℕ
    none = last_none k truth checks

    mid : List Node
    mid = checked_nodes p truth checks

    g : ℕ
    g = length mid

    plain : List Check
    plain = map (check_of ts) checks

    spot : Spot
    spot = Branch plain (term_at ts condition) (way_of ts one) (way_of ts other)

    first_deed : Plain
    first_deed = plain_deed g one.sets.items

    second_deed : Plain
    second_deed = plain_deed (g + 2) other.sets.items

    wds : List Plain
    wds = first_deed ∷ second_deed ∷ []

    first_edge : CodeEdge
    first_edge = plain_edge here one.to (d + length checks)

    second_edge : CodeEdge
    second_edge = plain_edge here other.to (d + length checks + 1)

    wes : List CodeEdge
    wes = first_edge ∷ second_edge ∷ []

    seen : List Plain
    seen = map deed_seen p.deeds.items ++ (trap_deeds k checks ++ wds)

    acted : HasTerms p truth checks mid
    acted = act_terms p truth checks h.true_there h.true_is there

    fork : HasFork mid condition none q.nodes.items
    fork = subst (λ (all : List Node). HasFork mid condition none all) (sym m.nodes)
        (has_fork mid condition none (let e = acted.enough in omega (arith, e, low)) acted.there)

    size : length q.nodes.items ≡ g + 3
    size = fork.count

    has : HasTerms p truth checks q.nodes.items
    has = more_terms p truth checks mid q.nodes.items acted (let e = size in omega (arith, e)) fork.same fork.ordered

    le : k ≤ length q.nodes.items
    le = let e = has.enough in omega (arith, e)

    long : d + length checks ≡ length (map deed_seen p.deeds.items) + length (trap_deeds k checks)
    long = let first = length-map p.deeds.items deed_seen in let second = count_deeds k checks in omega (arith, first, second)

    further : d + length checks + 1 ≡ length (map deed_seen p.deeds.items) + length (trap_deeds k checks ++ first_deed ∷ [])
    further = let first = long in let second = length-append (trap_deeds k checks) (first_deed ∷ []) in omega (arith, first, second)

    condition_is : term_at (terms_of mid) condition ≡ term_at ts condition
    condition_is = acted.same condition low

    first_way : edge_seen us seen first_edge ≡ way_edge here (both (term_at ts condition) (none_of true_term plain)) (way_of ts one)
    first_way = way_seen ts us k seen here (d + length checks) g one (both (term_at ts condition) (none_of true_term plain)) has.same sets
        (way_at (map deed_seen p.deeds.items) (trap_deeds k checks) first_deed (second_deed ∷ []) (d + length checks) long)
        (fork.first ∙ (ap (λ (t : Term). both t (term_at (terms_of mid) none)) condition_is
        ∙ ap (λ (t : Term). both (term_at ts condition) t) acted.none))

    second_way : edge_seen us seen second_edge ≡ way_edge here (both (negated (term_at ts condition)) (none_of true_term plain)) (way_of ts other)
    second_way = way_seen ts us k seen here (d + length checks + 1) (g + 2) other (both (negated (term_at ts condition)) (none_of true_term plain))
        has.same osets
        (ap (λ (ds : List Plain). slice_get (map deed_seen p.deeds.items ++ ds) (d + length checks + 1))
        (sym (append_more (trap_deeds k checks) (first_deed ∷ []) (second_deed ∷ [])))
        ∙ way_at (map deed_seen p.deeds.items) (trap_deeds k checks ++ first_deed ∷ []) second_deed [] (d + length checks + 1) further)
        (fork.second ∙ (ap (λ (t : Term). both (negated t) (term_at (terms_of mid) none)) condition_is
        ∙ ap (λ (t : Term). both (negated (term_at ts condition)) t) acted.none))

    number : length p.edges.items + length checks ≡ length (marks_of spots) + length plain
    number =
        let first = edges_before head done spots loops p here truth h in
        let second = length-map checks (check_of ts) in
        omega (arith, first, second)
