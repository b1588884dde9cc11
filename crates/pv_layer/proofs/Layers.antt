-- Layers from push to push: what the steps of a push leave, put together.
use Rattle.std.proofs.Common.{◌≡◌, ℕ, suc, ◌+◌, ◌*◌, ◌<◌, ◌≤◌, List, [], ◌∷◌, ◌++◌, map, length, true, nat_lt, IfSome, Option, Some, None, refl, sym, subst, ap, ◌∙◌, arith}
use Rattle.std.proofs.lemmas.List.{length-append, length_push, map_push}
use Rattle.std.proofs.lemmas.Bool.{and_parts, ltb-true}
use Rattle.pv_place.specs.declared.place.Place.{Place}
use Rattle.pv_flow.specs.declared.term.Node.{Node}
use Rattle.pv_flow.specs.declared.parts.Parts.{Parts as CodeParts}
use Rattle.pv_flow.specs.declared.parts.Edge.{Edge as CodeEdge}
use Rattle.pv_flow.specs.declared.parts.Loop.{Loop as CodeLoop}
use Rattle.pv_flow.specs.Automata.{Loop}
use Rattle.pv_flow.specs.View.{term_at, term_of, terms_of, loop_of}
use Rattle.pv_flow.specs.Tables.{has_operands, are_ordered}
use Rattle.pv_layout.specs.Spots.{Spot, Act, Branch, Enter}
use Rattle.pv_layout.specs.Layout.{Head, bare, turned_loops, marks_of}
use Rattle.pv_layer.specs.declared.types.Check.{Check as CodeCheck}
use Rattle.pv_layer.specs.declared.types.Way.{Way as CodeWay}
use Rattle.pv_layer.specs.declared.layer.Layer.{Layer}
use Rattle.pv_layer.specs.Making.{guard_nodes, last_none, way_nodes, Plain, deed_seen, plain_deed, trap_deeds, plain_edge, trap_edges, trap_ends, turned_once}
use Rattle.pv_layer.specs.Standing.{terms_in, the_terms, check_of, way_of, AreNamed, Stands, StandsFor, KeepsTerms, loops_in, checks_below, sets_below, turn_below, way_below, HasRoom, LeavesRest, LeavesTables}
use Rattle.pv_layer.proofs.Appended.{append_more, append_none}
use Rattle.pv_layer.proofs.Guarded.{AreThere, has_more, one_ordered, same_before}
use Rattle.pv_layer.proofs.Opened.{opened}
use Rattle.pv_layer.proofs.Pushed.{SameHead, HasNodes}
use Rattle.pv_layer.proofs.Acted.{SameLists, still_stands, count_edges, ActMade, act_stands}
use Rattle.pv_layer.proofs.Entered.{same_nodes, EnterMade, call_at, enter_stands}
use Rattle.pv_layer.proofs.Branched.{checked_nodes, BranchMade, branch_stands}

-- ---- steps

-- its checks are made
pub record Checked (old mid : Layer) (checks : List CodeCheck) : Type 0 where
  pub nodes : mid.parts.nodes.items ≡ old.parts.nodes.items ++ guard_nodes (length old.parts.nodes.items) old.yes checks
  pub deeds : map deed_seen mid.parts.deeds.items ≡ map deed_seen old.parts.deeds.items ++ trap_deeds (length old.parts.nodes.items) checks
  pub count : length mid.parts.deeds.items ≡ length old.parts.deeds.items + length checks
  pub edges : mid.parts.edges.items
      ≡ old.parts.edges.items ++ trap_edges old.here old.parts.locations (length old.parts.deeds.items) checks
  pub ends : mid.parts.traps.items ≡ old.parts.traps.items ++ trap_ends old.parts.locations checks
  pub locations : mid.parts.locations ≡ old.parts.locations + length checks
  pub loops : mid.parts.loops.items ≡ old.parts.loops.items
  pub rest : LeavesRest old mid

-- a way is made
pub record Gone (mid new : Layer) (guard : ℕ) (way : CodeWay) : Type 0 where
  pub deeds : map deed_seen new.parts.deeds.items ≡ map deed_seen mid.parts.deeds.items ++ plain_deed guard way.sets.items ∷ []
  pub count : length new.parts.deeds.items ≡ length mid.parts.deeds.items + 1
  pub edges : new.parts.edges.items ≡ mid.parts.edges.items ++ plain_edge mid.here way.to (length mid.parts.deeds.items) ∷ []
  pub loops : map loop_of new.parts.loops.items
      ≡ turned_once way.turn 0 (length mid.parts.edges.items) (map loop_of mid.parts.loops.items)
  pub tables : LeavesTables mid new
  pub rest : LeavesRest mid new

pub gone_by : (mid new : Layer) (guard other : ℕ) (way : CodeWay) → guard ≡ other → Gone mid new guard way → Gone mid new other way
gone_by mid new guard other way same g = subst (λ (n : ℕ). Gone mid new n way) same g

-- terms follow, and nothing else
pub record Grown (old new : Layer) (more : List Node) : Type 0 where
  pub nodes : new.parts.nodes.items ≡ old.parts.nodes.items ++ more
  pub lists : SameLists old.parts new.parts
  pub loops : new.parts.loops.items ≡ old.parts.loops.items
  pub rest : LeavesRest old new

pub edges_count : (old mid : Layer) (checks : List CodeCheck) → Checked old mid checks
    → length mid.parts.edges.items ≡ length old.parts.edges.items + length checks
edges_count old mid checks c =
    ap (λ (edges : List CodeEdge). length edges) c.edges
    ∙ (length-append old.parts.edges.items (trap_edges old.here old.parts.locations (length old.parts.deeds.items) checks)
    ∙ ap (λ (n : ℕ). length old.parts.edges.items + n) (count_edges old.here old.parts.locations (length old.parts.deeds.items) checks))

pub gone_count : (mid new : Layer) (guard : ℕ) (way : CodeWay) → Gone mid new guard way
    → length new.parts.edges.items ≡ length mid.parts.edges.items + 1
gone_count mid new guard way g = ap (λ (edges : List CodeEdge). length edges) g.edges
    ∙ length_push mid.parts.edges.items (plain_edge mid.here way.to (length mid.parts.deeds.items))

head_kept : (old new : Layer) → LeavesRest old new → SameHead old.parts new.parts
head_kept old new r = record { vars = r.vars; bound = r.bound; shared = r.shared; done = r.done; overs = r.overs }

heads_kept : (p q r : CodeParts) → SameHead p q → SameHead q r → SameHead p r
heads_kept p q r s t = record {
  vars = t.vars ∙ s.vars;
  bound = t.bound ∙ s.bound;
  shared = t.shared ∙ s.shared;
  done = t.done ∙ s.done;
  overs = t.overs ∙ s.overs;
}

-- the next location
abbrev pub next_of : Layer → Layer
next_of layer = record { parts = layer.parts; here = layer.here + 1; yes = layer.yes }

at_next : (head : Head) (done : ℕ) (spots : List Spot) (loops : List Loop) (old new : Layer) → new.here ≡ old.here → new.yes ≡ old.yes
    → Stands head done spots loops new.parts (suc old.here) old.yes → StandsFor head done spots loops (next_of new)
at_next head done spots loops old new here truth h =
    subst (λ (n : ℕ). Stands head done spots loops new.parts n new.yes) same
    (subst (λ (n : ℕ). Stands head done spots loops new.parts (suc old.here) n) (sym truth) h)
  where
    same : suc old.here ≡ new.here + 1
    same = omega (arith, here)

-- what is there, by tests
there_from : (n : ℕ) (checks : List CodeCheck) → checks_below n checks ≡ true → AreThere n checks
there_from n [] there = tt
there_from n (check ∷ checks) there =
    let parts = and_parts (nat_lt check.fails n) (checks_below n checks) there in
    (ltb-true check.fails n parts.0, there_from n checks parts.1)

sets_from : (terms loops : ℕ) (way : CodeWay) → way_below terms loops way ≡ true → sets_below terms way.sets.items ≡ true
sets_from terms loops way there = (and_parts (sets_below terms way.sets.items) (turn_below loops way.turn) there).0

one_turn : (n : ℕ) (turn : Option ℕ) → turn_below n turn ≡ true → IfSome turn (λ i. i < n)
one_turn n None there = tt
one_turn n (Some i) there = ltb-true i n there

turn_from : (terms loops : ℕ) (way : CodeWay) → way_below terms loops way ≡ true → IfSome way.turn (λ i. i < loops)
turn_from terms loops way there = one_turn loops way.turn (and_parts (sets_below terms way.sets.items) (turn_below loops way.turn) there).1

-- ---- an act

pub act_layer : (old mid new : Layer) (checks : List CodeCheck) (way : CodeWay) → Checked old mid checks
    → Gone mid new (last_none (length old.parts.nodes.items) old.yes checks) way → checks_below (terms_in old) checks ≡ true → way_below (terms_in old) (loops_in old) way ≡ true
    → (head : Head) (done : ℕ) (spots : List Spot) (loops : List Loop) → StandsFor head done spots loops old
    → StandsFor head done (spots ++ Act (map (check_of (the_terms old)) checks) (way_of (the_terms old) way) ∷ []) loops (next_of new)
act_layer old mid new checks way c g there own head done spots loops h =
    at_next head done (spots ++ Act (map (check_of (the_terms old)) checks) (way_of (the_terms old) way) ∷ []) loops old new
    ((g.rest).here ∙ (c.rest).here) ((g.rest).yes ∙ (c.rest).yes)
    (act_stands head done spots loops old.parts new.parts old.here old.yes checks way made
    (there_from (terms_in old) checks there) (sets_from (terms_in old) (loops_in old) way own) (turn_from (terms_in old) (loops_in old) way own) h)
  where
    d : ℕ
    d = length old.parts.deeds.items

    made : ActMade old.parts new.parts old.here old.yes checks way
    made = record {
      head = heads_kept old.parts mid.parts new.parts (head_kept old mid c.rest) (head_kept mid new g.rest);
      nodes = (g.tables).nodes ∙ c.nodes;
      deeds = g.deeds ∙ ap (λ (ds : List Plain). ds ++ plain_deed (last_none (length old.parts.nodes.items) old.yes checks) way.sets.items ∷ [])
          c.deeds;
      edges = g.edges ∙ (ap (λ (es : List CodeEdge). es ++ plain_edge mid.here way.to (length mid.parts.deeds.items) ∷ []) c.edges
          ∙ (ap (λ (l : ℕ). (old.parts.edges.items ++ trap_edges old.here old.parts.locations d checks)
          ++ plain_edge l way.to (length mid.parts.deeds.items) ∷ []) (c.rest).here
          ∙ ap (λ (n : ℕ). (old.parts.edges.items ++ trap_edges old.here old.parts.locations d checks) ++ plain_edge old.here way.to n ∷ [])
          c.count));
      calls = (g.rest).calls ∙ (c.rest).calls;
      traps = (g.tables).traps ∙ c.ends;
      loops = g.loops ∙ (ap (λ (n : ℕ). turned_once way.turn 0 n (map loop_of mid.parts.loops.items)) (edges_count old mid checks c)
          ∙ ap (λ (ls : List CodeLoop). turned_once way.turn 0 (length old.parts.edges.items + length checks) (map loop_of ls)) c.loops);
      locations = (g.tables).locations ∙ c.locations;
    }

-- ---- a branch

pub branch_layer : (old mid forked one new : Layer) (checks : List CodeCheck) (condition none : ℕ) (first second : CodeWay)
    → none ≡ last_none (length old.parts.nodes.items) old.yes checks → Checked old mid checks
    → Grown mid forked (way_nodes (length mid.parts.nodes.items) condition none)
    → Gone forked one (length mid.parts.nodes.items) first → Gone one new (length mid.parts.nodes.items + 2) second
    → checks_below (terms_in old) checks ≡ true → condition < terms_in old → way_below (terms_in old) (loops_in old) first ≡ true
    → way_below (terms_in old) (loops_in old) second ≡ true
    → (head : Head) (done : ℕ) (spots : List Spot) (loops : List Loop) → StandsFor head done spots loops old
    → StandsFor head done (spots ++ Branch (map (check_of (the_terms old)) checks) (term_at (the_terms old) condition)
    (way_of (the_terms old) first) (way_of (the_terms old) second) ∷ []) loops (next_of new)
branch_layer old mid forked one new checks condition none first second is c f g k there low fown sown head done spots loops h =
    at_next head done (spots ++ Branch (map (check_of (the_terms old)) checks) (term_at (the_terms old) condition)
    (way_of (the_terms old) first) (way_of (the_terms old) second) ∷ []) loops old new
    ((k.rest).here ∙ ((g.rest).here ∙ ((f.rest).here ∙ (c.rest).here))) ((k.rest).yes ∙ ((g.rest).yes ∙ ((f.rest).yes ∙ (c.rest).yes)))
    (branch_stands head done spots loops old.parts new.parts old.here old.yes condition checks first second made
    (there_from (terms_in old) checks there) low (sets_from (terms_in old) (loops_in old) first fown)
    (turn_from (terms_in old) (loops_in old) first fown) (sets_from (terms_in old) (loops_in old) second sown)
    (turn_from (terms_in old) (loops_in old) second sown) h)
  where
    d : ℕ
    d = length old.parts.deeds.items

    n : ℕ
    n = length old.parts.edges.items + length checks

    traps : List CodeEdge
    traps = old.parts.edges.items ++ trap_edges old.here old.parts.locations d checks

    size : length mid.parts.nodes.items ≡ length (checked_nodes old.parts old.yes checks)
    size = ap (λ (nodes : List Node). length nodes) c.nodes

    here_one : one.here ≡ old.here
    here_one = (g.rest).here ∙ ((f.rest).here ∙ (c.rest).here)

    deeds_forked : length forked.parts.deeds.items ≡ d + length checks
    deeds_forked = ap (λ deeds. length deeds) (f.lists).deeds ∙ c.count

    deeds_one : length one.parts.deeds.items ≡ d + length checks + 1
    deeds_one = let e = g.count in let was = deeds_forked in omega (arith, e, was)

    edges_forked : length forked.parts.edges.items ≡ n
    edges_forked = ap (λ edges. length edges) (f.lists).edges ∙ edges_count old mid checks c

    edges_one : length one.parts.edges.items ≡ suc n
    edges_one = let e = gone_count forked one (length mid.parts.nodes.items) first g in let was = edges_forked in omega (arith, e, was)

    made : BranchMade old.parts new.parts old.here old.yes condition checks first second
    made = record {
      head = heads_kept old.parts forked.parts new.parts
          (heads_kept old.parts mid.parts forked.parts (head_kept old mid c.rest) (head_kept mid forked f.rest))
          (heads_kept forked.parts one.parts new.parts (head_kept forked one g.rest) (head_kept one new k.rest));
      nodes = (k.tables).nodes ∙ ((g.tables).nodes ∙ (f.nodes
          ∙ (ap (λ (nodes : List Node). nodes ++ way_nodes (length nodes) condition none) c.nodes
          ∙ ap (λ (m : ℕ). checked_nodes old.parts old.yes checks ++ way_nodes (length (checked_nodes old.parts old.yes checks)) condition m) is)));
      deeds = k.deeds ∙ (ap (λ (ds : List Plain). ds ++ plain_deed (length mid.parts.nodes.items + 2) second.sets.items ∷ [])
          (g.deeds ∙ ap (λ (ds : List Plain). ds ++ plain_deed (length mid.parts.nodes.items) first.sets.items ∷ [])
          (ap (λ deeds. map deed_seen deeds) (f.lists).deeds ∙ c.deeds))
          ∙ ap (λ (m : ℕ). ((map deed_seen old.parts.deeds.items ++ trap_deeds (length old.parts.nodes.items) checks)
          ++ plain_deed m first.sets.items ∷ []) ++ plain_deed (m + 2) second.sets.items ∷ []) size);
      edges = k.edges ∙ (ap (λ (es : List CodeEdge). es ++ plain_edge one.here second.to (length one.parts.deeds.items) ∷ [])
          (g.edges ∙ (ap (λ (es : List CodeEdge). es ++ plain_edge forked.here first.to (length forked.parts.deeds.items) ∷ [])
          ((f.lists).edges ∙ c.edges)
          ∙ (ap (λ (l : ℕ). traps ++ plain_edge l first.to (length forked.parts.deeds.items) ∷ []) ((f.rest).here ∙ (c.rest).here)
          ∙ ap (λ (m : ℕ). traps ++ plain_edge old.here first.to m ∷ []) deeds_forked)))
          ∙ (ap (λ (l : ℕ). (traps ++ plain_edge old.here first.to (d + length checks) ∷ [])
          ++ plain_edge l second.to (length one.parts.deeds.items) ∷ []) here_one
          ∙ ap (λ (m : ℕ). (traps ++ plain_edge old.here first.to (d + length checks) ∷ []) ++ plain_edge old.here second.to m ∷ []) deeds_one));
      calls = (k.rest).calls ∙ ((g.rest).calls ∙ ((f.rest).calls ∙ (c.rest).calls));
      traps = (k.tables).traps ∙ ((g.tables).traps ∙ ((f.lists).traps ∙ c.ends));
      loops = k.loops ∙ (ap (λ (m : ℕ). turned_once second.turn 0 m (map loop_of one.parts.loops.items)) edges_one
          ∙ ap (λ (ls : List Loop). turned_once second.turn 0 (suc n) ls)
          (g.loops ∙ (ap (λ (m : ℕ). turned_once first.turn 0 m (map loop_of forked.parts.loops.items)) edges_forked
          ∙ ap (λ (ls : List CodeLoop). turned_once first.turn 0 n (map loop_of ls)) (f.loops ∙ c.loops))));
      locations = (k.tables).locations ∙ ((g.tables).locations ∙ ((f.lists).locations ∙ c.locations));
    }

-- ---- terms

keeps : (old new : Layer) (more : List Node) (m : ℕ) → new.parts.nodes.items ≡ old.parts.nodes.items ++ more → length more ≡ m
    → KeepsTerms old new m
keeps old new more m is long = record {
  count = ap (λ (nodes : List Node). length nodes) is
      ∙ (length-append old.parts.nodes.items more ∙ ap (λ (n : ℕ). length old.parts.nodes.items + n) long);
  same = λ i lt. ap (λ (nodes : List Node). term_at (terms_of nodes) i) is ∙ same_before old.parts.nodes.items more i lt;
}

pub none_kept : (old new : Layer) → new.parts.nodes.items ≡ old.parts.nodes.items → KeepsTerms old new 0
none_kept old new is = keeps old new [] 0 (is ∙ sym (append_none old.parts.nodes.items)) refl

pub one_kept : (old new : Layer) (node : Node) → new.parts.nodes.items ≡ old.parts.nodes.items ++ node ∷ [] → KeepsTerms old new 1
one_kept old new node is = keeps old new (node ∷ []) 1 is refl

guards_long : (k none : ℕ) (checks : List CodeCheck) → length (guard_nodes k none checks) ≡ 3 * length checks
guards_long k none [] = refl
guards_long k none (check ∷ checks) = let h = guards_long (k + 3) (k + 2) checks in omega (arith, h)

-- after the checks there is room for the guards of two ways
pub fork_room : (old mid : Layer) (checks : List CodeCheck) → HasRoom old (length checks)
    → mid.parts.nodes.items ≡ old.parts.nodes.items ++ guard_nodes (length old.parts.nodes.items) old.yes checks
    → length mid.parts.nodes.items + 3 ≤ 4294967295
fork_room old mid checks room is =
    let low = room.nodes in
    let count = ap (λ (nodes : List Node). length nodes) is in
    let all = length-append old.parts.nodes.items (guard_nodes (length old.parts.nodes.items) old.yes checks) in
    let own = guards_long (length old.parts.nodes.items) old.yes checks in
    omega (arith, low, count, all, own)

pub act_kept : (old mid new : Layer) (checks : List CodeCheck) (guard : ℕ) (way : CodeWay) → Checked old mid checks → Gone mid new guard way
    → KeepsTerms old (next_of new) (3 * length checks)
act_kept old mid new checks guard way c g = keeps old (next_of new) (guard_nodes (length old.parts.nodes.items) old.yes checks) (3 * length checks)
    ((g.tables).nodes ∙ c.nodes) (guards_long (length old.parts.nodes.items) old.yes checks)

pub branch_kept : (old mid forked one new : Layer) (checks : List CodeCheck) (condition none guard other : ℕ) (first second : CodeWay)
    → Checked old mid checks → Grown mid forked (way_nodes (length mid.parts.nodes.items) condition none) → Gone forked one guard first
    → Gone one new other second → KeepsTerms old (next_of new) (3 * length checks + 3)
branch_kept old mid forked one new checks condition none guard other first second c f g k =
    keeps old (next_of new)
    (guard_nodes (length old.parts.nodes.items) old.yes checks ++ way_nodes (length mid.parts.nodes.items) condition none)
    (3 * length checks + 3)
    ((k.tables).nodes ∙ ((g.tables).nodes ∙ (f.nodes
    ∙ (ap (λ (nodes : List Node). nodes ++ way_nodes (length mid.parts.nodes.items) condition none) c.nodes
    ∙ append_more old.parts.nodes.items (guard_nodes (length old.parts.nodes.items) old.yes checks)
    (way_nodes (length mid.parts.nodes.items) condition none)))))
    (length-append (guard_nodes (length old.parts.nodes.items) old.yes checks) (way_nodes (length mid.parts.nodes.items) condition none)
    ∙ ap (λ (n : ℕ). n + 3) (guards_long (length old.parts.nodes.items) old.yes checks))

pub term_is : (nodes now : List Node) (node : Node) → now ≡ nodes ++ node ∷ [] → term_at (terms_of now) (length nodes) ≡ term_of (terms_of nodes) node
term_is nodes now node is = ap (λ (all : List Node). term_at (terms_of all) (length nodes)) is ∙ (has_more nodes node).last

pub term_layer : (old new : Layer) (node : Node) → Grown old new (node ∷ []) → has_operands (terms_in old) node ≡ true
    → (head : Head) (done : ℕ) (spots : List Spot) (loops : List Loop) → StandsFor head done spots loops old
    → StandsFor head done spots loops new
term_layer old new node g has head done spots loops h =
    subst (λ (n : ℕ). Stands head done spots loops new.parts n new.yes) (sym (g.rest).here)
    (subst (λ (n : ℕ). Stands head done spots loops new.parts old.here n) (sym (g.rest).yes)
    (still_stands head done spots loops loops old.parts new.parts old.here old.yes (head_kept old new g.rest) nodes g.lists
    (λ was. ap (λ (ls : List CodeLoop). map loop_of ls) g.loops ∙ was) (λ named. named) h))
  where
    nodes : HasNodes old.parts new.parts
    nodes = record {
      low =
          let count = ap (λ (all : List Node). length all) g.nodes in
          let more = length_push old.parts.nodes.items node in
          omega (arith, count, more);
      same = λ i lt. ap (λ (all : List Node). term_at (terms_of all) i) g.nodes ∙ (has_more old.parts.nodes.items node).same i lt;
      ordered = λ o. ap (λ (all : List Node). are_ordered 0 all) g.nodes ∙ one_ordered old.parts.nodes.items node o has;
    }

-- ---- loops

mark_more : (n m : ℕ) (mark : Option ℕ) → n ≤ m → IfSome mark (λ i. i < n) → IfSome mark (λ i. i < m)
mark_more n m None le named = named
mark_more n m (Some i) le named = omega (arith, le, named)

named_more : (n m : ℕ) (marks : List (Option ℕ)) → n ≤ m → AreNamed n marks → AreNamed m marks
named_more n m [] le are = are
named_more n m (mark ∷ marks) le are = (mark_more n m mark le are.0, named_more n m marks le are.1)

pub open_layer : (old new : Layer) (loop : CodeLoop) → new.parts.loops.items ≡ old.parts.loops.items ++ loop ∷ []
    → loop.turns.items ≡ [] → new.parts.nodes.items ≡ old.parts.nodes.items → SameLists old.parts new.parts → LeavesRest old new
    → (head : Head) (done : ℕ) (spots : List Spot) (loops : List Loop) → StandsFor head done spots loops old
    → StandsFor head done spots (loops ++ bare loop.first loop.last loop.entry_turn loop.place ∷ []) new
open_layer old new loop is none nodes lists rest head done spots loops h =
    subst (λ (n : ℕ). Stands head done spots (loops ++ own ∷ []) new.parts n new.yes) (sym rest.here)
    (subst (λ (n : ℕ). Stands head done spots (loops ++ own ∷ []) new.parts old.here n) (sym rest.yes)
    (still_stands head done spots loops (loops ++ own ∷ []) old.parts new.parts old.here old.yes (head_kept old new rest)
    (same_nodes old.parts new.parts nodes) lists turning named h))
  where
    own : Loop
    own = bare loop.first loop.last loop.entry_turn loop.place

    loop_is : loop_of loop ≡ own
    loop_is = ap (λ (turns : List ℕ). record { first = loop.first; last = loop.last; entry_turn = loop.entry_turn; turns = turns; place = loop.place })
        none

    turning : map loop_of old.parts.loops.items ≡ turned_loops (marks_of spots) 0 loops
        → map loop_of new.parts.loops.items ≡ turned_loops (marks_of spots) 0 (loops ++ own ∷ [])
    turning was = ap (λ (ls : List CodeLoop). map loop_of ls) is
        ∙ (map_push loop_of old.parts.loops.items loop
        ∙ (ap (λ (ls : List Loop). ls ++ loop_of loop ∷ []) was
        ∙ (ap (λ (l : Loop). turned_loops (marks_of spots) 0 loops ++ l ∷ []) loop_is
        ∙ sym (opened (marks_of spots) loops own h.named refl))))

    named : AreNamed (length loops) (marks_of spots) → AreNamed (length (loops ++ own ∷ [])) (marks_of spots)
    named are = named_more (length loops) (length (loops ++ own ∷ [])) (marks_of spots)
        (let e = length_push loops own in omega (arith, e)) are

-- ---- a call

pub enter_layer : (old new : Layer) (block instance : ℕ) (place : Place) (to : ℕ)
    → EnterMade old.parts new.parts (call_at old.here block instance place to) → new.here ≡ old.here → new.yes ≡ old.yes
    → (head : Head) (done : ℕ) (spots : List Spot) (loops : List Loop) → StandsFor head done spots loops old
    → StandsFor head done (spots ++ Enter block instance place to ∷ []) loops (next_of new)
enter_layer old new block instance place to m here truth head done spots loops h =
    at_next head done (spots ++ Enter block instance place to ∷ []) loops old new here truth
    (enter_stands head done spots loops old.parts new.parts old.here old.yes block instance place to m h)
