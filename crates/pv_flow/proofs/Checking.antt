-- What the code computes of parts is what the definitions say.
use Rattle.std.proofs.Common.{◌≡◌, ℕ, zero, suc, ◌<◌, ◌≤◌, ◌⊎◌, inl, inr, List, [], ◌∷◌, ◌++◌, map, length, slice_get, Bool, true, false, not, ◌&&◌, ◌||◌, ◌==◌, nat_lt, nat_le, Option, Some, None, IfSome, Result, IfOk, refl, sym, ap, subst, ◌∙◌, arith}
use Rattle.std.specs.List.{AllByRecursion, list_all}
use Rattle.std.proofs.lemmas.Bool.{cases_lt, cases_order, ltb-true, le-leb, lt-leb, eq-eqb, ne_eqb, and_parts, or_left, or_right, not-true, false≢true, false_from_ne_true}
use Rattle.std.proofs.lemmas.List.Elements.{recursion_from_All}
use Rattle.std.proofs.lemmas.List.{map-append, length-map}
use Rattle.std.proofs.lemmas.List.Folds.{list_all-map}
use Rattle.std.specs.declared.alloc.AllocError.{AllocError}
use Rattle.pv_place.specs.declared.role.Role.{Role}
use Rattle.pv_place.specs.declared.role.Role.TheVariants.{Input, Param, Kept, Brief}
use Rattle.pv_flow.specs.declared.term.Node.{Node}
use Rattle.pv_flow.specs.declared.term.Node.TheVariants as node
use Rattle.pv_flow.specs.declared.parts.Variable.{Variable as CodeVariable}
use Rattle.pv_flow.specs.declared.parts.Set.{Set as CodeSet}
use Rattle.pv_flow.specs.declared.parts.Deed.{Deed as CodeDeed}
use Rattle.pv_flow.specs.declared.parts.Edge.{Edge as CodeEdge}
use Rattle.pv_flow.specs.declared.parts.Loop.{Loop as CodeLoop}
use Rattle.pv_flow.specs.declared.parts.Parts.{Parts as CodeParts}
use Rattle.pv_flow.specs.Terms.{Term, names_below}
use Rattle.pv_flow.specs.declared.windows.Range.{Range}
use Rattle.pv_flow.specs.Automata.{Edge, CallEdge, Loop, TrapEnd, OverEnd, Parts}
use Rattle.pv_flow.specs.Faults.{has_ends, has_locations, set_below, edge_below, has_variables, cross, enters_well, is_entered_well, is_loop, has_loops, IsFaultless}
use Rattle.pv_flow.specs.WellMade.{IsLoop, AreApart, IsWellMade}
use Rattle.pv_flow.specs.Machines.{state_ranges, input_ranges}
use Rattle.pv_flow.specs.View.{term_at, term_of, terms_after, terms_of, variable_of, set_of, guard_of, sets_of, edge_of, call_edge_of, loop_of, trap_end_of, over_end_of, parts_of}
use Rattle.pv_flow.specs.Checks.{locations_lie, mark_at, node_mark, marks_after, set_mark, deed_mark, edge_mark, variables_lie, stored_in, taken_in}
use Rattle.pv_flow.specs.Windows.{lets, window_at, IsBefore, AreNested, enter_all, AreWindows, HaveWindows, windows_let}
use Rattle.pv_flow.proofs.ClosedWalks.{all_at, all_listed, listed_at, at_some, mapped}
use Rattle.pv_flow.proofs.WindowLaws.{all_alike}

both : {a b c d : Bool} → a ≡ c → b ≡ d → (a && b) ≡ (c && d)
both {a} {b} {c} {d} e f = ap (λ (x : Bool). x && b) e ∙ ap (λ (y : Bool). c && y) f

-- ---- locations

pub locations_seen : (p : CodeParts) → locations_lie p ≡ has_locations (parts_of p)
locations_seen p =
    let n = p.locations in
    both
    (both
    (both
    (sym (list_all-map (λ (edge : Edge). nat_lt edge.from n && nat_lt edge.to n) (edge_of (terms_of p.nodes.items) p.deeds.items) p.edges.items))
    (sym (list_all-map (λ (call : CallEdge). nat_lt call.from n && nat_lt call.to n) call_edge_of p.calls.items)))
    (sym (list_all-map (λ (loop : Loop). nat_lt loop.first n && nat_lt loop.last n) loop_of p.loops.items)))
    (both
    (both refl (sym (list_all-map (λ (end : TrapEnd). nat_lt end.location n) trap_end_of p.traps.items)))
    (sym (list_all-map (λ (end : OverEnd). nat_lt end.location n) over_end_of p.overs.items)))

-- ---- variables

abbrev marks_of : ℕ → List Term → List Bool
marks_of k terms = map (names_below k) terms

mark_seen : (k : ℕ) (terms : List Term) (n : ℕ) → mark_at (marks_of k terms) n ≡ names_below k (term_at terms n)
mark_seen k [] n = refl
mark_seen k (t ∷ terms) zero = refl
mark_seen k (t ∷ terms) (suc n) = mark_seen k terms n

node_seen : (k : ℕ) (terms : List Term) (n : Node) → node_mark k (marks_of k terms) n ≡ names_below k (term_of terms n)
node_seen k terms (node.Constant ty v) = refl
node_seen k terms (node.Variable n) = refl
node_seen k terms (node.Unary op ty a) = mark_seen k terms a
node_seen k terms (node.Binary op ty a b) = both (mark_seen k terms a) (mark_seen k terms b)
node_seen k terms (node.Select ty c a b) = both (both (mark_seen k terms c) (mark_seen k terms a)) (mark_seen k terms b)

nodes_seen : (k : ℕ) (terms : List Term) (nodes : List Node) → marks_after k (marks_of k terms) nodes ≡ marks_of k (terms_after terms nodes)
nodes_seen k terms [] = refl
nodes_seen k terms (n ∷ nodes) =
    ap (λ (marks : List Bool). marks_after k marks nodes)
    (ap (λ (b : Bool). marks_of k terms ++ b ∷ []) (node_seen k terms n) ∙ sym (map-append (names_below k) terms (term_of terms n ∷ [])))
    ∙ nodes_seen k (terms ++ term_of terms n ∷ []) nodes

sets_seen : (k : ℕ) (terms : List Term) (sets : List CodeSet)
    → list_all (set_mark k (marks_of k terms)) sets ≡ list_all (set_below k) (map (set_of terms) sets)
sets_seen k terms [] = refl
sets_seen k terms (set ∷ sets) = both (both refl (mark_seen k terms set.value)) (sets_seen k terms sets)

deeds_seen : (k : ℕ) (terms : List Term) (deeds : List CodeDeed) (n : ℕ) → mark_at (map (deed_mark k (marks_of k terms)) deeds) n
    ≡ (names_below k (guard_of terms (slice_get deeds n)) && list_all (set_below k) (sets_of terms (slice_get deeds n)))
deeds_seen k terms [] n = refl
deeds_seen k terms (deed ∷ deeds) zero = both (mark_seen k terms deed.guard) (sets_seen k terms deed.sets.items)
deeds_seen k terms (deed ∷ deeds) (suc n) = deeds_seen k terms deeds n

edges_seen : (k : ℕ) (terms : List Term) (deeds : List CodeDeed) (edges : List CodeEdge)
    → list_all (edge_mark (map (deed_mark k (marks_of k terms)) deeds)) edges ≡ list_all (edge_below k) (map (edge_of terms deeds) edges)
edges_seen k terms deeds [] = refl
edges_seen k terms deeds (edge ∷ edges) = both (deeds_seen k terms deeds edge.deed) (edges_seen k terms deeds edges)

-- with the number of variables counted before they are seen
abbrev below : CodeParts → ℕ → Bool
below p k = list_all (edge_below k) (parts_of p).edges && list_all (λ (call : CallEdge). nat_le call.instance k) (parts_of p).calls

variables_below : (p : CodeParts) → variables_lie p ≡ below p (length p.vars.items)
variables_below p =
    let k = length p.vars.items in
    both
    (ap (λ (marks : List Bool). list_all (edge_mark (map (deed_mark k marks) p.deeds.items)) p.edges.items) (nodes_seen k [] p.nodes.items)
    ∙ edges_seen k (terms_of p.nodes.items) p.deeds.items p.edges.items)
    (sym (list_all-map (λ (call : CallEdge). nat_le call.instance k) call_edge_of p.calls.items))

pub variables_seen : (p : CodeParts) → variables_lie p ≡ has_variables (parts_of p)
variables_seen p = variables_below p ∙ ap (below p) (sym (length-map p.vars.items variable_of))

pub answers_variables : (p : CodeParts) (r : Result Bool AllocError) → IfOk r (λ found. found ≡ variables_lie p)
    → IfOk r (λ found. found ≡ has_variables (parts_of p))
answers_variables p r h = subst (λ (b : Bool). IfOk r (λ found. found ≡ b)) (variables_seen p) h

-- ---- loops

all_both : {X : Type 0} (f g : X → Bool) (xs : List X) → list_all (λ x. f x && g x) xs ≡ (list_all f xs && list_all g xs)
all_both f g [] = refl
all_both f g (x ∷ xs) = ap (λ (b : Bool). (f x && g x) && b) (all_both f g xs) ∙ crossed (f x) (g x) (list_all f xs) (list_all g xs)
  where
    crossed : (a b c d : Bool) → ((a && b) && (c && d)) ≡ ((a && c) && (b && d))
    crossed true true c d = refl
    crossed true false true d = refl
    crossed true false false d = refl
    crossed false b c d = refl

all_true : {X : Type 0} (xs : List X) → true ≡ list_all (λ x. true) xs
all_true [] = refl
all_true (x ∷ xs) = all_true xs

all_swapped : {X Y : Type 0} (f : X → Y → Bool) (xs : List X) (ys : List Y)
    → list_all (λ x. list_all (λ y. f x y) ys) xs ≡ list_all (λ y. list_all (λ x. f x y) xs) ys
all_swapped f [] ys = all_true ys
all_swapped f (x ∷ xs) ys =
    ap (λ (b : Bool). list_all (λ y. f x y) ys && b) (all_swapped f xs ys)
    ∙ sym (all_both (λ y. f x y) (λ y. list_all (λ z. f z y) xs) ys)

-- two ranges that aren't empty cross exactly where one of them holds the other's first, past its own, and not its last: by where their
-- firsts and lasts stand to one another
abbrev Crossing : Bool → Bool → Bool → Bool → Bool → Bool → Bool → Bool → Type 0
Crossing p q r s u v e f = (((v && r) || not (p && u) || e) && ((u && s) || not (q && v) || f)) ≡ not (v && u && not (p && r) && not (q && s))

cross_before : (r s u : Bool) → Crossing true false r s u true false false
cross_before true true true = refl
cross_before true true false = refl
cross_before true false true = refl
cross_before true false false = refl
cross_before false true true = refl
cross_before false true false = refl
cross_before false false true = refl
cross_before false false false = refl

cross_behind : (r s v : Bool) → Crossing false true r s true v false false
cross_behind true true true = refl
cross_behind true true false = refl
cross_behind true false true = refl
cross_behind true false false = refl
cross_behind false true true = refl
cross_behind false true false = refl
cross_behind false false true = refl
cross_behind false false false = refl

cross_beside : (r s u v : Bool) → (r || s) ≡ true → Crossing true true r s u v true true
cross_beside true true true true h = refl
cross_beside true true true false h = refl
cross_beside true true false true h = refl
cross_beside true true false false h = refl
cross_beside true false true true h = refl
cross_beside true false true false h = refl
cross_beside true false false true h = refl
cross_beside true false false false h = refl
cross_beside false true true true h = refl
cross_beside false true true false h = refl
cross_beside false true false true h = refl
cross_beside false true false false h = refl
cross_beside false false u v h = absurd (false≢true h)

crossing : (a b : Loop) → a.first ≤ a.last → b.first ≤ b.last → (enters_well a b.last b.first && enters_well b a.last a.first) ≡ not (cross a b)
crossing a b range_a range_b = by (cases_order a.first b.first)
  where
    from : (p q w x e f : Bool) → nat_le a.first b.first ≡ p → nat_le b.first a.first ≡ q → nat_le b.first a.last ≡ w → nat_le a.first b.last ≡ x
        → (b.first == a.first) ≡ e → (a.first == b.first) ≡ f → Crossing p q (nat_le b.last a.last) (nat_le a.last b.last) w x e f
        → (enters_well a b.last b.first && enters_well b a.last a.first) ≡ not (cross a b)
    from p q w x e f is_p is_q is_w is_x is_e is_f h =
        subst (λ (z : Bool). Crossing z (nat_le b.first a.first) (nat_le b.last a.last) (nat_le a.last b.last) (nat_le b.first a.last) (nat_le a.first b.last) (b.first == a.first) (a.first == b.first)) (sym is_p)
        (subst (λ (z : Bool). Crossing p z (nat_le b.last a.last) (nat_le a.last b.last) (nat_le b.first a.last) (nat_le a.first b.last) (b.first == a.first) (a.first == b.first)) (sym is_q)
        (subst (λ (z : Bool). Crossing p q (nat_le b.last a.last) (nat_le a.last b.last) z (nat_le a.first b.last) (b.first == a.first) (a.first == b.first)) (sym is_w)
        (subst (λ (z : Bool). Crossing p q (nat_le b.last a.last) (nat_le a.last b.last) w z (b.first == a.first) (a.first == b.first)) (sym is_x)
        (subst (λ (z : Bool). Crossing p q (nat_le b.last a.last) (nat_le a.last b.last) w x z (a.first == b.first)) (sym is_e)
        (subst (λ (z : Bool). Crossing p q (nat_le b.last a.last) (nat_le a.last b.last) w x e z) (sym is_f) h)))))

    ends : (b.last ≤ a.last) ⊎ (a.last < b.last) → (nat_le b.last a.last || nat_le a.last b.last) ≡ true
    ends (inl le) = or_left (nat_le b.last a.last) (nat_le a.last b.last) (le-leb b.last a.last le)
    ends (inr lt) = or_right (nat_le b.last a.last) (nat_le a.last b.last) (le-leb a.last b.last (omega (arith, lt)))

    lasts : (a.last < b.last) ⊎ (b.last ≤ a.last) → (b.last ≤ a.last) ⊎ (a.last < b.last)
    lasts (inl lt) = inr lt
    lasts (inr le) = inl le

    by : (a.first ≡ b.first) ⊎ ((a.first < b.first) ⊎ (b.first < a.first)) → (enters_well a b.last b.first && enters_well b a.last a.first) ≡ not (cross a b)
    by (inl same) = from true true (nat_le b.first a.last) (nat_le a.first b.last) true true
        (le-leb a.first b.first (omega (arith, same))) (le-leb b.first a.first (omega (arith, same))) refl refl
        (eq-eqb b.first a.first (sym same)) (eq-eqb a.first b.first same)
        (cross_beside (nat_le b.last a.last) (nat_le a.last b.last) (nat_le b.first a.last) (nat_le a.first b.last) (ends (lasts (cases_lt a.last b.last))))
    by (inr (inl lt)) = from true false (nat_le b.first a.last) true false false
        (le-leb a.first b.first (omega (arith, lt))) (lt-leb b.first a.first lt) refl (le-leb a.first b.last (omega (arith, lt, range_b)))
        (ne_eqb b.first a.first (λ e. absurd (omega (arith, e, lt)))) (ne_eqb a.first b.first (λ e. absurd (omega (arith, e, lt))))
        (cross_before (nat_le b.last a.last) (nat_le a.last b.last) (nat_le b.first a.last))
    by (inr (inr lt)) = from false true true (nat_le a.first b.last) false false
        (lt-leb a.first b.first lt) (le-leb b.first a.first (omega (arith, lt))) (le-leb b.first a.last (omega (arith, lt, range_a))) refl
        (ne_eqb b.first a.first (λ e. absurd (omega (arith, e, lt)))) (ne_eqb a.first b.first (λ e. absurd (omega (arith, e, lt))))
        (cross_behind (nat_le b.last a.last) (nat_le a.last b.last) (nat_le a.first b.last))

nests : (loops : List Loop) → AllByRecursion (λ (l : Loop). l.first ≤ l.last) loops
    → list_all (λ (b : Loop). enter_all loops b.first b.last) loops ≡ list_all (λ (a : Loop). list_all (λ (b : Loop). not (cross a b)) loops) loops
nests loops ranges =
    sym (twice (list_all (λ (b : Loop). enter_all loops b.first b.last) loops))
    ∙ ap (λ (x : Bool). list_all (λ (b : Loop). enter_all loops b.first b.last) loops && x)
    (all_swapped (λ (b a : Loop). enters_well a b.last b.first) loops loops)
    ∙ sym (all_both (λ (a : Loop). enter_all loops a.first a.last) (λ (a : Loop). list_all (λ (b : Loop). enters_well a b.last b.first) loops) loops)
    ∙ all_alike (λ (a : Loop). enter_all loops a.first a.last && list_all (λ (b : Loop). enters_well a b.last b.first) loops)
    (λ (a : Loop). list_all (λ (b : Loop). not (cross a b)) loops) loops
    (mapped (λ (a : Loop). a.first ≤ a.last)
    (λ (a : Loop). (enter_all loops a.first a.last && list_all (λ (b : Loop). enters_well a b.last b.first) loops) ≡ list_all (λ (b : Loop). not (cross a b)) loops)
    loops (λ a range. one a range) ranges)
  where
    twice : (b : Bool) → (b && b) ≡ b
    twice true = refl
    twice false = refl

    turned : (x y : Bool) → (x && y) ≡ (y && x)
    turned true true = refl
    turned true false = refl
    turned false true = refl
    turned false false = refl

    one : (a : Loop) → a.first ≤ a.last
        → (enter_all loops a.first a.last && list_all (λ (b : Loop). enters_well a b.last b.first) loops) ≡ list_all (λ (b : Loop). not (cross a b)) loops
    one a range =
        sym (all_both (λ (b : Loop). enters_well b a.last a.first) (λ (b : Loop). enters_well a b.last b.first) loops)
        ∙ all_alike (λ (b : Loop). enters_well b a.last a.first && enters_well a b.last b.first) (λ (b : Loop). not (cross a b)) loops
        (mapped (λ (b : Loop). b.first ≤ b.last) (λ (b : Loop). (enters_well b a.last a.first && enters_well a b.last b.first) ≡ not (cross a b)) loops
        (λ b other. turned (enters_well b a.last a.first) (enters_well a b.last b.first) ∙ crossing a b range other) ranges)

-- an edge from one location to another, whatever it is, enters all loops well exactly where the window lets it
windows_enter : {X : Type 0} (from to : X → ℕ) (n : ℕ) (ws : List (Option Range)) (loops : List Loop) (xs : List X) → AreWindows loops n ws
    → AllByRecursion (λ x. to x < n) xs
    → list_all (λ x. lets (window_at ws (to x)) (from x)) xs ≡ list_all (λ (loop : Loop). list_all (λ x. enters_well loop (from x) (to x)) xs) loops
windows_enter from to n ws loops xs h below =
    all_alike (λ x. lets (window_at ws (to x)) (from x)) (λ x. enter_all loops (to x) (from x)) xs
    (mapped (λ x. to x < n) (λ x. lets (window_at ws (to x)) (from x) ≡ enter_all loops (to x) (from x)) xs (λ x lt. h.windows (to x) (from x) lt) below)
    ∙ all_swapped (λ x (loop : Loop). enters_well loop (from x) (to x)) xs loops

second_below : {X : Type 0} (from to : X → ℕ) (n : ℕ) (xs : List X) → list_all (λ x. nat_lt (from x) n && nat_lt (to x) n) xs ≡ true
    → AllByRecursion (λ x. to x < n) xs
second_below from to n xs e = mapped (λ x. (nat_lt (from x) n && nat_lt (to x) n) ≡ true) (λ x. to x < n) xs
    (λ x both. ltb-true (to x) n (and_parts (nat_lt (from x) n) (nat_lt (to x) n) both).1) (all_listed (λ x. nat_lt (from x) n && nat_lt (to x) n) xs e)

first_below : {X : Type 0} (from to : X → ℕ) (n : ℕ) (xs : List X) → list_all (λ x. nat_lt (from x) n && nat_lt (to x) n) xs ≡ true
    → AllByRecursion (λ x. from x < n) xs
first_below from to n xs e = mapped (λ x. (nat_lt (from x) n && nat_lt (to x) n) ≡ true) (λ x. from x < n) xs
    (λ x both. ltb-true (from x) n (and_parts (nat_lt (from x) n) (nat_lt (to x) n) both).0) (all_listed (λ x. nat_lt (from x) n && nat_lt (to x) n) xs e)

-- each location that edges, calls and loops name
record AreBelow (q : Parts) : Type 0 where
  edges : list_all (λ (edge : Edge). nat_lt edge.from q.locations && nat_lt edge.to q.locations) q.edges ≡ true
  calls : list_all (λ (call : CallEdge). nat_lt call.from q.locations && nat_lt call.to q.locations) q.calls ≡ true
  loops : list_all (λ (loop : Loop). nat_lt loop.first q.locations && nat_lt loop.last q.locations) q.loops ≡ true

below_all : (q : Parts) → has_locations q ≡ true → AreBelow q
below_all q e =
    let edges = list_all (λ (edge : Edge). nat_lt edge.from q.locations && nat_lt edge.to q.locations) q.edges in
    let calls = list_all (λ (call : CallEdge). nat_lt call.from q.locations && nat_lt call.to q.locations) q.calls in
    let loops = list_all (λ (loop : Loop). nat_lt loop.first q.locations && nat_lt loop.last q.locations) q.loops in
    let most = (and_parts (edges && calls && loops) (has_ends q) e).0 in
    let two = and_parts (edges && calls) loops most in
    let one = and_parts edges calls two.0 in
    record { edges = one.0; calls = one.1; loops = two.1 }

loops_split : (q : Parts) → has_loops q
    ≡ ((list_all (λ (loop : Loop). list_all (λ (e : ℕ). nat_lt e (length q.edges)) loop.turns) q.loops
    && list_all (λ (loop : Loop). list_all (λ (other : Loop). not (cross loop other)) q.loops) q.loops)
    && (list_all (λ (loop : Loop). list_all (λ (edge : Edge). enters_well loop edge.from edge.to) q.edges) q.loops
    && list_all (λ (loop : Loop). list_all (λ (call : CallEdge). enters_well loop call.from call.to) q.calls) q.loops))
loops_split q =
    let turns : Loop → Bool = λ loop. list_all (λ (e : ℕ). nat_lt e (length q.edges)) loop.turns in
    let nest : Loop → Bool = λ loop. list_all (λ (other : Loop). not (cross loop other)) q.loops in
    let edges : Loop → Bool = λ loop. list_all (λ (edge : Edge). enters_well loop edge.from edge.to) q.edges in
    let calls : Loop → Bool = λ loop. list_all (λ (call : CallEdge). enters_well loop call.from call.to) q.calls in
    all_both (λ (loop : Loop). turns loop && nest loop) (λ (loop : Loop). edges loop && calls loop) q.loops
    ∙ both (all_both turns nest q.loops) (all_both edges calls q.loops)

loops_seen : (p : CodeParts) (ws : List (Option Range)) → has_locations (parts_of p) ≡ true
    → AreWindows (map loop_of p.loops.items) p.locations ws → windows_let p ws ≡ has_loops (parts_of p)
loops_seen p ws there h =
    let q = parts_of p in
    let below = below_all q there in
    both
    (both
    (ap (λ (n : ℕ). list_all (λ (loop : CodeLoop). list_all (λ (e : ℕ). nat_lt e n) loop.turns.items) p.loops.items)
    (sym (length-map p.edges.items (edge_of (terms_of p.nodes.items) p.deeds.items)))
    ∙ sym (list_all-map (λ (loop : Loop). list_all (λ (e : ℕ). nat_lt e (length q.edges)) loop.turns) loop_of p.loops.items))
    (sym (list_all-map (λ (loop : Loop). lets (window_at ws loop.first) loop.last) loop_of p.loops.items)
    ∙ all_alike (λ (loop : Loop). lets (window_at ws loop.first) loop.last) (λ (loop : Loop). enter_all q.loops loop.first loop.last) q.loops
    (mapped (λ (loop : Loop). loop.first < q.locations)
    (λ (loop : Loop). lets (window_at ws loop.first) loop.last ≡ enter_all q.loops loop.first loop.last) q.loops
    (λ loop lt. h.windows loop.first loop.last lt) (first_below (λ (loop : Loop). loop.first) (λ (loop : Loop). loop.last) q.locations q.loops below.loops))
    ∙ nests q.loops h.ranges))
    (both
    (sym (list_all-map (λ (edge : Edge). lets (window_at ws edge.to) edge.from) (edge_of (terms_of p.nodes.items) p.deeds.items) p.edges.items)
    ∙ windows_enter (λ (edge : Edge). edge.from) (λ (edge : Edge). edge.to) q.locations ws q.loops q.edges h
    (second_below (λ (edge : Edge). edge.from) (λ (edge : Edge). edge.to) q.locations q.edges below.edges))
    (sym (list_all-map (λ (call : CallEdge). lets (window_at ws call.to) call.from) call_edge_of p.calls.items)
    ∙ windows_enter (λ (call : CallEdge). call.from) (λ (call : CallEdge). call.to) q.locations ws q.loops q.calls h
    (second_below (λ (call : CallEdge). call.from) (λ (call : CallEdge). call.to) q.locations q.calls below.calls)))
    ∙ sym (loops_split q)

pub loops_judged : (p : CodeParts) (swept : Bool) (ws : List (Option Range)) → has_locations (parts_of p) ≡ true
    → (has_loops (parts_of p) ≡ true → AreNested (map loop_of p.loops.items))
    → HaveWindows swept (map loop_of p.loops.items) p.locations ws → (swept && windows_let p ws) ≡ has_loops (parts_of p)
loops_judged p true ws there nested h = loops_seen p ws there h
loops_judged p false ws there nested h = sym (false_from_ne_true (has_loops (parts_of p)) (λ e. h (nested e)))

-- loops of parts that would be well made nest, outermost first
pub nested_loops : (q : Parts) → (IsFaultless q → IsWellMade q) → has_locations q ≡ true → has_variables q ≡ true → has_loops q ≡ true → AreNested q.loops
nested_loops q made locations variables loops = record {
  ranges = λ i. range (slice_get q.loops i) (listed_at (IsLoop q) q.loops i (recursion_from_All (IsLoop q) q.loops well.loops));
  pairs = λ i j lt. pair (slice_get q.loops i) (slice_get q.loops j) j refl (well.apart i j lt) (all_at (is_loop q) q.loops i loops);
}
  where
    well : IsWellMade q
    well = made (record { locations = locations; variables = variables; loops = loops })

    range : (o : Option Loop) → IfSome o (IsLoop q) → IfSome o (λ loop. loop.first ≤ loop.last)
    range None h = tt
    range (Some loop) h = h.range

    apart_of : (one other : Loop) (j : ℕ) → slice_get q.loops j ≡ Some other → is_loop q one ≡ true → cross one other ≡ false
    apart_of one other j at h =
        let turns = list_all (λ (e : ℕ). nat_lt e (length q.edges)) one.turns in
        let nest = list_all (λ (other : Loop). not (cross one other)) q.loops in
        let both = and_parts (turns && nest) (is_entered_well q one) h in
        let none = (and_parts turns nest both.0).1 in
        not-true (cross one other) (at_some (λ (l : Loop). not (cross one l) ≡ true) (slice_get q.loops j) other at
        (all_at (λ (l : Loop). not (cross one l)) q.loops j none))

    pair : (o r : Option Loop) (j : ℕ) → slice_get q.loops j ≡ r → IfSome o (λ loop. IfSome r (λ other. AreApart loop other))
        → IfSome o (λ loop. is_loop q loop ≡ true) → IfSome o (λ one. IfSome r (λ other. IsBefore one other))
    pair None r j at apart h = tt
    pair (Some one) None j at apart h = tt
    pair (Some one) (Some other) j at apart h = record { order = apart.order; nests = apart_of one other j at h }

-- ---- values

-- the variable with another role
abbrev as_role : CodeVariable → Role → CodeVariable
as_role v role = record { ty = v.ty; role = role; start = v.start; only = v.only }

abbrev Stored : List CodeVariable → Type 0
Stored vars = stored_in vars ≡ length (state_ranges (map variable_of vars))

stored_step : (v : CodeVariable) (vars : List CodeVariable) (r : Role) → Stored vars → Stored (as_role v r ∷ vars)
stored_step v vars Input e = e
stored_step v vars Param e = ap suc e
stored_step v vars Kept e = ap suc e
stored_step v vars Brief e = e

pub stored_seen : (vars : List CodeVariable) → Stored vars
stored_seen [] = refl
stored_seen (v ∷ vars) = stored_step v vars v.role (stored_seen vars)

abbrev Taken : List CodeVariable → Type 0
Taken vars = taken_in vars ≡ length (input_ranges (map variable_of vars))

taken_step : (v : CodeVariable) (vars : List CodeVariable) (r : Role) → Taken vars → Taken (as_role v r ∷ vars)
taken_step v vars Input e = ap suc e
taken_step v vars Param e = e
taken_step v vars Kept e = e
taken_step v vars Brief e = e

pub taken_seen : (vars : List CodeVariable) → Taken vars
taken_seen [] = refl
taken_seen (v ∷ vars) = taken_step v vars v.role (taken_seen vars)
