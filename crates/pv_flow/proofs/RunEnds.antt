-- A run of a well-made automaton ends: where it isn't at an end some guard is true, and each way leads on to a later copy of a location.
use Rattle.std.proofs.Common.{◌≡◌, ◌≢◌, ℕ, zero, suc, ◌+◌, ◌<◌, ◌≤◌, List, [], ◌∷◌, ◌++◌, length, map, slice_get, Bool, true, false, ◌&&◌, ◌||◌, ◌==◌, nat_lt, nat_le, cond, Option, Some, None, IfSome, refl, sym, subst, ap, ◌∙◌, arith}
use Rattle.std.specs.List.{AllByRecursion, list_any, list_all}
use Rattle.std.proofs.lemmas.Bool.{false≢true, eqb-true, eq-eqb, ltb-true, leb-false, and_from, and_parts, or_from}
use Rattle.std.proofs.lemmas.List.Folds.{list_any-append}
use Rattle.std.proofs.lemmas.Option.{none-some}
use Rattle.pv_place.specs.declared.place.Place.{Place}
use Rattle.pv_flow.specs.Terms.{Valuation, holds_in, names_below}
use Rattle.pv_flow.specs.Automata.{Set, Edge, CallEdge, Loop, TrapEnd, OverEnd, Parts, types_of, HasValues, edges_from, calls_from, holds, is_turn}
use Rattle.pv_flow.specs.Faults.{set_below, edge_below, has_ends, IsFaultless}
use Rattle.pv_flow.specs.WellMade.{true_guards, is_end, turns_by, IsWellMade}
use Rattle.pv_flow.specs.Runs.{assigned, End, done, trap, over, outcome_of, Way, taken, ended_or, run, Spot, at, past, Counts, over_of, past_or, kept_in, turn_in, turned, moved, led, way_of, ways_by, trap_at, over_at, or_else, end_at, control_of, first_spot, entered, copies}
use Rattle.pv_flow.specs.Walks.{is_between}
use Rattle.pv_flow.specs.Machines.{IsInlined, IsAcyclic}
use Rattle.pv_flow.proofs.TypedRuns.{IsSetWithin, IsEdgeWithin, edges_are_within, assigned_typed}
use Rattle.pv_flow.proofs.ClosedWalks.{all_at, listed_at, at_some, Keeps, keeps}
use Rattle.pv_flow.proofs.Sums.{copies_without}
use Rattle.pv_flow.proofs.Advancing.{HaveCounts, next_count, Hops, have_counts, come, goes_on, are_nested, ranges_of, is_hop, begins, comes_no_further}

-- ---- ends

trap_none : (l : ℕ) (traps : List TrapEnd) → trap_at l traps ≡ None → list_any (λ (n : ℕ). n == l) (map (λ (t : TrapEnd). t.location) traps) ≡ false
trap_none l [] e = refl
trap_none l (end ∷ traps) e = by (end.location == l) e (λ h. trap_none l traps h)
  where
    by : (b : Bool) → cond b (Some (trap end.kind end.place)) (trap_at l traps) ≡ None
        → (trap_at l traps ≡ None → list_any (λ (n : ℕ). n == l) (map (λ (t : TrapEnd). t.location) traps) ≡ false)
        → (b || list_any (λ (n : ℕ). n == l) (map (λ (t : TrapEnd). t.location) traps)) ≡ false
    by true h go = absurd (none-some _ (sym h))
    by false h go = go h

over_none : (l : ℕ) (overs : List OverEnd) → over_at l overs ≡ None → list_any (λ (n : ℕ). n == l) (map (λ (o : OverEnd). o.location) overs) ≡ false
over_none l [] e = refl
over_none l (end ∷ overs) e = by (end.location == l) e (λ h. over_none l overs h)
  where
    by : (b : Bool) → cond b (Some (over end.place)) (over_at l overs) ≡ None
        → (over_at l overs ≡ None → list_any (λ (n : ℕ). n == l) (map (λ (o : OverEnd). o.location) overs) ≡ false)
        → (b || list_any (λ (n : ℕ). n == l) (map (λ (o : OverEnd). o.location) overs)) ≡ false
    by true h go = absurd (none-some _ (sym h))
    by false h go = go h

neither : (a b : Option End) → or_else a b ≡ None → (a ≡ None) × (b ≡ None)
neither None b e = (refl, e)
neither (Some a) b e = absurd (none-some a (sym e))

not_done : (b : Bool) (rest : Option End) → cond b (Some done) rest ≡ None → (b ≡ false) × (rest ≡ None)
not_done true rest e = absurd (none-some done (sym e))
not_done false rest e = (refl, e)

-- a location that ends nothing is none where scans end
pub no_end : (p : Parts) (l : ℕ) → end_at p l ≡ None → is_end p l ≡ false
no_end p l e =
    let first = not_done (p.done == l) (or_else (trap_at l p.traps) (over_at l p.overs)) e in
    let rest = neither (trap_at l p.traps) (over_at l p.overs) first.1 in
    or_from (p.done == l) (list_any (λ (n : ℕ). n == l) (map (λ (t : TrapEnd). t.location) p.traps ++ map (λ (o : OverEnd). o.location) p.overs))
    first.0
    (list_any-append (λ (n : ℕ). n == l) (map (λ (t : TrapEnd). t.location) p.traps) (map (λ (o : OverEnd). o.location) p.overs)
    ∙ or_from (list_any (λ (n : ℕ). n == l) (map (λ (t : TrapEnd). t.location) p.traps))
    (list_any (λ (n : ℕ). n == l) (map (λ (o : OverEnd). o.location) p.overs)) (trap_none l p.traps rest.0) (over_none l p.overs rest.1))

-- ---- a way is taken

none_true : (loops : List Loop) (n l : ℕ) (counts : Counts) (w : Valuation) (e : ℕ) (edges : List Edge)
    → taken w (ways_by loops n l counts e edges) ≡ None → true_guards w (edges_from l edges) ≡ 0
none_true loops n l counts w e [] h = refl
none_true loops n l counts w e (edge ∷ edges) h = by (edge.from == l) h (λ g. none_true loops n l counts w (suc e) edges g)
  where
    guard : (c : Bool)
        → ◌≡◌ {A = Option (Way Spot)} (elim c [ true ↦ Some (way_of loops n l counts e edge) | false ↦ taken w (ways_by loops n l counts (suc e) edges) ]) None
        → (taken w (ways_by loops n l counts (suc e) edges) ≡ None → true_guards w (edges_from l edges) ≡ 0)
        → cond c (1 + true_guards w (edges_from l edges)) (true_guards w (edges_from l edges)) ≡ 0
    guard true g go = absurd (none-some (way_of loops n l counts e edge) (sym g))
    guard false g go = go g

    by : (b : Bool) → taken w (cond b (way_of loops n l counts e edge ∷ ways_by loops n l counts (suc e) edges) (ways_by loops n l counts (suc e) edges)) ≡ None
        → (taken w (ways_by loops n l counts (suc e) edges) ≡ None → true_guards w (edges_from l edges) ≡ 0)
        → true_guards w (cond b (edge ∷ edges_from l edges) (edges_from l edges)) ≡ 0
    by true g go = guard (holds_in w edge.guard) g go
    by false g go = go g

-- at a location that ends nothing and begins no call some way is taken
pub some_way : (p : Parts) → IsWellMade p → (n l : ℕ) (counts : Counts) (w : Valuation) → HasValues p w → l < p.locations
    → end_at p l ≡ None → length (calls_from l p.calls) ≡ 0 → taken w (ways_by p.loops n l counts 0 p.edges) ≡ None → ⊥
some_way p made n l counts w are lt end calls none =
    let some = made.others l lt (no_end p l end) in
    let edges : 0 < length (edges_from l p.edges) = omega (arith, some, calls) in
    let one = made.guards l w are edges in
    let nothing = none_true p.loops n l counts w 0 p.edges none in
    absurd (omega (arith, one, nothing))

-- ---- what each way keeps

pub taken_of : {X : Type 0} (P : Way X → Type 0) (w : Valuation) (ways : List (Way X)) → AllByRecursion P ways → IfSome (taken w ways) P
taken_of P w [] all = tt
taken_of {X} P w (way ∷ ways) all = by (holds_in w way.guard) (taken_of P w ways all.1)
  where
    by : (b : Bool) → IfSome (taken w ways) P → IfSome (elim b [ true ↦ Some way | false ↦ taken w ways ]) P
    by true h = all.0
    by false h = h

-- what is so of the way of each edge that begins there
ways_all : (P : Way Spot → Type 0) (loops : List Loop) (n l : ℕ) (counts : Counts) (e : ℕ) (edges : List Edge)
    → ((i : ℕ) (edge : Edge) → slice_get edges i ≡ Some edge → edge.from ≡ l → P (way_of loops n l counts (e + i) edge))
    → AllByRecursion P (ways_by loops n l counts e edges)
ways_all P loops n l counts e [] all = tt
ways_all P loops n l counts e (edge ∷ edges) all =
    by (edge.from == l) refl
    (ways_all P loops n l counts (suc e) edges
    (λ i other it from. subst (λ (k : ℕ). P (way_of loops n l counts k other)) (shift e i) (all (suc i) other it from)))
  where
    shift : (e i : ℕ) → e + suc i ≡ suc e + i
    shift e i = omega arith

    none : (e : ℕ) → e + 0 ≡ e
    none e = omega arith

    by : (b : Bool) → (edge.from == l) ≡ b → AllByRecursion P (ways_by loops n l counts (suc e) edges)
        → AllByRecursion P (cond b (way_of loops n l counts e edge ∷ ways_by loops n l counts (suc e) edges) (ways_by loops n l counts (suc e) edges))
    by true same rest = (
      subst (λ (k : ℕ). P (way_of loops n l counts k edge)) (none e) (all 0 edge refl (eqb-true edge.from l same)),
      rest,
    )
    by false off rest = rest

-- where no loop goes over, each that the edge turns has turns left
over_here : (b c : Bool) (place : Place) (rest : Option Place) → ◌≡◌ {A = Option Place} (elim (b && c) [ true ↦ Some place | false ↦ rest ]) None
    → (rest ≡ None) × (b ≡ true → c ≡ false)
over_here true true place rest none = absurd (none-some place (sym none))
over_here true false place rest none = (none, (λ on. refl))
over_here false c place rest none = (none, (λ on. absurd (false≢true on)))

not_over : (m e : ℕ) (counts : Counts) (loops : List Loop) (i : ℕ) → over_of (suc m) e counts i loops ≡ None
    → (j : ℕ) → IfSome (slice_get loops j) (λ loop. is_turn loop e ≡ true → counts (i + j) ≤ m)
not_over m e counts [] i none j = tt
not_over m e counts (loop ∷ loops) i none zero = λ on.
    subst (λ (k : ℕ). counts k ≤ m) (first i)
    (small (counts i) (leb-false (suc m) (counts i) ((over_here (is_turn loop e) (nat_le (suc m) (counts i)) loop.place (over_of (suc m) e counts (suc i) loops) none).1 on)))
  where
    first : (i : ℕ) → i ≡ i + 0
    first i = omega arith

    small : (k : ℕ) → k < suc m → k ≤ m
    small k lt = omega (arith, lt)
not_over m e counts (loop ∷ loops) i none (suc j) =
    moved_to (slice_get loops j) (suc i + j) (i + suc j) (shift i j)
    (not_over m e counts loops (suc i) (over_here (is_turn loop e) (nat_le (suc m) (counts i)) loop.place (over_of (suc m) e counts (suc i) loops) none).0 j)
  where
    shift : (i j : ℕ) → suc i + j ≡ i + suc j
    shift i j = omega arith

    moved_to : (o : Option Loop) (a b : ℕ) → a ≡ b → IfSome o (λ loop. is_turn loop e ≡ true → counts a ≤ m)
        → IfSome o (λ loop. is_turn loop e ≡ true → counts b ≤ m)
    moved_to o a b same h = subst (λ (x : ℕ). IfSome o (λ loop. is_turn loop e ≡ true → counts x ≤ m)) same h

-- ---- along edges and call edges

-- where an edge leads, as a hop of each loop
edge_hops : (m : ℕ) (p : Parts) (e : ℕ) (from to : ℕ) (counts : Counts) → Keeps p (record { from = from; to = to; edge = Some e })
    → over_of (suc m) e counts 0 p.loops ≡ None → Hops m p.loops (Some e) from to counts (turned p.loops e (moved p.loops from to counts))
edge_hops m p e from to counts kept none = record {
  hops = λ i. is_hop p (record { from = from; to = to; edge = Some e }) kept i;
  below = λ i. zero_shift (slice_get p.loops i) i (not_over m e counts p.loops 0 none i);
  becomes = λ i. by (slice_get p.loops i) (counts i);
}
  where
    zero_shift : (o : Option Loop) (i : ℕ) → IfSome o (λ loop. is_turn loop e ≡ true → counts (0 + i) ≤ m)
        → IfSome o (λ loop. turns_by loop (Some e) ≡ true → counts i ≤ m)
    zero_shift o i h = subst (λ (k : ℕ). IfSome o (λ loop. is_turn loop e ≡ true → counts k ≤ m)) (shift i) h
      where
        shift : (i : ℕ) → 0 + i ≡ i
        shift i = omega arith

    by : (o : Option Loop) (k : ℕ)
        → IfSome o (λ loop. kept_in o (λ x. holds x from) to k + turn_in o e ≡ next_count loop from to (turns_by loop (Some e)) k)
    by None k = tt
    by (Some loop) k = refl

call_hops : (m : ℕ) (p : Parts) (from to : ℕ) (counts : Counts) → Keeps p (record { from = from; to = to; edge = None })
    → Hops m p.loops None from to counts (moved p.loops from to counts)
call_hops m p from to counts kept = record {
  hops = λ i. is_hop p (record { from = from; to = to; edge = None }) kept i;
  below = λ i. none (slice_get p.loops i) (counts i);
  becomes = λ i. by (slice_get p.loops i) (counts i);
}
  where
    none : (o : Option Loop) (k : ℕ) → IfSome o (λ loop. turns_by loop None ≡ true → k ≤ m)
    none None k = tt
    none (Some loop) k = λ on. absurd (false≢true on)

    same : (k : ℕ) → k ≡ k + 0
    same k = omega arith

    by : (o : Option Loop) (k : ℕ)
        → IfSome o (λ loop. kept_in o (λ x. holds x from) to k ≡ next_count loop from to (turns_by loop None) k)
    by None k = tt
    by (Some loop) k = same (kept_in (Some loop) (λ x. holds x from) to k)

-- a run's state, with how far it has come
pub record Stands (m : ℕ) (p : Parts) (l : ℕ) (counts : Counts) : Type 0 where
  pub inside : l < p.locations
  pub counted : HaveCounts m p.loops l counts

pub record IsOn (m : ℕ) (p : Parts) (l : ℕ) (counts : Counts) (to : ℕ) (next : Counts) : Type 0 where
  pub stands : Stands m p to next
  pub further : suc (come m p.loops l counts) ≤ come m p.loops to next

gone_on : (m : ℕ) (p : Parts) → IsFaultless p → IsWellMade p → (o : Option ℕ) (l to : ℕ) (counts next : Counts) → Stands m p l counts
    → to < p.locations → Keeps p (record { from = l; to = to; edge = o }) → Hops m p.loops o l to counts next → IsOn m p l counts to next
gone_on m p f w o l to counts next stands lt kept hops = record {
  stands = record { inside = lt; counted = have_counts m p.loops o l to counts next hops stands.counted };
  further = goes_on m p.loops o l to counts next (are_nested p f w) (ranges_of p w) kept.well hops stands.counted;
}

-- a way leads past a loop's bound, or on
pub data Leads (m : ℕ) (p : Parts) (l : ℕ) (counts : Counts) : Spot → Type 0 where
  over_by : {place : Place} → Leads m p l counts (past place)
  on_to : {to : ℕ} {next : Counts} → IsOn m p l counts to next → Leads m p l counts (at to next)

pub record IsWayOn (m : ℕ) (p : Parts) (l : ℕ) (counts : Counts) (way : Way Spot) : Type 0 where
  pub leads : Leads m p l counts way.to
  pub sets : AllByRecursion (IsSetWithin (length p.vars) (types_of p)) way.sets
  pub below : list_all (λ set. nat_lt set.variable (length p.vars)) way.sets ≡ true

edge_lies : (p : Parts) → IsFaultless p → (e : ℕ) (edge : Edge) → slice_get p.edges e ≡ Some edge
    → (edge.to < p.locations) × (list_all (λ set. nat_lt set.variable (length p.vars)) edge.sets ≡ true)
edge_lies p f e edge it = (
  ltb-true edge.to p.locations (and_parts (nat_lt edge.from p.locations) (nat_lt edge.to p.locations)
      (at_some (λ (x : Edge). (nat_lt x.from p.locations && nat_lt x.to p.locations) ≡ true) (slice_get p.edges e) edge it
      (all_at (λ (x : Edge). nat_lt x.from p.locations && nat_lt x.to p.locations) p.edges e edges))).1,
  named edge.sets (and_parts (names_below (length p.vars) edge.guard) (list_all (set_below (length p.vars)) edge.sets)
      (at_some (λ (x : Edge). edge_below (length p.vars) x ≡ true) (slice_get p.edges e) edge it
      (all_at (edge_below (length p.vars)) p.edges e
      (and_parts (list_all (edge_below (length p.vars)) p.edges) (list_all (λ (call : CallEdge). nat_le call.instance (length p.vars)) p.calls) f.variables).0))).1,
)
  where
    edges : list_all (λ (edge : Edge). nat_lt edge.from p.locations && nat_lt edge.to p.locations) p.edges ≡ true
    edges = (and_parts (list_all (λ (edge : Edge). nat_lt edge.from p.locations && nat_lt edge.to p.locations) p.edges)
        (list_all (λ (call : CallEdge). nat_lt call.from p.locations && nat_lt call.to p.locations) p.calls)
        (and_parts (list_all (λ (edge : Edge). nat_lt edge.from p.locations && nat_lt edge.to p.locations) p.edges
        && list_all (λ (call : CallEdge). nat_lt call.from p.locations && nat_lt call.to p.locations) p.calls)
        (list_all (λ (loop : Loop). nat_lt loop.first p.locations && nat_lt loop.last p.locations) p.loops)
        (and_parts (list_all (λ (edge : Edge). nat_lt edge.from p.locations && nat_lt edge.to p.locations) p.edges
        && list_all (λ (call : CallEdge). nat_lt call.from p.locations && nat_lt call.to p.locations) p.calls
        && list_all (λ (loop : Loop). nat_lt loop.first p.locations && nat_lt loop.last p.locations) p.loops) (has_ends p) f.locations).0).0).0

    named : (sets : List Set) → list_all (set_below (length p.vars)) sets ≡ true → list_all (λ set. nat_lt set.variable (length p.vars)) sets ≡ true
    named [] h = refl
    named (set ∷ sets) h =
        let both = and_parts (set_below (length p.vars) set) (list_all (set_below (length p.vars)) sets) h in
        and_from (nat_lt set.variable (length p.vars)) (list_all (λ (other : Set). nat_lt other.variable (length p.vars)) sets)
        (and_parts (nat_lt set.variable (length p.vars)) (names_below (length p.vars) set.value) both.0).0 (named sets both.1)

edge_leads : (m : ℕ) (p : Parts) → IsFaultless p → IsWellMade p → (l : ℕ) (counts : Counts) → Stands m p l counts
    → (e : ℕ) (edge : Edge) → slice_get p.edges e ≡ Some edge → edge.from ≡ l → Leads m p l counts (led p.loops (suc m) e l edge.to counts)
edge_leads m p f w l counts stands e edge it from = by (over_of (suc m) e counts 0 p.loops) refl
  where
    kept : Keeps p (record { from = l; to = edge.to; edge = Some e })
    kept = keeps p f w (record { from = l; to = edge.to; edge = Some e })
        (ap (λ (o : Option Edge). is_between l edge.to o) it ∙ and_from (edge.from == l) (edge.to == edge.to) (eq-eqb edge.from l from) (eq-eqb edge.to edge.to refl))

    by : (o : Option Place) → over_of (suc m) e counts 0 p.loops ≡ o
        → Leads m p l counts (past_or o (at edge.to (turned p.loops e (moved p.loops l edge.to counts))))
    by (Some place) none = over_by
    by None none = on_to
        (gone_on m p f w (Some e) l edge.to counts (turned p.loops e (moved p.loops l edge.to counts)) stands (edge_lies p f e edge it).0 kept
        (edge_hops m p e l edge.to counts kept none))

pub ways_on : (m : ℕ) (p : Parts) → IsFaultless p → IsWellMade p → (l : ℕ) (counts : Counts) → Stands m p l counts
    → AllByRecursion (IsWayOn m p l counts) (ways_by p.loops (suc m) l counts 0 p.edges)
ways_on m p f w l counts stands = ways_all (IsWayOn m p l counts) p.loops (suc m) l counts 0 p.edges
    (λ e edge it from. subst (λ (k : ℕ). IsWayOn m p l counts (way_of p.loops (suc m) l counts k edge)) (shift e) (one e edge it from))
  where
    shift : (e : ℕ) → e ≡ 0 + e
    shift e = omega arith

    one : (e : ℕ) (edge : Edge) → slice_get p.edges e ≡ Some edge → edge.from ≡ l → IsWayOn m p l counts (way_of p.loops (suc m) l counts e edge)
    one e edge it from = record {
      leads = edge_leads m p f w l counts stands e edge it from;
      sets = at_some (IsEdgeWithin (length p.vars) (types_of p)) (slice_get p.edges e) edge it
          (listed_at (IsEdgeWithin (length p.vars) (types_of p)) p.edges e (edges_are_within p f.variables w.edges));
      below = (edge_lies p f e edge it).1;
    }

-- where call edges begin and lead
pub calls_inside : (p : Parts) → IsFaultless p → list_all (λ (call : CallEdge). nat_lt call.from p.locations && nat_lt call.to p.locations) p.calls ≡ true
calls_inside p f = (and_parts (list_all (λ (edge : Edge). nat_lt edge.from p.locations && nat_lt edge.to p.locations) p.edges)
    (list_all (λ (call : CallEdge). nat_lt call.from p.locations && nat_lt call.to p.locations) p.calls)
    (and_parts (list_all (λ (edge : Edge). nat_lt edge.from p.locations && nat_lt edge.to p.locations) p.edges
    && list_all (λ (call : CallEdge). nat_lt call.from p.locations && nat_lt call.to p.locations) p.calls)
    (list_all (λ (loop : Loop). nat_lt loop.first p.locations && nat_lt loop.last p.locations) p.loops)
    (and_parts (list_all (λ (edge : Edge). nat_lt edge.from p.locations && nat_lt edge.to p.locations) p.edges
    && list_all (λ (call : CallEdge). nat_lt call.from p.locations && nat_lt call.to p.locations) p.calls
    && list_all (λ (loop : Loop). nat_lt loop.first p.locations && nat_lt loop.last p.locations) p.loops) (has_ends p) f.locations).0).0).1

-- behind a call edge
pub call_on : (m : ℕ) (p : Parts) → IsFaultless p → IsWellMade p → (l : ℕ) (counts : Counts) → Stands m p l counts
    → (call : CallEdge) → list_any (λ (c : CallEdge). (c.from == l) && (c.to == call.to)) p.calls ≡ true → call.to < p.locations
    → IsOn m p l counts call.to (moved p.loops l call.to counts)
call_on m p f w l counts stands call leads lt =
    gone_on m p f w None l call.to counts (moved p.loops l call.to counts) stands lt kept (call_hops m p l call.to counts kept)
  where
    kept : Keeps p (record { from = l; to = call.to; edge = None })
    kept = keeps p f w (record { from = l; to = call.to; edge = None }) leads

-- ---- runs without calls

no_calls : (l : ℕ) (calls : List CallEdge) → length calls ≡ 0 → length (calls_from l calls) ≡ 0
no_calls l [] e = refl
no_calls l (call ∷ calls) e = absurd (omega (arith, e))

steps_end : (m : ℕ) (p : Parts) → IsFaultless p → IsWellMade p → length p.calls ≡ 0 → (n l : ℕ) (counts : Counts) (w : Valuation)
    → Stands m p l counts → HasValues p w → copies (suc m) p.loops p.locations ≤ come m p.loops l counts + n
    → run (control_of p (suc m)) n (at l counts) w ≡ None → ⊥
steps_end m p f made calls zero l counts w stands are le e =
    let x = comes_no_further p f made m l counts stands.counted stands.inside in absurd (omega (arith, x, le))
steps_end m p f made calls (suc n) l counts w stands are le e =
    step (end_at p l) (taken w (ways_by p.loops (suc m) l counts 0 p.edges))
    (λ a b. some_way p made (suc m) l counts w are stands.inside a (no_calls l p.calls calls) b)
    (taken_of (IsWayOn m p l counts) w (ways_by p.loops (suc m) l counts 0 p.edges) (ways_on m p f made l counts stands))
    (λ to next v on typed more. steps_end m p f made calls n to next v on.stands typed (left (copies (suc m) p.loops p.locations) (come m p.loops l counts) (come m p.loops to next) le on.further) more) e
  where
    left : (b c d : ℕ) → b ≤ c + suc n → suc c ≤ d → b ≤ d + n
    left b c d le further = omega (arith, le, further)

    step : (end : Option End) (way : Option (Way Spot)) → (end ≡ None → way ≡ None → ⊥) → IfSome way (IsWayOn m p l counts)
        → ((to : ℕ) (next : Counts) (v : Valuation) → IsOn m p l counts to next → HasValues p v
        → run (control_of p (suc m)) n (at to next) v ≡ None → ⊥)
        → ended_or end way w (λ way. run (control_of p (suc m)) n way.to (assigned way.sets w)) ≡ None → ⊥
    step (Some end) way never on go h = absurd (none-some (outcome_of end w) (sym h))
    step None None never on go h = never refl refl
    step None (Some way) never on go h = by way.to on.leads h
      where
        passed : (n : ℕ) (place : Place) (v : Valuation) → run (control_of p (suc m)) n (past place) v ≡ None → ⊥
        passed zero place v h = none-some (outcome_of (over place) v) (sym h)
        passed (suc n) place v h = none-some (outcome_of (over place) v) (sym h)

        by : (x : Spot) → Leads m p l counts x → run (control_of p (suc m)) n x (assigned way.sets w) ≡ None → ⊥
        by (past place) over_by h = passed n place (assigned way.sets w) h
        by (at to next) (on_to is) h =
            go to next (assigned way.sets w) is (assigned_typed (length p.vars) (types_of p) way.sets w on.sets are) h

starts_inside : (p : Parts) → IsFaultless p → 0 < p.locations
starts_inside p f =
    let ends = (and_parts (list_all (λ (edge : Edge). nat_lt edge.from p.locations && nat_lt edge.to p.locations) p.edges
    && list_all (λ (call : CallEdge). nat_lt call.from p.locations && nat_lt call.to p.locations) p.calls
    && list_all (λ (loop : Loop). nat_lt loop.first p.locations && nat_lt loop.last p.locations) p.loops) (has_ends p) f.locations).1 in
    let first = (and_parts (nat_lt p.done p.locations && list_all (λ (t : TrapEnd). nat_lt t.location p.locations) p.traps)
    (list_all (λ (o : OverEnd). nat_lt o.location p.locations) p.overs) ends).0 in
    let lt : p.done < p.locations = ltb-true p.done p.locations
    (and_parts (nat_lt p.done p.locations) (list_all (λ (t : TrapEnd). nat_lt t.location p.locations) p.traps) first).0 in
    omega (arith, lt)

pub starts : (m : ℕ) (p : Parts) → IsFaultless p → Stands m p 0 (entered p.loops 0)
starts m p f = record { inside = starts_inside p f; counted = begins m p.loops }

pub run_ends : (p : Parts) (n : ℕ) (w : Valuation) → IsFaultless p → IsWellMade p → IsInlined p n → HasValues p w
    → run (control_of p n) (copies n p.loops p.locations) (first_spot p) w ≢ None
run_ends p zero w f made is are e = absurd (omega (arith, is.1))
run_ends p (suc m) w f made is are e =
    steps_end m p f made is.0 (copies (suc m) p.loops p.locations) 0 (entered p.loops 0) w (starts m p f) are (omega arith) e

no_loops : (loops : List Loop) (y : ℕ) → length loops ≡ 0 → copies 1 loops y ≡ y
no_loops [] y e = copies_without 1 y
no_loops (loop ∷ loops) y e = absurd (omega (arith, e))

pub acyclic_ends : (p : Parts) (w : Valuation) → IsFaultless p → IsWellMade p → IsAcyclic p → HasValues p w
    → run (control_of p 1) p.locations (first_spot p) w ≢ None
acyclic_ends p w f made acyclic are =
    subst (λ (steps : ℕ). run (control_of p 1) steps (first_spot p) w ≢ None) (no_loops p.loops p.locations acyclic.loops)
    (run_ends p 1 w f made (acyclic.calls, omega arith) are)
