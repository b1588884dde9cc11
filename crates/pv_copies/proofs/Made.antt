-- The automaton of the copies has no fault, and is well made: its guards are those of the edges that are copied, and ends stand apart.
use Rattle.std.proofs.Common.{◌≡◌, ℕ, zero, suc, ◌+◌, ◌<◌, ◌≤◌, ◌⊎◌, inl, inr, List, [], ◌∷◌, ◌++◌, map, length, slice_get, Bool as Truth, true, false, not, ◌&&◌, ◌||◌, ◌==◌, nat_le, nat_lt, cond, Option, Some, None, IfSome, refl, sym, subst, ap, ◌∙◌, arith}
use Rattle.std.specs.List.{AllByRecursion, list_any, list_all}
use Rattle.std.proofs.lemmas.Bool.{false≢true, both_ways, lt-ltb, eqb-true, eq-eqb, cases_lt, and_parts, and_from, or_left, or_right, or_from, or_cases}
use Rattle.std.proofs.lemmas.Option.{same_Some, none-some}
use Rattle.std.proofs.lemmas.List.{length-map}
use Rattle.std.proofs.lemmas.List.Elements.{All-nil, All-from_recursion, recursion_from_All}
use Rattle.pv_place.specs.declared.place.Place.{Place}
use Rattle.pv_flow.specs.Terms.{Term, Valuation, holds_in}
use Rattle.pv_flow.specs.Automata.{Set, Edge, CallEdge, Loop, TrapEnd, OverEnd, Parts, types_of, edges_from, calls_from}
use Rattle.pv_flow.specs.Faults.{has_locations, has_variables, edge_below, IsFaultless}
use Rattle.pv_flow.specs.WellMade.{IsEdge, true_guards, is_end, OneIsTrue, are_different, leads_well, IsWellMade}
use Rattle.pv_flow.specs.Runs.{End, done, trap, over, Way, trap_at, over_at, or_else, end_at}
use Rattle.pv_copies.specs.Copies.{Copy, copy, beyond, target, exit_of_copy, ways_to}
use Rattle.pv_copies.specs.Unrolled.{CopiedEdge, copied_edges, copied, whole_text, text_size, place_in_text, numbered_by, traps_by, with_trap, with_over, edges_of, traps_of, overs_of, unrolled}
use Rattle.pv_copies.specs.Correct.{UnrolledIsWellMade}
use Rattle.pv_copies.proofs.Leading.{all_listed, listed_at, mapped}
use Rattle.pv_copies.proofs.Nesting.{loops_in_order}
use Rattle.pv_copies.proofs.Picking.{copy_bounds}
use Rattle.pv_copies.proofs.Forward.{ranges_of}
use Rattle.pv_copies.proofs.Whole.{text_is_numbered, text_has_places, text_is_long}
use Rattle.pv_copies.proofs.Numbers.{ways_at, ways_of_number, none_behind, IsText, stands_text, IsListed, AllListed, all_listed_in, ended_ways, any_behind, numbers_go_on_first}
use Rattle.pv_copies.proofs.Counting.{any_before, IsAhead, all_ahead, edges_ahead, all_append}

all_of : {X : Type 0} (f : X → Truth) (xs : List X) → AllByRecursion (λ x. f x ≡ true) xs → list_all f xs ≡ true
all_of f [] h = refl
all_of f (x ∷ xs) h = and_from (f x) (list_all f xs) h.0 (all_of f xs h.1)

-- ---- guards and sets

module _ (Q : Term → List Set → Type 0) where
  copied_keep : (n : ℕ) (loops : List Loop) (i e l : ℕ) (ks : List ℕ) (edges : List Edge)
      → AllByRecursion (λ (edge : Edge). Q edge.guard edge.sets) edges
      → AllByRecursion (λ (x : CopiedEdge). Q x.guard x.sets) (copied_edges n loops i e l ks edges)
  copied_keep n loops i e l ks [] all = tt
  copied_keep n loops i e l ks (edge ∷ edges) all = by (edge.from == l) (copied_keep n loops i (suc e) l ks edges all.1)
    where
      by : (b : Truth) → AllByRecursion (λ (x : CopiedEdge). Q x.guard x.sets) (copied_edges n loops i (suc e) l ks edges)
          → AllByRecursion (λ (x : CopiedEdge). Q x.guard x.sets) (cond b
          (record { from = i; to = target n loops e l edge.to ks; guard = edge.guard; sets = edge.sets } ∷ copied_edges n loops i (suc e) l ks edges)
          (copied_edges n loops i (suc e) l ks edges))
      by true h = (all.0, h)
      by false h = h

  all_keep : (p : Parts) (n i : ℕ) (cs : List Copy) → AllByRecursion (λ (edge : Edge). Q edge.guard edge.sets) p.edges
      → AllByRecursion (λ (x : CopiedEdge). Q x.guard x.sets) (copied p n i cs)
  all_keep p n i [] all = tt
  all_keep p n i (copy l ks ∷ cs) all = all_append (λ (x : CopiedEdge). Q x.guard x.sets) (copied_edges n p.loops i 0 l ks p.edges) (copied p n (suc i) cs)
      (copied_keep n p.loops i 0 l ks p.edges all) (all_keep p n (suc i) cs all)
  all_keep p n i (beyond loop ks ∷ cs) all = all_keep p n (suc i) cs all

  edges_keep : (p : Parts) (n t : ℕ) (xs : List CopiedEdge) → AllByRecursion (λ (x : CopiedEdge). Q x.guard x.sets) xs
      → AllByRecursion (λ (edge : Edge). Q edge.guard edge.sets) (edges_of p n t xs)
  edges_keep p n t [] all = tt
  edges_keep p n t (x ∷ xs) all = (all.0, edges_keep p n (traps_by (exit_of_copy p x.to) t) xs all.1)

-- ---- the guards of one number

abbrev guards_of : List Edge → List Term
guards_of edges = map (λ (edge : Edge). edge.guard) edges

abbrev way_guards : List (Way Copy) → List Term
way_guards ways = map (λ (way : Way Copy). way.guard) ways

guards_along : (p : Parts) (n i t : ℕ) (xs : List CopiedEdge) → guards_of (edges_from i (edges_of p n t xs)) ≡ way_guards (ways_at i xs)
guards_along p n i t [] = refl
guards_along p n i t (x ∷ xs) = by (x.from == i) (guards_along p n i (traps_by (exit_of_copy p x.to) t) xs)
  where
    by : (b : Truth) → guards_of (edges_from i (edges_of p n (traps_by (exit_of_copy p x.to) t) xs)) ≡ way_guards (ways_at i xs)
        → guards_of (cond b
        (record {
          from = x.from;
          to = numbered_by (exit_of_copy p x.to) (text_size p n) t (place_in_text p n x.to);
          guard = x.guard;
          sets = x.sets;
        } ∷ edges_from i (edges_of p n (traps_by (exit_of_copy p x.to) t) xs))
        (edges_from i (edges_of p n (traps_by (exit_of_copy p x.to) t) xs)))
        ≡ way_guards (cond b (record { guard = x.guard; sets = x.sets; to = x.to } ∷ ways_at i xs) (ways_at i xs))
    by true h = ap (λ (ts : List Term). x.guard ∷ ts) h
    by false h = h

own_guards : (n : ℕ) (loops : List Loop) (e l : ℕ) (ks : List ℕ) (edges : List Edge)
    → way_guards (ways_to n loops e l ks edges) ≡ guards_of (edges_from l edges)
own_guards n loops e l ks [] = refl
own_guards n loops e l ks (edge ∷ edges) = by (edge.from == l) (own_guards n loops (suc e) l ks edges)
  where
    by : (b : Truth) → way_guards (ways_to n loops (suc e) l ks edges) ≡ guards_of (edges_from l edges)
        → way_guards (cond b
        (record { guard = edge.guard; sets = edge.sets; to = target n loops e l edge.to ks } ∷ ways_to n loops (suc e) l ks edges)
        (ways_to n loops (suc e) l ks edges))
        ≡ guards_of (cond b (edge ∷ edges_from l edges) (edges_from l edges))
    by true h = ap (λ (ts : List Term). edge.guard ∷ ts) h
    by false h = h

abbrev true_terms : Valuation → List Term → ℕ
true_terms w [] = 0
true_terms w (t ∷ ts) = cond (holds_in w t) (1 + true_terms w ts) (true_terms w ts)

guards_counted : (w : Valuation) (edges : List Edge) → true_guards w edges ≡ true_terms w (guards_of edges)
guards_counted w [] = refl
guards_counted w (edge ∷ edges) = ap (λ (m : ℕ). cond (holds_in w edge.guard) (1 + m) m) (guards_counted w edges)

as_long : (xs ys : List Edge) → guards_of xs ≡ guards_of ys → length xs ≡ length ys
as_long xs ys e = sym (length-map xs (λ (edge : Edge). edge.guard)) ∙ ap (λ (ts : List Term). length ts) e ∙ length-map ys (λ (edge : Edge). edge.guard)

as_true : (w : Valuation) (xs ys : List Edge) → guards_of xs ≡ guards_of ys → true_guards w xs ≡ true_guards w ys
as_true w xs ys e = guards_counted w xs ∙ ap (true_terms w) e ∙ sym (guards_counted w ys)

-- what begins at a number: nothing, or what begins at the location of the copy that stands there
abbrev Begins : Parts → ℕ → ℕ → Option Copy → Type 0
Begins p n i None = guards_of (edges_from i (unrolled p n).edges) ≡ []
Begins p n i (Some (copy l ks)) = guards_of (edges_from i (unrolled p n).edges) ≡ guards_of (edges_from l p.edges)
Begins p n i (Some (beyond loop ks)) = guards_of (edges_from i (unrolled p n).edges) ≡ []

none_past : {X : Type 0} (xs : List X) (i : ℕ) → slice_get xs i ≡ None → length xs ≤ i
none_past [] i e = omega arith
none_past (x ∷ xs) zero e = absurd (none-some x (sym e))
none_past (x ∷ xs) (suc i) e = let rest = none_past xs i e in omega (arith, rest)

begins : (p : Parts) (n i : ℕ) (o : Option Copy) → slice_get (whole_text p n) i ≡ o → Begins p n i o
begins p n i None e = guards_along p n i 0 (copied p n 0 (whole_text p n))
    ∙ ap way_guards (none_behind p n 0 i (whole_text p n) (from_none (none_past (whole_text p n) i e)))
  where
    from_none : length (whole_text p n) ≤ i → 0 + length (whole_text p n) ≤ i
    from_none le = omega (arith, le)
begins p n i (Some (copy l ks)) e = guards_along p n i 0 (copied p n 0 (whole_text p n))
    ∙ ap way_guards (ways_of_number p n 0 i i (whole_text p n) (copy l ks) (omega arith) e)
    ∙ own_guards n p.loops 0 l ks p.edges
begins p n i (Some (beyond loop ks)) e = guards_along p n i 0 (copied p n 0 (whole_text p n))
    ∙ ap way_guards (ways_of_number p n 0 i i (whole_text p n) (beyond loop ks) (omega arith) e)

no_edges_of : (p : Parts) (n i : ℕ) → guards_of (edges_from i (unrolled p n).edges) ≡ [] → length (edges_from i (unrolled p n).edges) ≡ 0
no_edges_of p n i e = as_long (edges_from i (unrolled p n).edges) [] e

one_is_true : (p : Parts) (n : ℕ) → IsWellMade p → OneIsTrue (unrolled p n)
one_is_true p n w i v are some = by (slice_get (whole_text p n) i) (begins p n i (slice_get (whole_text p n) i) refl)
  where
    none : guards_of (edges_from i (unrolled p n).edges) ≡ [] → true_guards v (edges_from i (unrolled p n).edges) ≡ 1
    none e = absurd (omega (arith, some, no_edges_of p n i e))

    by : (o : Option Copy) → Begins p n i o → true_guards v (edges_from i (unrolled p n).edges) ≡ 1
    by None h = none h
    by (Some (beyond loop ks)) h = none h
    by (Some (copy l ks)) h = as_true v (edges_from i (unrolled p n).edges) (edges_from l p.edges) h
        ∙ w.guards l v are (subst (λ (m : ℕ). 0 < m) (as_long (edges_from i (unrolled p n).edges) (edges_from l p.edges) h) some)

-- ---- ends

-- locations of traps follow one another behind where a scan is done
abbrev trap_locations : List TrapEnd → List ℕ
trap_locations traps = map (λ (end : TrapEnd). end.location) traps

abbrev over_locations : List OverEnd → List ℕ
over_locations overs = map (λ (end : OverEnd). end.location) overs

traps_behind : (p : Parts) (n t : ℕ) (xs : List CopiedEdge) → AllByRecursion (λ (m : ℕ). text_size p n + t < m) (trap_locations (traps_of p n t xs))
traps_behind p n t [] = tt
traps_behind p n t (x ∷ xs) = by (exit_of_copy p x.to) (λ u. traps_behind p n u xs)
  where
    later : (m : ℕ) → text_size p n + suc t < m → text_size p n + t < m
    later m lt = omega (arith, lt)

    by : (e : Option End) → ((u : ℕ) → AllByRecursion (λ (m : ℕ). text_size p n + u < m) (trap_locations (traps_of p n u xs)))
        → AllByRecursion (λ (m : ℕ). text_size p n + t < m) (trap_locations (with_trap e (text_size p n + suc t) (traps_of p n (traps_by e t) xs)))
    by None go = go t
    by (Some done) go = go t
    by (Some (over place)) go = go t
    by (Some (trap kind place)) go = (
      omega arith,
      mapped (λ (m : ℕ). text_size p n + suc t < m) (λ (m : ℕ). text_size p n + t < m)
          (trap_locations (traps_of p n (suc t) xs)) later (go (suc t)),
    )

-- and each number up to the last is one
traps_reach : (p : Parts) (n t : ℕ) (xs : List CopiedEdge) (m : ℕ) → text_size p n + t < m → m ≤ text_size p n + t + length (traps_of p n t xs)
    → list_any (λ (end : ℕ). end == m) (trap_locations (traps_of p n t xs)) ≡ true
traps_reach p n t [] m low high = absurd (omega (arith, low, high))
traps_reach p n t (x ∷ xs) m low high = by (exit_of_copy p x.to) high (λ u. traps_reach p n u xs m)
  where
    by : (e : Option End) → m ≤ text_size p n + t + length (with_trap e (text_size p n + suc t) (traps_of p n (traps_by e t) xs))
        → ((u : ℕ) → text_size p n + u < m → m ≤ text_size p n + u + length (traps_of p n u xs)
        → list_any (λ (end : ℕ). end == m) (trap_locations (traps_of p n u xs)) ≡ true)
        → list_any (λ (end : ℕ). end == m) (trap_locations (with_trap e (text_size p n + suc t) (traps_of p n (traps_by e t) xs))) ≡ true
    by None high go = go t low high
    by (Some done) high go = go t low high
    by (Some (over place)) high go = go t low high
    by (Some (trap kind place)) high go = at_or_later (cases_lt (text_size p n + suc t) m)
      where
        at_or_later : (text_size p n + suc t < m) ⊎ (m ≤ text_size p n + suc t)
            → ((text_size p n + suc t == m) || list_any (λ (end : ℕ). end == m) (trap_locations (traps_of p n (suc t) xs))) ≡ true
        at_or_later (inl lt) = or_right (text_size p n + suc t == m) (list_any (λ (end : ℕ). end == m) (trap_locations (traps_of p n (suc t) xs)))
            (go (suc t) lt (omega (arith, high)))
        at_or_later (inr le) = or_left (text_size p n + suc t == m) (list_any (λ (end : ℕ). end == m) (trap_locations (traps_of p n (suc t) xs)))
            (eq-eqb (text_size p n + suc t) m (omega (arith, le, low)))

overs_within : (p : Parts) (k : ℕ) (cs : List Copy) → AllByRecursion (λ (m : ℕ). (k ≤ m) × (m < k + length cs)) (over_locations (overs_of p k cs))
overs_within p k [] = tt
overs_within p k (c ∷ cs) = by (exit_of_copy p c) (mapped (λ (m : ℕ). (suc k ≤ m) × (m < suc k + length cs)) (λ (m : ℕ). (k ≤ m) × (m < k + suc (length cs)))
    (over_locations (overs_of p (suc k) cs)) (λ m h. (omega (arith, h.0), omega (arith, h.1))) (overs_within p (suc k) cs))
  where
    by : (e : Option End) → AllByRecursion (λ (m : ℕ). (k ≤ m) × (m < k + suc (length cs))) (over_locations (overs_of p (suc k) cs))
        → AllByRecursion (λ (m : ℕ). (k ≤ m) × (m < k + suc (length cs))) (over_locations (with_over e k (overs_of p (suc k) cs)))
    by None h = h
    by (Some done) h = h
    by (Some (trap kind place)) h = h
    by (Some (over place)) h = ((omega arith, omega arith), h)

-- where a bound is gone over, a copy stands that ends so
record FoundOver (p : Parts) (k m : ℕ) (cs : List Copy) : Type 0 where
  number : ℕ
  element : Copy
  place : Place
  is_at : m ≡ k + number
  stands : slice_get cs number ≡ Some element
  ends : exit_of_copy p element ≡ Some (over place)

over_found : (p : Parts) (k m : ℕ) (cs : List Copy) → list_any (λ (end : ℕ). end == m) (over_locations (overs_of p k cs)) ≡ true → FoundOver p k m cs
over_found p k m [] any = absurd (false≢true any)
over_found p k m (c ∷ cs) any = by (exit_of_copy p c) refl any (λ g. over_found p (suc k) m cs g)
  where
    further : FoundOver p (suc k) m cs → FoundOver p k m (c ∷ cs)
    further it = record {
      number = suc it.number;
      element = it.element;
      place = it.place;
      is_at = omega (arith, it.is_at);
      stands = it.stands;
      ends = it.ends;
    }

    by : (e : Option End) → exit_of_copy p c ≡ e
        → list_any (λ (end : ℕ). end == m) (over_locations (with_over e k (overs_of p (suc k) cs))) ≡ true
        → (list_any (λ (end : ℕ). end == m) (over_locations (overs_of p (suc k) cs)) ≡ true → FoundOver p (suc k) m cs) → FoundOver p k m (c ∷ cs)
    by None x g go = further (go g)
    by (Some done) x g go = further (go g)
    by (Some (trap kind at_place)) x g go = further (go g)
    by (Some (over at_place)) x g go = here_or_later (or_cases (k == m) (list_any (λ (end : ℕ). end == m) (over_locations (overs_of p (suc k) cs))) g)
      where
        here_or_later : ((k == m) ≡ true) ⊎ (list_any (λ (end : ℕ). end == m) (over_locations (overs_of p (suc k) cs)) ≡ true) → FoundOver p k m (c ∷ cs)
        here_or_later (inl same) = record {
          number = 0;
          element = c;
          place = at_place;
          is_at = first (eqb-true k m same);
          stands = refl;
          ends = x;
        }
          where
            first : k ≡ m → m ≡ k + 0
            first e = omega (arith, e)
        here_or_later (inr later) = further (go later)

any_either : (f : ℕ → Truth) (xs ys : List ℕ) → list_any f (xs ++ ys) ≡ true → (list_any f xs ≡ true) ⊎ (list_any f ys ≡ true)
any_either f [] ys h = inr h
any_either f (x ∷ xs) ys h = by (or_cases (f x) (list_any f (xs ++ ys)) h) (λ g. any_either f xs ys g)
  where
    by : (f x ≡ true) ⊎ (list_any f (xs ++ ys) ≡ true)
        → (list_any f (xs ++ ys) ≡ true → (list_any f xs ≡ true) ⊎ (list_any f ys ≡ true)) → ((f x || list_any f xs) ≡ true) ⊎ (list_any f ys ≡ true)
    by (inl e) go = inl (or_left (f x) (list_any f xs) e)
    by (inr g) go = later (go g)
      where
        later : (list_any f xs ≡ true) ⊎ (list_any f ys ≡ true) → ((f x || list_any f xs) ≡ true) ⊎ (list_any f ys ≡ true)
        later (inl a) = inl (or_right (f x) (list_any f xs) a)
        later (inr b) = inr b

-- one of these is m, so what is so of all is so of it
any_is : (P : ℕ → Type 0) (m : ℕ) (xs : List ℕ) → AllByRecursion P xs → list_any (λ (x : ℕ). x == m) xs ≡ true → P m
any_is P m [] all any = absurd (false≢true any)
any_is P m (x ∷ xs) all any = by (or_cases (x == m) (list_any (λ (y : ℕ). y == m) xs) any) (λ g. any_is P m xs all.1 g)
  where
    by : ((x == m) ≡ true) ⊎ (list_any (λ (y : ℕ). y == m) xs ≡ true) → (list_any (λ (y : ℕ). y == m) xs ≡ true → P m) → P m
    by (inl same) go = subst P (eqb-true x m same) all.0
    by (inr g) go = go g

none_is : (P : ℕ → Type 0) (m : ℕ) (xs : List ℕ) → AllByRecursion P xs → (P m → ⊥) → list_any (λ (x : ℕ). x == m) xs ≡ false
none_is P m xs all never = by (list_any (λ (x : ℕ). x == m) xs) refl
  where
    by : (b : Truth) → list_any (λ (x : ℕ). x == m) xs ≡ b → list_any (λ (x : ℕ). x == m) xs ≡ false
    by true e = absurd (never (any_is P m xs all e))
    by false e = e

abbrev traps_made : Parts → ℕ → List TrapEnd
traps_made p n = traps_of p n 0 (copied p n 0 (whole_text p n))

abbrev overs_made : Parts → ℕ → List OverEnd
overs_made p n = overs_of p 0 (whole_text p n)

-- at an end no edge begins
end_begins : (p : Parts) (n : ℕ) → IsFaultless p → IsWellMade p → (i : ℕ) → is_end (unrolled p n) i ≡ true
    → guards_of (edges_from i (unrolled p n).edges) ≡ []
end_begins p n f w i end =
    guards_along p n i 0 (copied p n 0 (whole_text p n)) ∙ ap way_guards (none (or_cases (text_size p n == i)
    (list_any (λ (end : ℕ). end == i) (trap_locations (traps_made p n) ++ over_locations (overs_made p n))) end))
  where
    past : text_size p n ≤ i → ways_at i (copied p n 0 (whole_text p n)) ≡ []
    past le = none_behind p n 0 i (whole_text p n) (omega (arith, le, text_is_long p n f w))

    of_over : FoundOver p 0 i (whole_text p n) → ways_at i (copied p n 0 (whole_text p n)) ≡ []
    of_over it = ways_of_number p n 0 it.number i (whole_text p n) it.element it.is_at it.stands ∙ ended_ways p n w it.element (over it.place) it.ends

    behind : text_size p n + 0 < i → text_size p n ≤ i
    behind lt = omega (arith, lt)

    either : (list_any (λ (end : ℕ). end == i) (trap_locations (traps_made p n)) ≡ true)
        ⊎ (list_any (λ (end : ℕ). end == i) (over_locations (overs_made p n)) ≡ true) → ways_at i (copied p n 0 (whole_text p n)) ≡ []
    either (inl trapped) = past (behind (any_is (λ (m : ℕ). text_size p n + 0 < m) i (trap_locations (traps_made p n))
        (traps_behind p n 0 (copied p n 0 (whole_text p n))) trapped))
    either (inr gone) = of_over (over_found p 0 i (whole_text p n) gone)

    none : ((text_size p n == i) ≡ true)
        ⊎ (list_any (λ (end : ℕ). end == i) (trap_locations (traps_made p n) ++ over_locations (overs_made p n)) ≡ true)
        → ways_at i (copied p n 0 (whole_text p n)) ≡ []
    none (inl same) = past (le_of (eqb-true (text_size p n) i same))
      where
        le_of : text_size p n ≡ i → text_size p n ≤ i
        le_of e = omega (arith, e)
    none (inr any) = either (any_either (λ (end : ℕ). end == i) (trap_locations (traps_made p n)) (over_locations (overs_made p n)) any)

-- a copy that ends by what is gone over is an end
over_is_end : (p : Parts) (k j i : ℕ) (cs : List Copy) (c : Copy) (place : Place) → i ≡ k + j → slice_get cs j ≡ Some c
    → exit_of_copy p c ≡ Some (over place) → list_any (λ (end : ℕ). end == i) (over_locations (overs_of p k cs)) ≡ true
over_is_end p k j i [] c place e g x = absurd (none-some c g)
over_is_end p k zero i (d ∷ cs) c place e g x =
    ap (λ (o : Option End). list_any (λ (end : ℕ). end == i) (over_locations (with_over o k (overs_of p (suc k) cs))))
    (ap (λ (y : Copy). exit_of_copy p y) (same_Some d c g) ∙ x)
    ∙ or_left (k == i) (list_any (λ (end : ℕ). end == i) (over_locations (overs_of p (suc k) cs))) (eq-eqb k i (first e))
  where
    first : i ≡ k + 0 → k ≡ i
    first e = omega (arith, e)
over_is_end p k (suc j) i (d ∷ cs) c place e g x = by (exit_of_copy p d) (over_is_end p (suc k) j i cs c place (omega (arith, e)) g x)
  where
    by : (o : Option End) → list_any (λ (end : ℕ). end == i) (over_locations (overs_of p (suc k) cs)) ≡ true
        → list_any (λ (end : ℕ). end == i) (over_locations (with_over o k (overs_of p (suc k) cs))) ≡ true
    by None h = h
    by (Some done) h = h
    by (Some (trap kind at_place)) h = h
    by (Some (over at_place)) h = or_right (k == i) (list_any (λ (end : ℕ). end == i) (over_locations (overs_of p (suc k) cs))) h

-- an end of the automaton ends a run
no_end_there : (p : Parts) (l : ℕ) → end_at p l ≡ None → is_end p l ≡ false
no_end_there p l h = or_from (p.done == l) (list_any (λ (end : ℕ). end == l) (trap_locations p.traps ++ over_locations p.overs)) not_done
    (rest p.traps (ap (λ (t : Truth). cond t (Some done) (or_else (trap_at l p.traps) (over_at l p.overs))) (sym not_done) ∙ h))
  where
    not_done : (p.done == l) ≡ false
    not_done = by (p.done == l) refl
      where
        by : (b : Truth) → (p.done == l) ≡ b → (p.done == l) ≡ false
        by false e = e
        by true e = absurd (none-some done (sym h ∙ ap (λ (t : Truth). cond t (Some done) (or_else (trap_at l p.traps) (over_at l p.overs))) e))

    overs_off : (overs : List OverEnd) → over_at l overs ≡ None → list_any (λ (end : ℕ). end == l) (over_locations overs) ≡ false
    overs_off [] g = refl
    overs_off (end ∷ overs) g = by (end.location == l) refl (λ k. overs_off overs k)
      where
        by : (b : Truth) → (end.location == l) ≡ b
            → (over_at l overs ≡ None → list_any (λ (other : ℕ). other == l) (over_locations overs) ≡ false)
            → ((end.location == l) || list_any (λ (other : ℕ). other == l) (over_locations overs)) ≡ false
        by true e go = absurd (none-some (over end.place) (sym g ∙ ap (λ (t : Truth). cond t (Some (over end.place)) (over_at l overs)) e))
        by false e go = or_from (end.location == l) (list_any (λ (other : ℕ). other == l) (over_locations overs)) e
            (go (sym (ap (λ (t : Truth). cond t (Some (over end.place)) (over_at l overs)) e) ∙ g))

    rest : (traps : List TrapEnd) → or_else (trap_at l traps) (over_at l p.overs) ≡ None
        → list_any (λ (end : ℕ). end == l) (trap_locations traps ++ over_locations p.overs) ≡ false
    rest [] g = overs_off p.overs g
    rest (end ∷ traps) g = by (end.location == l) refl (λ k. rest traps k)
      where
        by : (b : Truth) → (end.location == l) ≡ b
            → (or_else (trap_at l traps) (over_at l p.overs) ≡ None → list_any (λ (other : ℕ). other == l) (trap_locations traps ++ over_locations p.overs) ≡ false)
            → ((end.location == l) || list_any (λ (other : ℕ). other == l) (trap_locations traps ++ over_locations p.overs)) ≡ false
        by true e go = absurd (none-some (trap end.kind end.place) (sym g
            ∙ ap (λ (t : Truth). or_else (cond t (Some (trap end.kind end.place)) (trap_at l traps)) (over_at l p.overs)) e))
        by false e go = or_from (end.location == l) (list_any (λ (other : ℕ). other == l) (trap_locations traps ++ over_locations p.overs)) e
            (go (sym (ap (λ (t : Truth). or_else (cond t (Some (trap end.kind end.place)) (trap_at l traps)) (over_at l p.overs)) e) ∙ g))

calls_none : (m : ℕ) (calls : List CallEdge) → length calls ≡ 0 → length (calls_from m calls) ≡ 0
calls_none m [] e = refl
calls_none m (call ∷ calls) e = absurd (omega (arith, e))

-- every other number has an edge
other_begins : (p : Parts) (n : ℕ) → IsFaultless p → IsWellMade p → 0 < n → length p.calls ≡ 0 → (i : ℕ)
    → i < text_size p n + suc (length (traps_made p n)) → is_end (unrolled p n) i ≡ false → 0 < length (edges_from i (unrolled p n).edges)
other_begins p n f w some calls i lt off = by (cases_lt i (text_size p n))
  where
    not_over : (c : Copy) (place : Place) → slice_get (whole_text p n) i ≡ Some c → exit_of_copy p c ≡ Some (over place) → ⊥
    not_over c place at_i x = both_ways (is_end (unrolled p n) i) off
        (or_right (text_size p n == i) (list_any (λ (end : ℕ). end == i) (trap_locations (traps_made p n) ++ over_locations (overs_made p n)))
        (any_behind (λ (end : ℕ). end == i) (trap_locations (traps_made p n)) (over_locations (overs_made p n))
        (over_is_end p 0 i i (whole_text p n) c place (omega arith) at_i x)))

    of_copy : (m : ℕ) (ks : List ℕ) → slice_get (whole_text p n) i ≡ Some (copy m ks) → (o : Option End) → end_at p m ≡ o
        → 0 < length (edges_from i (unrolled p n).edges)
    of_copy m ks at_i None x =
        let is = text_has_places p n i (copy m ks) f w some at_i in
        let inside = copy_bounds n p.loops 0 p.locations (copy m ks) (ranges_of p.loops (loops_in_order p f w)) is.0 in
        let has = w.others m inside.1 (no_end_there p m x) in
        let same = as_long (edges_from i (unrolled p n).edges) (edges_from m p.edges) (begins p n i (Some (copy m ks)) at_i) in
        omega (arith, has, same, calls_none m p.calls calls)
    of_copy m ks at_i (Some done) x = absurd (subst IsText x (stands_text p m (text_has_places p n i (copy m ks) f w some at_i).2))
    of_copy m ks at_i (Some (trap kind place)) x = absurd (subst IsText x (stands_text p m (text_has_places p n i (copy m ks) f w some at_i).2))
    of_copy m ks at_i (Some (over place)) x = absurd (not_over (copy m ks) place at_i x)

    in_text : i < text_size p n → (o : Option Copy) → slice_get (whole_text p n) i ≡ o → 0 < length (edges_from i (unrolled p n).edges)
    in_text short None e = let long = none_past (whole_text p n) i e in absurd (omega (arith, long, short, text_is_long p n f w))
    in_text short (Some (beyond loop ks)) e = absurd (not_over (beyond loop ks) loop.place e refl)
    in_text short (Some (copy m ks)) e = of_copy m ks e (end_at p m) refl

    end_here : text_size p n ≤ i → is_end (unrolled p n) i ≡ true
    end_here le = at_or_behind (cases_lt (text_size p n) i)
      where
        at_or_behind : (text_size p n < i) ⊎ (i ≤ text_size p n) → is_end (unrolled p n) i ≡ true
        at_or_behind (inl more) = or_right (text_size p n == i)
            (list_any (λ (end : ℕ). end == i) (trap_locations (traps_made p n) ++ over_locations (overs_made p n)))
            (any_before (λ (end : ℕ). end == i) (trap_locations (traps_made p n)) (over_locations (overs_made p n))
            (traps_reach p n 0 (copied p n 0 (whole_text p n)) i (omega (arith, more)) (omega (arith, lt))))
        at_or_behind (inr less) = or_left (text_size p n == i)
            (list_any (λ (end : ℕ). end == i) (trap_locations (traps_made p n) ++ over_locations (overs_made p n)))
            (eq-eqb (text_size p n) i (omega (arith, le, less)))

    by : (i < text_size p n) ⊎ (text_size p n ≤ i) → 0 < length (edges_from i (unrolled p n).edges)
    by (inl short) = in_text short (slice_get (whole_text p n) i) refl
    by (inr le) = absurd (both_ways (is_end (unrolled p n) i) off (end_here le))

-- ---- ends are different ones

apart_from : (P : ℕ → Type 0) (m : ℕ) (xs : List ℕ) → AllByRecursion P xs → (P m → ⊥) → are_different xs ≡ true → are_different (m ∷ xs) ≡ true
apart_from P m xs all never rest = and_from (not (list_any (λ (x : ℕ). x == m) xs)) (are_different xs) (ap not (none_is P m xs all never)) rest

overs_differ : (p : Parts) (k : ℕ) (cs : List Copy) → are_different (over_locations (overs_of p k cs)) ≡ true
overs_differ p k [] = refl
overs_differ p k (c ∷ cs) = by (exit_of_copy p c) (overs_differ p (suc k) cs)
  where
    never : (suc k ≤ k) × (k < suc k + length cs) → ⊥
    never h = omega (arith, h.0)

    by : (e : Option End) → are_different (over_locations (overs_of p (suc k) cs)) ≡ true
        → are_different (over_locations (with_over e k (overs_of p (suc k) cs))) ≡ true
    by None h = h
    by (Some done) h = h
    by (Some (trap kind place)) h = h
    by (Some (over place)) h = apart_from (λ (m : ℕ). (suc k ≤ m) × (m < suc k + length cs)) k (over_locations (overs_of p (suc k) cs))
        (overs_within p (suc k) cs) never h

-- behind m, or in the text
abbrev IsBeside : Parts → ℕ → ℕ → ℕ → Type 0
IsBeside p n m l = (m < l) ⊎ (l < text_size p n)

traps_differ : (p : Parts) (n t : ℕ) (xs : List CopiedEdge) (os : List ℕ) → AllByRecursion (λ (m : ℕ). m < text_size p n) os → are_different os ≡ true
    → are_different (trap_locations (traps_of p n t xs) ++ os) ≡ true
traps_differ p n t [] os below differ = differ
traps_differ p n t (x ∷ xs) os below differ = by (exit_of_copy p x.to) (λ u. traps_differ p n u xs os below differ)
  where
    never : IsBeside p n (text_size p n + suc t) (text_size p n + suc t) → ⊥
    never (inl h) = omega (arith, h)
    never (inr h) = omega (arith, h)

    by : (e : Option End) → ((u : ℕ) → are_different (trap_locations (traps_of p n u xs) ++ os) ≡ true)
        → are_different (trap_locations (with_trap e (text_size p n + suc t) (traps_of p n (traps_by e t) xs)) ++ os) ≡ true
    by None go = go t
    by (Some done) go = go t
    by (Some (over place)) go = go t
    by (Some (trap kind place)) go =
        apart_from (IsBeside p n (text_size p n + suc t)) (text_size p n + suc t) (trap_locations (traps_of p n (suc t) xs) ++ os)
        (all_append (IsBeside p n (text_size p n + suc t)) (trap_locations (traps_of p n (suc t) xs)) os
        (mapped (λ (m : ℕ). text_size p n + suc t < m) (IsBeside p n (text_size p n + suc t)) (trap_locations (traps_of p n (suc t) xs)) (λ m h. inl h)
        (traps_behind p n (suc t) xs))
        (mapped (λ (m : ℕ). m < text_size p n) (IsBeside p n (text_size p n + suc t)) os (λ m h. inr h) below))
        never (go (suc t))

overs_below : (p : Parts) (n : ℕ) → IsFaultless p → IsWellMade p → AllByRecursion (λ (m : ℕ). m < text_size p n) (over_locations (overs_made p n))
overs_below p n f w = mapped (λ (m : ℕ). (0 ≤ m) × (m < 0 + length (whole_text p n))) (λ (m : ℕ). m < text_size p n) (over_locations (overs_made p n))
    (λ m h. omega (arith, h.1, text_is_long p n f w)) (overs_within p 0 (whole_text p n))

ends_differ : (p : Parts) (n : ℕ) → IsFaultless p → IsWellMade p
    → are_different (text_size p n ∷ (trap_locations (traps_made p n) ++ over_locations (overs_made p n))) ≡ true
ends_differ p n f w = apart_from (IsBeside p n (text_size p n)) (text_size p n) (trap_locations (traps_made p n) ++ over_locations (overs_made p n))
    (all_append (IsBeside p n (text_size p n)) (trap_locations (traps_made p n)) (over_locations (overs_made p n))
    (mapped (λ (m : ℕ). text_size p n + 0 < m) (IsBeside p n (text_size p n)) (trap_locations (traps_made p n)) (λ m h. inl (omega (arith, h)))
    (traps_behind p n 0 (copied p n 0 (whole_text p n))))
    (mapped (λ (m : ℕ). m < text_size p n) (IsBeside p n (text_size p n)) (over_locations (overs_made p n)) (λ m h. inr h) (overs_below p n f w)))
    never
    (traps_differ p n 0 (copied p n 0 (whole_text p n)) (over_locations (overs_made p n)) (overs_below p n f w) (overs_differ p 0 (whole_text p n)))
  where
    never : IsBeside p n (text_size p n) (text_size p n) → ⊥
    never (inl h) = omega (arith, h)
    never (inr h) = omega (arith, h)

-- ---- no fault

abbrev Lies : ℕ → Edge → Type 0
Lies locations edge = (nat_lt edge.from locations && nat_lt edge.to locations) ≡ true

number_lies : (p : Parts) (n k t : ℕ) (c : Copy) (xs : List CopiedEdge) (e : Option End) → IsListed p n c e
    → t + length (with_trap e (text_size p n + suc t) (traps_of p n (traps_by e t) xs)) ≤ k
    → (numbered_by e (text_size p n) t (place_in_text p n c) < text_size p n + suc k)
    × (traps_by e t + length (traps_of p n (traps_by e t) xs) ≤ k)
number_lies p n k t c xs None h le = (omega (arith, h.1), le)
number_lies p n k t c xs (Some done) h le = (omega arith, le)
number_lies p n k t c xs (Some (trap kind place)) h le = (omega (arith, le), omega (arith, le))
number_lies p n k t c xs (Some (over place)) h le = (omega (arith, h.1), le)

edges_lie_in : (p : Parts) (n k t : ℕ) (xs : List CopiedEdge) → AllListed p n xs → AllByRecursion (IsAhead p n) xs
    → t + length (traps_of p n t xs) ≤ k → AllByRecursion (Lies (text_size p n + suc k)) (edges_of p n t xs)
edges_lie_in p n k t [] listed ahead le = tt
edges_lie_in p n k t (x ∷ xs) listed ahead le =
    let both = number_lies p n k t x.to xs (exit_of_copy p x.to) listed.0 le in (
      and_from (nat_lt x.from (text_size p n + suc k))
          (nat_lt (numbered_by (exit_of_copy p x.to) (text_size p n) t (place_in_text p n x.to)) (text_size p n + suc k))
          (lt-ltb x.from (text_size p n + suc k) (further (ahead.0).0))
          (lt-ltb (numbered_by (exit_of_copy p x.to) (text_size p n) t (place_in_text p n x.to)) (text_size p n + suc k) both.0),
      edges_lie_in p n k (traps_by (exit_of_copy p x.to) t) xs listed.1 ahead.1 both.1,
    )
  where
    further : x.from < text_size p n → x.from < text_size p n + suc k
    further lt = omega (arith, lt)

traps_lie_in : (p : Parts) (n k t : ℕ) (xs : List CopiedEdge) → t + length (traps_of p n t xs) ≤ k
    → AllByRecursion (λ (end : TrapEnd). nat_lt end.location (text_size p n + suc k) ≡ true) (traps_of p n t xs)
traps_lie_in p n k t [] le = tt
traps_lie_in p n k t (x ∷ xs) le = by (exit_of_copy p x.to) le (λ u h. traps_lie_in p n k u xs h)
  where
    by : (e : Option End) → t + length (with_trap e (text_size p n + suc t) (traps_of p n (traps_by e t) xs)) ≤ k
        → ((u : ℕ) → u + length (traps_of p n u xs) ≤ k
        → AllByRecursion (λ (end : TrapEnd). nat_lt end.location (text_size p n + suc k) ≡ true) (traps_of p n u xs))
        → AllByRecursion (λ (end : TrapEnd). nat_lt end.location (text_size p n + suc k) ≡ true)
        (with_trap e (text_size p n + suc t) (traps_of p n (traps_by e t) xs))
    by None le go = go t le
    by (Some done) le go = go t le
    by (Some (over place)) le go = go t le
    by (Some (trap kind place)) le go = (lt-ltb (text_size p n + suc t) (text_size p n + suc k) (omega (arith, le)), go (suc t) (omega (arith, le)))

overs_lie_in : (l : ℕ) (overs : List OverEnd) → AllByRecursion (λ (m : ℕ). m < l) (over_locations overs)
    → (k : ℕ) → l ≤ k → AllByRecursion (λ (end : OverEnd). nat_lt end.location k ≡ true) overs
overs_lie_in l [] all k le = tt
overs_lie_in l (end ∷ overs) all k le = (lt-ltb end.location k (more all.0), overs_lie_in l overs all.1 k le)
  where
    more : end.location < l → end.location < k
    more lt = omega (arith, lt, le)

listed_all : (p : Parts) (n : ℕ) → IsFaultless p → IsWellMade p → 0 < n → AllListed p n (copied p n 0 (whole_text p n))
listed_all p n f w some = all_listed_in p n f w some 0 0 (whole_text p n) (text_is_numbered p n f w some)

ahead_all : (p : Parts) (n : ℕ) → IsFaultless p → IsWellMade p → 0 < n → AllByRecursion (IsAhead p n) (copied p n 0 (whole_text p n))
ahead_all p n f w some = all_ahead p n f w some 0 (whole_text p n) (text_is_numbered p n f w some) (omega (arith, text_is_long p n f w))

made_faultless : (p : Parts) (n : ℕ) → IsFaultless p → IsWellMade p → 0 < n → IsFaultless (unrolled p n)
made_faultless p n f w some = record { locations = lies; variables = variables; loops = refl }
  where
    edges : list_all (λ (edge : Edge). nat_lt edge.from (text_size p n + suc (length (traps_made p n)))
        && nat_lt edge.to (text_size p n + suc (length (traps_made p n)))) (unrolled p n).edges ≡ true
    edges = all_of (λ (edge : Edge). nat_lt edge.from (text_size p n + suc (length (traps_made p n)))
        && nat_lt edge.to (text_size p n + suc (length (traps_made p n)))) (unrolled p n).edges
        (edges_lie_in p n (length (traps_made p n)) 0 (copied p n 0 (whole_text p n)) (listed_all p n f w some) (ahead_all p n f w some) (omega arith))

    traps : list_all (λ (end : TrapEnd). nat_lt end.location (text_size p n + suc (length (traps_made p n)))) (traps_made p n) ≡ true
    traps = all_of (λ (end : TrapEnd). nat_lt end.location (text_size p n + suc (length (traps_made p n)))) (traps_made p n)
        (traps_lie_in p n (length (traps_made p n)) 0 (copied p n 0 (whole_text p n)) (omega arith))

    overs : list_all (λ (end : OverEnd). nat_lt end.location (text_size p n + suc (length (traps_made p n)))) (overs_made p n) ≡ true
    overs = all_of (λ (end : OverEnd). nat_lt end.location (text_size p n + suc (length (traps_made p n)))) (overs_made p n)
        (overs_lie_in (text_size p n) (overs_made p n) (overs_below p n f w) (text_size p n + suc (length (traps_made p n))) (omega arith))

    lies : has_locations (unrolled p n) ≡ true
    lies = and_from _ _ (and_from _ _ (and_from _ _ edges refl) refl) (and_from _ _ (and_from _ _
        (lt-ltb (text_size p n) (text_size p n + suc (length (traps_made p n))) (omega arith)) traps) overs)

    variables : has_variables (unrolled p n) ≡ true
    variables = and_from _ _ (all_of (edge_below (length p.vars)) (unrolled p n).edges
        (edges_keep (λ guard sets. edge_below (length p.vars) (record { from = 0; to = 0; guard = guard; sets = sets }) ≡ true) p n 0
        (copied p n 0 (whole_text p n))
        (all_keep (λ guard sets. edge_below (length p.vars) (record { from = 0; to = 0; guard = guard; sets = sets }) ≡ true) p n 0 (whole_text p n)
        (all_listed (edge_below (length p.vars)) p.edges (and_parts (list_all (edge_below (length p.vars)) p.edges)
        (list_all (λ (call : CallEdge). nat_le call.instance (length p.vars)) p.calls) f.variables).0)))) refl

-- ---- well made

made_well : (p : Parts) (n : ℕ) → IsFaultless p → IsWellMade p → 0 < n → length p.calls ≡ 0 → IsWellMade (unrolled p n)
made_well p n f w some calls = record {
  vars = w.vars;
  counts = w.counts;
  edges = All-from_recursion (IsEdge (types_of p)) (unrolled p n).edges edges;
  guards = one_is_true p n w;
  calls = λ l h. absurd (omega (arith, h));
  ends = λ l end. ends_none (length (edges_from l (unrolled p n).edges)) (no_edges_of p n l (end_begins p n f w l end));
  others = λ l lt off. others_some (length (edges_from l (unrolled p n).edges)) (other_begins p n f w some calls l lt off);
  different = ends_differ p n f w;
  begins = no_end_there (unrolled p n) 0 (numbers_go_on_first p n f w some);
  loops = All-nil _;
  apart = λ i j lt. tt;
  forward = λ e. forward_at e (slice_get (unrolled p n).edges e) (listed_at (λ (edge : Edge). edge.from < edge.to) (unrolled p n).edges e
      (edges_ahead p n 0 (copied p n 0 (whole_text p n)) (ahead_all p n f w some)));
  calls_forward = All-nil _;
}
  where
    ends_none : (m : ℕ) → m ≡ 0 → 0 + m ≡ 0
    ends_none m e = omega (arith, e)

    others_some : (m : ℕ) → 0 < m → 0 < 0 + m
    others_some m lt = omega (arith, lt)

    forward_at : (e : ℕ) (o : Option Edge) → IfSome o (λ edge. edge.from < edge.to) → IfSome o (λ edge. leads_well [] (Some e) edge.from edge.to ≡ true)
    forward_at e None h = tt
    forward_at e (Some edge) h = or_left (nat_lt edge.from edge.to) false (lt-ltb edge.from edge.to h)

    edges : AllByRecursion (IsEdge (types_of p)) (unrolled p n).edges
    edges = mapped (λ (edge : Edge). IsEdge (types_of p) (record { from = 0; to = 0; guard = edge.guard; sets = edge.sets })) (IsEdge (types_of p))
        (unrolled p n).edges (λ edge h. record { guard = h.guard; condition = h.condition; sets = h.sets })
        (edges_keep (λ guard sets. IsEdge (types_of p) (record { from = 0; to = 0; guard = guard; sets = sets })) p n 0 (copied p n 0 (whole_text p n))
        (all_keep (λ guard sets. IsEdge (types_of p) (record { from = 0; to = 0; guard = guard; sets = sets })) p n 0 (whole_text p n)
        (mapped (IsEdge (types_of p)) (λ (edge : Edge). IsEdge (types_of p) (record { from = 0; to = 0; guard = edge.guard; sets = edge.sets })) p.edges
        (λ edge h. record { guard = h.guard; condition = h.condition; sets = h.sets })
        (recursion_from_All (IsEdge (types_of p)) p.edges w.edges))))

pub unrolled_is_well_made : UnrolledIsWellMade
unrolled_is_well_made p n f w some calls = (made_faultless p n f w some, made_well p n f w some calls)
