-- A closed walk takes a turn edge of a loop whose range holds it. Of the hops into its least location the one that begins furthest
-- on leads back to the first location of a loop. No hop leaves that loop's range: the walk would have to come back into it, at its
-- first location, from further on.
use Rattle.std.proofs.Common.{◌≡◌, ℕ, zero, suc, ◌<◌, ◌≤◌, ◌⊎◌, inl, inr, List, [], ◌∷◌, length, slice_get, Bool, true, false, not, ◌&&◌, ◌||◌, ◌==◌, nat_lt, nat_le, cond, Option, Some, None, IfSome, refl, sym, subst, ap, ◌∙◌, arith}
use Rattle.std.specs.List.{AllByRecursion, list_any, list_all}
use Rattle.std.proofs.lemmas.Bool.{true≢false, false≢true, both_ways, ltb-true, ltb-false, leb-true, le-leb, eqb-true, eq-eqb, cases_lt, and_parts, and_from, or_left, or_right, or_parts, or_cases, not-true, cases_Bool, cond-true, cond-false}
use Rattle.std.proofs.lemmas.Option.{same_Some, none-some}
use Rattle.std.proofs.lemmas.List.Elements.{recursion_from_All}
use Rattle.pv_flow.specs.Automata.{Edge, CallEdge, Loop, Parts, holds, is_turn}
use Rattle.pv_flow.specs.Faults.{cross, enters_well, is_entered_well, is_loop, IsFaultless}
use Rattle.pv_flow.specs.WellMade.{turns_by, leads_back, leads_well, IsLoop, IsWellMade}
use Rattle.pv_flow.specs.Walks.{Hop, is_between, leads_by, Follows, IsClosedWalk, TakesTurn}

-- ---- lists

pub all_at : {X : Type 0} (f : X → Bool) (xs : List X) (i : ℕ) → list_all f xs ≡ true → IfSome (slice_get xs i) (λ x. f x ≡ true)
all_at f [] i h = tt
all_at f (x ∷ xs) zero h = (and_parts (f x) (list_all f xs) h).0
all_at f (x ∷ xs) (suc i) h = all_at f xs i (and_parts (f x) (list_all f xs) h).1

pub all_listed : {X : Type 0} (f : X → Bool) (xs : List X) → list_all f xs ≡ true → AllByRecursion (λ x. f x ≡ true) xs
all_listed f [] h = tt
all_listed f (x ∷ xs) h = let both = and_parts (f x) (list_all f xs) h in (both.0, all_listed f xs both.1)

all_of : {X : Type 0} (f : X → Bool) (xs : List X) → AllByRecursion (λ x. f x ≡ true) xs → list_all f xs ≡ true
all_of f [] h = refl
all_of f (x ∷ xs) h = and_from (f x) (list_all f xs) h.0 (all_of f xs h.1)

pub listed_at : {X : Type 0} (P : X → Type 0) (xs : List X) (i : ℕ) → AllByRecursion P xs → IfSome (slice_get xs i) P
listed_at P [] i h = tt
listed_at P (x ∷ xs) zero h = h.0
listed_at P (x ∷ xs) (suc i) h = listed_at P xs i h.1

pub at_some : {X : Type 0} (P : X → Type 0) (o : Option X) (x : X) → o ≡ Some x → IfSome o P → P x
at_some P o x e h = subst (λ (o : Option _). IfSome o P) e h

pub mapped : {X : Type 0} (P Q : X → Type 0) (xs : List X) → ((x : X) → P x → Q x) → AllByRecursion P xs → AllByRecursion Q xs
mapped P Q [] go h = tt
mapped P Q (x ∷ xs) go h = (go x h.0, mapped P Q xs go h.1)

pub record Found {X : Type 0} (f : X → Bool) (xs : List X) : Type 0 where
  pub element : X
  pub number : ℕ
  pub stands : slice_get xs number ≡ Some element
  pub passes : f element ≡ true

pub found : {X : Type 0} (f : X → Bool) (xs : List X) → list_any f xs ≡ true → Found f xs
found f [] h = absurd (false≢true h)
found {X} f (x ∷ xs) h = by (or_cases (f x) (list_any f xs) h) (λ e. found f xs e)
  where
    later : Found f xs → Found f (x ∷ xs)
    later it = record { element = it.element; number = suc it.number; stands = it.stands; passes = it.passes }

    by : (f x ≡ true) ⊎ (list_any f xs ≡ true) → (list_any f xs ≡ true → Found f xs) → Found f (x ∷ xs)
    by (inl e) go = record { element = x; number = 0; stands = refl; passes = e }
    by (inr e) go = later (go e)

-- ---- what each hop keeps

-- a turn edge begins and ends in the range, and ends at the first location where entering starts turn 1, else begins there
pub record IsTurning (loop : Loop) (from to : ℕ) : Type 0 where
  pub begins : holds loop from ≡ true
  pub ends : holds loop to ≡ true
  pub back : loop.entry_turn ≡ true → to ≡ loop.first
  pub out : loop.entry_turn ≡ false → from ≡ loop.first

pub record Keeps (p : Parts) (hop : Hop) : Type 0 where
  pub well : leads_well p.loops hop.edge hop.from hop.to ≡ true
  pub enters : (i : ℕ) → IfSome (slice_get p.loops i) (λ loop. enters_well loop hop.from hop.to ≡ true)
  pub turns : (i : ℕ) → IfSome (slice_get p.loops i)
      (λ loop. loop.entry_turn ≡ false → hop.from ≡ loop.first → holds loop hop.to ≡ true → turns_by loop hop.edge ≡ true)
  pub turning : (i : ℕ) → IfSome (slice_get p.loops i) (λ loop. turns_by loop hop.edge ≡ true → IsTurning loop hop.from hop.to)

-- what is so of the edge is so of the hop along it
along : (Q : ℕ → ℕ → Type 0) (from to : ℕ) (o : Option Edge) → is_between from to o ≡ true → IfSome o (λ edge. Q edge.from edge.to) → Q from to
along Q from to None e h = absurd (false≢true e)
along Q from to (Some edge) e h =
    let both = and_parts (edge.from == from) (edge.to == to) e in
    subst (λ (n : ℕ). Q from n) (eqb-true edge.to to both.1) (subst (λ (n : ℕ). Q n edge.to) (eqb-true edge.from from both.0) h)

along_call : (Q : ℕ → ℕ → Type 0) (from to : ℕ) (calls : List CallEdge)
    → list_any (λ (call : CallEdge). (call.from == from) && (call.to == to)) calls ≡ true
    → AllByRecursion (λ (call : CallEdge). Q call.from call.to) calls → Q from to
along_call Q from to [] e h = absurd (false≢true e)
along_call Q from to (call ∷ calls) e h =
    by (or_cases ((call.from == from) && (call.to == to)) (list_any (λ (other : CallEdge). (other.from == from) && (other.to == to)) calls) e)
    (λ rest. along_call Q from to calls rest h.1)
  where
    here : (call.from ≡ from) → (call.to ≡ to) → Q from to
    here a b = subst (λ (n : ℕ). Q from n) b (subst (λ (n : ℕ). Q n call.to) a h.0)

    by : (((call.from == from) && (call.to == to)) ≡ true) ⊎ (list_any (λ (other : CallEdge). (other.from == from) && (other.to == to)) calls ≡ true)
        → (list_any (λ (other : CallEdge). (other.from == from) && (other.to == to)) calls ≡ true → Q from to) → Q from to
    by (inl one) go =
        let both = and_parts (call.from == from) (call.to == to) one in here (eqb-true call.from from both.0) (eqb-true call.to to both.1)
    by (inr rest) go = go rest

-- an edge that begins at the first location and stays within is a turn edge, where entering starts no turn
abbrev Turns : Loop → ℕ → ℕ → ℕ → Type 0
Turns loop e from to = cond (is_turn loop e)
    (cond loop.entry_turn (holds loop from && (to == loop.first)) ((from == loop.first) && holds loop to))
    (loop.entry_turn || not ((from == loop.first) && holds loop to)) ≡ true

turns_of : (loop : Loop) (e from to : ℕ) → Turns loop e from to → loop.entry_turn ≡ false → from ≡ loop.first → holds loop to ≡ true
    → is_turn loop e ≡ true
turns_of loop e from to h entry first held = by (is_turn loop e) refl
  where
    starts : ((from == loop.first) && holds loop to) ≡ true
    starts = and_from (from == loop.first) (holds loop to) (eq-eqb from loop.first first) held

    not_else : (loop.entry_turn || not ((from == loop.first) && holds loop to)) ≡ true → ⊥
    not_else g = false≢true (ap (λ (b : Bool). b || false) (sym entry) ∙ ap (λ (b : Bool). loop.entry_turn || not b) (sym starts) ∙ g)

    other : (b : Bool) → b ≡ false → cond b
        (cond loop.entry_turn (holds loop from && (to == loop.first)) ((from == loop.first) && holds loop to))
        (loop.entry_turn || not ((from == loop.first) && holds loop to)) ≡ true → ⊥
    other true off g = absurd (true≢false off)
    other false off g = not_else g

    by : (b : Bool) → is_turn loop e ≡ b → is_turn loop e ≡ true
    by true on = on
    by false off = absurd (other (is_turn loop e) off h)

turning_of : (loop : Loop) (e from to : ℕ) → Turns loop e from to → loop.first ≤ loop.last → is_turn loop e ≡ true → IsTurning loop from to
turning_of loop e from to h range on = by (loop.entry_turn) refl
    (sym (cond-true (is_turn loop e) (cond loop.entry_turn (holds loop from && (to == loop.first)) ((from == loop.first) && holds loop to))
    (loop.entry_turn || not ((from == loop.first) && holds loop to)) on) ∙ h)
  where
    first_held : (n : ℕ) → n ≡ loop.first → holds loop n ≡ true
    first_held n e = and_from (nat_le loop.first n) (nat_le n loop.last) (le-leb loop.first n (omega (arith, e))) (le-leb n loop.last (omega (arith, e, range)))

    by : (b : Bool) → loop.entry_turn ≡ b
        → cond loop.entry_turn (holds loop from && (to == loop.first)) ((from == loop.first) && holds loop to) ≡ true → IsTurning loop from to
    by true entry g =
        let both = and_parts (holds loop from) (to == loop.first)
        (sym (cond-true loop.entry_turn (holds loop from && (to == loop.first)) ((from == loop.first) && holds loop to) entry) ∙ g) in
        record {
          begins = both.0;
          ends = first_held to (eqb-true to loop.first both.1);
          back = λ x. eqb-true to loop.first both.1;
          out = λ x. absurd (true≢false (sym entry ∙ x));
        }
    by false entry g =
        let both = and_parts (from == loop.first) (holds loop to)
        (sym (cond-false loop.entry_turn (holds loop from && (to == loop.first)) ((from == loop.first) && holds loop to) entry) ∙ g) in
        record {
          begins = first_held from (eqb-true from loop.first both.0);
          ends = both.1;
          back = λ x. absurd (true≢false (sym x ∙ entry));
          out = λ x. eqb-true from loop.first both.0;
        }

no_call_turns : (loop : Loop) (from : ℕ) → (loop.entry_turn || not (from == loop.first)) ≡ true → loop.entry_turn ≡ false → from ≡ loop.first → ⊥
no_call_turns loop from g entry first =
    false≢true (ap (λ (b : Bool). b || false) (sym entry) ∙ ap (λ (b : Bool). loop.entry_turn || not b) (sym (eq-eqb from loop.first first)) ∙ g)

-- the loop is entered well, by edges and by call edges
loop_enters : (p : Parts) (loop : Loop) → is_loop p loop ≡ true → is_entered_well p loop ≡ true
loop_enters p loop h =
    (and_parts (list_all (λ (e : ℕ). nat_lt e (length p.edges)) loop.turns && list_all (λ (other : Loop). not (cross loop other)) p.loops)
    (is_entered_well p loop) h).1

abbrev EdgesEnter : Parts → Loop → Bool
EdgesEnter p loop = list_all (λ (edge : Edge). enters_well loop edge.from edge.to) p.edges

abbrev CallsEnter : Parts → Loop → Bool
CallsEnter p loop = list_all (λ (call : CallEdge). enters_well loop call.from call.to) p.calls

keeps_edge : (p : Parts) → IsFaultless p → IsWellMade p → (e from to : ℕ) → is_between from to (slice_get p.edges e) ≡ true
    → Keeps p (record { from = from; to = to; edge = Some e })
keeps_edge p f w e from to h = record {
  well = along (λ a b. leads_well p.loops (Some e) a b ≡ true) from to (slice_get p.edges e) h (w.forward e);
  enters = λ i. enter (slice_get p.loops i) (all_at (is_loop p) p.loops i f.loops);
  turns = λ i. turn (slice_get p.loops i) (listed_at (IsLoop p) p.loops i (recursion_from_All (IsLoop p) p.loops w.loops));
  turning = λ i. turning (slice_get p.loops i) (listed_at (IsLoop p) p.loops i (recursion_from_All (IsLoop p) p.loops w.loops));
}
  where
    turning : (o : Option Loop) → IfSome o (IsLoop p) → IfSome o (λ loop. turns_by loop (Some e) ≡ true → IsTurning loop from to)
    turning None g = tt
    turning (Some loop) g = λ on.
        turning_of loop e from to (along (λ a b. Turns loop e a b) from to (slice_get p.edges e) h (g.turns e)) g.range on

    enter : (o : Option Loop) → IfSome o (λ loop. is_loop p loop ≡ true) → IfSome o (λ loop. enters_well loop from to ≡ true)
    enter None g = tt
    enter (Some loop) g = along (λ a b. enters_well loop a b ≡ true) from to (slice_get p.edges e) h
        (all_at (λ (edge : Edge). enters_well loop edge.from edge.to) p.edges e
        (and_parts (EdgesEnter p loop) (CallsEnter p loop) (loop_enters p loop g)).0)

    turn : (o : Option Loop) → IfSome o (IsLoop p)
        → IfSome o (λ loop. loop.entry_turn ≡ false → from ≡ loop.first → holds loop to ≡ true → turns_by loop (Some e) ≡ true)
    turn None g = tt
    turn (Some loop) g = λ entry first held.
        turns_of loop e from to (along (λ a b. Turns loop e a b) from to (slice_get p.edges e) h (g.turns e)) entry first held

keeps_call : (p : Parts) → IsFaultless p → IsWellMade p → (from to : ℕ)
    → list_any (λ (call : CallEdge). (call.from == from) && (call.to == to)) p.calls ≡ true
    → Keeps p (record { from = from; to = to; edge = None })
keeps_call p f w from to h = record {
  well = along_call (λ a b. leads_well p.loops None a b ≡ true) from to p.calls h
      (recursion_from_All (λ (call : CallEdge). leads_well p.loops None call.from call.to ≡ true) p.calls w.calls_forward);
  enters = λ i. enter (slice_get p.loops i) (all_at (is_loop p) p.loops i f.loops);
  turns = λ i. turn (slice_get p.loops i) (listed_at (IsLoop p) p.loops i (recursion_from_All (IsLoop p) p.loops w.loops));
  turning = λ i. turning (slice_get p.loops i);
}
  where
    turning : (o : Option Loop) → IfSome o (λ loop. turns_by loop None ≡ true → IsTurning loop from to)
    turning None = tt
    turning (Some loop) = λ on. absurd (false≢true on)

    enter : (o : Option Loop) → IfSome o (λ loop. is_loop p loop ≡ true) → IfSome o (λ loop. enters_well loop from to ≡ true)
    enter None g = tt
    enter (Some loop) g = along_call (λ a b. enters_well loop a b ≡ true) from to p.calls h
        (all_listed (λ (call : CallEdge). enters_well loop call.from call.to) p.calls
        (and_parts (EdgesEnter p loop) (CallsEnter p loop) (loop_enters p loop g)).1)

    turn : (o : Option Loop) → IfSome o (IsLoop p)
        → IfSome o (λ loop. loop.entry_turn ≡ false → from ≡ loop.first → holds loop to ≡ true → turns_by loop None ≡ true)
    turn None g = tt
    turn (Some loop) g = λ entry first held. absurd (no_call_turns loop from
        (along_call (λ a b. (loop.entry_turn || not (a == loop.first)) ≡ true) from to p.calls h
        (recursion_from_All (λ (call : CallEdge). (loop.entry_turn || not (call.from == loop.first)) ≡ true) p.calls g.calls)) entry first)

pub keeps : (p : Parts) → IsFaultless p → IsWellMade p → (hop : Hop) → leads_by p hop.edge hop.from hop.to ≡ true → Keeps p hop
keeps p f w hop h = by hop.edge h
  where
    by : (o : Option ℕ) → leads_by p o hop.from hop.to ≡ true → Keeps p (record { from = hop.from; to = hop.to; edge = o })
    by None h = keeps_call p f w hop.from hop.to h
    by (Some e) h = keeps_edge p f w e hop.from hop.to h

-- ---- the hop into the least location that begins furthest on

record Beats (a b : Hop) : Type 0 where
  to : a.to ≤ b.to
  from : b.to ≤ a.to → b.from ≤ a.from

beats_self : (a : Hop) → Beats a a
beats_self a = record { to = omega arith; from = λ le. omega arith }

beats_on : (a b c : Hop) → Beats a b → Beats b c → Beats a c
beats_on a b c p q = record {
  to = omega (arith, p.to, q.to);
  from = λ le.
      let x : c.from ≤ b.from = q.from (omega (arith, le, p.to)) in
      let y : b.from ≤ a.from = p.from (omega (arith, le, q.to)) in omega (arith, x, y);
}

beats : (a b : Hop) → Beats a b ⊎ Beats b a
beats a b = by (cases_lt a.to b.to) (cases_lt b.to a.to) (cases_lt a.from b.from)
  where
    by : (a.to < b.to) ⊎ (b.to ≤ a.to) → (b.to < a.to) ⊎ (a.to ≤ b.to) → (a.from < b.from) ⊎ (b.from ≤ a.from) → Beats a b ⊎ Beats b a
    by (inl lt) x y = inl (record { to = omega (arith, lt); from = λ le. absurd (omega (arith, lt, le)) })
    by (inr le) (inl lt) y = inr (record { to = omega (arith, lt); from = λ g. absurd (omega (arith, lt, g)) })
    by (inr le) (inr ge) (inl lt) = inr (record { to = le; from = λ g. omega (arith, lt) })
    by (inr le) (inr ge) (inr late) = inl (record { to = ge; from = λ g. late })

record Best (hops : List Hop) : Type 0 where
  hop : Hop
  number : ℕ
  stands : slice_get hops number ≡ Some hop
  best : AllByRecursion (λ (other : Hop). Beats hop other) hops

best_of : (hop : Hop) (hops : List Hop) → Best (hop ∷ hops)
best_of hop [] = record { hop = hop; number = 0; stands = refl; best = (beats_self hop, tt) }
best_of hop (next ∷ hops) = by (best_of next hops)
  where
    choose : (b : Best (next ∷ hops)) → Beats b.hop hop ⊎ Beats hop b.hop → Best (hop ∷ next ∷ hops)
    choose b (inl x) = record { hop = b.hop; number = suc b.number; stands = b.stands; best = (x, b.best) }
    choose b (inr x) = record {
      hop = hop;
      number = 0;
      stands = refl;
      best = (beats_self hop, mapped (λ (o : Hop). Beats b.hop o) (λ (o : Hop). Beats hop o) (next ∷ hops) (λ o y. beats_on hop b.hop o x y) b.best);
    }

    by : Best (next ∷ hops) → Best (hop ∷ next ∷ hops)
    by b = choose b (beats b.hop hop)

-- ---- walks

-- where hops begin is where they lead, or the beginning
froms : (T : ℕ → Type 0) (l m : ℕ) (hops : List Hop) → Follows l hops m → T l → AllByRecursion (λ (hop : Hop). T hop.to) hops
    → AllByRecursion (λ (hop : Hop). T hop.from) hops
froms T l m [] h t all = tt
froms T l m (hop ∷ hops) h t all = (subst (λ (n : ℕ). T n) (sym h.0) t, froms T hop.to m hops h.1 all.0 all.1)

last_to : (T : ℕ → Type 0) (l m : ℕ) (hop : Hop) (hops : List Hop) → Follows l (hop ∷ hops) m
    → AllByRecursion (λ (h : Hop). T h.to) (hop ∷ hops) → T m
last_to T l m hop [] h all = subst (λ (n : ℕ). T n) h.1 all.0
last_to T l m hop (next ∷ hops) h all = last_to T hop.to m next hops h.1 all.1

-- where hops lead is where they begin, or the end
tos : (T : ℕ → Type 0) (l m : ℕ) (hops : List Hop) → Follows l hops m → T m → AllByRecursion (λ (hop : Hop). T hop.from) hops
    → AllByRecursion (λ (hop : Hop). T hop.to) hops
tos T l m [] h t all = tt
tos T l m (hop ∷ []) h t all = (subst (λ (n : ℕ). T n) (sym h.1) t, tt)
tos T l m (hop ∷ next ∷ hops) h t all =
    (subst (λ (n : ℕ). T n) (h.1).0 (all.1).0, tos T hop.to m (next ∷ hops) h.1 t all.1)

-- from past this location a hop leads past it
abbrev Stays : ℕ → Hop → Type 0
Stays n hop = n < hop.from → n < hop.to

goes_on : (n l m : ℕ) (hops : List Hop) → Follows l hops m → AllByRecursion (Stays n) hops → n < l
    → AllByRecursion (λ (hop : Hop). n < hop.to) hops × (n < m)
goes_on n l m [] h all lt = (tt, subst (λ (k : ℕ). n < k) h lt)
goes_on n l m (hop ∷ hops) h all lt =
    let next : n < hop.to = all.0 (subst (λ (k : ℕ). n < k) (sym h.0) lt) in
    let rest = goes_on n hop.to m hops h.1 all.1 next in ((next, rest.0), rest.1)

abbrev any_past : ℕ → List Hop → Bool
any_past n hops = list_any (λ (hop : Hop). nat_lt n hop.from) hops

past_end : (n l m : ℕ) (hops : List Hop) → Follows l hops m → AllByRecursion (Stays n) hops → any_past n hops ≡ true → n < m
past_end n l m [] h all e = absurd (false≢true e)
past_end n l m (hop ∷ hops) h all e = by (or_cases (nat_lt n hop.from) (any_past n hops) e) (λ rest. past_end n hop.to m hops h.1 all.1 rest)
  where
    by : (nat_lt n hop.from ≡ true) ⊎ (any_past n hops ≡ true) → (any_past n hops ≡ true → n < m) → n < m
    by (inl one) go = (goes_on n hop.from m (hop ∷ hops) (refl, h.1) all (ltb-true n hop.from one)).1
    by (inr rest) go = go rest

none_any : {X : Type 0} (f : X → Bool) (xs : List X) → list_any f xs ≡ false → AllByRecursion (λ x. f x ≡ false) xs
none_any f [] h = tt
none_any f (x ∷ xs) h = let both = or_parts (f x) (list_any f xs) h in (both.0, none_any f xs both.1)

pub any_at : {X : Type 0} (f : X → Bool) (xs : List X) (i : ℕ) (x : X) → slice_get xs i ≡ Some x → f x ≡ true → list_any f xs ≡ true
any_at f [] i x e h = absurd (none-some x e)
any_at f (y ∷ xs) zero x e h = or_left (f y) (list_any f xs) (ap f (same_Some y x e) ∙ h)
any_at f (y ∷ xs) (suc i) x e h = or_right (f y) (list_any f xs) (any_at f xs i x e h)

any_mapped : {X : Type 0} (f g : X → Bool) (xs : List X) → AllByRecursion (λ x. f x ≡ true → g x ≡ true) xs → list_any f xs ≡ true
    → list_any g xs ≡ true
any_mapped f g [] all h = h
any_mapped f g (x ∷ xs) all h = by (or_cases (f x) (list_any f xs) h) (λ e. any_mapped f g xs all.1 e)
  where
    by : (f x ≡ true) ⊎ (list_any f xs ≡ true) → (list_any f xs ≡ true → list_any g xs ≡ true) → (g x || list_any g xs) ≡ true
    by (inl e) go = or_left (g x) (list_any g xs) (all.0 e)
    by (inr e) go = or_right (g x) (list_any g xs) (go e)

joined : {X : Type 0} (P Q R : X → Type 0) (xs : List X) → ((x : X) → P x → Q x → R x) → AllByRecursion P xs → AllByRecursion Q xs
    → AllByRecursion R xs
joined P Q R [] go a b = tt
joined P Q R (x ∷ xs) go a b = (go x a.0 b.0, joined P Q R xs go a.1 b.1)

-- ---- the loop

held_by : (loop : Loop) (n : ℕ) → loop.first ≤ n → n ≤ loop.last → holds loop n ≡ true
held_by loop n low high = and_from (nat_le loop.first n) (nat_le n loop.last) (le-leb loop.first n low) (le-leb n loop.last high)

held_last : (loop : Loop) (n : ℕ) → holds loop n ≡ true → n ≤ loop.last
held_last loop n h = leb-true n loop.last (and_parts (nat_le loop.first n) (nat_le n loop.last) h).1

-- no hop from behind the loop comes back into it, where the best hop begins in it and leads to its first location
stays_of : (p : Parts) (loop : Loop) (i : ℕ) (best hop : Hop) → slice_get p.loops i ≡ Some loop → best.to ≡ loop.first
    → best.from ≤ loop.last → Keeps p hop → Beats best hop → Stays loop.last hop
stays_of p loop i best hop at first last keeps beats lt = by (cases_lt loop.last hop.to)
  where
    enters : enters_well loop hop.from hop.to ≡ true
    enters = at_some (λ (l : Loop). enters_well l hop.from hop.to ≡ true) (slice_get p.loops i) loop at (keeps.enters i)

    inside : hop.to ≤ loop.last → holds loop hop.to ≡ true
    inside le = held_by loop hop.to (omega (arith, first, beats.to)) le

    at_first : hop.to ≡ loop.first → ⊥
    at_first e = let x : hop.from ≤ best.from = beats.from (omega (arith, e, first)) in omega (arith, x, last, lt)

    either : hop.to ≤ loop.last → (holds loop hop.from ≡ true) ⊎ (not (holds loop hop.to) ≡ true) → ⊥
    either le (inl held) = let x : hop.from ≤ loop.last = held_last loop hop.from held in omega (arith, x, lt)
    either le (inr out) = both_ways (holds loop hop.to) (not-true (holds loop hop.to) out) (inside le)

    enter : hop.to ≤ loop.last → ((holds loop hop.from || not (holds loop hop.to)) ≡ true) ⊎ ((hop.to == loop.first) ≡ true) → ⊥
    enter le (inl x) = either le (or_cases (holds loop hop.from) (not (holds loop hop.to)) x)
    enter le (inr e) = at_first (eqb-true hop.to loop.first e)

    by : (loop.last < hop.to) ⊎ (hop.to ≤ loop.last) → loop.last < hop.to
    by (inl further) = further
    by (inr le) = absurd (enter le (or_cases (holds loop hop.from || not (holds loop hop.to)) (hop.to == loop.first) enters))

-- what is known of the walk: its hops, the best of them, and the loop to whose first location that leads back
record Round (p : Parts) (l : ℕ) (hop : Hop) (hops : List Hop) : Type 0 where
  follows : Follows l (hop ∷ hops) l
  keeps : AllByRecursion (Keeps p) (hop ∷ hops)
  best : Best (hop ∷ hops)
  loop : Loop
  number : ℕ
  stands : slice_get p.loops number ≡ Some loop
  first : (best.hop).to ≡ loop.first
  holds_it : holds loop (best.hop).from ≡ true
  turn : (not loop.entry_turn || turns_by loop (best.hop).edge) ≡ true

least_to : (p : Parts) (l : ℕ) (hop : Hop) (hops : List Hop) (best : Best (hop ∷ hops))
    → AllByRecursion (λ (h : Hop). (best.hop).to ≤ h.to) (hop ∷ hops)
least_to p l hop hops best =
    mapped (λ (h : Hop). Beats best.hop h) (λ (h : Hop). (best.hop).to ≤ h.to) (hop ∷ hops) (λ h b. b.to) best.best

least_from : (p : Parts) (l : ℕ) (hop : Hop) (hops : List Hop) (best : Best (hop ∷ hops)) → Follows l (hop ∷ hops) l
    → AllByRecursion (λ (h : Hop). (best.hop).to ≤ h.from) (hop ∷ hops)
least_from p l hop hops best follows =
    let tos = least_to p l hop hops best in
    froms (λ n. (best.hop).to ≤ n) l l (hop ∷ hops) follows (last_to (λ n. (best.hop).to ≤ n) l l hop hops follows tos) tos

pub leading_back : (loops : List Loop) (e : Option ℕ) (from to : ℕ) → to ≤ from → leads_well loops e from to ≡ true → leads_back loops e from to ≡ true
leading_back loops e from to le h = by (or_cases (nat_lt from to) (leads_back loops e from to) h)
  where
    by : (nat_lt from to ≡ true) ⊎ (leads_back loops e from to ≡ true) → leads_back loops e from to ≡ true
    by (inl lt) = let x : from < to = ltb-true from to lt in absurd (omega (arith, x, le))
    by (inr back) = back

round_of : (p : Parts) → IsFaultless p → IsWellMade p → (l : ℕ) (hop : Hop) (hops : List Hop) → IsClosedWalk p l (hop ∷ hops) → Round p l hop hops
round_of p f w l hop hops walk = by (best_of hop hops)
  where
    each : AllByRecursion (Keeps p) (hop ∷ hops)
    each = mapped (λ (h : Hop). leads_by p h.edge h.from h.to ≡ true) (Keeps p) (hop ∷ hops) (λ h e. keeps p f w h e)
        (all_listed (λ (h : Hop). leads_by p h.edge h.from h.to) (hop ∷ hops) walk.leads)

    made : (best : Best (hop ∷ hops))
        → Found (λ (loop : Loop). ((best.hop).to == loop.first) && holds loop (best.hop).from && (not loop.entry_turn || turns_by loop (best.hop).edge)) p.loops
        → Round p l hop hops
    made best it =
        let outer = and_parts (((best.hop).to == (it.element).first) && holds it.element (best.hop).from)
        (not (it.element).entry_turn || turns_by it.element (best.hop).edge) it.passes in
        let inner = and_parts ((best.hop).to == (it.element).first) (holds it.element (best.hop).from) outer.0 in
        record {
          follows = walk.follows;
          keeps = each;
          best = best;
          loop = it.element;
          number = it.number;
          stands = it.stands;
          first = eqb-true (best.hop).to (it.element).first inner.0;
          holds_it = inner.1;
          turn = outer.1;
        }

    by : Best (hop ∷ hops) → Round p l hop hops
    by best =
        let kept : Keeps p best.hop = at_some (Keeps p) (slice_get (hop ∷ hops) best.number) best.hop best.stands
        (listed_at (Keeps p) (hop ∷ hops) best.number each) in
        let le : (best.hop).to ≤ (best.hop).from = at_some (λ (h : Hop). (best.hop).to ≤ h.from) (slice_get (hop ∷ hops) best.number) best.hop best.stands
        (listed_at (λ (h : Hop). (best.hop).to ≤ h.from) (hop ∷ hops) best.number (least_from p l hop hops best walk.follows)) in
        made best (found
        (λ (loop : Loop). ((best.hop).to == loop.first) && holds loop (best.hop).from && (not loop.entry_turn || turns_by loop (best.hop).edge)) p.loops
        (leading_back p.loops (best.hop).edge (best.hop).from (best.hop).to le kept.well))

-- all hops begin in the loop's range
within : (p : Parts) (l : ℕ) (hop : Hop) (hops : List Hop) (r : Round p l hop hops)
    → AllByRecursion (λ (h : Hop). h.from ≤ (r.loop).last) (hop ∷ hops)
within p l hop hops r = by (cases_Bool (any_past (r.loop).last (hop ∷ hops)))
  where
    stays : AllByRecursion (Stays (r.loop).last) (hop ∷ hops)
    stays = joined (Keeps p) (λ (h : Hop). Beats (r.best).hop h) (Stays (r.loop).last) (hop ∷ hops)
        (λ h k b. stays_of p r.loop r.number (r.best).hop h r.stands r.first (held_last r.loop ((r.best).hop).from r.holds_it) k b) r.keeps (r.best).best

    never : (r.loop).last < l → ⊥
    never lt =
        let all = (goes_on (r.loop).last l l (hop ∷ hops) r.follows stays lt).0 in
        let past : (r.loop).last < ((r.best).hop).to = at_some (λ (h : Hop). (r.loop).last < h.to) (slice_get (hop ∷ hops) (r.best).number) (r.best).hop
        (r.best).stands (listed_at (λ (h : Hop). (r.loop).last < h.to) (hop ∷ hops) (r.best).number all) in
        let le : ((r.best).hop).to ≤ ((r.best).hop).from = at_some (λ (h : Hop). ((r.best).hop).to ≤ h.from) (slice_get (hop ∷ hops) (r.best).number)
        (r.best).hop (r.best).stands (listed_at (λ (h : Hop). ((r.best).hop).to ≤ h.from) (hop ∷ hops) (r.best).number
        (least_from p l hop hops r.best r.follows)) in
        let high : ((r.best).hop).from ≤ (r.loop).last = held_last r.loop ((r.best).hop).from r.holds_it in
        omega (arith, past, le, high)

    by : (any_past (r.loop).last (hop ∷ hops) ≡ true) ⊎ (any_past (r.loop).last (hop ∷ hops) ≡ false)
        → AllByRecursion (λ (h : Hop). h.from ≤ (r.loop).last) (hop ∷ hops)
    by (inl some) = absurd (never (past_end (r.loop).last l l (hop ∷ hops) r.follows stays some))
    by (inr none) = mapped (λ (h : Hop). nat_lt (r.loop).last h.from ≡ false) (λ (h : Hop). h.from ≤ (r.loop).last) (hop ∷ hops)
        (λ h e. ltb-false (r.loop).last h.from e) (none_any (λ (h : Hop). nat_lt (r.loop).last h.from) (hop ∷ hops) none)

-- some hop begins at the least location
begins_there : (p : Parts) (l : ℕ) (hop : Hop) (hops : List Hop) (r : Round p l hop hops)
    → list_any (λ (h : Hop). h.from == (r.loop).first) (hop ∷ hops) ≡ true
begins_there p l hop hops r = by (cases_Bool (list_any (λ (h : Hop). h.from == (r.loop).first) (hop ∷ hops)))
  where
    never : list_any (λ (h : Hop). h.from == (r.loop).first) (hop ∷ hops) ≡ false → ⊥
    never off =
        let offs = none_any (λ (h : Hop). h.from == (r.loop).first) (hop ∷ hops) off in
        let start : (l == (r.loop).first) ≡ false = subst (λ (n : ℕ). (n == (r.loop).first) ≡ false) (r.follows).0 offs.0 in
        let all = tos (λ n. (n == (r.loop).first) ≡ false) l l (hop ∷ hops) r.follows start offs in
        let at : (((r.best).hop).to == (r.loop).first) ≡ false = at_some (λ (h : Hop). (h.to == (r.loop).first) ≡ false)
        (slice_get (hop ∷ hops) (r.best).number) (r.best).hop (r.best).stands
        (listed_at (λ (h : Hop). (h.to == (r.loop).first) ≡ false) (hop ∷ hops) (r.best).number all) in
        both_ways (((r.best).hop).to == (r.loop).first) at (eq-eqb ((r.best).hop).to (r.loop).first r.first)

    by : (list_any (λ (h : Hop). h.from == (r.loop).first) (hop ∷ hops) ≡ true)
        ⊎ (list_any (λ (h : Hop). h.from == (r.loop).first) (hop ∷ hops) ≡ false)
        → list_any (λ (h : Hop). h.from == (r.loop).first) (hop ∷ hops) ≡ true
    by (inl on) = on
    by (inr off) = absurd (never off)

turn_taken : (p : Parts) (l : ℕ) (hop : Hop) (hops : List Hop) (r : Round p l hop hops)
    → list_any (λ (h : Hop). turns_by r.loop h.edge) (hop ∷ hops) ≡ true
turn_taken p l hop hops r = by (cases_Bool (r.loop).entry_turn)
  where
    froms_in : AllByRecursion (λ (h : Hop). h.from ≤ (r.loop).last) (hop ∷ hops)
    froms_in = within p l hop hops r

    tos_in : AllByRecursion (λ (h : Hop). h.to ≤ (r.loop).last) (hop ∷ hops)
    tos_in = tos (λ n. n ≤ (r.loop).last) l l (hop ∷ hops) r.follows (subst (λ (n : ℕ). n ≤ (r.loop).last) (r.follows).0 froms_in.0) froms_in

    tos_held : AllByRecursion (λ (h : Hop). holds r.loop h.to ≡ true) (hop ∷ hops)
    tos_held = joined (λ (h : Hop). ((r.best).hop).to ≤ h.to) (λ (h : Hop). h.to ≤ (r.loop).last) (λ (h : Hop). holds r.loop h.to ≡ true) (hop ∷ hops)
        (λ h low high. held_by r.loop h.to (omega (arith, low, r.first)) high) (least_to p l hop hops r.best) tos_in

    from_first : (r.loop).entry_turn ≡ false
        → AllByRecursion (λ (h : Hop). (h.from == (r.loop).first) ≡ true → turns_by r.loop h.edge ≡ true) (hop ∷ hops)
    from_first off = joined (Keeps p) (λ (h : Hop). holds r.loop h.to ≡ true)
        (λ (h : Hop). (h.from == (r.loop).first) ≡ true → turns_by r.loop h.edge ≡ true) (hop ∷ hops)
        (λ h k held e. at_some
        (λ (loop : Loop). loop.entry_turn ≡ false → h.from ≡ loop.first → holds loop h.to ≡ true → turns_by loop h.edge ≡ true)
        (slice_get p.loops r.number) r.loop r.stands (k.turns r.number) off (eqb-true h.from (r.loop).first e) held)
        r.keeps tos_held

    of_entry : (r.loop).entry_turn ≡ true → (not (r.loop).entry_turn ≡ true) ⊎ (turns_by r.loop ((r.best).hop).edge ≡ true)
        → list_any (λ (h : Hop). turns_by r.loop h.edge) (hop ∷ hops) ≡ true
    of_entry on (inl off) = absurd (both_ways (r.loop).entry_turn (not-true (r.loop).entry_turn off) on)
    of_entry on (inr turn) = any_at (λ (h : Hop). turns_by r.loop h.edge) (hop ∷ hops) (r.best).number (r.best).hop (r.best).stands turn

    by : ((r.loop).entry_turn ≡ true) ⊎ ((r.loop).entry_turn ≡ false) → list_any (λ (h : Hop). turns_by r.loop h.edge) (hop ∷ hops) ≡ true
    by (inl on) = of_entry on (or_cases (not (r.loop).entry_turn) (turns_by r.loop ((r.best).hop).edge) r.turn)
    by (inr off) = any_mapped (λ (h : Hop). h.from == (r.loop).first) (λ (h : Hop). turns_by r.loop h.edge) (hop ∷ hops) (from_first off)
        (begins_there p l hop hops r)

taken_round : (p : Parts) (l : ℕ) (hop : Hop) (hops : List Hop) → Round p l hop hops → TakesTurn p (hop ∷ hops)
taken_round p l hop hops r = record {
  loop = r.loop;
  number = r.number;
  stands = r.stands;
  held = all_of (λ (h : Hop). holds r.loop h.from) (hop ∷ hops)
      (joined (λ (h : Hop). ((r.best).hop).to ≤ h.from) (λ (h : Hop). h.from ≤ (r.loop).last) (λ (h : Hop). holds r.loop h.from ≡ true) (hop ∷ hops)
      (λ h low high. held_by r.loop h.from (omega (arith, low, r.first)) high)
      (least_from p l hop hops r.best r.follows) (within p l hop hops r));
  turns = turn_taken p l hop hops r;
}

pub closed_walk_turns : (p : Parts) → IsFaultless p → IsWellMade p → (l : ℕ) (hop : Hop) (hops : List Hop) → IsClosedWalk p l (hop ∷ hops)
    → TakesTurn p (hop ∷ hops)
closed_walk_turns p f w l hop hops walk = taken_round p l hop hops (round_of p f w l hop hops walk)
