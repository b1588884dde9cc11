-- The laws of whole automata, from those of lists of loops and ranges.
use Rattle.std.proofs.Common.{◌≡◌, ℕ, ◌+◌, ◌<◌, ◌⊎◌, inl, inr, List, [], ◌∷◌, ◌++◌, map, slice_get, Bool, true, false, not, ◌&&◌, ◌||◌, ◌==◌, nat_lt, Some, refl, subst, ap, arith}
use Rattle.std.specs.List.{list_any, list_all}
use Rattle.std.proofs.lemmas.Bool.{false≢true, both_ways, ltb-true, and_parts, or_cases, not-true, eqb-true}
use Rattle.std.proofs.lemmas.List.Elements.{recursion_from_All}
use Rattle.pv_flow.specs.Automata.{Edge, CallEdge, Loop, TrapEnd, OverEnd, Parts, holds}
use Rattle.pv_flow.specs.Faults.{has_ends, IsFaultless}
use Rattle.pv_flow.specs.WellMade.{IsLoop, leads_well, IsWellMade}
use Rattle.pv_copies.specs.Copies.{entered_copy}
use Rattle.pv_copies.specs.Places.{text, IsCopy, stands_in}
use Rattle.pv_copies.specs.Correct.{CopiesLeadToCopies, CopiesLeadForward, PlacesAreShifts, TextHasPlaces, TextHasCopies, TextIsLong}
use Rattle.pv_copies.proofs.Leading.{leads, all_listed, listed_at, at_some, mapped}
use Rattle.pv_copies.proofs.Nesting.{AreOf, IsOf, loops_in_order, leading, in_here}
use Rattle.pv_copies.proofs.Forward.{entered_is_copy, valid}
use Rattle.pv_copies.proofs.Rising.{rises}
use Rattle.pv_copies.proofs.Shifts.{shifted}
use Rattle.pv_copies.proofs.Listing.{Along, IsNumbered, FirstsStand, numbered_text, along_at, found, text_length}

-- the locations that parts name are theirs
below : (a b n : ℕ) → (nat_lt a n && nat_lt b n) ≡ true → (a < n) × (b < n)
below a b n h = let both = and_parts (nat_lt a n) (nat_lt b n) h in (ltb-true a n both.0, ltb-true b n both.1)

abbrev edges_lie : Parts → Bool
edges_lie p = list_all (λ (edge : Edge). nat_lt edge.from p.locations && nat_lt edge.to p.locations) p.edges

abbrev calls_lie : Parts → Bool
calls_lie p = list_all (λ (call : CallEdge). nat_lt call.from p.locations && nat_lt call.to p.locations) p.calls

abbrev loops_lie : Parts → Bool
loops_lie p = list_all (λ (loop : Loop). nat_lt loop.first p.locations && nat_lt loop.last p.locations) p.loops

edge_lies : (p : Parts) → IsFaultless p → (e : ℕ) (edge : Edge) → slice_get p.edges e ≡ Some edge → (edge.from < p.locations) × (edge.to < p.locations)
edge_lies p f e edge at = below edge.from edge.to p.locations
    (at_some (λ (other : Edge). (nat_lt other.from p.locations && nat_lt other.to p.locations) ≡ true) (slice_get p.edges e) edge at
    (listed_at (λ (other : Edge). (nat_lt other.from p.locations && nat_lt other.to p.locations) ≡ true) p.edges e
    (all_listed (λ (other : Edge). nat_lt other.from p.locations && nat_lt other.to p.locations) p.edges edges)))
  where
    edges : edges_lie p ≡ true
    edges = (and_parts (edges_lie p) (calls_lie p)
        (and_parts (edges_lie p && calls_lie p) (loops_lie p)
        (and_parts (edges_lie p && calls_lie p && loops_lie p) (has_ends p) f.locations).0).0).0

-- all loops lie in the range of all locations
pub loops_of : (p : Parts) → IsFaultless p → AreOf 0 p.locations p.loops
loops_of p f = mapped (λ (loop : Loop). (nat_lt loop.first p.locations && nat_lt loop.last p.locations) ≡ true) (IsOf 0 p.locations) p.loops each
    (all_listed (λ (loop : Loop). nat_lt loop.first p.locations && nat_lt loop.last p.locations) p.loops loops)
  where
    loops : loops_lie p ≡ true
    loops = (and_parts (edges_lie p && calls_lie p) (loops_lie p)
        (and_parts (edges_lie p && calls_lie p && loops_lie p) (has_ends p) f.locations).0).1

    each : (loop : Loop) → (nat_lt loop.first p.locations && nat_lt loop.last p.locations) ≡ true → IsOf 0 p.locations loop
    each loop h = inl (omega arith, (below loop.first loop.last p.locations h).1)

-- loops begin at locations that stand in the text, as no end lies in a loop
of_trap : (f : ℕ → Bool) (m : ℕ) (traps : List TrapEnd) (others : List ℕ) → list_all f (map (λ (end : TrapEnd). end.location) traps ++ others) ≡ true
    → list_any (λ (end : TrapEnd). end.location == m) traps ≡ true → f m ≡ true
of_trap f m [] others all any = absurd (false≢true any)
of_trap f m (end ∷ traps) others all any =
    by (or_cases (end.location == m) (list_any (λ (other : TrapEnd). other.location == m) traps) any)
    (λ rest. of_trap f m traps others both.1 rest)
  where
    both : (f end.location ≡ true) × (list_all f (map (λ (other : TrapEnd). other.location) traps ++ others) ≡ true)
    both = and_parts (f end.location) (list_all f (map (λ (other : TrapEnd). other.location) traps ++ others)) all

    by : ((end.location == m) ≡ true) ⊎ (list_any (λ (other : TrapEnd). other.location == m) traps ≡ true)
        → (list_any (λ (other : TrapEnd). other.location == m) traps ≡ true → f m ≡ true) → f m ≡ true
    by (inl same) go = subst (λ (l : ℕ). f l ≡ true) (eqb-true end.location m same) both.0
    by (inr rest) go = go rest

pub firsts_stand : (p : Parts) → IsWellMade p → FirstsStand (stands_in p) p.loops
firsts_stand p w = mapped (IsLoop p) (λ (loop : Loop). loop.entry_turn ≡ false → stands_in p loop.first ≡ true) p.loops each
    (recursion_from_All (IsLoop p) p.loops w.loops)
  where
    each : (loop : Loop) → IsLoop p loop → loop.entry_turn ≡ false → stands_in p loop.first ≡ true
    each loop is off = by ((p.done == loop.first) || list_any (λ (end : TrapEnd). end.location == loop.first) p.traps) refl
      where
        apart : (not (holds loop p.done) ≡ true) × (list_all (λ (l : ℕ). not (holds loop l))
            (map (λ (end : TrapEnd). end.location) p.traps ++ map (λ (end : OverEnd). end.location) p.overs) ≡ true)
        apart = and_parts (not (holds loop p.done)) (list_all (λ (l : ℕ). not (holds loop l))
            (map (λ (end : TrapEnd). end.location) p.traps ++ map (λ (end : OverEnd). end.location) p.overs)) is.outside

        held : holds loop loop.first ≡ true
        held = in_here loop loop.first (omega arith) is.range

        none : ((p.done == loop.first) ≡ true) ⊎ (list_any (λ (end : TrapEnd). end.location == loop.first) p.traps ≡ true) → ⊥
        none (inl same) = both_ways (holds loop loop.first) (subst (λ (l : ℕ). holds loop l ≡ false) (eqb-true p.done loop.first same)
            (not-true (holds loop p.done) apart.0)) held
        none (inr trap) = both_ways (holds loop loop.first) (not-true (holds loop loop.first)
            (of_trap (λ (l : ℕ). not (holds loop l)) loop.first p.traps (map (λ (end : OverEnd). end.location) p.overs) apart.1 trap)) held

        by : (b : Bool) → ((p.done == loop.first) || list_any (λ (end : TrapEnd). end.location == loop.first) p.traps) ≡ b → stands_in p loop.first ≡ true
        by false e = ap not e
        by true e = absurd (none (or_cases (p.done == loop.first) (list_any (λ (end : TrapEnd). end.location == loop.first) p.traps) e))

-- there is a location, since `done` is one
abbrev traps_lie : Parts → Bool
traps_lie p = list_all (λ (end : TrapEnd). nat_lt end.location p.locations) p.traps

abbrev overs_lie : Parts → Bool
overs_lie p = list_all (λ (end : OverEnd). nat_lt end.location p.locations) p.overs

pub some_locations : (p : Parts) → IsFaultless p → 0 < p.locations
some_locations p f = let lt = ltb-true p.done p.locations done_lies in omega (arith, lt)
  where
    done_lies : nat_lt p.done p.locations ≡ true
    done_lies = (and_parts (nat_lt p.done p.locations) (traps_lie p)
        (and_parts (nat_lt p.done p.locations && traps_lie p) (overs_lie p)
        (and_parts (edges_lie p && calls_lie p && loops_lie p) (has_ends p) f.locations).1).0).0

pub first_is : (p : Parts) (n : ℕ) → IsFaultless p → IsWellMade p → 0 < n → IsCopy n p.loops 0 p.locations (entered_copy p.loops 0)
first_is p n f w some = entered_is_copy n some p.loops 0 p.locations 0 (loops_in_order p f w) (loops_of p f) (omega arith) (some_locations p f)

pub copies_lead_to_copies : CopiesLeadToCopies
copies_lead_to_copies p n e edge ks f w some at h =
    let lies = edge_lies p f e edge at in
    valid n some p.loops e edge.from edge.to (loops_in_order p f w) (leads p f w e edge at) 0 p.locations ks (loops_of p f)
    (omega arith) lies.0 (omega arith) lies.1 h

pub copies_lead_forward : CopiesLeadForward
copies_lead_forward p n e edge ks weights o f w some at h =
    let lies = edge_lies p f e edge at in
    rises weights o n some p.loops e edge.from edge.to (loops_in_order p f w) (leads p f w e edge at) 0 p.locations ks (loops_of p f)
    (omega arith) lies.0 (omega arith) lies.1 h
    (leading p.loops e edge.from edge.to (at_some (λ (other : Edge). leads_well p.loops (Some e) other.from other.to ≡ true)
    (slice_get p.edges e) edge at (w.forward e)))

pub text_is_numbered : (p : Parts) (n : ℕ) → IsFaultless p → IsWellMade p → 0 < n
    → Along (IsNumbered (stands_in p) n p.loops 0 p.locations) (text (stands_in p) n p.loops 0 p.locations) 0
text_is_numbered p n f w some = numbered_text (stands_in p) n some p.loops 0 p.locations (loops_in_order p f w) (loops_of p f) (firsts_stand p w)

pub text_has_places : TextHasPlaces
text_has_places p n i c f w some at = subst (λ (m : ℕ). IsNumbered (stands_in p) n p.loops 0 p.locations c m) (no_more i)
    (along_at (IsNumbered (stands_in p) n p.loops 0 p.locations) (text (stands_in p) n p.loops 0 p.locations) 0 i c (text_is_numbered p n f w some) at)
  where
    no_more : (i : ℕ) → 0 + i ≡ i
    no_more i = omega arith

pub text_has_copies : TextHasCopies
text_has_copies p n c f w h it = found (stands_in p) n p.loops c (loops_in_order p f w) (firsts_stand p w) it 0 p.locations h

pub text_is_long : TextIsLong
text_is_long p n f w = text_length (stands_in p) n p.loops 0 p.locations (firsts_stand p w)

pub places_are_shifts : PlacesAreShifts
places_are_shifts p n c weights o f w h = shifted weights o n p.loops c (loops_in_order p f w) 0 p.locations (loops_of p f) h
