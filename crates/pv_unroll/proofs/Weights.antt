-- What each location takes, by its edges and by its copies, and so how many edges and copies there are.
use Rattle.std.proofs.Common.{◌≡◌, ℕ, zero, suc, ◌+◌, ◌<◌, ◌≤◌, List, [], ◌∷◌, length, map, min, Bool, true, false, not, ◌&&◌, ◌||◌, ◌==◌, nat_lt, cond, Option, Some, None, refl, sym, subst, ap, ◌∙◌, arith}
use Rattle.std.specs.Prelude.{slice_index_or, slice_set, replicate}
use Rattle.std.specs.List.{AllByRecursion, list_all, list_any}
use Rattle.std.proofs.lemmas.Bool.{eqb-true, eqb-false, ltb-true, and_parts}
use Rattle.std.proofs.lemmas.List.{length-replicate, length-map}
use Rattle.pv_flow.specs.declared.parts.Edge.{Edge as CodeEdge}
use Rattle.pv_flow.specs.declared.parts.TrapEnd.{TrapEnd as CodeTrapEnd}
use Rattle.pv_flow.specs.declared.parts.OverEnd.{OverEnd as CodeOverEnd}
use Rattle.pv_flow.specs.declared.parts.Parts.{Parts as CodeParts}
use Rattle.pv_flow.specs.Automata.{Edge, CallEdge, Loop, TrapEnd, Parts, edges_from}
use Rattle.pv_flow.specs.Faults.{has_ends, IsFaultless}
use Rattle.pv_flow.specs.Runs.{End, done, trap, over, trap_at, over_at, or_else, end_at}
use Rattle.pv_flow.specs.View.{edge_of, trap_end_of, over_end_of, terms_of, parts_of}
use Rattle.pv_copies.specs.Places.{stands_in, one_each}
use Rattle.pv_copies.proofs.ForCallers.{loops_in_order, all_listed, mapped}
use Rattle.pv_unroll.specs.declared.endings.Ending.{Ending}
use Rattle.pv_unroll.specs.declared.endings.Ending.TheVariants.{Goes, Done, Trapped, Gone}
use Rattle.pv_unroll.specs.declared.numbers.TheConstants.{MOST}
use Rattle.pv_unroll.specs.Counts.{capped, raised}
use Rattle.pv_unroll.specs.Chains.{counted}
use Rattle.pv_unroll.specs.Endings.{ending_at, with_traps, with_overs, endings_of, weight_of, weights_of}
use Rattle.pv_unroll.specs.Tables.{plain_loops, copy_sizing}
use Rattle.pv_unroll.specs.Correct.{CanUnroll, EdgesAreSized, CopiesAreSized}
use Rattle.pv_unroll.proofs.Lists.{put_length, at_put, at_other, zero_at}
use Rattle.pv_unroll.proofs.Sized.{Ground, Passed, sizes_are}

-- ---- edges are counted

counted_length : (counts : List ℕ) (edges : List CodeEdge) → length (counted counts edges) ≡ length counts
counted_length counts [] = refl
counted_length counts (edge ∷ edges) = counted_length (raised counts edge.from) edges
    ∙ put_length edge.from counts (capped (slice_index_or counts edge.from 0 + 1))

counts_are : (plain : CodeEdge → Edge) (b l : ℕ) (edges : List CodeEdge) (counts : List ℕ) (c : ℕ)
    → ((edge : CodeEdge) → (plain edge).from ≡ edge.from) → l < length counts
    → slice_index_or counts l 0 ≡ capped c
    → slice_index_or (counted counts edges) l 0 ≡ capped (c + length (edges_from l (map plain edges)))
counts_are plain b l [] counts c same lt e = e ∙ ap capped (sum c)
  where
    sum : (c : ℕ) → c ≡ c + 0
    sum c = omega arith
counts_are plain b l (edge ∷ edges) counts c same lt e =
    by (edge.from == l) refl
    (λ d g. counts_are plain b l edges (raised counts edge.from) d same
    (subst (λ (m : ℕ). l < m) (sym (put_length edge.from counts (capped (slice_index_or counts edge.from 0 + 1)))) lt) g)
  where
    further : (x y : ℕ) → x + 1 + y ≡ x + suc y
    further x y = omega arith

    plain_from : (t : Bool) → (edge.from == l) ≡ t → length (edges_from l (map plain (edge ∷ edges)))
        ≡ length (cond t (plain edge ∷ edges_from l (map plain edges)) (edges_from l (map plain edges)))
    plain_from t f = ap (λ (k : ℕ). length (cond (k == l) (plain edge ∷ edges_from l (map plain edges)) (edges_from l (map plain edges)))) (same edge)
        ∙ ap (λ (s : Bool). length (cond s (plain edge ∷ edges_from l (map plain edges)) (edges_from l (map plain edges)))) f

    by : (t : Bool) → (edge.from == l) ≡ t
        → ((d : ℕ) → slice_index_or (raised counts edge.from) l 0 ≡ capped d
        → slice_index_or (counted (raised counts edge.from) edges) l 0 ≡ capped (d + length (edges_from l (map plain edges))))
        → slice_index_or (counted (raised counts edge.from) edges) l 0 ≡ capped (c + length (edges_from l (map plain (edge ∷ edges))))
    by true f go =
        go (c + 1)
        (ap (λ (k : ℕ). slice_index_or (raised counts k) l 0) (eqb-true edge.from l f)
        ∙ at_put l counts (capped (slice_index_or counts l 0 + 1)) 0 lt ∙ ap (λ (m : ℕ). capped (m + 1)) e ∙ more c)
        ∙ ap capped (further c (length (edges_from l (map plain edges)))) ∙ ap (λ (m : ℕ). capped (c + m)) (sym (plain_from true f))
      where
        more_by : (most c : ℕ) → min (min c most + 1) most ≡ min (c + 1) most
        more_by most c = omega arith

        more : (c : ℕ) → capped (capped c + 1) ≡ capped (c + 1)
        more c = more_by MOST c
    by false f go =
        go c (at_other edge.from l counts (capped (slice_index_or counts edge.from 0 + 1)) 0 (eqb-false edge.from l f) ∙ e)
        ∙ ap (λ (m : ℕ). capped (c + m)) (sym (plain_from false f))

-- ---- what each location ends

abbrev pub ending_of : Option End → Ending
ending_of None = Goes
ending_of (Some done) = Done
ending_of (Some (trap kind place)) = Trapped kind place
ending_of (Some (over place)) = Gone place

overs_length : (endings : List Ending) (ends : List CodeOverEnd) → length (with_overs endings ends) ≡ length endings
overs_length endings [] = refl
overs_length endings (end ∷ ends) = put_length end.location (with_overs endings ends) (Gone end.place) ∙ overs_length endings ends

traps_length : (endings : List Ending) (ends : List CodeTrapEnd) → length (with_traps endings ends) ≡ length endings
traps_length endings [] = refl
traps_length endings (end ∷ ends) = put_length end.location (with_traps endings ends) (Trapped end.kind end.place) ∙ traps_length endings ends

-- one end is put on those before
put_is : (endings : List Ending) (at l : ℕ) (e : Ending) → l < length endings
    → slice_index_or (slice_set endings at e) l Goes ≡ cond (at == l) e (slice_index_or endings l Goes)
put_is endings at l e lt = by (at == l) refl
  where
    by : (t : Bool) → (at == l) ≡ t → slice_index_or (slice_set endings at e) l Goes ≡ cond t e (slice_index_or endings l Goes)
    by true same = ap (λ (k : ℕ). slice_index_or (slice_set endings k e) l Goes) (eqb-true at l same) ∙ at_put l endings e Goes lt
    by false differ = at_other at l endings e Goes (eqb-false at l differ)

goes_at : (l b : ℕ) → slice_index_or (replicate b Goes) l Goes ≡ Goes
goes_at l zero = refl
goes_at zero (suc b) = refl
goes_at (suc l) (suc b) = goes_at l b

overs_are : (l b : ℕ) (ends : List CodeOverEnd) → l < b
    → slice_index_or (with_overs (replicate b Goes) ends) l Goes ≡ ending_of (over_at l (map over_end_of ends))
overs_are l b [] lt = goes_at l b
overs_are l b (end ∷ ends) lt =
    put_is (with_overs (replicate b Goes) ends) end.location l (Gone end.place)
    (omega (arith, lt, overs_length (replicate b Goes) ends, length-replicate b Goes))
    ∙ ap (λ (e : Ending). cond (end.location == l) (Gone end.place) e) (overs_are l b ends lt)
    ∙ by (end.location == l)
  where
    by : (t : Bool) → cond t (Gone end.place) (ending_of (over_at l (map over_end_of ends)))
        ≡ ending_of (cond t (Some (over end.place)) (over_at l (map over_end_of ends)))
    by true = refl
    by false = refl

traps_are : (l b : ℕ) (traps : List CodeTrapEnd) (overs : List CodeOverEnd) → l < b
    → slice_index_or (with_traps (with_overs (replicate b Goes) overs) traps) l Goes
    ≡ ending_of (or_else (trap_at l (map trap_end_of traps)) (over_at l (map over_end_of overs)))
traps_are l b [] overs lt = overs_are l b overs lt
traps_are l b (end ∷ ends) overs lt =
    put_is (with_traps (with_overs (replicate b Goes) overs) ends) end.location l (Trapped end.kind end.place)
    (omega (arith, lt, traps_length (with_overs (replicate b Goes) overs) ends, overs_length (replicate b Goes) overs, length-replicate b Goes))
    ∙ ap (λ (e : Ending). cond (end.location == l) (Trapped end.kind end.place) e) (traps_are l b ends overs lt)
    ∙ by (end.location == l)
  where
    by : (t : Bool) → cond t (Trapped end.kind end.place) (ending_of (or_else (trap_at l (map trap_end_of ends)) (over_at l (map over_end_of overs))))
        ≡ ending_of (or_else (cond t (Some (trap end.kind end.place)) (trap_at l (map trap_end_of ends))) (over_at l (map over_end_of overs)))
    by true = refl
    by false = refl

endings_long : (p : CodeParts) → length (endings_of p) ≡ p.locations
endings_long p =
    put_length p.done (with_traps (with_overs (replicate p.locations Goes) p.overs.items) p.traps.items) Done
    ∙ traps_length (with_overs (replicate p.locations Goes) p.overs.items) p.traps.items
    ∙ overs_length (replicate p.locations Goes) p.overs.items ∙ length-replicate p.locations Goes

pub endings_are : (p : CodeParts) (l : ℕ) → l < p.locations → ending_at (endings_of p) l ≡ ending_of (end_at (parts_of p) l)
endings_are p l lt =
    put_is (with_traps (with_overs (replicate p.locations Goes) p.overs.items) p.traps.items) p.done l Done
    (omega (
      arith,
      lt,
      traps_length (with_overs (replicate p.locations Goes) p.overs.items) p.traps.items,
      overs_length (replicate p.locations Goes) p.overs.items,
      length-replicate p.locations Goes,
    ))
    ∙ ap (λ (e : Ending). cond (p.done == l) Done e) (traps_are l p.locations p.traps.items p.overs.items lt)
    ∙ by (p.done == l)
  where
    by : (t : Bool) → cond t Done (ending_of (or_else (trap_at l (map trap_end_of p.traps.items)) (over_at l (map over_end_of p.overs.items))))
        ≡ ending_of (cond t (Some done) (or_else (trap_at l (map trap_end_of p.traps.items)) (over_at l (map over_end_of p.overs.items))))
    by true = refl
    by false = refl

-- ---- which locations stand in the text

over_weighs : (l : ℕ) (overs : List CodeOverEnd) → weight_of (ending_of (over_at l (map over_end_of overs))) ≡ 1
over_weighs l [] = refl
over_weighs l (end ∷ ends) = by (end.location == l) (over_weighs l ends)
  where
    by : (t : Bool) → weight_of (ending_of (over_at l (map over_end_of ends))) ≡ 1
        → weight_of (ending_of (cond t (Some (over end.place)) (over_at l (map over_end_of ends)))) ≡ 1
    by true h = refl
    by false h = h

trap_weighs : (l : ℕ) (traps : List CodeTrapEnd) (overs : List CodeOverEnd)
    → weight_of (ending_of (or_else (trap_at l (map trap_end_of traps)) (over_at l (map over_end_of overs))))
    ≡ cond (not (list_any (λ (end : TrapEnd). end.location == l) (map trap_end_of traps))) 1 0
trap_weighs l [] overs = over_weighs l overs
trap_weighs l (end ∷ ends) overs = by (end.location == l) (trap_weighs l ends overs)
  where
    by : (t : Bool) → weight_of (ending_of (or_else (trap_at l (map trap_end_of ends)) (over_at l (map over_end_of overs))))
        ≡ cond (not (list_any (λ (end : TrapEnd). end.location == l) (map trap_end_of ends))) 1 0
        → weight_of (ending_of (or_else (cond t (Some (trap end.kind end.place)) (trap_at l (map trap_end_of ends))) (over_at l (map over_end_of overs))))
        ≡ cond (not (t || list_any (λ (end : TrapEnd). end.location == l) (map trap_end_of ends))) 1 0
    by true h = refl
    by false h = h

pub weighs : (p : CodeParts) (l : ℕ) → weight_of (ending_of (end_at (parts_of p) l)) ≡ one_each (stands_in (parts_of p)) l
weighs p l = by (p.done == l) (trap_weighs l p.traps.items p.overs.items)
  where
    by : (t : Bool) → weight_of (ending_of (or_else (trap_at l (map trap_end_of p.traps.items)) (over_at l (map over_end_of p.overs.items))))
        ≡ cond (not (list_any (λ (end : TrapEnd). end.location == l) (map trap_end_of p.traps.items))) 1 0
        → weight_of (ending_of (cond t (Some done) (or_else (trap_at l (map trap_end_of p.traps.items)) (over_at l (map over_end_of p.overs.items)))))
        ≡ cond (not (t || list_any (λ (end : TrapEnd). end.location == l) (map trap_end_of p.traps.items))) 1 0
    by true h = refl
    by false h = h

weights_at : (endings : List Ending) (l : ℕ) → l < length endings → slice_index_or (weights_of endings) l 0 ≡ weight_of (ending_at endings l)
weights_at [] l lt = absurd (omega (arith, lt))
weights_at (e ∷ endings) zero lt = refl
weights_at (e ∷ endings) (suc l) lt = weights_at endings l (omega (arith, lt))

-- ---- both passes

pub last_below : (p : Parts) → IsFaultless p → AllByRecursion (λ (loop : Loop). loop.last < p.locations) p.loops
last_below p f = mapped (λ (loop : Loop). (nat_lt loop.first p.locations && nat_lt loop.last p.locations) ≡ true) (λ (loop : Loop). loop.last < p.locations) p.loops
    (λ loop h. ltb-true loop.last p.locations (and_parts (nat_lt loop.first p.locations) (nat_lt loop.last p.locations) h).1)
    (all_listed (λ (loop : Loop). nat_lt loop.first p.locations && nat_lt loop.last p.locations) p.loops loops)
  where
    edges_lie : Bool
    edges_lie = list_all (λ (edge : Edge). nat_lt edge.from p.locations && nat_lt edge.to p.locations) p.edges

    calls_lie : Bool
    calls_lie = list_all (λ (call : CallEdge). nat_lt call.from p.locations && nat_lt call.to p.locations) p.calls

    loops_lie : Bool
    loops_lie = list_all (λ (loop : Loop). nat_lt loop.first p.locations && nat_lt loop.last p.locations) p.loops

    loops : loops_lie ≡ true
    loops = (and_parts (edges_lie && calls_lie) loops_lie (and_parts (edges_lie && calls_lie && loops_lie) (has_ends p) f.locations).0).1

pub edges_ground : (p : CodeParts) (n : ℕ) → CanUnroll p n
    → Ground (λ l. length (edges_from l (parts_of p).edges)) n p.locations (plain_loops p) (counted (replicate p.locations 0) p.edges.items)
edges_ground p n can = record {
  some = (can.inlined).1;
  order = loops_in_order (parts_of p) can.faultless can.well_made;
  below = last_below (parts_of p) can.faultless;
  weighed = λ l lt. counts_are (edge_of (terms_of p.nodes.items) p.deeds.items) p.locations l p.edges.items (replicate p.locations 0) 0 (λ edge. refl)
      (omega (arith, lt, length-replicate {A = ℕ} p.locations 0)) (zero_at l p.locations)
      ∙ ap capped (first (length (edges_from l (parts_of p).edges)));
}
  where
    first : (m : ℕ) → 0 + m ≡ m
    first m = omega arith

pub edges_are_sized : EdgesAreSized
edges_are_sized p n can narrow =
    (sizes_are (λ l. length (edges_from l (parts_of p).edges)) 0 n p.locations (plain_loops p) (counted (replicate p.locations 0) p.edges.items)
    (edges_ground p n can) narrow (counted_length (replicate p.locations 0) p.edges.items ∙ length-replicate {A = ℕ} p.locations 0)).here

small_capped : (t : Bool) → cond t 1 0 ≡ capped (cond t 1 0)
small_capped true = one_by MOST
  where
    one_by : (most : ℕ) → 1 ≡ min 1 (suc most)
    one_by most = omega arith
small_capped false = none_by MOST
  where
    none_by : (most : ℕ) → 0 ≡ min 0 most
    none_by most = omega arith

pub copies_ground : (p : CodeParts) (n : ℕ) → CanUnroll p n
    → Ground (one_each (stands_in (parts_of p))) n p.locations (plain_loops p) (weights_of (endings_of p))
copies_ground p n can = record {
  some = (can.inlined).1;
  order = loops_in_order (parts_of p) can.faultless can.well_made;
  below = last_below (parts_of p) can.faultless;
  weighed = λ l lt. weights_at (endings_of p) l (omega (arith, lt, endings_long p)) ∙ ap weight_of (endings_are p l lt) ∙ weighs p l
      ∙ small_capped (stands_in (parts_of p) l);
}

pub copies_passed : (p : CodeParts) (n : ℕ) → CanUnroll p n → p.locations ≤ 4294967295
    → Passed (one_each (stands_in (parts_of p))) 1 n p.locations (plain_loops p) (copy_sizing p n)
copies_passed p n can narrow = sizes_are (one_each (stands_in (parts_of p))) 1 n p.locations (plain_loops p) (weights_of (endings_of p))
    (copies_ground p n can) narrow (length-map (endings_of p) weight_of ∙ endings_long p)

pub copies_are_sized : CopiesAreSized
copies_are_sized p n can narrow = (copies_passed p n can narrow).here
