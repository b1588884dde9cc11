-- Runs with calls keep types and end, where blocks fit. The places of the variables of all blocks at work have types; each block
-- sees its own types there. A call adds the places of the callee's own variables, behind those of all callers.
use Rattle.std.proofs.Common.{◌≡◌, ℕ, zero, suc, ◌+◌, ◌-◌, ◌<◌, ◌≤◌, ◌⊎◌, inl, inr, ℤ, pos, List, [], ◌∷◌, length, slice_get, Bool as Truth, true, false, not, ◌&&◌, ◌==◌, nat_lt, nat_le, cond, Option, Some, None, IfSome, MatchOption, refl, sym, subst, ap, ◌∙◌, arith}
use Rattle.std.specs.List.{All, AllByRecursion, list_any, list_all}
use Rattle.std.proofs.lemmas.Bool.{cases_lt, cases_Bool, cond_both, cond-true, cond-false, lt-ltb, le-ltb, le-leb, lt-leb, ltb-true, eqb-true, eq-eqb, and_from, and_left, and_right, and_parts, or_left, not_from_false}
use Rattle.std.proofs.lemmas.List.Elements.{recursion_from_All}
use Rattle.std.proofs.lemmas.Option.{same_Some, none-some}
use Rattle.pv_word.specs.declared.types.Ty.{Ty}
use Rattle.pv_place.specs.declared.place.Place.{Place}
use Rattle.pv_word.specs.Types.{InRange}
use Rattle.pv_flow.specs.Terms.{Valuation, value_of, type_of}
use Rattle.pv_flow.specs.Automata.{Variable, Set, CallEdge, Parts, types_of, HasValues, calls_from}
use Rattle.pv_flow.specs.Faults.{IsFaultless}
use Rattle.pv_flow.specs.WellMade.{IsWellMade}
use Rattle.pv_flow.specs.Runs.{put, End, done, trap, over, Outcome, done_with, trapped, gone_over, outcome_of, Way, taken, ended, Spot, at, past, Counts, moved, entered, end_at, ways_by, first_spot, copies}
use Rattle.pv_flow.specs.Calls.{Blocks, block_at, own_count, Work, entry_work, Numbered, numbered, call_from, base_of, place_in, callee_work, seen, set_through, assigned_in, is_brief, begins_anew, cleared_from, cleared, Stage, running, ComesTo, stays, ends, goes, calls, EndsAs}
use Rattle.pv_flow.specs.Fitting.{IsFit, FitsIn, runs_block, AreFitting, IsSound, AreSound}
use Rattle.pv_flow.proofs.Typing.{zero_fits, fits_in, typed_value}
use Rattle.pv_flow.proofs.TypedRuns.{IsSetWithin}
use Rattle.pv_flow.proofs.ClosedWalks.{all_at, listed_at, at_some, any_at}
use Rattle.pv_flow.proofs.RunEnds.{calls_inside, some_way, taken_of, Stands, IsOn, Leads, over_by, on_to, IsWayOn, ways_on, call_on, starts}
use Rattle.pv_flow.proofs.Advancing.{come, comes_no_further}
use Rattle.pv_flow.proofs.CallEnds.{comes_to_one}
use Rattle.pv_flow.proofs.Depth.{deep, runs_of}

-- ---- types of places

-- a type for each place that a block at work has
abbrev Places : Type 0
Places = ℕ → Option Ty

-- the places have values of their types
abbrev HaveTypes : Places → Valuation → Type 0
HaveTypes types w = (y : ℕ) → IfSome (types y) (λ ty. InRange ty (w y))

-- the block's variables lie at places of their types, and none from the first free number on
record IsAt (k : Work) (types : Places) : Type 0 where
  placed : (x : ℕ) → x < length k.parts.vars → types (k.place x) ≡ Some (types_of k.parts x)
  free : (y : ℕ) → k.free ≤ y → types y ≡ None

has_values : (k : Work) (types : Places) (w : Valuation) → IsAt k types → HaveTypes types w → HasValues k.parts (seen k w)
has_values k types w is have x lt =
    subst (λ (o : Option Ty). IfSome o (λ ty. InRange ty (w (k.place x)))) (is.placed x lt) (have (k.place x))

put_place : (types : Places) (w : Valuation) (y : ℕ) (ty : Ty) (v : ℤ) → types y ≡ Some ty → InRange ty v → HaveTypes types w → HaveTypes types (put w y v)
put_place types w y ty v e h have z =
    cond_both (z == y) v (w z) (λ (u : ℤ). IfSome (types z) (λ t. InRange t u))
    (λ same. subst (λ (o : Option Ty). IfSome o (λ t. InRange t v)) (sym (ap types (eqb-true z y same) ∙ e)) h)
    (λ other. have z)

set_through_typed : (k : Work) (types : Places) (old : Valuation) (sets : List Set) (w : Valuation) → IsAt k types
    → AllByRecursion (IsSetWithin (length k.parts.vars) (types_of k.parts)) sets
    → list_all (λ (set : Set). nat_lt set.variable (length k.parts.vars)) sets ≡ true
    → HasValues k.parts old → HaveTypes types w → HaveTypes types (set_through k.place old sets w)
set_through_typed k types old [] w is all below before have = have
set_through_typed k types old (set ∷ sets) w is all below before have =
    let both = and_parts (nat_lt set.variable (length k.parts.vars)) (list_all (λ (other : Set). nat_lt other.variable (length k.parts.vars)) sets) below in
    set_through_typed k types old sets (put w (k.place set.variable) (value_of old set.value)) is all.1 both.1 before
    (put_place types w (k.place set.variable) (types_of k.parts set.variable) (value_of old set.value)
    (is.placed set.variable (ltb-true set.variable (length k.parts.vars) both.0))
    (fits_in (type_of (types_of k.parts) set.value) (types_of k.parts set.variable) (value_of old set.value) ((all.0).0).fits
    (typed_value (length k.parts.vars) (types_of k.parts) old before set.value (all.0).1 ((all.0).0).typed)) have)

assigned_in_typed : (k : Work) (types : Places) (sets : List Set) (w : Valuation) → IsAt k types
    → AllByRecursion (IsSetWithin (length k.parts.vars) (types_of k.parts)) sets
    → list_all (λ (set : Set). nat_lt set.variable (length k.parts.vars)) sets ≡ true
    → HaveTypes types w → HaveTypes types (assigned_in k sets w)
assigned_in_typed k types sets w is all below have =
    set_through_typed k types (seen k w) sets w is all below (has_values k types w is have) have

-- ---- the callee's places

-- the callee's own variables lie from `base` on
abbrev extended : Places → ℕ → Parts → Places
extended types base q y =
    cond (nat_le base y && nat_lt y (base + own_count q)) (Some (types_of q (q.bound + q.shared + (y - base)))) (types y)

extended_own : (types : Places) (base : ℕ) (q : Parts) (y : ℕ) → base ≤ y → y < base + own_count q
    → extended types base q y ≡ Some (types_of q (q.bound + q.shared + (y - base)))
extended_own types base q y low high =
    cond-true (nat_le base y && nat_lt y (base + own_count q)) (Some (types_of q (q.bound + q.shared + (y - base)))) (types y)
    (and_from (nat_le base y) (nat_lt y (base + own_count q)) (le-leb base y low) (lt-ltb y (base + own_count q) high))

extended_before : (types : Places) (base : ℕ) (q : Parts) (y : ℕ) → y < base → extended types base q y ≡ types y
extended_before types base q y lt =
    cond-false (nat_le base y && nat_lt y (base + own_count q)) (Some (types_of q (q.bound + q.shared + (y - base)))) (types y)
    (and_left (nat_le base y) (nat_lt y (base + own_count q)) (lt-leb base y lt))

extended_behind : (types : Places) (base : ℕ) (q : Parts) (y : ℕ) → base + own_count q ≤ y → extended types base q y ≡ types y
extended_behind types base q y le =
    cond-false (nat_le base y && nat_lt y (base + own_count q)) (Some (types_of q (q.bound + q.shared + (y - base)))) (types y)
    (and_right (nat_le base y) (nat_lt y (base + own_count q)) (le-ltb y (base + own_count q) le))

-- a place with a type lies before the first free number
typed_below : (k : Work) (types : Places) (y : ℕ) (ty : Ty) → IsAt k types → types y ≡ Some ty → y < k.free
typed_below k types y ty is e = by (cases_lt y k.free)
  where
    by : (y < k.free) ⊎ (k.free ≤ y) → y < k.free
    by (inl lt) = lt
    by (inr le) = absurd (none-some ty (sym (is.free y le) ∙ e))

place_bound : (k : Work) (call : CallEdge) (q : Parts) (base x : ℕ) → x < q.bound → place_in k call q base x ≡ k.place (call.instance + x)
place_bound k call q base x lt = cond-true (nat_lt x q.bound) (k.place (call.instance + x))
    (cond (nat_lt x (q.bound + q.shared)) (k.place (k.parts.bound + (x - q.bound))) (base + (x - (q.bound + q.shared)))) (lt-ltb x q.bound lt)

place_shared : (k : Work) (call : CallEdge) (q : Parts) (base x : ℕ) → q.bound ≤ x → x < q.bound + q.shared
    → place_in k call q base x ≡ k.place (k.parts.bound + (x - q.bound))
place_shared k call q base x low lt =
    cond-false (nat_lt x q.bound) (k.place (call.instance + x))
    (cond (nat_lt x (q.bound + q.shared)) (k.place (k.parts.bound + (x - q.bound))) (base + (x - (q.bound + q.shared)))) (le-ltb x q.bound low)
    ∙ cond-true (nat_lt x (q.bound + q.shared)) (k.place (k.parts.bound + (x - q.bound))) (base + (x - (q.bound + q.shared)))
    (lt-ltb x (q.bound + q.shared) lt)

place_own : (k : Work) (call : CallEdge) (q : Parts) (base x : ℕ) → q.bound + q.shared ≤ x → place_in k call q base x ≡ base + (x - (q.bound + q.shared))
place_own k call q base x low =
    cond-false (nat_lt x q.bound) (k.place (call.instance + x))
    (cond (nat_lt x (q.bound + q.shared)) (k.place (k.parts.bound + (x - q.bound))) (base + (x - (q.bound + q.shared)))) (le-ltb x q.bound (omega (arith, low)))
    ∙ cond-false (nat_lt x (q.bound + q.shared)) (k.place (k.parts.bound + (x - q.bound))) (base + (x - (q.bound + q.shared)))
    (le-ltb x (q.bound + q.shared) low)

-- a caller's place keeps its type
kept_place : (k : Work) (types : Places) (base : ℕ) (q : Parts) (y : ℕ) (ty : Ty) → IsAt k types → k.free ≤ base → types y ≡ Some ty
    → extended types base q y ≡ Some ty
kept_place k types base q y ty is low e =
    let lt : y < k.free = typed_below k types y ty is e in extended_before types base q y (omega (arith, lt, low)) ∙ e

callee_is_at : (blocks : Blocks) (k : Work) (c : Numbered) (q : Parts) (types : Places) → IsAt k types → IsFit k.parts c.call q
    → k.parts.bound + k.parts.shared ≤ length k.parts.vars
    → IsAt (callee_work blocks k c q) (extended types (base_of blocks k c.number) q)
callee_is_at blocks k c q types is fit counts = record { placed = placed; free = free }
  where
    low : k.free ≤ base_of blocks k c.number
    low = omega arith

    at_place : (y x : ℕ) → place_in k c.call q (base_of blocks k c.number) x ≡ y
        → extended types (base_of blocks k c.number) q y ≡ Some (types_of q x)
        → extended types (base_of blocks k c.number) q (place_in k c.call q (base_of blocks k c.number) x) ≡ Some (types_of q x)
    at_place y x e h = ap (extended types (base_of blocks k c.number) q) e ∙ h

    bound : (x : ℕ) → x < q.bound → extended types (base_of blocks k c.number) q (k.place (c.call.instance + x)) ≡ Some (types_of q x)
    bound x lt = kept_place k types (base_of blocks k c.number) q (k.place (c.call.instance + x)) (types_of q x) is low
        (is.placed (c.call.instance + x) (omega (arith, lt, fit.room)) ∙ ap Some (sym (fit.bound x lt)))

    shared : (x : ℕ) → q.bound ≤ x → x < q.bound + q.shared
        → extended types (base_of blocks k c.number) q (k.place (k.parts.bound + (x - q.bound))) ≡ Some (types_of q x)
    shared x from lt =
        let i : x - q.bound < q.shared = omega (arith, from, lt) in
        let e : q.bound + (x - q.bound) ≡ x = omega (arith, from) in
        kept_place k types (base_of blocks k c.number) q (k.place (k.parts.bound + (x - q.bound))) (types_of q x) is low
        (is.placed (k.parts.bound + (x - q.bound)) (omega (arith, i, fit.count, counts)) ∙ ap Some (sym (fit.shared (x - q.bound) i) ∙ ap (types_of q) e))

    own : (x : ℕ) → q.bound + q.shared ≤ x → x < length q.vars
        → extended types (base_of blocks k c.number) q (base_of blocks k c.number + (x - (q.bound + q.shared))) ≡ Some (types_of q x)
    own x from lt =
        extended_own types (base_of blocks k c.number) q (base_of blocks k c.number + (x - (q.bound + q.shared)))
        (first (base_of blocks k c.number) (x - (q.bound + q.shared)))
        (last (base_of blocks k c.number) (q.bound + q.shared) x (length q.vars) from lt)
        ∙ ap (λ (i : ℕ). Some (types_of q i)) (back (base_of blocks k c.number) (q.bound + q.shared) x from)
      where
        first : (b d : ℕ) → b ≤ b + d
        first b d = omega arith

        last : (b s x n : ℕ) → s ≤ x → x < n → b + (x - s) < b + (n - s)
        last b s x n low high = omega (arith, low, high)

        back : (b s x : ℕ) → s ≤ x → s + (b + (x - s) - b) ≡ x
        back b s x le = omega (arith, le)

    placed : (x : ℕ) → x < length q.vars
        → extended types (base_of blocks k c.number) q (place_in k c.call q (base_of blocks k c.number) x) ≡ Some (types_of q x)
    placed x lt = by (cases_lt x q.bound) (cases_lt x (q.bound + q.shared))
      where
        by : (x < q.bound) ⊎ (q.bound ≤ x) → (x < q.bound + q.shared) ⊎ (q.bound + q.shared ≤ x)
            → extended types (base_of blocks k c.number) q (place_in k c.call q (base_of blocks k c.number) x) ≡ Some (types_of q x)
        by (inl small) y = at_place (k.place (c.call.instance + x)) x (place_bound k c.call q (base_of blocks k c.number) x small) (bound x small)
        by (inr low) (inl small) =
            at_place (k.place (k.parts.bound + (x - q.bound))) x (place_shared k c.call q (base_of blocks k c.number) x low small) (shared x low small)
        by (inr low) (inr large) =
            at_place (base_of blocks k c.number + (x - (q.bound + q.shared))) x (place_own k c.call q (base_of blocks k c.number) x large) (own x large lt)

    free : (y : ℕ) → base_of blocks k c.number + own_count q ≤ y → extended types (base_of blocks k c.number) q y ≡ None
    free y le = extended_behind types (base_of blocks k c.number) q y le ∙ is.free y (omega (arith, le, low))

-- ---- at a call's beginning

-- what begins anew is 0, all else stays
cleared_or : (q : Parts) (place : ℕ → ℕ) (x : ℕ) (vars : List Variable) (w : Valuation) (y : ℕ)
    → (cleared_from q place x vars w y ≡ w y) ⊎ (cleared_from q place x vars w y ≡ pos 0)
cleared_or q place x [] w y = inl refl
cleared_or q place x (v ∷ vars) w y =
    by (cleared_or q place (suc x) vars (cond (begins_anew q x v) (put w (place x) (pos 0)) w) y) (one (begins_anew q x v))
  where
    one : (b : Truth) → (cond b (put w (place x) (pos 0)) w y ≡ w y) ⊎ (cond b (put w (place x) (pos 0)) w y ≡ pos 0)
    one true = here (cases_Bool (y == place x))
      where
        here : ((y == place x) ≡ true) ⊎ ((y == place x) ≡ false) → (put w (place x) (pos 0) y ≡ w y) ⊎ (put w (place x) (pos 0) y ≡ pos 0)
        here (inl same) = inr (cond-true (y == place x) (pos 0) (w y) same)
        here (inr other) = inl (cond-false (y == place x) (pos 0) (w y) other)
    one false = inl refl

    by : (cleared_from q place (suc x) vars (cond (begins_anew q x v) (put w (place x) (pos 0)) w) y ≡ cond (begins_anew q x v) (put w (place x) (pos 0)) w y)
        ⊎ (cleared_from q place (suc x) vars (cond (begins_anew q x v) (put w (place x) (pos 0)) w) y ≡ pos 0)
        → (cond (begins_anew q x v) (put w (place x) (pos 0)) w y ≡ w y) ⊎ (cond (begins_anew q x v) (put w (place x) (pos 0)) w y ≡ pos 0)
        → (cleared_from q place (suc x) vars (cond (begins_anew q x v) (put w (place x) (pos 0)) w) y ≡ w y)
        ⊎ (cleared_from q place (suc x) vars (cond (begins_anew q x v) (put w (place x) (pos 0)) w) y ≡ pos 0)
    by (inr zero_there) z = inr zero_there
    by (inl same) (inl kept) = inl (same ∙ kept)
    by (inl same) (inr zero_there) = inr (same ∙ zero_there)

-- 0 stays 0
zero_stays : (q : Parts) (place : ℕ → ℕ) (x : ℕ) (vars : List Variable) (w : Valuation) (y : ℕ) → w y ≡ pos 0
    → cleared_from q place x vars w y ≡ pos 0
zero_stays q place x vars w y e = by (cleared_or q place x vars w y)
  where
    by : (cleared_from q place x vars w y ≡ w y) ⊎ (cleared_from q place x vars w y ≡ pos 0) → cleared_from q place x vars w y ≡ pos 0
    by (inl same) = same ∙ e
    by (inr zero_there) = zero_there

-- the i-th of these variables is 0 where it begins anew whatever it is
cleared_own : (q : Parts) (place : ℕ → ℕ) (x : ℕ) (vars : List Variable) (w : Valuation) (i : ℕ) → i < length vars
    → q.bound + q.shared ≤ x + i → cleared_from q place x vars w (place (x + i)) ≡ pos 0
cleared_own q place x [] w i lt own = absurd (omega (arith, lt))
cleared_own q place x (v ∷ vars) w zero lt own =
    zero_stays q place (suc x) vars (cond (begins_anew q x v) (put w (place x) (pos 0)) w) (place (x + 0))
    (ap (λ (b : Truth). cond b (put w (place x) (pos 0)) w (place (x + 0))) anew
    ∙ cond-true (place (x + 0) == place x) (pos 0) (w (place (x + 0))) (eq-eqb (place (x + 0)) (place x) (ap place (nothing x))))
  where
    nothing : (x : ℕ) → x + 0 ≡ x
    nothing x = omega arith

    anew : begins_anew q x v ≡ true
    anew = or_left (not (nat_lt x (q.bound + q.shared))) (nat_lt x q.bound && is_brief v.role)
        (not_from_false (nat_lt x (q.bound + q.shared)) (le-ltb x (q.bound + q.shared) (omega (arith, own))))
cleared_own q place x (v ∷ vars) w (suc i) lt own =
    subst (λ (n : ℕ). cleared_from q place (suc x) vars (cond (begins_anew q x v) (put w (place x) (pos 0)) w) (place n) ≡ pos 0) (shift x i)
    (cleared_own q place (suc x) vars (cond (begins_anew q x v) (put w (place x) (pos 0)) w) i (omega (arith, lt)) (omega (arith, own)))
  where
    shift : (x i : ℕ) → suc x + i ≡ x + suc i
    shift x i = omega arith

zero_typed : (o : Option Ty) (v : ℤ) → v ≡ pos 0 → IfSome o (λ ty. InRange ty v)
zero_typed None v e = tt
zero_typed (Some ty) v e = subst (λ (u : ℤ). InRange ty u) (sym e) (zero_fits ty)

-- what a callee begins with
begin_typed : (blocks : Blocks) (k : Work) (c : Numbered) (q : Parts) (types : Places) (w : Valuation) → HaveTypes types w
    → HaveTypes (extended types (base_of blocks k c.number) q) (cleared (callee_work blocks k c q) w)
begin_typed blocks k c q types w have y = by (cases_lt y (base_of blocks k c.number)) (cases_lt y (base_of blocks k c.number + own_count q))
  where
    old : (cleared (callee_work blocks k c q) w y ≡ w y) ⊎ (cleared (callee_work blocks k c q) w y ≡ pos 0)
        → IfSome (types y) (λ ty. InRange ty (cleared (callee_work blocks k c q) w y))
    old (inl same) = subst (λ (v : ℤ). IfSome (types y) (λ ty. InRange ty v)) (sym same) (have y)
    old (inr z) = zero_typed (types y) (cleared (callee_work blocks k c q) w y) z

    plain : extended types (base_of blocks k c.number) q y ≡ types y
        → IfSome (extended types (base_of blocks k c.number) q y) (λ ty. InRange ty (cleared (callee_work blocks k c q) w y))
    plain e = subst (λ (o : Option Ty). IfSome o (λ ty. InRange ty (cleared (callee_work blocks k c q) w y))) (sym e)
        (old (cleared_or q (place_in k c.call q (base_of blocks k c.number)) 0 q.vars w y))

    own : base_of blocks k c.number ≤ y → y < base_of blocks k c.number + own_count q → cleared (callee_work blocks k c q) w y ≡ pos 0
    own low high =
        subst (λ (z : ℕ). cleared_from q (place_in k c.call q (base_of blocks k c.number)) 0 q.vars w z ≡ pos 0)
        (place_own k c.call q (base_of blocks k c.number) (0 + (q.bound + q.shared + (y - base_of blocks k c.number)))
        (large (q.bound + q.shared) (y - base_of blocks k c.number))
        ∙ back (base_of blocks k c.number) (q.bound + q.shared) y low)
        (cleared_own q (place_in k c.call q (base_of blocks k c.number)) 0 q.vars w (q.bound + q.shared + (y - base_of blocks k c.number))
        (inside (base_of blocks k c.number) (q.bound + q.shared) y (length q.vars) low high)
        (large (q.bound + q.shared) (y - base_of blocks k c.number)))
      where
        large : (s d : ℕ) → s ≤ 0 + (s + d)
        large s d = omega arith

        back : (b s y : ℕ) → b ≤ y → b + (0 + (s + (y - b)) - s) ≡ y
        back b s y le = omega (arith, le)

        inside : (b s y n : ℕ) → b ≤ y → y < b + (n - s) → s + (y - b) < n
        inside b s y n low high = omega (arith, low, high)

    by : (y < base_of blocks k c.number) ⊎ (base_of blocks k c.number ≤ y)
        → (y < base_of blocks k c.number + own_count q) ⊎ (base_of blocks k c.number + own_count q ≤ y)
        → IfSome (extended types (base_of blocks k c.number) q y) (λ ty. InRange ty (cleared (callee_work blocks k c q) w y))
    by (inl lt) z = plain (extended_before types (base_of blocks k c.number) q y lt)
    by (inr low) (inl lt) =
        zero_typed (extended types (base_of blocks k c.number) q y) (cleared (callee_work blocks k c q) w y) (own low lt)
    by (inr low) (inr le) = plain (extended_behind types (base_of blocks k c.number) q y le)

-- and what its caller finds behind it
end_typed : (k : Work) (types : Places) (base : ℕ) (q : Parts) (w : Valuation) → IsAt k types → k.free ≤ base
    → HaveTypes (extended types base q) w → HaveTypes types w
end_typed k types base q w is low have y = by (cases_lt y base)
  where
    by : (y < base) ⊎ (base ≤ y) → IfSome (types y) (λ ty. InRange ty (w y))
    by (inl lt) = subst (λ (o : Option Ty). IfSome o (λ ty. InRange ty (w y))) (extended_before types base q y lt) (have y)
    by (inr le) = subst (λ (o : Option Ty). IfSome o (λ ty. InRange ty (w y))) (sym (is.free y (omega (arith, le, low)))) tt

-- ---- call edges

record IsCall (l : ℕ) (listed : List CallEdge) (c : Numbered) : Type 0 where
  position : ℕ
  stands : slice_get listed position ≡ Some c.call
  from : c.call.from ≡ l

call_found : (l j : ℕ) (listed : List CallEdge) (c : Numbered) → call_from l j listed ≡ Some c → IsCall l listed c
call_found l j [] c e = absurd (none-some c e)
call_found l j (call ∷ more) c e = by (call.from == l) refl e (λ h. call_found l (suc j) more c h)
  where
    later : IsCall l more c → IsCall l (call ∷ more) c
    later it = record { position = suc it.position; stands = it.stands; from = it.from }

    here : numbered j call ≡ c → call.from ≡ l → IsCall l (call ∷ more) c
    here same from = subst (λ (d : Numbered). IsCall l (call ∷ more) d) same (record { position = 0; stands = refl; from = from })

    by : (b : Truth) → (call.from == l) ≡ b → cond b (Some (numbered j call)) (call_from l (suc j) more) ≡ Some c
        → (call_from l (suc j) more ≡ Some c → IsCall l more c) → IsCall l (call ∷ more) c
    by true from e go = here (same_Some (numbered j call) c e) (eqb-true call.from l from)
    by false from e go = later (go e)

none_found : (l j : ℕ) (listed : List CallEdge) → call_from l j listed ≡ None → length (calls_from l listed) ≡ 0
none_found l j [] e = refl
none_found l j (call ∷ more) e = by (call.from == l) e (λ h. none_found l (suc j) more h)
  where
    by : (b : Truth) → cond b (Some (numbered j call)) (call_from l (suc j) more) ≡ None
        → (call_from l (suc j) more ≡ None → length (calls_from l more) ≡ 0)
        → length (cond b (call ∷ calls_from l more) (calls_from l more)) ≡ 0
    by true e go = absurd (none-some (numbered j call) (sym e))
    by false e go = go e

calls_lie : (p : Parts) → IsFaultless p → (i : ℕ) (call : CallEdge) → slice_get p.calls i ≡ Some call → call.to < p.locations
calls_lie p f i call it = ltb-true call.to p.locations (and_parts (nat_lt call.from p.locations) (nat_lt call.to p.locations)
    (at_some (λ (x : CallEdge). (nat_lt x.from p.locations && nat_lt x.to p.locations) ≡ true) (slice_get p.calls i) call it
    (all_at (λ (x : CallEdge). nat_lt x.from p.locations && nat_lt x.to p.locations) p.calls i (calls_inside p f)))).1

-- ---- runs

-- how a run ends leaves typed places
abbrev EndsTyped : Places → Outcome → Type 0
EndsTyped types (done_with w) = HaveTypes types w
EndsTyped types (trapped kind place) = Unit {0}
EndsTyped types (gone_over place) = Unit {0}

record Comes (blocks : Blocks) (n : ℕ) (k : Work) (types : Places) (s : Stage) : Type 0 where
  outcome : Outcome
  comes : ComesTo blocks n k s outcome
  typed : EndsTyped types outcome

-- wherever a block with this number is at work, its run has an outcome
abbrev RunsOf : Blocks → ℕ → ℕ → ℕ → Type 0
RunsOf blocks m d b = (k : Work) (types : Places) (w : Valuation) → block_at blocks b ≡ Some k.parts → IsAt k types → HaveTypes types w
    → Comes blocks (suc m) k types (running (first_spot k.parts) w)

-- what a run of a block stands on
record Stage_of (blocks : Blocks) (m : ℕ) (k : Work) (types : Places) : Type 0 where
  is : IsAt k types
  faultless : IsFaultless k.parts
  well_made : IsWellMade k.parts
  fits : AllByRecursion (FitsIn blocks k.parts) k.parts.calls
  called : (c : ℕ) → list_any (λ (call : CallEdge). call.block == c) k.parts.calls ≡ true → RunsOf blocks m 0 c

outcome_typed : (types : Places) (end : End) (w : Valuation) → HaveTypes types w → EndsTyped types (outcome_of end w)
outcome_typed types done w have = have
outcome_typed types (trap kind place) w have = tt
outcome_typed types (over place) w have = tt

-- a run past a loop's bound is over
passed : (blocks : Blocks) (n : ℕ) (k : Work) (types : Places) (place : Place) (w : Valuation) → Comes blocks n k types (running (past place) w)
passed blocks n k types place w = record { outcome = gone_over place; comes = ends refl; typed = tt }

-- a run goes on by a way
by_way : (blocks : Blocks) (m : ℕ) (k : Work) (types : Places) (l : ℕ) (counts : Counts) (w : Valuation) (way : Way Spot)
    → end_at k.parts l ≡ None → call_from l 0 k.parts.calls ≡ None
    → taken (seen k w) (ways_by k.parts.loops (suc m) l counts 0 k.parts.edges) ≡ Some way
    → Comes blocks (suc m) k types (running way.to (assigned_in k way.sets w)) → Comes blocks (suc m) k types (running (at l counts) w)
by_way blocks m k types l counts w way none no_call takes it =
    record { outcome = it.outcome; comes = goes way none no_call takes it.comes; typed = it.typed }

-- or by a call
by_call : (blocks : Blocks) (m : ℕ) (k : Work) (types : Places) (l : ℕ) (counts : Counts) (w : Valuation) (c : Numbered) (q : Parts)
    → end_at k.parts l ≡ None → call_from l 0 k.parts.calls ≡ Some c → block_at blocks c.call.block ≡ Some q
    → Comes blocks (suc m) (callee_work blocks k c q) (extended types (base_of blocks k c.number) q)
    (running (first_spot q) (cleared (callee_work blocks k c q) w))
    → IsAt k types
    → ((v : Valuation) → HaveTypes types v
    → Comes blocks (suc m) k types (running (at c.call.to (moved k.parts.loops l c.call.to counts)) v))
    → Comes blocks (suc m) k types (running (at l counts) w)
by_call blocks m k types l counts w c q none call block inner is go = by inner.outcome inner.comes inner.typed
  where
    by : (middle : Outcome)
        → ComesTo blocks (suc m) (callee_work blocks k c q) (running (first_spot q) (cleared (callee_work blocks k c q) w)) middle
        → EndsTyped (extended types (base_of blocks k c.number) q) middle → Comes blocks (suc m) k types (running (at l counts) w)
    by (done_with v) inside typed = on (go v (end_typed k types (base_of blocks k c.number) q v is (omega arith) typed))
      where
        on : Comes blocks (suc m) k types (running (at c.call.to (moved k.parts.loops l c.call.to counts)) v)
            → Comes blocks (suc m) k types (running (at l counts) w)
        on it = record { outcome = it.outcome; comes = calls c q (done_with v) none call block inside it.comes; typed = it.typed }
    by (trapped kind place) inside typed =
        record { outcome = trapped kind place; comes = calls c q (trapped kind place) none call block inside (stays refl); typed = tt }
    by (gone_over place) inside typed =
        record { outcome = gone_over place; comes = calls c q (gone_over place) none call block inside (stays refl); typed = tt }

-- what is known of the call edge where the run stands
record Called (blocks : Blocks) (m : ℕ) (k : Work) (l : ℕ) (c : Numbered) : Type 0 where
  callee : Parts
  block : block_at blocks c.call.block ≡ Some callee
  fit : IsFit k.parts c.call callee
  runs : RunsOf blocks m 0 c.call.block
  leads : list_any (λ (x : CallEdge). (x.from == l) && (x.to == c.call.to)) k.parts.calls ≡ true
  inside : c.call.to < k.parts.locations

called_at : (blocks : Blocks) (m : ℕ) (k : Work) (types : Places) (l : ℕ) (c : Numbered) → Stage_of blocks m k types
    → call_from l 0 k.parts.calls ≡ Some c → Called blocks m k l c
called_at blocks m k types l c on e = by (block_at blocks c.call.block) refl fits
  where
    it : IsCall l k.parts.calls c
    it = call_found l 0 k.parts.calls c e

    fits : FitsIn blocks k.parts c.call
    fits = at_some (FitsIn blocks k.parts) (slice_get k.parts.calls it.position) c.call it.stands
        (listed_at (FitsIn blocks k.parts) k.parts.calls it.position on.fits)

    named : list_any (λ (x : CallEdge). x.block == c.call.block) k.parts.calls ≡ true
    named = any_at (λ (x : CallEdge). x.block == c.call.block) k.parts.calls it.position c.call it.stands (eq-eqb c.call.block c.call.block refl)

    leading : list_any (λ (x : CallEdge). (x.from == l) && (x.to == c.call.to)) k.parts.calls ≡ true
    leading = any_at (λ (x : CallEdge). (x.from == l) && (x.to == c.call.to)) k.parts.calls it.position c.call it.stands
        (and_from (c.call.from == l) (c.call.to == c.call.to) (eq-eqb c.call.from l it.from) (eq-eqb c.call.to c.call.to refl))

    by : (o : Option Parts) → block_at blocks c.call.block ≡ o → MatchOption o ⊥ (λ q. IsFit k.parts c.call q) → Called blocks m k l c
    by None e h = absurd h
    by (Some q) e h = record {
      callee = q;
      block = e;
      fit = h;
      runs = on.called c.call.block named;
      leads = leading;
      inside = calls_lie k.parts on.faultless it.position c.call it.stands;
    }

-- what goes on behind a way or a call
abbrev GoesOn : Blocks → ℕ → Work → Places → ℕ → Counts → Type 0
GoesOn blocks m k types l counts = (to : ℕ) (next : Counts) (v : Valuation) → IsOn m k.parts l counts to next → HaveTypes types v
    → Comes blocks (suc m) k types (running (at to next) v)

stages_end : (blocks : Blocks) (m : ℕ) (k : Work) (types : Places) → Stage_of blocks m k types → (n l : ℕ) (counts : Counts) (w : Valuation)
    → Stands m k.parts l counts → HaveTypes types w → copies (suc m) k.parts.loops k.parts.locations ≤ come m k.parts.loops l counts + n
    → Comes blocks (suc m) k types (running (at l counts) w)
stages_end blocks m k types on zero l counts w stands have le =
    let x = comes_no_further k.parts on.faultless on.well_made m l counts stands.counted stands.inside in absurd (omega (arith, x, le))
stages_end blocks m k types on (suc n) l counts w stands have le =
    by (end_at k.parts l) refl (call_from l 0 k.parts.calls) refl
    (taken (seen k w) (ways_by k.parts.loops (suc m) l counts 0 k.parts.edges)) refl
    (taken_of (IsWayOn m k.parts l counts) (seen k w) (ways_by k.parts.loops (suc m) l counts 0 k.parts.edges)
    (ways_on m k.parts on.faultless on.well_made l counts stands))
    (λ to next v is typed. stages_end blocks m k types on n to next v is.stands typed
    (left (copies (suc m) k.parts.loops k.parts.locations) (come m k.parts.loops l counts) (come m k.parts.loops to next) le is.further))
  where
    left : (b c d : ℕ) → b ≤ c + suc n → suc c ≤ d → b ≤ d + n
    left b c d le further = omega (arith, le, further)

    along : (way : Way Spot) (x : Spot) → Leads m k.parts l counts x → way.to ≡ x → HaveTypes types (assigned_in k way.sets w) → GoesOn blocks m k types l counts
        → Comes blocks (suc m) k types (running way.to (assigned_in k way.sets w))
    along way (past place) over_by e typed go =
        subst (λ (x : Spot). Comes blocks (suc m) k types (running x (assigned_in k way.sets w))) (sym e)
        (passed blocks (suc m) k types place (assigned_in k way.sets w))
    along way (at to next) (on_to is) e typed go =
        subst (λ (x : Spot). Comes blocks (suc m) k types (running x (assigned_in k way.sets w))) (sym e)
        (go to next (assigned_in k way.sets w) is typed)

    by_called : (c : Numbered) → Called blocks m k l c → end_at k.parts l ≡ None → call_from l 0 k.parts.calls ≡ Some c → GoesOn blocks m k types l counts
        → Comes blocks (suc m) k types (running (at l counts) w)
    by_called c it none call go =
        by_call blocks m k types l counts w c it.callee none call it.block
        (it.runs (callee_work blocks k c it.callee) (extended types (base_of blocks k c.number) it.callee) (cleared (callee_work blocks k c it.callee) w) it.block
        (callee_is_at blocks k c it.callee types on.is it.fit (on.well_made).counts) (begin_typed blocks k c it.callee types w have))
        on.is
        (λ v typed. go c.call.to (moved k.parts.loops l c.call.to counts) v
        (call_on m k.parts on.faultless on.well_made l counts stands c.call it.leads it.inside) typed)

    by : (end : Option End) → end_at k.parts l ≡ end → (call : Option Numbered) → call_from l 0 k.parts.calls ≡ call
        → (way : Option (Way Spot)) → taken (seen k w) (ways_by k.parts.loops (suc m) l counts 0 k.parts.edges) ≡ way
        → IfSome way (IsWayOn m k.parts l counts) → GoesOn blocks m k types l counts → Comes blocks (suc m) k types (running (at l counts) w)
    by (Some end) e call c way t is go =
        record { outcome = outcome_of end w; comes = ends (ap (λ (o : Option End). ended o w) e); typed = outcome_typed types end w have }
    by None e (Some c) call way t is go = by_called c (called_at blocks m k types l c on call) e call go
    by None e None none None t is go =
        absurd (some_way k.parts on.well_made (suc m) l counts (seen k w) (has_values k types w on.is have) stands.inside e (none_found l 0 k.parts.calls none) t)
    by None e None none (Some way) t is go =
        by_way blocks m k types l counts w way e none t
        (along way way.to is.leads refl (assigned_in_typed k types way.sets w on.is is.sets is.below have) go)

block_runs : (blocks : Blocks) (m : ℕ) → AreFitting blocks → AreSound blocks → (b : ℕ) → RunsOf blocks m (length blocks) b
block_runs blocks m fit sound b = deep (RunsOf blocks m) blocks fit none step b
  where
    none : (n b : ℕ) → block_at blocks b ≡ None → RunsOf blocks m n b
    none n b e k types w there is have = absurd (none-some k.parts (sym e ∙ there))

    step : (n b : ℕ) (p : Parts) → block_at blocks b ≡ Some p → ((c : ℕ) → runs_block blocks b c ≡ true → RunsOf blocks m n c) → RunsOf blocks m (suc n) b
    step n b p e below k types w there is have =
        stages_end blocks m k types (record {
          is = is;
          faultless = (sound_at).faultless;
          well_made = (sound_at).well_made;
          fits = recursion_from_All (FitsIn blocks k.parts) k.parts.calls
              (at_some (λ (p : Parts). All (FitsIn blocks p) p.calls) (block_at blocks b) k.parts there (fit.calls b));
          called = λ c any. below c (runs_of blocks b k.parts there c any);
        }) (copies (suc m) k.parts.loops k.parts.locations) 0 (entered k.parts.loops 0) w (starts m k.parts (sound_at).faultless) have (omega arith)
      where
        sound_at : IsSound k.parts
        sound_at = at_some IsSound (block_at blocks b) k.parts there (sound b)

-- ---- the entry

abbrev entry_types : Parts → Places
entry_types p y = cond (nat_lt y (length p.vars)) (Some (types_of p y)) None

entry_is_at : (p : Parts) → IsAt (entry_work p) (entry_types p)
entry_is_at p = record {
  placed = λ x lt. cond-true (nat_lt x (length p.vars)) (Some (types_of p x)) None (lt-ltb x (length p.vars) lt);
  free = λ y le. cond-false (nat_lt y (length p.vars)) (Some (types_of p y)) None (le-ltb y (length p.vars) le);
}

entry_have : (p : Parts) (w : Valuation) → HasValues p w → HaveTypes (entry_types p) w
entry_have p w are y =
    cond_both (nat_lt y (length p.vars)) (Some (types_of p y)) None (λ (o : Option Ty). IfSome o (λ ty. InRange ty (w y)))
    (λ lt. are y (ltb-true y (length p.vars) lt)) (λ ge. tt)

entry_comes : (blocks : Blocks) (m b : ℕ) (p : Parts) (w : Valuation) → AreFitting blocks → AreSound blocks → block_at blocks b ≡ Some p
    → HasValues p w → Comes blocks (suc m) (entry_work p) (entry_types p) (running (first_spot p) w)
entry_comes blocks m b p w fit sound there are =
    block_runs blocks m fit sound b (entry_work p) (entry_types p) w there (entry_is_at p) (entry_have p w are)

pub calls_end : (blocks : Blocks) (n b : ℕ) (p : Parts) (w : Valuation) → AreFitting blocks → AreSound blocks → 0 < n
    → block_at blocks b ≡ Some p → HasValues p w → (out : Outcome) × EndsAs blocks n p w out
calls_end blocks zero b p w fit sound some there are = absurd (omega (arith, some))
calls_end blocks (suc m) b p w fit sound some there are = let it = entry_comes blocks m b p w fit sound there are in (it.outcome, it.comes)

pub calls_keep_types : (blocks : Blocks) (n b : ℕ) (p : Parts) (w end : Valuation) → AreFitting blocks → AreSound blocks → 0 < n
    → block_at blocks b ≡ Some p → HasValues p w → EndsAs blocks n p w (done_with end) → HasValues p end
calls_keep_types blocks zero b p w end fit sound some there are ends_so = absurd (omega (arith, some))
calls_keep_types blocks (suc m) b p w end fit sound some there are ends_so =
    let it = entry_comes blocks m b p w fit sound there are in
    let same : it.outcome ≡ done_with end =
    comes_to_one blocks (suc m) (entry_work p) (running (first_spot p) w) it.outcome (done_with end) it.comes ends_so in
    has_values (entry_work p) (entry_types p) end (entry_is_at p) (subst (λ (out : Outcome). EndsTyped (entry_types p) out) same it.typed)
