-- A run with calls leaves alone what lies below the first free number and is no place of its block's variables. So a call that is done
-- leaves its caller's own variables alone, but for those that it has as bound ones.
use Rattle.std.proofs.Common.{◌≡◌, ◌≢◌, ℕ, suc, ◌+◌, ◌-◌, ◌<◌, ◌≤◌, ◌⊎◌, inl, inr, ℤ, pos, List, [], ◌∷◌, length, ◌==◌, nat_lt, cond, Option, Some, None, refl, sym, subst, ◌∙◌, arith}
use Rattle.std.proofs.lemmas.Bool.{cond_both, ltb-true, ltb-false, eqb-true}
use Rattle.std.proofs.lemmas.Option.{same_Some, none-some}
use Rattle.pv_flow.specs.Terms.{Valuation, value_of}
use Rattle.pv_flow.specs.Automata.{Variable, Set, Loop, CallEdge, Parts}
use Rattle.pv_flow.specs.Runs.{put, End, done, trap, over, Outcome, done_with, trapped, gone_over, outcome_of, ended, Spot, first_spot}
use Rattle.pv_flow.specs.Calls.{Blocks, own_count, Work, entry_work, Numbered, base_of, place_in, callee_work, seen, set_through, assigned_in, begins_anew, cleared_from, cleared, Stage, running, finished, returned, ComesTo, stays, ends, goes, calls}
use Rattle.pv_flow.specs.Fitting.{IsFit}
use Rattle.pv_flow.specs.Correct.{IsBeside, IsPlaced}

abbrev Apart : (ℕ → ℕ) → ℕ → Type 0
Apart place y = (x : ℕ) → place x ≢ y

put_beside : (w : Valuation) (m y : ℕ) (v : ℤ) → m ≢ y → put w m v y ≡ w y
put_beside w m y v apart =
    cond_both (y == m) v (w y) (λ (z : ℤ). z ≡ w y) (λ same. absurd (apart (sym (eqb-true y m same)))) (λ other. refl)

through_beside : (place : ℕ → ℕ) (old : Valuation) (sets : List Set) (w : Valuation) (y : ℕ) → Apart place y → set_through place old sets w y ≡ w y
through_beside place old [] w y apart = refl
through_beside place old (set ∷ sets) w y apart =
    through_beside place old sets (put w (place set.variable) (value_of old set.value)) y apart
    ∙ put_beside w (place set.variable) y (value_of old set.value) (apart set.variable)

cleared_beside : (p : Parts) (place : ℕ → ℕ) (x : ℕ) (vars : List Variable) (w : Valuation) (y : ℕ) → Apart place y → cleared_from p place x vars w y ≡ w y
cleared_beside p place x [] w y apart = refl
cleared_beside p place x (v ∷ vars) w y apart =
    cleared_beside p place (suc x) vars (cond (begins_anew p x v) (put w (place x) (pos 0)) w) y apart
    ∙ cond_both (begins_anew p x v) (put w (place x) (pos 0)) w (λ (u : Valuation). u y ≡ w y)
    (λ on. put_beside w (place x) y (pos 0) (apart x)) (λ off. refl)

callee_beside : (blocks : Blocks) (k : Work) (c : Numbered) (p : Parts) (y : ℕ) → IsBeside k y → IsBeside (callee_work blocks k c p) y
callee_beside blocks k c p y is = record { below = below; apart = apart }
  where
    low : y < base_of blocks k c.number
    low = let lt = is.below in omega (arith, lt)

    below : y < base_of blocks k c.number + own_count p
    below = omega (arith, low)

    apart : (x : ℕ) → place_in k c.call p (base_of blocks k c.number) x ≢ y
    apart x =
        cond_both (nat_lt x p.bound) (k.place (c.call.instance + x))
        (cond (nat_lt x (p.bound + p.shared)) (k.place (k.parts.bound + (x - p.bound))) (base_of blocks k c.number + (x - (p.bound + p.shared))))
        (λ (z : ℕ). z ≢ y) (λ on. is.apart (c.call.instance + x))
        (λ off. cond_both (nat_lt x (p.bound + p.shared)) (k.place (k.parts.bound + (x - p.bound))) (base_of blocks k c.number + (x - (p.bound + p.shared)))
        (λ (z : ℕ). z ≢ y) (λ shared. is.apart (k.parts.bound + (x - p.bound))) (λ own e. absurd (omega (arith, e, low))))

-- ---- runs

-- what is so of a place's value where a run ends
abbrev AtEnd : ℕ → ℤ → Outcome → Type 0
AtEnd y v (done_with end) = end y ≡ v
AtEnd y v (trapped kind place) = Unit {0}
AtEnd y v (gone_over place) = Unit {0}

abbrev AtStage : ℕ → ℤ → Stage → Type 0
AtStage y v (running x w) = w y ≡ v
AtStage y v (finished out) = AtEnd y v out

outcome_leaves : (end : End) (w : Valuation) (y : ℕ) (v : ℤ) → w y ≡ v → AtEnd y v (outcome_of end w)
outcome_leaves done w y v h = h
outcome_leaves (trap kind place) w y v h = tt
outcome_leaves (over place) w y v h = tt

ended_leaves : (end : Option End) (w : Valuation) (out : Outcome) (y : ℕ) (v : ℤ) → ended end w ≡ Some out → w y ≡ v → AtEnd y v out
ended_leaves None w out y v e h = absurd (none-some out e)
ended_leaves (Some end) w out y v e h =
    subst (λ (o : Outcome). AtEnd y v o) (same_Some (outcome_of end w) out e) (outcome_leaves end w y v h)

returned_leaves : (loops : List Loop) (call : CallEdge) (x : Spot) (middle : Outcome) (y : ℕ) (v : ℤ) → AtEnd y v middle → AtStage y v (returned loops call x middle)
returned_leaves loops call x (done_with w) y v h = h
returned_leaves loops call x (trapped kind place) y v h = tt
returned_leaves loops call x (gone_over place) y v h = tt

stage_leaves : (blocks : Blocks) (n : ℕ) (k : Work) (s : Stage) (out : Outcome) (y : ℕ) (v : ℤ) → IsBeside k y → AtStage y v s
    → ComesTo blocks n k s out → AtEnd y v out
stage_leaves blocks n k (finished end) out y v is h (stays e) = subst (λ (o : Outcome). AtEnd y v o) e h
stage_leaves blocks n k (running x w) out y v is h (ends e) = ended_leaves _ w out y v e h
stage_leaves blocks n k (running x w) out y v is h (goes way none no_call takes after) =
    stage_leaves blocks n k (running way.to (assigned_in k way.sets w)) out y v is
    (through_beside k.place (seen k w) way.sets w y is.apart ∙ h) after
stage_leaves blocks n k (running x w) out y v is h (calls c p middle none call block inside after) =
    let below : IsBeside (callee_work blocks k c p) y = callee_beside blocks k c p y is in
    let left : AtEnd y v middle =
    stage_leaves blocks n (callee_work blocks k c p) (running (first_spot p) (cleared (callee_work blocks k c p) w)) middle y v below
    (cleared_beside p (callee_work blocks k c p).place 0 p.vars w y below.apart ∙ h) inside in
    stage_leaves blocks n k (returned k.parts.loops c.call x middle) out y v is (returned_leaves k.parts.loops c.call x middle y v left) after

pub calls_leave_others : (blocks : Blocks) (n : ℕ) (k : Work) (x : Spot) (w end : Valuation) (y : ℕ) → IsBeside k y
    → ComesTo blocks n k (running x w) (done_with end) → end y ≡ w y
calls_leave_others blocks n k x w end y is h = stage_leaves blocks n k (running x w) (done_with end) y (w y) is refl h

-- ---- where variables lie

pub entry_is_placed : (p : Parts) → IsPlaced (entry_work p)
entry_is_placed p = record { below = λ x lt. lt; own = λ x z low lt within e. e }

pub callee_is_placed : (blocks : Blocks) (k : Work) (c : Numbered) (p : Parts) → IsPlaced k → IsFit k.parts c.call p
    → k.parts.bound + k.parts.shared ≤ length k.parts.vars → IsPlaced (callee_work blocks k c p)
callee_is_placed blocks k c p is fit counts = record { below = λ x lt. below x lt; own = λ x z low lt within e. own x z low lt within e }
  where
    base : ℕ
    base = base_of blocks k c.number

    free : k.free ≤ base_of blocks k c.number
    free = omega arith

    bound_low : (x : ℕ) → x < p.bound → k.place (c.call.instance + x) < base_of blocks k c.number
    bound_low x lt =
        let room = fit.room in
        let low = is.below (c.call.instance + x) (omega (arith, room, lt)) in omega (arith, low, free)

    shared_low : (x : ℕ) → p.bound ≤ x → x < p.bound + p.shared → k.place (k.parts.bound + (x - p.bound)) < base_of blocks k c.number
    shared_low x from lt =
        let count = fit.count in
        let low = is.below (k.parts.bound + (x - p.bound)) (omega (arith, count, from, lt, counts)) in omega (arith, low, free)

    -- what is so of all places of the callee's variables
    places : (x : ℕ) (P : ℕ → Type 0) → ((y : ℕ) → x < p.bound + p.shared → y < base_of blocks k c.number → P y)
        → (p.bound + p.shared ≤ x → P (base_of blocks k c.number + (x - (p.bound + p.shared))))
        → P (place_in k c.call p (base_of blocks k c.number) x)
    places x P first behind =
        cond_both (nat_lt x p.bound) (k.place (c.call.instance + x))
        (cond (nat_lt x (p.bound + p.shared)) (k.place (k.parts.bound + (x - p.bound))) (base_of blocks k c.number + (x - (p.bound + p.shared))))
        P (λ on. let lt = ltb-true x p.bound on in first (k.place (c.call.instance + x)) (omega (arith, lt)) (bound_low x lt))
        (λ off. cond_both (nat_lt x (p.bound + p.shared)) (k.place (k.parts.bound + (x - p.bound))) (base_of blocks k c.number + (x - (p.bound + p.shared)))
        P (λ on. let lt = ltb-true x (p.bound + p.shared) on in first (k.place (k.parts.bound + (x - p.bound))) lt (shared_low x (ltb-false x p.bound off) lt))
        (λ own. behind (ltb-false x (p.bound + p.shared) own)))

    below : (x : ℕ) → x < length p.vars → place_in k c.call p (base_of blocks k c.number) x < base_of blocks k c.number + own_count p
    below x lt = places x (λ (y : ℕ). y < base_of blocks k c.number + own_count p)
        (λ y within low. omega (arith, low)) (λ from. omega (arith, from, lt))

    own : (x z : ℕ) → p.bound + p.shared ≤ x → x < length p.vars → z < length p.vars
        → place_in k c.call p (base_of blocks k c.number) z ≡ place_in k c.call p (base_of blocks k c.number) x → z ≡ x
    own x z low lt within =
        places x (λ (y : ℕ). place_in k c.call p (base_of blocks k c.number) z ≡ y → z ≡ x)
        (λ y first small. absurd (omega (arith, first, low)))
        (λ from. places z (λ (y : ℕ). y ≡ base_of blocks k c.number + (x - (p.bound + p.shared)) → z ≡ x)
        (λ y first small e. absurd (omega (arith, small, e)))
        (λ behind e. omega (arith, behind, from, e)))

-- ---- the caller's own variables

pub own_variables_stay : (blocks : Blocks) (n : ℕ) (k : Work) (c : Numbered) (p : Parts) (w end : Valuation) (x : ℕ) → IsPlaced k
    → IsFit k.parts c.call p → k.parts.bound + k.parts.shared ≤ x → x < length k.parts.vars
    → (x < c.call.instance) ⊎ (c.call.instance + p.bound ≤ x)
    → ComesTo blocks n (callee_work blocks k c p) (running (first_spot p) (cleared (callee_work blocks k c p) w)) (done_with end)
    → end (k.place x) ≡ w (k.place x)
own_variables_stay blocks n k c p w end x is fit low lt outside run =
    calls_leave_others blocks n (callee_work blocks k c p) (first_spot p) (cleared (callee_work blocks k c p) w) end (k.place x) beside run
    ∙ cleared_beside p (callee_work blocks k c p).place 0 p.vars w (k.place x) beside.apart
  where
    free : k.free ≤ base_of blocks k c.number
    free = omega arith

    other : (z : ℕ) → z < p.bound → c.call.instance + z ≡ x → ⊥
    other z small e = by outside
      where
        by : (x < c.call.instance) ⊎ (c.call.instance + p.bound ≤ x) → ⊥
        by (inl before) = absurd (omega (arith, before, e))
        by (inr behind) = absurd (omega (arith, behind, e, small))

    apart : (z : ℕ) → place_in k c.call p (base_of blocks k c.number) z ≢ k.place x
    apart z =
        cond_both (nat_lt z p.bound) (k.place (c.call.instance + z))
        (cond (nat_lt z (p.bound + p.shared)) (k.place (k.parts.bound + (z - p.bound))) (base_of blocks k c.number + (z - (p.bound + p.shared))))
        (λ (y : ℕ). y ≢ k.place x)
        (λ on e. let small = ltb-true z p.bound on in let room = fit.room in
        other z small (is.own x (c.call.instance + z) low lt (omega (arith, room, small)) e))
        (λ off. cond_both (nat_lt z (p.bound + p.shared)) (k.place (k.parts.bound + (z - p.bound))) (base_of blocks k c.number + (z - (p.bound + p.shared)))
        (λ (y : ℕ). y ≢ k.place x)
        (λ on e. let small = ltb-true z (p.bound + p.shared) on in let from = ltb-false z p.bound off in let count = fit.count in
        let same = is.own x (k.parts.bound + (z - p.bound)) low lt (omega (arith, small, from, count, low, lt)) e in
        absurd (omega (arith, same, small, from, count, low)))
        (λ own e. let here = is.below x lt in absurd (omega (arith, e, here, free))))

    beside : IsBeside (callee_work blocks k c p) (k.place x)
    beside = record { below = let here = is.below x lt in omega (arith, here, free); apart = apart }
