-- Where an edge leads from a copy is a copy again, and it stands further on: by recursion on the loops, by where the edge begins and ends
-- to the first of them.
use Rattle.std.proofs.Common.{◌≡◌, ℕ, suc, ◌+◌, ◌*◌, ◌<◌, ◌≤◌, ◌⊎◌, inl, inr, List, [], ◌∷◌, Bool, true, false, not, ◌&&◌, ◌==◌, nat_le, cond, refl, sym, subst, ap, ◌∙◌, suc-mul, arith}
use Rattle.std.specs.List.{AllByRecursion}
use Rattle.std.proofs.Math.Nat.{mul-le-mul_right}
use Rattle.std.proofs.lemmas.Bool.{false≢true, both_ways, le-leb, leb-false, eqb-true, eq-eqb, cases_lt, and_left}
use Rattle.pv_flow.specs.Automata.{Loop, holds, is_turn}
use Rattle.pv_copies.specs.Copies.{Copy, copy, beyond, location_of, numbers_of, within, front, back, lead, is_past, next, led_to, left, target, entered_copy}
use Rattle.pv_copies.specs.Places.{fits, size, IsInner, IsCopy}
use Rattle.pv_copies.proofs.Leading.{IsLed, turn_ends, turn_is_first, mapped}
use Rattle.pv_copies.proofs.Nesting.{Side, before, here, behind, side, out_before, out_behind, in_here, held_low, held_high, IsLater, AreInOrder, AreOf, fitting, apart_of, apart_holds, of_before, of_inside, of_behind}
use Rattle.pv_copies.proofs.Picking.{copy_before, before_copy, copy_behind, behind_copy, copy_here, here_copy, copy_apart, apart_copy, copy_bounds, copy_within}

abbrev Ranges : List Loop → Type 0
Ranges loops = AllByRecursion (λ (loop : Loop). loop.first ≤ loop.last) loops

abbrev pub AllLed : ℕ → ℕ → ℕ → List Loop → Type 0
AllLed e l to loops = AllByRecursion (λ (loop : Loop). IsLed loop e l to) loops

pub ranges_of : (loops : List Loop) → AreInOrder loops → Ranges loops
ranges_of [] order = tt
ranges_of (loop ∷ loops) order = (order.0, ranges_of loops order.2)

-- ---- a location that is entered

pub entered_is_copy : (n : ℕ) → 0 < n → (loops : List Loop) (a b m : ℕ) → AreInOrder loops → AreOf a b loops → a ≤ m → m < b
    → IsCopy n loops a b (entered_copy loops m)
entered_is_copy n some [] a b m order of low high = (low, high, refl)
entered_is_copy n some (loop ∷ loops) a b m order of low high =
    by (fits loop a b) refl (λ x y. entered_is_copy n some loops x y m order.2)
  where
    out : holds loop m ≡ false → entered_copy (loop ∷ loops) m ≡ entered_copy loops m
    out e = ap (λ (t : Bool). cond t (within 0 (entered_copy loops m)) (entered_copy loops m)) e

    held : holds loop m ≡ true → entered_copy (loop ∷ loops) m ≡ within 0 (entered_copy loops m)
    held e = ap (λ (t : Bool). cond t (within 0 (entered_copy loops m)) (entered_copy loops m)) e

    by : (f : Bool) → fits loop a b ≡ f
        → ((x y : ℕ) → AreOf x y loops → x ≤ m → m < y → IsCopy n loops x y (entered_copy loops m))
        → IsCopy n (loop ∷ loops) a b (entered_copy (loop ∷ loops) m)
    by false f go = subst (λ (c : Copy). IsCopy n (loop ∷ loops) a b c) (sym (out (apart_holds loop a b m (apart_of loop a b of.0 f) low high)))
        (copy_apart n loop loops a b (entered_copy loops m) f (go a b of.1 low high))
    by true f go = sides (side loop m)
      where
        fit : (a ≤ loop.first) × (loop.last < b)
        fit = fitting loop a b f

        sides : Side loop m → IsCopy n (loop ∷ loops) a b (entered_copy (loop ∷ loops) m)
        sides (before lt) =
            let g = go a loop.first (of_before loop loops a order.0 order.1) low lt in
            let at = copy_bounds n loops a loop.first (entered_copy loops m) (ranges_of loops order.2) g in
            subst (λ (c : Copy). IsCopy n (loop ∷ loops) a b c) (sym (out (out_before loop m lt)))
            (copy_before n loop loops a b (entered_copy loops m) f at.1 g)
        sides (behind over lt) =
            let g = go (suc loop.last) b (of_behind loop loops a b order.0 fit.0 order.2 order.1 of.1) (omega (arith, lt)) high in
            let at = copy_bounds n loops (suc loop.last) b (entered_copy loops m) (ranges_of loops order.2) g in
            subst (λ (c : Copy). IsCopy n (loop ∷ loops) a b c) (sym (out (out_behind loop m lt)))
            (copy_behind n loop loops a b (entered_copy loops m) f (omega (arith, at.0, order.0)) (omega (arith, at.0)) g)
        sides (here first last) =
            let g = go loop.first (suc loop.last) (of_inside loop loops order.0 order.1) first (omega (arith, last)) in
            subst (λ (c : Copy). IsCopy n (loop ∷ loops) a b c) (sym (held (in_here loop m first last)))
            (copy_within n loop loops a b 0 (entered_copy loops m) (ranges_of loops order.2) f (inl some) g)

pub entered_location : (loops : List Loop) (m : ℕ) → location_of (entered_copy loops m) ≡ m
entered_location [] m = refl
entered_location (loop ∷ loops) m = by (holds loop m) (entered_copy loops m) (entered_location loops m)
  where
    by : (b : Bool) (c : Copy) → location_of c ≡ m → location_of (cond b (within 0 c) c) ≡ m
    by false c h = h
    by true (copy l ks) h = h
    by true (beyond other ks) h = h

-- ---- one step of the recursion

pub target_out : (n : ℕ) (loop : Loop) (loops : List Loop) (e l to : ℕ) (ks : List ℕ) → holds loop l ≡ false → holds loop to ≡ false
    → target n (loop ∷ loops) e l to ks ≡ target n loops e l to ks
target_out n loop loops e l to ks out apart =
    ap (λ (t : Bool). led_to t (holds loop to) (is_past n loop e l (front ks)) loop (next loop e to (front ks)) (target n loops e l to (left t ks))) out
    ∙ ap (λ (t : Bool). led_to false t (is_past n loop e l (front ks)) loop (next loop e to (front ks)) (target n loops e l to ks)) apart

pub target_in : (n : ℕ) (loop : Loop) (loops : List Loop) (e l to k : ℕ) (ks : List ℕ) → holds loop l ≡ true → holds loop to ≡ true
    → target n (loop ∷ loops) e l to (k ∷ ks) ≡ led_to true true (is_past n loop e l k) loop (next loop e to k) (target n loops e l to ks)
target_in n loop loops e l to k ks held into =
    ap (λ (t : Bool). led_to t (holds loop to) (is_past n loop e l k) loop (next loop e to k) (target n loops e l to (left t (k ∷ ks)))) held
    ∙ ap (λ (t : Bool). led_to true t (is_past n loop e l k) loop (next loop e to k) (target n loops e l to ks)) into

-- where no loop holds both ends, what is led to is entered
abbrev NoneHoldsBoth : ℕ → ℕ → List Loop → Type 0
NoneHoldsBoth l to loops = AllByRecursion (λ (loop : Loop). holds loop l ≡ true → holds loop to ≡ true → ⊥) loops

pub fresh : (n : ℕ) (loops : List Loop) (e l to : ℕ) (ks : List ℕ) → AllLed e l to loops → NoneHoldsBoth l to loops
    → target n loops e l to ks ≡ entered_copy loops to
fresh n [] e l to ks led parts = refl
fresh n (loop ∷ loops) e l to ks led parts = by (holds loop l) refl (holds loop to) refl (λ js. fresh n loops e l to js led.1 parts.1)
  where
    no_past : holds loop to ≡ false → is_past n loop e l (front ks) ≡ false
    no_past apart = by_turn (is_turn loop e) refl
      where
        by_turn : (t : Bool) → is_turn loop e ≡ t → is_past n loop e l (front ks) ≡ false
        by_turn true on = absurd (both_ways (holds loop to) apart (turn_ends loop e l to led.0 on))
        by_turn false off = and_left (is_turn loop e) (nat_le (n + lead loop l) (suc (front ks))) off

    by : (x : Bool) → holds loop l ≡ x → (y : Bool) → holds loop to ≡ y → ((js : List ℕ) → target n loops e l to js ≡ entered_copy loops to)
        → target n (loop ∷ loops) e l to ks ≡ entered_copy (loop ∷ loops) to
    by true held true into go = absurd (parts.0 held into)
    by false out false apart go = target_out n loop loops e l to ks out apart ∙ go ks
        ∙ sym (ap (λ (t : Bool). cond t (within 0 (entered_copy loops to)) (entered_copy loops to)) apart)
    by true held false apart go =
        ap (λ (t : Bool). led_to t (holds loop to) (is_past n loop e l (front ks)) loop (next loop e to (front ks)) (target n loops e l to (left t ks))) held
        ∙ ap (λ (t : Bool). led_to true t (is_past n loop e l (front ks)) loop (next loop e to (front ks)) (target n loops e l to (back ks))) apart
        ∙ ap (λ (t : Bool). led_to true false t loop (next loop e to (front ks)) (target n loops e l to (back ks))) (no_past apart)
        ∙ go (back ks)
        ∙ sym (ap (λ (t : Bool). cond t (within 0 (entered_copy loops to)) (entered_copy loops to)) apart)
    by false out true into go =
        ap (λ (t : Bool). led_to t (holds loop to) (is_past n loop e l (front ks)) loop (next loop e to (front ks)) (target n loops e l to (left t ks))) out
        ∙ ap (λ (t : Bool). led_to false t (is_past n loop e l (front ks)) loop (next loop e to (front ks)) (target n loops e l to ks)) into
        ∙ ap (λ (c : Copy). within 0 c) (go ks)
        ∙ sym (ap (λ (t : Bool). cond t (within 0 (entered_copy loops to)) (entered_copy loops to)) into)

-- both in the loop, or both behind it
abbrev pub Together : Loop → ℕ → ℕ → Type 0
Together loop l to = ((loop.first ≤ l) × (l ≤ loop.last) × (loop.first ≤ to) × (to ≤ loop.last)) ⊎ ((loop.last < l) × (loop.last < to))

-- on different sides of a loop neither it nor a later one holds both
pub parted : (loop : Loop) (loops : List Loop) (l to : ℕ) → loop.first ≤ loop.last → AllByRecursion (IsLater loop) loops → (Together loop l to → ⊥)
    → NoneHoldsBoth l to (loop ∷ loops)
parted loop loops l to range later differ =
    (λ x y. differ (inl (held_low loop l x, held_high loop l x, held_low loop to y, held_high loop to y)), mapped (IsLater loop) (λ (other : Loop). holds other l ≡ true → holds other to ≡ true → ⊥) loops each later)
  where
    each : (other : Loop) → IsLater loop other → holds other l ≡ true → holds other to ≡ true → ⊥
    each other (inl h) x y =
        let low = held_low other l x in
        let high = held_high other l x in
        let first = held_low other to y in
        let last = held_high other to y in
        differ (inl (omega (arith, h.0, low), omega (arith, h.1, high), omega (arith, h.0, first), omega (arith, h.1, last)))
    each other (inr h) x y =
        let low = held_low other l x in
        let first = held_low other to y in
        differ (inr (omega (arith, h, low), omega (arith, h, first)))

-- ---- a copy again

pub copy_is_no_over : (l : ℕ) (ks : List ℕ) (loop : Loop) → copy l ks ≡ beyond loop [] → ⊥
copy_is_no_over l ks loop e = subst (λ (c : Copy). IsCopyNot c) e tt
  where
    IsCopyNot : Copy → Type 0
    IsCopyNot (copy l ks) = Unit {0}
    IsCopyNot (beyond loop ks) = ⊥

-- ---- the next number

pub turns_fit : (k n size : ℕ) → k < n → k * size + size ≤ n * size
turns_fit k n size lt = omega (arith, suc-mul k size, mul-le-mul_right size (next_le k n lt))
  where
    next_le : (k n : ℕ) → k < n → suc k ≤ n
    next_le k n lt = omega (arith, lt)

-- one of the turns, or the first location once more
abbrev pub IsNumber : ℕ → Loop → ℕ → ℕ → Type 0
IsNumber n loop l k = (k < n) ⊎ ((loop.entry_turn ≡ false) × (l ≡ loop.first) × (k ≡ n))

-- by Booleans and numbers: whether entering starts a turn, whether the edge is a turn edge, begins and ends at the first location
number_by : (entry turn from to : Bool) (n k : ℕ) → (entry ≡ false → turn ≡ from)
    → (turn && nat_le (n + cond (not entry && from) 1 0) (suc k)) ≡ false
    → (k < n) ⊎ ((entry ≡ false) × (from ≡ true) × (k ≡ n))
    → (k + cond (cond entry turn to) 1 0 < n) ⊎ ((entry ≡ false) × (to ≡ true) × (k + cond (cond entry turn to) 1 0 ≡ n))
number_by entry turn from to n k same last (inr h) = absurd (late turn (same h.0) last)
  where
    late : (t : Bool) → t ≡ from → (t && nat_le (n + cond (not entry && from) 1 0) (suc k)) ≡ false → ⊥
    late false e g = false≢true (e ∙ h.1)
    late true e g = both_ways (nat_le (n + cond (not entry && from) 1 0) (suc k)) g
        (subst (λ (b : Bool). nat_le (n + cond (not b && from) 1 0) (suc k) ≡ true) (sym h.0)
        (subst (λ (b : Bool). nat_le (n + cond (true && b) 1 0) (suc k) ≡ true) (sym h.1) (le-leb (n + 1) (suc k) (omega (arith, h.2)))))
number_by true true from to n k same last (inl lt) =
    let short : suc k < n + 0 = leb-false (n + 0) (suc k) last in inl (omega (arith, short))
number_by true false from to n k same last (inl lt) = inl (omega (arith, lt))
number_by false turn from false n k same last (inl lt) = inl (omega (arith, lt))
number_by false turn from true n k same last (inl lt) = by (cases_lt (suc k) n)
  where
    by : (suc k < n) ⊎ (n ≤ suc k)
        → (k + cond (cond false turn true) 1 0 < n) ⊎ ((false ≡ false) × (true ≡ true) × (k + cond (cond false turn true) 1 0 ≡ n))
    by (inl more) = inl (omega (arith, more))
    by (inr le) = inr (refl, refl, omega (arith, le, lt))

first_test : (loop : Loop) (l : ℕ) → l ≡ loop.first → (loop.first == l) ≡ true
first_test loop l e = eq-eqb loop.first l (sym e)

-- a copy's number where the edge leads, if that isn't over the bound
number_left : (n : ℕ) (loop : Loop) (e l to k : ℕ) → IsLed loop e l to → holds loop to ≡ true → IsNumber n loop l k
    → is_past n loop e l k ≡ false → IsNumber n loop to (next loop e to k)
number_left n loop e l to k is into number last =
    told (number_by loop.entry_turn (is_turn loop e) (loop.first == l) (loop.first == to) n k (turn_is_first loop e l to is into) last (asked number))
  where
    asked : IsNumber n loop l k → (k < n) ⊎ ((loop.entry_turn ≡ false) × ((loop.first == l) ≡ true) × (k ≡ n))
    asked (inl lt) = inl lt
    asked (inr h) = inr (h.0, first_test loop l h.1, h.2)

    told : (next loop e to k < n) ⊎ ((loop.entry_turn ≡ false) × ((loop.first == to) ≡ true) × (next loop e to k ≡ n)) → IsNumber n loop to (next loop e to k)
    told (inl lt) = inl lt
    told (inr h) = inr (h.0, sym (eqb-true loop.first to h.1), h.2)

-- the number that a copy in a loop has
pub numbered : (n : ℕ) (loop : Loop) (l k : ℕ) (ks : List ℕ) (Rest : Type 0) → IsInner n loop (copy l (k ∷ ks)) (k ∷ ks) Rest → IsNumber n loop l k
numbered n loop l k ks Rest h = by h.1
  where
    by : (k < n) ⊎ ((loop.entry_turn ≡ false) × (copy l (k ∷ ks) ≡ copy loop.first (n ∷ []))) → IsNumber n loop l k
    by (inl lt) = inl lt
    by (inr g) = inr (g.0, ap (λ (c : Copy). location_of c) g.1, ap (λ (c : Copy). front (numbers_of c)) g.1)

-- no later loop holds the first location, where entering the loop starts no turn
pub alone : (loop : Loop) (loops : List Loop) (e l to : ℕ) → loop.first ≤ loop.last → loop.entry_turn ≡ false → to ≡ loop.first
    → AllByRecursion (IsLater loop) loops → AllByRecursion (λ (other : Loop). holds other to ≡ false) loops
alone loop loops e l to range off first later = mapped (IsLater loop) (λ (other : Loop). holds other to ≡ false) loops each later
  where
    each : (other : Loop) → IsLater loop other → holds other to ≡ false
    each other (inl h) = let lt = h.2 off in out_before other to (omega (arith, first, lt))
    each other (inr h) = out_before other to (omega (arith, first, h, range))

pub entered_bare : (loops : List Loop) (to : ℕ) → AllByRecursion (λ (other : Loop). holds other to ≡ false) loops → entered_copy loops to ≡ copy to []
entered_bare [] to none = refl
entered_bare (loop ∷ loops) to none =
    ap (λ (t : Bool). cond t (within 0 (entered_copy loops to)) (entered_copy loops to)) none.0 ∙ entered_bare loops to none.1

-- ---- a copy again

abbrev Valid : ℕ → List Loop → ℕ → ℕ → ℕ → Type 0
Valid n loops e l to = (a b : ℕ) (ks : List ℕ) → AreOf a b loops → a ≤ l → l < b → a ≤ to → to < b → IsCopy n loops a b (copy l ks)
    → IsCopy n loops a b (target n loops e l to ks)

-- on one side of a loop
valid_before : (n : ℕ) (loop : Loop) (loops : List Loop) (a b e l to : ℕ) (ks : List ℕ) → AreInOrder (loop ∷ loops)
    → fits loop a b ≡ true → a ≤ l → a ≤ to → l < loop.first → to < loop.first → Valid n loops e l to → IsCopy n (loop ∷ loops) a b (copy l ks)
    → IsCopy n (loop ∷ loops) a b (target n (loop ∷ loops) e l to ks)
valid_before n loop loops a b e l to ks order f low first lt less go h =
    let g = go a loop.first ks (of_before loop loops a order.0 order.1) low lt first less (before_copy n loop loops a b (copy l ks) f lt h) in
    let at = copy_bounds n loops a loop.first (target n loops e l to ks) (ranges_of loops order.2) g in
    subst (λ (c : Copy). IsCopy n (loop ∷ loops) a b c) (sym (target_out n loop loops e l to ks (out_before loop l lt) (out_before loop to less)))
    (copy_before n loop loops a b (target n loops e l to ks) f at.1 g)

valid_behind : (n : ℕ) (loop : Loop) (loops : List Loop) (a b e l to : ℕ) (ks : List ℕ) → AreInOrder (loop ∷ loops) → AreOf a b loops
    → fits loop a b ≡ true → l < b → to < b → loop.last < l → loop.last < to → Valid n loops e l to → IsCopy n (loop ∷ loops) a b (copy l ks)
    → IsCopy n (loop ∷ loops) a b (target n (loop ∷ loops) e l to ks)
valid_behind n loop loops a b e l to ks order of f high last lt less go h =
    let fit = fitting loop a b f in
    let g = go (suc loop.last) b ks (of_behind loop loops a b order.0 fit.0 order.2 order.1 of) (omega (arith, lt)) high (omega (arith, less)) last
    (behind_copy n loop loops a b (copy l ks) f (omega (arith, lt, order.0)) lt h) in
    let at = copy_bounds n loops (suc loop.last) b (target n loops e l to ks) (ranges_of loops order.2) g in
    subst (λ (c : Copy). IsCopy n (loop ∷ loops) a b c) (sym (target_out n loop loops e l to ks (out_behind loop l lt) (out_behind loop to less)))
    (copy_behind n loop loops a b (target n loops e l to ks) f (omega (arith, at.0, order.0)) (omega (arith, at.0)) g)

-- both in the loop
valid_here : (n : ℕ) (loop : Loop) (loops : List Loop) (a b e l to k : ℕ) (ks : List ℕ) → AreInOrder (loop ∷ loops)
    → fits loop a b ≡ true → AllLed e l to (loop ∷ loops)
    → loop.first ≤ l → l ≤ loop.last → loop.first ≤ to → to ≤ loop.last → Valid n loops e l to → IsNumber n loop l k
    → IsCopy n loops loop.first (suc loop.last) (copy l ks)
    → IsCopy n (loop ∷ loops) a b (target n (loop ∷ loops) e l to (k ∷ ks))
valid_here n loop loops a b e l to k ks order f led low high first last go number h =
    subst (λ (c : Copy). IsCopy n (loop ∷ loops) a b c) (sym (target_in n loop loops e l to k ks (in_here loop l low high) into))
    (by (is_past n loop e l k) refl)
  where
    into : holds loop to ≡ true
    into = in_here loop to first last

    inner : IsCopy n loops loop.first (suc loop.last) (target n loops e l to ks)
    inner = go loop.first (suc loop.last) ks (of_inside loop loops order.0 order.1) low (omega (arith, high)) first (omega (arith, last)) h

    bare : loop.entry_turn ≡ false → to ≡ loop.first → target n loops e l to ks ≡ copy loop.first []
    bare off same =
        let none = alone loop loops e l to order.0 off same order.1 in
        fresh n loops e l to ks led.1 (mapped (λ (other : Loop). holds other to ≡ false) (λ (other : Loop). holds other l ≡ true → holds other to ≡ true → ⊥)
        loops (λ other out x y. both_ways (holds other to) out y) none)
        ∙ entered_bare loops to none ∙ ap (λ (m : ℕ). copy m []) same

    further : IsNumber n loop to (next loop e to k)
        → (next loop e to k < n) ⊎ ((loop.entry_turn ≡ false) × (target n loops e l to ks ≡ copy loop.first []) × (next loop e to k ≡ n))
    further (inl lt) = inl lt
    further (inr g) = inr (g.0, bare g.0 g.1, g.2)

    by : (t : Bool) → is_past n loop e l k ≡ t
        → IsCopy n (loop ∷ loops) a b (led_to true true t loop (next loop e to k) (target n loops e l to ks))
    by true past = copy_here n loop loops a b (beyond loop []) f (omega arith) order.0 refl
    by false on = copy_within n loop loops a b (next loop e to k) (target n loops e l to ks) (ranges_of loops order.2) f
        (further (number_left n loop e l to k led.0 into number on)) inner

-- on different sides
valid_apart : (n : ℕ) → 0 < n → (loop : Loop) (loops : List Loop) (a b e l to : ℕ) (ks : List ℕ) → AreInOrder (loop ∷ loops) → AreOf a b (loop ∷ loops)
    → AllLed e l to (loop ∷ loops) → a ≤ to → to < b → (Together loop l to → ⊥)
    → IsCopy n (loop ∷ loops) a b (target n (loop ∷ loops) e l to ks)
valid_apart n some loop loops a b e l to ks order of led first last differ =
    subst (λ (c : Copy). IsCopy n (loop ∷ loops) a b c) (sym (fresh n (loop ∷ loops) e l to ks led (parted loop loops l to order.0 order.1 differ)))
    (entered_is_copy n some (loop ∷ loops) a b to order of first last)

valid_in : (n : ℕ) (loop : Loop) (loops : List Loop) (a b e l to : ℕ) (ks : List ℕ) → AreInOrder (loop ∷ loops)
    → fits loop a b ≡ true → AllLed e l to (loop ∷ loops)
    → loop.first ≤ l → l ≤ loop.last → loop.first ≤ to → to ≤ loop.last → Valid n loops e l to
    → IsInner n loop (copy l ks) ks (IsCopy n loops loop.first (suc loop.last) (copy l (back ks)))
    → IsCopy n (loop ∷ loops) a b (target n (loop ∷ loops) e l to ks)
valid_in n loop loops a b e l to [] order f led low high first last go h = absurd (copy_is_no_over l [] loop h)
valid_in n loop loops a b e l to (k ∷ ks) order f led low high first last go h =
    valid_here n loop loops a b e l to k ks order f led low high first last go
    (numbered n loop l k ks (IsCopy n loops loop.first (suc loop.last) (copy l ks)) h) h.0

valid_fit : (n : ℕ) → 0 < n → (loop : Loop) (loops : List Loop) (a b e l to : ℕ) (ks : List ℕ) → AreInOrder (loop ∷ loops) → AreOf a b (loop ∷ loops)
    → AllLed e l to (loop ∷ loops) → a ≤ l → l < b → a ≤ to → to < b → fits loop a b ≡ true → Valid n loops e l to
    → IsCopy n (loop ∷ loops) a b (copy l ks) → IsCopy n (loop ∷ loops) a b (target n (loop ∷ loops) e l to ks)
valid_fit n some loop loops a b e l to ks order of led low high first last f go h = by (side loop l) (side loop to)
  where
    apart : (Together loop l to → ⊥) → IsCopy n (loop ∷ loops) a b (target n (loop ∷ loops) e l to ks)
    apart differ = valid_apart n some loop loops a b e l to ks order of led first last differ

    no_before : l < loop.first → Together loop l to → ⊥
    no_before lt (inl g) = omega (arith, g.0, lt)
    no_before lt (inr g) = omega (arith, g.0, lt, order.0)

    to_before : to < loop.first → Together loop l to → ⊥
    to_before lt (inl g) = omega (arith, g.2, lt)
    to_before lt (inr g) = omega (arith, g.1, lt, order.0)

    here_behind : l ≤ loop.last → loop.last < to → Together loop l to → ⊥
    here_behind le lt (inl g) = omega (arith, g.3, lt)
    here_behind le lt (inr g) = omega (arith, g.0, le)

    behind_here : loop.last < l → to ≤ loop.last → Together loop l to → ⊥
    behind_here lt le (inl g) = omega (arith, g.1, lt)
    behind_here lt le (inr g) = omega (arith, g.1, le)

    by : Side loop l → Side loop to → IsCopy n (loop ∷ loops) a b (target n (loop ∷ loops) e l to ks)
    by (before lt) (before less) = valid_before n loop loops a b e l to ks order f low first lt less go h
    by (before lt) (here x y) = apart (no_before lt)
    by (before lt) (behind x y) = apart (no_before lt)
    by (here x y) (before less) = apart (to_before less)
    by (here x y) (here u v) =
        valid_in n loop loops a b e l to ks order f led x y u v go (here_copy n loop loops a b (copy l ks) f x y h)
    by (here x y) (behind u v) = apart (here_behind y v)
    by (behind x y) (before less) = apart (to_before less)
    by (behind x y) (here u v) = apart (behind_here y v)
    by (behind x y) (behind u v) = valid_behind n loop loops a b e l to ks order of.1 f high last y v go h

pub valid : (n : ℕ) → 0 < n → (loops : List Loop) (e l to : ℕ) → AreInOrder loops → AllLed e l to loops → Valid n loops e l to
valid n some [] e l to order led a b ks of low high first last h = (first, last, refl)
valid n some (loop ∷ loops) e l to order led a b ks of low high first last h =
    by (fits loop a b) refl (valid n some loops e l to order.2 led.1)
  where
    by : (f : Bool) → fits loop a b ≡ f → Valid n loops e l to → IsCopy n (loop ∷ loops) a b (target n (loop ∷ loops) e l to ks)
    by true f go = valid_fit n some loop loops a b e l to ks order of led low high first last f go h
    by false f go =
        let out = apart_of loop a b of.0 f in
        subst (λ (c : Copy). IsCopy n (loop ∷ loops) a b c)
        (sym (target_out n loop loops e l to ks (apart_holds loop a b l out low high) (apart_holds loop a b to out first last)))
        (copy_apart n loop loops a b (target n loops e l to ks) f (go a b ks of.1 low high first last (apart_copy n loop loops a b (copy l ks) f h)))
