-- Places: what a copy takes ends within the text, and where an edge leads stands behind it.
use Rattle.std.proofs.Common.{◌≡◌, ℕ, zero, suc, ◌+◌, ◌*◌, ◌<◌, ◌≤◌, ◌⊎◌, inl, inr, List, [], ◌∷◌, Bool, true, false, ◌==◌, cond, refl, sym, subst, ap, ◌∙◌, suc-mul, arith}
use Rattle.std.specs.List.{AllByRecursion}
use Rattle.std.proofs.lemmas.Bool.{both_ways, le-leb, lt-leb, eq-eqb, cases_lt}
use Rattle.pv_flow.specs.Automata.{Loop, holds, is_turn}
use Rattle.pv_copies.specs.Copies.{Copy, copy, beyond, location_of, numbers_of, within, front, back, taken_out, is_past, goes_round, led_to, target}
use Rattle.pv_copies.specs.Places.{fits, total, once, size, place_in, place, IsInner, IsCopy}
use Rattle.pv_copies.proofs.Leading.{mapped}
use Rattle.pv_copies.proofs.Nesting.{Side, before, here, behind, side, out_before, out_behind, in_here, IsLater, AreInOrder, AreOf, fitting, apart_of, apart_holds, of_before, of_inside, of_behind, IsBack, Leads, no_back}
use Rattle.pv_copies.proofs.Picking.{before_copy, behind_copy, here_copy, apart_copy, copy_bounds, size_at, size_apart, place_before, place_behind, place_here, place_apart, place_within}
use Rattle.pv_copies.proofs.Forward.{AllLed, ranges_of, entered_location, target_out, target_in, fresh, Together, parted, copy_is_no_over, turns_fit, valid}

-- ---- totals

total_step : (w : ℕ → ℕ) (a b : ℕ) → a ≤ b → total w a (suc b) ≡ total w a b + w b
total_step w a b le = ap (λ (t : Bool). cond t (total w a b + w b) 0) (le-leb a b le)

pub total_none : (w : ℕ → ℕ) (a b : ℕ) → b ≤ a → total w a b ≡ 0
total_none w a zero le = refl
total_none w a (suc b) le = ap (λ (t : Bool). cond t (total w a b + w b) 0) (lt-leb a b (omega (arith, le)))

pub total_rises : (w : ℕ → ℕ) (a l b : ℕ) → a ≤ l → l < b → total w a l + w l ≤ total w a b
total_rises w a l zero low lt = absurd (omega (arith, lt))
total_rises w a l (suc b) low lt = by (cases_lt l b) (λ less. total_rises w a l b low less)
  where
    step : total w a (suc b) ≡ total w a b + w b
    step = total_step w a b (omega (arith, low, lt))

    by : (l < b) ⊎ (b ≤ l) → (l < b → total w a l + w l ≤ total w a b) → total w a l + w l ≤ total w a (suc b)
    by (inl less) go = let rest = go less in omega (arith, rest, step)
    by (inr le) go = subst (λ (m : ℕ). total w a m + w m ≤ total w a (suc b)) (same le) (omega (arith, step))
      where
        same : b ≤ l → b ≡ l
        same le = omega (arith, le, lt)

-- ---- within the text

-- what a copy takes
abbrev pub weight : (ℕ → ℕ) → ℕ → Copy → ℕ
weight w o (copy l ks) = w l
weight w o (beyond loop ks) = o

weight_out : (w : ℕ → ℕ) (o : ℕ) (c : Copy) → weight w o (taken_out c) ≡ weight w o c
weight_out w o (copy l ks) = refl
weight_out w o (beyond loop ks) = refl

-- the first location stands first, where no loop begins there
pub first_place : (w : ℕ → ℕ) (o n : ℕ) (loops : List Loop) (a b : ℕ) → AllByRecursion (λ (loop : Loop). a < loop.first) loops
    → place w o n loops a b (copy a []) ≡ 0
first_place w o n [] a b all = total_none w a a (omega arith)
first_place w o n (loop ∷ loops) a b all = by (fits loop a b) refl (λ x. first_place w o n loops a x all.1)
  where
    by : (f : Bool) → fits loop a b ≡ f → ((x : ℕ) → place w o n loops a x (copy a []) ≡ 0) → place w o n (loop ∷ loops) a b (copy a []) ≡ 0
    by true f go = place_before w o n loop loops a b (copy a []) f all.0 ∙ go loop.first
    by false f go = place_apart w o n loop loops a b (copy a []) f ∙ go b

pub later_begin : (loop : Loop) (loops : List Loop) → loop.first ≤ loop.last → loop.entry_turn ≡ false → AllByRecursion (IsLater loop) loops
    → AllByRecursion (λ (other : Loop). loop.first < other.first) loops
later_begin loop loops range off later = mapped (IsLater loop) (λ (other : Loop). loop.first < other.first) loops each later
  where
    each : (other : Loop) → IsLater loop other → loop.first < other.first
    each other (inl h) = h.2 off
    each other (inr h) = omega (arith, h, range)

pub once_off : (w : ℕ → ℕ) (loop : Loop) → loop.entry_turn ≡ false → once w loop ≡ w loop.first
once_off w loop off = ap (λ (b : Bool). cond b 0 (w loop.first)) off

abbrev Bound : (ℕ → ℕ) → ℕ → ℕ → List Loop → Copy → Type 0
Bound w o n loops c = (a b : ℕ) → IsCopy n loops a b c → place w o n loops a b c + weight w o c ≤ size w o n loops a b

-- what stands in a turn of the loop, from the loop's beginning on
turn_bound : (w : ℕ → ℕ) (o n : ℕ) (loop : Loop) (loops : List Loop) (c : Copy) (k : ℕ) (ks : List ℕ) → AreInOrder (loop ∷ loops)
    → numbers_of c ≡ k ∷ ks → IsInner n loop c (k ∷ ks) (IsCopy n loops loop.first (suc loop.last) (taken_out c))
    → place w o n loops loop.first (suc loop.last) (taken_out c) + weight w o c ≤ size w o n loops loop.first (suc loop.last)
    → k * size w o n loops loop.first (suc loop.last) + place w o n loops loop.first (suc loop.last) (taken_out c) + weight w o c
    ≤ n * size w o n loops loop.first (suc loop.last) + once w loop
turn_bound w o n loop loops c k ks order same h inside = by h.1
  where
    by : (k < n) ⊎ ((loop.entry_turn ≡ false) × (c ≡ copy loop.first (n ∷ [])))
        → k * size w o n loops loop.first (suc loop.last) + place w o n loops loop.first (suc loop.last) (taken_out c) + weight w o c
        ≤ n * size w o n loops loop.first (suc loop.last) + once w loop
    by (inl lt) = let more = turns_fit k n (size w o n loops loop.first (suc loop.last)) lt in omega (arith, more, inside)
    by (inr g) =
        let number : k ≡ n = ap front (sym same) ∙ ap (λ (x : Copy). front (numbers_of x)) g.1 in
        let none : place w o n loops loop.first (suc loop.last) (taken_out c) ≡ 0 =
        ap (λ (x : Copy). place w o n loops loop.first (suc loop.last) (taken_out x)) g.1
        ∙ first_place w o n loops loop.first (suc loop.last) (later_begin loop loops order.0 g.0 order.1) in
        let times : k * size w o n loops loop.first (suc loop.last) ≡ n * size w o n loops loop.first (suc loop.last) =
        ap (λ (m : ℕ). m * size w o n loops loop.first (suc loop.last)) number in
        let heavy : weight w o c ≡ w loop.first = ap (λ (x : Copy). weight w o x) g.1 in
        omega (arith, none, times, heavy, once_off w loop g.0)

-- what stands in the loop
inner_bound : (w : ℕ → ℕ) (o n : ℕ) (loop : Loop) (loops : List Loop) (c : Copy) (ks : List ℕ) → AreInOrder (loop ∷ loops) → numbers_of c ≡ ks
    → IsInner n loop c ks (IsCopy n loops loop.first (suc loop.last) (taken_out c))
    → (IsCopy n loops loop.first (suc loop.last) (taken_out c)
    → place w o n loops loop.first (suc loop.last) (taken_out c) + weight w o c ≤ size w o n loops loop.first (suc loop.last))
    → place_in n (size w o n loops loop.first (suc loop.last)) (once w loop) ks (place w o n loops loop.first (suc loop.last) (taken_out c))
    + weight w o c ≤ n * size w o n loops loop.first (suc loop.last) + once w loop + o
inner_bound w o n loop loops c [] order same h go =
    let e : weight w o c ≡ o = ap (λ (x : Copy). weight w o x) h in omega (arith, e)
inner_bound w o n loop loops c (k ∷ ks) order same h go =
    let turn = turn_bound w o n loop loops c k ks order same h (go h.0) in omega (arith, turn)

pub bound : (w : ℕ → ℕ) (o n : ℕ) (loops : List Loop) (c : Copy) → AreInOrder loops → Bound w o n loops c
bound w o n [] c order a b h = subst (λ (m : ℕ). total w a (location_of c) + m ≤ total w a b) (sym (ap (λ (x : Copy). weight w o x) h.2))
    (total_rises w a (location_of c) b h.0 h.1)
bound w o n (loop ∷ loops) c order a b h =
    by (fits loop a b) refl (side loop (location_of c)) (bound w o n loops c order.2) (bound w o n loops (taken_out c) order.2)
  where
    by : (f : Bool) → fits loop a b ≡ f → Side loop (location_of c) → Bound w o n loops c → Bound w o n loops (taken_out c)
        → place w o n (loop ∷ loops) a b c + weight w o c ≤ size w o n (loop ∷ loops) a b
    by false f s go in_ =
        let g = go a b (apart_copy n loop loops a b c f h) in
        omega (arith, g, place_apart w o n loop loops a b c f, size_apart w o n loop loops a b f)
    by true f (before lt) go in_ =
        let g = go a loop.first (before_copy n loop loops a b c f lt h) in
        omega (arith, g, place_before w o n loop loops a b c f lt, size_at w o n loop loops a b f)
    by true f (behind low lt) go in_ =
        let g = go (suc loop.last) b (behind_copy n loop loops a b c f low lt h) in
        omega (arith, g, place_behind w o n loop loops a b c f low lt, size_at w o n loop loops a b f)
    by true f (here low high) go in_ =
        let g = inner_bound w o n loop loops c (numbers_of c) order refl (here_copy n loop loops a b c f low high h) (λ i.
        subst (λ (m : ℕ). place w o n loops loop.first (suc loop.last) (taken_out c) + m ≤ size w o n loops loop.first (suc loop.last))
        (weight_out w o c) (in_ loop.first (suc loop.last) i)) in
        omega (arith, g, place_here w o n loop loops a b c f low high, size_at w o n loop loops a b f)

-- ---- where an edge leads stands behind

abbrev Rises : (ℕ → ℕ) → ℕ → ℕ → List Loop → ℕ → ℕ → ℕ → Type 0
Rises w o n loops e l to = (a b : ℕ) (ks : List ℕ) → AreOf a b loops → a ≤ l → l < b → a ≤ to → to < b → IsCopy n loops a b (copy l ks)
    → Leads e l to loops → place w o n loops a b (copy l ks) + w l ≤ place w o n loops a b (target n loops e l to ks)

-- only later loops lead back, if the loop doesn't hold where the edge begins, or doesn't begin where it ends
back_later : (e l to : ℕ) (loop : Loop) (loops : List Loop) → (IsBack e l to loop → ⊥) → Leads e l to (loop ∷ loops) → Leads e l to loops
back_later e l to loop loops differ (inl lt) = inl lt
back_later e l to loop loops differ (inr (inl h)) = absurd (differ h)
back_later e l to loop loops differ (inr (inr h)) = inr h

not_held : (e l to : ℕ) (loop : Loop) → holds loop l ≡ false → IsBack e l to loop → ⊥
not_held e l to loop out h = both_ways (holds loop l) out h.1

rises_before : (w : ℕ → ℕ) (o n : ℕ) → 0 < n → (loop : Loop) (loops : List Loop) (a b e l to : ℕ) (ks : List ℕ) → AreInOrder (loop ∷ loops)
    → AllLed e l to loops → fits loop a b ≡ true → a ≤ l → a ≤ to → l < loop.first → to < loop.first → Rises w o n loops e l to
    → IsCopy n (loop ∷ loops) a b (copy l ks) → Leads e l to (loop ∷ loops)
    → place w o n (loop ∷ loops) a b (copy l ks) + w l ≤ place w o n (loop ∷ loops) a b (target n (loop ∷ loops) e l to ks)
rises_before w o n some loop loops a b e l to ks order led f low first lt less go h leads =
    let of = of_before loop loops a order.0 order.1 in
    let i = before_copy n loop loops a b (copy l ks) f lt h in
    let g = go a loop.first ks of low lt first less i (back_later e l to loop loops (not_held e l to loop (out_before loop l lt)) leads) in
    let t = valid n some loops e l to order.2 led a loop.first ks of low lt first less i in
    let at = copy_bounds n loops a loop.first (target n loops e l to ks) (ranges_of loops order.2) t in
    subst (λ (c : Copy). place w o n (loop ∷ loops) a b (copy l ks) + w l ≤ place w o n (loop ∷ loops) a b c)
    (sym (target_out n loop loops e l to ks (out_before loop l lt) (out_before loop to less)))
    (omega (arith, g, place_before w o n loop loops a b (copy l ks) f lt, place_before w o n loop loops a b (target n loops e l to ks) f at.1))

rises_behind : (w : ℕ → ℕ) (o n : ℕ) → 0 < n → (loop : Loop) (loops : List Loop) (a b e l to : ℕ) (ks : List ℕ) → AreInOrder (loop ∷ loops)
    → AreOf a b loops → AllLed e l to loops → fits loop a b ≡ true → l < b → to < b → loop.last < l → loop.last < to → Rises w o n loops e l to
    → IsCopy n (loop ∷ loops) a b (copy l ks) → Leads e l to (loop ∷ loops)
    → place w o n (loop ∷ loops) a b (copy l ks) + w l ≤ place w o n (loop ∷ loops) a b (target n (loop ∷ loops) e l to ks)
rises_behind w o n some loop loops a b e l to ks order of_all led f high last lt less go h leads =
    let fit = fitting loop a b f in
    let of = of_behind loop loops a b order.0 fit.0 order.2 order.1 of_all in
    let over : loop.first ≤ l = omega (arith, lt, order.0) in
    let i = behind_copy n loop loops a b (copy l ks) f over lt h in
    let low : suc loop.last ≤ l = omega (arith, lt) in
    let first : suc loop.last ≤ to = omega (arith, less) in
    let g = go (suc loop.last) b ks of low high first last i (back_later e l to loop loops (not_held e l to loop (out_behind loop l lt)) leads) in
    let t = valid n some loops e l to order.2 led (suc loop.last) b ks of low high first last i in
    let at = copy_bounds n loops (suc loop.last) b (target n loops e l to ks) (ranges_of loops order.2) t in
    let further : loop.last < location_of (target n loops e l to ks) = omega (arith, at.0) in
    let beside : loop.first ≤ location_of (target n loops e l to ks) = omega (arith, at.0, order.0) in
    subst (λ (c : Copy). place w o n (loop ∷ loops) a b (copy l ks) + w l ≤ place w o n (loop ∷ loops) a b c)
    (sym (target_out n loop loops e l to ks (out_behind loop l lt) (out_behind loop to less)))
    (omega (arith, g, place_behind w o n loop loops a b (copy l ks) f over lt, place_behind w o n loop loops a b (target n loops e l to ks) f beside further))

-- both in the loop
rises_turn : (w : ℕ → ℕ) (o n : ℕ) → 0 < n → (loop : Loop) (loops : List Loop) (a b e l to k : ℕ) (ks : List ℕ) → AreInOrder (loop ∷ loops)
    → AllLed e l to loops → fits loop a b ≡ true → loop.first ≤ l → l ≤ loop.last → loop.first ≤ to → to ≤ loop.last → Rises w o n loops e l to
    → IsCopy n loops loop.first (suc loop.last) (copy l ks)
    → place_in n (size w o n loops loop.first (suc loop.last)) (once w loop) (k ∷ ks) (place w o n loops loop.first (suc loop.last) (copy l ks)) + w l
    ≤ n * size w o n loops loop.first (suc loop.last) + once w loop
    → Leads e l to (loop ∷ loops)
    → place w o n (loop ∷ loops) a b (copy l (k ∷ ks)) + w l ≤ place w o n (loop ∷ loops) a b (target n (loop ∷ loops) e l to (k ∷ ks))
rises_turn w o n some loop loops a b e l to k ks order led f low high first last go h within_text leads =
    subst (λ (c : Copy). place w o n (loop ∷ loops) a b (copy l (k ∷ ks)) + w l ≤ place w o n (loop ∷ loops) a b c)
    (sym (target_in n loop loops e l to k ks (in_here loop l low high) (in_here loop to first last)))
    (by (is_past n loop e l k) (goes_round loop e to) refl)
  where
    of : AreOf loop.first (suc loop.last) loops
    of = of_inside loop loops order.0 order.1

    high_in : l < suc loop.last
    high_in = omega (arith, high)

    last_in : to < suc loop.last
    last_in = omega (arith, last)

    is : IsCopy n loops loop.first (suc loop.last) (target n loops e l to ks)
    is = valid n some loops e l to order.2 led loop.first (suc loop.last) ks of low high_in first last_in h

    at : (loop.first ≤ location_of (target n loops e l to ks)) × (location_of (target n loops e l to ks) < suc loop.last)
    at = copy_bounds n loops loop.first (suc loop.last) (target n loops e l to ks) (ranges_of loops order.2) is

    here_is : place w o n (loop ∷ loops) a b (copy l (k ∷ ks)) ≡ size w o n loops a loop.first
        + (k * size w o n loops loop.first (suc loop.last) + place w o n loops loop.first (suc loop.last) (copy l ks))
    here_is = place_here w o n loop loops a b (copy l (k ∷ ks)) f low high

    there_is : (j : ℕ) → place w o n (loop ∷ loops) a b (within j (target n loops e l to ks)) ≡ size w o n loops a loop.first
        + (j * size w o n loops loop.first (suc loop.last) + place w o n loops loop.first (suc loop.last) (target n loops e l to ks))
    there_is j = place_within w o n loop loops a b j (target n loops e l to ks) f at.0 (omega (arith, at.1))

    stays : goes_round loop e to ≡ false → IsBack e l to loop → ⊥
    stays off it = by_entry loop.entry_turn refl
      where
        by_entry : (t : Bool) → loop.entry_turn ≡ t → ⊥
        by_entry true on = both_ways (is_turn loop e) (sym (ap (λ (t : Bool). cond t (is_turn loop e) (loop.first == to)) on) ∙ off) (it.2 on)
        by_entry false on = both_ways (loop.first == to) (sym (ap (λ (t : Bool). cond t (is_turn loop e) (loop.first == to)) on) ∙ off)
            (eq-eqb loop.first to (sym it.0))

    by : (past round : Bool) → goes_round loop e to ≡ round → place w o n (loop ∷ loops) a b (copy l (k ∷ ks)) + w l
        ≤ place w o n (loop ∷ loops) a b (led_to true true past loop (k + cond round 1 0) (target n loops e l to ks))
    by true round r =
        let there = place_here w o n loop loops a b (beyond loop []) f (omega arith) order.0 in omega (arith, here_is, there, within_text)
    by false true r =
        let inside = bound w o n loops (copy l ks) order.2 loop.first (suc loop.last) h in
        let more : (k + 1) * size w o n loops loop.first (suc loop.last)
        ≡ k * size w o n loops loop.first (suc loop.last) + size w o n loops loop.first (suc loop.last) =
        ap (λ (m : ℕ). m * size w o n loops loop.first (suc loop.last)) (one_more k) ∙ suc-mul k (size w o n loops loop.first (suc loop.last)) in
        omega (arith, here_is, there_is (k + 1), more, inside)
      where
        one_more : (k : ℕ) → k + 1 ≡ suc k
        one_more k = omega arith
    by false false r =
        let g = go loop.first (suc loop.last) ks of low high_in first last_in h (back_later e l to loop loops (stays r) leads) in
        let same : (k + 0) * size w o n loops loop.first (suc loop.last) ≡ k * size w o n loops loop.first (suc loop.last) =
        ap (λ (m : ℕ). m * size w o n loops loop.first (suc loop.last)) (as_it_is k) in
        omega (arith, here_is, there_is (k + 0), same, g)
      where
        as_it_is : (k : ℕ) → k + 0 ≡ k
        as_it_is k = omega arith

rises_in : (w : ℕ → ℕ) (o n : ℕ) → 0 < n → (loop : Loop) (loops : List Loop) (a b e l to : ℕ) (ks : List ℕ) → AreInOrder (loop ∷ loops)
    → AllLed e l to loops → fits loop a b ≡ true → loop.first ≤ l → l ≤ loop.last → loop.first ≤ to → to ≤ loop.last → Rises w o n loops e l to
    → IsInner n loop (copy l ks) ks (IsCopy n loops loop.first (suc loop.last) (copy l (back ks)))
    → Leads e l to (loop ∷ loops)
    → place w o n (loop ∷ loops) a b (copy l ks) + w l ≤ place w o n (loop ∷ loops) a b (target n (loop ∷ loops) e l to ks)
rises_in w o n some loop loops a b e l to [] order led f low high first last go h leads = absurd (copy_is_no_over l [] loop h)
rises_in w o n some loop loops a b e l to (k ∷ ks) order led f low high first last go h leads =
    rises_turn w o n some loop loops a b e l to k ks order led f low high first last go h.0
    (turn_bound w o n loop loops (copy l (k ∷ ks)) k ks order refl h (bound w o n loops (copy l ks) order.2 loop.first (suc loop.last) h.0)) leads

-- ---- from one side of a loop to another

place_from : (w : ℕ → ℕ) (o n : ℕ) (loop : Loop) (loops : List Loop) (a b : ℕ) (c : Copy) → fits loop a b ≡ true → loop.first ≤ location_of c
    → size w o n loops a loop.first ≤ place w o n (loop ∷ loops) a b c
place_from w o n loop loops a b c f low = by (side loop (location_of c))
  where
    by : Side loop (location_of c) → size w o n loops a loop.first ≤ place w o n (loop ∷ loops) a b c
    by (before lt) = absurd (omega (arith, lt, low))
    by (here x y) = omega (arith, place_here w o n loop loops a b c f x y)
    by (behind x y) = omega (arith, place_behind w o n loop loops a b c f x y)

-- where it leads is entered
apart_at : (n : ℕ) (loop : Loop) (loops : List Loop) (e l to : ℕ) (ks : List ℕ) → AreInOrder (loop ∷ loops) → AllLed e l to (loop ∷ loops)
    → (Together loop l to → ⊥) → location_of (target n (loop ∷ loops) e l to ks) ≡ to
apart_at n loop loops e l to ks order led differ =
    ap (λ (c : Copy). location_of c) (fresh n (loop ∷ loops) e l to ks led (parted loop loops l to order.0 order.1 differ)) ∙ entered_location (loop ∷ loops) to

rises_from_before : (w : ℕ → ℕ) (o n : ℕ) (loop : Loop) (loops : List Loop) (a b e l to : ℕ) (ks : List ℕ) → AreInOrder (loop ∷ loops)
    → AllLed e l to (loop ∷ loops) → fits loop a b ≡ true → l < loop.first → loop.first ≤ to → (Together loop l to → ⊥)
    → IsCopy n (loop ∷ loops) a b (copy l ks)
    → place w o n (loop ∷ loops) a b (copy l ks) + w l ≤ place w o n (loop ∷ loops) a b (target n (loop ∷ loops) e l to ks)
rises_from_before w o n loop loops a b e l to ks order led f lt low differ h =
    let g = bound w o n loops (copy l ks) order.2 a loop.first (before_copy n loop loops a b (copy l ks) f lt h) in
    let at = apart_at n loop loops e l to ks order led differ in
    let least = place_from w o n loop loops a b (target n (loop ∷ loops) e l to ks) f (omega (arith, at, low)) in
    omega (arith, g, least, place_before w o n loop loops a b (copy l ks) f lt)

rises_out : (w : ℕ → ℕ) (o n : ℕ) (loop : Loop) (loops : List Loop) (a b e l to : ℕ) (ks : List ℕ) → AreInOrder (loop ∷ loops)
    → AllLed e l to (loop ∷ loops) → fits loop a b ≡ true → loop.first ≤ l → l ≤ loop.last → loop.last < to → (Together loop l to → ⊥)
    → IsInner n loop (copy l ks) ks (IsCopy n loops loop.first (suc loop.last) (copy l (back ks)))
    → place w o n (loop ∷ loops) a b (copy l ks) + w l ≤ place w o n (loop ∷ loops) a b (target n (loop ∷ loops) e l to ks)
rises_out w o n loop loops a b e l to [] order led f low high past differ h = absurd (copy_is_no_over l [] loop h)
rises_out w o n loop loops a b e l to (k ∷ ks) order led f low high past differ h =
    let g = turn_bound w o n loop loops (copy l (k ∷ ks)) k ks order refl h (bound w o n loops (copy l ks) order.2 loop.first (suc loop.last) h.0) in
    let at = apart_at n loop loops e l to (k ∷ ks) order led differ in
    let there = place_behind w o n loop loops a b (target n (loop ∷ loops) e l to (k ∷ ks)) f (omega (arith, at, past, order.0)) (omega (arith, at, past)) in
    omega (arith, g, there, place_here w o n loop loops a b (copy l (k ∷ ks)) f low high)

-- not back before the loop, nor into it from behind
not_back : (loop : Loop) (loops : List Loop) (e l to : ℕ) → AreInOrder (loop ∷ loops)
    → ((to < loop.first) × (loop.first ≤ l)) ⊎ ((to ≤ loop.last) × (loop.last < l)) → Leads e l to (loop ∷ loops) → ⊥
not_back loop loops e l to order (inl g) (inl lt) = omega (arith, g.0, g.1, lt)
not_back loop loops e l to order (inl g) (inr (inl h)) = omega (arith, g.0, h.0)
not_back loop loops e l to order (inl g) (inr (inr h)) = no_back loop loops e l to order.0 order.1 (inl g.0) h
not_back loop loops e l to order (inr g) (inl lt) = omega (arith, g.0, g.1, lt)
not_back loop loops e l to order (inr g) (inr (inl h)) = not_held e l to loop (out_behind loop l g.1) h
not_back loop loops e l to order (inr g) (inr (inr h)) = no_back loop loops e l to order.0 order.1 (inr g) h

rises_fit : (w : ℕ → ℕ) (o n : ℕ) → 0 < n → (loop : Loop) (loops : List Loop) (a b e l to : ℕ) (ks : List ℕ) → AreInOrder (loop ∷ loops)
    → AreOf a b (loop ∷ loops) → AllLed e l to (loop ∷ loops) → a ≤ l → l < b → a ≤ to → to < b → fits loop a b ≡ true → Rises w o n loops e l to
    → IsCopy n (loop ∷ loops) a b (copy l ks) → Leads e l to (loop ∷ loops)
    → place w o n (loop ∷ loops) a b (copy l ks) + w l ≤ place w o n (loop ∷ loops) a b (target n (loop ∷ loops) e l to ks)
rises_fit w o n some loop loops a b e l to ks order of led low high first last f go h leads = by (side loop l) (side loop to)
  where
    from_before : l < loop.first → Together loop l to → ⊥
    from_before lt (inl g) = omega (arith, g.0, lt)
    from_before lt (inr g) = omega (arith, g.0, lt, order.0)

    here_behind : l ≤ loop.last → loop.last < to → Together loop l to → ⊥
    here_behind le lt (inl g) = omega (arith, g.3, lt)
    here_behind le lt (inr g) = omega (arith, g.0, le)

    by : Side loop l → Side loop to
        → place w o n (loop ∷ loops) a b (copy l ks) + w l ≤ place w o n (loop ∷ loops) a b (target n (loop ∷ loops) e l to ks)
    by (before lt) (before less) = rises_before w o n some loop loops a b e l to ks order led.1 f low first lt less go h leads
    by (before lt) (here x y) = rises_from_before w o n loop loops a b e l to ks order led f lt x (from_before lt) h
    by (before lt) (behind x y) = rises_from_before w o n loop loops a b e l to ks order led f lt x (from_before lt) h
    by (here x y) (before less) = absurd (not_back loop loops e l to order (inl (less, x)) leads)
    by (here x y) (here u v) =
        rises_in w o n some loop loops a b e l to ks order led.1 f x y u v go (here_copy n loop loops a b (copy l ks) f x y h) leads
    by (here x y) (behind u v) = rises_out w o n loop loops a b e l to ks order led f x y v (here_behind y v) (here_copy n loop loops a b (copy l ks) f x y h)
    by (behind x y) (before less) = absurd (not_back loop loops e l to order (inl (less, x)) leads)
    by (behind x y) (here u v) = absurd (not_back loop loops e l to order (inr (v, y)) leads)
    by (behind x y) (behind u v) = rises_behind w o n some loop loops a b e l to ks order of.1 led.1 f high last y v go h leads

pub rises : (w : ℕ → ℕ) (o n : ℕ) → 0 < n → (loops : List Loop) (e l to : ℕ) → AreInOrder loops → AllLed e l to loops → Rises w o n loops e l to
rises w o n some [] e l to order led a b ks of low high first last h (inl lt) = total_rises w a l to low lt
rises w o n some [] e l to order led a b ks of low high first last h (inr back) = absurd back
rises w o n some (loop ∷ loops) e l to order led a b ks of low high first last h leads =
    by (fits loop a b) refl (rises w o n some loops e l to order.2 led.1)
  where
    by : (f : Bool) → fits loop a b ≡ f → Rises w o n loops e l to
        → place w o n (loop ∷ loops) a b (copy l ks) + w l ≤ place w o n (loop ∷ loops) a b (target n (loop ∷ loops) e l to ks)
    by true f go = rises_fit w o n some loop loops a b e l to ks order of led low high first last f go h leads
    by false f go =
        let out = apart_of loop a b of.0 f in
        let apart = apart_holds loop a b l out low high in
        let i = apart_copy n loop loops a b (copy l ks) f h in
        let g = go a b ks of.1 low high first last i (back_later e l to loop loops (not_held e l to loop apart) leads) in
        subst (λ (c : Copy). place w o n (loop ∷ loops) a b (copy l ks) + w l ≤ place w o n (loop ∷ loops) a b c)
        (sym (target_out n loop loops e l to ks apart (apart_holds loop a b to out first last)))
        (omega (arith, g, place_apart w o n loop loops a b (copy l ks) f, place_apart w o n loop loops a b (target n loops e l to ks) f))
