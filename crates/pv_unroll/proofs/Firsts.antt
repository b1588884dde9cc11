-- Where the first copies stand: behind what the locations before them take, of which loops count that end before.
use Rattle.std.proofs.Common.{◌≡◌, ℕ, zero, suc, ◌+◌, ◌*◌, ◌<◌, ◌≤◌, ◌⊎◌, inl, inr, List, [], ◌∷◌, drop, map, slice_get, Bool, true, false, nat_le, nat_lt, cond, Option, Some, None, refl, sym, ap, ◌∙◌, arith}
use Rattle.std.specs.List.{AllByRecursion}
use Rattle.std.proofs.lemmas.Bool.{true≢false, both_ways, le-leb, lt-leb, le-ltb, lt-ltb, leb-true, cases_lt, and_left, and_right, and_from}
use Rattle.pv_flow.specs.Automata.{Loop, is_turn}
use Rattle.pv_copies.specs.Copies.{Copy, copy, beyond, back}
use Rattle.pv_copies.specs.Places.{fits, total, once, size, place_in, place, IsInner, IsCopy}
use Rattle.pv_copies.proofs.ForCallers.{Side, before, here, behind, side, IsLater, AreInOrder, AreOf, fitting, later_first, apart_of, of_before, of_inside, of_behind, ranges_of, mapped, before_copy, behind_copy, here_copy, apart_copy, copy_bounds, size_at, size_apart, place_before, place_behind, place_here, place_apart}

abbrev pub Ranges : List Loop → Type 0
Ranges loops = AllByRecursion (λ (loop : Loop). loop.first ≤ loop.last) loops

-- ---- ranges that a loop doesn't fit

pub ends_out : (loop : Loop) (a b : ℕ) → b ≤ loop.last → fits loop a b ≡ false
ends_out loop a b le = and_right (nat_le a loop.first) (nat_lt loop.last b) (le-ltb loop.last b le)

pub begins_out : (loop : Loop) (a b : ℕ) → loop.first < a → fits loop a b ≡ false
begins_out loop a b lt = and_left (nat_le a loop.first) (nat_lt loop.last b) (lt-leb a loop.first lt)

pub fits_in : (loop : Loop) (a b : ℕ) → a ≤ loop.first → loop.last < b → fits loop a b ≡ true
fits_in loop a b low high = and_from (nat_le a loop.first) (nat_lt loop.last b) (le-leb a loop.first low) (lt-ltb loop.last b high)

-- ---- none

none_total : (w : ℕ → ℕ) (a b : ℕ) → b ≤ a → total w a b ≡ 0
none_total w a zero le = refl
none_total w a (suc b) le = by (nat_le a b) refl
  where
    by : (t : Bool) → nat_le a b ≡ t → cond t (total w a b + w b) 0 ≡ 0
    by false e = refl
    by true e = let low = leb-true a b e in absurd (omega (arith, low, le))

pub none_size : (w : ℕ → ℕ) (o n : ℕ) (loops : List Loop) (a b : ℕ) → Ranges loops → b ≤ a → size w o n loops a b ≡ 0
none_size w o n [] a b are le = none_total w a b le
none_size w o n (loop ∷ loops) a b are le = by (fits loop a b) refl (none_size w o n loops a b are.1 le)
  where
    by : (t : Bool) → fits loop a b ≡ t → size w o n loops a b ≡ 0 → size w o n (loop ∷ loops) a b ≡ 0
    by false e h = size_apart w o n loop loops a b e ∙ h
    by true e h = let low = fitting loop a b e in absurd (omega (arith, low.0, low.1, are.0, le))

-- ---- one location more

total_more : (w : ℕ → ℕ) (a l : ℕ) → a ≤ l → total w a (suc l) ≡ total w a l + w l
total_more w a l le = ap (λ (t : Bool). cond t (total w a l + w l) 0) (le-leb a l le)

-- no loop ends there
abbrev pub OffEnd : ℕ → Loop → Type 0
OffEnd l loop = (loop.last < l) ⊎ (l < loop.first)

pub size_more : (w : ℕ → ℕ) (o n : ℕ) (loops : List Loop) (a l : ℕ) → Ranges loops → AllByRecursion (OffEnd l) loops → a ≤ l
    → size w o n loops a (suc l) ≡ size w o n loops a l + w l
size_more w o n [] a l are off le = total_more w a l le
size_more w o n (loop ∷ loops) a l are off le =
    by off.0 (cases_lt loop.first a) (λ x low. size_more w o n loops x l are.1 off.1 low)
  where
    apart : fits loop a (suc l) ≡ false → fits loop a l ≡ false → size w o n loops a (suc l) ≡ size w o n loops a l + w l
        → size w o n (loop ∷ loops) a (suc l) ≡ size w o n (loop ∷ loops) a l + w l
    apart e f h = size_apart w o n loop loops a (suc l) e ∙ h ∙ ap (λ (m : ℕ). m + w l) (sym (size_apart w o n loop loops a l f))

    sum : (x y z v : ℕ) → y ≡ z + v → x + y ≡ x + z + v
    sum x y z v e = omega (arith, e)

    by : OffEnd l loop → (loop.first < a) ⊎ (a ≤ loop.first)
        → ((x : ℕ) → x ≤ l → size w o n loops x (suc l) ≡ size w o n loops x l + w l)
        → size w o n (loop ∷ loops) a (suc l) ≡ size w o n (loop ∷ loops) a l + w l
    by x (inl lt) go = apart (begins_out loop a (suc l) lt) (begins_out loop a l lt) (go a le)
    by (inr lt) (inr low) go = apart (ends_out loop a (suc l) (omega (arith, lt, are.0))) (ends_out loop a l (omega (arith, lt, are.0))) (go a le)
    by (inl lt) (inr low) go =
        size_at w o n loop loops a (suc l) (fits_in loop a (suc l) low (omega (arith, lt)))
        ∙ sum (size w o n loops a loop.first + n * size w o n loops loop.first (suc loop.last) + once w loop + o)
        (size w o n loops (suc loop.last) (suc l)) (size w o n loops (suc loop.last) l) (w l) (go (suc loop.last) (omega (arith, lt)))
        ∙ ap (λ (m : ℕ). m + w l) (sym (size_at w o n loop loops a l (fits_in loop a l low lt)))

-- ---- two parts of a range

total_split : (w : ℕ → ℕ) (a m l : ℕ) → a ≤ m → m ≤ l → total w a m + total w m l ≡ total w a l
total_split w a m zero low high = sum (none_total w m 0 (omega arith)) (none_total w a m (omega (arith, low, high)))
  where
    sum : total w m 0 ≡ 0 → total w a m ≡ 0 → total w a m + total w m 0 ≡ 0
    sum e f = omega (arith, e, f)
total_split w a m (suc l) low high = by (cases_lt l m) (λ h. total_split w a m l low h)
  where
    by : (l < m) ⊎ (m ≤ l) → (m ≤ l → total w a m + total w m l ≡ total w a l) → total w a m + total w m (suc l) ≡ total w a (suc l)
    by (inl lt) go = end (omega (arith, lt, high)) (none_total w m (suc l) (omega (arith, lt)))
      where
        end : m ≡ suc l → total w m (suc l) ≡ 0 → total w a m + total w m (suc l) ≡ total w a (suc l)
        end same e = sum (total w a m) (total w m (suc l)) e ∙ ap (λ (k : ℕ). total w a k) same
          where
            sum : (x y : ℕ) → y ≡ 0 → x + y ≡ x
            sum x y e = omega (arith, e)
    by (inr le) go = let h = go le in omega (arith, h, total_more w m l le, total_more w a l (omega (arith, low, le)))

-- no loop stands on both sides, unless it goes on behind the whole
abbrev pub OnSide : ℕ → ℕ → Loop → Type 0
OnSide m h loop = (loop.last < m) ⊎ ((m ≤ loop.first) ⊎ (h ≤ loop.last))

pub size_split : (w : ℕ → ℕ) (o n h : ℕ) (loops : List Loop) (a m l : ℕ) → Ranges loops → AllByRecursion (OnSide m h) loops → a ≤ m → m ≤ l → l ≤ h
    → size w o n loops a m + size w o n loops m l ≡ size w o n loops a l
size_split w o n h [] a m l are sides low high last = total_split w a m l low high
size_split w o n h (loop ∷ loops) a m l are sides low high last =
    by sides.0 (cases_lt loop.first a) (cases_lt loop.last l) (λ x y p q r. size_split w o n h loops x m y are.1 sides.1 p q r)
  where
    by : OnSide m h loop → (loop.first < a) ⊎ (a ≤ loop.first) → (loop.last < l) ⊎ (l ≤ loop.last)
        → ((x y : ℕ) → x ≤ m → m ≤ y → y ≤ h → size w o n loops x m + size w o n loops m y ≡ size w o n loops x y)
        → size w o n (loop ∷ loops) a m + size w o n (loop ∷ loops) m l ≡ size w o n (loop ∷ loops) a l
    by (inl lt) (inl out) ends go =
        let g = go a l low high last in
        omega (
          arith,
          g,
          size_apart w o n loop loops a m (begins_out loop a m out),
          size_apart w o n loop loops m l (begins_out loop m l (omega (arith, lt, are.0))),
          size_apart w o n loop loops a l (begins_out loop a l out),
        )
    by (inl lt) (inr in_) ends go =
        let g = go (suc loop.last) l (omega (arith, lt)) high last in
        omega (
          arith,
          g,
          size_at w o n loop loops a m (fits_in loop a m in_ lt),
          size_apart w o n loop loops m l (begins_out loop m l (omega (arith, lt, are.0))),
          size_at w o n loop loops a l (fits_in loop a l in_ (omega (arith, lt, high))),
        )
    by (inr (inl le)) starts (inl lt) go =
        let g = go a loop.first low le (omega (arith, lt, last, are.0)) in
        omega (
          arith,
          g,
          size_apart w o n loop loops a m (ends_out loop a m (omega (arith, le, are.0))),
          size_at w o n loop loops m l (fits_in loop m l le lt),
          size_at w o n loop loops a l (fits_in loop a l (omega (arith, low, le)) lt),
        )
    by (inr (inl le)) starts (inr out) go =
        let g = go a l low high last in
        omega (
          arith,
          g,
          size_apart w o n loop loops a m (ends_out loop a m (omega (arith, le, are.0))),
          size_apart w o n loop loops m l (ends_out loop m l out),
          size_apart w o n loop loops a l (ends_out loop a l out),
        )
    by (inr (inr le)) starts ends go =
        let g = go a l low high last in
        omega (
          arith,
          g,
          size_apart w o n loop loops a m (ends_out loop a m (omega (arith, le, high, last))),
          size_apart w o n loop loops m l (ends_out loop m l (omega (arith, le, last))),
          size_apart w o n loop loops a l (ends_out loop a l (omega (arith, le, last))),
        )

-- inside of a loop stand those behind it in the list, or behind it in the text
pub sides_of : (h : ℕ) (loop : Loop) (loops : List Loop) → loop.first ≤ loop.last → AllByRecursion (IsLater loop) loops
    → AllByRecursion (OnSide loop.first h) loops
sides_of h loop loops range later = mapped (IsLater loop) (OnSide loop.first h) loops (λ other g. inr (inl (later_first loop other range g))) later

-- ---- the first copy of a location

abbrev zeros : List ℕ → List ℕ
zeros ks = map (λ (k : ℕ). 0) ks

abbrev is_copy : Copy → Bool
is_copy (copy l ks) = true
is_copy (beyond loop ks) = false

abbrev loop_in : Loop → Copy → Loop
loop_in other (copy l ks) = other
loop_in other (beyond loop ks) = loop

pub first_places : (w : ℕ → ℕ) (o n : ℕ) (loops : List Loop) (l : ℕ) (ks : List ℕ) (a b : ℕ) → AreInOrder loops → AreOf a b loops
    → IsCopy n loops a b (copy l ks) → place w o n loops a b (copy l (zeros ks)) ≡ size w o n loops a l
first_places w o n [] l ks a b order of is = refl
first_places w o n (loop ∷ loops) l ks a b order of is =
    by (fits loop a b) refl (side loop l) (λ js x y h g. first_places w o n loops l js x y order.2 h g)
  where
    here_by : (js : List ℕ) → loop.first ≤ l → l ≤ loop.last → IsInner n loop (copy l js) js (IsCopy n loops loop.first (suc loop.last) (copy l (back js)))
        → ((is : List ℕ) (x y : ℕ) → AreOf x y loops → IsCopy n loops x y (copy l is) → place w o n loops x y (copy l (zeros is)) ≡ size w o n loops x l)
        → size w o n loops a loop.first + place_in n (size w o n loops loop.first (suc loop.last)) (once w loop) (zeros js)
        (place w o n loops loop.first (suc loop.last) (copy l (back (zeros js)))) ≡ size w o n loops a loop.first + size w o n loops loop.first l
    here_by [] low high h go = absurd (true≢false (ap is_copy h))
    here_by (k ∷ js) low high h go = let g = go js loop.first (suc loop.last) (of_inside loop loops order.0 order.1) h.0 in omega (arith, g)

    by : (f : Bool) → fits loop a b ≡ f → Side loop l
        → ((js : List ℕ) (x y : ℕ) → AreOf x y loops → IsCopy n loops x y (copy l js) → place w o n loops x y (copy l (zeros js)) ≡ size w o n loops x l)
        → place w o n (loop ∷ loops) a b (copy l (zeros ks)) ≡ size w o n (loop ∷ loops) a l
    by false f s go =
        let i = apart_copy n loop loops a b (copy l ks) f is in
        let at = copy_bounds n loops a b (copy l ks) (ranges_of loops order.2) i in
        place_apart w o n loop loops a b (copy l (zeros ks)) f ∙ go ks a b of.1 i ∙ sym (size_apart w o n loop loops a l (out (apart_of loop a b of.0 f) at.1))
      where
        out : (loop.last < a) ⊎ (b ≤ loop.first) → l < b → fits loop a l ≡ false
        out (inl lt) high = begins_out loop a l (omega (arith, lt, order.0))
        out (inr le) high = ends_out loop a l (omega (arith, le, high, order.0))
    by true f (before lt) go =
        let i = before_copy n loop loops a b (copy l ks) f lt is in
        place_before w o n loop loops a b (copy l (zeros ks)) f lt ∙ go ks a loop.first (of_before loop loops a order.0 order.1) i
        ∙ sym (size_apart w o n loop loops a l (ends_out loop a l (omega (arith, lt, order.0))))
    by true f (behind low lt) go =
        let fit = fitting loop a b f in
        let i = behind_copy n loop loops a b (copy l ks) f low lt is in
        let g = go ks (suc loop.last) b (of_behind loop loops a b order.0 fit.0 order.2 order.1 of.1) i in
        omega (
          arith,
          g,
          place_behind w o n loop loops a b (copy l (zeros ks)) f low lt,
          size_at w o n loop loops a l (fits_in loop a l fit.0 lt),
        )
    by true f (here low high) go =
        let fit = fitting loop a b f in
        place_here w o n loop loops a b (copy l (zeros ks)) f low high
        ∙ here_by ks low high (here_copy n loop loops a b (copy l ks) f low high is) go
        ∙ size_split w o n l loops a loop.first l (ranges_of loops order.2) (sides_of l loop loops order.0 order.1) fit.0 low (omega arith)
        ∙ sym (size_apart w o n loop loops a l (ends_out loop a l high))

-- ---- where a bound is first gone over

-- of these loops the edge is a turn of that of this number alone
abbrev pub OnlyTurn : ℕ → ℕ → List Loop → Type 0
OnlyTurn e r [] = ⊥
OnlyTurn e zero (loop ∷ loops) = (is_turn loop e ≡ true) × AllByRecursion (λ (other : Loop). is_turn other e ≡ false) loops
OnlyTurn e (suc r) (loop ∷ loops) = (is_turn loop e ≡ false) × OnlyTurn e r loops

-- where a loop's bound is gone over is a copy among that loop's
no_beyond : (n e : ℕ) (loops : List Loop) (loop : Loop) (ks : List ℕ) (a b : ℕ) → is_turn loop e ≡ true
    → AllByRecursion (λ (other : Loop). is_turn other e ≡ false) loops → IsCopy n loops a b (beyond loop ks) → ⊥
no_beyond n e [] loop ks a b turn none is = true≢false (ap is_copy (sym is.2))
no_beyond n e (other ∷ loops) loop ks a b turn none is =
    by (fits other a b) refl (side other loop.first) (λ js x y h. no_beyond n e loops loop js x y turn none.1 h)
  where
    here_by : (js : List ℕ) → IsInner n other (beyond loop js) js (IsCopy n loops other.first (suc other.last) (beyond loop (back js)))
        → ((is : List ℕ) (x y : ℕ) → IsCopy n loops x y (beyond loop is) → ⊥) → ⊥
    here_by [] h go = both_ways (is_turn loop e) (ap (λ (l : Loop). is_turn l e) (ap (loop_in other) h) ∙ none.0) turn
    here_by (k ∷ js) h go = go js other.first (suc other.last) h.0

    by : (f : Bool) → fits other a b ≡ f → Side other loop.first → ((js : List ℕ) (x y : ℕ) → IsCopy n loops x y (beyond loop js) → ⊥) → ⊥
    by false f s go = go ks a b (apart_copy n other loops a b (beyond loop ks) f is)
    by true f (before lt) go = go ks a other.first (before_copy n other loops a b (beyond loop ks) f lt is)
    by true f (behind low lt) go = go ks (suc other.last) b (behind_copy n other loops a b (beyond loop ks) f low lt is)
    by true f (here low high) go = here_by ks (here_copy n other loops a b (beyond loop ks) f low high is) go

-- the loop of this number is none of the first
abbrev pub over_at : (ℕ → ℕ) → ℕ → ℕ → ℕ → ℕ → List Loop → Loop → ℕ
over_at w o n a r loops loop =
    size w o n loops a loop.first + n * size w o n (drop (suc r) loops) loop.first (suc loop.last) + once w loop

pub some_is : {X : Type 0} (x y : X) → Some x ≡ Some y → x ≡ y
some_is x y e = ap (λ (o : Option _). value_or x o) e
  where
    value_or : {X : Type 0} → X → Option X → X
    value_or d None = d
    value_or d (Some z) = z

abbrev is_none : {X : Type 0} → Option X → Bool
is_none None = true
is_none (Some z) = false

pub none_is : {X : Type 0} (x : X) → None ≡ Some x → ⊥
none_is x e = true≢false (ap (λ (o : Option _). is_none o) e)

pub over_places : (w : ℕ → ℕ) (o n e r : ℕ) (loops : List Loop) (loop : Loop) (ks : List ℕ) (a b : ℕ) → AreInOrder loops → AreOf a b loops
    → OnlyTurn e r loops → is_turn loop e ≡ true → slice_get loops r ≡ Some loop
    → IsCopy n loops a b (beyond loop ks) → place w o n loops a b (beyond loop (zeros ks)) ≡ over_at w o n a r loops loop
over_places w o n e r [] loop ks a b order of only turn at is = absurd only
over_places w o n e zero (other ∷ loops) loop ks a b order of only turn at is =
    by (fits other a b) refl (side other loop.first)
  where
    same : other ≡ loop
    same = some_is other loop at

    first : other.first ≡ loop.first
    first = ap (λ (l : Loop). l.first) same

    here_by : (js : List ℕ) → IsInner n other (beyond loop js) js (IsCopy n loops other.first (suc other.last) (beyond loop (back js)))
        → place_in n (size w o n loops other.first (suc other.last)) (once w other) (zeros js)
        (place w o n loops other.first (suc other.last) (beyond loop (back (zeros js))))
        ≡ n * size w o n loops other.first (suc other.last) + once w other
    here_by [] h = refl
    here_by (k ∷ js) h = absurd (no_beyond n e loops loop js other.first (suc other.last) turn only.1 h.0)

    by : (f : Bool) → fits other a b ≡ f → Side other loop.first
        → place w o n (other ∷ loops) a b (beyond loop (zeros ks)) ≡ over_at w o n a 0 (other ∷ loops) loop
    by false f s = absurd (no_beyond n e loops loop ks a b turn only.1 (apart_copy n other loops a b (beyond loop ks) f is))
    by true f (before lt) = absurd (omega (arith, lt, first))
    by true f (behind low lt) = absurd (omega (arith, lt, first, order.0))
    by true f (here low high) =
        place_here w o n other loops a b (beyond loop (zeros ks)) f low high
        ∙ ap (λ (m : ℕ). size w o n loops a other.first + m) (here_by ks (here_copy n other loops a b (beyond loop ks) f low high is))
        ∙ ap (λ (m : ℕ). m + (n * size w o n loops other.first (suc other.last) + once w other))
        (sym (size_apart w o n other loops a other.first (ends_out other a other.first order.0)))
        ∙ sum (size w o n (other ∷ loops) a other.first) (n * size w o n loops other.first (suc other.last)) (once w other)
        ∙ ap (λ (l : Loop). size w o n (other ∷ loops) a l.first + n * size w o n loops l.first (suc l.last) + once w l) same
      where
        sum : (x y z : ℕ) → x + (y + z) ≡ x + y + z
        sum x y z = omega arith
over_places w o n e (suc r) (other ∷ loops) loop ks a b order of only turn at is =
    by (fits other a b) refl (side other loop.first) (λ js x y h g. over_places w o n e r loops loop js x y order.2 h only.1 turn at g)
  where
    differ : other ≡ loop → ⊥
    differ same = both_ways (is_turn other e) only.0 (ap (λ (l : Loop). is_turn l e) same ∙ turn)

    turns : ℕ
    turns = n * size w o n (drop (suc r) loops) loop.first (suc loop.last) + once w loop

    here_by : (js : List ℕ) → IsInner n other (beyond loop js) js (IsCopy n loops other.first (suc other.last) (beyond loop (back js)))
        → ((is : List ℕ) (x y : ℕ) → AreOf x y loops → IsCopy n loops x y (beyond loop is)
        → place w o n loops x y (beyond loop (zeros is)) ≡ over_at w o n x r loops loop)
        → place_in n (size w o n loops other.first (suc other.last)) (once w other) (zeros js)
        (place w o n loops other.first (suc other.last) (beyond loop (back (zeros js))))
        ≡ over_at w o n other.first r loops loop
    here_by [] h go = absurd (differ (sym (ap (loop_in other) h)))
    here_by (k ∷ js) h go = let g = go js other.first (suc other.last) (of_inside other loops order.0 order.1) h.0 in omega (arith, g)

    by : (f : Bool) → fits other a b ≡ f → Side other loop.first
        → ((js : List ℕ) (x y : ℕ) → AreOf x y loops → IsCopy n loops x y (beyond loop js)
        → place w o n loops x y (beyond loop (zeros js)) ≡ over_at w o n x r loops loop)
        → place w o n (other ∷ loops) a b (beyond loop (zeros ks)) ≡ over_at w o n a (suc r) (other ∷ loops) loop
    by false f s go =
        let i = apart_copy n other loops a b (beyond loop ks) f is in
        let at = copy_bounds n loops a b (beyond loop ks) (ranges_of loops order.2) i in
        let g = go ks a b of.1 i in
        omega (
          arith,
          g,
          place_apart w o n other loops a b (beyond loop (zeros ks)) f,
          size_apart w o n other loops a loop.first (out (apart_of other a b of.0 f) at.1),
        )
      where
        out : (other.last < a) ⊎ (b ≤ other.first) → loop.first < b → fits other a loop.first ≡ false
        out (inl lt) high = begins_out other a loop.first (omega (arith, lt, order.0))
        out (inr le) high = ends_out other a loop.first (omega (arith, le, high, order.0))
    by true f (before lt) go =
        let i = before_copy n other loops a b (beyond loop ks) f lt is in
        let g = go ks a other.first (of_before other loops a order.0 order.1) i in
        omega (
          arith,
          g,
          place_before w o n other loops a b (beyond loop (zeros ks)) f lt,
          size_apart w o n other loops a loop.first (ends_out other a loop.first (omega (arith, lt, order.0))),
        )
    by true f (behind low lt) go =
        let fit = fitting other a b f in
        let i = behind_copy n other loops a b (beyond loop ks) f low lt is in
        let g = go ks (suc other.last) b (of_behind other loops a b order.0 fit.0 order.2 order.1 of.1) i in
        omega (
          arith,
          g,
          place_behind w o n other loops a b (beyond loop (zeros ks)) f low lt,
          size_at w o n other loops a loop.first (fits_in other a loop.first fit.0 lt),
        )
    by true f (here low high) go =
        let fit = fitting other a b f in
        let g = here_by ks (here_copy n other loops a b (beyond loop ks) f low high is) go in
        omega (
          arith,
          g,
          place_here w o n other loops a b (beyond loop (zeros ks)) f low high,
          size_split w o n loop.first loops a other.first loop.first (ranges_of loops order.2) (sides_of loop.first other loops order.0 order.1) fit.0 low (omega arith),
          size_apart w o n other loops a loop.first (ends_out other a loop.first high),
        )
