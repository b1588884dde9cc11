-- How loops lie to one another and in a range of locations: each that stands later lies in one that stands before it, or behind it; and
-- each lies in the range or apart from it. So it is of the parts of a range before, in and behind a loop.
use Rattle.std.proofs.Common.{◌≡◌, ℕ, suc, ◌<◌, ◌≤◌, ◌⊎◌, inl, inr, List, [], ◌∷◌, length, slice_get, Bool, true, false, not, ◌&&◌, ◌||◌, ◌==◌, nat_lt, nat_le, Some, IfSome, refl, ap, ◌∙◌, arith}
use Rattle.std.specs.List.{AllByRecursion, list_all}
use Rattle.std.proofs.lemmas.Bool.{false≢true, both_ways, ltb-true, ltb-false, lt-ltb, leb-true, le-leb, lt-leb, eqb-true, eq-eqb, cases_lt, and_parts, and_from, and_left, and_right, or_cases, not-true}
use Rattle.std.proofs.lemmas.List.Elements.{recursion_from_All}
use Rattle.pv_flow.specs.Automata.{Loop, Parts, holds, holds_loop, is_turn}
use Rattle.pv_flow.specs.Faults.{cross, is_loop, is_entered_well, IsFaultless}
use Rattle.pv_flow.specs.WellMade.{leads_back, leads_well, begins_alone, IsLoop, AreApart, IsWellMade}
use Rattle.pv_copies.specs.Places.{fits}
use Rattle.pv_copies.proofs.Leading.{all_listed, mapped}

-- ---- where a location lies to a loop

pub data Side (loop : Loop) (l : ℕ) : Type 0 where
  before : l < loop.first → Side loop l
  here : loop.first ≤ l → l ≤ loop.last → Side loop l
  behind : loop.first ≤ l → loop.last < l → Side loop l

pub side : (loop : Loop) (l : ℕ) → Side loop l
side loop l = by (cases_lt l loop.first) (cases_lt loop.last l)
  where
    by : (l < loop.first) ⊎ (loop.first ≤ l) → (loop.last < l) ⊎ (l ≤ loop.last) → Side loop l
    by (inl lt) x = before lt
    by (inr le) (inl lt) = behind le lt
    by (inr le) (inr last) = here le last

pub out_before : (loop : Loop) (l : ℕ) → l < loop.first → holds loop l ≡ false
out_before loop l lt = and_left (nat_le loop.first l) (nat_le l loop.last) (lt-leb loop.first l lt)

pub out_behind : (loop : Loop) (l : ℕ) → loop.last < l → holds loop l ≡ false
out_behind loop l lt = and_right (nat_le loop.first l) (nat_le l loop.last) (lt-leb l loop.last lt)

pub in_here : (loop : Loop) (l : ℕ) → loop.first ≤ l → l ≤ loop.last → holds loop l ≡ true
in_here loop l low high = and_from (nat_le loop.first l) (nat_le l loop.last) (le-leb loop.first l low) (le-leb l loop.last high)

pub held_low : (loop : Loop) (l : ℕ) → holds loop l ≡ true → loop.first ≤ l
held_low loop l h = leb-true loop.first l (and_parts (nat_le loop.first l) (nat_le l loop.last) h).0

pub held_high : (loop : Loop) (l : ℕ) → holds loop l ≡ true → l ≤ loop.last
held_high loop l h = leb-true l loop.last (and_parts (nat_le loop.first l) (nat_le l loop.last) h).1

-- ---- loops and ranges

-- the later one lies in the other, further on where entering that starts no turn; or it lies behind it
abbrev pub IsLater : Loop → Loop → Type 0
IsLater loop other =
    ((loop.first ≤ other.first) × (other.last ≤ loop.last) × (loop.entry_turn ≡ false → loop.first < other.first)) ⊎ (loop.last < other.first)

abbrev pub AreInOrder : List Loop → Type 0
AreInOrder [] = Unit {0}
AreInOrder (loop ∷ loops) = (loop.first ≤ loop.last) × AllByRecursion (IsLater loop) loops × AreInOrder loops

abbrev pub IsOf : ℕ → ℕ → Loop → Type 0
IsOf a b loop = ((a ≤ loop.first) × (loop.last < b)) ⊎ ((loop.last < a) ⊎ (b ≤ loop.first))

abbrev pub AreOf : ℕ → ℕ → List Loop → Type 0
AreOf a b loops = AllByRecursion (IsOf a b) loops

pub later_first : (loop other : Loop) → loop.first ≤ loop.last → IsLater loop other → loop.first ≤ other.first
later_first loop other range (inl h) = h.0
later_first loop other range (inr h) = omega (arith, range, h)

pub fitting : (loop : Loop) (a b : ℕ) → fits loop a b ≡ true → (a ≤ loop.first) × (loop.last < b)
fitting loop a b h = let both = and_parts (nat_le a loop.first) (nat_lt loop.last b) h in (leb-true a loop.first both.0, ltb-true loop.last b both.1)

pub apart_of : (loop : Loop) (a b : ℕ) → IsOf a b loop → fits loop a b ≡ false → (loop.last < a) ⊎ (b ≤ loop.first)
apart_of loop a b (inl h) e =
    absurd (both_ways (fits loop a b) e (and_from (nat_le a loop.first) (nat_lt loop.last b) (le-leb a loop.first h.0) (lt-ltb loop.last b h.1)))
apart_of loop a b (inr h) e = h

pub apart_holds : (loop : Loop) (a b l : ℕ) → (loop.last < a) ⊎ (b ≤ loop.first) → a ≤ l → l < b → holds loop l ≡ false
apart_holds loop a b l (inl h) low high = out_behind loop l (omega (arith, h, low))
apart_holds loop a b l (inr h) low high = out_before loop l (omega (arith, h, high))

-- the parts before, in and behind a loop
pub of_before : (loop : Loop) (loops : List Loop) (a : ℕ) → loop.first ≤ loop.last → AllByRecursion (IsLater loop) loops → AreOf a loop.first loops
of_before loop loops a range later = mapped (IsLater loop) (IsOf a loop.first) loops (λ other h. inr (inr (later_first loop other range h))) later

pub of_inside : (loop : Loop) (loops : List Loop) → loop.first ≤ loop.last → AllByRecursion (IsLater loop) loops
    → AreOf loop.first (suc loop.last) loops
of_inside loop loops range later = mapped (IsLater loop) (IsOf loop.first (suc loop.last)) loops each later
  where
    each : (other : Loop) → IsLater loop other → IsOf loop.first (suc loop.last) other
    each other (inl h) = inl (h.0, omega (arith, h.1))
    each other (inr h) = inr (inr (omega (arith, h)))

pub of_behind : (loop : Loop) (loops : List Loop) (a b : ℕ) → loop.first ≤ loop.last → a ≤ loop.first → AreInOrder loops
    → AllByRecursion (IsLater loop) loops → AreOf a b loops → AreOf (suc loop.last) b loops
of_behind loop [] a b range low order later of = tt
of_behind loop (other ∷ loops) a b range low order later of =
    (each later.0 of.0, of_behind loop loops a b range low order.2 later.1 of.1)
  where
    each : IsLater loop other → IsOf a b other → IsOf (suc loop.last) b other
    each (inl h) x = inr (inl (omega (arith, h.1)))
    each (inr h) (inl x) = inl (omega (arith, h), x.1)
    each (inr h) (inr (inl x)) = absurd (omega (arith, h, x, low, range, order.0))
    each (inr h) (inr (inr x)) = inr (inr x)

-- ---- where an edge may lead

-- back to the first location of a loop that holds where it begins, by a turn of it where entering it starts one
abbrev pub IsBack : ℕ → ℕ → ℕ → Loop → Type 0
IsBack e from to loop = (to ≡ loop.first) × (holds loop from ≡ true) × (loop.entry_turn ≡ true → is_turn loop e ≡ true)

abbrev pub LeadsBack : ℕ → ℕ → ℕ → List Loop → Type 0
LeadsBack e from to [] = ⊥
LeadsBack e from to (loop ∷ loops) = IsBack e from to loop ⊎ LeadsBack e from to loops

abbrev pub Leads : ℕ → ℕ → ℕ → List Loop → Type 0
Leads e from to loops = (from < to) ⊎ LeadsBack e from to loops

-- to where only later loops begin that don't hold where it begins, none leads back
pub no_back : (loop : Loop) (loops : List Loop) (e from to : ℕ) → loop.first ≤ loop.last → AllByRecursion (IsLater loop) loops
    → (to < loop.first) ⊎ ((to ≤ loop.last) × (loop.last < from)) → LeadsBack e from to loops → ⊥
no_back loop [] e from to range later where_ back = back
no_back loop (other ∷ loops) e from to range later where_ (inr back) = no_back loop loops e from to range later.1 where_ back
no_back loop (other ∷ loops) e from to range later (inl low) (inl back) =
    let first = later_first loop other range later.0 in omega (arith, first, low, back.0)
no_back loop (other ∷ loops) e from to range later (inr h) (inl back) = by later.0
  where
    by : IsLater loop other → ⊥
    by (inl x) = let high = held_high other from back.1 in omega (arith, x.1, h.1, high)
    by (inr x) = omega (arith, x, h.0, back.0)

-- ---- what automata keep

no_cross : (loop other : Loop) → loop.first ≤ loop.last → other.first ≤ other.last → not (cross loop other) ≡ true → AreApart loop other
    → IsLater loop other
no_cross loop other range their crossing apart = by (cases_lt loop.last other.first)
  where
    order : (loop.first < other.first) ⊎ ((loop.first ≡ other.first) × (other.last ≤ loop.last))
    order = of_order (or_cases (nat_lt loop.first other.first) ((loop.first == other.first) && not (nat_lt loop.last other.last)) apart.order)
      where
        of_order : (nat_lt loop.first other.first ≡ true) ⊎ (((loop.first == other.first) && not (nat_lt loop.last other.last)) ≡ true)
            → (loop.first < other.first) ⊎ ((loop.first ≡ other.first) × (other.last ≤ loop.last))
        of_order (inl h) = inl (ltb-true loop.first other.first h)
        of_order (inr h) =
            let both = and_parts (loop.first == other.first) (not (nat_lt loop.last other.last)) h in
            inr (eqb-true loop.first other.first both.0, ltb-false loop.last other.last (not-true (nat_lt loop.last other.last) both.1))

    low : loop.first ≤ other.first
    low = of_low order
      where
        of_low : (loop.first < other.first) ⊎ ((loop.first ≡ other.first) × (other.last ≤ loop.last)) → loop.first ≤ other.first
        of_low (inl h) = omega (arith, h)
        of_low (inr h) = omega (arith, h.0)

    crosses : cross loop other ≡ false
    crosses = not-true (cross loop other) crossing

    within_or_around : other.first ≤ loop.last → (holds_loop loop other ≡ true) ⊎ (holds_loop other loop ≡ true)
    within_or_around le = by_hold (holds_loop loop other) refl (holds_loop other loop) refl
      where
        meets : (nat_le loop.first other.last && nat_le other.first loop.last) ≡ true
        meets = and_from (nat_le loop.first other.last) (nat_le other.first loop.last) (le-leb loop.first other.last (omega (arith, low, their)))
            (le-leb other.first loop.last le)

        by_hold : (x : Bool) → holds_loop loop other ≡ x → (y : Bool) → holds_loop other loop ≡ y
            → (holds_loop loop other ≡ true) ⊎ (holds_loop other loop ≡ true)
        by_hold true e y f = inl e
        by_hold false e true f = inr f
        by_hold false e false f = absurd (both_ways (cross loop other) crosses
            (and_from (nat_le loop.first other.last && nat_le other.first loop.last && not (holds_loop loop other)) (not (holds_loop other loop))
            (and_from (nat_le loop.first other.last && nat_le other.first loop.last) (not (holds_loop loop other)) meets (ap not e)) (ap not f)))

    inside : holds_loop loop other ≡ true → IsLater loop other
    inside h = inl (
      low,
      leb-true other.last loop.last (and_parts (nat_le loop.first other.first) (nat_le other.last loop.last) h).1,
      λ off. further off (cases_lt loop.first other.first),
    )
      where
        further : loop.entry_turn ≡ false → (loop.first < other.first) ⊎ (other.first ≤ loop.first) → loop.first < other.first
        further off (inl lt) = lt
        further off (inr le) = absurd (both_ways (begins_alone loop other)
            (ap (λ (b : Bool). b || not ((other.first == loop.first) && holds_loop loop other)) off
            ∙ ap not (and_from (other.first == loop.first) (holds_loop loop other) (eq-eqb other.first loop.first (omega (arith, le, low))) h)) apart.firsts)

    around : holds_loop other loop ≡ true → holds_loop loop other ≡ true
    around h =
        let both = and_parts (nat_le other.first loop.first) (nat_le loop.last other.last) h in
        let first : other.first ≤ loop.first = leb-true other.first loop.first both.0 in
        let last : loop.last ≤ other.last = leb-true loop.last other.last both.1 in
        of_around first order
      where
        of_around : other.first ≤ loop.first → (loop.first < other.first) ⊎ ((loop.first ≡ other.first) × (other.last ≤ loop.last))
            → holds_loop loop other ≡ true
        of_around first (inl lt) = absurd (omega (arith, first, lt))
        of_around first (inr same) = and_from (nat_le loop.first other.first) (nat_le other.last loop.last) (le-leb loop.first other.first low)
            (le-leb other.last loop.last same.1)

    either : (holds_loop loop other ≡ true) ⊎ (holds_loop other loop ≡ true) → IsLater loop other
    either (inl h) = inside h
    either (inr h) = inside (around h)

    by : (loop.last < other.first) ⊎ (other.first ≤ loop.last) → IsLater loop other
    by (inl lt) = inr lt
    by (inr le) = either (within_or_around le)

-- what is so of each element that there is
listed_from : {X : Type 0} (P : X → Type 0) (xs : List X) → ((i : ℕ) → IfSome (slice_get xs i) P) → AllByRecursion P xs
listed_from P [] h = tt
listed_from P (x ∷ xs) h = (h 0, listed_from P xs (λ i. h (suc i)))

abbrev Apart : List Loop → Type 0
Apart loops = (i j : ℕ) → i < j → IfSome (slice_get loops i) (λ loop. IfSome (slice_get loops j) (λ other. AreApart loop other))

abbrev DontCross : List Loop → Loop → Type 0
DontCross others loop = AllByRecursion (λ (other : Loop). not (cross loop other) ≡ true) others

in_order : (loops : List Loop) → AllByRecursion (λ (loop : Loop). loop.first ≤ loop.last) loops → AllByRecursion (DontCross loops) loops → Apart loops
    → AreInOrder loops
in_order [] ranges crossing apart = tt
in_order (loop ∷ loops) ranges crossing apart = (
  ranges.0,
  each loops ranges.1 (crossing.0).1 (listed_from (λ (other : Loop). AreApart loop other) loops (λ j. apart 0 (suc j) (omega arith))),
  in_order loops ranges.1 (mapped (DontCross (loop ∷ loops)) (DontCross loops) loops (λ other h. h.1) crossing.1)
      (λ i j lt. apart (suc i) (suc j) (omega (arith, lt))),
)
  where
    each : (others : List Loop) → AllByRecursion (λ (other : Loop). other.first ≤ other.last) others → DontCross others loop
        → AllByRecursion (λ (other : Loop). AreApart loop other) others → AllByRecursion (IsLater loop) others
    each [] a b c = tt
    each (other ∷ others) a b c = (no_cross loop other ranges.0 a.0 b.0 c.0, each others a.1 b.1 c.1)

pub loops_in_order : (p : Parts) → IsFaultless p → IsWellMade p → AreInOrder p.loops
loops_in_order p f w = in_order p.loops
    (mapped (IsLoop p) (λ (loop : Loop). loop.first ≤ loop.last) p.loops (λ loop is. is.range) (recursion_from_All (IsLoop p) p.loops w.loops))
    (mapped (λ (loop : Loop). is_loop p loop ≡ true) (DontCross p.loops) p.loops crossing (all_listed (is_loop p) p.loops f.loops))
    w.apart
  where
    crossing : (loop : Loop) → is_loop p loop ≡ true → DontCross p.loops loop
    crossing loop h = all_listed (λ (other : Loop). not (cross loop other)) p.loops
        (and_parts (list_all (λ e. nat_lt e (length p.edges)) loop.turns) (list_all (λ (other : Loop). not (cross loop other)) p.loops)
        (and_parts (list_all (λ e. nat_lt e (length p.edges)) loop.turns && list_all (λ (other : Loop). not (cross loop other)) p.loops)
        (is_entered_well p loop) h).0).1

back_of : (loops : List Loop) (e from to : ℕ) → leads_back loops (Some e) from to ≡ true → LeadsBack e from to loops
back_of [] e from to h = absurd (false≢true h)
back_of (loop ∷ loops) e from to h =
    by (or_cases ((to == loop.first) && holds loop from && (not loop.entry_turn || is_turn loop e)) (leads_back loops (Some e) from to) h)
    (λ g. back_of loops e from to g)
  where
    turns : (not loop.entry_turn ≡ true) ⊎ (is_turn loop e ≡ true) → loop.entry_turn ≡ true → is_turn loop e ≡ true
    turns (inl off) on = absurd (both_ways loop.entry_turn (not-true loop.entry_turn off) on)
    turns (inr turn) on = turn

    by : (((to == loop.first) && holds loop from && (not loop.entry_turn || is_turn loop e)) ≡ true) ⊎ (leads_back loops (Some e) from to ≡ true)
        → (leads_back loops (Some e) from to ≡ true → LeadsBack e from to loops) → LeadsBack e from to (loop ∷ loops)
    by (inr g) go = inr (go g)
    by (inl g) go =
        let outer = and_parts ((to == loop.first) && holds loop from) (not loop.entry_turn || is_turn loop e) g in
        let inner = and_parts (to == loop.first) (holds loop from) outer.0 in
        inl (eqb-true to loop.first inner.0, inner.1, turns (or_cases (not loop.entry_turn) (is_turn loop e) outer.1))

pub leading : (loops : List Loop) (e from to : ℕ) → leads_well loops (Some e) from to ≡ true → Leads e from to loops
leading loops e from to h = by (or_cases (nat_lt from to) (leads_back loops (Some e) from to) h)
  where
    by : (nat_lt from to ≡ true) ⊎ (leads_back loops (Some e) from to ≡ true) → Leads e from to loops
    by (inl lt) = inl (ltb-true from to lt)
    by (inr back) = inr (back_of loops e from to back)
