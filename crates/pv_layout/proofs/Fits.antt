-- Ways against loops: along each way of a flow each of its loops is entered well, and the way starts a turn of the loop whose number it
-- has, and of no other.
use Rattle.std.proofs.Common.{◌≡◌, ℕ, suc, ◌+◌, ◌<◌, ◌≤◌, ◌⊎◌, inl, inr, List, [], ◌∷◌, ◌++◌, length, Bool as Truth, true, false, not, ◌&&◌, ◌||◌, ◌==◌, Option, Some, None, refl, ap, ◌∙◌, arith}
use Rattle.std.proofs.lemmas.Bool.{cases_lt, ne_eqb, eq-eqb, or_left, or_right, and_right, and_from}
use Rattle.pv_place.specs.declared.place.Place.{Place}
use Rattle.pv_flow.specs.Terms.{Term}
use Rattle.pv_flow.specs.Automata.{Loop, holds}
use Rattle.pv_flow.specs.Faults.{enters_well}
use Rattle.pv_layout.specs.Spots.{Check, Spot, Act, Branch, Enter, way}
use Rattle.pv_layout.specs.Flows.{Flow}
use Rattle.pv_layout.specs.Layout.{width, loops_in, Exits, spots_of, bare, is_marked}
use Rattle.pv_layout.specs.Sound.{turn_fits, FitsLoop, CallFits, SpotFits}
use Rattle.pv_layout.specs.Correct.{IsOutside, AreOutside}
use Rattle.pv_layout.proofs.Turns.{holds_none, holds_from}
use Rattle.pv_layout.proofs.Each.{EachFrom, each_append, each_map, each_with}
use Rattle.pv_layout.proofs.Leads.{way_map, IsMarkIn, IsWayIn, IsSpotIn, LeadTo, spots_in, IsLoopIn}

-- ---- one way and one loop

or_true : (a : Truth) → (a || true) ≡ true
or_true true = refl
or_true false = refl

not_marked : (i j k : ℕ) (mark : Option ℕ) → (k < i) ⊎ (j ≤ k) → IsMarkIn i j mark → is_marked k mark ≡ false
not_marked i j k None out h = refl
not_marked i j k (Some m) (inl lt) h = ne_eqb m k (λ same. omega (arith, lt, same, h.0))
not_marked i j k (Some m) (inr le) h = ne_eqb m k (λ same. omega (arith, le, same, h.1))

-- what begins elsewhere than at the loop's first location, and starts no turn of it
unmarked_fits : (loop : Loop) (l to : ℕ) (turn : Truth) → turn ≡ false → (l ≡ loop.first → ⊥) → turn_fits loop l to turn ≡ true
unmarked_fits loop l to turn off ne =
    ap (λ (b : Truth). turn_fits loop l to b) off
    ∙ (ap (λ (b : Truth). loop.entry_turn || not (b && holds loop to)) (ne_eqb l loop.first ne) ∙ or_true loop.entry_turn)

call_elsewhere : (loop : Loop) (l : ℕ) (spot : Spot) → (l ≡ loop.first → ⊥) → CallFits loop l spot
call_elsewhere loop l (Act checks on) ne = tt
call_elsewhere loop l (Branch checks c one other) ne = tt
call_elsewhere loop l (Enter block instance place to) ne =
    ap (λ (b : Truth). loop.entry_turn || not b) (ne_eqb l loop.first ne) ∙ or_true loop.entry_turn

-- ---- a loop apart from a spot

-- outside these locations, or at the first of them
abbrev pub AimsPast : ℕ → ℕ → ℕ → Type 0
AimsPast c d x = IsOutside c d x ⊎ (x ≡ c)

aims_past : (c d p q k : ℕ) (loop : Loop) (x : ℕ) → IsLoopIn c d p q k loop → AimsPast c d x
    → (not (holds loop x) || (x == loop.first)) ≡ true
aims_past c d p q k loop x h (inl out) =
    ap (λ (b : Truth). not b || (x == loop.first)) (holds_none c d x loop (h.low, h.high) out)
aims_past c d p q k loop x h (inr same) = by (cases_lt c loop.first)
  where
    by : (c < loop.first) ⊎ (loop.first ≤ c) → (not (holds loop x) || (x == loop.first)) ≡ true
    by (inl lt) = ap (λ (b : Truth). not b || (x == loop.first))
        (holds_none loop.first (suc loop.last) x loop (omega arith, omega arith) (inl (omega (arith, lt, same))))
    by (inr le) = or_right (not (holds loop x)) (x == loop.first)
        (eq-eqb x loop.first (let low = h.low in omega (arith, low, le, same)))

elsewhere : (c d p q k : ℕ) (loop : Loop) (l : ℕ) → IsLoopIn c d p q k loop → IsOutside c d l → l ≡ loop.first → ⊥
elsewhere c d p q k loop l h (inl lt) same = let low = h.low in omega (arith, lt, same, low)
elsewhere c d p q k loop l h (inr le) same = let range = h.range in let high = h.high in omega (arith, le, same, range, high)

-- the spot's locations, from a on, below b, and the loop's lie apart, and so do their loops' numbers
pub record AreApartFrom (a b i j c d p q : ℕ) : Type 0 where
  pub place : (b ≤ c) ⊎ (d ≤ a)
  pub numbers : (j ≤ p) ⊎ (q ≤ i)

spot_outside : (a b c d l : ℕ) → (b ≤ c) ⊎ (d ≤ a) → a ≤ l → l < b → IsOutside c d l
spot_outside a b c d l (inl le) low high = inl (omega (arith, le, high))
spot_outside a b c d l (inr le) low high = inr (omega (arith, le, low))

number_outside : (i j p q k : ℕ) → (j ≤ p) ⊎ (q ≤ i) → p ≤ k → k < q → (k < i) ⊎ (j ≤ k)
number_outside i j p q k (inl le) low high = inr (omega (arith, le, low))
number_outside i j p q k (inr le) low high = inl (omega (arith, le, high))

apart_spot : (a b i j c d p q : ℕ) → AreApartFrom a b i j c d p q → (k : ℕ) (loop : Loop) → IsLoopIn c d p q k loop
    → (l : ℕ) (spot : Spot) → IsSpotIn (AimsPast c d) a b i j l spot → SpotFits k loop l spot
apart_spot a b i j c d p q apart k loop is l spot h = record {
  ways = way_map (IsWayIn (AimsPast c d) i j) (FitsLoop k loop l) spot (λ to mark w. record {
    enters = way_enters to w.leads;
    turns = unmarked_fits loop l to (is_marked k mark)
        (not_marked i j k mark (number_outside i j p q k apart.numbers is.from is.below) w.turn)
        (elsewhere c d p q k loop l is outside);
  }) h.ways;
  call = call_elsewhere loop l spot (elsewhere c d p q k loop l is outside);
}
  where
    outside : IsOutside c d l
    outside = spot_outside a b c d l apart.place h.low h.high

    way_enters : (to : ℕ) → AimsPast c d to → enters_well loop l to ≡ true
    way_enters to aims =
        ap (λ (b : Truth). (b || not (holds loop to)) || (to == loop.first)) (holds_none c d l loop (is.low, is.high) outside)
        ∙ aims_past c d p q k loop to is aims

pub apart_all : (a b i j c d p q : ℕ) → AreApartFrom a b i j c d p q → (first : ℕ) (loops : List Loop) (l : ℕ) (spots : List Spot)
    → EachFrom (IsLoopIn c d p q) first loops → EachFrom (IsSpotIn (AimsPast c d) a b i j) l spots
    → EachFrom (λ k loop. EachFrom (SpotFits k loop) l spots) first loops
apart_all a b i j c d p q apart first loops l spots are in_place =
    each_map (IsLoopIn c d p q) (λ k loop. EachFrom (SpotFits k loop) l spots) first loops
    (λ k loop is. each_map (IsSpotIn (AimsPast c d) a b i j) (SpotFits k loop) l spots
    (apart_spot a b i j c d p q apart k loop is) in_place) are

-- ---- a loop around a spot

-- the loop holds the spot, which isn't where its turns begin, and starts no turn of it
inside_spot : (T : ℕ → Type 0) (k : ℕ) (loop : Loop) (a b i j : ℕ) → (k < i) ⊎ (j ≤ k) → loop.first ≤ a → b ≤ suc loop.last
    → (loop.entry_turn ≡ true) ⊎ (loop.first < a) → (l : ℕ) (spot : Spot) → IsSpotIn T a b i j l spot → SpotFits k loop l spot
inside_spot T k loop a b i j numbers low high begins l spot h = record {
  ways = way_map (IsWayIn T i j) (FitsLoop k loop l) spot (λ to mark w. record {
    enters = or_left (holds loop l || not (holds loop to)) (to == loop.first) (or_left (holds loop l) (not (holds loop to)) held);
    turns = ap (λ (b : Truth). turn_fits loop l to b) (not_marked i j k mark numbers w.turn) ∙ rest to begins;
  }) h.ways;
  call = call_in begins spot;
}
  where
    held : holds loop l ≡ true
    held = holds_from loop l (let from = h.low in omega (arith, low, from)) (let to = h.high in omega (arith, high, to))

    later : loop.first < a → l ≡ loop.first → ⊥
    later lt same = let from = h.low in omega (arith, lt, same, from)

    rest : (to : ℕ) → (loop.entry_turn ≡ true) ⊎ (loop.first < a) → turn_fits loop l to false ≡ true
    rest to (inl entry) = or_left loop.entry_turn (not ((l == loop.first) && holds loop to)) entry
    rest to (inr lt) = unmarked_fits loop l to false refl (later lt)

    call_in : (loop.entry_turn ≡ true) ⊎ (loop.first < a) → (spot : Spot) → CallFits loop l spot
    call_in (inl entry) (Act checks on) = tt
    call_in (inl entry) (Branch checks c one other) = tt
    call_in (inl entry) (Enter block instance place to) = or_left loop.entry_turn (not (l == loop.first)) entry
    call_in (inr lt) spot = call_elsewhere loop l spot (later lt)

pub inside_all : (T : ℕ → Type 0) (k : ℕ) (loop : Loop) (a b i j : ℕ) → (k < i) ⊎ (j ≤ k) → loop.first ≤ a → b ≤ suc loop.last
    → (loop.entry_turn ≡ true) ⊎ (loop.first < a) → (l : ℕ) (spots : List Spot) → EachFrom (IsSpotIn T a b i j) l spots
    → EachFrom (SpotFits k loop) l spots
inside_all T k loop a b i j numbers low high begins l spots are = each_map (IsSpotIn T a b i j) (SpotFits k loop) l spots
    (inside_spot T k loop a b i j numbers low high begins) are

-- ---- a loop's own test

marked_own : (i : ℕ) → is_marked i (Some i) ≡ true
marked_own i = eq-eqb i i refl

pub test_fits : (a last i x : ℕ) (place : Place) (checks : List Check) (c : Term) → a < last → IsOutside a (suc last) x
    → SpotFits i (bare a last false place) a (Branch checks c (way (suc a) [] (Some i)) (way x [] None))
test_fits a last i x place checks c some out = record {
  ways = (
    record {
      enters = enters (suc a);
      turns = ap (λ (b : Truth). turn_fits loop a (suc a) b) (marked_own i)
          ∙ and_from (a == a) (holds loop (suc a)) (eq-eqb a a refl) (holds_from loop (suc a) (omega arith) (omega (arith, some)));
    },
    record {
      enters = enters x;
      turns = ap (λ (b : Truth). not b)
          (and_right (a == a) (holds loop x) (holds_none a (suc last) x loop (omega arith, omega arith) out));
    },
  );
  call = tt;
}
  where
    loop : Loop
    loop = bare a last false place

    enters : (to : ℕ) → enters_well loop a to ≡ true
    enters to = or_left (holds loop a || not (holds loop to)) (to == a)
        (or_left (holds loop a) (not (holds loop to)) (holds_from loop a (omega arith) (omega (arith, some))))

pub until_fits : (a last i x : ℕ) (place : Place) (checks : List Check) (c : Term) → a ≤ last
    → SpotFits i (bare a last true place) last (Branch checks c (way x [] None) (way a [] (Some i)))
until_fits a last i x place checks c some = record {
  ways = (
    record { enters = enters x; turns = refl },
    record {
      enters = enters a;
      turns = ap (λ (b : Truth). turn_fits loop last a b) (marked_own i)
          ∙ and_from (holds loop last) (a == a) (holds_from loop last some (omega arith)) (eq-eqb a a refl);
    },
  );
  call = tt;
}
  where
    loop : Loop
    loop = bare a last true place

    enters : (to : ℕ) → enters_well loop last to ≡ true
    enters to = or_left (holds loop last || not (holds loop to)) (to == a)
        (or_left (holds loop last) (not (holds loop to)) (holds_from loop last some (omega arith)))

-- ---- all loops of a flow against all of its spots

abbrev pub AllFit : ℕ → List Loop → ℕ → List Spot → Type 0
AllFit i loops a spots = EachFrom (λ k loop. EachFrom (SpotFits k loop) a spots) i loops

pub fits_append : (i : ℕ) (loops : List Loop) (a m : ℕ) (xs ys : List Spot) → length xs ≡ m → AllFit i loops a xs
    → AllFit i loops (a + m) ys
    → AllFit i loops a (xs ++ ys)
fits_append i loops a m xs ys e h g = each_with (λ k loop. EachFrom (SpotFits k loop) a xs)
    (λ k loop. EachFrom (SpotFits k loop) (a + m) ys)
    (λ k loop. EachFrom (SpotFits k loop) a (xs ++ ys)) i loops
    (λ k loop one other. each_append (SpotFits k loop) a m xs ys e one other) h g

pub fits_cons : (i : ℕ) (loops : List Loop) (a : ℕ) (x : Spot) (xs : List Spot) → AllFit i loops a (x ∷ []) → AllFit i loops (suc a) xs
    → AllFit i loops a (x ∷ xs)
fits_cons i loops a x xs h g = each_with (λ k loop. EachFrom (SpotFits k loop) a (x ∷ [])) (λ k loop. EachFrom (SpotFits k loop) (suc a) xs)
    (λ k loop. EachFrom (SpotFits k loop) a (x ∷ xs)) i loops (λ k loop one other. (one.0, other)) h g

-- exits outside of a part that lies in the whole
pub exits_past : (c d : ℕ) (to : Exits) → AreOutside c d to → LeadTo (AimsPast c d) to
exits_past c d to out = record {
  next = inl out.next;
  on_exit = inl out.on_exit;
  on_continue = inl out.on_continue;
  on_return = inl out.on_return;
}

anything : (to : Exits) → LeadTo (λ x. Unit {0}) to
anything to = record { next = tt; on_exit = tt; on_continue = tt; on_return = tt }

pub inside_flow : (f : Flow) (a i : ℕ) (to : Exits) (k : ℕ) (loop : Loop) → k < i → loop.first ≤ a → a + width f ≤ suc loop.last
    → (loop.entry_turn ≡ true) ⊎ (loop.first < a) → EachFrom (SpotFits k loop) a (spots_of f a i to)
inside_flow f a i to k loop lt low high begins = inside_all (λ x. Unit {0}) k loop a (a + width f) i (i + loops_in f)
    (inl lt) low high begins a
    (spots_of f a i to) (spots_in (λ x. Unit {0}) f a i to (λ x from below. tt) (anything to))

-- a spot with plain ways to two locations
pub two_ways : (T : ℕ → Type 0) (a b i j l : ℕ) (checks : List Check) (c : Term) (x y : ℕ) (m n : Option ℕ) → a ≤ l → l < b → T x → T y
    → IsMarkIn i j m → IsMarkIn i j n → IsSpotIn T a b i j l (Branch checks c (way x [] m) (way y [] n))
two_ways T a b i j l checks c x y m n low high one other first second = record {
  low = low;
  high = high;
  ways = (record { leads = one; turn = first }, record { leads = other; turn = second });
}

-- a way past all that a loop holds
pub past_fits : (k : ℕ) (loop : Loop) (l to : ℕ) → loop.last < to → FitsLoop k loop l to None
past_fits k loop l to lt = record {
  enters = ap (λ (b : Truth). (holds loop l || not b) || (to == loop.first)) off
      ∙ or_left (holds loop l || true) (to == loop.first) (or_true (holds loop l));
  turns = ap (λ (b : Truth). loop.entry_turn || not ((l == loop.first) && b)) off
      ∙ (ap (λ (b : Truth). loop.entry_turn || not b) (and_right (l == loop.first) false refl) ∙ or_true loop.entry_turn);
}
  where
    off : holds loop to ≡ false
    off = holds_none loop.first (suc loop.last) to loop (omega arith, omega arith) (inr lt)
