-- Two loops of a flow, the one before the other: they lie apart, or the one lies around the other, which begins at its first location
-- only where a turn begins as the one is entered.
use Rattle.std.proofs.Common.{◌≡◌, ℕ, suc, ◌+◌, ◌<◌, ◌≤◌, ◌⊎◌, inl, inr, List, [], ◌∷◌, ◌++◌, Bool as Truth, true, false, not, ◌&&◌, ◌||◌, ◌==◌, nat_lt, nat_le, refl, ap, ◌∙◌, arith}
use Rattle.std.specs.List.{AllByRecursion}
use Rattle.std.proofs.lemmas.Bool.{cases_lt, ne_eqb, eq-eqb, le-leb, lt-leb, lt-ltb, le-ltb, and_from, and_right, or_left, or_right}
use Rattle.pv_flow.specs.Automata.{Loop, holds_loop}
use Rattle.pv_flow.specs.Faults.{cross}
use Rattle.pv_flow.specs.WellMade.{begins_alone, stands_before}
use Rattle.pv_layout.specs.Flows.{Flow, act, enter, leave, then_, if_, choice, while_, for_, repeat_}
use Rattle.pv_layout.specs.Layout.{width, loops_of, bare}
use Rattle.pv_layout.specs.Sound.{IsPair}
use Rattle.pv_layout.proofs.Lists.{all_append, all_map}

-- in the locations from a on, below b
pub record IsSpan (a b : ℕ) (loop : Loop) : Type 0 where
  pub low : a ≤ loop.first
  pub range : loop.first ≤ loop.last
  pub high : loop.last < b

abbrev pub Pairs : List Loop → Type 0
Pairs [] = Unit {0}
Pairs (x ∷ xs) = AllByRecursion (IsPair x) xs × Pairs xs

abbrev EachWith : List Loop → List Loop → Type 0
EachWith xs ys = AllByRecursion (λ (x : Loop). AllByRecursion (IsPair x) ys) xs

pairs_append : (xs ys : List Loop) → Pairs xs → Pairs ys → EachWith xs ys → Pairs (xs ++ ys)
pairs_append [] ys are more each = more
pairs_append (x ∷ xs) ys are more each = (all_append (IsPair x) xs ys are.0 each.0, pairs_append xs ys are.1 more each.1)

or_true : (a : Truth) → (a || true) ≡ true
or_true true = refl
or_true false = refl

alone : (x y : Loop) → (y.first ≡ x.first → ⊥) → begins_alone x y ≡ true
alone x y ne = ap (λ (b : Truth). x.entry_turn || not (b && holds_loop x y)) (ne_eqb y.first x.first ne) ∙ or_true x.entry_turn

and_off : (a : Truth) → (a && false) ≡ false
and_off true = refl
and_off false = refl

-- ---- apart

past_clear : (x y : Loop) → x.last < y.first → cross x y ≡ false
past_clear x y lt =
    ap (λ (b : Truth). ((nat_le x.first y.last && b) && not (holds_loop x y)) && not (holds_loop y x)) (lt-leb y.first x.last lt)
    ∙ ap (λ (b : Truth). (b && not (holds_loop x y)) && not (holds_loop y x)) (and_off (nat_le x.first y.last))

past_clear_back : (x y : Loop) → x.last < y.first → cross y x ≡ false
past_clear_back x y lt =
    ap (λ (b : Truth). ((b && nat_le x.first y.last) && not (holds_loop y x)) && not (holds_loop x y)) (lt-leb y.first x.last lt)

apart_pair : (a b c d : ℕ) (x y : Loop) → b ≤ c → IsSpan a b x → IsSpan c d y → IsPair x y
apart_pair a b c d x y le one other = record {
  firsts = alone x y (λ same. ne (omega (arith, same)));
  back = alone y x ne;
  order = or_left (nat_lt x.first y.first) ((x.first == y.first) && not (nat_lt x.last y.last)) (lt-ltb x.first y.first begins);
  clear = past_clear x y before;
  clear_back = past_clear_back x y before;
}
  where
    before : x.last < y.first
    before = let high = one.high in let low = other.low in omega (arith, high, low, le)

    begins : x.first < y.first
    begins = let range = one.range in omega (arith, range, before)

    ne : x.first ≡ y.first → ⊥
    ne same = omega (arith, same, begins)

each_apart : (a b c d : ℕ) (xs ys : List Loop) → b ≤ c → AllByRecursion (IsSpan a b) xs → AllByRecursion (IsSpan c d) ys → EachWith xs ys
each_apart a b c d xs ys le are others = all_map (IsSpan a b) (λ (x : Loop). AllByRecursion (IsPair x) ys) xs
    (λ x one. all_map (IsSpan c d) (IsPair x) ys (λ y other. apart_pair a b c d x y le one other) others) are

-- ---- the one around the other

pub held_clear : (x y : Loop) → holds_loop x y ≡ true → cross x y ≡ false
held_clear x y held =
    ap (λ (b : Truth). ((nat_le x.first y.last && nat_le y.first x.last) && not b) && not (holds_loop y x)) held
    ∙ ap (λ (b : Truth). b && not (holds_loop y x)) (and_off (nat_le x.first y.last && nat_le y.first x.last))

held_clear_back : (x y : Loop) → holds_loop x y ≡ true → cross y x ≡ false
held_clear_back x y held =
    ap (λ (b : Truth). ((nat_le y.first x.last && nat_le x.first y.last) && not (holds_loop y x)) && not b) held
    ∙ and_off ((nat_le y.first x.last && nat_le x.first y.last) && not (holds_loop y x))

pub inside_held : (x y : Loop) → x.first ≤ y.first → y.last ≤ x.last → holds_loop x y ≡ true
inside_held x y low high = and_from (nat_le x.first y.first) (nat_le y.last x.last) (le-leb x.first y.first low) (le-leb y.last x.last high)

-- after its first location
inner_pair : (x y : Loop) → x.first < y.first → y.last ≤ x.last → IsPair x y
inner_pair x y low high = record {
  firsts = alone x y (λ same. omega (arith, same, low));
  back = alone y x (λ same. omega (arith, same, low));
  order = or_left (nat_lt x.first y.first) ((x.first == y.first) && not (nat_lt x.last y.last)) (lt-ltb x.first y.first low);
  clear = held_clear x y (inside_held x y (omega (arith, low)) high);
  clear_back = held_clear_back x y (inside_held x y (omega (arith, low)) high);
}

-- ending before its last
shorter_pair : (x y : Loop) → x.entry_turn ≡ true → x.first ≤ y.first → y.last < x.last → IsPair x y
shorter_pair x y entry low high = record {
  firsts = or_left x.entry_turn (not ((y.first == x.first) && holds_loop x y)) entry;
  back = ap (λ (b : Truth). y.entry_turn || not b) (and_right (x.first == y.first) (holds_loop y x) not_held) ∙ or_true y.entry_turn;
  order = order (cases_lt x.first y.first);
  clear = held_clear x y (inside_held x y low (omega (arith, high)));
  clear_back = held_clear_back x y (inside_held x y low (omega (arith, high)));
}
  where
    not_held : holds_loop y x ≡ false
    not_held = and_right (nat_le y.first x.first) (nat_le x.last y.last) (lt-leb x.last y.last high)

    order : (x.first < y.first) ⊎ (y.first ≤ x.first) → stands_before x y ≡ true
    order (inl lt) = or_left (nat_lt x.first y.first) ((x.first == y.first) && not (nat_lt x.last y.last)) (lt-ltb x.first y.first lt)
    order (inr le) = or_right (nat_lt x.first y.first) ((x.first == y.first) && not (nat_lt x.last y.last))
        (and_from (x.first == y.first) (not (nat_lt x.last y.last)) (eq-eqb x.first y.first (omega (arith, le, low)))
        (ap (λ (b : Truth). not b) (le-ltb x.last y.last (omega (arith, high)))))

-- ---- all loops of a flow

span_wider : (a b c d : ℕ) (loops : List Loop) → a ≤ c → d ≤ b → AllByRecursion (IsSpan c d) loops → AllByRecursion (IsSpan a b) loops
span_wider a b c d loops low high are = all_map (IsSpan c d) (IsSpan a b) loops (λ loop is. record {
  low = let from = is.low in omega (arith, low, from);
  range = is.range;
  high = let to = is.high in omega (arith, high, to);
}) are

pub loop_spans : (f : Flow) (a : ℕ) → AllByRecursion (IsSpan a (a + width f)) (loops_of f a)
loop_spans (act checks sets) a = tt
loop_spans (enter block instance place) a = tt
loop_spans (leave which) a = tt
loop_spans (then_ f g) a = all_append (IsSpan a (a + (width f + width g))) (loops_of f a) (loops_of g (a + width f))
    (span_wider a (a + (width f + width g)) a (a + width f) (loops_of f a) (omega arith) (omega arith) (loop_spans f a))
    (span_wider a (a + (width f + width g)) (a + width f) (a + width f + width g) (loops_of g (a + width f)) (omega arith) (omega arith)
    (loop_spans g (a + width f)))
loop_spans (if_ checks c f) a =
    span_wider a (a + suc (width f)) (suc a) (suc a + width f) (loops_of f (suc a)) (omega arith) (omega arith) (loop_spans f (suc a))
loop_spans (choice checks c f g) a = all_append (IsSpan a (a + suc (width f + width g))) (loops_of f (suc a)) (loops_of g (suc a + width f))
    (span_wider a (a + suc (width f + width g)) (suc a) (suc a + width f) (loops_of f (suc a)) (omega arith) (omega arith)
    (loop_spans f (suc a)))
    (span_wider a (a + suc (width f + width g)) (suc a + width f) (suc a + width f + width g) (loops_of g (suc a + width f))
    (omega arith) (omega arith) (loop_spans g (suc a + width f)))
loop_spans (while_ checks c f place) a = (
  record { low = omega arith; range = omega arith; high = omega arith },
  span_wider a (a + suc (width f)) (suc a) (suc a + width f) (loops_of f (suc a)) (omega arith) (omega arith) (loop_spans f (suc a)),
)
loop_spans (for_ checks c f sets place) a = (
  record { low = omega arith; range = omega arith; high = omega arith },
  span_wider a (a + suc (width f + 1)) (suc a) (suc a + width f) (loops_of f (suc a)) (omega arith) (omega arith) (loop_spans f (suc a)),
)
loop_spans (repeat_ f checks c place) a = (
  record { low = omega arith; range = omega arith; high = omega arith },
  span_wider a (a + (width f + 1)) a (a + width f) (loops_of f a) (omega arith) (omega arith) (loop_spans f a),
)

pub loop_pairs : (f : Flow) (a : ℕ) → Pairs (loops_of f a)
loop_pairs (act checks sets) a = tt
loop_pairs (enter block instance place) a = tt
loop_pairs (leave which) a = tt
loop_pairs (then_ f g) a = pairs_append (loops_of f a) (loops_of g (a + width f)) (loop_pairs f a) (loop_pairs g (a + width f))
    (each_apart a (a + width f) (a + width f) (a + width f + width g) (loops_of f a) (loops_of g (a + width f)) (omega arith)
    (loop_spans f a) (loop_spans g (a + width f)))
loop_pairs (if_ checks c f) a = loop_pairs f (suc a)
loop_pairs (choice checks c f g) a = pairs_append (loops_of f (suc a)) (loops_of g (suc a + width f)) (loop_pairs f (suc a))
    (loop_pairs g (suc a + width f))
    (each_apart (suc a) (suc a + width f) (suc a + width f) (suc a + width f + width g) (loops_of f (suc a)) (loops_of g (suc a + width f))
    (omega arith) (loop_spans f (suc a)) (loop_spans g (suc a + width f)))
loop_pairs (while_ checks c f place) a = (
  all_map (IsSpan (suc a) (suc a + width f)) (IsPair (bare a (a + width f) false place)) (loops_of f (suc a))
      (λ y is. inner_pair (bare a (a + width f) false place) y (let low = is.low in omega (arith, low))
      (let high = is.high in omega (arith, high))) (loop_spans f (suc a)),
  loop_pairs f (suc a),
)
loop_pairs (for_ checks c f sets place) a = (
  all_map (IsSpan (suc a) (suc a + width f)) (IsPair (bare a (suc (a + width f)) false place)) (loops_of f (suc a))
      (λ y is. inner_pair (bare a (suc (a + width f)) false place) y (let low = is.low in omega (arith, low))
      (let high = is.high in omega (arith, high))) (loop_spans f (suc a)),
  loop_pairs f (suc a),
)
loop_pairs (repeat_ f checks c place) a = (
  all_map (IsSpan a (a + width f)) (IsPair (bare a (a + width f) true place)) (loops_of f a)
      (λ y is. shorter_pair (bare a (a + width f) true place) y refl is.low is.high) (loop_spans f a),
  loop_pairs f a,
)
