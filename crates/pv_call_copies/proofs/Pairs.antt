-- Two loops of the whole, the one before the other: they share no turn and don't cross, and the one begins before, or is as long. Those of
-- one copy are as their block's; what is called at a location lies within an own loop or apart from it.
use Rattle.std.proofs.Common.{◌≡◌, ℕ, suc, ◌+◌, ◌<◌, ◌≤◌, ◌⊎◌, inl, inr, List, [], ◌∷◌, ◌++◌, map, length, slice_get, Bool, true, false, not, ◌&&◌, ◌||◌, ◌==◌, nat_lt, nat_le, Some, refl, sym, subst, ap, ◌∙◌, arith}
use Rattle.std.specs.List.{AllByRecursion, list_any, list_all}
use Rattle.std.proofs.lemmas.Bool.{eq-eqb, ne_eqb, ltb-true, lt-ltb, leb-true, le-leb, lt-leb, cases_lt, and_parts, or_left}
use Rattle.pv_flow.specs.Automata.{Edge, Loop, Parts, holds_loop, is_turn}
use Rattle.pv_flow.specs.Faults.{cross}
use Rattle.pv_flow.specs.WellMade.{AreApart}
use Rattle.pv_flow.specs.Runs.{end_at}
use Rattle.pv_flow.specs.Calls.{Blocks}
use Rattle.pv_flow.specs.Fitting.{IsSound}
use Rattle.pv_call_copies.specs.Inlined.{Body, number_in, drawn_before, turn_number, drawn_loop}
use Rattle.pv_call_copies.proofs.Placed.{IsOpen}
use Rattle.pv_call_copies.proofs.Aims.{rises_in, less_in}
use Rattle.pv_call_copies.proofs.Turns.{rank, one_rank, one_location, HasNumber, has_number, same_turns, edge_there}
use Rattle.pv_call_copies.proofs.Holding.{bool_same, of_held, goes_on_inside, first_open, copy_ends, alike_at}
use Rattle.pv_call_copies.proofs.LoopEdges.{IsGoodLoop, or_true}

pub record IsPair (x y : Loop) : Type 0 where
  pub apart : AreApart x y
  pub clear : cross x y ≡ false
  pub back : cross y x ≡ false

abbrev pub Pairs : List Loop → Type 0
Pairs [] = Unit {0}
Pairs (x ∷ xs) = AllByRecursion (IsPair x) xs × Pairs xs

abbrev pub EachWith : List Loop → List Loop → Type 0
EachWith xs ys = AllByRecursion (λ (x : Loop). AllByRecursion (IsPair x) ys) xs

pub all_append : (P : Loop → Type 0) (xs ys : List Loop) → AllByRecursion P xs → AllByRecursion P ys → AllByRecursion P (xs ++ ys)
all_append P [] ys are more = more
all_append P (x ∷ xs) ys are more = (are.0, all_append P xs ys are.1 more)

pub pairs_append : (xs ys : List Loop) → Pairs xs → Pairs ys → EachWith xs ys → Pairs (xs ++ ys)
pairs_append [] ys are more each = more
pairs_append (x ∷ xs) ys are more each = (all_append (IsPair x) xs ys are.0 each.0, pairs_append xs ys are.1 more each.1)

pub each_append : (xs ys zs : List Loop) → EachWith xs ys → EachWith xs zs → EachWith xs (ys ++ zs)
each_append [] ys zs one other = tt
each_append (x ∷ xs) ys zs one other = (all_append (IsPair x) ys zs one.0 other.0, each_append xs ys zs one.1 other.1)

-- ---- numbers in two lists

pub none_in : (P : ℕ → Type 0) (n : ℕ) (ns : List ℕ) → AllByRecursion P ns → ((m : ℕ) → P m → m ≡ n → ⊥) → list_any (λ m. m == n) ns ≡ false
none_in P n [] are never = refl
none_in P n (m ∷ ns) are never =
    ap (λ (b : Bool). b || list_any (λ k. k == n) ns) (ne_eqb m n (λ e. never m are.0 e)) ∙ none_in P n ns are.1 never

no_common : (P Q : ℕ → Type 0) (ns ms : List ℕ) → AllByRecursion P ns → AllByRecursion Q ms → ((n : ℕ) → P n → Q n → ⊥)
    → list_any (λ e. list_any (λ m. m == e) ms) ns ≡ false
no_common P Q [] ms are others never = refl
no_common P Q (n ∷ ns) ms are others never =
    ap (λ (b : Bool). b || list_any (λ e. list_any (λ m. m == e) ms) ns)
    (none_in Q n ms others (λ m q e. never n are.0 (subst Q e q))) ∙ no_common P Q ns ms are.1 others never

-- ---- loops that lie apart

pub record IsWithin (low high from below : ℕ) (loop : Loop) : Type 0 where
  pub first : low ≤ loop.first
  pub range : loop.first ≤ loop.last
  pub last : loop.last < high
  pub turns : AllByRecursion (λ (t : ℕ). (from ≤ t) × (t < below)) loop.turns

turns_wider : (from below least most : ℕ) → least ≤ from → below ≤ most → (turns : List ℕ) → AllByRecursion (λ (t : ℕ). (from ≤ t) × (t < below)) turns
    → AllByRecursion (λ (t : ℕ). (least ≤ t) × (t < most)) turns
turns_wider from below least most le more [] are = tt
turns_wider from below least most le more (t ∷ turns) are =
    (sides (are.0).0 (are.0).1, turns_wider from below least most le more turns are.1)
  where
    sides : from ≤ t → t < below → (least ≤ t) × (t < most)
    sides a b = (omega (arith, le, a), omega (arith, more, b))

pub within_wider : (low high from below lower higher least most : ℕ) (loop : Loop) → lower ≤ low → high ≤ higher → least ≤ from → below ≤ most
    → IsWithin low high from below loop → IsWithin lower higher least most loop
within_wider low high from below lower higher least most loop a b c d h = record {
  first = chain lower low loop.first a h.first;
  range = h.range;
  last = under loop.last high higher h.last b;
  turns = turns_wider from below least most c d loop.turns h.turns;
}
  where
    chain : (x y z : ℕ) → x ≤ y → y ≤ z → x ≤ z
    chain x y z f g = omega (arith, f, g)

    under : (x y z : ℕ) → x < y → y ≤ z → x < z
    under x y z f g = omega (arith, f, g)

not_true : (a : Bool) → a ≡ false → not a ≡ true
not_true a e = ap not e

-- where the one's copy ends before the other's begins
clear_of : (x y : Loop) → nat_le y.first x.last ≡ false → cross x y ≡ false
clear_of x y e = ap (λ (b : Bool). ((nat_le x.first y.last && b) && not (holds_loop x y)) && not (holds_loop y x)) e ∙ by (nat_le x.first y.last)
  where
    by : (b : Bool) → (((b && false) && not (holds_loop x y)) && not (holds_loop y x)) ≡ false
    by true = refl
    by false = refl

clear_back : (x y : Loop) → nat_le y.first x.last ≡ false → cross y x ≡ false
clear_back x y e = ap (λ (b : Bool). ((b && nat_le x.first y.last) && not (holds_loop y x)) && not (holds_loop x y)) e

pub apart_pair : (low high from below lower higher least most : ℕ) (x y : Loop) → IsWithin low high from below x → IsWithin lower higher least most y
    → high ≤ lower → below ≤ least → IsPair x y
apart_pair low high from below lower higher least most x y h g le less = record {
  apart = record {
    turns = not_true (list_any (λ e. is_turn y e) x.turns) (no_common (λ (t : ℕ). (from ≤ t) × (t < below)) (λ (t : ℕ). (least ≤ t) × (t < most)) x.turns y.turns
        h.turns g.turns (λ t a b. never t a.1 b.0));
    firsts = ap (λ (b : Bool). x.entry_turn || not (b && holds_loop x y)) (ne_eqb y.first x.first (λ e. before_other (sym e))) ∙ or_true x.entry_turn;
    back = ap (λ (b : Bool). y.entry_turn || not (b && holds_loop y x)) (ne_eqb x.first y.first (λ e. before_other e)) ∙ or_true y.entry_turn;
    order = or_left (nat_lt x.first y.first) ((x.first == y.first) && not (nat_lt x.last y.last)) (lt-ltb x.first y.first less_first);
  };
  clear = clear_of x y (lt-leb y.first x.last ends_before);
  back = clear_back x y (lt-leb y.first x.last ends_before);
}
  where
    never : (t : ℕ) → t < below → least ≤ t → ⊥
    never t a b = omega (arith, less, a, b)

    ends_before : x.last < y.first
    ends_before = chain x.last high lower y.first h.last le g.first
      where
        chain : (a b c d : ℕ) → a < b → b ≤ c → c ≤ d → a < d
        chain a b c d f k j = omega (arith, f, k, j)

    less_first : x.first < y.first
    less_first = chain x.first x.last y.first h.range ends_before
      where
        chain : (a b c : ℕ) → a ≤ b → b < c → a < c
        chain a b c f k = omega (arith, f, k)

    before_other : x.first ≡ y.first → ⊥
    before_other e = not_same x.first y.first less_first e
      where
        not_same : (a b : ℕ) → a < b → a ≡ b → ⊥
        not_same a b f k = omega (arith, f, k)

-- ---- an own loop and what is called at a location

abbrev Outside : ℕ → ℕ → ℕ → Type 0
Outside from below t = (t < from) ⊎ (below ≤ t)

-- the loop holds all of it, or ends before it
pub own_pair : (low high from below : ℕ) (x y : Loop) → IsWithin low high from below y → x.first < low
    → (high ≤ suc x.last) ⊎ (x.last < low) → AllByRecursion (Outside from below) x.turns → IsPair x y
own_pair low high from below x y g first side turns = record {
  apart = record {
    turns = not_true (list_any (λ e. is_turn y e) x.turns) (no_common (Outside from below) (λ (t : ℕ). (from ≤ t) × (t < below)) x.turns y.turns turns g.turns
        (λ t a b. never t a b.0 b.1));
    firsts = ap (λ (b : Bool). x.entry_turn || not (b && holds_loop x y)) (ne_eqb y.first x.first (λ e. before_other (sym e))) ∙ or_true x.entry_turn;
    back = ap (λ (b : Bool). y.entry_turn || not (b && holds_loop y x)) (ne_eqb x.first y.first (λ e. before_other e)) ∙ or_true y.entry_turn;
    order = or_left (nat_lt x.first y.first) ((x.first == y.first) && not (nat_lt x.last y.last)) (lt-ltb x.first y.first less_first);
  };
  clear = clear_by side;
  back = back_by side;
}
  where
    never : (t : ℕ) → (t < from) ⊎ (below ≤ t) → from ≤ t → t < below → ⊥
    never t (inl a) b c = omega (arith, a, b)
    never t (inr a) b c = omega (arith, a, c)

    less_first : x.first < y.first
    less_first = chain x.first low y.first first g.first
      where
        chain : (a b c : ℕ) → a < b → b ≤ c → a < c
        chain a b c f k = omega (arith, f, k)

    before_other : x.first ≡ y.first → ⊥
    before_other e = not_same x.first y.first less_first e
      where
        not_same : (a b : ℕ) → a < b → a ≡ b → ⊥
        not_same a b f k = omega (arith, f, k)

    held : high ≤ suc x.last → holds_loop x y ≡ true
    held le = ap (λ (b : Bool). b && nat_le y.last x.last) (le-leb x.first y.first (weak x.first y.first less_first))
        ∙ le-leb y.last x.last (inside y.last high x.last g.last le)
      where
        weak : (a b : ℕ) → a < b → a ≤ b
        weak a b h = omega (arith, h)

        inside : (a b c : ℕ) → a < b → b ≤ suc c → a ≤ c
        inside a b c h k = omega (arith, h, k)

    ends_before : x.last < low → nat_le y.first x.last ≡ false
    ends_before lt = lt-leb y.first x.last (chain x.last low y.first lt g.first)
      where
        chain : (a b c : ℕ) → a < b → b ≤ c → a < c
        chain a b c f k = omega (arith, f, k)

    clear_by : (high ≤ suc x.last) ⊎ (x.last < low) → cross x y ≡ false
    clear_by (inl le) = ap (λ (b : Bool). ((nat_le x.first y.last && nat_le y.first x.last) && not b) && not (holds_loop y x)) (held le)
        ∙ by (nat_le x.first y.last && nat_le y.first x.last)
      where
        by : (b : Bool) → ((b && false) && not (holds_loop y x)) ≡ false
        by true = refl
        by false = refl
    clear_by (inr lt) = clear_of x y (ends_before lt)

    back_by : (high ≤ suc x.last) ⊎ (x.last < low) → cross y x ≡ false
    back_by (inl le) = ap (λ (b : Bool). ((nat_le y.first x.last && nat_le x.first y.last) && not (holds_loop y x)) && not b) (held le)
        ∙ by ((nat_le y.first x.last && nat_le x.first y.last) && not (holds_loop y x))
      where
        by : (b : Bool) → (b && false) ≡ false
        by true = refl
        by false = refl
    back_by (inr lt) = clear_back x y (ends_before lt)

-- ---- two loops of a block

-- the loop that the block has before the other
pub own_own : (blocks : Blocks) (body : Body) → IsSound body.work.parts → (i : ℕ) (x y : Loop) → IsGoodLoop blocks body x → IsGoodLoop blocks body y
    → IsPair x y → IsPair (drawn_loop blocks body i x) (drawn_loop blocks body i y)
own_own blocks body s i x y a b is = record {
  apart = record {
    turns = ap (λ (c : Bool). not c) (shared x.turns a.turns) ∙ is.apart.turns;
    firsts = ap (λ (c : Bool). x.entry_turn || not (c && holds_loop v w)) (first_same y x b a)
        ∙ (ap (λ (c : Bool). x.entry_turn || not ((y.first == x.first) && c)) (holds_same x y a b) ∙ is.apart.firsts);
    back = ap (λ (c : Bool). y.entry_turn || not (c && holds_loop w v)) (first_same x y a b)
        ∙ (ap (λ (c : Bool). y.entry_turn || not ((x.first == y.first) && c)) (holds_same y x b a) ∙ is.apart.back);
    order = ap (λ (c : Bool). c || ((v.first == w.first) && not (nat_lt v.last w.last))) (less_same x y a b)
        ∙ (ap (λ (c : Bool). nat_lt x.first y.first || (c && not (nat_lt v.last w.last))) (first_same x y a b)
        ∙ (ap (λ (c : Bool). nat_lt x.first y.first || ((x.first == y.first) && not c)) (last_less x y a b) ∙ is.apart.order));
  };
  clear = crossed x y a b ∙ is.clear;
  back = crossed y x b a ∙ is.back;
}
  where
    p : Parts
    p = body.work.parts

    v : Loop
    v = drawn_loop blocks body i x

    w : Loop
    w = drawn_loop blocks body i y

    copy : Loop → Loop
    copy loop = drawn_loop blocks body i loop

    free : (z : Loop) → IsGoodLoop blocks body z → IsOpen (end_at p z.first)
    free z g = first_open blocks body z g.own

    first_same : (z u : Loop) → IsGoodLoop blocks body z → IsGoodLoop blocks body u → ((copy z).first == (copy u).first) ≡ (z.first == u.first)
    first_same z u g h = (alike_at blocks body i u h.own z.first (free z g)).first

    -- along the numbers of what takes room
    le_number : (l m : ℕ) → IsOpen (end_at p m) → number_in blocks body l ≤ number_in blocks body m → l ≤ m
    le_number l m open_m h = by (cases_lt m l)
      where
        by : (m < l) ⊎ (l ≤ m) → l ≤ m
        by (inl lt) = absurd (never (number_in blocks body m) (number_in blocks body l) (less_in blocks body m l open_m lt) h)
          where
            never : (c d : ℕ) → c < d → d ≤ c → ⊥
            never c d f k = omega (arith, f, k)
        by (inr le) = le

    less_same : (z u : Loop) → IsGoodLoop blocks body z → IsGoodLoop blocks body u → nat_lt (copy z).first (copy u).first ≡ nat_lt z.first u.first
    less_same z u g h = bool_same (nat_lt (copy z).first (copy u).first) (nat_lt z.first u.first)
        (λ e. lt-ltb z.first u.first (back_to (cases_lt z.first u.first) (ltb-true (copy z).first (copy u).first e)))
        (λ e. lt-ltb (copy z).first (copy u).first (less_in blocks body z.first u.first (free z g) (ltb-true z.first u.first e)))
      where
        back_to : (z.first < u.first) ⊎ (u.first ≤ z.first) → (copy z).first < (copy u).first → z.first < u.first
        back_to (inl lt) e = lt
        back_to (inr le) e = absurd (never (copy z).first (copy u).first e (rises_in blocks body u.first z.first le))
          where
            never : (c d : ℕ) → c < d → d ≤ c → ⊥
            never c d f k = omega (arith, f, k)

    le_first : (z u : Loop) → IsGoodLoop blocks body z → IsGoodLoop blocks body u → nat_le (copy z).first (copy u).first ≡ nat_le z.first u.first
    le_first z u g h = bool_same (nat_le (copy z).first (copy u).first) (nat_le z.first u.first)
        (λ e. le-leb z.first u.first (le_number z.first u.first (free u h) (leb-true (copy z).first (copy u).first e)))
        (λ e. le-leb (copy z).first (copy u).first (rises_in blocks body z.first u.first (leb-true z.first u.first e)))

    -- what follows a loop
    next_of : (z : Loop) → IsGoodLoop blocks body z → suc (copy z).last ≡ number_in blocks body (suc z.last)
    next_of z g = copy_ends blocks body i z g.own

    last_open : (z : Loop) → IsGoodLoop blocks body z → IsOpen (end_at p z.last)
    last_open z g = subst IsOpen (sym (goes_on_inside p z g.own.is z.last (of_held z z.last g.own.is.range (omega arith)))) tt

    le_last_number : (z u : Loop) → IsGoodLoop blocks body z → IsGoodLoop blocks body u → (copy z).last ≤ (copy u).last → z.last ≤ u.last
    le_last_number z u g h e = by (cases_lt u.last z.last)
      where
        up : u.last < z.last → suc u.last ≤ z.last
        up k = omega (arith, k)

        next_z : z.last < suc z.last
        next_z = omega arith

        by : (u.last < z.last) ⊎ (z.last ≤ u.last) → z.last ≤ u.last
        by (inl lt) = absurd (never (copy z).last (copy u).last (number_in blocks body (suc z.last)) (number_in blocks body (suc u.last))
            (number_in blocks body z.last) (next_of z g) (next_of u h) (rises_in blocks body (suc u.last) z.last (up lt))
            (less_in blocks body z.last (suc z.last) (last_open z g) next_z) e)
          where
            never : (c d m n k : ℕ) → suc c ≡ m → suc d ≡ n → n ≤ k → k < m → c ≤ d → ⊥
            never c d m n k f j q r t = omega (arith, f, j, q, r, t)
        by (inr le) = le

    last_rises : (z u : Loop) → IsGoodLoop blocks body z → IsGoodLoop blocks body u → z.last ≤ u.last → (copy z).last ≤ (copy u).last
    last_rises z u g h e = lower (copy z).last (copy u).last (number_in blocks body (suc z.last)) (number_in blocks body (suc u.last))
        (next_of z g) (next_of u h) (rises_in blocks body (suc z.last) (suc u.last) (lifted e))
      where
        lifted : z.last ≤ u.last → suc z.last ≤ suc u.last
        lifted k = omega (arith, k)

        lower : (c d m n : ℕ) → suc c ≡ m → suc d ≡ n → m ≤ n → c ≤ d
        lower c d m n f j k = omega (arith, f, j, k)

    last_same : (z u : Loop) → IsGoodLoop blocks body z → IsGoodLoop blocks body u → nat_le (copy z).last (copy u).last ≡ nat_le z.last u.last
    last_same z u g h = bool_same (nat_le (copy z).last (copy u).last) (nat_le z.last u.last)
        (λ e. le-leb z.last u.last (le_last_number z u g h (leb-true (copy z).last (copy u).last e)))
        (λ e. le-leb (copy z).last (copy u).last (last_rises z u g h (leb-true z.last u.last e)))

    last_less : (z u : Loop) → IsGoodLoop blocks body z → IsGoodLoop blocks body u → nat_lt (copy z).last (copy u).last ≡ nat_lt z.last u.last
    last_less z u g h = bool_same (nat_lt (copy z).last (copy u).last) (nat_lt z.last u.last)
        (λ e. lt-ltb z.last u.last (forth (cases_lt z.last u.last) (ltb-true (copy z).last (copy u).last e)))
        (λ e. lt-ltb (copy z).last (copy u).last (back_to (cases_lt (copy z).last (copy u).last) (ltb-true z.last u.last e)))
      where
        never : (c d : ℕ) → c < d → d ≤ c → ⊥
        never c d f k = omega (arith, f, k)

        forth : (z.last < u.last) ⊎ (u.last ≤ z.last) → (copy z).last < (copy u).last → z.last < u.last
        forth (inl lt) e = lt
        forth (inr le) e = absurd (never (copy z).last (copy u).last e (last_rises u z h g le))

        back_to : ((copy z).last < (copy u).last) ⊎ ((copy u).last ≤ (copy z).last) → z.last < u.last → (copy z).last < (copy u).last
        back_to (inl lt) e = lt
        back_to (inr le) e = absurd (never z.last u.last e (le_last_number u z h g le))

    holds_same : (z u : Loop) → IsGoodLoop blocks body z → IsGoodLoop blocks body u → holds_loop (copy z) (copy u) ≡ holds_loop z u
    holds_same z u g h = ap (λ (c : Bool). c && nat_le (copy u).last (copy z).last) (le_first z u g h)
        ∙ ap (λ (c : Bool). nat_le z.first u.first && c) (last_same u z h g)

    -- the first of the one and the last of the other
    first_last : (z u : Loop) → IsGoodLoop blocks body z → IsGoodLoop blocks body u → nat_le (copy z).first (copy u).last ≡ nat_le z.first u.last
    first_last z u g h = bool_same (nat_le (copy z).first (copy u).last) (nat_le z.first u.last)
        (λ e. le-leb z.first u.last (forth (cases_lt u.last z.first) (leb-true (copy z).first (copy u).last e)))
        (λ e. le-leb (copy z).first (copy u).last (back_to (leb-true z.first u.last e)))
      where
        forth : (u.last < z.first) ⊎ (z.first ≤ u.last) → (copy z).first ≤ (copy u).last → z.first ≤ u.last
        forth (inl lt) e = absurd (never (copy z).first (copy u).last (number_in blocks body (suc u.last)) (next_of u h)
            (rises_in blocks body (suc u.last) z.first (up lt)) e)
          where
            up : u.last < z.first → suc u.last ≤ z.first
            up k = omega (arith, k)

            never : (c d n : ℕ) → suc d ≡ n → n ≤ c → c ≤ d → ⊥
            never c d n f k j = omega (arith, f, k, j)
        forth (inr le) e = le

        back_to : z.first ≤ u.last → (copy z).first ≤ (copy u).last
        back_to e = lower (copy z).first (copy u).last (number_in blocks body (suc u.last)) (next_of u h)
            (less_in blocks body z.first (suc u.last) (free z g) (up e))
          where
            up : z.first ≤ u.last → z.first < suc u.last
            up k = omega (arith, k)

            lower : (c d n : ℕ) → suc d ≡ n → c < n → c ≤ d
            lower c d n f k = omega (arith, f, k)

    crossed : (z u : Loop) → IsGoodLoop blocks body z → IsGoodLoop blocks body u → cross (copy z) (copy u) ≡ cross z u
    crossed z u g h =
        ap (λ (c : Bool). ((c && nat_le (copy u).first (copy z).last) && not (holds_loop (copy z) (copy u))) && not (holds_loop (copy u) (copy z))) (first_last z u g h)
        ∙ (ap (λ (c : Bool). ((nat_le z.first u.last && c) && not (holds_loop (copy z) (copy u))) && not (holds_loop (copy u) (copy z))) (first_last u z h g)
        ∙ (ap (λ (c : Bool). ((nat_le z.first u.last && nat_le u.first z.last) && not c) && not (holds_loop (copy u) (copy z))) (holds_same z u g h)
        ∙ ap (λ (c : Bool). ((nat_le z.first u.last && nat_le u.first z.last) && not (holds_loop z u)) && not c) (holds_same u z h g)))

    -- one number of an own edge
    injective : (e f : ℕ) (c d : Edge) → slice_get p.edges e ≡ Some c → slice_get p.edges f ≡ Some d
        → turn_number blocks body i f ≡ turn_number blocks body i e → f ≡ e
    injective e f c d at there same =
        one_rank c.from f e p.edges d c there (eq-eqb d.from c.from at_c) at (eq-eqb c.from c.from refl) same_rank
      where
        of_e : HasNumber blocks body i e c
        of_e = has_number blocks body s i e c at

        of_f : HasNumber blocks body i f d
        of_f = has_number blocks body s i f d there

        peeled : (k j : ℕ) → i + k ≡ i + j → k ≡ j
        peeled k j g = omega (arith, g)

        sums : drawn_before blocks body d.from + rank p.edges d.from f ≡ drawn_before blocks body c.from + rank p.edges c.from e
        sums = peeled (drawn_before blocks body d.from + rank p.edges d.from f) (drawn_before blocks body c.from + rank p.edges c.from e)
            (sym of_f.is ∙ (same ∙ of_e.is))

        at_c : d.from ≡ c.from
        at_c = one_location blocks body d.from (rank p.edges d.from f) c.from (rank p.edges c.from e) of_f.small of_e.small sums

        same_rank : rank p.edges c.from f ≡ rank p.edges c.from e
        same_rank = peeled_after (drawn_before blocks body c.from) (rank p.edges c.from f) (rank p.edges c.from e)
            (subst (λ (m : ℕ). drawn_before blocks body m + rank p.edges m f ≡ drawn_before blocks body c.from + rank p.edges c.from e) at_c sums)
          where
            peeled_after : (k r t : ℕ) → k + r ≡ k + t → r ≡ t
            peeled_after k r t g = omega (arith, g)

    shared : (turns : List ℕ) → list_all (λ e. nat_lt e (length p.edges)) turns ≡ true
        → list_any (λ e. is_turn w e) (map (turn_number blocks body i) turns) ≡ list_any (λ e. is_turn y e) turns
    shared [] below = refl
    shared (e ∷ turns) below =
        let parts = and_parts (nat_lt e (length p.edges)) (list_all (λ f. nat_lt f (length p.edges)) turns) below in
        let edge = edge_there p.edges e (ltb-true e (length p.edges) parts.0) in
        ap (λ (c : Bool). c || list_any (λ f. is_turn w f) (map (turn_number blocks body i) turns))
        (same_turns blocks body i (turn_number blocks body i e) e y.turns b.turns refl (λ f d there same. injective e f edge.0 d edge.1 there same))
        ∙ ap (λ (c : Bool). is_turn y e || c) (shared turns parts.1)
