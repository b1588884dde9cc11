-- All pairs of loops of the whole, copy by copy: what is called before a location lies apart from what begins there, own loops are as the
-- block's, and what is called at a location lies within an own loop or after it.
use Rattle.std.proofs.Common.{◌≡◌, ℕ, zero, suc, ◌+◌, ◌<◌, ◌≤◌, ◌⊎◌, inl, inr, List, [], ◌∷◌, ◌++◌, map, length, slice_get, Bool, true, false, not, ◌&&◌, ◌||◌, ◌==◌, nat_lt, nat_le, cond, IfSome, Option, Some, None, refl, sym, subst, ap, ◌∙◌, arith}
use Rattle.std.specs.List.{AllByRecursion, list_any, list_all}
use Rattle.std.proofs.lemmas.Bool.{false≢true, eqb-true, eq-eqb, ltb-true, cases_lt, and_parts, or_cases, or_left, or_right}
use Rattle.std.proofs.lemmas.Option.{none-some}
use Rattle.pv_flow.specs.Automata.{Edge, Loop, Parts, holds, holds_loop, is_turn}
use Rattle.pv_flow.specs.Faults.{cross, is_loop, is_entered_well}
use Rattle.pv_flow.specs.WellMade.{turns_well, stands_before, AreApart}
use Rattle.pv_flow.specs.Runs.{End, end_at}
use Rattle.pv_flow.specs.Calls.{Blocks, block_at, Numbered, call_from}
use Rattle.pv_flow.specs.Fitting.{runs_block, AreFitting, IsSound, AreSound}
use Rattle.pv_flow.proofs.ForCallers.{deep}
use Rattle.pv_call_copies.specs.Inlined.{before, span, Body, entry_body, number_in, callee_body, Drawn, drawn_before, turn_number, drawn_loop, loops_from, laid_callee, laid_call, laid_by, laid_below, laid, inlined}
use Rattle.pv_call_copies.proofs.Levels.{IsCalled, is_run, found_called}
use Rattle.pv_call_copies.proofs.Edges.{sound_at, are_below}
use Rattle.pv_call_copies.proofs.Placed.{end_of_body, call_drawn, callee_ends}
use Rattle.pv_call_copies.proofs.Aims.{rises_in}
use Rattle.pv_call_copies.proofs.Turns.{rank, drawn_at, next_before, before_grows, own_location, HasNumber, has_number, edge_there}
use Rattle.pv_call_copies.proofs.Holding.{held_of, copy_ends}
use Rattle.pv_call_copies.proofs.LoopEdges.{IsGoodLoop, edge_so}
use Rattle.pv_call_copies.proofs.Laid.{good_loops, laid_is}
use Rattle.pv_call_copies.proofs.Pairs.{IsPair, Pairs, EachWith, pairs_append, each_append, all_append, IsWithin, within_wider, apart_pair, own_pair, own_own}

-- ---- pairs of a block's loops

cross_turned : (a b : Loop) → cross a b ≡ cross b a
cross_turned a b = by (nat_le a.first b.last) (nat_le b.first a.last) (not (holds_loop a b)) (not (holds_loop b a))
  where
    by : (p q r s : Bool) → (((p && q) && r) && s) ≡ (((q && p) && s) && r)
    by true true true true = refl
    by true true true false = refl
    by true true false true = refl
    by true true false false = refl
    by true false true true = refl
    by true false true false = refl
    by true false false true = refl
    by true false false false = refl
    by false true true true = refl
    by false true true false = refl
    by false true false true = refl
    by false true false false = refl
    by false false true true = refl
    by false false true false = refl
    by false false false true = refl
    by false false false false = refl

-- what each of these loops crosses none of
abbrev NoneCrosses : List Loop → List Loop → Type 0
NoneCrosses xs all = AllByRecursion (λ (x : Loop). AllByRecursion (λ (y : Loop). cross x y ≡ false) all) xs

is_not_true : (b : Bool) → not b ≡ true → b ≡ false
is_not_true true e = absurd (false≢true e)
is_not_true false e = refl

row_of : (x : Loop) (all : List Loop) → list_all (λ other. not (cross x other)) all ≡ true → AllByRecursion (λ (y : Loop). cross x y ≡ false) all
row_of x [] h = tt
row_of x (y ∷ all) h =
    let parts = and_parts (not (cross x y)) (list_all (λ other. not (cross x other)) all) h in
    (is_not_true (cross x y) parts.0, row_of x all parts.1)

rows_of : (p : Parts) (xs : List Loop) → list_all (is_loop p) xs ≡ true → NoneCrosses xs p.loops
rows_of p [] h = tt
rows_of p (x ∷ xs) h =
    let one = and_parts (is_loop p x) (list_all (is_loop p) xs) h in
    let parts = and_parts (list_all (λ e. nat_lt e (length p.edges)) x.turns && list_all (λ other. not (cross x other)) p.loops) (is_entered_well p x) one.0 in (
      row_of x p.loops (and_parts (list_all (λ e. nat_lt e (length p.edges)) x.turns) (list_all (λ other. not (cross x other)) p.loops) parts.0).1,
      rows_of p xs one.1,
    )

tails_of : (x : Loop) (xs all : List Loop) → NoneCrosses xs (x ∷ all) → NoneCrosses xs all
tails_of x [] all h = tt
tails_of x (y ∷ xs) all h = ((h.0).1, tails_of x xs all h.1)

head_pairs : (x : Loop) (ys : List Loop) → ((j : ℕ) → IfSome (slice_get ys j) (λ other. AreApart x other))
    → AllByRecursion (λ (y : Loop). cross x y ≡ false) ys → AllByRecursion (IsPair x) ys
head_pairs x [] apart clear = tt
head_pairs x (y ∷ ys) apart clear = (
  record { apart = apart 0; clear = clear.0; back = cross_turned y x ∙ clear.0 },
  head_pairs x ys (λ j. apart (suc j)) clear.1,
)

pairs_from : (xs : List Loop)
    → ((i j : ℕ) → i < j → IfSome (slice_get xs i) (λ loop. IfSome (slice_get xs j) (λ other. AreApart loop other)))
    → NoneCrosses xs xs → Pairs xs
pairs_from [] apart clear = tt
pairs_from (x ∷ xs) apart clear = (
  head_pairs x xs (λ j. apart 0 (suc j) (omega arith)) (clear.0).1,
  pairs_from xs (λ i j lt. apart (suc i) (suc j) (omega (arith, lt))) (tails_of x xs xs clear.1),
)

block_pairs : (p : Parts) → IsSound p → Pairs p.loops
block_pairs p s = pairs_from p.loops s.well_made.apart (rows_of p p.loops s.faultless.loops)

-- the one that begins before the other stands before it
abbrev Follows : Loop → Loop → Type 0
Follows x y = x.first < y.first → IsPair x y

order_first : (x y : Loop) → stands_before x y ≡ true → y.first < x.first → ⊥
order_first x y h lt = by (or_cases (nat_lt x.first y.first) ((x.first == y.first) && not (nat_lt x.last y.last)) h)
  where
    never : (a b : ℕ) → a < b → b < a → ⊥
    never a b f g = omega (arith, f, g)

    apart : (a b : ℕ) → a ≡ b → b < a → ⊥
    apart a b f g = omega (arith, f, g)

    by : (nat_lt x.first y.first ≡ true) ⊎ (((x.first == y.first) && not (nat_lt x.last y.last)) ≡ true) → ⊥
    by (inl e) = never x.first y.first (ltb-true x.first y.first e) lt
    by (inr e) = apart x.first y.first (eqb-true x.first y.first (and_parts (x.first == y.first) (not (nat_lt x.last y.last)) e).0) lt

follow_head : (x : Loop) (ys : List Loop) → AllByRecursion (IsPair x) ys → AllByRecursion (Follows x) ys
follow_head x [] are = tt
follow_head x (y ∷ ys) are = ((λ lt. are.0), follow_head x ys are.1)

with_head : (x : Loop) (zs all : List Loop) → AllByRecursion (IsPair x) zs → AllByRecursion (λ (z : Loop). AllByRecursion (Follows z) all) zs
    → AllByRecursion (λ (z : Loop). AllByRecursion (Follows z) (x ∷ all)) zs
with_head x [] all are rows = tt
with_head x (z ∷ zs) all are rows =
    (((λ lt. absurd (order_first x z (are.0).apart.order lt)), rows.0), with_head x zs all are.1 rows.1)

all_follow : (xs : List Loop) → Pairs xs → AllByRecursion (λ (x : Loop). AllByRecursion (Follows x) xs) xs
all_follow [] are = tt
all_follow (x ∷ xs) are = (((λ lt. absurd (never x.first lt)), follow_head x xs are.0), with_head x xs xs are.0 (all_follow xs are.1))
  where
    never : (a : ℕ) → a < a → ⊥
    never a h = omega (arith, h)

-- ---- the loops that begin at a location

keep_from : (P : Loop → Type 0) (l : ℕ) (xs : List Loop) → AllByRecursion P xs → AllByRecursion (λ (x : Loop). P x × (x.first ≡ l)) (loops_from l xs)
keep_from P l [] are = tt
keep_from P l (x ∷ xs) are = by (x.first == l) refl (keep_from P l xs are.1)
  where
    by : (b : Bool) → (x.first == l) ≡ b → AllByRecursion (λ (y : Loop). P y × (y.first ≡ l)) (loops_from l xs)
        → AllByRecursion (λ (y : Loop). P y × (y.first ≡ l)) (cond b (x ∷ loops_from l xs) (loops_from l xs))
    by true on h = ((are.0, eqb-true x.first l on), h)
    by false on h = h

filter_from : (P : Loop → Type 0) (l : ℕ) (xs : List Loop) → AllByRecursion P xs → AllByRecursion P (loops_from l xs)
filter_from P l [] are = tt
filter_from P l (x ∷ xs) are = by (x.first == l) (filter_from P l xs are.1)
  where
    by : (b : Bool) → AllByRecursion P (loops_from l xs) → AllByRecursion P (cond b (x ∷ loops_from l xs) (loops_from l xs))
    by true h = (are.0, h)
    by false h = h

pairs_there : (l : ℕ) (xs : List Loop) → Pairs xs → Pairs (loops_from l xs)
pairs_there l [] are = tt
pairs_there l (x ∷ xs) are = by (x.first == l) (filter_from (IsPair x) l xs are.0) (pairs_there l xs are.1)
  where
    by : (b : Bool) → AllByRecursion (IsPair x) (loops_from l xs) → Pairs (loops_from l xs) → Pairs (cond b (x ∷ loops_from l xs) (loops_from l xs))
    by true first rest = (first, rest)
    by false first rest = rest

-- the copies of loops
copied_pairs : (blocks : Blocks) (body : Body) → IsSound body.work.parts → (i : ℕ) (x : Loop) (ys : List Loop) → IsGoodLoop blocks body x
    → AllByRecursion (IsGoodLoop blocks body) ys → AllByRecursion (IsPair x) ys
    → AllByRecursion (IsPair (drawn_loop blocks body i x)) (map (drawn_loop blocks body i) ys)
copied_pairs blocks body s i x [] good others are = tt
copied_pairs blocks body s i x (y ∷ ys) good others are =
    (own_own blocks body s i x y good others.0 are.0, copied_pairs blocks body s i x ys good others.1 are.1)

own_pairs : (blocks : Blocks) (body : Body) → IsSound body.work.parts → (i : ℕ) (xs : List Loop) → AllByRecursion (IsGoodLoop blocks body) xs → Pairs xs
    → Pairs (map (drawn_loop blocks body i) xs)
own_pairs blocks body s i [] good are = tt
own_pairs blocks body s i (x ∷ xs) good are =
    (copied_pairs blocks body s i x xs good.0 good.1 are.0, own_pairs blocks body s i xs good.1 are.1)

-- ---- turns of a block's loops

members : (ns : List ℕ) → AllByRecursion (λ (n : ℕ). list_any (λ m. m == n) ns ≡ true) ns
members [] = tt
members (n ∷ ns) = (or_left (n == n) (list_any (λ m. m == n) ns) (eq-eqb n n refl), later ns (members ns))
  where
    later : (ms : List ℕ) → AllByRecursion (λ (m : ℕ). list_any (λ k. k == m) ns ≡ true) ms
        → AllByRecursion (λ (m : ℕ). list_any (λ k. k == m) (n ∷ ns) ≡ true) ms
    later [] are = tt
    later (m ∷ ms) are = (or_right (n == m) (list_any (λ k. k == m) ns) are.0, later ms are.1)

-- a turn edge begins at the loop's first location, or after it
turn_begins : (loop : Loop) (e : ℕ) (edge : Edge) → is_turn loop e ≡ true → turns_well loop e edge ≡ true → loop.first ≤ edge.from
turn_begins loop e edge on h = by loop.entry_turn (subst (λ (b : Bool). cond b
    (cond loop.entry_turn (holds loop edge.from && (edge.to == loop.first)) ((edge.from == loop.first) && holds loop edge.to))
    (loop.entry_turn || not ((edge.from == loop.first) && holds loop edge.to)) ≡ true) on h)
  where
    at_first : edge.from ≡ loop.first → loop.first ≤ edge.from
    at_first e = omega (arith, e)

    by : (b : Bool) → cond b (holds loop edge.from && (edge.to == loop.first)) ((edge.from == loop.first) && holds loop edge.to) ≡ true
        → loop.first ≤ edge.from
    by true g = (held_of loop edge.from (and_parts (holds loop edge.from) (edge.to == loop.first) g).0).from
    by false g = at_first (eqb-true edge.from loop.first (and_parts (edge.from == loop.first) (holds loop edge.to) g).0)

-- what is so of the number of each edge that begins no earlier than the loop
each_turn : (blocks : Blocks) (body : Body) → IsSound body.work.parts → (i : ℕ) (loop : Loop) → IsGoodLoop blocks body loop → (P : ℕ → Type 0)
    → ((e : ℕ) (edge : Edge) → slice_get body.work.parts.edges e ≡ Some edge → loop.first ≤ edge.from → P (turn_number blocks body i e))
    → AllByRecursion P (drawn_loop blocks body i loop).turns
each_turn blocks body s i loop good P each = go loop.turns good.turns (members loop.turns)
  where
    p : Parts
    p = body.work.parts

    go : (turns : List ℕ) → list_all (λ e. nat_lt e (length p.edges)) turns ≡ true → AllByRecursion (λ (e : ℕ). is_turn loop e ≡ true) turns
        → AllByRecursion P (map (turn_number blocks body i) turns)
    go [] below are = tt
    go (e ∷ turns) below are =
        let parts = and_parts (nat_lt e (length p.edges)) (list_all (λ f. nat_lt f (length p.edges)) turns) below in
        let edge = edge_there p.edges e (ltb-true e (length p.edges) parts.0) in (
          each e edge.0 edge.1 (turn_begins loop e edge.0 are.0
              (subst (λ (o : Option Edge). IfSome o (λ x. turns_well loop e x ≡ true)) edge.1 (good.own.is.turns e))),
          go turns parts.1 are.1,
        )

-- the numbers of edges of a location
record IsAmongEdges (blocks : Blocks) (body : Body) (i l n : ℕ) : Type 0 where
  from : i + drawn_before blocks body l ≤ n
  below : n < i + drawn_before blocks body (suc l)

number_at : (blocks : Blocks) (body : Body) → IsSound body.work.parts → (i e : ℕ) (edge : Edge) → slice_get body.work.parts.edges e ≡ Some edge
    → IsAmongEdges blocks body i edge.from (turn_number blocks body i e)
number_at blocks body s i e edge at = record {
  from = subst (λ (n : ℕ). i + drawn_before blocks body edge.from ≤ n) (sym its.is) (least i (drawn_before blocks body edge.from) k);
  below = subst (λ (n : ℕ). n < i + drawn_before blocks body (suc edge.from)) (sym its.is)
      (most i (drawn_before blocks body edge.from) (drawn_before blocks body (suc edge.from)) k (length (drawn_at blocks body edge.from))
      (next_before blocks body edge.from) its.small);
}
  where
    k : ℕ
    k = rank body.work.parts.edges edge.from e

    its : HasNumber blocks body i e edge
    its = has_number blocks body s i e edge at

    least : (a b c : ℕ) → a + b ≤ a + (b + c)
    least a b c = omega arith

    most : (a b d c w : ℕ) → d ≡ b + w → c < w → a + (b + c) < a + d
    most a b d c w f g = omega (arith, f, g)

-- ---- own loops

-- where a loop that begins at location l lies, with its turns
own_within : (blocks : Blocks) (body : Body) → IsSound body.work.parts → (i l : ℕ) (loop : Loop) → IsGoodLoop blocks body loop → loop.first ≡ l
    → IsWithin (number_in blocks body l) (end_of_body blocks body) (i + drawn_before blocks body l)
    (i + drawn_before blocks body body.work.parts.locations) (drawn_loop blocks body i loop)
own_within blocks body s i l loop good e = record {
  first = rises_in blocks body l loop.first (same_first e);
  range = spread (number_in blocks body loop.first) (number_in blocks body loop.last) _ (rises_in blocks body loop.first loop.last good.own.is.range);
  last = ends (drawn_loop blocks body i loop).last (number_in blocks body (suc loop.last)) (end_of_body blocks body) (copy_ends blocks body i loop good.own)
      (rises_in blocks body (suc loop.last) p.locations (up good.own.last));
  turns = each_turn blocks body s i loop good (λ (t : ℕ). (i + drawn_before blocks body l ≤ t) × (t < i + drawn_before blocks body p.locations)) turn;
}
  where
    p : Parts
    p = body.work.parts

    same_first : loop.first ≡ l → l ≤ loop.first
    same_first h = omega (arith, h)

    spread : (a b c : ℕ) → a ≤ b → a ≤ b + c
    spread a b c h = omega (arith, h)

    up : loop.last < p.locations → suc loop.last ≤ p.locations
    up h = omega (arith, h)

    ends : (a b c : ℕ) → suc a ≡ b → b ≤ c → a < c
    ends a b c h g = omega (arith, h, g)

    turn : (f : ℕ) (edge : Edge) → slice_get p.edges f ≡ Some edge → loop.first ≤ edge.from
        → (i + drawn_before blocks body l ≤ turn_number blocks body i f) × (turn_number blocks body i f < i + drawn_before blocks body p.locations)
    turn f edge at begins = (
      low (drawn_before blocks body l) (drawn_before blocks body edge.from) (before_grows blocks body l edge.from (late begins)) its.from,
      high (drawn_before blocks body (suc edge.from)) (drawn_before blocks body p.locations) its.below
          (before_grows blocks body (suc edge.from) p.locations (exists edge.from from_exists)),
    )
      where
        its : IsAmongEdges blocks body i edge.from (turn_number blocks body i f)
        its = number_at blocks body s i f edge at

        late : loop.first ≤ edge.from → l ≤ edge.from
        late h = omega (arith, h, e)

        from_exists : edge.from < p.locations
        from_exists = ltb-true edge.from p.locations (and_parts (nat_lt edge.from p.locations) (nat_lt edge.to p.locations)
            (edge_so (λ (y : Edge). nat_lt y.from p.locations && nat_lt y.to p.locations) p.edges f edge (are_below p s.faultless).edges at)).0

        exists : (m : ℕ) → m < p.locations → suc m ≤ p.locations
        exists m h = omega (arith, h)

        low : (a b : ℕ) → a ≤ b → i + b ≤ turn_number blocks body i f → i + a ≤ turn_number blocks body i f
        low a b h g = omega (arith, h, g)

        high : (a b : ℕ) → turn_number blocks body i f < i + a → a ≤ b → turn_number blocks body i f < i + b
        high a b h g = omega (arith, h, g)

-- an own loop that begins no later than a location, and what is called there
own_called : (blocks : Blocks) (body : Body) → IsSound body.work.parts → (i l : ℕ) (c : Numbered) (x y : Loop) → IsGoodLoop blocks body x → x.first ≤ l
    → call_from l 0 body.work.parts.calls ≡ Some c
    → IsWithin (suc (number_in blocks body l)) (number_in blocks body (suc l)) (suc (i + drawn_before blocks body l))
    (i + drawn_before blocks body (suc l)) y → IsPair (drawn_loop blocks body i x) y
own_called blocks body s i l c x y good le call within =
    own_pair (suc (number_in blocks body l)) (number_in blocks body (suc l)) (suc (i + drawn_before blocks body l)) (i + drawn_before blocks body (suc l))
    (drawn_loop blocks body i x) y within (next (number_in blocks body x.first) (number_in blocks body l) (rises_in blocks body x.first l le))
    (side (cases_lt x.last l)) (each_turn blocks body s i x good _ turn)
  where
    p : Parts
    p = body.work.parts

    next : (a b : ℕ) → a ≤ b → a < suc b
    next a b h = omega (arith, h)

    ends : suc (drawn_loop blocks body i x).last ≡ number_in blocks body (suc x.last)
    ends = copy_ends blocks body i x good.own

    side : (x.last < l) ⊎ (l ≤ x.last) → (number_in blocks body (suc l) ≤ suc (drawn_loop blocks body i x).last)
        ⊎ ((drawn_loop blocks body i x).last < suc (number_in blocks body l))
    side (inl lt) = inr (small (drawn_loop blocks body i x).last (number_in blocks body (suc x.last)) (number_in blocks body l) ends
        (rises_in blocks body (suc x.last) l (up lt)))
      where
        up : x.last < l → suc x.last ≤ l
        up h = omega (arith, h)

        small : (a b d : ℕ) → suc a ≡ b → b ≤ d → a < suc d
        small a b d h g = omega (arith, h, g)
    side (inr held) = inl (subst (λ (n : ℕ). number_in blocks body (suc l) ≤ n) (sym ends) (rises_in blocks body (suc l) (suc x.last) (lifted held)))
      where
        lifted : l ≤ x.last → suc l ≤ suc x.last
        lifted h = omega (arith, h)

    turn : (f : ℕ) (edge : Edge) → slice_get p.edges f ≡ Some edge → x.first ≤ edge.from
        → (turn_number blocks body i f < suc (i + drawn_before blocks body l)) ⊎ (i + drawn_before blocks body (suc l) ≤ turn_number blocks body i f)
    turn f edge at begins = by (cases_lt edge.from l) (cases_lt l edge.from)
      where
        its : IsAmongEdges blocks body i edge.from (turn_number blocks body i f)
        its = number_at blocks body s i f edge at

        elsewhere : l ≡ edge.from → ⊥
        elsewhere e = none-some c (sym (own_location p s f edge at).no_call ∙ (ap (λ (m : ℕ). call_from m 0 p.calls) (sym e) ∙ call))

        by : (edge.from < l) ⊎ (l ≤ edge.from) → (l < edge.from) ⊎ (edge.from ≤ l)
            → (turn_number blocks body i f < suc (i + drawn_before blocks body l)) ⊎ (i + drawn_before blocks body (suc l) ≤ turn_number blocks body i f)
        by (inl lt) other = inl (small (drawn_before blocks body (suc edge.from)) (drawn_before blocks body l) its.below
            (before_grows blocks body (suc edge.from) l (up lt)))
          where
            up : edge.from < l → suc edge.from ≤ l
            up h = omega (arith, h)

            small : (a b : ℕ) → turn_number blocks body i f < i + a → a ≤ b → turn_number blocks body i f < suc (i + b)
            small a b h g = omega (arith, h, g)
        by (inr ge) (inl lt) = inr (large (drawn_before blocks body edge.from) (drawn_before blocks body (suc l)) its.from
            (before_grows blocks body (suc l) edge.from (up lt)))
          where
            up : l < edge.from → suc l ≤ edge.from
            up h = omega (arith, h)

            large : (a b : ℕ) → i + a ≤ turn_number blocks body i f → b ≤ a → i + b ≤ turn_number blocks body i f
            large a b h g = omega (arith, h, g)
        by (inr ge) (inr le) = absurd (elsewhere (omega (arith, ge, le)))

-- ---- what is called at a location

pub record IsCalledAt (blocks : Blocks) (body : Body) (i l : ℕ) (y : Loop) : Type 0 where
  pub c : Numbered
  pub goes_on : end_at body.work.parts l ≡ None
  pub call : call_from l 0 body.work.parts.calls ≡ Some c
  pub within : IsWithin (suc (number_in blocks body l)) (number_in blocks body (suc l)) (suc (i + drawn_before blocks body l))
      (i + drawn_before blocks body (suc l)) y

-- the loops of a copy lie in it
abbrev pub LiesIn : Blocks → Body → ℕ → Loop → Type 0
LiesIn blocks body i y = IsWithin body.start (end_of_body blocks body) i (i + drawn_before blocks body body.work.parts.locations) y

pub record HasPairs (blocks : Blocks) (body : Body) (i : ℕ) (loops : List Loop) : Type 0 where
  pub pairs : Pairs loops
  pub lies : AllByRecursion (LiesIn blocks body i) loops

abbrev pub PairsIn : Blocks → ℕ → Type 0
PairsIn blocks c = (body : Body) (i : ℕ) → block_at blocks c ≡ Some body.work.parts → HasPairs blocks body i (laid blocks c body i)

pub record HasCalled (blocks : Blocks) (body : Body) (i l : ℕ) (loops : List Loop) : Type 0 where
  pub pairs : Pairs loops
  pub each : AllByRecursion (IsCalledAt blocks body i l) loops

pub each_so : (P Q : Loop → Type 0) (xs : List Loop) → ((x : Loop) → P x → Q x) → AllByRecursion P xs → AllByRecursion Q xs
each_so P Q [] f are = tt
each_so P Q (x ∷ xs) f are = (f x are.0, each_so P Q xs f are.1)

pub called_part : (blocks : Blocks) → AreFitting blocks → (body : Body) (i l : ℕ)
    → ((c : ℕ) → IsCalled body.work.parts.calls c → PairsIn blocks c)
    → HasCalled blocks body i l (laid_by blocks (laid blocks) body i l (end_at body.work.parts l))
called_part blocks fit body i l inner = by_end (end_at p l) refl
  where
    p : Parts
    p = body.work.parts

    called : end_at p l ≡ None → (c : Numbered) → call_from l 0 p.calls ≡ Some c → (o : Option Parts) → block_at blocks c.call.block ≡ o
        → HasCalled blocks body i l (laid_callee blocks (laid blocks) body i l c o)
    called none c call None e = record { pairs = tt; each = tt }
    called none c call (Some q) e = record {
      pairs = found.pairs;
      each = each_so (LiesIn blocks callee index) (IsCalledAt blocks body i l) (laid blocks c.call.block callee index)
          (λ y h. record {
            c = c;
            goes_on = none;
            call = call;
            within = within_wider callee.start (end_of_body blocks callee) index
                (index + drawn_before blocks callee q.locations) (suc (number_in blocks body l)) (number_in blocks body (suc l)) index
                (i + drawn_before blocks body (suc l)) y (omega arith) (same (callee_ends blocks fit body l c q none call e)) (omega arith) turns_end h;
          })
          found.lies;
    }
      where
        callee : Body
        callee = callee_body blocks body l c q

        index : ℕ
        index = suc (i + drawn_before blocks body l)

        found : HasPairs blocks callee index (laid blocks c.call.block callee index)
        found = inner c.call.block (found_called l 0 p.calls c call) callee index e

        same : {a b : ℕ} → a ≡ b → a ≤ b
        same h = omega (arith, h)

        long : length (drawn_at blocks body l) ≡ suc (drawn_before blocks callee q.locations)
        long = ap (λ (ds : List Drawn). length ds) (call_drawn blocks fit body l c q none call e)

        turns_end : index + drawn_before blocks callee q.locations ≤ i + drawn_before blocks body (suc l)
        turns_end = sum i (drawn_before blocks body l) (drawn_before blocks callee q.locations) (drawn_before blocks body (suc l))
            (length (drawn_at blocks body l)) (next_before blocks body l) long
          where
            sum : (a b k d w : ℕ) → d ≡ b + w → w ≡ suc k → suc (a + b) + k ≤ a + d
            sum a b k d w f g = omega (arith, f, g)

    by_call : end_at p l ≡ None → (o : Option Numbered) → call_from l 0 p.calls ≡ o → HasCalled blocks body i l (laid_call blocks (laid blocks) body i l o)
    by_call none None e = record { pairs = tt; each = tt }
    by_call none (Some c) e = called none c e (block_at blocks c.call.block) refl

    by_end : (end : Option End) → end_at p l ≡ end → HasCalled blocks body i l (laid_by blocks (laid blocks) body i l end)
    by_end None e = by_call e (call_from l 0 p.calls) refl
    by_end (Some end) e = record { pairs = tt; each = tt }

-- ---- all of a copy

-- what is laid below a location: own loops that begin before it, and what is called before it
data Earlier (blocks : Blocks) (body : Body) (i l : ℕ) (x : Loop) : Type 0 where
  own_loop : (loop : Loop) → IsGoodLoop blocks body loop → AllByRecursion (Follows loop) body.work.parts.loops → loop.first < l
      → drawn_loop blocks body i loop ≡ x → Earlier blocks body i l x
  called_loop : IsWithin body.start (number_in blocks body l) i (i + drawn_before blocks body l) x → Earlier blocks body i l x

-- an own loop of the block
record IsOne (blocks : Blocks) (body : Body) (x : Loop) : Type 0 where
  good : IsGoodLoop blocks body x
  follows : AllByRecursion (Follows x) body.work.parts.loops

ones : (blocks : Blocks) (body : Body) (xs : List Loop) → AllByRecursion (IsGoodLoop blocks body) xs
    → AllByRecursion (λ (x : Loop). AllByRecursion (Follows x) body.work.parts.loops) xs → AllByRecursion (IsOne blocks body) xs
ones blocks body [] good rows = tt
ones blocks body (x ∷ xs) good rows = (record { good = good.0; follows = rows.0 }, ones blocks body xs good.1 rows.1)

abbrev OneAt : Blocks → Body → ℕ → Loop → Type 0
OneAt blocks body l x = IsOne blocks body x × (x.first ≡ l)

follow_own : (blocks : Blocks) (body : Body) → IsSound body.work.parts → (i l : ℕ) (x : Loop) (ys : List Loop) → IsGoodLoop blocks body x → x.first < l
    → AllByRecursion (λ (y : Loop). Follows x y × (y.first ≡ l)) ys → AllByRecursion (OneAt blocks body l) ys
    → AllByRecursion (IsPair (drawn_loop blocks body i x)) (map (drawn_loop blocks body i) ys)
follow_own blocks body s i l x [] good lt are those = tt
follow_own blocks body s i l x (y ∷ ys) good lt are those = (
  own_own blocks body s i x y good ((those.0).0).good ((are.0).0 (below (are.0).1)),
  follow_own blocks body s i l x ys good lt are.1 those.1,
)
  where
    below : y.first ≡ l → x.first < y.first
    below e = omega (arith, lt, e)

called_own : (blocks : Blocks) (body : Body) → IsSound body.work.parts → (i l : ℕ) (x : Loop) (ys : List Loop)
    → IsWithin body.start (number_in blocks body l) i (i + drawn_before blocks body l) x → AllByRecursion (OneAt blocks body l) ys
    → AllByRecursion (IsPair x) (map (drawn_loop blocks body i) ys)
called_own blocks body s i l x [] within those = tt
called_own blocks body s i l x (y ∷ ys) within those = (
  apart_pair body.start (number_in blocks body l) i (i + drawn_before blocks body l) (number_in blocks body l) (end_of_body blocks body)
      (i + drawn_before blocks body l) (i + drawn_before blocks body body.work.parts.locations) x (drawn_loop blocks body i y) within
      (own_within blocks body s i l y ((those.0).0).good (those.0).1) (omega arith) (omega arith),
  called_own blocks body s i l x ys within those.1,
)

own_with_called : (blocks : Blocks) (body : Body) → IsSound body.work.parts → (i l : ℕ) (x : Loop) (ys : List Loop) → IsGoodLoop blocks body x → x.first ≤ l
    → AllByRecursion (IsCalledAt blocks body i l) ys → AllByRecursion (IsPair (drawn_loop blocks body i x)) ys
own_with_called blocks body s i l x [] good le are = tt
own_with_called blocks body s i l x (y ∷ ys) good le are =
    (own_called blocks body s i l (are.0).c x y good le (are.0).call (are.0).within, own_with_called blocks body s i l x ys good le are.1)

called_with_called : (blocks : Blocks) (body : Body) (i l : ℕ) (x : Loop) (ys : List Loop)
    → IsWithin body.start (number_in blocks body l) i (i + drawn_before blocks body l) x → AllByRecursion (IsCalledAt blocks body i l) ys
    → AllByRecursion (IsPair x) ys
called_with_called blocks body i l x [] within are = tt
called_with_called blocks body i l x (y ∷ ys) within are = (
  apart_pair body.start (number_in blocks body l) i (i + drawn_before blocks body l) (suc (number_in blocks body l)) (number_in blocks body (suc l))
      (suc (i + drawn_before blocks body l)) (i + drawn_before blocks body (suc l)) x y within (are.0).within (omega arith) (omega arith),
  called_with_called blocks body i l x ys within are.1,
)

record BelowPairs (blocks : Blocks) (body : Body) (i n : ℕ) : Type 0 where
  pairs : Pairs (laid_below blocks (laid blocks) body i n)
  each : AllByRecursion (Earlier blocks body i n) (laid_below blocks (laid blocks) body i n)
  lies : AllByRecursion (LiesIn blocks body i) (laid_below blocks (laid blocks) body i n)

below_pairs : (blocks : Blocks) → AreFitting blocks → (body : Body) (i : ℕ) → IsSound body.work.parts
    → ((c : ℕ) → IsCalled body.work.parts.calls c → PairsIn blocks c) → (n : ℕ) → n ≤ body.work.parts.locations → BelowPairs blocks body i n
below_pairs blocks fit body i s inner zero le = record { pairs = tt; each = tt; lies = tt }
below_pairs blocks fit body i s inner (suc n) le = by (below_pairs blocks fit body i s inner n (omega (arith, le)))
  where
    p : Parts
    p = body.work.parts

    exists : n < p.locations
    exists = omega (arith, le)

    old : List Loop
    old = laid_below blocks (laid blocks) body i n

    xs : List Loop
    xs = loops_from n p.loops

    own : List Loop
    own = map (drawn_loop blocks body i) xs

    new : List Loop
    new = laid_by blocks (laid blocks) body i n (end_at p n)

    called : HasCalled blocks body i n new
    called = called_part blocks fit body i n inner

    good : AllByRecursion (IsGoodLoop blocks body) p.loops
    good = good_loops blocks body s

    rows : AllByRecursion (λ (x : Loop). AllByRecursion (Follows x) p.loops) p.loops
    rows = all_follow p.loops (block_pairs p s)

    those : AllByRecursion (OneAt blocks body n) xs
    those = keep_from (IsOne blocks body) n p.loops (ones blocks body p.loops good rows)

    own_each : (zs : List Loop) → AllByRecursion (OneAt blocks body n) zs → EachWith (map (drawn_loop blocks body i) zs) new
    own_each [] are = tt
    own_each (z ∷ zs) are = (own_with_called blocks body s i n z new ((are.0).0).good (same (are.0).1) called.each, own_each zs are.1)
      where
        same : z.first ≡ n → z.first ≤ n
        same e = omega (arith, e)

    old_own : (zs : List Loop) → AllByRecursion (Earlier blocks body i n) zs → EachWith zs own
    old_own [] are = tt
    old_own (z ∷ zs) are = (one are.0, old_own zs are.1)
      where
        one : Earlier blocks body i n z → AllByRecursion (IsPair z) own
        one (own_loop loop is_good follows lt e) = subst (λ (v : Loop). AllByRecursion (IsPair v) own) e
            (follow_own blocks body s i n loop xs is_good lt (keep_from (Follows loop) n p.loops follows) those)
        one (called_loop within) = called_own blocks body s i n z xs within those

    old_new : (zs : List Loop) → AllByRecursion (Earlier blocks body i n) zs → EachWith zs new
    old_new [] are = tt
    old_new (z ∷ zs) are = (one are.0, old_new zs are.1)
      where
        weak : (a : ℕ) → a < n → a ≤ n
        weak a h = omega (arith, h)

        one : Earlier blocks body i n z → AllByRecursion (IsPair z) new
        one (own_loop loop is_good follows lt e) = subst (λ (v : Loop). AllByRecursion (IsPair v) new) e
            (own_with_called blocks body s i n loop new is_good (weak loop.first lt) called.each)
        one (called_loop within) = called_with_called blocks body i n z new within called.each

    grows : i + drawn_before blocks body n ≤ i + drawn_before blocks body (suc n)
    grows = shifted (drawn_before blocks body n) (drawn_before blocks body (suc n)) (before_grows blocks body n (suc n) (omega arith))
      where
        shifted : (a b : ℕ) → a ≤ b → i + a ≤ i + b
        shifted a b h = omega (arith, h)

    late : {a : ℕ} → a < n → a < suc n
    late h = omega (arith, h)

    raised : (z : Loop) → Earlier blocks body i n z → Earlier blocks body i (suc n) z
    raised z (own_loop loop is_good follows lt e) = own_loop loop is_good follows (late lt) e
    raised z (called_loop within) = called_loop (within_wider body.start (number_in blocks body n) i (i + drawn_before blocks body n) body.start
        (number_in blocks body (suc n)) i (i + drawn_before blocks body (suc n)) z (omega arith) (rises_in blocks body n (suc n) (omega arith)) (omega arith)
        grows within)

    own_new : (zs : List Loop) → AllByRecursion (OneAt blocks body n) zs → AllByRecursion (Earlier blocks body i (suc n)) (map (drawn_loop blocks body i) zs)
    own_new [] are = tt
    own_new (z ∷ zs) are = (own_loop z ((are.0).0).good ((are.0).0).follows (next (are.0).1) refl, own_new zs are.1)
      where
        next : z.first ≡ n → z.first < suc n
        next e = omega (arith, e)

    start_low : body.start ≤ suc (number_in blocks body n)
    start_low = reach body.start (before (span blocks) p n)
      where
        reach : (a b : ℕ) → a ≤ suc (a + b)
        reach a b = omega arith

    called_in : (z : Loop) → IsCalledAt blocks body i n z
        → IsWithin body.start (number_in blocks body (suc n)) i (i + drawn_before blocks body (suc n)) z
    called_in z h = within_wider (suc (number_in blocks body n)) (number_in blocks body (suc n)) (suc (i + drawn_before blocks body n))
        (i + drawn_before blocks body (suc n)) body.start (number_in blocks body (suc n)) i (i + drawn_before blocks body (suc n)) z start_low (omega arith)
        (reach (drawn_before blocks body n)) (omega arith) h.within
      where
        reach : (a : ℕ) → i ≤ suc (i + a)
        reach a = omega arith

    to_end : number_in blocks body (suc n) ≤ end_of_body blocks body
    to_end = rises_in blocks body (suc n) p.locations le

    turns_to_end : i + drawn_before blocks body (suc n) ≤ i + drawn_before blocks body p.locations
    turns_to_end = shifted (drawn_before blocks body (suc n)) (drawn_before blocks body p.locations) (before_grows blocks body (suc n) p.locations le)
      where
        shifted : (a b : ℕ) → a ≤ b → i + a ≤ i + b
        shifted a b h = omega (arith, h)

    own_lies : (zs : List Loop) → AllByRecursion (OneAt blocks body n) zs → AllByRecursion (LiesIn blocks body i) (map (drawn_loop blocks body i) zs)
    own_lies [] are = tt
    own_lies (z ∷ zs) are = (
      within_wider (number_in blocks body n) (end_of_body blocks body) (i + drawn_before blocks body n) (i + drawn_before blocks body p.locations) body.start
          (end_of_body blocks body) i (i + drawn_before blocks body p.locations) (drawn_loop blocks body i z)
          (low body.start (before (span blocks) p n)) (omega arith) (low i (drawn_before blocks body n)) (omega arith)
          (own_within blocks body s i n z ((are.0).0).good (are.0).1),
      own_lies zs are.1,
    )
      where
        low : (a b : ℕ) → a ≤ a + b
        low a b = omega arith

    by : BelowPairs blocks body i n → BelowPairs blocks body i (suc n)
    by h = record {
      pairs = pairs_append old (own ++ new) h.pairs
          (pairs_append own new (own_pairs blocks body s i xs (filter_from (IsGoodLoop blocks body) n p.loops good) (pairs_there n p.loops (block_pairs p s)))
          called.pairs (own_each xs those))
          (each_append old own new (old_own old h.each) (old_new old h.each));
      each = all_append (Earlier blocks body i (suc n)) old (own ++ new) (each_so (Earlier blocks body i n) (Earlier blocks body i (suc n)) old raised h.each)
          (all_append (Earlier blocks body i (suc n)) own new (own_new xs those)
          (each_so (IsCalledAt blocks body i n) (Earlier blocks body i (suc n)) new (λ z g. called_loop (called_in z g)) called.each));
      lies = all_append (LiesIn blocks body i) old (own ++ new) h.lies (all_append (LiesIn blocks body i) own new (own_lies xs those)
          (each_so (IsCalledAt blocks body i n) (LiesIn blocks body i) new
          (λ z g. within_wider body.start (number_in blocks body (suc n)) i (i + drawn_before blocks body (suc n)) body.start (end_of_body blocks body) i
          (i + drawn_before blocks body p.locations) z (omega arith) to_end (omega arith) turns_to_end (called_in z g)) called.each));
    }

pub copies_pairs : (blocks : Blocks) → AreFitting blocks → AreSound blocks → (b : ℕ) → PairsIn blocks b
copies_pairs blocks fit sound b =
    deep (λ n c. PairsIn blocks c) blocks fit (λ n c none body i at. absurd (none-some body.work.parts (sym none ∙ at))) step b
  where
    step : (n c : ℕ) (q : Parts) → block_at blocks c ≡ Some q → ((d : ℕ) → runs_block blocks c d ≡ true → PairsIn blocks d) → PairsIn blocks c
    step n c q e below = λ body i at.
        let h : BelowPairs blocks body i body.work.parts.locations = below_pairs blocks fit body i (sound_at blocks sound c body.work.parts at)
        (λ d any. below d (is_run blocks c body.work.parts at d any)) body.work.parts.locations (omega arith) in
        subst (λ (loops : List Loop). HasPairs blocks body i loops) (sym (laid_is blocks fit c body i at)) (record { pairs = h.pairs; lies = h.lies })

pub whole_pairs : (blocks : Blocks) → AreFitting blocks → AreSound blocks → (b : ℕ) (p : Parts) → block_at blocks b ≡ Some p
    → HasPairs blocks (entry_body p) 0 (inlined blocks p).loops
whole_pairs blocks fit sound b p at =
    let h : BelowPairs blocks (entry_body p) 0 p.locations = below_pairs blocks fit (entry_body p) 0 (sound_at blocks sound b p at)
    (λ c any. copies_pairs blocks fit sound c) p.locations (omega arith) in
    record { pairs = h.pairs; lies = h.lies }
