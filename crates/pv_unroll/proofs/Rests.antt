-- What is left of the text where the walk is: of the loops around, innermost first, the rest of this turn, the turns behind it, the first
-- location once more, where the bound is gone over, and what is left behind that. Each step of the walk keeps it.
use Rattle.std.proofs.Common.{◌≡◌, ℕ, zero, suc, ◌+◌, ◌-◌, ◌<◌, ◌≤◌, ◌⊎◌, inl, inr, List, [], ◌∷◌, ◌++◌, map, Bool, true, false, ◌&&◌, nat_le, nat_lt, cond, refl, sym, ap, ◌∙◌, arith}
use Rattle.std.specs.List.{AllByRecursion}
use Rattle.std.proofs.lemmas.Bool.{le-leb, leb-true, cases_lt}
use Rattle.std.proofs.lemmas.List.{append-nil, append_assoc}
use Rattle.pv_flow.specs.Automata.{Loop}
use Rattle.pv_copies.specs.Copies.{Copy, copy, beyond, within}
use Rattle.pv_copies.specs.Places.{fits, plain, rounds, once_more, text}
use Rattle.pv_copies.proofs.ForCallers.{fitting}
use Rattle.pv_unroll.proofs.Nest.{Held, end_by}

-- innermost first
abbrev pub put_in : List Held → Copy → Copy
put_in [] c = c
put_in (t ∷ outer) c = put_in outer (within t.number c)

-- copies in so many turns, from turn k on
abbrev pub later : ℕ → ℕ → List Copy → List Copy
later zero k inner = []
later (suc m) k inner = map (within k) inner ++ later m (suc k) inner

abbrev pub inner_of : (ℕ → Bool) → ℕ → Loop → List Loop → List Copy
inner_of stands n loop more = text stands n more loop.first (suc loop.last)

-- behind the turns of a loop
abbrev pub past_turns : ℕ → Loop → List Copy
past_turns n loop = once_more n loop ++ (beyond loop [] ∷ [])

-- what is left behind the rest of the innermost turn
abbrev pub after : (ℕ → Bool) → ℕ → ℕ → List Held → List Copy
after stands n b [] = []
after stands n b (t ∷ outer) =
    map (put_in outer) (later (n - suc t.number) (suc t.number) (inner_of stands n t.loop t.more) ++ past_turns n t.loop)
    ++ (map (put_in outer) (text stands n t.more (suc t.loop.last) (end_by b outer)) ++ after stands n b outer)

-- what is left at a location, where these loops are still to begin
abbrev pub rest : (ℕ → Bool) → ℕ → ℕ → List Held → List Loop → ℕ → List Copy
rest stands n b around loops l = map (put_in around) (text stands n loops l (end_by b around)) ++ after stands n b around

-- ---- lists

parted : {X Y : Type 0} (f : X → Y) (a w o : List X) (x : X) (r : List X) (s : List Y)
    → map f ((a ++ w) ++ (o ++ (x ∷ r))) ++ s ≡ map f a ++ (map f (w ++ (o ++ (x ∷ []))) ++ (map f r ++ s))
parted f [] [] [] x r s = refl
parted f [] [] (y ∷ o) x r s = ap (λ zs. f y ∷ zs) (parted f [] [] o x r s)
parted f [] (y ∷ w) o x r s = ap (λ zs. f y ∷ zs) (parted f [] w o x r s)
parted f (y ∷ a) w o x r s = ap (λ zs. f y ∷ zs) (parted f a w o x r s)

apart : {X Y : Type 0} (f : X → Y) (a w : List X) (s : List Y) → map f (a ++ w) ++ s ≡ map f a ++ (map f w ++ s)
apart f [] w s = refl
apart f (x ∷ a) w s = ap (λ zs. f x ∷ zs) (apart f a w s)

mapped_twice : {X Y Z : Type 0} (f : X → Y) (g : Y → Z) (xs : List X) → map g (map f xs) ≡ map (λ x. g (f x)) xs
mapped_twice f g [] = refl
mapped_twice f g (x ∷ xs) = ap (λ zs. g (f x) ∷ zs) (mapped_twice f g xs)

-- ---- turns

rounds_later : (m k : ℕ) (inner : List Copy) → rounds (k + m) inner ≡ rounds k inner ++ later m k inner
rounds_later zero k inner = ap (λ (j : ℕ). rounds j inner) (none k) ∙ sym (append-nil (rounds k inner))
  where
    none : (k : ℕ) → k + 0 ≡ k
    none k = omega arith
rounds_later (suc m) k inner = ap (λ (j : ℕ). rounds j inner) (further k m) ∙ rounds_later m (suc k) inner
    ∙ append_assoc (rounds k inner) (map (within k) inner) (later m (suc k) inner)
  where
    further : (k m : ℕ) → k + suc m ≡ suc k + m
    further k m = omega arith

-- all turns are the first and those behind it
first_turn : (n : ℕ) (inner : List Copy) → 0 < n → rounds n inner ≡ map (within 0) inner ++ later (n - 1) 1 inner
first_turn zero inner some = absurd (omega (arith, some))
first_turn (suc n) inner some = ap (λ (j : ℕ). rounds j inner) (front (suc n)) ∙ rounds_later (suc n) 0 inner ∙ ap (λ (m : ℕ). map (within 0) inner ++ later m 1 inner) (less n)
  where
    front : (m : ℕ) → m ≡ 0 + m
    front m = omega arith

    less : (n : ℕ) → n ≡ suc n - 1
    less n = omega arith

next_turn : (n k : ℕ) (inner : List Copy) → suc k < n
    → later (n - suc k) (suc k) inner ≡ map (within (suc k)) inner ++ later (n - suc (suc k)) (suc (suc k)) inner
next_turn n k inner lt = ap (λ (m : ℕ). later m (suc k) inner) less
  where
    less : n - suc k ≡ suc (n - suc (suc k))
    less = omega (arith, lt)

-- ---- ranges

plain_none : (stands : ℕ → Bool) (a b : ℕ) → b ≤ a → plain stands a b ≡ []
plain_none stands a zero le = refl
plain_none stands a (suc b) le = by (nat_le a b) refl
  where
    by : (t : Bool) → nat_le a b ≡ t → cond t (plain stands a b ++ cond (stands b) (copy b [] ∷ []) []) [] ≡ []
    by false e = refl
    by true e = let low = leb-true a b e in absurd (omega (arith, low, le))

pub text_none : (stands : ℕ → Bool) (n : ℕ) (loops : List Loop) (a b : ℕ) → AllByRecursion (λ (loop : Loop). loop.first ≤ loop.last) loops → b ≤ a
    → text stands n loops a b ≡ []
text_none stands n [] a b are le = plain_none stands a b le
text_none stands n (loop ∷ loops) a b are le = by (fits loop a b) refl (text_none stands n loops a b are.1 le)
  where
    never : (loop : Loop) → (nat_le a loop.first && nat_lt loop.last b) ≡ true → loop.first ≤ loop.last → ⊥
    never l e range = let low = fitting l a b e in omega (arith, low.0, low.1, range, le)

    by : (t : Bool) → fits loop a b ≡ t → text stands n loops a b ≡ []
        → cond t (text stands n loops a loop.first ++ (rounds n (text stands n loops loop.first (suc loop.last))
        ++ (once_more n loop ++ (beyond loop [] ∷ text stands n loops (suc loop.last) b)))) (text stands n loops a b) ≡ []
    by false e h = h
    by true e h = absurd (never loop e are.0)

-- ---- one location

plain_step : (stands : ℕ → Bool) (a b : ℕ) → a < b → plain stands a b ≡ cond (stands a) (copy a [] ∷ []) [] ++ plain stands (suc a) b
plain_step stands a zero lt = absurd (omega (arith, lt))
plain_step stands a (suc b) lt = by (cases_lt a b) (λ less. plain_step stands a b less)
  where
    by : (a < b) ⊎ (b ≤ a) → (a < b → plain stands a b ≡ cond (stands a) (copy a [] ∷ []) [] ++ plain stands (suc a) b)
        → plain stands a (suc b) ≡ cond (stands a) (copy a [] ∷ []) [] ++ plain stands (suc a) (suc b)
    by (inl less) go =
        ap (λ (t : Bool). cond t (plain stands a b ++ cond (stands b) (copy b [] ∷ []) []) []) (le-leb a b (omega (arith, less)))
        ∙ ap (λ (xs : List Copy). xs ++ cond (stands b) (copy b [] ∷ []) []) (go less)
        ∙ append_assoc (cond (stands a) (copy a [] ∷ []) []) (plain stands (suc a) b) (cond (stands b) (copy b [] ∷ []) [])
        ∙ ap (λ (t : Bool). cond (stands a) (copy a [] ∷ []) [] ++ cond t (plain stands (suc a) b ++ cond (stands b) (copy b [] ∷ []) []) [])
        (sym (le-leb (suc a) b (omega (arith, less))))
    by (inr same) go =
        ap (λ (t : Bool). cond t (plain stands a b ++ cond (stands b) (copy b [] ∷ []) []) []) (le-leb a b (omega (arith, lt)))
        ∙ ap (λ (xs : List Copy). xs ++ cond (stands b) (copy b [] ∷ []) []) (plain_none stands a b same)
        ∙ ap (λ (l : ℕ). cond (stands l) (copy l [] ∷ []) []) equal
        ∙ sym (append-nil (cond (stands a) (copy a [] ∷ []) []))
        ∙ ap (λ (xs : List Copy). cond (stands a) (copy a [] ∷ []) [] ++ xs) (sym (plain_none stands (suc a) (suc b) (omega (arith, same))))
      where
        equal : b ≡ a
        equal = omega (arith, same, lt)

-- where no loop begins, the location's copy is the first
pub text_step : (stands : ℕ → Bool) (n : ℕ) (loops : List Loop) (a b : ℕ) → AllByRecursion (λ (loop : Loop). a < loop.first) loops → a < b
    → text stands n loops a b ≡ cond (stands a) (copy a [] ∷ []) [] ++ text stands n loops (suc a) b
text_step stands n [] a b off lt = plain_step stands a b lt
text_step stands n (loop ∷ loops) a b off lt =
    ap (λ (t : Bool). cond (t && nat_lt loop.last b)
    (text stands n loops a loop.first ++ (rounds n (text stands n loops loop.first (suc loop.last))
    ++ (once_more n loop ++ (beyond loop [] ∷ text stands n loops (suc loop.last) b))))
    (text stands n loops a b)) (le-leb a loop.first low)
    ∙ by (nat_lt loop.last b) (λ m less. text_step stands n loops a m off.1 less)
    ∙ ap (λ (t : Bool). cond (stands a) (copy a [] ∷ []) [] ++ cond (t && nat_lt loop.last b)
    (text stands n loops (suc a) loop.first ++ (rounds n (text stands n loops loop.first (suc loop.last))
    ++ (once_more n loop ++ (beyond loop [] ∷ text stands n loops (suc loop.last) b))))
    (text stands n loops (suc a) b)) (sym (le-leb (suc a) loop.first (omega (arith, off.0))))
  where
    low : a ≤ loop.first
    low = omega (arith, off.0)

    by : (t : Bool) → ((m : ℕ) → a < m → text stands n loops a m ≡ cond (stands a) (copy a [] ∷ []) [] ++ text stands n loops (suc a) m)
        → cond t
        (text stands n loops a loop.first ++ (rounds n (text stands n loops loop.first (suc loop.last))
        ++ (once_more n loop ++ (beyond loop [] ∷ text stands n loops (suc loop.last) b))))
        (text stands n loops a b)
        ≡ cond (stands a) (copy a [] ∷ []) [] ++ cond t
        (text stands n loops (suc a) loop.first ++ (rounds n (text stands n loops loop.first (suc loop.last))
        ++ (once_more n loop ++ (beyond loop [] ∷ text stands n loops (suc loop.last) b))))
        (text stands n loops (suc a) b)
    by true go = ap (λ (xs : List Copy). xs ++ (rounds n (text stands n loops loop.first (suc loop.last))
        ++ (once_more n loop ++ (beyond loop [] ∷ text stands n loops (suc loop.last) b)))) (go loop.first off.0)
        ∙ append_assoc (cond (stands a) (copy a [] ∷ []) []) (text stands n loops (suc a) loop.first)
        (rounds n (text stands n loops loop.first (suc loop.last)) ++ (once_more n loop ++ (beyond loop [] ∷ text stands n loops (suc loop.last) b)))
    by false go = go b lt

-- ---- the steps of the walk

-- past a location at which no loop begins
pub rest_passed : (stands : ℕ → Bool) (n b : ℕ) (around : List Held) (loops : List Loop) (l : ℕ)
    → AllByRecursion (λ (loop : Loop). l < loop.first) loops → l < end_by b around
    → rest stands n b around loops l ≡ map (put_in around) (cond (stands l) (copy l [] ∷ []) []) ++ rest stands n b around loops (suc l)
rest_passed stands n b around loops l off lt =
    ap (λ (xs : List Copy). map (put_in around) xs ++ after stands n b around) (text_step stands n loops l (end_by b around) off lt)
    ∙ apart (put_in around) (cond (stands l) (copy l [] ∷ []) []) (text stands n loops (suc l) (end_by b around)) (after stands n b around)

-- into a loop, at its first location
pub rest_entered : (stands : ℕ → Bool) (n b : ℕ) (around : List Held) (loop : Loop) (loops : List Loop) → 0 < n
    → AllByRecursion (λ (other : Loop). other.first ≤ other.last) loops → fits loop loop.first (end_by b around) ≡ true
    → rest stands n b around (loop ∷ loops) loop.first
    ≡ rest stands n b ((record { loop = loop; more = loops; number = 0 }) ∷ around) loops loop.first
rest_entered stands n b around loop loops some ranges e =
    ap (λ (t : Bool). map (put_in around) (cond t
    (text stands n loops loop.first loop.first ++ (rounds n (inner_of stands n loop loops)
    ++ (once_more n loop ++ (beyond loop [] ∷ text stands n loops (suc loop.last) (end_by b around)))))
    (text stands n loops loop.first (end_by b around))) ++ after stands n b around) e
    ∙ ap (λ (xs : List Copy). map (put_in around) (xs ++ (rounds n (inner_of stands n loop loops)
    ++ (once_more n loop ++ (beyond loop [] ∷ text stands n loops (suc loop.last) (end_by b around))))) ++ after stands n b around)
    (text_none stands n loops loop.first loop.first ranges (omega arith))
    ∙ ap (λ (xs : List Copy). map (put_in around) (xs ++ (once_more n loop
    ++ (beyond loop [] ∷ text stands n loops (suc loop.last) (end_by b around)))) ++ after stands n b around)
    (first_turn n (inner_of stands n loop loops) some)
    ∙ parted (put_in around) (map (within 0) (inner_of stands n loop loops)) (later (n - 1) 1 (inner_of stands n loop loops)) (once_more n loop)
    (beyond loop []) (text stands n loops (suc loop.last) (end_by b around)) (after stands n b around)
    ∙ ap (λ (xs : List Copy). xs ++ after stands n b ((record { loop = loop; more = loops; number = 0 }) ∷ around))
    (mapped_twice (within 0) (put_in around) (inner_of stands n loop loops))

-- behind its last location, what is left of this turn is nothing
turn_over : (stands : ℕ → Bool) (n b : ℕ) (around : List Held) (t : Held) (loops : List Loop)
    → AllByRecursion (λ (other : Loop). other.first ≤ other.last) loops
    → rest stands n b (t ∷ around) loops (suc t.loop.last) ≡ after stands n b (t ∷ around)
turn_over stands n b around t loops ranges =
    ap (λ (xs : List Copy). map (put_in (t ∷ around)) xs ++ after stands n b (t ∷ around))
    (text_none stands n loops (suc t.loop.last) (suc t.loop.last) ranges (omega arith))

-- back to its first location, in the next turn
pub rest_turned : (stands : ℕ → Bool) (n b : ℕ) (around : List Held) (loop : Loop) (more loops : List Loop) (k : ℕ)
    → AllByRecursion (λ (other : Loop). other.first ≤ other.last) loops → suc k < n
    → rest stands n b ((record { loop = loop; more = more; number = k }) ∷ around) loops (suc loop.last)
    ≡ rest stands n b ((record { loop = loop; more = more; number = suc k }) ∷ around) more loop.first
rest_turned stands n b around loop more loops k ranges lt =
    turn_over stands n b around (record { loop = loop; more = more; number = k }) loops ranges
    ∙ ap (λ (xs : List Copy). map (put_in around) (xs ++ past_turns n loop)
    ++ (map (put_in around) (text stands n more (suc loop.last) (end_by b around)) ++ after stands n b around))
    (next_turn n k (inner_of stands n loop more) lt)
    ∙ ap (λ (xs : List Copy). map (put_in around) xs
    ++ (map (put_in around) (text stands n more (suc loop.last) (end_by b around)) ++ after stands n b around))
    (append_assoc (map (within (suc k)) (inner_of stands n loop more)) (later (n - suc (suc k)) (suc (suc k)) (inner_of stands n loop more)) (past_turns n loop))
    ∙ apart (put_in around) (map (within (suc k)) (inner_of stands n loop more))
    (later (n - suc (suc k)) (suc (suc k)) (inner_of stands n loop more) ++ past_turns n loop)
    (map (put_in around) (text stands n more (suc loop.last) (end_by b around)) ++ after stands n b around)
    ∙ ap (λ (xs : List Copy). xs ++ after stands n b ((record { loop = loop; more = more; number = suc k }) ∷ around))
    (mapped_twice (within (suc k)) (put_in around) (inner_of stands n loop more))

-- past it, where it has no turn left
pub rest_left : (stands : ℕ → Bool) (n b : ℕ) (around : List Held) (loop : Loop) (more loops : List Loop) (k : ℕ)
    → AllByRecursion (λ (other : Loop). other.first ≤ other.last) loops → n ≤ suc k
    → rest stands n b ((record { loop = loop; more = more; number = k }) ∷ around) loops (suc loop.last)
    ≡ map (put_in around) (past_turns n loop) ++ rest stands n b around more (suc loop.last)
rest_left stands n b around loop more loops k ranges le =
    turn_over stands n b around (record { loop = loop; more = more; number = k }) loops ranges
    ∙ ap (λ (m : ℕ). map (put_in around) (later m (suc k) (inner_of stands n loop more) ++ past_turns n loop)
    ++ (map (put_in around) (text stands n more (suc loop.last) (end_by b around)) ++ after stands n b around)) none
  where
    none : n - suc k ≡ 0
    none = omega (arith, le)
