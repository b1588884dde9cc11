-- How far a run has come: how many copies of locations stand before the one where it is, if loops are unrolled. The copy is told by
-- the location and, for each loop that holds it, how many of its copies come before.
use Rattle.std.proofs.Common.{◌≡◌, ℕ, zero, suc, ◌+◌, ◌*◌, ◌<◌, ◌≤◌, ◌⊎◌, inl, inr, List, [], ◌∷◌, slice_get, true, false, not, ◌==◌, nat_lt, nat_le, cond, Some, refl, sym, subst, ap, ◌∙◌, arith}
use Rattle.std.specs.List.{AllByRecursion}
use Rattle.std.proofs.Math.Nat.{mul-le-mul_right}
use Rattle.std.proofs.lemmas.Bool.{cases_lt, lt-ltb, le-ltb, lt-leb, le-leb, cond-true, cond-false, and_parts, not-true, eqb-true}
use Rattle.std.proofs.lemmas.Option.{same_Some, none-some}
use Rattle.pv_flow.specs.Automata.{Loop, holds}
use Rattle.pv_flow.specs.Runs.{copies}
use Rattle.pv_flow.proofs.Sums.{is_lead, inside, once_more, copies_mono, copies_without, holds_by, holds_first, holds_last, before_first, behind_last, no_more_than, no_fewer_than, one_turn, once_more_is}

-- ---- loops in order

-- the other loop begins no earlier, lies within the loop if they meet, and begins behind its first location where entering starts no turn
pub record Below (loop other : Loop) : Type 0 where
  pub from : loop.first ≤ other.first
  pub within : other.first ≤ loop.last → other.last ≤ loop.last
  pub apart : loop.entry_turn ≡ false → loop.first < other.first

abbrev pub AreNested : List Loop → Type 0
AreNested [] = Unit {0}
AreNested (loop ∷ more) = (loop.first ≤ loop.last) × AllByRecursion (Below loop) more × AreNested more

-- ---- places

-- how many copies of its locations a loop adds before location l, in front of which j of its copies stand
abbrev pub extra : ℕ → Loop → List Loop → ℕ → ℕ → ℕ
extra m loop more l j = cond (nat_lt l loop.first) 0
    (cond (nat_le l loop.last) (j * inside (suc m) loop more) (m * inside (suc m) loop more + once_more (suc m) loop more))

abbrev pub place : ℕ → List Loop → ℕ → (ℕ → ℕ) → ℕ
place m [] l js = l
place m (loop ∷ more) l js = place m more l (λ i. js (suc i)) + extra m loop more l (js 0)

-- the loop has such a copy of location l: one of its turns, or the additional one of its first location
abbrev pub IsCopy : ℕ → Loop → ℕ → ℕ → Type 0
IsCopy m loop l j = holds loop l ≡ true → (j ≤ m) ⊎ ((j ≡ suc m) × (is_lead loop l ≡ true))

abbrev pub AreCopies : ℕ → List Loop → ℕ → (ℕ → ℕ) → Type 0
AreCopies m [] l js = Unit {0}
AreCopies m (loop ∷ more) l js = IsCopy m loop l (js 0) × AreCopies m more l (λ i. js (suc i))

-- ---- a location and a loop

-- a location lies before a loop, in it, or behind it
data Lies (loop : Loop) (l : ℕ) : Type 0 where
  lies_before : l < loop.first → Lies loop l
  lies_within : loop.first ≤ l → l ≤ loop.last → Lies loop l
  lies_behind : loop.first ≤ l → loop.last < l → Lies loop l

lies : (loop : Loop) (l : ℕ) → Lies loop l
lies loop l = by (cases_lt l loop.first) (cases_lt loop.last l)
  where
    by : (l < loop.first) ⊎ (loop.first ≤ l) → (loop.last < l) ⊎ (l ≤ loop.last) → Lies loop l
    by (inl lt) x = lies_before lt
    by (inr le) (inl lt) = lies_behind le lt
    by (inr le) (inr high) = lies_within le high

extra_before : (m : ℕ) (loop : Loop) (more : List Loop) (l j : ℕ) → l < loop.first → extra m loop more l j ≡ 0
extra_before m loop more l j lt = cond-true (nat_lt l loop.first) 0
    (cond (nat_le l loop.last) (j * inside (suc m) loop more) (m * inside (suc m) loop more + once_more (suc m) loop more)) (lt-ltb l loop.first lt)

extra_within : (m : ℕ) (loop : Loop) (more : List Loop) (l j : ℕ) → loop.first ≤ l → l ≤ loop.last
    → extra m loop more l j ≡ j * inside (suc m) loop more
extra_within m loop more l j low high =
    cond-false (nat_lt l loop.first) 0
    (cond (nat_le l loop.last) (j * inside (suc m) loop more) (m * inside (suc m) loop more + once_more (suc m) loop more)) (le-ltb l loop.first low)
    ∙ cond-true (nat_le l loop.last) (j * inside (suc m) loop more) (m * inside (suc m) loop more + once_more (suc m) loop more) (le-leb l loop.last high)

extra_behind : (m : ℕ) (loop : Loop) (more : List Loop) (l j : ℕ) → loop.first ≤ l → loop.last < l
    → extra m loop more l j ≡ m * inside (suc m) loop more + once_more (suc m) loop more
extra_behind m loop more l j low lt =
    cond-false (nat_lt l loop.first) 0
    (cond (nat_le l loop.last) (j * inside (suc m) loop more) (m * inside (suc m) loop more + once_more (suc m) loop more)) (le-ltb l loop.first low)
    ∙ cond-false (nat_le l loop.last) (j * inside (suc m) loop more) (m * inside (suc m) loop more + once_more (suc m) loop more) (lt-leb l loop.last lt)

-- ---- the copies of all locations before y stand before one of a location from y on, unless one loop holds both

abbrev BeginsFrom : ℕ → ℕ → Loop → Type 0
BeginsFrom y l loop = holds loop l ≡ true → y ≤ loop.first

all_before : (m : ℕ) (loops : List Loop) (l y : ℕ) (js : ℕ → ℕ) → y ≤ l → AllByRecursion (BeginsFrom y l) loops
    → copies (suc m) loops y ≤ place m loops l js
all_before m [] l y js le from = let e = copies_without (suc m) y in omega (arith, e, le)
all_before m (loop ∷ more) l y js le from = by (lies loop l) (all_before m more l y (λ i. js (suc i)) le from.1)
  where
    plain : (c d p x : ℕ) → c ≡ d → d ≤ p → c ≤ p + x
    plain c d p x e h = omega (arith, e, h)

    full : (c d p x i o : ℕ) → c ≤ d + i + o → d ≤ p → x ≡ i + o → c ≤ p + x
    full c d p x i o e h f = omega (arith, e, h, f)

    by : Lies loop l → copies (suc m) more y ≤ place m more l (λ i. js (suc i))
        → copies (suc m) (loop ∷ more) y ≤ place m more l (λ i. js (suc i)) + extra m loop more l (js 0)
    by (lies_before lt) rest =
        plain (copies (suc m) (loop ∷ more) y) (copies (suc m) more y) (place m more l (λ i. js (suc i))) (extra m loop more l (js 0))
        (before_first m loop more y (omega (arith, le, lt))) rest
    by (lies_within low high) rest =
        plain (copies (suc m) (loop ∷ more) y) (copies (suc m) more y) (place m more l (λ i. js (suc i))) (extra m loop more l (js 0))
        (before_first m loop more y (from.0 (holds_by loop l low high))) rest
    by (lies_behind low lt) rest =
        full (copies (suc m) (loop ∷ more) y) (copies (suc m) more y) (place m more l (λ i. js (suc i))) (extra m loop more l (js 0))
        (m * inside (suc m) loop more) (once_more (suc m) loop more) (no_more_than m loop more y) rest (extra_behind m loop more l (js 0) low lt)

-- ---- a copy of a location before y is one of these many, unless a loop holds both

abbrev EndsBefore : ℕ → ℕ → Loop → Type 0
EndsBefore y l loop = holds loop l ≡ true → loop.last < y

-- at the first location of a loop where entering starts no turn, no loop below it holds it
none_at_first : (loop : Loop) (more : List Loop) (l : ℕ) → loop.entry_turn ≡ false → l ≡ loop.first → AllByRecursion (Below loop) more
    → AllByRecursion (EndsBefore (suc l) l) more
none_at_first loop [] l entry e all = tt
none_at_first loop (other ∷ more) l entry e all = (
  (λ held. let x : loop.first < other.first = (all.0).apart entry in let y : other.first ≤ l = holds_first other l held in absurd (omega (arith, x, y, e))),
  none_at_first loop more l entry e all.1,
)

lead_entry : (loop : Loop) (l : ℕ) → is_lead loop l ≡ true → loop.entry_turn ≡ false
lead_entry loop l h = not-true loop.entry_turn (and_parts (not loop.entry_turn) (loop.first == l) h).0

lead_first : (loop : Loop) (l : ℕ) → is_lead loop l ≡ true → l ≡ loop.first
lead_first loop l h = sym (eqb-true loop.first l (and_parts (not loop.entry_turn) (loop.first == l) h).1)

is_before : (m : ℕ) (loops : List Loop) (l y : ℕ) (js : ℕ → ℕ) → AreNested loops → AreCopies m loops l js → l < y
    → AllByRecursion (EndsBefore y l) loops → suc (place m loops l js) ≤ copies (suc m) loops y
is_before m [] l y js nested are lt ends = let e = copies_without (suc m) y in omega (arith, e, lt)
is_before m (loop ∷ more) l y js nested are lt ends =
    by (lies loop l) (is_before m more l y (λ i. js (suc i)) nested.2 are.1 lt ends.1)
    (λ entry first. is_before m more l (suc l) (λ i. js (suc i)) nested.2 are.1 (omega arith) (none_at_first loop more l entry first nested.1))
  where
    outside : (p x c d : ℕ) → x ≡ 0 → suc p ≤ c → c ≤ d → suc (p + x) ≤ d
    outside p x c d e a b = omega (arith, e, a, b)

    full : (p x c d i o : ℕ) → x ≤ i + o → suc p ≤ c → d ≡ c + i + o → suc (p + x) ≤ d
    full p x c d i o e a b = omega (arith, e, a, b)

    -- the additional copy of the first location
    additional : (p x a f b c d i mi o : ℕ) → x ≡ suc m * i → mi ≡ m * i → suc p ≤ a → a ≡ f + o → b ≡ f + i → b ≤ c → d ≡ c + mi + o → suc (p + x) ≤ d
    additional p x a f b c d i mi o e g h j k n r = omega (arith, e, g, h, j, k, n, r)

    turn : (m i j x : ℕ) → x ≡ j * i → j ≤ m → x ≤ m * i
    turn m i j x e le = subst (λ (z : ℕ). z ≤ m * i) (sym e) (mul-le-mul_right i le)

    widened : (x i o : ℕ) → x ≤ i → x ≤ i + o
    widened x i o le = omega (arith, le)

    held : loop.first ≤ l → l ≤ loop.last
        → (loop.entry_turn ≡ false → l ≡ loop.first → suc (place m more l (λ i. js (suc i))) ≤ copies (suc m) more (suc l))
        → suc (place m more l (λ i. js (suc i))) ≤ copies (suc m) more y
        → (js 0 ≤ m) ⊎ ((js 0 ≡ suc m) × (is_lead loop l ≡ true))
        → suc ((place m more l (λ i. js (suc i))) + extra m loop more l (js 0)) ≤ copies (suc m) (loop ∷ more) y
    held low high at_first go (inl le) =
        full (place m more l (λ i. js (suc i))) (extra m loop more l (js 0)) (copies (suc m) more y) (copies (suc m) (loop ∷ more) y) (m * inside (suc m) loop more)
        (once_more (suc m) loop more)
        (widened (extra m loop more l (js 0)) (m * inside (suc m) loop more) (once_more (suc m) loop more)
        (turn m (inside (suc m) loop more) (js 0) (extra m loop more l (js 0)) (extra_within m loop more l (js 0) low high) le))
        go (behind_last m loop more y (ends.0 (holds_by loop l low high)))
    held low high at_first go (inr last) =
        let entry = lead_entry loop l last.1 in
        let first = lead_first loop l last.1 in
        let past : loop.last < y = ends.0 (holds_by loop l low high) in
        additional (place m more l (λ i. js (suc i))) (extra m loop more l (js 0)) (copies (suc m) more (suc l)) (copies (suc m) more loop.first) (copies (suc m) more (suc loop.last))
        (copies (suc m) more y) (copies (suc m) (loop ∷ more) y) (inside (suc m) loop more) (m * inside (suc m) loop more) (once_more (suc m) loop more)
        (extra_within m loop more l (js 0) low high ∙ ap (λ (j : ℕ). j * inside (suc m) loop more) last.0) refl
        (at_first entry first)
        (ap (λ (x : ℕ). copies (suc m) more (suc x)) first ∙ once_more_is m loop more nested.0 entry)
        (one_turn m loop more nested.0) (copies_mono (suc m) more (suc loop.last) y past) (behind_last m loop more y past)

    by : Lies loop l → suc (place m more l (λ i. js (suc i))) ≤ copies (suc m) more y
        → (loop.entry_turn ≡ false → l ≡ loop.first → suc (place m more l (λ i. js (suc i))) ≤ copies (suc m) more (suc l))
        → suc ((place m more l (λ i. js (suc i))) + extra m loop more l (js 0)) ≤ copies (suc m) (loop ∷ more) y
    by (lies_before below) go at_first =
        outside (place m more l (λ i. js (suc i))) (extra m loop more l (js 0)) (copies (suc m) more y) (copies (suc m) (loop ∷ more) y)
        (extra_before m loop more l (js 0) below) go (no_fewer_than m loop more y)
    by (lies_within low high) go at_first = held low high at_first go (are.0 (holds_by loop l low high))
    by (lies_behind low past) go at_first =
        full (place m more l (λ i. js (suc i))) (extra m loop more l (js 0)) (copies (suc m) more y) (copies (suc m) (loop ∷ more) y) (m * inside (suc m) loop more)
        (once_more (suc m) loop more) (equal (extra_behind m loop more l (js 0) low past)) go
        (behind_last m loop more y (omega (arith, past, lt)))
      where
        equal : {a b : ℕ} → a ≡ b → a ≤ b
        equal {a} {b} e = omega (arith, e)

-- ---- along a hop

-- the copies of each loop that holds both locations rise, or stay
abbrev pub AreRising : List Loop → ℕ → ℕ → (ℕ → ℕ) → (ℕ → ℕ) → Type 0
AreRising [] l to js ks = Unit {0}
AreRising (loop ∷ more) l to js ks =
    (holds loop l ≡ true → holds loop to ≡ true → js 0 ≤ ks 0) × AreRising more l to (λ i. js (suc i)) (λ i. ks (suc i))

-- a loop below another that holds a location behind it begins behind it
begin_behind : (loop : Loop) (more : List Loop) (l : ℕ) → loop.last < l → AllByRecursion (Below loop) more
    → AllByRecursion (BeginsFrom (suc loop.last) l) more
begin_behind loop [] l lt all = tt
begin_behind loop (other ∷ more) l lt all = (one, begin_behind loop more l lt all.1)
  where
    one : holds other l ≡ true → suc loop.last ≤ other.first
    one held = by (cases_lt loop.last other.first)
      where
        by : (loop.last < other.first) ⊎ (other.first ≤ loop.last) → suc loop.last ≤ other.first
        by (inl past) = past
        by (inr meets) =
            let x : other.last ≤ loop.last = (all.0).within meets in let y : l ≤ other.last = holds_last other l held in absurd (omega (arith, x, y, lt))

begin_within : (loop : Loop) (more : List Loop) (l : ℕ) → AllByRecursion (Below loop) more → AllByRecursion (BeginsFrom loop.first l) more
begin_within loop [] l all = tt
begin_within loop (other ∷ more) l all = ((λ held. (all.0).from), begin_within loop more l all.1)

end_within : (loop : Loop) (more : List Loop) (l : ℕ) → l ≤ loop.last → AllByRecursion (Below loop) more
    → AllByRecursion (EndsBefore (suc loop.last) l) more
end_within loop [] l high all = tt
end_within loop (other ∷ more) l high all = (
  (λ held.
      let x : other.first ≤ l = holds_first other l held in let y : other.last ≤ loop.last = (all.0).within (omega (arith, x, high)) in omega (arith, y)),
  end_within loop more l high all.1,
)

pub rises_forward : (m : ℕ) (loops : List Loop) (l to : ℕ) (js ks : ℕ → ℕ) → AreNested loops → AreCopies m loops l js → l < to
    → AreRising loops l to js ks → suc (place m loops l js) ≤ place m loops to ks
rises_forward m [] l to js ks nested are lt rising = lt
rises_forward m (loop ∷ more) l to js ks nested are lt rising =
    by (lies loop l) (lies loop to) (rises_forward m more l to (λ i. js (suc i)) (λ i. ks (suc i)) nested.2 are.1 lt rising.1)
  where
    up : (p q x z : ℕ) → suc p ≤ q → x ≤ z → suc (p + x) ≤ q + z
    up p q x z a b = omega (arith, a, b)

    least : (x z : ℕ) → x ≡ 0 → x ≤ z
    least x z e = omega (arith, e)

    same : (x z v : ℕ) → x ≡ v → z ≡ v → x ≤ z
    same x z v a b = omega (arith, a, b)

    scaled : (i j k x z : ℕ) → x ≡ j * i → z ≡ k * i → j ≤ k → x ≤ z
    scaled i j k x z a b le = subst (λ (v : ℕ). v ≤ z) (sym a) (subst (λ (v : ℕ). j * i ≤ v) (sym b) (mul-le-mul_right i le))

    turns : (i j x z o : ℕ) → x ≡ j * i → z ≡ m * i + o → j ≤ m → x ≤ z
    turns i j x z o a b le = let c : j * i ≤ m * i = mul-le-mul_right i le in omega (arith, a, b, c)

    additional : (p q x z a f b i mi o : ℕ) → x ≡ suc m * i → mi ≡ m * i → suc p ≤ a → a ≡ f + o → b ≡ f + i → b ≤ q → z ≡ mi + o → suc (p + x) ≤ q + z
    additional p q x z a f b i mi o e g h j k n r = omega (arith, e, g, h, j, k, n, r)

    left : loop.first ≤ l → l ≤ loop.last → loop.first ≤ to → loop.last < to → suc (place m more l (λ i. js (suc i))) ≤ (place m more to (λ i. ks (suc i)))
        → (js 0 ≤ m) ⊎ ((js 0 ≡ suc m) × (is_lead loop l ≡ true))
        → suc ((place m more l (λ i. js (suc i))) + extra m loop more l (js 0)) ≤ (place m more to (λ i. ks (suc i))) + extra m loop more to (ks 0)
    left low high far past go (inl le) =
        up (place m more l (λ i. js (suc i))) (place m more to (λ i. ks (suc i))) (extra m loop more l (js 0)) (extra m loop more to (ks 0)) go
        (turns (inside (suc m) loop more) (js 0) (extra m loop more l (js 0)) (extra m loop more to (ks 0)) (once_more (suc m) loop more)
        (extra_within m loop more l (js 0) low high) (extra_behind m loop more to (ks 0) far past) le)
    left low high far past go (inr last) =
        let entry = lead_entry loop l last.1 in
        let first = lead_first loop l last.1 in
        additional (place m more l (λ i. js (suc i))) (place m more to (λ i. ks (suc i))) (extra m loop more l (js 0)) (extra m loop more to (ks 0)) (copies (suc m) more (suc l)) (copies (suc m) more loop.first)
        (copies (suc m) more (suc loop.last)) (inside (suc m) loop more) (m * inside (suc m) loop more) (once_more (suc m) loop more)
        (extra_within m loop more l (js 0) low high ∙ ap (λ (j : ℕ). j * inside (suc m) loop more) last.0) refl
        (is_before m more l (suc l) (λ i. js (suc i)) nested.2 are.1 (omega arith) (none_at_first loop more l entry first nested.1))
        (ap (λ (x : ℕ). copies (suc m) more (suc x)) first ∙ once_more_is m loop more nested.0 entry)
        (one_turn m loop more nested.0)
        (all_before m more to (suc loop.last) (λ i. ks (suc i)) past (begin_behind loop more to past nested.1))
        (extra_behind m loop more to (ks 0) far past)

    by : Lies loop l → Lies loop to → suc (place m more l (λ i. js (suc i))) ≤ (place m more to (λ i. ks (suc i))) → suc ((place m more l (λ i. js (suc i))) + extra m loop more l (js 0)) ≤ (place m more to (λ i. ks (suc i))) + extra m loop more to (ks 0)
    by (lies_before below) x go =
        up (place m more l (λ i. js (suc i))) (place m more to (λ i. ks (suc i))) (extra m loop more l (js 0)) (extra m loop more to (ks 0)) go
        (least (extra m loop more l (js 0)) (extra m loop more to (ks 0)) (extra_before m loop more l (js 0) below))
    by (lies_within low high) (lies_before below) go = absurd (omega (arith, low, lt, below))
    by (lies_within low high) (lies_within far near) go =
        up (place m more l (λ i. js (suc i))) (place m more to (λ i. ks (suc i))) (extra m loop more l (js 0)) (extra m loop more to (ks 0)) go
        (scaled (inside (suc m) loop more) (js 0) (ks 0) (extra m loop more l (js 0)) (extra m loop more to (ks 0))
        (extra_within m loop more l (js 0) low high) (extra_within m loop more to (ks 0) far near)
        (rising.0 (holds_by loop l low high) (holds_by loop to far near)))
    by (lies_within low high) (lies_behind far past) go = left low high far past go (are.0 (holds_by loop l low high))
    by (lies_behind low past) (lies_before below) go = absurd (omega (arith, low, lt, below))
    by (lies_behind low past) (lies_within far near) go = absurd (omega (arith, past, lt, near))
    by (lies_behind low past) (lies_behind far further) go =
        up (place m more l (λ i. js (suc i))) (place m more to (λ i. ks (suc i))) (extra m loop more l (js 0)) (extra m loop more to (ks 0)) go
        (same (extra m loop more l (js 0)) (extra m loop more to (ks 0)) (m * inside (suc m) loop more + once_more (suc m) loop more)
        (extra_behind m loop more l (js 0) low past) (extra_behind m loop more to (ks 0) far further))

-- where the copies of a loop that holds both locations rise, whichever comes first
rises_in : (m : ℕ) (loop : Loop) (more : List Loop) (l to : ℕ) (js ks : ℕ → ℕ) → AreNested (loop ∷ more) → AreCopies m (loop ∷ more) l js
    → loop.first ≤ l → l ≤ loop.last → loop.first ≤ to → to ≤ loop.last → suc (js 0) ≤ ks 0
    → suc (place m (loop ∷ more) l js) ≤ place m (loop ∷ more) to ks
rises_in m loop more l to js ks nested are low high far near more_turns =
    joined (place m more l (λ i. js (suc i))) (place m more to (λ i. ks (suc i))) (extra m loop more l (js 0)) (extra m loop more to (ks 0))
    (copies (suc m) more loop.first) (copies (suc m) more (suc loop.last)) (inside (suc m) loop more) (js 0 * inside (suc m) loop more)
    (is_before m more l (suc loop.last) (λ i. js (suc i)) nested.2 are.1 (omega (arith, high)) (end_within loop more l high nested.1))
    (all_before m more to loop.first (λ i. ks (suc i)) far (begin_within loop more to nested.1))
    (one_turn m loop more nested.0) (extra_within m loop more l (js 0) low high)
    (subst (λ (x : ℕ). suc (js 0) * inside (suc m) loop more ≤ x) (sym (extra_within m loop more to (ks 0) far near))
    (mul-le-mul_right (inside (suc m) loop more) more_turns))
    refl
  where
    joined : (p q x z f b i ji : ℕ) → suc p ≤ b → f ≤ q → b ≡ f + i → x ≡ ji → suc (js 0) * i ≤ z → ji ≡ js 0 * i → suc (p + x) ≤ q + z
    joined p q x z f b i ji a c d e g h = omega (arith, a, c, d, e, g, h)

-- back to the first location of a loop of which a turn starts
pub rises_back : (m : ℕ) (loops : List Loop) (l to : ℕ) (js ks : ℕ → ℕ) → AreNested loops → AreCopies m loops l js → AreRising loops l to js ks
    → (t : ℕ) (turned : Loop) → slice_get loops t ≡ Some turned → turned.first ≤ l → l ≤ turned.last → to ≡ turned.first → turned.first ≤ turned.last
    → suc (js t) ≤ ks t → suc (place m loops l js) ≤ place m loops to ks
rises_back m [] l to js ks nested are rising t turned at low high first range more_turns = absurd (none-some turned at)
rises_back m (loop ∷ more) l to js ks nested are rising zero turned at low high first range more_turns =
    let e : loop ≡ turned = same_Some loop turned at in
    let a : loop.first ≡ turned.first = ap (λ (x : Loop). x.first) e in
    let b : loop.last ≡ turned.last = ap (λ (x : Loop). x.last) e in
    rises_in m loop more l to js ks nested are (omega (arith, a, low)) (omega (arith, b, high)) (omega (arith, a, first))
    (omega (arith, b, first, range)) more_turns
rises_back m (loop ∷ more) l to js ks nested are rising (suc t) turned at low high first range more_turns =
    by (lies loop to)
    (rises_back m more l to (λ i. js (suc i)) (λ i. ks (suc i)) nested.2 are.1 rising.1 t turned at low high first range more_turns)
  where
    below : Below loop turned
    below = listed more t nested.1 at
      where
        listed : (xs : List Loop) (i : ℕ) → AllByRecursion (Below loop) xs → slice_get xs i ≡ Some turned → Below loop turned
        listed [] i all e = absurd (none-some turned e)
        listed (x ∷ xs) zero all e = subst (λ (y : Loop). Below loop y) (same_Some x turned e) all.0
        listed (x ∷ xs) (suc i) all e = listed xs i all.1 e

    up : (p q x z : ℕ) → suc p ≤ q → x ≤ z → suc (p + x) ≤ q + z
    up p q x z a b = omega (arith, a, b)

    same : (x z v : ℕ) → x ≡ v → z ≡ v → x ≤ z
    same x z v a b = omega (arith, a, b)

    scaled : (i j k x z : ℕ) → x ≡ j * i → z ≡ k * i → j ≤ k → x ≤ z
    scaled i j k x z a b le = subst (λ (v : ℕ). v ≤ z) (sym a) (subst (λ (v : ℕ). j * i ≤ v) (sym b) (mul-le-mul_right i le))

    by : Lies loop to → suc (place m more l (λ i. js (suc i))) ≤ (place m more to (λ i. ks (suc i))) → suc ((place m more l (λ i. js (suc i))) + extra m loop more l (js 0)) ≤ (place m more to (λ i. ks (suc i))) + extra m loop more to (ks 0)
    by (lies_before past) go = let x = below.from in absurd (omega (arith, x, past, first))
    by (lies_within far near) go =
        let reach : turned.last ≤ loop.last = below.within (omega (arith, near, first)) in
        let begin : loop.first ≤ l = omega (arith, below.from, low) in
        let end : l ≤ loop.last = omega (arith, reach, high) in
        up (place m more l (λ i. js (suc i))) (place m more to (λ i. ks (suc i))) (extra m loop more l (js 0)) (extra m loop more to (ks 0)) go
        (scaled (inside (suc m) loop more) (js 0) (ks 0) (extra m loop more l (js 0)) (extra m loop more to (ks 0))
        (extra_within m loop more l (js 0) begin end) (extra_within m loop more to (ks 0) far near)
        (rising.0 (holds_by loop l begin end) (holds_by loop to far near)))
    by (lies_behind far past) go =
        let begin : loop.first ≤ l = omega (arith, below.from, low) in
        let further : loop.last < l = omega (arith, past, first, low) in
        up (place m more l (λ i. js (suc i))) (place m more to (λ i. ks (suc i))) (extra m loop more l (js 0)) (extra m loop more to (ks 0)) go
        (same (extra m loop more l (js 0)) (extra m loop more to (ks 0)) (m * inside (suc m) loop more + once_more (suc m) loop more)
        (extra_behind m loop more l (js 0) begin further) (extra_behind m loop more to (ks 0) far past))

-- ---- no more copies than there are

ends_in : (loops : List Loop) (l y : ℕ) → AllByRecursion (λ (loop : Loop). loop.last < y) loops → AllByRecursion (EndsBefore y l) loops
ends_in [] l y all = tt
ends_in (loop ∷ more) l y all = ((λ held. all.0), ends_in more l y all.1)

pub place_below : (m : ℕ) (loops : List Loop) (l y : ℕ) (js : ℕ → ℕ) → AreNested loops → AreCopies m loops l js → l < y
    → AllByRecursion (λ (loop : Loop). loop.last < y) loops → suc (place m loops l js) ≤ copies (suc m) loops y
place_below m loops l y js nested are lt all = is_before m loops l y js nested are lt (ends_in loops l y all)
