-- What is said of a copy by where it lies to the first loop, there and back: that it is one, and its place.
use Rattle.std.proofs.Common.{◌≡◌, ℕ, suc, ◌+◌, ◌*◌, ◌<◌, ◌≤◌, ◌⊎◌, inl, inr, List, [], ◌∷◌, Bool, true, false, nat_lt, cond, refl, ap, ◌∙◌, arith}
use Rattle.std.specs.List.{AllByRecursion}
use Rattle.std.proofs.lemmas.Bool.{true≢false, false≢true, lt-ltb, le-ltb}
use Rattle.pv_flow.specs.Automata.{Loop}
use Rattle.pv_copies.specs.Copies.{Copy, copy, beyond, location_of, numbers_of, within, taken_out}
use Rattle.pv_copies.specs.Places.{fits, once, size, place_in, place_by, place, IsInner, IsCopyBy, IsCopyIn, IsCopy}
use Rattle.pv_copies.proofs.Nesting.{Side, before, here, behind, side, fitting}

-- ---- by Booleans

by_before : (f x y : Bool) (E H L O : Type 0) → f ≡ true → x ≡ true → E → IsCopyIn f (IsCopyBy x y E H L) O
by_before true true y E H L O e g h = h
by_before true false y E H L O e g h = absurd (false≢true g)
by_before false x y E H L O e g h = absurd (false≢true e)

from_before : (f x y : Bool) (E H L O : Type 0) → f ≡ true → x ≡ true → IsCopyIn f (IsCopyBy x y E H L) O → E
from_before true true y E H L O e g h = h
from_before true false y E H L O e g h = absurd (false≢true g)
from_before false x y E H L O e g h = absurd (false≢true e)

by_behind : (f x y : Bool) (E H L O : Type 0) → f ≡ true → x ≡ false → y ≡ true → L → IsCopyIn f (IsCopyBy x y E H L) O
by_behind true false true E H L O e g i h = h
by_behind true false false E H L O e g i h = absurd (false≢true i)
by_behind true true y E H L O e g i h = absurd (true≢false g)
by_behind false x y E H L O e g i h = absurd (false≢true e)

from_behind : (f x y : Bool) (E H L O : Type 0) → f ≡ true → x ≡ false → y ≡ true → IsCopyIn f (IsCopyBy x y E H L) O → L
from_behind true false true E H L O e g i h = h
from_behind true false false E H L O e g i h = absurd (false≢true i)
from_behind true true y E H L O e g i h = absurd (true≢false g)
from_behind false x y E H L O e g i h = absurd (false≢true e)

by_here : (f x y : Bool) (E H L O : Type 0) → f ≡ true → x ≡ false → y ≡ false → H → IsCopyIn f (IsCopyBy x y E H L) O
by_here true false false E H L O e g i h = h
by_here true false true E H L O e g i h = absurd (true≢false i)
by_here true true y E H L O e g i h = absurd (true≢false g)
by_here false x y E H L O e g i h = absurd (false≢true e)

from_here : (f x y : Bool) (E H L O : Type 0) → f ≡ true → x ≡ false → y ≡ false → IsCopyIn f (IsCopyBy x y E H L) O → H
from_here true false false E H L O e g i h = h
from_here true false true E H L O e g i h = absurd (true≢false i)
from_here true true y E H L O e g i h = absurd (true≢false g)
from_here false x y E H L O e g i h = absurd (false≢true e)

by_out : (f : Bool) (I O : Type 0) → f ≡ false → O → IsCopyIn f I O
by_out false I O e h = h
by_out true I O e h = absurd (true≢false e)

from_out : (f : Bool) (I O : Type 0) → f ≡ false → IsCopyIn f I O → O
from_out false I O e h = h
from_out true I O e h = absurd (true≢false e)

-- ---- one of the copies

abbrev Inner : ℕ → Loop → List Loop → Copy → Type 0
Inner n loop loops c = IsInner n loop c (numbers_of c) (IsCopy n loops loop.first (suc loop.last) (taken_out c))

pub copy_before : (n : ℕ) (loop : Loop) (loops : List Loop) (a b : ℕ) (c : Copy) → fits loop a b ≡ true → location_of c < loop.first
    → IsCopy n loops a loop.first c → IsCopy n (loop ∷ loops) a b c
copy_before n loop loops a b c f lt h =
    by_before (fits loop a b) (nat_lt (location_of c) loop.first) (nat_lt loop.last (location_of c))
    (IsCopy n loops a loop.first c) (Inner n loop loops c) (IsCopy n loops (suc loop.last) b c) (IsCopy n loops a b c)
    f (lt-ltb (location_of c) loop.first lt) h

pub before_copy : (n : ℕ) (loop : Loop) (loops : List Loop) (a b : ℕ) (c : Copy) → fits loop a b ≡ true → location_of c < loop.first
    → IsCopy n (loop ∷ loops) a b c → IsCopy n loops a loop.first c
before_copy n loop loops a b c f lt h =
    from_before (fits loop a b) (nat_lt (location_of c) loop.first) (nat_lt loop.last (location_of c))
    (IsCopy n loops a loop.first c) (Inner n loop loops c) (IsCopy n loops (suc loop.last) b c) (IsCopy n loops a b c)
    f (lt-ltb (location_of c) loop.first lt) h

pub copy_behind : (n : ℕ) (loop : Loop) (loops : List Loop) (a b : ℕ) (c : Copy) → fits loop a b ≡ true
    → loop.first ≤ location_of c → loop.last < location_of c
    → IsCopy n loops (suc loop.last) b c → IsCopy n (loop ∷ loops) a b c
copy_behind n loop loops a b c f low lt h =
    by_behind (fits loop a b) (nat_lt (location_of c) loop.first) (nat_lt loop.last (location_of c))
    (IsCopy n loops a loop.first c) (Inner n loop loops c) (IsCopy n loops (suc loop.last) b c) (IsCopy n loops a b c)
    f (le-ltb (location_of c) loop.first low) (lt-ltb loop.last (location_of c) lt) h

pub behind_copy : (n : ℕ) (loop : Loop) (loops : List Loop) (a b : ℕ) (c : Copy) → fits loop a b ≡ true
    → loop.first ≤ location_of c → loop.last < location_of c
    → IsCopy n (loop ∷ loops) a b c → IsCopy n loops (suc loop.last) b c
behind_copy n loop loops a b c f low lt h =
    from_behind (fits loop a b) (nat_lt (location_of c) loop.first) (nat_lt loop.last (location_of c))
    (IsCopy n loops a loop.first c) (Inner n loop loops c) (IsCopy n loops (suc loop.last) b c) (IsCopy n loops a b c)
    f (le-ltb (location_of c) loop.first low) (lt-ltb loop.last (location_of c) lt) h

pub copy_here : (n : ℕ) (loop : Loop) (loops : List Loop) (a b : ℕ) (c : Copy) → fits loop a b ≡ true
    → loop.first ≤ location_of c → location_of c ≤ loop.last
    → IsInner n loop c (numbers_of c) (IsCopy n loops loop.first (suc loop.last) (taken_out c)) → IsCopy n (loop ∷ loops) a b c
copy_here n loop loops a b c f low high h =
    by_here (fits loop a b) (nat_lt (location_of c) loop.first) (nat_lt loop.last (location_of c))
    (IsCopy n loops a loop.first c) (Inner n loop loops c) (IsCopy n loops (suc loop.last) b c) (IsCopy n loops a b c)
    f (le-ltb (location_of c) loop.first low) (le-ltb loop.last (location_of c) high) h

pub here_copy : (n : ℕ) (loop : Loop) (loops : List Loop) (a b : ℕ) (c : Copy) → fits loop a b ≡ true
    → loop.first ≤ location_of c → location_of c ≤ loop.last
    → IsCopy n (loop ∷ loops) a b c → IsInner n loop c (numbers_of c) (IsCopy n loops loop.first (suc loop.last) (taken_out c))
here_copy n loop loops a b c f low high h =
    from_here (fits loop a b) (nat_lt (location_of c) loop.first) (nat_lt loop.last (location_of c))
    (IsCopy n loops a loop.first c) (Inner n loop loops c) (IsCopy n loops (suc loop.last) b c) (IsCopy n loops a b c)
    f (le-ltb (location_of c) loop.first low) (le-ltb loop.last (location_of c) high) h

pub copy_apart : (n : ℕ) (loop : Loop) (loops : List Loop) (a b : ℕ) (c : Copy) → fits loop a b ≡ false
    → IsCopy n loops a b c → IsCopy n (loop ∷ loops) a b c
copy_apart n loop loops a b c f h = by_out (fits loop a b)
    (IsCopyBy (nat_lt (location_of c) loop.first) (nat_lt loop.last (location_of c))
    (IsCopy n loops a loop.first c) (Inner n loop loops c) (IsCopy n loops (suc loop.last) b c)) (IsCopy n loops a b c) f h

pub apart_copy : (n : ℕ) (loop : Loop) (loops : List Loop) (a b : ℕ) (c : Copy) → fits loop a b ≡ false
    → IsCopy n (loop ∷ loops) a b c → IsCopy n loops a b c
apart_copy n loop loops a b c f h = from_out (fits loop a b)
    (IsCopyBy (nat_lt (location_of c) loop.first) (nat_lt loop.last (location_of c))
    (IsCopy n loops a loop.first c) (Inner n loop loops c) (IsCopy n loops (suc loop.last) b c)) (IsCopy n loops a b c) f h

-- it lies in the range
pub copy_bounds : (n : ℕ) (loops : List Loop) (a b : ℕ) (c : Copy) → AllByRecursion (λ (loop : Loop). loop.first ≤ loop.last) loops
    → IsCopy n loops a b c → (a ≤ location_of c) × (location_of c < b)
copy_bounds n [] a b c ranges h = (h.0, h.1)
copy_bounds n (loop ∷ loops) a b c ranges h =
    by (fits loop a b) refl (side loop (location_of c)) (λ x y. copy_bounds n loops x y c ranges.1)
  where
    by : (f : Bool) → fits loop a b ≡ f → Side loop (location_of c)
        → ((x y : ℕ) → IsCopy n loops x y c → (x ≤ location_of c) × (location_of c < y)) → (a ≤ location_of c) × (location_of c < b)
    by false f s go = go a b (apart_copy n loop loops a b c f h)
    by true f (before lt) go =
        let both = go a loop.first (before_copy n loop loops a b c f lt h) in
        let fit = fitting loop a b f in (both.0, omega (arith, lt, fit.1, ranges.0))
    by true f (here low high) go = let fit = fitting loop a b f in (omega (arith, low, fit.0), omega (arith, high, fit.1))
    by true f (behind low lt) go =
        let both = go (suc loop.last) b (behind_copy n loop loops a b c f low lt h) in
        let fit = fitting loop a b f in (omega (arith, low, fit.0), both.1)

-- in a copy of the loop for a turn
within_bounds : (k : ℕ) (c : Copy) → location_of (within k c) ≡ location_of c
within_bounds k (copy l ks) = refl
within_bounds k (beyond loop ks) = refl

pub copy_within : (n : ℕ) (loop : Loop) (loops : List Loop) (a b k : ℕ) (c : Copy) → AllByRecursion (λ (loop : Loop). loop.first ≤ loop.last) loops
    → fits loop a b ≡ true → (k < n) ⊎ ((loop.entry_turn ≡ false) × (c ≡ copy loop.first []) × (k ≡ n))
    → IsCopy n loops loop.first (suc loop.last) c → IsCopy n (loop ∷ loops) a b (within k c)
copy_within n loop loops a b k (copy l ks) ranges f turn h =
    let both = copy_bounds n loops loop.first (suc loop.last) (copy l ks) ranges h in
    copy_here n loop loops a b (copy l (k ∷ ks)) f both.0 (omega (arith, both.1)) (h, number turn)
  where
    number : (k < n) ⊎ ((loop.entry_turn ≡ false) × (copy l ks ≡ copy loop.first []) × (k ≡ n))
        → (k < n) ⊎ ((loop.entry_turn ≡ false) × (copy l (k ∷ ks) ≡ copy loop.first (n ∷ [])))
    number (inl lt) = inl lt
    number (inr g) = inr (g.0, ap (λ (c : Copy). within k c) g.1 ∙ ap (λ (m : ℕ). copy loop.first (m ∷ [])) g.2)
copy_within n loop loops a b k (beyond other ks) ranges f turn h =
    let both = copy_bounds n loops loop.first (suc loop.last) (beyond other ks) ranges h in
    copy_here n loop loops a b (beyond other (k ∷ ks)) f both.0 (omega (arith, both.1)) (h, number turn)
  where
    number : (k < n) ⊎ ((loop.entry_turn ≡ false) × (beyond other ks ≡ copy loop.first []) × (k ≡ n))
        → (k < n) ⊎ ((loop.entry_turn ≡ false) × (beyond other (k ∷ ks) ≡ copy loop.first (n ∷ [])))
    number (inl lt) = inl lt
    number (inr g) = inr (g.0, ap (λ (c : Copy). within k c) g.1 ∙ ap (λ (m : ℕ). copy loop.first (m ∷ [])) g.2)

-- ---- places

pub size_at : (w : ℕ → ℕ) (o n : ℕ) (loop : Loop) (loops : List Loop) (a b : ℕ) → fits loop a b ≡ true
    → size w o n (loop ∷ loops) a b ≡ size w o n loops a loop.first + n * size w o n loops loop.first (suc loop.last) + once w loop + o
    + size w o n loops (suc loop.last) b
size_at w o n loop loops a b f = ap (λ (t : Bool). cond t
    (size w o n loops a loop.first + n * size w o n loops loop.first (suc loop.last) + once w loop + o + size w o n loops (suc loop.last) b)
    (size w o n loops a b)) f

pub size_apart : (w : ℕ → ℕ) (o n : ℕ) (loop : Loop) (loops : List Loop) (a b : ℕ) → fits loop a b ≡ false
    → size w o n (loop ∷ loops) a b ≡ size w o n loops a b
size_apart w o n loop loops a b f = ap (λ (t : Bool). cond t
    (size w o n loops a loop.first + n * size w o n loops loop.first (suc loop.last) + once w loop + o + size w o n loops (suc loop.last) b)
    (size w o n loops a b)) f

abbrev pub here_place : (ℕ → ℕ) → ℕ → ℕ → Loop → List Loop → ℕ → Copy → ℕ
here_place w o n loop loops a c =
    size w o n loops a loop.first + place_in n (size w o n loops loop.first (suc loop.last)) (once w loop) (numbers_of c)
    (place w o n loops loop.first (suc loop.last) (taken_out c))

abbrev pub behind_place : (ℕ → ℕ) → ℕ → ℕ → Loop → List Loop → ℕ → ℕ → Copy → ℕ
behind_place w o n loop loops a b c =
    size w o n loops a loop.first + n * size w o n loops loop.first (suc loop.last) + once w loop + o + place w o n loops (suc loop.last) b c

picked_before : (f x y : Bool) (e h l o : ℕ) → f ≡ true → x ≡ true → cond f (place_by x y e h l) o ≡ e
picked_before f x y e h l o p q = ap (λ (t : Bool). cond t (place_by x y e h l) o) p ∙ ap (λ (t : Bool). place_by t y e h l) q

picked_behind : (f x y : Bool) (e h l o : ℕ) → f ≡ true → x ≡ false → y ≡ true → cond f (place_by x y e h l) o ≡ l
picked_behind f x y e h l o p q r =
    ap (λ (t : Bool). cond t (place_by x y e h l) o) p ∙ ap (λ (t : Bool). place_by t y e h l) q ∙ ap (λ (t : Bool). place_by false t e h l) r

picked_here : (f x y : Bool) (e h l o : ℕ) → f ≡ true → x ≡ false → y ≡ false → cond f (place_by x y e h l) o ≡ h
picked_here f x y e h l o p q r =
    ap (λ (t : Bool). cond t (place_by x y e h l) o) p ∙ ap (λ (t : Bool). place_by t y e h l) q ∙ ap (λ (t : Bool). place_by false t e h l) r

pub place_before : (w : ℕ → ℕ) (o n : ℕ) (loop : Loop) (loops : List Loop) (a b : ℕ) (c : Copy) → fits loop a b ≡ true
    → location_of c < loop.first → place w o n (loop ∷ loops) a b c ≡ place w o n loops a loop.first c
place_before w o n loop loops a b c f lt =
    picked_before (fits loop a b) (nat_lt (location_of c) loop.first) (nat_lt loop.last (location_of c))
    (place w o n loops a loop.first c) (here_place w o n loop loops a c) (behind_place w o n loop loops a b c) (place w o n loops a b c)
    f (lt-ltb (location_of c) loop.first lt)

pub place_behind : (w : ℕ → ℕ) (o n : ℕ) (loop : Loop) (loops : List Loop) (a b : ℕ) (c : Copy) → fits loop a b ≡ true
    → loop.first ≤ location_of c → loop.last < location_of c → place w o n (loop ∷ loops) a b c ≡ behind_place w o n loop loops a b c
place_behind w o n loop loops a b c f low lt =
    picked_behind (fits loop a b) (nat_lt (location_of c) loop.first) (nat_lt loop.last (location_of c))
    (place w o n loops a loop.first c) (here_place w o n loop loops a c) (behind_place w o n loop loops a b c) (place w o n loops a b c)
    f (le-ltb (location_of c) loop.first low) (lt-ltb loop.last (location_of c) lt)

pub place_here : (w : ℕ → ℕ) (o n : ℕ) (loop : Loop) (loops : List Loop) (a b : ℕ) (c : Copy) → fits loop a b ≡ true
    → loop.first ≤ location_of c → location_of c ≤ loop.last → place w o n (loop ∷ loops) a b c ≡ here_place w o n loop loops a c
place_here w o n loop loops a b c f low high =
    picked_here (fits loop a b) (nat_lt (location_of c) loop.first) (nat_lt loop.last (location_of c))
    (place w o n loops a loop.first c) (here_place w o n loop loops a c) (behind_place w o n loop loops a b c) (place w o n loops a b c)
    f (le-ltb (location_of c) loop.first low) (le-ltb loop.last (location_of c) high)

pub place_apart : (w : ℕ → ℕ) (o n : ℕ) (loop : Loop) (loops : List Loop) (a b : ℕ) (c : Copy) → fits loop a b ≡ false
    → place w o n (loop ∷ loops) a b c ≡ place w o n loops a b c
place_apart w o n loop loops a b c f = ap (λ (t : Bool). cond t
    (place_by (nat_lt (location_of c) loop.first) (nat_lt loop.last (location_of c))
    (place w o n loops a loop.first c) (here_place w o n loop loops a c) (behind_place w o n loop loops a b c))
    (place w o n loops a b c)) f

pub place_within : (w : ℕ → ℕ) (o n : ℕ) (loop : Loop) (loops : List Loop) (a b k : ℕ) (c : Copy) → fits loop a b ≡ true
    → loop.first ≤ location_of c → location_of c ≤ loop.last
    → place w o n (loop ∷ loops) a b (within k c)
    ≡ size w o n loops a loop.first + (k * size w o n loops loop.first (suc loop.last) + place w o n loops loop.first (suc loop.last) c)
place_within w o n loop loops a b k (copy l ks) f low high = place_here w o n loop loops a b (copy l (k ∷ ks)) f low high
place_within w o n loop loops a b k (beyond other ks) f low high = place_here w o n loop loops a b (beyond other (k ∷ ks)) f low high
