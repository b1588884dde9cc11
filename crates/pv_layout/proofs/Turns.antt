-- Counts along edges in a region of locations: what lies outside of it sees nothing of the way that a run takes in it. Of a loop of the
-- region itself nothing is left outside; each other loop holds all of the region's locations or none, and keeps its count there.
use Rattle.std.proofs.Common.{◌≡◌, ℕ, suc, ◌+◌, ◌<◌, ◌≤◌, ◌⊎◌, inl, inr, List, slice_get, Bool, true, false, nat_le, cond, Option, Some, None, IfSome, refl, sym, subst, ap, ◌∙◌, arith}
use Rattle.std.proofs.Math.Path.{fun_ext}
use Rattle.std.proofs.lemmas.Bool.{true≢false, false≢true, cases_lt, le-leb, lt-leb, ne_eqb, eq-eqb, and_from, and_left, and_right}
use Rattle.pv_flow.specs.Automata.{Loop, holds}
use Rattle.pv_flow.specs.Runs.{Counts, entry_count, kept, kept_in, moved}
use Rattle.pv_layout.specs.SpotRuns.{one_more}
use Rattle.pv_layout.specs.Correct.{IsOutside, HoldsAlike, OthersNest, AreFresh}
use Rattle.pv_layout.proofs.Lists.{for_some, some_at}

-- ---- three Booleans

kept_alike : (x y z : Bool) (c d e : ℕ) → y ≡ z → (z ≡ true → c ≡ d) → kept x y c e ≡ kept x z d e
kept_alike false y z c d e same go = refl
kept_alike true true true c d e same go = go refl
kept_alike true false false c d e same go = refl
kept_alike true true false c d e same go = absurd (true≢false same)
kept_alike true false true c d e same go = absurd (false≢true same)

kept_out : (x y z : Bool) (c d e : ℕ) → x ≡ false → kept x y c e ≡ kept x z d e
kept_out false y z c d e out = refl
kept_out true y z c d e out = absurd (true≢false out)

pub kept_both : (x y : Bool) (c e : ℕ) → x ≡ true → y ≡ true → kept x y c e ≡ c
kept_both true true c e h g = refl
kept_both true false c e h g = absurd (false≢true g)
kept_both false y c e h g = absurd (false≢true h)

pub kept_new : (x y : Bool) (c e : ℕ) → x ≡ true → y ≡ false → kept x y c e ≡ e
kept_new true false c e h g = refl
kept_new true true c e h g = absurd (true≢false g)
kept_new false y c e h g = absurd (false≢true h)

pub moved_at : (loops : List Loop) (from to : ℕ) (counts : Counts) (k : ℕ) (loop : Loop) → slice_get loops k ≡ Some loop
    → moved loops from to counts k ≡ kept (holds loop to) (holds loop from) (counts k) (entry_count loop)
moved_at loops from to counts k loop e = ap (λ (o : Option Loop). kept_in o (λ other. holds other from) to (counts k)) e

-- ---- where loops lie

abbrev pub IsWithin : ℕ → ℕ → Loop → Type 0
IsWithin a b loop = (a ≤ loop.first) × (loop.last < b)

-- those that are numbered from i on, below j, lie in the region
abbrev pub OwnWithin : List Loop → ℕ → ℕ → ℕ → ℕ → Type 0
OwnWithin loops i j a b = (k : ℕ) → i ≤ k → k < j → IfSome (slice_get loops k) (IsWithin a b)

pub record IsRegion (loops : List Loop) (i j a b : ℕ) : Type 0 where
  pub nest : OthersNest loops i j a b
  pub own : OwnWithin loops i j a b

pub holds_none : (a b x : ℕ) (loop : Loop) → IsWithin a b loop → IsOutside a b x → holds loop x ≡ false
holds_none a b x loop within (inl lt) = and_left (nat_le loop.first x) (nat_le x loop.last)
    (lt-leb loop.first x (omega (arith, lt, within.0)))
holds_none a b x loop within (inr le) = and_right (nat_le loop.first x) (nat_le x loop.last)
    (lt-leb x loop.last (omega (arith, le, within.1)))

pub holds_from : (loop : Loop) (x : ℕ) → loop.first ≤ x → x ≤ loop.last → holds loop x ≡ true
holds_from loop x low high = and_from (nat_le loop.first x) (nat_le x loop.last) (le-leb loop.first x low) (le-leb x loop.last high)

-- a loop that lies apart from a region holds none of it, and one around it all
pub apart_alike : (a b c d : ℕ) (loop : Loop) → IsWithin c d loop → (b ≤ c) ⊎ (d ≤ a) → HoldsAlike a b loop
apart_alike a b c d loop within (inl le) x y low high low_too high_too =
    holds_none c d x loop within (inl (omega (arith, high, le))) ∙ sym (holds_none c d y loop within (inl (omega (arith, high_too, le))))
apart_alike a b c d loop within (inr le) x y low high low_too high_too =
    holds_none c d x loop within (inr (omega (arith, low, le))) ∙ sym (holds_none c d y loop within (inr (omega (arith, low_too, le))))

pub around_alike : (a b : ℕ) (loop : Loop) → loop.first ≤ a → b ≤ suc loop.last → HoldsAlike a b loop
around_alike a b loop low high x y from to from_too to_too =
    holds_from loop x (omega (arith, low, from)) (omega (arith, high, to))
    ∙ sym (holds_from loop y (omega (arith, low, from_too)) (omega (arith, high, to_too)))

pub narrow_alike : (a b c d : ℕ) (loop : Loop) → a ≤ c → d ≤ b → HoldsAlike a b loop → HoldsAlike c d loop
narrow_alike a b c d loop low high h x y from to from_too to_too = h x y (omega (arith, low, from)) (omega (arith, high, to))
    (omega (arith, low, from_too)) (omega (arith, high, to_too))

-- a part of a region: what is said of the region's own loops that aren't the part's
pub nest_part : (loops : List Loop) (i j a b k l c d : ℕ) → a ≤ c → d ≤ b → OthersNest loops i j a b
    → ((n : ℕ) → i ≤ n → n < j → IsOutside k l n → IfSome (slice_get loops n) (HoldsAlike c d))
    → OthersNest loops k l c d
nest_part loops i j a b k l c d low high nest go n out = by (inside n)
  where
    inside : (n : ℕ) → (IsOutside i j n) ⊎ ((i ≤ n) × (n < j))
    inside n = first (cases_lt n i) (cases_lt n j)
      where
        first : (n < i) ⊎ (i ≤ n) → (n < j) ⊎ (j ≤ n) → (IsOutside i j n) ⊎ ((i ≤ n) × (n < j))
        first (inl lt) x = inl (inl lt)
        first (inr le) (inl lt) = inr (le, lt)
        first (inr le) (inr far) = inl (inr far)

    by : (IsOutside i j n) ⊎ ((i ≤ n) × (n < j)) → IfSome (slice_get loops n) (HoldsAlike c d)
    by (inl apart) = for_some (HoldsAlike c d) (slice_get loops n)
        (λ loop e. narrow_alike a b c d loop low high (some_at (HoldsAlike a b) (slice_get loops n) loop e (nest n apart)))
    by (inr own) = go n own.0 own.1 out

-- ---- a run in a region

-- it began at location a with the first counts, and is at location y with the others
abbrev pub IsFrom : List Loop → ℕ → ℕ → ℕ → Counts → ℕ → Counts → Type 0
IsFrom loops i j a counts y others = (k : ℕ) → IsOutside i j k
    → IfSome (slice_get loops k) (λ loop. (holds loop y ≡ holds loop a) × (holds loop a ≡ true → others k ≡ counts k))

pub from_start : (loops : List Loop) (i j a : ℕ) (counts : Counts) → IsFrom loops i j a counts a counts
from_start loops i j a counts k out =
    for_some (λ (loop : Loop). (holds loop a ≡ holds loop a) × (holds loop a ≡ true → counts k ≡ counts k)) (slice_get loops k)
    (λ loop e. (refl, λ h. refl))

pub from_moved : (loops : List Loop) (i j a b : ℕ) (counts : Counts) (y z : ℕ) (others : Counts) → OthersNest loops i j a b
    → a < b → a ≤ z → z < b → IsFrom loops i j a counts y others → IsFrom loops i j a counts z (moved loops y z others)
from_moved loops i j a b counts y z others nest some low high from k out = for_some
    (λ (loop : Loop). (holds loop z ≡ holds loop a) × (holds loop a ≡ true → moved loops y z others k ≡ counts k)) (slice_get loops k) each
  where
    each : (loop : Loop) → slice_get loops k ≡ Some loop
        → (holds loop z ≡ holds loop a) × (holds loop a ≡ true → moved loops y z others k ≡ counts k)
    each loop e =
        let alike : holds loop z ≡ holds loop a =
        some_at (HoldsAlike a b) (slice_get loops k) loop e (nest k out) z a low high (omega arith) some in
        let was = some_at (λ (loop : Loop). (holds loop y ≡ holds loop a) × (holds loop a ≡ true → others k ≡ counts k))
        (slice_get loops k) loop e (from k out) in (
          alike,
          λ held. moved_at loops y z others k loop e
              ∙ (kept_both (holds loop z) (holds loop y) (others k) (entry_count loop) (alike ∙ held) (was.0 ∙ held) ∙ was.1 held),
        )

pub other_count : (i k : ℕ) (counts : Counts) → (k ≡ i → ⊥) → one_more i counts k ≡ counts k
other_count i k counts ne = ap (λ (b : Bool). counts k + cond b 1 0) (ne_eqb k i ne) ∙ omega arith

pub own_count : (i : ℕ) (counts : Counts) → one_more i counts i ≡ suc (counts i)
own_count i counts = ap (λ (b : Bool). counts i + cond b 1 0) (eq-eqb i i refl) ∙ omega arith

pub outside_differs : (i j k n : ℕ) → i ≤ n → n < j → IsOutside i j k → k ≡ n → ⊥
outside_differs i j k n low high (inl lt) e = omega (arith, low, lt, e)
outside_differs i j k n low high (inr le) e = omega (arith, high, le, e)

-- a turn of one of the region's own loops
pub from_turned : (loops : List Loop) (i j a : ℕ) (counts : Counts) (y : ℕ) (others : Counts) (n : ℕ) → i ≤ n → n < j
    → IsFrom loops i j a counts y others → IsFrom loops i j a counts y (one_more n others)
from_turned loops i j a counts y others n low high from k out = for_some
    (λ (loop : Loop). (holds loop y ≡ holds loop a) × (holds loop a ≡ true → one_more n others k ≡ counts k)) (slice_get loops k)
    (λ loop e.
    let was = some_at (λ (loop : Loop). (holds loop y ≡ holds loop a) × (holds loop a ≡ true → others k ≡ counts k))
    (slice_get loops k) loop e (from k out) in
    (was.0, λ held. other_count n k others (outside_differs i j k n low high out) ∙ was.1 held))

-- out of the region it leads as one edge from the beginning
pub left_from : (loops : List Loop) (i j a b : ℕ) (counts : Counts) (y x : ℕ) (others : Counts) → IsRegion loops i j a b → IsOutside a b x
    → IsFrom loops i j a counts y others → moved loops y x others ≡ moved loops a x counts
left_from loops i j a b counts y x others region outside from = fun_ext (λ k. each k (slice_get loops k) refl)
  where
    owned : (k : ℕ) (loop : Loop) → slice_get loops k ≡ Some loop → i ≤ k → k < j
        → kept (holds loop x) (holds loop y) (others k) (entry_count loop)
        ≡ kept (holds loop x) (holds loop a) (counts k) (entry_count loop)
    owned k loop e low high = kept_out (holds loop x) (holds loop y) (holds loop a) (others k) (counts k) (entry_count loop)
        (holds_none a b x loop (some_at (IsWithin a b) (slice_get loops k) loop e (region.own k low high)) outside)

    other : (k : ℕ) (loop : Loop) → slice_get loops k ≡ Some loop → IsOutside i j k
        → kept (holds loop x) (holds loop y) (others k) (entry_count loop)
        ≡ kept (holds loop x) (holds loop a) (counts k) (entry_count loop)
    other k loop e out =
        let was = some_at (λ (loop : Loop). (holds loop y ≡ holds loop a) × (holds loop a ≡ true → others k ≡ counts k))
        (slice_get loops k) loop e (from k out) in
        kept_alike (holds loop x) (holds loop y) (holds loop a) (others k) (counts k) (entry_count loop) was.0 was.1

    by : (k : ℕ) (loop : Loop) → slice_get loops k ≡ Some loop → (k < i) ⊎ (i ≤ k) → (k < j) ⊎ (j ≤ k)
        → kept (holds loop x) (holds loop y) (others k) (entry_count loop)
        ≡ kept (holds loop x) (holds loop a) (counts k) (entry_count loop)
    by k loop e (inl lt) far = other k loop e (inl lt)
    by k loop e (inr low) (inl high) = owned k loop e low high
    by k loop e (inr low) (inr far) = other k loop e (inr far)

    each : (k : ℕ) (o : Option Loop) → slice_get loops k ≡ o
        → kept_in (slice_get loops k) (λ loop. holds loop y) x (others k) ≡ kept_in (slice_get loops k) (λ loop. holds loop a) x (counts k)
    each k None e = subst (λ (o : Option Loop).
        kept_in o (λ loop. holds loop y) x (others k) ≡ kept_in o (λ loop. holds loop a) x (counts k)) (sym e) refl
    each k (Some loop) e = subst (λ (o : Option Loop).
        kept_in o (λ loop. holds loop y) x (others k) ≡ kept_in o (λ loop. holds loop a) x (counts k)) (sym e)
        (by k loop e (cases_lt k i) (cases_lt k j))

-- ---- fresh counts

-- a region that is entered from outside
pub fresh_entered : (loops : List Loop) (i j a b y x : ℕ) (counts : Counts) → OwnWithin loops i j a b → IsOutside a b y
    → AreFresh loops i j x (moved loops y x counts)
fresh_entered loops i j a b y x counts own out k low high = for_some
    (λ (loop : Loop). holds loop x ≡ true → moved loops y x counts k ≡ entry_count loop) (slice_get loops k)
    (λ loop e held. moved_at loops y x counts k loop e
    ∙ kept_new (holds loop x) (holds loop y) (counts k) (entry_count loop) held
    (holds_none a b y loop (some_at (IsWithin a b) (slice_get loops k) loop e (own k low high)) out))

pub fresh_turned : (loops : List Loop) (i j x n : ℕ) (counts : Counts) → n < i → AreFresh loops i j x counts
    → AreFresh loops i j x (one_more n counts)
fresh_turned loops i j x n counts lt fresh k low high = for_some
    (λ (loop : Loop). holds loop x ≡ true → one_more n counts k ≡ entry_count loop) (slice_get loops k)
    (λ loop e held. other_count n k counts (λ same. omega (arith, lt, low, same))
    ∙ some_at (λ (loop : Loop). holds loop x ≡ true → counts k ≡ entry_count loop) (slice_get loops k) loop e (fresh k low high) held)

pub fresh_part : (loops : List Loop) (i j k l x : ℕ) (counts : Counts) → i ≤ k → l ≤ j → AreFresh loops i j x counts
    → AreFresh loops k l x counts
fresh_part loops i j k l x counts low high fresh n from to = fresh n (omega (arith, low, from)) (omega (arith, high, to))
