-- Sums over the first so many numbers, and copies of locations as such sums: what a loop adds to the copies before a location.
use Rattle.std.proofs.Common.{◌≡◌, ℕ, zero, suc, ◌+◌, ◌*◌, ◌<◌, ◌≤◌, ◌⊎◌, inl, inr, List, [], ◌∷◌, Bool, true, false, not, ◌&&◌, ◌==◌, nat_le, cond, refl, sym, subst, ap, ◌∙◌, arith}
use Rattle.std.proofs.Math.Nat.{mul-le-mul_left}
use Rattle.std.proofs.lemmas.Bool.{and_left, and_right, and_from, and_parts, le-leb, lt-leb, leb-true, cases_lt, eq-eqb, ne_eqb, not_from_false, cond-true, cond-false}
use Rattle.pv_flow.specs.Automata.{Loop, holds}
use Rattle.pv_flow.specs.Runs.{copies_at, copies}

-- ---- sums

abbrev pub total : (ℕ → ℕ) → ℕ → ℕ
total f zero = 0
total f (suc y) = total f y + f y

total_mono : (f : ℕ → ℕ) (a b : ℕ) → a ≤ b → total f a ≤ total f b
total_mono f a zero le = subst (λ (x : ℕ). total f x ≤ 0) (nothing a le) (omega arith)
  where
    nothing : (x : ℕ) → x ≤ 0 → 0 ≡ x
    nothing x h = omega (arith, h)
total_mono f a (suc b) le = by (cases_lt b a) (λ h. total_mono f a b h)
  where
    last : b < a → suc b ≡ a
    last lt = omega (arith, lt, le)

    by : (b < a) ⊎ (a ≤ b) → (a ≤ b → total f a ≤ total f b) → total f a ≤ total f b + f b
    by (inl lt) go = subst (λ (x : ℕ). total f x ≤ total f b + f b) (last lt) (omega arith)
    by (inr h) go = let x : total f a ≤ total f b = go h in omega (arith, x)

-- where all are 0
total_none : (f : ℕ → ℕ) (y : ℕ) → ((x : ℕ) → x < y → f x ≡ 0) → total f y ≡ 0
total_none f zero none = refl
total_none f (suc y) none =
    let a : total f y ≡ 0 = total_none f y (λ x lt. none x (omega (arith, lt))) in
    let b : f y ≡ 0 = none y (omega arith) in
    omega (arith, a, b)

-- where all from b on are 0
total_stays : (f : ℕ → ℕ) (b y : ℕ) → b ≤ y → ((x : ℕ) → b ≤ x → f x ≡ 0) → total f y ≡ total f b
total_stays f b zero le none = let e : 0 ≡ b = omega (arith, le) in subst (λ (x : ℕ). 0 ≡ total f x) e refl
total_stays f b (suc y) le none = by (cases_lt y b) (λ h. total_stays f b y h none)
  where
    last : y < b → suc y ≡ b
    last lt = omega (arith, lt, le)

    by : (y < b) ⊎ (b ≤ y) → (b ≤ y → total f y ≡ total f b) → total f y + f y ≡ total f b
    by (inl lt) go = subst (λ (x : ℕ). total f y + f y ≡ total f x) (last lt) refl
    by (inr h) go = let a : total f y ≡ total f b = go h in let z : f y ≡ 0 = none y h in omega (arith, a, z)

-- where they are alike from a on
total_alike : (f g : ℕ → ℕ) (a y : ℕ) → a ≤ y → ((x : ℕ) → a ≤ x → x < y → f x ≡ g x) → total f y + total g a ≡ total f a + total g y
total_alike f g a zero le same =
    let e : 0 ≡ a = omega (arith, le) in subst (λ (x : ℕ). 0 + total g x ≡ total f x + 0) e refl
total_alike f g a (suc y) le same = by (cases_lt y a) (λ h. total_alike f g a y h (λ x low lt. same x low (omega (arith, lt))))
  where
    last : y < a → suc y ≡ a
    last lt = omega (arith, lt, le)

    plain : (s t u v c d : ℕ) → s + t ≡ u + v → c ≡ d → (s + c) + t ≡ u + (v + d)
    plain s t u v c d e h = omega (arith, e, h)

    by : (y < a) ⊎ (a ≤ y) → (a ≤ y → total f y + total g a ≡ total f a + total g y)
        → (total f y + f y) + total g a ≡ total f a + (total g y + g y)
    by (inl lt) go =
        subst (λ (x : ℕ). total f (suc y) + total g x ≡ total f x + total g (suc y)) (last lt) refl
    by (inr h) go = plain (total f y) (total g a) (total f a) (total g y) (f y) (g y) (go h) (same y h (omega arith))

copies_are_totals : (n : ℕ) (loops : List Loop) (y : ℕ) → copies n loops y ≡ total (copies_at n loops) y
copies_are_totals n loops zero = refl
copies_are_totals n loops (suc y) = ap (λ (x : ℕ). x + copies_at n loops y) (copies_are_totals n loops y)

pub copies_mono : (n : ℕ) (loops : List Loop) (a b : ℕ) → a ≤ b → copies n loops a ≤ copies n loops b
copies_mono n loops a b le =
    let x : copies n loops a ≡ total (copies_at n loops) a = copies_are_totals n loops a in
    let y : copies n loops b ≡ total (copies_at n loops) b = copies_are_totals n loops b in
    let z : total (copies_at n loops) a ≤ total (copies_at n loops) b = total_mono (copies_at n loops) a b le in
    omega (arith, x, y, z)

-- without loops
pub copies_without : (n y : ℕ) → copies n [] y ≡ y
copies_without n zero = refl
copies_without n (suc y) = let x : copies n [] y ≡ y = copies_without n y in omega (arith, x)

-- ---- a loop in front of others

-- entering starts no turn of the loop, and it begins at l
abbrev pub is_lead : Loop → ℕ → Bool
is_lead loop l = not loop.entry_turn && (loop.first == l)

-- a location's copies by the other loops, if the loop holds it
abbrev held_at : ℕ → Loop → List Loop → ℕ → ℕ
held_at n loop more l = cond (holds loop l) (copies_at n more l) 0

-- and if it is where the loop begins that has an additional copy of its first location
abbrev more_at : ℕ → Loop → List Loop → ℕ → ℕ
more_at n loop more l = cond (holds loop l) (cond (is_lead loop l) (copies_at n more l) 0) 0

-- how many copies by the other loops one turn of the loop has, and its additional copies
abbrev pub inside : ℕ → Loop → List Loop → ℕ
inside n loop more = total (held_at n loop more) (suc loop.last)

abbrev pub once_more : ℕ → Loop → List Loop → ℕ
once_more n loop more = total (more_at n loop more) (suc loop.last)

one_location : (m : ℕ) (held lead : Bool) (w : ℕ)
    → cond held (cond lead (suc m + 1) (suc m)) 1 * w ≡ w + m * cond held w 0 + cond held (cond lead w 0) 0
one_location m true true w = omega arith
one_location m true false w = omega arith
one_location m false lead w = omega arith

split : (m : ℕ) (loop : Loop) (more : List Loop) (y : ℕ) → copies (suc m) (loop ∷ more) y
    ≡ copies (suc m) more y + m * total (held_at (suc m) loop more) y + total (more_at (suc m) loop more) y
split m loop more zero = omega arith
split m loop more (suc y) =
    joined (copies (suc m) (loop ∷ more) y) (copies (suc m) more y) (total (held_at (suc m) loop more) y) (total (more_at (suc m) loop more) y)
    (copies_at (suc m) (loop ∷ more) y) (copies_at (suc m) more y) (held_at (suc m) loop more y) (more_at (suc m) loop more y)
    (split m loop more y) (one_location m (holds loop y) (is_lead loop y) (copies_at (suc m) more y))
  where
    joined : (a b i o c w j q : ℕ) → a ≡ b + m * i + o → c ≡ w + m * j + q → a + c ≡ (b + w) + m * (i + j) + (o + q)
    joined a b i o c w j q e f = omega (arith, e, f)

-- ---- where it holds nothing

not_before : (loop : Loop) (x : ℕ) → x < loop.first → holds loop x ≡ false
not_before loop x lt = and_left (nat_le loop.first x) (nat_le x loop.last) (lt-leb loop.first x lt)

not_behind : (loop : Loop) (x : ℕ) → loop.last < x → holds loop x ≡ false
not_behind loop x lt = and_right (nat_le loop.first x) (nat_le x loop.last) (lt-leb x loop.last lt)

pub holds_by : (loop : Loop) (x : ℕ) → loop.first ≤ x → x ≤ loop.last → holds loop x ≡ true
holds_by loop x low high = and_from (nat_le loop.first x) (nat_le x loop.last) (le-leb loop.first x low) (le-leb x loop.last high)

pub holds_first : (loop : Loop) (x : ℕ) → holds loop x ≡ true → loop.first ≤ x
holds_first loop x h = leb-true loop.first x (and_parts (nat_le loop.first x) (nat_le x loop.last) h).0

pub holds_last : (loop : Loop) (x : ℕ) → holds loop x ≡ true → x ≤ loop.last
holds_last loop x h = leb-true x loop.last (and_parts (nat_le loop.first x) (nat_le x loop.last) h).1

held_none : (n : ℕ) (loop : Loop) (more : List Loop) (x : ℕ) → holds loop x ≡ false → held_at n loop more x ≡ 0
held_none n loop more x off = cond-false (holds loop x) (copies_at n more x) 0 off

more_none : (n : ℕ) (loop : Loop) (more : List Loop) (x : ℕ) → holds loop x ≡ false → more_at n loop more x ≡ 0
more_none n loop more x off = cond-false (holds loop x) (cond (is_lead loop x) (copies_at n more x) 0) 0 off

-- ---- what it adds before a location

pub before_first : (m : ℕ) (loop : Loop) (more : List Loop) (y : ℕ) → y ≤ loop.first → copies (suc m) (loop ∷ more) y ≡ copies (suc m) more y
before_first m loop more y le =
    let a : total (held_at (suc m) loop more) y ≡ 0 =
    total_none (held_at (suc m) loop more) y (λ x lt. held_none (suc m) loop more x (not_before loop x (omega (arith, lt, le)))) in
    let b : total (more_at (suc m) loop more) y ≡ 0 =
    total_none (more_at (suc m) loop more) y (λ x lt. more_none (suc m) loop more x (not_before loop x (omega (arith, lt, le)))) in
    plain (copies (suc m) (loop ∷ more) y) (copies (suc m) more y) (total (held_at (suc m) loop more) y) (total (more_at (suc m) loop more) y)
    (split m loop more y) a b
  where
    plain : (c d i o : ℕ) → c ≡ d + m * i + o → i ≡ 0 → o ≡ 0 → c ≡ d
    plain c d i o e f g = e ∙ ap (λ (x : ℕ). d + m * x + o) f ∙ ap (λ (x : ℕ). d + m * 0 + x) g ∙ nothing
      where
        nothing : d + m * 0 + 0 ≡ d
        nothing = omega arith

pub behind_last : (m : ℕ) (loop : Loop) (more : List Loop) (y : ℕ) → loop.last < y
    → copies (suc m) (loop ∷ more) y ≡ copies (suc m) more y + m * inside (suc m) loop more + once_more (suc m) loop more
behind_last m loop more y lt =
    split m loop more y
    ∙ ap (λ (x : ℕ). copies (suc m) more y + m * x + total (more_at (suc m) loop more) y)
    (total_stays (held_at (suc m) loop more) (suc loop.last) y lt (λ x h. held_none (suc m) loop more x (not_behind loop x h)))
    ∙ ap (λ (x : ℕ). copies (suc m) more y + m * inside (suc m) loop more + x)
    (total_stays (more_at (suc m) loop more) (suc loop.last) y lt (λ x h. more_none (suc m) loop more x (not_behind loop x h)))

-- before any location no more than all
pub no_more_than : (m : ℕ) (loop : Loop) (more : List Loop) (y : ℕ)
    → copies (suc m) (loop ∷ more) y ≤ copies (suc m) more y + m * inside (suc m) loop more + once_more (suc m) loop more
no_more_than m loop more y = by (cases_lt loop.last y)
  where
    plain : (c d i j o q : ℕ) → c ≡ d + m * i + o → m * i ≤ m * j → o ≤ q → c ≤ d + m * j + q
    plain c d i j o q e f g = omega (arith, e, f, g)

    by : (loop.last < y) ⊎ (y ≤ loop.last)
        → copies (suc m) (loop ∷ more) y ≤ copies (suc m) more y + m * inside (suc m) loop more + once_more (suc m) loop more
    by (inl lt) = let e = behind_last m loop more y lt in omega (arith, e)
    by (inr le) =
        plain (copies (suc m) (loop ∷ more) y) (copies (suc m) more y) (total (held_at (suc m) loop more) y) (inside (suc m) loop more)
        (total (more_at (suc m) loop more) y) (once_more (suc m) loop more) (split m loop more y)
        (mul-le-mul_left m (total_mono (held_at (suc m) loop more) y (suc loop.last) (omega (arith, le))))
        (total_mono (more_at (suc m) loop more) y (suc loop.last) (omega (arith, le)))

pub no_fewer_than : (m : ℕ) (loop : Loop) (more : List Loop) (y : ℕ) → copies (suc m) more y ≤ copies (suc m) (loop ∷ more) y
no_fewer_than m loop more y =
    let e = split m loop more y in omega (arith, e)

-- the copies of the loop's locations by the others are those of one turn
pub one_turn : (m : ℕ) (loop : Loop) (more : List Loop) → loop.first ≤ loop.last
    → copies (suc m) more (suc loop.last) ≡ copies (suc m) more loop.first + inside (suc m) loop more
one_turn m loop more range =
    let low : loop.first ≤ suc loop.last = omega (arith, range) in
    let a : total (held_at (suc m) loop more) loop.first ≡ 0 =
    total_none (held_at (suc m) loop more) loop.first (λ x lt. held_none (suc m) loop more x (not_before loop x lt)) in
    let b = total_alike (copies_at (suc m) more) (held_at (suc m) loop more) loop.first (suc loop.last) low
    (λ x h lt. sym (cond-true (holds loop x) (copies_at (suc m) more x) 0 (holds_by loop x h (omega (arith, lt))))) in
    let c = copies_are_totals (suc m) more (suc loop.last) in
    let d = copies_are_totals (suc m) more loop.first in
    plain (copies (suc m) more (suc loop.last)) (copies (suc m) more loop.first) (total (copies_at (suc m) more) (suc loop.last))
    (total (copies_at (suc m) more) loop.first) (total (held_at (suc m) loop more) loop.first) (inside (suc m) loop more) c d a b
  where
    plain : (p q s t h i : ℕ) → p ≡ s → q ≡ t → h ≡ 0 → s + h ≡ t + i → p ≡ q + i
    plain p q s t h i c d a b = omega (arith, c, d, a, b)

-- the additional copies are those of its first location
pub once_more_is : (m : ℕ) (loop : Loop) (more : List Loop) → loop.first ≤ loop.last → loop.entry_turn ≡ false
    → copies (suc m) more (suc loop.first) ≡ copies (suc m) more loop.first + once_more (suc m) loop more
once_more_is m loop more range entry =
    let lead : is_lead loop loop.first ≡ true =
    and_from (not loop.entry_turn) (loop.first == loop.first) (not_from_false loop.entry_turn entry) (eq-eqb loop.first loop.first refl) in
    let here : more_at (suc m) loop more loop.first ≡ copies_at (suc m) more loop.first =
    cond-true (holds loop loop.first) (cond (is_lead loop loop.first) (copies_at (suc m) more loop.first) 0) 0 (holds_by loop loop.first (omega arith) range)
    ∙ cond-true (is_lead loop loop.first) (copies_at (suc m) more loop.first) 0 lead in
    let before : total (more_at (suc m) loop more) loop.first ≡ 0 =
    total_none (more_at (suc m) loop more) loop.first (λ x lt. more_none (suc m) loop more x (not_before loop x lt)) in
    let behind : once_more (suc m) loop more ≡ total (more_at (suc m) loop more) (suc loop.first) =
    total_stays (more_at (suc m) loop more) (suc loop.first) (suc loop.last) (omega (arith, range)) (λ x le. no_lead x (omega (arith, le))) in
    plain (copies (suc m) more loop.first) (copies_at (suc m) more loop.first) (total (more_at (suc m) loop more) loop.first)
    (more_at (suc m) loop more loop.first) (once_more (suc m) loop more) here before behind
  where
    off : (held : Bool) (lead : Bool) (w : ℕ) → lead ≡ false → cond held (cond lead w 0) 0 ≡ 0
    off true lead w e = cond-false lead w 0 e
    off false lead w e = refl

    no_lead : (x : ℕ) → loop.first < x → more_at (suc m) loop more x ≡ 0
    no_lead x lt = off (holds loop x) (is_lead loop x) (copies_at (suc m) more x)
        (and_right (not loop.entry_turn) (loop.first == x) (ne_eqb loop.first x (λ e. absurd (omega (arith, e, lt)))))

    plain : (c w t h o : ℕ) → h ≡ w → t ≡ 0 → o ≡ t + h → c + w ≡ c + o
    plain c w t h o e f g = omega (arith, e, f, g)
