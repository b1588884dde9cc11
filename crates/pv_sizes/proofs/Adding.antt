-- Numbers that are counted up to the bound: sums of such numbers, and sums that a loop goes on with.
use Rattle.std.proofs.Common.{◌≡◌, ℕ, suc, ◌<◌, ◌+◌, List, ◌∷◌, length, get_or, drop, refl, sym, ap, ◌∙◌, arith}
use Rattle.std.specs.Prelude.{min}
use Rattle.std.proofs.Math.Seq.{drop-cons}
use Rattle.pv_sizes.specs.declared.count.TheConstants.{BEYOND}
use Rattle.pv_sizes.specs.Counts.{capped}

sum_alike : (b x y u v : ℕ) → min x b ≡ min y b → min u b ≡ min v b → min (x + u) b ≡ min (y + v) b
sum_alike b x y u v e f = omega (arith, e, f)

pub capped_twice : (n : ℕ) → capped (capped n) ≡ capped n
capped_twice n = omega arith

pub capped_sum : (x y u v : ℕ) → capped x ≡ capped y → capped u ≡ capped v → capped (x + u) ≡ capped (y + v)
capped_sum x y u v e f = sum_alike BEYOND x y u v e f

-- the code's sum of a number that is counted so and of one that is exact
pub sum_with : (r a x n : ℕ) → r ≡ capped (a + n) → a ≡ capped x → r ≡ capped (x + n)
sum_with r a x n is p = is ∙ capped_sum a x n n (ap capped p ∙ capped_twice x) refl

-- the code's sum of two numbers that are counted so
pub sum_of : (r a b x y : ℕ) → r ≡ capped (a + b) → a ≡ capped x → b ≡ capped y → r ≡ capped (x + y)
sum_of r a b x y is p q = is ∙ capped_sum a x b y (ap capped p ∙ capped_twice x) (ap capped q ∙ capped_twice y)

-- a sum that is the one up to the bound goes on, and stays within the bound
pub goes_on : (r total s x rest whole more : ℕ) → r ≡ capped (total + s) → s ≡ capped x → more ≡ x + rest
    → capped (total + more) ≡ capped whole
    → capped (r + rest) ≡ capped whole
goes_on r total s x rest whole more is part split before =
    capped_sum r (total + x) rest rest
    (ap capped is ∙ capped_twice (total + s) ∙ capped_sum total total s x refl (ap capped part ∙ capped_twice x)) refl
    ∙ (let e : (total + x) + rest ≡ total + more = omega (arith, split) in ap capped e) ∙ before

pub stays_within : (r n : ℕ) → r ≡ capped n → capped r ≡ r
stays_within r n is = ap capped is ∙ capped_twice n ∙ sym is

-- before anything is added, and behind a first part
pub none_added : (rest other whole : ℕ) → rest ≡ other → whole ≡ other → capped (0 + rest) ≡ capped whole
none_added rest other whole same is = let e : 0 + rest ≡ whole = omega (arith, same, is) in ap capped e

pub first_added : (r x part other last whole : ℕ) → r ≡ capped x → part ≡ other → whole ≡ (x + other) + last
    → capped (r + (part + last)) ≡ capped whole
first_added r x part other last whole is same all =
    capped_sum r x (part + last) (part + last) (ap capped is ∙ capped_twice x) refl
    ∙ (let e : x + (part + last) ≡ whole = omega (arith, same, all) in ap capped e)

-- ---- lists

-- what is left of a list is its next element and what is left behind that
pub left_from : {X : Type 0} (xs : List X) (i j : ℕ) (x : X) → i < length xs → x ≡ get_or xs i x → j ≡ i + 1 → drop i xs ≡ x ∷ drop j xs
left_from xs i j x inside is next =
    let k : j ≡ suc i = omega (arith, next) in
    drop-cons xs i x inside ∙ ap (λ y. y ∷ drop (suc i) xs) (sym is) ∙ ap (λ n. x ∷ drop n xs) (sym k)
