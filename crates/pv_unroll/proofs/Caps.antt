-- Sums, differences and products of numbers that are capped, once more capped, are those of the numbers, capped.
use Rattle.std.proofs.Common.{◌≡◌, ℕ, zero, suc, ◌+◌, ◌-◌, ◌*◌, ◌<◌, ◌≤◌, ◌⊎◌, inl, inr, min, ap, ◌∙◌, arith}
use Rattle.std.proofs.lemmas.Bool.{cases_lt}
use Rattle.pv_unroll.specs.declared.numbers.TheConstants.{MOST}
use Rattle.pv_unroll.specs.Counts.{capped}

plus_by : (most a b : ℕ) → min (min a most + min b most) most ≡ min (a + b) most
plus_by most a b = omega arith

pub plus_capped : (a b : ℕ) → capped (capped a + capped b) ≡ capped (a + b)
plus_capped a b = plus_by MOST a b

none_by : (most : ℕ) → min 0 most ≡ 0
none_by most = omega arith

pub zero_capped : capped 0 ≡ 0
zero_capped = none_by MOST

once_by : (most a : ℕ) → min (min a most) most ≡ min a most
once_by most a = omega arith

pub capped_once : (a : ℕ) → capped (capped a) ≡ capped a
capped_once a = once_by MOST a

pub at_least : (n d : ℕ) → 0 < n → d ≤ n * d
at_least zero d some = absurd (omega (arith, some))
at_least (suc n) d some = omega arith

pub larger : (n d e : ℕ) → d ≤ e → n * d ≤ n * e
larger zero d e le = omega arith
larger (suc n) d e le = let h = larger n d e le in omega (arith, h, le)

-- a product of capped numbers
times_by : (most n d : ℕ) → 0 < n → min (n * min d most) most ≡ min (n * d) most
times_by most n d some = by (cases_lt most d)
  where
    same : d ≤ most → min d most ≡ d
    same le = omega (arith, le)

    above : (x y m : ℕ) → m ≤ x → m ≤ y → min x m ≡ min y m
    above x y m low high = omega (arith, low, high)

    by : (most < d) ⊎ (d ≤ most) → min (n * min d most) most ≡ min (n * d) most
    by (inr le) = ap (λ (m : ℕ). min (n * m) most) (same le)
    by (inl lt) = above (n * min d most) (n * d) most (top (at_least n (min d most) some)) (high (at_least n d some))
      where
        top : min d most ≤ n * min d most → most ≤ n * min d most
        top h = omega (arith, h, lt)

        high : d ≤ n * d → most ≤ n * d
        high h = omega (arith, h, lt)

pub times_capped : (n d : ℕ) → capped (n * capped d) ≡ capped (n * d)
times_capped zero d = ap capped (nothing (capped d) d)
  where
    nothing : (x y : ℕ) → 0 * x ≡ 0 * y
    nothing x y = omega arith
times_capped (suc n) d = times_by MOST (suc n) d (omega arith)

-- from where the first turn begins and where it ends: all turns
turns_by : (most n s e : ℕ) → 0 < n → s ≤ e → min (min s most + min (n * (min e most - min s most)) most) most ≡ min (s + n * (e - s)) most
turns_by most n s e some le = by (cases_lt most e)
  where
    exact : e ≤ most → (min e most - min s most) ≡ e - s
    exact high = omega (arith, high, le)

    sum : (m x y : ℕ) → x ≤ m → min (min x m + min y m) m ≡ min (x + y) m
    sum m x y h = omega (arith, h)

    above : (m x y z : ℕ) → m ≤ x + y → m ≤ z → min (x + min y m) m ≡ min z m
    above m x y z h g = omega (arith, h, g)

    by : (most < e) ⊎ (e ≤ most) → min (min s most + min (n * (min e most - min s most)) most) most ≡ min (s + n * (e - s)) most
    by (inr high) = ap (λ (d : ℕ). min (min s most + min (n * d) most) most) (exact high) ∙ sum most s (n * (e - s)) (omega (arith, high, le))
    by (inl lt) = above most (min s most) (n * (min e most - min s most)) (s + n * (e - s))
        (low (at_least n (min e most - min s most) some)) (high (at_least n (e - s) some))
      where
        low : (min e most - min s most) ≤ n * (min e most - min s most) → most ≤ min s most + n * (min e most - min s most)
        low h = omega (arith, h, lt)

        high : (e - s) ≤ n * (e - s) → most ≤ s + n * (e - s)
        high h = omega (arith, h, lt, le)

pub turns_capped : (n s e : ℕ) → 0 < n → s ≤ e → capped (capped s + capped (n * (capped e - capped s))) ≡ capped (s + n * (e - s))
turns_capped n s e some le = turns_by MOST n s e some le
