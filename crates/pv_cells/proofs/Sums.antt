-- Numbers of cells that are counted up to the bound, put together.
use Rattle.std.proofs.Common.{◌≡◌, inl, inr, ℕ, suc, ◌+◌, ◌<◌, ◌≤◌, List, ◌++◌, length, refl, sym, ap, ◌∙◌, arith}
use Rattle.std.specs.Prelude.{min}
use Rattle.std.proofs.lemmas.Bool.{cases_lt}
use Rattle.std.proofs.lemmas.List.{length-append}
use Rattle.pv_types.specs.declared.layout.TheConstants.{MAX_LEAVES}
use Rattle.pv_mean.specs.declared.count.TheConstants.{BEYOND}
use Rattle.pv_mean.specs.Counts.{capped}

pub sums : (a b m n r : ℕ) → a ≡ capped m → b ≡ capped n → r ≡ capped (a + b) → r ≡ capped (m + n)
sums a b m n r e f is = is ∙ by BEYOND a b m n e f
  where
    by : (c a b m n : ℕ) → a ≡ min m c → b ≡ min n c → min (a + b) c ≡ min (m + n) c
    by c a b m n e f = omega (arith, e, f)

pub both-counted : {X : Type 0} (xs ys : List X) (a b r : ℕ) → a ≡ capped (length xs) → b ≡ capped (length ys) → r ≡ capped (a + b)
    → r ≡ capped (length (xs ++ ys))
both-counted xs ys a b r e f is = sums a b (length xs) (length ys) r e f is ∙ ap capped (sym (length-append xs ys))

-- a sum that grows along a list
pub sum-goes_on : (r total s x rest whole more : ℕ) → r ≡ capped (total + s) → s ≡ capped x → more ≡ x + rest
    → capped (total + more) ≡ capped whole → capped (r + rest) ≡ capped whole
sum-goes_on r total s x rest whole more is part split before = by BEYOND r total s x rest whole more is part split before
  where
    by : (c r total s x rest whole more : ℕ) → r ≡ min (total + s) c → s ≡ min x c → more ≡ x + rest
        → min (total + more) c ≡ min whole c → min (r + rest) c ≡ min whole c
    by c r total s x rest whole more is part split before = omega (arith, is, part, split, before)

pub sum-within : (r n : ℕ) → r ≡ capped n → capped r ≡ r
sum-within r n is = by BEYOND r n is
  where
    by : (c r n : ℕ) → r ≡ min n c → min r c ≡ r
    by c r n is = omega (arith, is)

-- the bound is one more than the greatest number of cells
pub beyond-next : BEYOND ≡ suc MAX_LEAVES
beyond-next = refl

-- a count tells whether there are too many
pub beyond-many : (r n : ℕ) → r ≡ capped n → r ≡ BEYOND → MAX_LEAVES < n
beyond-many r n is at = by MAX_LEAVES BEYOND r n beyond-next is at
  where
    by : (m c r n : ℕ) → c ≡ suc m → r ≡ min n c → r ≡ c → m < n
    by m c r n next is at = omega (arith, next, is, at)

pub within-few : (r n : ℕ) → r ≡ capped n → (r ≡ BEYOND → ⊥) → n ≤ MAX_LEAVES
within-few r n is not = elim (cases_lt MAX_LEAVES n) [
  | inl less ↦ absurd (not (by MAX_LEAVES BEYOND r n beyond-next is less))
  | inr le ↦ le
]
  where
    by : (m c r n : ℕ) → c ≡ suc m → r ≡ min n c → m < n → r ≡ c
    by m c r n next is less = omega (arith, next, is, less)
