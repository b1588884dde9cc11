-- Sums of those before each number.
use Rattle.std.proofs.Common.{◌≡◌, ℕ, zero, suc, ◌+◌, ◌<◌, ◌≤◌, ◌⊎◌, inl, inr, [], ◌∷◌, length, length-append, refl, sym, subst, ap, ◌∙◌, arith}
use Rattle.std.specs.Prelude.{slice_index_or}
use Rattle.std.proofs.Math.Seq.{get_or-append_seam}
use Rattle.std.proofs.lemmas.Bool.{cases_lt}
use Rattle.std.proofs.lemmas.List.{get_or_append_left}
use Rattle.pv_call_tables.specs.Wanted.{MOST}
use Rattle.pv_call_tables.specs.Widths.{summed, sums_below}

next : (n : ℕ) → n + 1 ≡ suc n
next n = omega arith

sums_long : (f : ℕ → ℕ) (n : ℕ) → length (sums_below f n) ≡ suc n
sums_long f zero = refl
sums_long f (suc n) =
    length-append (sums_below f n) ((summed f n + f n) ∷ []) ∙ (ap (λ (k : ℕ). k + 1) (sums_long f n) ∙ next (suc n))

-- ---- what they are

pub sums_are : (f : ℕ → ℕ) (n l : ℕ) → l ≤ n → slice_index_or (sums_below f n) l 0 ≡ summed f l
sums_are f zero zero le = refl
sums_are f zero (suc l) le = absurd (omega (arith, le))
sums_are f (suc n) l le = by (cases_lt l (suc n)) (λ lt. sums_are f n l lt)
  where
    by : (l < suc n) ⊎ (suc n ≤ l) → (l ≤ n → slice_index_or (sums_below f n) l 0 ≡ summed f l)
        → slice_index_or (sums_below f (suc n)) l 0 ≡ summed f l
    by (inl lt) go =
        let long = sums_long f n in
        get_or_append_left (sums_below f n) ((summed f n + f n) ∷ []) 0 l (omega (arith, lt, long)) ∙ go (omega (arith, lt))
    by (inr high) go =
        let e : l ≡ suc n = omega (arith, le, high) in
        ap (λ (k : ℕ). slice_index_or (sums_below f (suc n)) k 0) (e ∙ sym (sums_long f n))
        ∙ get_or-append_seam (sums_below f n) (summed f n + f n) [] 0
        ∙ ap (λ (k : ℕ). summed f k) (sym e)

-- of functions that agree below a number
pub summed_alike : (f g : ℕ → ℕ) (n : ℕ) → ((l : ℕ) → l < n → f l ≡ g l) → summed f n ≡ summed g n
summed_alike f g zero same = refl
summed_alike f g (suc n) same =
    both (summed_alike f g n (λ l lt. same l (omega (arith, lt)))) (same n (omega arith))
  where
    both : {a b c d : ℕ} → a ≡ b → c ≡ d → a + c ≡ b + d
    both {a} {b} {c} {d} e h = omega (arith, e, h)

-- ---- a part is no more than the whole

pub sum_within : (f : ℕ → ℕ) (n l : ℕ) → l < n → summed f l + f l ≤ summed f n
sum_within f zero l lt = absurd (omega (arith, lt))
sum_within f (suc n) l lt = by (cases_lt l n) (λ low. sum_within f n l low)
  where
    same_le : (k : ℕ) → k ≤ k
    same_le k = omega arith

    by : (l < n) ⊎ (n ≤ l) → (l < n → summed f l + f l ≤ summed f n) → summed f l + f l ≤ summed f (suc n)
    by (inl low) go = let h = go low in omega (arith, h)
    by (inr high) go =
        let e : l ≡ n = omega (arith, lt, high) in
        subst (λ (k : ℕ). summed f k + f k ≤ summed f n + f n) (sym e) (same_le (summed f n + f n))

-- of a loop over them, with a total so far
pub sum_short : (f : ℕ → ℕ) (n l total part : ℕ) → l < n → total ≡ summed f l → part ≡ f l → summed f n ≤ MOST → total + part ≤ MOST
sum_short f n l total part lt e h short = let le = sum_within f n l lt in omega (arith, le, e, h, short)

pub part_short : (f : ℕ → ℕ) (n l : ℕ) → l < n → summed f n ≤ MOST → f l ≤ MOST
part_short f n l lt short = let le = sum_within f n l lt in omega (arith, le, short)
