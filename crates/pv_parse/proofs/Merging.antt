-- Places by depth, merged and cut; values taken off a stack one by one.
use Rattle.std.proofs.Common.{◌≡◌, ℕ, zero, suc, ◌-◌, ◌/◌, ◌%◌, ◌==◌, ◌<◌, ◌≤◌, List, [], ◌∷◌, ◌++◌, length, take, drop, Option, Some, None, refl, ap, ◌∙◌, sym, arith}
use Rattle.std.specs.List.{slice_get}
use Rattle.std.specs.Option.{option_or}
use Rattle.std.proofs.lemmas.Option.{same_Some}
use Rattle.std.proofs.lemmas.List.{take_rest}
use Rattle.pv_place.specs.declared.place.Place.{Place}
use Rattle.pv_parse.specs.Shades.{Shade, merged, over, gathered, left_below, shade_on}

pub merged-nil : (xs : List Place) → merged xs [] ≡ xs
merged-nil [] = refl
merged-nil (x ∷ xs) = refl

pub merged-assoc : (xs ys zs : List Place) → merged (merged xs ys) zs ≡ merged xs (merged ys zs)
merged-assoc [] ys zs = refl
merged-assoc (x ∷ xs) [] zs = refl
merged-assoc (x ∷ xs) (y ∷ ys) [] = refl
merged-assoc (x ∷ xs) (y ∷ ys) (z ∷ zs) = ap (λ l. x ∷ l) (merged-assoc xs ys zs)

pub merged_longer : (xs ys : List Place) → length ys ≤ length xs → merged xs ys ≡ xs
merged_longer [] [] h = refl
merged_longer [] (y ∷ ys) h = absurd (omega (arith, h))
merged_longer (x ∷ xs) [] h = refl
merged_longer (x ∷ xs) (y ∷ ys) h = ap (λ l. x ∷ l) (merged_longer xs ys (omega (arith, h)))

pub merged_shorter : (xs ys : List Place) → length xs < length ys → merged xs ys ≡ xs ++ drop (length xs) ys
merged_shorter [] ys h = refl
merged_shorter (x ∷ xs) [] h = absurd (omega (arith, h))
merged_shorter (x ∷ xs) (y ∷ ys) h = ap (λ l. x ∷ l) (merged_shorter xs ys (omega (arith, h)))

pub merged_cut : (xs ys d : List Place) (n : ℕ) → d ≡ ys → n ≡ length xs → n < length ys → xs ++ take (length d - n) (drop n d) ≡ merged xs ys
merged_cut xs ys d n e f h =
    ap (λ (z : List Place). xs ++ z) (take_rest d n ∙ ap (λ (z : List Place). drop n z) e)
    ∙ ap (λ (k : ℕ). xs ++ drop k ys) f ∙ sym (merged_shorter xs ys (omega (arith, f, h)))

pub get-take : (n d : ℕ) (xs : List Place) → d < n → slice_get (take n xs) d ≡ slice_get xs d
get-take zero d xs h = absurd (omega (arith, h))
get-take (suc n) d [] h = refl
get-take (suc n) zero (x ∷ xs) h = refl
get-take (suc n) (suc d) (x ∷ xs) h = get-take n d xs (omega (arith, h))

pub get-merged : (xs ys : List Place) (d : ℕ) → slice_get (merged xs ys) d ≡ option_or (slice_get xs d) (slice_get ys d)
get-merged [] ys d = refl
get-merged (x ∷ xs) [] zero = refl
get-merged (x ∷ xs) [] (suc d) = or-none (slice_get xs d)
  where
    or-none : (o : Option Place) → o ≡ option_or o None
    or-none None = refl
    or-none (Some x) = refl
get-merged (x ∷ xs) (y ∷ ys) zero = refl
get-merged (x ∷ xs) (y ∷ ys) (suc d) = get-merged xs ys d

-- ---- values

pub gathered_one : (n drops : ℕ) (one x : Shade) (s t : List Shade) → 0 < n → shade_on s ≡ Some (x, t)
    → gathered n drops one s ≡ gathered (n - 1) (drops / 2) (over (drops % 2 == 0) x one) t
gathered_one zero drops one x s t h e = absurd (omega (arith, h))
gathered_one (suc n) drops one x [] t h e = absurd (cc (e))
gathered_one (suc n) drops one x (y ∷ s) t h e =
    let p : ◌≡◌ {A = Shade × List Shade} (y, s) (x, t) = same_Some (y, s) (x, t) e in
    let m : n ≡ suc n - 1 = omega arith in
    ap (λ (q : Shade × List Shade). gathered n (drops / 2) (over (drops % 2 == 0) q.0 one) q.1) p
    ∙ ap (λ (k : ℕ). gathered k (drops / 2) (over (drops % 2 == 0) x one) t) m

pub gathered_none : (n drops : ℕ) (one : Shade) (s : List Shade) → 0 < n → shade_on s ≡ None → gathered n drops one s ≡ None
gathered_none zero drops one s h e = absurd (omega (arith, h))
gathered_none (suc n) drops one [] h e = refl
gathered_none (suc n) drops one (y ∷ s) h e = absurd (cc (e))

pub gathered_all : (n drops : ℕ) (one : Shade) (s : List Shade) → n ≤ 0 → gathered n drops one s ≡ Some (one, s)
gathered_all zero drops one s h = refl
gathered_all (suc n) drops one s h = absurd (omega (arith, h))

pub left_one : (n : ℕ) (x : Shade) (s t : List Shade) → 0 < n → shade_on s ≡ Some (x, t) → left_below n s ≡ left_below (n - 1) t
left_one zero x s t h e = absurd (omega (arith, h))
left_one (suc n) x [] t h e = absurd (cc (e))
left_one (suc n) x (y ∷ s) t h e =
    let p : ◌≡◌ {A = Shade × List Shade} (y, s) (x, t) = same_Some (y, s) (x, t) e in
    let m : n ≡ suc n - 1 = omega arith in
    ap (λ (q : Shade × List Shade). left_below n q.1) p ∙ ap (λ (k : ℕ). left_below k t) m

pub left_none : (n : ℕ) (s : List Shade) → 0 < n → shade_on s ≡ None → left_below n s ≡ None
left_none zero s h e = absurd (omega (arith, h))
left_none (suc n) [] h e = refl
left_none (suc n) (y ∷ s) h e = absurd (cc (e))

pub left_all : (n : ℕ) (s : List Shade) → n ≤ 0 → left_below n s ≡ Some s
left_all zero s h = refl
left_all (suc n) s h = absurd (omega (arith, h))
