-- Sums over lists, and the sum over all pairs of two lists.
use Rattle.std.proofs.Common.{◌≡◌, ℕ, ◌+◌, List, [], ◌∷◌, ◌++◌, map, filter, Bool, true, false, cond, refl, sym, ap, ◌∙◌, arith}
use Rattle.pv_laws_sizes.specs.Copies.{sum_of}

shuffled : (a b c d : ℕ) → (a + b) + (c + d) ≡ (a + c) + (b + d)
shuffled a b c d = omega arith

joined : (a b c : ℕ) → a + (b + c) ≡ (a + b) + c
joined a b c = omega arith

nothing_more : (a b : ℕ) → a ≡ b → 0 + a ≡ b
nothing_more a b e = omega (arith, e)

pub sum_both : {X : Type 0} (f g : X → ℕ) (xs : List X) → sum_of (λ x. f x + g x) xs ≡ sum_of f xs + sum_of g xs
sum_both f g [] = refl
sum_both f g (x ∷ xs) =
    ap (λ n. (f x + g x) + n) (sum_both f g xs) ∙ shuffled (f x) (g x) (sum_of f xs) (sum_of g xs)

sum_none : {X : Type 0} (xs : List X) → sum_of (λ x. 0) xs ≡ 0
sum_none [] = refl
sum_none (x ∷ xs) = nothing_more (sum_of (λ y. 0) xs) 0 (sum_none xs)

-- by the first list and then by the second, or the other way round
pub sum_swap : {X Y : Type 0} (w : X → Y → ℕ) (xs : List X) (ys : List Y)
    → sum_of (λ x. sum_of (w x) ys) xs ≡ sum_of (λ y. sum_of (λ x. w x y) xs) ys
sum_swap w [] ys = sym (sum_none ys)
sum_swap w (x ∷ xs) ys =
    ap (λ n. sum_of (w x) ys + n) (sum_swap w xs ys) ∙ sym (sum_both (w x) (λ y. sum_of (λ z. w z y) xs) ys)

pub sum_each : {X : Type 0} (f g : X → ℕ) (xs : List X) → ((x : X) → f x ≡ g x) → sum_of f xs ≡ sum_of g xs
sum_each f g [] same = refl
sum_each f g (x ∷ xs) same = ap (λ n. n + sum_of f xs) (same x) ∙ ap (λ n. g x + n) (sum_each f g xs same)

pub sum_append : {X : Type 0} (f : X → ℕ) (xs ys : List X) → sum_of f (xs ++ ys) ≡ sum_of f xs + sum_of f ys
sum_append f [] ys = sym (nothing_more (sum_of f ys) (sum_of f ys) refl)
sum_append f (x ∷ xs) ys = ap (λ n. f x + n) (sum_append f xs ys) ∙ joined (f x) (sum_of f xs) (sum_of f ys)

pub sum_map : {X Y : Type 0} (f : Y → ℕ) (g : X → Y) (xs : List X) → sum_of f (map g xs) ≡ sum_of (λ x. f (g x)) xs
sum_map f g [] = refl
sum_map f g (x ∷ xs) = ap (λ n. f (g x) + n) (sum_map f g xs)

pub sum_filter : {X : Type 0} (f : X → ℕ) (t : X → Bool) (xs : List X) → sum_of f (filter t xs) ≡ sum_of (λ x. cond (t x) (f x) 0) xs
sum_filter f t [] = refl
sum_filter f t (x ∷ xs) = front (t x) ∙ ap (λ n. cond (t x) (f x) 0 + n) (sum_filter f t xs)
  where
    front : (b : Bool) → sum_of f (cond b (x ∷ filter t xs) (filter t xs)) ≡ cond b (f x) 0 + sum_of f (filter t xs)
    front true = refl
    front false = sym (nothing_more (sum_of f (filter t xs)) (sum_of f (filter t xs)) refl)
