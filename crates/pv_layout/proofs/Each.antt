-- Lists of which each element has a number, from a first one on: what is so of each by its number.
use Rattle.std.proofs.Common.{◌≡◌, ℕ, zero, suc, ◌+◌, List, [], ◌∷◌, ◌++◌, length, slice_get, Some, refl, subst, arith}
use Rattle.std.proofs.lemmas.Option.{same_Some, none-some}

abbrev pub EachFrom : {X : Type 0} → (ℕ → X → Type 0) → ℕ → List X → Type 0
EachFrom P n [] = Unit {0}
EachFrom P n (x ∷ xs) = P n x × EachFrom P (suc n) xs

pub each_append : {X : Type 0} (P : ℕ → X → Type 0) (n m : ℕ) (xs ys : List X) → length xs ≡ m → EachFrom P n xs → EachFrom P (n + m) ys
    → EachFrom P n (xs ++ ys)
each_append P n m [] ys e h g = subst (λ (k : ℕ). EachFrom P k ys) (omega (arith, e)) g
each_append P n m (x ∷ xs) ys e h g = (
  h.0,
  each_append P (suc n) (length xs) xs ys refl h.1 (subst (λ (k : ℕ). EachFrom P k ys) (omega (arith, e)) g),
)

pub each_map : {X : Type 0} (P Q : ℕ → X → Type 0) (n : ℕ) (xs : List X) → ((m : ℕ) (x : X) → P m x → Q m x) → EachFrom P n xs
    → EachFrom Q n xs
each_map P Q n [] go h = tt
each_map P Q n (x ∷ xs) go h = (go n x h.0, each_map P Q (suc n) xs go h.1)

-- of what is so of each in two ways
pub each_with : {X : Type 0} (P Q R : ℕ → X → Type 0) (n : ℕ) (xs : List X) → ((m : ℕ) (x : X) → P m x → Q m x → R m x)
    → EachFrom P n xs → EachFrom Q n xs → EachFrom R n xs
each_with P Q R n [] go h g = tt
each_with P Q R n (x ∷ xs) go h g = (go n x h.0 g.0, each_with P Q R (suc n) xs go h.1 g.1)

pub each_index : {X : Type 0} (P : ℕ → X → Type 0) (n : ℕ) (xs : List X) (i : ℕ) (x : X) → EachFrom P n xs → slice_get xs i ≡ Some x
    → P (n + i) x
each_index P n [] i x h e = absurd (none-some x e)
each_index {X} P n (y ∷ xs) zero x h e =
    subst (λ (k : ℕ). P k x) (omega arith) (subst (λ (z : X). P n z) (same_Some y x e) h.0)
each_index P n (y ∷ xs) (suc i) x h e = subst (λ (k : ℕ). P k x) (omega arith) (each_index P (suc n) xs i x h.1 e)

pub each_by : {X : Type 0} (P : ℕ → X → Type 0) (n : ℕ) (xs : List X) → ((i : ℕ) (x : X) → slice_get xs i ≡ Some x → P (n + i) x)
    → EachFrom P n xs
each_by P n [] go = tt
each_by P n (x ∷ xs) go = (
  subst (λ (k : ℕ). P k x) (omega arith) (go 0 x refl),
  each_by P (suc n) xs (λ i y here. subst (λ (k : ℕ). P k y) (omega arith) (go (suc i) y here)),
)
