-- Lists of which one element is put in the place of another.
use Rattle.std.proofs.Common.{◌≡◌, ℕ, zero, suc, ◌<◌, List, [], ◌∷◌, length, refl, ap, arith}
use Rattle.std.specs.Prelude.{slice_index_or, slice_set, replicate}

pub put_length : {X : Type 0} (n : ℕ) (xs : List X) (x : X) → length (slice_set xs n x) ≡ length xs
put_length n [] x = refl
put_length zero (y ∷ xs) x = refl
put_length (suc n) (y ∷ xs) x = ap suc (put_length n xs x)

pub at_put : {X : Type 0} (n : ℕ) (xs : List X) (x d : X) → n < length xs → slice_index_or (slice_set xs n x) n d ≡ x
at_put n [] x d lt = absurd (omega (arith, lt))
at_put zero (y ∷ xs) x d lt = refl
at_put (suc n) (y ∷ xs) x d lt = at_put n xs x d (omega (arith, lt))

pub at_other : {X : Type 0} (n m : ℕ) (xs : List X) (x d : X) → (n ≡ m → ⊥) → slice_index_or (slice_set xs n x) m d ≡ slice_index_or xs m d
at_other n m [] x d differ = refl
at_other zero zero (y ∷ xs) x d differ = absurd (differ refl)
at_other zero (suc m) (y ∷ xs) x d differ = refl
at_other (suc n) zero (y ∷ xs) x d differ = refl
at_other (suc n) (suc m) (y ∷ xs) x d differ = at_other n m xs x d (λ e. differ (ap suc e))

pub zero_at : (l b : ℕ) → ◌≡◌ {A = ℕ} (slice_index_or (replicate b 0) l 0) 0
zero_at l zero = refl
zero_at zero (suc b) = refl
zero_at (suc l) (suc b) = zero_at l b
