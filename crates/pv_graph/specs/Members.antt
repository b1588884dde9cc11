-- Some element of a list.
use Rattle.std.specs.Prelude.{◌≡◌, ◌⊎◌, List, [], ◌∷◌}

abbrev pub HasSome : {X : Type 0} → (X → Type 0) → List X → Type 0
HasSome P [] = ⊥
HasSome P (x ∷ xs) = P x ⊎ HasSome P xs

abbrev pub Has : {X : Type 0} → List X → X → Type 0
Has xs x = HasSome (λ y. y ≡ x) xs
