-- Some element of a list; and names that stand behind one of the same key.
use Rattle.std.specs.Prelude.{◌≡◌, ◌⊎◌, ℕ, List, [], ◌∷◌, ◌++◌}
use Rattle.pv_place.specs.declared.place.Place.{Place}
use Rattle.pv_tree.specs.Tree.{PlacedName}

abbrev pub HasSome : {X : Type 0} → (X → Type 0) → List X → Type 0
HasSome P [] = ⊥
HasSome P (x ∷ xs) = P x ⊎ HasSome P xs

abbrev pub Has : {X : Type 0} → List X → X → Type 0
Has xs x = HasSome (λ y. y ≡ x) xs

-- one of the names at this place has a key of those before it
abbrev pub IsLaterBehind : List (List ℕ) → List PlacedName → Place → Type 0
IsLaterBehind keys [] at = ⊥
IsLaterBehind keys (n ∷ more) at = (Has keys n.0.key × (n.1 ≡ at)) ⊎ IsLaterBehind (keys ++ n.0.key ∷ []) more at
