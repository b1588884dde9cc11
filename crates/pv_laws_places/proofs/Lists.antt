-- What holds of each element of a list, and of one of them.
use Rattle.std.proofs.Common.{◌≡◌, ℕ, zero, suc, ◌<◌, List, [], ◌∷◌, ◌++◌, length, map, refl, subst, arith}
use Rattle.std.specs.Prelude.{slice_index_or, Any, Contains, flat_map}
use Rattle.std.specs.List.{AllByRecursion}

pub each-append : {X : Type 0} (P : X → Type 0) (xs ys : List X) → AllByRecursion P xs → AllByRecursion P ys → AllByRecursion P (xs ++ ys)
each-append P [] ys a b = b
each-append P (x ∷ xs) ys a b = (a.0, each-append P xs ys a.1 b)

pub each-front : {X : Type 0} (P : X → Type 0) (xs ys : List X) → AllByRecursion P (xs ++ ys) → AllByRecursion P xs
each-front P [] ys a = tt
each-front P (x ∷ xs) ys a = (a.0, each-front P xs ys a.1)

pub each-behind : {X : Type 0} (P : X → Type 0) (xs ys : List X) → AllByRecursion P (xs ++ ys) → AllByRecursion P ys
each-behind P [] ys a = a
each-behind P (x ∷ xs) ys a = each-behind P xs ys a.1

pub each-map : {X Y : Type 0} (P : X → Type 0) (Q : Y → Type 0) (g : X → Y) → ((x : X) → P x → Q (g x)) → (xs : List X) → AllByRecursion P xs
    → AllByRecursion Q (map g xs)
each-map P Q g f [] a = tt
each-map P Q g f (x ∷ xs) a = (f x a.0, each-map P Q g f xs a.1)

pub each-flat_map : {X Y : Type 0} (P : X → Type 0) (Q : Y → Type 0) (g : X → List Y) → ((x : X) → P x → AllByRecursion Q (g x))
    → (xs : List X) → AllByRecursion P xs → AllByRecursion Q (flat_map g xs)
each-flat_map P Q g f [] a = tt
each-flat_map P Q g f (x ∷ xs) a = each-append Q (g x) (flat_map g xs) (f x a.0) (each-flat_map P Q g f xs a.1)

-- an element of the list is so
pub each-at : {X : Type 0} (P : X → Type 0) (xs : List X) → AllByRecursion P xs → (k : ℕ) (x : X) → k < length xs
    → slice_index_or xs k x ≡ x → P x
each-at P [] a k x lt e = absurd (omega (arith, lt))
each-at P (y ∷ ys) a zero x lt e = subst P e a.0
each-at P (y ∷ ys) a (suc k) x lt e = each-at P ys a.1 k x (omega (arith, lt)) e

pub each-contained : {X : Type 0} (P : X → Type 0) (xs : List X) (x : X) → AllByRecursion P xs → Contains xs x → P x
each-contained P xs x a c = each-at P xs a c.0 x c.1 c.2

-- one of those that are so is so besides
pub met : {X C : Type 0} (P Q : X → Type 0) (xs : List X) → AllByRecursion P xs → Any Q xs → ((x : X) → P x → Q x → C) → C
met P Q xs a (k, x, lt, e, q) f = f x (each-at P xs a k x lt e) q

-- one of the first is one of all, and so is one of the others
pub any-here : {X : Type 0} (Q : X → Type 0) (x : X) (xs : List X) → Q x → Any Q (x ∷ xs)
any-here Q x xs q = (zero, x, omega arith, refl, q)

pub any-later : {X : Type 0} (Q : X → Type 0) (x : X) (xs : List X) → Any Q xs → Any Q (x ∷ xs)
any-later Q x xs (k, y, lt, e, q) = (suc k, y, omega (arith, lt), e, q)
