-- What holds of all elements of lists.
use Rattle.std.proofs.Common.{suc, List, [], ◌∷◌, ◌++◌, Contains, refl, arith}
use Rattle.std.specs.List.{AllByRecursion}

-- of two, one behind the other, and of each
pub all_front : {X : Type 0} (P : X → Type 0) (xs ys : List X) → AllByRecursion P (xs ++ ys) → AllByRecursion P xs
all_front P [] ys a = tt
all_front P (x ∷ xs) ys a = (a.0, all_front P xs ys a.1)

pub all_back : {X : Type 0} (P : X → Type 0) (xs ys : List X) → AllByRecursion P (xs ++ ys) → AllByRecursion P ys
all_back P [] ys a = a
all_back P (x ∷ xs) ys a = all_back P xs ys a.1

pub all_append : {X : Type 0} (P : X → Type 0) (xs ys : List X) → AllByRecursion P xs → AllByRecursion P ys → AllByRecursion P (xs ++ ys)
all_append P [] ys a b = b
all_append P (x ∷ xs) ys a b = (a.0, all_append P xs ys a.1 b)

-- of what a list contains
pub contains_more : {X : Type 0} (x y : X) (xs : List X) → Contains xs y → Contains (x ∷ xs) y
contains_more x y xs (k, lt, e) = (suc k, omega (arith, lt), e)

pub all_of : {X : Type 0} (P : X → Type 0) (xs : List X) → ((x : X) → Contains xs x → P x) → AllByRecursion P xs
all_of P [] f = tt
all_of P (x ∷ xs) f = (f x (0, omega arith, refl), all_of P xs (λ y c. f y (contains_more x y xs c)))

pub all_both : {X : Type 0} (F G H : X → Type 0) (xs : List X) → ((x : X) → F x → G x → H x) → AllByRecursion F xs → AllByRecursion G xs
    → AllByRecursion H xs
all_both F G H [] f a b = tt
all_both F G H (x ∷ xs) f a b = (f x a.0 b.0, all_both F G H xs f a.1 b.1)

pub all_more : {X : Type 0} (F G : X → Type 0) (xs : List X) → ((x : X) → F x → G x) → AllByRecursion F xs → AllByRecursion G xs
all_more F G [] f a = tt
all_more F G (x ∷ xs) f a = (f x a.0, all_more F G xs f a.1)
