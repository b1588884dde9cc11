-- The nearest place over a list is the least at which one of the elements breaks the rule.
use Rattle.std.proofs.Common.{◌≡◌, ℕ, suc, ◌+◌, ◌<◌, inl, inr, refl, sym, ap, subst, ◌∙◌, List, [], ◌∷◌, ◌++◌, map, drop, get_or, length, arith, Option, None}
use Rattle.std.specs.Prelude.{◌⊎◌, Any}
use Rattle.std.proofs.Math.Seq.{drop-cons}
use Rattle.pv_place.specs.declared.place.Place.{Place}
use Rattle.pv_rules_expr.specs.Members.{HasSome}
use Rattle.pv_rules_expr.specs.Nearest.{IsNearest}
use Rattle.pv_rules_expr.specs.Nearest.{nearer_of}
use Rattle.pv_rules_expr.specs.NearestIn.{nearest_in}
use Rattle.pv_rules_expr.proofs.Nearing.{any_has, has_any}
use Rattle.pv_rules_expr.proofs.NearParts.{nearest_same, nearest_both}

pub in_append : {X : Type 0} (f : X → Option Place) (xs ys : List X) (n : Option Place)
    → nearest_in f (xs ++ ys) n ≡ nearest_in f ys (nearest_in f xs n)
in_append f [] ys n = refl
in_append f (x ∷ xs) ys n = in_append f xs ys (nearer_of n (f x))

-- one element more of those that are left
pub next_in : {X Y : Type 0} (f : Y → Option Place) (g : X → Y) (xs : List X) (i j : ℕ) (x : X) (n m total : Option Place) → i < length xs
    → x ≡ get_or xs i x → j ≡ i + 1 → m ≡ nearer_of n (f (g x)) → nearest_in f (map g (drop i xs)) n ≡ total
    → nearest_in f (map g (drop j xs)) m ≡ total
next_in f g xs i j x n m total inside is next looked left =
    let k : j ≡ suc i = omega (arith, next) in
    ap (λ k. nearest_in f (map g (drop k xs)) m) k
    ∙ ap (nearest_in f (map g (drop (suc i) xs))) looked
    ∙ ap (λ l. nearest_in f (map g l) n) (sym (drop-cons xs i x inside ∙ ap (λ y. y ∷ drop (suc i) xs) (sym is)))
    ∙ left

in_all : {X : Type 0} (P : X → Place → Type 0) (f : X → Option Place) → ((x : X) → IsNearest (P x) (f x))
    → (A : Place → Type 0) (xs : List X) (n : Option Place) → IsNearest A n
    → IsNearest (λ at. A at ⊎ HasSome (λ x. P x at) xs) (nearest_in f xs n)
in_all P f one A [] n h =
    nearest_same A (λ at. A at ⊎ ⊥) n (λ at a. inl a) (λ at e. elim e [ inl a ↦ a | inr b ↦ absurd b ]) h
in_all P f one A (x ∷ xs) n h =
    nearest_same (λ at. (A at ⊎ P x at) ⊎ HasSome (λ x. P x at) xs) (λ at. A at ⊎ (P x at ⊎ HasSome (λ x. P x at) xs))
    (nearest_in f (x ∷ xs) n)
    (λ at e. elim e [ inl g ↦ elim g [ inl a ↦ inl a | inr b ↦ inr (inl b) ] | inr b ↦ inr (inr b) ])
    (λ at e. elim e [ inl a ↦ inl (inl a) | inr g ↦ elim g [ inl b ↦ inl (inr b) | inr b ↦ inr b ] ])
    (in_all P f one (λ at. A at ⊎ P x at) xs (nearer_of n (f x)) (nearest_both A (P x) n (f x) h (one x)))

pub in_any : {X : Type 0} (P : X → Place → Type 0) (f : X → Option Place) → ((x : X) → IsNearest (P x) (f x)) → (xs : List X)
    → IsNearest (λ at. Any (λ x. P x at) xs) (nearest_in f xs None)
in_any P f one xs =
    nearest_same (λ at. ⊥ ⊎ HasSome (λ x. P x at) xs) (λ at. Any (λ x. P x at) xs) (nearest_in f xs None)
    (λ at e. elim e [ inl b ↦ absurd b | inr h ↦ has_any (λ x. P x at) xs h ])
    (λ at a. inr (any_has (λ x. P x at) xs a))
    (in_all P f one (λ at. ⊥) xs None (λ at b. b))

-- behind what was found before
pub in_all_any : {X : Type 0} (P : X → Place → Type 0) (f : X → Option Place) → ((x : X) → IsNearest (P x) (f x))
    → (A : Place → Type 0) (xs : List X) (n : Option Place) → IsNearest A n
    → IsNearest (λ at. A at ⊎ Any (λ x. P x at) xs) (nearest_in f xs n)
in_all_any P f one A xs n h =
    nearest_same (λ at. A at ⊎ HasSome (λ x. P x at) xs) (λ at. A at ⊎ Any (λ x. P x at) xs) (nearest_in f xs n)
    (λ at e. elim e [ inl a ↦ inl a | inr b ↦ inr (has_any (λ x. P x at) xs b) ])
    (λ at e. elim e [ inl a ↦ inl a | inr b ↦ inr (any_has (λ x. P x at) xs b) ])
    (in_all P f one A xs n h)

pub nearest_is : (A : Place → Type 0) (o p : Option Place) → o ≡ p → IsNearest A p → IsNearest A o
nearest_is A o p is h = subst (IsNearest A) (sym is) h

pub nearest_never : (A : Place → Type 0) → ((at : Place) → A at → ⊥) → IsNearest A None
nearest_never A never = never
