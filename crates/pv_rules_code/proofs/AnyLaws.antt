-- Some element of two lists, of lists behind one another, and of an option.
use Rattle.std.proofs.Common.{inl, inr, List, [], ◌∷◌, ◌++◌, Option, Some, None}
use Rattle.std.specs.Prelude.{◌⊎◌, Any, flat_map, option_to_list, option_and_then}
use Rattle.pv_place.specs.declared.place.Place.{Place}
use Rattle.pv_rules_expr.specs.Members.{HasSome}
use Rattle.pv_rules_expr.specs.Nearest.{IsNearest}
use Rattle.pv_rules_expr.specs.Looks.{nearer_of}
use Rattle.pv_rules_expr.proofs.ForCallers.{has_front, has_behind, has_either}
use Rattle.pv_rules_expr.proofs.ForCallers.{any_has, has_any}
use Rattle.pv_rules_expr.proofs.ForCallers.{nearest_same, nearest_both}

pub any_append : {X : Type 0} (P : X → Type 0) (xs ys : List X) → Any P xs ⊎ Any P ys → Any P (xs ++ ys)
any_append P xs ys (inl a) = has_any P (xs ++ ys) (has_front P xs ys (any_has P xs a))
any_append P xs ys (inr a) = has_any P (xs ++ ys) (has_behind P xs ys (any_has P ys a))

pub any_of_append : {X : Type 0} (P : X → Type 0) (xs ys : List X) → Any P (xs ++ ys) → Any P xs ⊎ Any P ys
any_of_append P xs ys a = elim (has_either P xs ys (any_has P (xs ++ ys) a)) [ inl h ↦ inl (has_any P xs h) | inr h ↦ inr (has_any P ys h) ]

has_flat : {X Y : Type 0} (P : Y → Type 0) (f : X → List Y) (xs : List X) → HasSome (λ x. Any P (f x)) xs → HasSome P (flat_map f xs)
has_flat P f [] h = h
has_flat P f (x ∷ xs) (inl a) = has_front P (f x) (flat_map f xs) (any_has P (f x) a)
has_flat P f (x ∷ xs) (inr h) = has_behind P (f x) (flat_map f xs) (has_flat P f xs h)

has_of_flat : {X Y : Type 0} (P : Y → Type 0) (f : X → List Y) (xs : List X) → HasSome P (flat_map f xs) → HasSome (λ x. Any P (f x)) xs
has_of_flat P f [] h = h
has_of_flat P f (x ∷ xs) h = elim (has_either P (f x) (flat_map f xs) h) [ inl g ↦ inl (has_any P (f x) g) | inr g ↦ inr (has_of_flat P f xs g) ]

pub any_flat : {X Y : Type 0} (P : Y → Type 0) (f : X → List Y) (xs : List X) → Any (λ x. Any P (f x)) xs → Any P (flat_map f xs)
any_flat P f xs a = has_any P (flat_map f xs) (has_flat P f xs (any_has (λ x. Any P (f x)) xs a))

pub any_of_flat : {X Y : Type 0} (P : Y → Type 0) (f : X → List Y) (xs : List X) → Any P (flat_map f xs) → Any (λ x. Any P (f x)) xs
any_of_flat P f xs a = has_any (λ x. Any P (f x)) xs (has_of_flat P f xs (any_has P (flat_map f xs) a))

has_map : {X : Type 0} (P Q : X → Type 0) → ((x : X) → P x → Q x) → (xs : List X) → HasSome P xs → HasSome Q xs
has_map P Q to [] h = h
has_map P Q to (x ∷ xs) (inl p) = inl (to x p)
has_map P Q to (x ∷ xs) (inr h) = inr (has_map P Q to xs h)

pub any_map : {X : Type 0} (P Q : X → Type 0) → ((x : X) → P x → Q x) → (xs : List X) → Any P xs → Any Q xs
any_map P Q to xs a = has_any Q xs (has_map P Q to xs (any_has P xs a))

has_never : {X : Type 0} (P : X → Type 0) → ((x : X) → P x → ⊥) → (xs : List X) → HasSome P xs → ⊥
has_never P never [] h = h
has_never P never (x ∷ xs) (inl p) = never x p
has_never P never (x ∷ xs) (inr h) = has_never P never xs h

pub any_never : {X : Type 0} (P : X → Type 0) → ((x : X) → P x → ⊥) → (xs : List X) → Any P xs → ⊥
any_never P never xs a = has_never P never xs (any_has P xs a)

pub any_either : {X : Type 0} (P Q : X → Type 0) (xs : List X) → Any (λ x. P x ⊎ Q x) xs → Any P xs ⊎ Any Q xs
any_either {X = X} P Q xs a = elim (walked xs (any_has (λ x. P x ⊎ Q x) xs a)) [ inl h ↦ inl (has_any P xs h) | inr h ↦ inr (has_any Q xs h) ]
  where
    walked : (ys : List X) → HasSome (λ x. P x ⊎ Q x) ys → HasSome P ys ⊎ HasSome Q ys
    walked [] h = absurd h
    walked (y ∷ ys) (inl (inl p)) = inl (inl p)
    walked (y ∷ ys) (inl (inr q)) = inr (inl q)
    walked (y ∷ ys) (inr h) = elim (walked ys h) [ inl g ↦ inl (inr g) | inr g ↦ inr (inr g) ]

-- of an option

pub of_option_any : {X : Type 0} (Q : X → Place → Type 0) (f : X → Option Place) → ((x : X) → IsNearest (Q x) (f x)) → (o : Option X)
    → IsNearest (λ at. Any (λ x. Q x at) (option_to_list o)) (option_and_then f o)
of_option_any Q f one None = λ at a. absurd (any_has (λ x. Q x at) [] a)
of_option_any Q f one (Some x) =
    nearest_same (Q x) (λ at. Any (λ y. Q y at) (x ∷ [])) (f x) (λ at q. has_any (λ y. Q y at) (x ∷ []) (inl q))
    (λ at a. elim (any_has (λ y. Q y at) (x ∷ []) a) [ inl q ↦ q | inr b ↦ absurd b ]) (one x)

-- two rules on the elements of a list as one, and the same at each of them
pub join_any : {X : Type 0} (P Q : X → Place → Type 0) (xs : List X) (x y : Option Place) → IsNearest (λ at. Any (λ b. P b at) xs) x
    → IsNearest (λ at. Any (λ b. Q b at) xs) y → IsNearest (λ at. Any (λ b. P b at ⊎ Q b at) xs) (nearer_of x y)
join_any P Q xs x y hx hy =
    nearest_same (λ at. Any (λ b. P b at) xs ⊎ Any (λ b. Q b at) xs) (λ at. Any (λ b. P b at ⊎ Q b at) xs) (nearer_of x y)
    (λ at e. elim e [
      | inl a ↦ any_map (λ b. P b at) (λ b. P b at ⊎ Q b at) (λ b p. inl p) xs a
      | inr a ↦ any_map (λ b. Q b at) (λ b. P b at ⊎ Q b at) (λ b q. inr q) xs a
    ])
    (λ at a. any_either (λ b. P b at) (λ b. Q b at) xs a)
    (nearest_both (λ at. Any (λ b. P b at) xs) (λ at. Any (λ b. Q b at) xs) x y hx hy)

pub same_any : {X : Type 0} (P Q : X → Place → Type 0) (xs : List X) (o : Option Place) → ((b : X) (at : Place) → P b at → Q b at)
    → ((b : X) (at : Place) → Q b at → P b at) → IsNearest (λ at. Any (λ b. P b at) xs) o → IsNearest (λ at. Any (λ b. Q b at) xs) o
same_any P Q xs o to from h =
    nearest_same (λ at. Any (λ b. P b at) xs) (λ at. Any (λ b. Q b at) xs) o
    (λ at a. any_map (λ b. P b at) (λ b. Q b at) (λ b p. to b at p) xs a) (λ at a. any_map (λ b. Q b at) (λ b. P b at) (λ b q. from b at q) xs a) h
