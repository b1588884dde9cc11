-- Some element of lists and options, and the nearest place over them.
use Rattle.std.proofs.Common.{inl, inr, List, [], ◌∷◌, Option, Some, None}
use Rattle.std.specs.Prelude.{Any, option_to_list, option_and_then}
use Rattle.pv_place.specs.declared.place.Place.{Place}
use Rattle.pv_rules_expr.specs.Members.{HasSome}
use Rattle.pv_rules_expr.specs.Nearest.{IsNearest}
use Rattle.pv_rules_expr.proofs.ForCallers.{any_has, has_any, nearest_same}

-- of an option
pub of_option : {X : Type 0} (Q : X → Place → Type 0) (f : X → Option Place) → ((x : X) → IsNearest (Q x) (f x)) → (o : Option X)
    → IsNearest (λ at. Any (λ x. Q x at) (option_to_list o)) (option_and_then f o)
of_option Q f one None = λ at a. absurd (any_has (λ x. Q x at) [] a)
of_option Q f one (Some x) =
    nearest_same (Q x) (λ at. Any (λ y. Q y at) (x ∷ [])) (f x) (λ at q. has_any (λ y. Q y at) (x ∷ []) (inl q))
    (λ at a. elim (any_has (λ y. Q y at) (x ∷ []) a) [ inl q ↦ q | inr b ↦ absurd b ]) (one x)

-- the same at each element
pub some_map : {X : Type 0} (P Q : X → Type 0) → ((x : X) → P x → Q x) → (xs : List X) → HasSome P xs → HasSome Q xs
some_map P Q to [] h = h
some_map P Q to (x ∷ xs) (inl p) = inl (to x p)
some_map P Q to (x ∷ xs) (inr h) = inr (some_map P Q to xs h)

pub any_map : {X : Type 0} (P Q : X → Type 0) → ((x : X) → P x → Q x) → (xs : List X) → Any P xs → Any Q xs
any_map P Q to xs a = has_any Q xs (some_map P Q to xs (any_has P xs a))
