-- Some element of lists behind one another.
use Rattle.std.proofs.Common.{List, [], ◌∷◌, ◌++◌, inl, inr}
use Rattle.std.specs.Prelude.{◌⊎◌}
use Rattle.pv_graph.specs.Members.{HasSome}

pub has_front : {X : Type 0} (P : X → Type 0) (xs ys : List X) → HasSome P xs → HasSome P (xs ++ ys)
has_front P [] ys h = absurd h
has_front P (x ∷ xs) ys (inl p) = inl p
has_front P (x ∷ xs) ys (inr h) = inr (has_front P xs ys h)

pub has_behind : {X : Type 0} (P : X → Type 0) (xs ys : List X) → HasSome P ys → HasSome P (xs ++ ys)
has_behind P [] ys h = h
has_behind P (x ∷ xs) ys h = inr (has_behind P xs ys h)

pub has_either : {X : Type 0} (P : X → Type 0) (xs ys : List X) → HasSome P (xs ++ ys) → HasSome P xs ⊎ HasSome P ys
has_either P [] ys h = inr h
has_either P (x ∷ xs) ys (inl p) = inl (inl p)
has_either P (x ∷ xs) ys (inr h) = elim (has_either P xs ys h) [ inl a ↦ inl (inr a) | inr b ↦ inr b ]
