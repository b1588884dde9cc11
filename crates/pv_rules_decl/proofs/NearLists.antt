-- The nearest place, as a loop looks at elements each of which stands for a list.
use Rattle.std.proofs.Common.{◌≡◌, ◌<◌, ◌+◌, ℕ, List, [], ◌∷◌, ◌++◌, take, length, get_or, ap, sym, subst, ◌∙◌, add-one, inl, inr}
use Rattle.std.specs.Prelude.{◌⊎◌, Option, flat_map}
use Rattle.std.proofs.Math.Seq.{take-suc}
use Rattle.std.proofs.lemmas.List.{append-nil}
use Rattle.std.proofs.lemmas.Grind.{flat_map-append}
use Rattle.pv_place.specs.declared.place.Place.{Place}
use Rattle.pv_rules_expr.specs.Members.{HasSome}
use Rattle.pv_rules_expr.specs.Nearest.{Nears}
use Rattle.pv_rules_expr.proofs.ForCallers.{has_front, has_behind, has_either, near_same, near_then}

pub taken_list : {X Y : Type 0} (g : X → List Y) (xs : List X) (i : ℕ) (x : X) → i < length xs → x ≡ get_or xs i x
    → flat_map g (take i xs) ++ g x ≡ flat_map g (take (i + 1) xs)
taken_list g xs i x inside is =
    ap (λ y. flat_map g (take i xs) ++ g y) is
    ∙ ap (λ l. flat_map g (take i xs) ++ l) (sym (append-nil (g (get_or xs i x))))
    ∙ sym (flat_map-append g (take i xs) (get_or xs i x ∷ []))
    ∙ ap (flat_map g) (sym (take-suc xs i x inside)) ∙ ap (λ n. flat_map g (take n xs)) (sym (add-one i))

pub near_lists : {X Y : Type 0} (P : Place → Y → Type 0) (g : X → List Y) (xs : List X) (i : ℕ) (x : X) (first old new : Option Place)
    → i < length xs → x ≡ get_or xs i x
    → Nears (λ at. HasSome (P at) (flat_map g (take i xs))) first old → Nears (λ at. HasSome (P at) (g x)) old new
    → Nears (λ at. HasSome (P at) (flat_map g (take (i + 1) xs))) first new
near_lists P g xs i x first old new inside is before here =
    subst (λ l. Nears (λ at. HasSome (P at) l) first new) (taken_list g xs i x inside is)
    (near_same (λ at. HasSome (P at) (flat_map g (take i xs)) ⊎ HasSome (P at) (g x)) (λ at. HasSome (P at) (flat_map g (take i xs) ++ g x)) first new
    (λ at h. elim h [ inl l ↦ has_front (P at) (flat_map g (take i xs)) (g x) l | inr r ↦ has_behind (P at) (flat_map g (take i xs)) (g x) r ])
    (λ at h. has_either (P at) (flat_map g (take i xs)) (g x) h)
    (near_then (λ at. HasSome (P at) (flat_map g (take i xs))) (λ at. HasSome (P at) (g x)) first old new before here))
