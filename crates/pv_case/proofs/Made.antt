-- What is made of the items of a list, or of the members of an object, one by one.
use Rattle.std.proofs.Common.{◌≡◌, ℕ, zero, suc, ◌+◌, ◌<◌, List, [], ◌∷◌, ◌++◌, map, take, length, get_or, Bool, ◌||◌, Option, None, refl, sym, ap, ◌∙◌, arith, String, Bor}
use Rattle.std.specs.Iterator.{Yields}
use Rattle.std.specs.Map.Iter.{TakesFirst, deref_pair}
use Rattle.std.specs.declared.alloc.Global.{Global}
use Rattle.std.specs.List.{filter_map, list_any}
use Rattle.std.proofs.lemmas.List.{append-nil}
use Rattle.std.proofs.lemmas.List.Elements.{filter_map-append}
use Rattle.std.proofs.lemmas.Map.Iter.{rest_all, rest_so_far}
use Rattle.serde_json.specs.Data.{Data}
use Rattle.serde_json.specs.declared.value.Value.{Value}
use Rattle.pv_case.specs.Viewed.{pair_of}
use Rattle.pv_case.proofs.OverMaps.{asked}

abbrev Entry : Type 0
Entry = String Global × Value

abbrev Item : Type 0
Item = Bor (String Global) × Bor Value

map-append : {A B : Type 0} (f : A → B) (xs : List A) (x : A) → map f (xs ++ x ∷ []) ≡ map f xs ++ f x ∷ []
map-append f [] x = refl
map-append f (y ∷ ys) x = ap (λ l. f y ∷ l) (map-append f ys x)

taken_next : {B C D : Type 0} (h : D → C) (g : B → D) (all : List B) (i : ℕ) (y : B) → i < length all → y ≡ get_or all i y
    → map h (map g (take (suc i) all)) ≡ map h (map g (take i all)) ++ h (g y) ∷ []
taken_next h g [] i y lt is = absurd (omega (arith, lt))
taken_next h g (z ∷ zs) zero y lt is = ap (λ w. h (g w) ∷ []) (sym is)
taken_next h g (z ∷ zs) (suc i) y lt is = ap (λ l. h (g z) ∷ l) (taken_next h g zs i y (omega (arith, lt)) is)

-- one item more
pub made_more : {A B C D : Type 0} (f : A → C) (h : D → C) (g : B → D) (xs : List A) (x : A) (all : List B) (i : ℕ) (y : B)
    → map f xs ≡ map h (map g (take i all)) → i < length all → y ≡ get_or all i y → f x ≡ h (g y)
    → map f (xs ++ x ∷ []) ≡ map h (map g (take (i + 1) all))
made_more f h g xs x all i y so_far lt is one =
    let next : suc i ≡ i + 1 = omega arith in
    map-append f xs x ∙ ap (λ l. l ++ f x ∷ []) so_far ∙ ap (λ w. map h (map g (take i all)) ++ w ∷ []) one
    ∙ sym (taken_next h g all i y lt is) ∙ ap (λ n. map h (map g (take n all))) next

pushed_asked : (xs : List Item) (x : Item) → asked (xs ++ x ∷ []) ≡ asked xs ++ pair_of (deref_pair x) ∷ []
pushed_asked [] x = refl
pushed_asked (y ∷ ys) x = ap (λ l. pair_of (deref_pair y) ∷ l) (pushed_asked ys x)

-- one member more
pub made_next : {A C : Type 0} (f : A → C) (h : List ℕ × Data → C) (xs : List A) (x : A) (ys : List Item) (y : Item)
    → map f xs ≡ map h (asked ys) → f x ≡ h (pair_of (deref_pair y)) → map f (xs ++ x ∷ []) ≡ map h (asked (ys ++ y ∷ []))
made_next f h xs x ys y so_far one =
    map-append f xs x ∙ ap (λ l. l ++ f x ∷ []) so_far ∙ ap (λ w. map h (asked ys) ++ w ∷ []) one
    ∙ sym (ap (map h) (pushed_asked ys y) ∙ map-append h (asked ys) (pair_of (deref_pair y)))

-- all members
pub made_all : {A C : Type 0} (f : A → C) (h : List ℕ × Data → C) (made : List A) (all : List Entry) (xs : List Item) (s t u : List Entry)
    (next : Option Item) → s ≡ all → Yields (TakesFirst deref_pair) s xs t → next ≡ None → TakesFirst deref_pair t next u
    → map f made ≡ map h (asked xs) → map f made ≡ map h (map pair_of all)
made_all f h made all xs s t u next start y is step so_far =
    so_far ∙ ap (λ l. map h (map pair_of l))
    (sym (sym start ∙ rest_so_far deref_pair xs s t y ∙ ap (λ l. map deref_pair xs ++ l) (rest_all deref_pair t u next is step) ∙ append-nil (map deref_pair xs)))

-- what three things have, where each may have something
pub three_made : {A B : Type 0} (f : A → Option B) (a b c : A)
    → (filter_map f (a ∷ []) ++ filter_map f (b ∷ [])) ++ filter_map f (c ∷ []) ≡ filter_map f (a ∷ b ∷ c ∷ [])
three_made f a b c =
    ap (λ l. l ++ filter_map f (c ∷ [])) (sym (filter_map-append f (a ∷ []) (b ∷ []))) ∙ sym (filter_map-append f (a ∷ b ∷ []) (c ∷ []))

-- a test of what is made of the things
pub any_made : {A B : Type 0} (p : B → Bool) (f : A → B) (xs : List A) → list_any (λ x. p (f x)) xs ≡ list_any p (map f xs)
any_made p f [] = refl
any_made p f (x ∷ xs) = ap (λ b. p (f x) || b) (any_made p f xs)
