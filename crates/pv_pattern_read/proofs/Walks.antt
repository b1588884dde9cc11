-- Walks along a list, by what is left of it.
use Rattle.std.proofs.Common.{◌≡◌, ℕ, suc, ◌<◌, ◌≤◌, List, ◌∷◌, map, length, drop, get_or, Bool, true, false, ◌||◌, sym, ap, ◌∙◌}
use Rattle.std.specs.List.{list_any}
use Rattle.std.proofs.Math.Seq.{drop-cons}
use Rattle.std.proofs.lemmas.List.{drop_all}

item_first : {A : Type 0} (all : List A) (i : ℕ) (x : A) → i < length all → x ≡ get_or all i x → drop i all ≡ x ∷ drop (suc i) all
item_first all i x lt is = drop-cons all i x lt ∙ ap (λ y. y ∷ drop (suc i) all) (sym is)

-- ---- whether one passes a test

module _ {A B : Type 0} (p : B → Bool) (f : A → B) (all : List A) (i : ℕ) where
  pub any_here : (x : A) → i < length all → x ≡ get_or all i x → p (f x) ≡ true → list_any p (map f (drop i all)) ≡ true
  any_here x lt is hit =
      ap (λ l. list_any p (map f l)) (item_first all i x lt is) ∙ ap (λ b. b || list_any p (map f (drop (suc i) all))) hit

  pub any_later : (x : A) → i < length all → x ≡ get_or all i x → p (f x) ≡ false
      → list_any p (map f (drop i all)) ≡ list_any p (map f (drop (suc i) all))
  any_later x lt is other =
      ap (λ l. list_any p (map f l)) (item_first all i x lt is) ∙ ap (λ b. b || list_any p (map f (drop (suc i) all))) other

  pub any_none : length all ≤ i → list_any p (map f (drop i all)) ≡ false
  any_none le = ap (λ l. list_any p (map f l)) (drop_all i all le)
