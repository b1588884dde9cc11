-- Walks along a list, by what is left of it.
use Rattle.std.proofs.Common.{◌≡◌, ℕ, suc, ◌+◌, ◌<◌, ◌≤◌, List, [], ◌∷◌, ◌++◌, map, length, drop, get_or, Bool, true, false, cond, Option, Some, None, refl, sym, ap, ◌∙◌}
use Rattle.std.specs.Prelude.{find}
use Rattle.std.specs.List.{position_from}
use Rattle.std.proofs.Math.Seq.{drop-cons}
use Rattle.std.proofs.lemmas.List.{drop_all}

-- the item of a loop is the first of what is left
item_first : {A : Type 0} (all : List A) (i : ℕ) (x : A) → i < length all → x ≡ get_or all i x → drop i all ≡ x ∷ drop (suc i) all
item_first all i x lt is = drop-cons all i x lt ∙ ap (λ y. y ∷ drop (suc i) all) (sym is)

module _ {A B : Type 0} (p : B → Bool) (f : A → B) (all : List A) (i : ℕ) where
  -- ---- the first that passes a test

  pub found_here : (x : A) → i < length all → x ≡ get_or all i x → p (f x) ≡ true → find p (map f (drop i all)) ≡ Some (f x)
  found_here x lt is hit =
      ap (λ l. find p (map f l)) (item_first all i x lt is)
      ∙ ap (λ b. cond b (Some (f x)) (find p (map f (drop (suc i) all)))) hit

  pub found_later : (x : A) → i < length all → x ≡ get_or all i x → p (f x) ≡ false
      → find p (map f (drop i all)) ≡ find p (map f (drop (suc i) all))
  found_later x lt is other =
      ap (λ l. find p (map f l)) (item_first all i x lt is)
      ∙ ap (λ b. cond b (Some (f x)) (find p (map f (drop (suc i) all)))) other

  pub found_none : length all ≤ i → find p (map f (drop i all)) ≡ None
  found_none le = ap (λ l. find p (map f l)) (drop_all i all le)

  -- ---- its number

  pub place_here : (n : ℕ) (x : A) → i < length all → x ≡ get_or all i x → p (f x) ≡ true → position_from p n (map f (drop i all)) ≡ Some n
  place_here n x lt is hit =
      ap (λ l. position_from p n (map f l)) (item_first all i x lt is)
      ∙ ap (λ b. cond b (Some n) (position_from p (n + 1) (map f (drop (suc i) all)))) hit

  pub place_later : (n : ℕ) (x : A) → i < length all → x ≡ get_or all i x → p (f x) ≡ false
      → position_from p n (map f (drop i all)) ≡ position_from p (n + 1) (map f (drop (suc i) all))
  place_later n x lt is other =
      ap (λ l. position_from p n (map f l)) (item_first all i x lt is)
      ∙ ap (λ b. cond b (Some n) (position_from p (n + 1) (map f (drop (suc i) all)))) other

  pub place_none : (n : ℕ) → length all ≤ i → position_from p n (map f (drop i all)) ≡ None
  place_none n le = ap (λ l. position_from p n (map f l)) (drop_all i all le)

-- ---- of two lists, one behind the other

front_next : {A : Type 0} (p : A → Bool) (y : A) (more ys : List A) (x : A) (b : Bool) → p y ≡ b → find p (y ∷ more) ≡ Some x
    → (find p more ≡ Some x → find p (more ++ ys) ≡ Some x) → find p (y ∷ more ++ ys) ≡ Some x
front_next p y more ys x true hit e later =
    ap (λ b. cond b (Some y) (find p (more ++ ys))) hit ∙ sym (ap (λ b. cond b (Some y) (find p more)) hit) ∙ e
front_next p y more ys x false other e later =
    ap (λ b. cond b (Some y) (find p (more ++ ys))) other ∙ later (sym (ap (λ b. cond b (Some y) (find p more)) other) ∙ e)

pub found_front : {A : Type 0} (p : A → Bool) (xs ys : List A) (x : A) → find p xs ≡ Some x → find p (xs ++ ys) ≡ Some x
found_front p [] ys x e = absurd (cc (e))
found_front p (y ∷ more) ys x e = front_next p y more ys x (p y) refl e (λ h. found_front p more ys x h)

some_none : {A : Type 0} (x : A) (o : Option A) → o ≡ Some x → o ≡ None → ⊥
some_none x o e f = cc

behind_next : {A : Type 0} (p : A → Bool) (y : A) (more ys : List A) (b : Bool) → p y ≡ b → find p (y ∷ more) ≡ None
    → (find p more ≡ None → find p (more ++ ys) ≡ find p ys) → find p (y ∷ more ++ ys) ≡ find p ys
behind_next p y more ys true hit e later =
    absurd (some_none y (find p (y ∷ more)) (ap (λ b. cond b (Some y) (find p more)) hit) e)
behind_next p y more ys false other e later =
    ap (λ b. cond b (Some y) (find p (more ++ ys))) other ∙ later (sym (ap (λ b. cond b (Some y) (find p more)) other) ∙ e)

pub found_behind : {A : Type 0} (p : A → Bool) (xs ys : List A) → find p xs ≡ None → find p (xs ++ ys) ≡ find p ys
found_behind p [] ys e = refl
found_behind p (y ∷ more) ys e = behind_next p y more ys (p y) refl e (λ h. found_behind p more ys h)
