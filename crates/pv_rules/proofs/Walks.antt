-- The nearest place along a list whose elements each give a list of their own, and whether one of those passes a test: one element more of those
-- that are left.
use Rattle.std.proofs.Common.{◌≡◌, ℕ, zero, suc, ◌<◌, ◌≤◌, ◌+◌, refl, sym, ap, subst, ◌∙◌, inl, List, [], ◌∷◌, ◌++◌, map, Option, Some, None, Bool, true, false, ◌||◌, drop, get_or, length, arith}
use Rattle.std.specs.Prelude.{flat_map, option_map, option_to_list}
use Rattle.std.specs.List.{list_any}
use Rattle.std.proofs.Math.Seq.{drop-cons}
use Rattle.std.proofs.lemmas.List.{append-nil, drop_all}
use Rattle.std.proofs.lemmas.List.Folds.{list_any-append}
use Rattle.pv_place.specs.declared.place.Place.{Place}
use Rattle.pv_rules_expr.specs.Members.{HasSome, Has}
use Rattle.pv_rules_expr.specs.Nearest.{nearer_of}
use Rattle.pv_rules_expr.specs.NearestIn.{nearest_in}
use Rattle.pv_rules_expr.proofs.ForCallers.{has_behind, has_front, in_append}

-- one list behind another
pub near_two : {Y : Type 0} (f : Y → Option Place) (xs ys : List Y) (n m new : Option Place) → m ≡ nearest_in f xs n → new ≡ nearest_in f ys m
    → new ≡ nearest_in f (xs ++ ys) n
near_two f xs ys n m new first second = second ∙ ap (nearest_in f ys) first ∙ sym (in_append f xs ys n)

-- three
pub near_three : {Y : Type 0} (f : Y → Option Place) (xs ys zs : List Y) (n m k new : Option Place) → m ≡ nearest_in f xs n → k ≡ nearest_in f ys m
    → new ≡ nearest_in f zs k → new ≡ nearest_in f (xs ++ ys ++ zs) n
near_three f xs ys zs n m k new first second third =
    near_two f (xs ++ ys) zs n k new (near_two f xs ys n m k first second) third

-- one, where there is one
module _ {X Y : Type 0} (g : X → Y) (o : Option X) (p : Option Y) (seen : option_map g o ≡ p) where
  pub near_one : (f : Y → Option Place) (x : X) (n new : Option Place) → o ≡ Some x → new ≡ nearer_of n (f (g x))
      → new ≡ nearest_in f (option_to_list p) n
  near_one f x n new is looked = looked ∙ ap (λ q. nearest_in f (option_to_list q) n) (sym (ap (option_map g) is) ∙ seen)

  pub near_no : (f : Y → Option Place) (n : Option Place) → o ≡ None → n ≡ nearest_in f (option_to_list p) n
  near_no f n is = ap (λ q. nearest_in f (option_to_list q) n) (sym (ap (option_map g) is) ∙ seen)

  pub near_each : {Z : Type 0} (f : Z → Option Place) (reads : Y → List Z) (x : X) (n new : Option Place) → o ≡ Some x
      → new ≡ nearest_in f (reads (g x)) n → new ≡ nearest_in f (flat_map reads (option_to_list p)) n
  near_each f reads x n new is looked =
      looked ∙ ap (λ l. nearest_in f l n) (sym (append-nil (reads (g x))))
      ∙ ap (λ q. nearest_in f (flat_map reads (option_to_list q)) n) (sym (ap (option_map g) is) ∙ seen)

  pub near_nothing : {Z : Type 0} (f : Z → Option Place) (reads : Y → List Z) (n : Option Place) → o ≡ None
      → n ≡ nearest_in f (flat_map reads (option_to_list p)) n
  near_nothing f reads n is = ap (λ q. nearest_in f (flat_map reads (option_to_list q)) n) (sym (ap (option_map g) is) ∙ seen)

-- none is left
pub none_left : {X Y : Type 0} (f : Y → Option Place) (g : X → Y) (xs : List X) (i : ℕ) (n total : Option Place) → length xs ≤ i
    → nearest_in f (map g (drop i xs)) n ≡ total → n ≡ total
none_left f g xs i n total end left = ap (λ l. nearest_in f (map g l) n) (sym (drop_all i xs end)) ∙ left

module _ {X Y : Type 0} (f : Y → Option Place) (one : X → List Y) (all : List X → List Y)
    (parts : (x : X) (xs : List X) → all (x ∷ xs) ≡ one x ++ all xs) where
  pub next_of : (xs : List X) (i j : ℕ) (x : X) (n m total : Option Place) → i < length xs → x ≡ get_or xs i x → j ≡ i + 1
      → m ≡ nearest_in f (one x) n → nearest_in f (all (drop i xs)) n ≡ total → nearest_in f (all (drop j xs)) m ≡ total
  next_of xs i j x n m total inside is next looked left =
      let k : j ≡ suc i = omega (arith, next) in
      let rest = all (drop (suc i) xs) in
      ap (λ k. nearest_in f (all (drop k xs)) m) k
      ∙ ap (nearest_in f rest) looked
      ∙ sym (in_append f (one x) rest n)
      ∙ ap (λ l. nearest_in f l n) (sym (parts x (drop (suc i) xs)))
      ∙ ap (λ l. nearest_in f (all l) n) (sym (drop-cons xs i x inside ∙ ap (λ y. y ∷ drop (suc i) xs) (sym is)))
      ∙ left

module _ {X Y : Type 0} (p : Y → Bool) (one : X → List Y) (all : List X → List Y)
    (parts : (x : X) (xs : List X) → all (x ∷ xs) ≡ one x ++ all xs) where
  either : (xs : List X) (i : ℕ) (x : X) (hit total : Bool) → i < length xs → x ≡ get_or xs i x → hit ≡ list_any p (one x)
      → list_any p (all (drop i xs)) ≡ total → (hit || list_any p (all (drop (suc i) xs))) ≡ total
  either xs i x hit total inside is looked left =
      let rest = drop (suc i) xs in
      ap (λ b. b || list_any p (all rest)) looked
      ∙ sym (list_any-append p (one x) (all rest))
      ∙ ap (list_any p) (sym (parts x rest))
      ∙ ap (λ l. list_any p (all l)) (sym (drop-cons xs i x inside ∙ ap (λ y. y ∷ rest) (sym is)))
      ∙ left

  -- it is one of these
  pub found_at : (xs : List X) (i : ℕ) (x : X) (hit total : Bool) → i < length xs → x ≡ get_or xs i x → hit ≡ list_any p (one x) → hit ≡ true
      → list_any p (all (drop i xs)) ≡ total → true ≡ total
  found_at xs i x hit total inside is looked on left =
      ap (λ b. b || list_any p (all (drop (suc i) xs))) (sym on) ∙ either xs i x hit total inside is looked left

  -- it is among what is left
  pub left_of : (xs : List X) (i j : ℕ) (x : X) (hit total : Bool) → i < length xs → x ≡ get_or xs i x → j ≡ i + 1 → hit ≡ list_any p (one x)
      → hit ≡ false → list_any p (all (drop i xs)) ≡ total → list_any p (all (drop j xs)) ≡ total
  left_of xs i j x hit total inside is next looked off left =
      let k : j ≡ suc i = omega (arith, next) in
      ap (λ k. list_any p (all (drop k xs))) k
      ∙ ap (λ b. b || list_any p (all (drop (suc i) xs))) (sym off)
      ∙ either xs i x hit total inside is looked left

-- what some element's list has, the whole has
pub among : {X Y : Type 0} (P : Y → Type 0) (one : X → List Y) (all : List X → List Y) → ((x : X) (xs : List X) → all (x ∷ xs) ≡ one x ++ all xs)
    → (xs : List X) (i : ℕ) (x : X) → i < length xs → x ≡ get_or xs i x → HasSome P (one x) → HasSome P (all xs)
among P one all parts [] i x lt is h = absurd (omega (arith, lt))
among P one all parts (y ∷ ys) zero x lt is h =
    subst (HasSome P) (sym (parts y ys)) (has_front P (one y) (all ys) (subst (λ z. HasSome P (one z)) is h))
among P one all parts (y ∷ ys) (suc i) x lt is h =
    subst (HasSome P) (sym (parts y ys)) (has_behind P (one y) (all ys) (among P one all parts ys i x (omega (arith, lt)) is h))

pub has_at : {X Y : Type 0} (f : X → Y) (xs : List X) (i : ℕ) (x : X) → i < length xs → x ≡ get_or xs i x → Has (map f xs) (f x)
has_at f xs i x lt is = among (λ y. y ≡ f x) (λ z. f z ∷ []) (map f) (λ z zs. refl) xs i x lt is (inl refl)
