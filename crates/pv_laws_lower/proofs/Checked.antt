-- What checks come to, one after another: the first that is true stops, and else what is behind them is got.
use Rattle.std.proofs.Common.{◌≡◌, List, [], ◌∷◌, ◌++◌, Bool as Truth, true, false, refl, ap}
use Rattle.std.proofs.lemmas.Bool.{false≢true}
use Rattle.std.specs.Prelude.{if◌then◌else◌}
use Rattle.pv_place.specs.declared.place.Place.{Place}
use Rattle.pv_place.specs.declared.trap.TrapKind.{TrapKind}
use Rattle.pv_mean.specs.Endings.{Tried, got, trap, and_then}
use Rattle.pv_flow.specs.Terms.{Valuation, holds_in}
use Rattle.pv_access.specs.Accesses.{Check}
use Rattle.pv_access.specs.Correct.{checked}

abbrev was_got : {X : Type 0} → Tried X → Truth
was_got (got x) = true
was_got (trap kind place) = false

pub not_got : {X : Type 0} (kind : TrapKind) (place : Place) (x : X) → trap kind place ≡ got x → ⊥
not_got kind place x e = false≢true (ap was_got e)

pub same_got : {X : Type 0} (x y : X) → got x ≡ got y → x ≡ y
same_got x y e = cc

-- what goes on with what was got, if it got something
pub record GotThen {A B : Type 0} (t : Tried A) (f : A → Tried B) (b : B) : Type 0 where
  pub first : A
  pub is : t ≡ got first
  pub then_ : f first ≡ got b

pub got_then : {A B : Type 0} (t : Tried A) (f : A → Tried B) (b : B) → and_then t f ≡ got b → GotThen t f b
got_then (got a) f b e = record { first = a; is = refl; then_ = e }
got_then (trap kind place) f b e = absurd (not_got kind place b e)

module _ (w : Valuation) {A B : Type 0} where
  pub then_checked : (xs ys : List Check) (a : A) (b : B) → checked w (xs ++ ys) b ≡ and_then (checked w xs a) (λ x. checked w ys b)
  then_checked [] ys a b = refl
  then_checked (c ∷ xs) ys a b = lead (holds_in w c.term) (then_checked xs ys a b)
    where
      lead : (h : Truth) → checked w (xs ++ ys) b ≡ and_then (checked w xs a) (λ x. checked w ys b)
          → (if h then trap c.kind c.place else checked w (xs ++ ys) b)
          ≡ and_then (if h then trap c.kind c.place else checked w xs a) (λ x. checked w ys b)
      lead true e = refl
      lead false e = e

  -- what is got behind them is handed on
  pub same_then : (xs : List Check) (a : A) (f g : A → Tried B) → f a ≡ g a → and_then (checked w xs a) f ≡ and_then (checked w xs a) g
  same_then [] a f g e = e
  same_then (c ∷ xs) a f g e = lead (holds_in w c.term) (same_then xs a f g e)
    where
      lead : (h : Truth) → and_then (checked w xs a) f ≡ and_then (checked w xs a) g
          → and_then (if h then trap c.kind c.place else checked w xs a) f
          ≡ and_then (if h then trap c.kind c.place else checked w xs a) g
      lead true e = refl
      lead false e = e

  pub checked_map : (f : A → B) (xs : List Check) (a : A) → checked w xs (f a) ≡ and_then (checked w xs a) (λ x. got (f x))
  checked_map f [] a = refl
  checked_map f (c ∷ xs) a = lead (holds_in w c.term) (checked_map f xs a)
    where
      lead : (h : Truth) → checked w xs (f a) ≡ and_then (checked w xs a) (λ x. got (f x))
          → (if h then trap c.kind c.place else checked w xs (f a))
          ≡ and_then (if h then trap c.kind c.place else checked w xs a) (λ x. got (f x))
      lead true e = refl
      lead false e = e

  -- what is got where all checks pass decides, of either of two
  pub passed_over : {C : Type 0} (xs : List Check) (a : A) (b : B) (f : A → Tried C) (g : B → Tried C)
      → (checked w xs a ≡ got a → f a ≡ g b) → and_then (checked w xs a) f ≡ and_then (checked w xs b) g
  passed_over [] a b f g e = e refl
  passed_over {C} (c ∷ xs) a b f g e = lead (holds_in w c.term) e (λ d. passed_over xs a b f g d)
    where
      lead : (h : Truth) → ((if h then trap c.kind c.place else checked w xs a) ≡ got a → f a ≡ g b)
          → ((checked w xs a ≡ got a → f a ≡ g b) → and_then (checked w xs a) f ≡ and_then (checked w xs b) g)
          → and_then (if h then trap c.kind c.place else checked w xs a) f ≡ and_then (if h then trap c.kind c.place else checked w xs b) g
      lead true d rest = refl
      lead false d rest = rest d

module _ (w : Valuation) {A : Type 0} where
  -- what passes checks with one thing passes them with another
  pub passes_with : {B : Type 0} (xs : List Check) (a x : A) (b : B) → checked w xs a ≡ got x → checked w xs b ≡ got b
  passes_with [] a x b e = refl
  passes_with {B} (c ∷ xs) a x b e = lead (holds_in w c.term) e (λ d. passes_with xs a x b d)
    where
      lead : (h : Truth) → (if h then trap c.kind c.place else checked w xs a) ≡ got x → (checked w xs a ≡ got x → checked w xs b ≡ got b)
          → (if h then trap c.kind c.place else checked w xs b) ≡ got b
      lead true d rest = absurd (not_got c.kind c.place x d)
      lead false d rest = rest d

  pub both_passed : (xs ys : List Check) (a : A) (x : A) → checked w (xs ++ ys) a ≡ got x
      → (checked w xs a ≡ got a) × (checked w ys a ≡ got x)
  both_passed [] ys a x e = (refl, e)
  both_passed (c ∷ xs) ys a x e = lead (holds_in w c.term) e (λ d. both_passed xs ys a x d)
    where
      lead : (h : Truth) → (if h then trap c.kind c.place else checked w (xs ++ ys) a) ≡ got x
          → (checked w (xs ++ ys) a ≡ got x → (checked w xs a ≡ got a) × (checked w ys a ≡ got x))
          → ((if h then trap c.kind c.place else checked w xs a) ≡ got a) × (checked w ys a ≡ got x)
      lead true d rest = absurd (not_got c.kind c.place x d)
      lead false d rest = rest d

  -- behind checks that passed, what was got
  pub got_there : (xs : List Check) (a x : A) → checked w xs a ≡ got x → a ≡ x
  got_there [] a x e = same_got a x e
  got_there (c ∷ xs) a x e = lead (holds_in w c.term) e (λ d. got_there xs a x d)
    where
      lead : (h : Truth) → (if h then trap c.kind c.place else checked w xs a) ≡ got x → (checked w xs a ≡ got x → a ≡ x) → a ≡ x
      lead true d rest = absurd (not_got c.kind c.place x d)
      lead false d rest = rest d
