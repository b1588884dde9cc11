-- More steps change no outcome, and a run has one; controls whose states are paired with equal exits and ways have equal runs; and
-- variables that nothing sets stay.
use Rattle.std.proofs.Common.{◌≡◌, ℕ, zero, suc, ◌≤◌, ◌<◌, ◌⊎◌, inl, inr, Bool as Truth, true, false, List, [], ◌∷◌, Option, Some, None, refl, sym, subst, ap, ◌∙◌, arith}
use Rattle.std.proofs.lemmas.Bool.{cases_lt}
use Rattle.std.proofs.lemmas.Option.{same_Some, none-some}
use Rattle.pv_flow.specs.Terms.{Term, Valuation, holds_in}
use Rattle.pv_flow.specs.Automata.{Set}
use Rattle.pv_flow.specs.Runs.{assigned, End, Outcome, Way, Control, taken, ended, ended_or, run}

-- ---- more steps

ended_early : {X : Type 0} (end : Option End) (way : Option (Way X)) (w : Valuation) (next : Way X → Option Outcome) (out : Outcome)
    → ended end w ≡ Some out → ended_or end way w next ≡ Some out
ended_early None way w next out e = absurd (none-some out e)
ended_early (Some end) way w next out e = e

ended_later : {X : Type 0} (end : Option End) (way : Option (Way X)) (w : Valuation) (next after : Way X → Option Outcome) (out : Outcome)
    → ((t : Way X) → next t ≡ Some out → after t ≡ Some out) → ended_or end way w next ≡ Some out → ended_or end way w after ≡ Some out
ended_later (Some end) way w next after out go e = e
ended_later None None w next after out go e = absurd (none-some out e)
ended_later None (Some way) w next after out go e = go way e

pub more_steps : {X : Type 0} (c : Control X) (n m : ℕ) (x : X) (w : Valuation) (out : Outcome) → n ≤ m
    → run c n x w ≡ Some out → run c m x w ≡ Some out
more_steps c zero zero x w out le e = e
more_steps c zero (suc m) x w out le e =
    ended_early (c.exit x) (taken w (c.ways x)) w (λ way. run c m way.to (assigned way.sets w)) out e
more_steps c (suc n) zero x w out le e = absurd (omega (arith, le))
more_steps c (suc n) (suc m) x w out le e =
    ended_later (c.exit x) (taken w (c.ways x)) w (λ way. run c n way.to (assigned way.sets w)) (λ way. run c m way.to (assigned way.sets w)) out
    (λ way. more_steps c n m way.to (assigned way.sets w) out (omega (arith, le))) e

pub one_end : {X : Type 0} (c : Control X) (n m : ℕ) (x : X) (w : Valuation) (a b : Outcome)
    → run c n x w ≡ Some a → run c m x w ≡ Some b → a ≡ b
one_end c n m x w a b e f = by (cases_lt n m)
  where
    by : (n < m) ⊎ (m ≤ n) → a ≡ b
    by (inl lt) = same_Some a b (sym (more_steps c n m x w a (omega (arith, lt)) e) ∙ f)
    by (inr le) = same_Some a b (sym e ∙ more_steps c m n x w b le f)

-- ---- the same runs

-- ways one by one: equal guards and sets, and related targets
abbrev pub ArePaired : {X Y : Type 0} → (X → Y → Type 0) → List (Way X) → List (Way Y) → Type 0
ArePaired R [] [] = Unit {0}
ArePaired R [] (b ∷ ys) = ⊥
ArePaired R (a ∷ xs) [] = ⊥
ArePaired R (a ∷ xs) (b ∷ ys) = (a.guard ≡ b.guard) × (a.sets ≡ b.sets) × R a.to b.to × ArePaired R xs ys

pub record AreAlike {X Y : Type 0} (R : X → Y → Type 0) (c : Control X) (d : Control Y) : Type 0 where
  pub exits : (x : X) (y : Y) → R x y → c.exit x ≡ d.exit y
  pub ways : (x : X) (y : Y) → R x y → ArePaired R (c.ways x) (d.ways y)

-- the ways that are taken
abbrev IsPair : {X Y : Type 0} → (X → Y → Type 0) → Option (Way X) → Option (Way Y) → Type 0
IsPair R None None = Unit {0}
IsPair R None (Some b) = ⊥
IsPair R (Some a) None = ⊥
IsPair R (Some a) (Some b) = (a.sets ≡ b.sets) × R a.to b.to

taken_paired : {X Y : Type 0} (R : X → Y → Type 0) (w : Valuation) (xs : List (Way X)) (ys : List (Way Y)) → ArePaired R xs ys
    → IsPair R (taken w xs) (taken w ys)
taken_paired R w [] [] are = tt
taken_paired R w [] (b ∷ ys) are = absurd are
taken_paired R w (a ∷ xs) [] are = absurd are
taken_paired {X} {Y} R w (a ∷ xs) (b ∷ ys) are =
    by (holds_in w a.guard) (holds_in w b.guard) (ap (λ (t : Term). holds_in w t) are.0) (taken_paired R w xs ys are.3)
  where
    both : (t : Truth) → IsPair R (taken w xs) (taken w ys)
        → IsPair {X = X} {Y = Y} R (elim t [ true ↦ Some a | false ↦ taken w xs ]) (elim t [ true ↦ Some b | false ↦ taken w ys ])
    both true h = (are.1, are.2)
    both false h = h

    by : (s t : Truth) → s ≡ t → IsPair R (taken w xs) (taken w ys)
        → IsPair {X = X} {Y = Y} R (elim s [ true ↦ Some a | false ↦ taken w xs ]) (elim t [ true ↦ Some b | false ↦ taken w ys ])
    by s t e h = subst (λ (u : Truth). IsPair {X = X} {Y = Y} R (elim s [ true ↦ Some a | false ↦ taken w xs ])
        (elim u [ true ↦ Some b | false ↦ taken w ys ])) e (both s h)

ended_alike : (f g : Option End) (w : Valuation) → f ≡ g → ended f w ≡ ended g w
ended_alike f g w e = ap (λ (x : Option End). ended x w) e

ended_or_alike : {X Y : Type 0} (R : X → Y → Type 0) (f g : Option End) (a : Option (Way X)) (b : Option (Way Y)) (w : Valuation)
    (next : Way X → Option Outcome) (after : Way Y → Option Outcome) → f ≡ g → IsPair R a b
    → ((s : Way X) (t : Way Y) → s.sets ≡ t.sets → R s.to t.to → next s ≡ after t)
    → ended_or f a w next ≡ ended_or g b w after
ended_or_alike {X} {Y} R f g a b w next after e pair go =
    subst (λ (x : Option End). ended_or f a w next ≡ ended_or x b w after) e (by f a b pair)
  where
    by : (f : Option End) (a : Option (Way X)) (b : Option (Way Y)) → IsPair R a b → ended_or f a w next ≡ ended_or f b w after
    by (Some end) a b pair = refl
    by None None None pair = refl
    by None None (Some b) pair = absurd pair
    by None (Some a) None pair = absurd pair
    by None (Some a) (Some b) pair = go a b pair.0 pair.1

-- controls that a relation pairs have equal runs, with as many steps
pub same_runs : {X Y : Type 0} (R : X → Y → Type 0) (c : Control X) (d : Control Y) → AreAlike R c d
    → (n : ℕ) (x : X) (y : Y) (w : Valuation) → R x y → run c n x w ≡ run d n y w
same_runs R c d alike zero x y w r = ended_alike (c.exit x) (d.exit y) w (alike.exits x y r)
same_runs R c d alike (suc n) x y w r =
    ended_or_alike R (c.exit x) (d.exit y) (taken w (c.ways x)) (taken w (d.ways y)) w
    (λ way. run c n way.to (assigned way.sets w)) (λ way. run d n way.to (assigned way.sets w))
    (alike.exits x y r) (taken_paired R w (c.ways x) (d.ways y) (alike.ways x y r))
    (λ s t e q. ap (λ (sets : List Set). run c n s.to (assigned sets w)) e ∙ same_runs R c d alike n s.to t.to (assigned t.sets w) q)
