-- Whether scans fail at the last of them is a matter of yes or no; and the same machines fail alike.
use Rattle.std.proofs.Common.{◌≡◌, Bool, true, false, not, ◌&&◌, List, [], ◌∷◌, refl, sym, ◌∙◌, ap}
use Rattle.std.specs.List.{AllByRecursion}
use Rattle.pv_machine.specs.Machines.{Machine, Values, Step, done, trap, over, IsState, IsInput, IsLawful}
use Rattle.pv_machine.specs.Queries.{FailsAtLast}
use Rattle.pv_machine.specs.Same.{IsSame}

-- what comes after a step that is done
abbrev after : (Values → Bool) → Step → Bool
after rest (done t) = rest t
after rest (trap kind place) = false
after rest (over place) = false

pub fails_at_last : Machine → Values → List Values → Bool
fails_at_last m s [] = false
fails_at_last m s (i ∷ []) = m.fails s i
fails_at_last m s (i ∷ j ∷ inputs) = not (m.fails s i) && after (λ t. fails_at_last m t (j ∷ inputs)) (m.step s i)

both : (a b : Bool) → (a && b) ≡ true → (a ≡ true) × (b ≡ true)
both true b e = (refl, e)
both false b e = absurd cc

not-true : (a : Bool) → not a ≡ true → a ≡ false
not-true true e = absurd cc
not-true false e = refl

pub is_told : (m : Machine) (s : Values) (inputs : List Values) → FailsAtLast m s inputs → fails_at_last m s inputs ≡ true
unfolding fails_at_last
is_told m s [] f = absurd f
is_told m s (i ∷ []) f = f
is_told m s (i ∷ j ∷ inputs) f =
    ap (λ (b : Bool). not b && after (λ t. fails_at_last m t (j ∷ inputs)) (m.step s i)) f.1.keeps
    ∙ (ap (λ (st : Step). after (λ t. fails_at_last m t (j ∷ inputs)) st) f.1.done ∙ is_told m f.0 (j ∷ inputs) f.2)

told-one : (m : Machine) (s i : Values) (j : Values) (inputs : List Values)
    → ((t : Values) → fails_at_last m t (j ∷ inputs) ≡ true → FailsAtLast m t (j ∷ inputs))
    → (st : Step) → m.step s i ≡ st → (not (m.fails s i) && after (λ t. fails_at_last m t (j ∷ inputs)) st) ≡ true
    → FailsAtLast m s (i ∷ j ∷ inputs)
told-one m s i j inputs more (done t) at e =
    let parts = both (not (m.fails s i)) (fails_at_last m t (j ∷ inputs)) e in
    (t, record { done = at; keeps = not-true (m.fails s i) parts.0 }, more t parts.1)
told-one m s i j inputs more (trap kind place) at e = absurd (let no : false ≡ true = (both (not (m.fails s i)) false e).1 in cc)
told-one m s i j inputs more (over place) at e = absurd (let no : false ≡ true = (both (not (m.fails s i)) false e).1 in cc)

pub told_is : (m : Machine) (s : Values) (inputs : List Values) → fails_at_last m s inputs ≡ true → FailsAtLast m s inputs
unfolding fails_at_last
told_is m s [] e = absurd cc
told_is m s (i ∷ []) e = e
told_is m s (i ∷ j ∷ inputs) e = told-one m s i j inputs (λ t more. told_is m t (j ∷ inputs) more) (m.step s i) refl e

pub fails_too : (m n : Machine) → IsLawful m → IsSame m n → (s : Values) → IsState m s → (inputs : List Values) → AllByRecursion (IsInput m) inputs
    → FailsAtLast m s inputs → FailsAtLast n s inputs
fails_too m n law same s is [] are f = absurd f
fails_too m n law same s is (i ∷ []) are f = sym (same.fails s i is are.0) ∙ f
fails_too m n law same s is (i ∷ j ∷ inputs) are f = (
  f.0,
  record { done = sym (same.step s i is are.0) ∙ f.1.done; keeps = sym (same.fails s i is are.0) ∙ f.1.keeps },
  fails_too m n law same f.0 (law.steps s i f.0 is are.0 f.1.done) (j ∷ inputs) are.1 f.2,
)
