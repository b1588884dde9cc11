-- The parts of a source are shallow, or have a deepest place.
use Rattle.std.proofs.Common.{◌≡◌, ◌⊎◌, inl, inr, ℕ, ◌<◌, ◌≤◌, List, [], ◌∷◌, ap, arith}
use Rattle.std.proofs.lemmas.Bool.{cases_lt, cases_eq}
use Rattle.pv_place.specs.declared.place.Place.{Place}
use Rattle.pv_tree.specs.Nesting.{Part, part, most_levels}
use Rattle.pv_tree.specs.Order.{HasAbove, HasPart}
use Rattle.pv_tree.specs.Depth.{IsShallow, IsDeepest}

pub has_above_of : (list : List Part) (m : ℕ) (p : Place) → HasPart list (part m p) → HasAbove list m
has_above_of [] m p h = absurd h
has_above_of (x ∷ xs) m p (inl e) = inl (ap (λ y. y.above) e)
has_above_of (x ∷ xs) m p (inr h) = inr (has_above_of xs m p h)

-- the least place of the parts that have m around them
record IsLeast (m : ℕ) (list : List Part) (p : Place) : Type 0 where
  there : HasPart list (part m p)
  least : (other : Place) → HasPart list (part m other) → p.offset ≤ other.offset

first_is : (x : Part) (m : ℕ) (q : Place) → x ≡ part m q → x.first.offset ≡ q.offset
first_is x m q e = ap (λ y. y.first.offset) e

itself : (x : Part) (m : ℕ) → x.above ≡ m → x ≡ part m x.first
itself x m e = ap (λ a. part a x.first) e

-- of a part that has m around it, and a list without such a part
alone : (x : Part) (xs : List Part) (m : ℕ) → x.above ≡ m → (HasAbove xs m → ⊥) → IsLeast m (x ∷ xs) x.first
alone x xs m e none =
    record {
      there = inl (itself x m e);
      least = λ q h. elim h [ inl same ↦ omega (arith, first_is x m q same) | inr more ↦ absurd (none (has_above_of xs m q more)) ];
    }

-- of a part that hasn't, and a list with a least one
behind : (x : Part) (xs : List Part) (m : ℕ) (p : Place) → (x.above ≡ m → ⊥) → IsLeast m xs p → IsLeast m (x ∷ xs) p
behind x xs m p differs l =
    record {
      there = inr l.there;
      least = λ q h. elim h [ inl same ↦ absurd (differs (ap (λ y. y.above) same)) | inr more ↦ l.least q more ];
    }

-- of a part that has, before or behind the least place of the list
before : (x : Part) (xs : List Part) (m : ℕ) (p : Place) → x.above ≡ m → IsLeast m xs p → x.first.offset ≤ p.offset → IsLeast m
    (x ∷ xs) x.first
before x xs m p e l le =
    record {
      there = inl (itself x m e);
      least = λ q h. elim h [ inl same ↦ omega (arith, first_is x m q same) | inr more ↦ omega (arith, le, l.least q more) ];
    }

after : (x : Part) (xs : List Part) (m : ℕ) (p : Place) → IsLeast m xs p → p.offset < x.first.offset → IsLeast m (x ∷ xs) p
after x xs m p l lt =
    record {
      there = inr l.there;
      least = λ q h. elim h [ inl same ↦ omega (arith, lt, first_is x m q same) | inr more ↦ l.least q more ];
    }

with_rest : (x : Part) (xs : List Part) (m : ℕ) → (x.above ≡ m) ⊎ (x.above ≡ m → ⊥)
    → (HasAbove xs m → ⊥) ⊎ ((p : Place) × IsLeast m xs p) → (HasAbove (x ∷ xs) m → ⊥) ⊎ ((p : Place) × IsLeast m (x ∷ xs) p)
with_rest x xs m (inl e) (inl none) = inr (x.first, alone x xs m e none)
with_rest x xs m (inr differs) (inl none) = inl (λ h. elim h [ inl e ↦ differs e | inr more ↦ none more ])
with_rest x xs m (inr differs) (inr found) = inr (found.0, behind x xs m found.0 differs found.1)
with_rest x xs m (inl e) (inr found) =
    elim (cases_lt found.0.offset x.first.offset) [
      | inl lt ↦ inr (found.0, after x xs m found.0 found.1 lt)
      | inr le ↦ inr (x.first, before x xs m found.0 e found.1 le)
    ]

least_place : (m : ℕ) (list : List Part) → (HasAbove list m → ⊥) ⊎ ((p : Place) × IsLeast m list p)
least_place m [] = inl (λ h. h)
least_place m (x ∷ xs) = with_rest x xs m (cases_eq x.above m) (least_place m xs)

pub deepest-some : (list : List Part) → IsShallow list ⊎ ((place : Place) × IsDeepest list place)
deepest-some list =
    elim (least_place most_levels list) [
      | inl none ↦ inl none
      | inr found ↦ inr (found.0, record { there = found.1.there; least = found.1.least })
    ]

pub deepest-apart : (list : List Part) (place : Place) → IsShallow list → IsDeepest list place → ⊥
deepest-apart list place shallow d = shallow (has_above_of list most_levels place d.there)

pub deepest-one : (list : List Part) (place other : Place) → IsDeepest list place → IsDeepest list other → place.offset ≡ other.offset
deepest-one list place other d e = omega (arith, d.least other e.there, e.least place d.there)
