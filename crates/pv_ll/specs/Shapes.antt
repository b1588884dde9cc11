-- what names want, where that is that the top of the stack has some shapes: computed from what each name takes and puts
use Rattle.std.specs.Prelude.{◌≡◌, ℕ, Bool, true, false, ◌==◌, if◌then◌else◌, List, [], ◌∷◌, ◌++◌, Option, Some, None, option_and_then}
use Rattle.std.specs.List.{list_all}
use Rattle.pv_ll.specs.declared.table.Symbol.{Symbol}
use Rattle.pv_ll.specs.declared.table.Symbol.TheVariants.{Token, Name}
use Rattle.pv_ll.specs.Grammar.{Grammar, Production}
use Rattle.pv_ll.specs.Making.{Making}
use Rattle.pv_ll.specs.Meaning.{Meaning}

-- the shapes, as numbers, that each name takes off the top of the stack and puts there instead, by the name's number; the
-- top stands first. A token that was passed has one shape
pub record Shaping : Type 0 where
  pub token : ℕ
  pub takes : ℕ → List ℕ
  pub puts : ℕ → List ℕ

-- the values on top of the stack have these shapes
abbrev pub IsTopped : {V : Type 0} → (V → ℕ) → List ℕ → List V → Type 0
IsTopped shape [] s = Unit {0}
IsTopped shape (x ∷ shapes) [] = ⊥
IsTopped shape (x ∷ shapes) (v ∷ s) = (shape v ≡ x) × IsTopped shape shapes s

-- the shapes that are left below others, where these are on top
abbrev pub below : List ℕ → List ℕ → Option (List ℕ)
below [] shapes = Some shapes
below (x ∷ above) [] = None
below (x ∷ above) (y ∷ shapes) = if x == y then below above shapes else None

-- the shapes on top behind symbols that begin on these; none where one of them doesn't find what it takes
abbrev pub shapes_behind : Shaping → List Symbol → List ℕ → Option (List ℕ)
shapes_behind shaping [] shapes = Some shapes
shapes_behind shaping (Token t ∷ ss) shapes = shapes_behind shaping ss (shaping.token ∷ shapes)
shapes_behind shaping (Name n ∷ ss) shapes =
    option_and_then (λ left. shapes_behind shaping ss (shaping.puts n ++ left)) (below (shaping.takes n) shapes)

abbrev pub is_some : {X : Type 0} → Option X → Bool
is_some None = false
is_some (Some x) = true

-- each production finds what its symbols take on what its name takes
abbrev pub are_typed : Shaping → Grammar → Bool
are_typed shaping g = list_all (λ (p : Production). is_some (shapes_behind shaping p.body (shaping.takes p.name))) g

-- a language keeps to its shapes: a name can begin exactly where what it takes is on top, and what it does leaves what it
-- puts there in its place, and below that the shapes as they were
pub record Keeps {T V : Type 0} (shaping : Shaping) (shape : V → ℕ) (m : Making T V) (f : Meaning T V) : Type 0 where
  pub token : (t : T) → shape (m.leaf t) ≡ shaping.token
  pub asks : (n : ℕ) (s : List V) → f.wants n s → IsTopped shape (shaping.takes n) s
  pub meets : (n : ℕ) (s : List V) → IsTopped shape (shaping.takes n) s → f.wants n s
  pub leaves : (n : ℕ) (s behind : List V) (ts : List T) (rest : List ℕ) → f.does n s ts behind
      → IsTopped shape (shaping.takes n ++ rest) s → IsTopped shape (shaping.puts n ++ rest) behind
