-- The order of places: the parts of a tree begin at tokens that spell it, one behind the other.
use Rattle.std.specs.Prelude.{◌≡◌, ◌⊎◌, ℕ, ◌+◌, ◌<◌, ◌≤◌, List, [], ◌∷◌}
use Rattle.pv_tree.specs.Lexemes.{Lexeme}
use Rattle.pv_tree.specs.Nesting.{Part}

-- going along the tokens, each part begins at one of them; several may begin at the same
pub data Along : List Lexeme → List Part → Type 0 where
  done : (tokens : List Lexeme) → Along tokens []
  here : (token : Lexeme) (tokens : List Lexeme) (p : Part) (more : List Part)
      → token.place ≡ p.first
      → Along (token ∷ tokens) more → Along (token ∷ tokens) (p ∷ more)
  onward : (token : Lexeme) (tokens : List Lexeme) (all : List Part) → Along tokens all → Along
      (token ∷ tokens) all

-- some part has so many parts around it
abbrev pub HasAbove : List Part → ℕ → Type 0
HasAbove [] m = ⊥
HasAbove (p ∷ others) m = (p.above ≡ m) ⊎ HasAbove others m

-- the part is in the list
abbrev pub HasPart : List Part → Part → Type 0
HasPart [] part = ⊥
HasPart (p ∷ others) part = (p ≡ part) ⊎ HasPart others part

-- the numbers from n on, so many of them
pub record IsAmong (n count m : ℕ) : Type 0 where
  pub from : n ≤ m
  pub to : m < n + count
