-- The order of tokens.
use Rattle.std.specs.Prelude.{ℕ, ◌≤◌, List, [], ◌∷◌}
use Rattle.pv_tree.specs.Lexemes.{Lexeme}

-- the tokens begin no earlier than here, each no earlier than the one before it
abbrev pub LieInOrder : ℕ → List Lexeme → Type 0
LieInOrder at [] = Unit {0}
LieInOrder at (t ∷ others) = (at ≤ t.place.offset) × LieInOrder t.place.offset others
