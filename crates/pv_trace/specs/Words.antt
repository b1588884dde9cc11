-- Words between blanks. No public clause cites these.
use Rattle.std.specs.Prelude.{◌≡◌, ℕ, List, [], ◌∷◌}
use Rattle.std.specs.List.{AllByRecursion}

-- the word has no blank
abbrev pub NoBlank : List ℕ → Type 0
NoBlank word = AllByRecursion (λ byte. byte ≡ 32 → ⊥) word

-- nothing follows a word, or a blank
abbrev pub IsWordEnd : List ℕ → Type 0
IsWordEnd [] = Unit {0}
IsWordEnd (byte ∷ rest) = byte ≡ 32
