-- Words between blanks.
use Rattle.std.specs.Prelude.{◌≡◌, ℕ, List, [], ◌∷◌}
use Rattle.std.specs.List.{AllByRecursion}

-- the word has no blank
abbrev pub NoBlank : List ℕ → Type 0
NoBlank word = AllByRecursion (λ byte. byte ≡ 32 → ⊥) word

-- what may follow a word: nothing, or a blank and more
abbrev pub EndsWord : List ℕ → Type 0
EndsWord [] = Unit {0}
EndsWord (byte ∷ bytes) = byte ≡ 32
