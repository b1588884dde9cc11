-- the walk through a derivation, in order
use Rattle.std.specs.Prelude.{◌≡◌, ℕ, List, [], ◌∷◌, ◌++◌}
use Rattle.pv_ll.specs.declared.table.Symbol.{Symbol}
use Rattle.pv_ll.specs.declared.table.Symbol.TheVariants.{Token, Name}
use Rattle.pv_ll.specs.Grammar.{Grammar, IsProduction}

-- a step of a walk: the production with this number is entered, a token of this kind is passed, all that the production with
-- this number derives was walked
pub data Step : Type 0 where
  Enter : ℕ → Step
  Pass : ℕ → Step
  Leave : ℕ → Step

-- the walk through what symbols derive by a trace: a production is entered, its symbols are walked in order, and it is left
pub data Walks (g : Grammar) : List ℕ → List Symbol → List Step → Type 0 where
  over : Walks g [] [] []
  on : {t : ℕ} {trace : List ℕ} {ss : List Symbol} {steps : List Step} → Walks g trace ss steps → Walks g trace (Token t ∷ ss) (Pass t ∷ steps)
  through : {n : ℕ} {own rest trace : List ℕ} {ss body : List Symbol} {inner others steps : List Step} → (k : ℕ) → IsProduction g k n body
      → Walks g own body inner → Walks g rest ss others → trace ≡ k ∷ (own ++ rest) → steps ≡ Enter k ∷ (inner ++ Leave k ∷ others)
      → Walks g trace (Name n ∷ ss) steps

-- the tokens on the way
abbrev pub tokens_of : List Step → List ℕ
tokens_of [] = []
tokens_of (Enter k ∷ steps) = tokens_of steps
tokens_of (Pass t ∷ steps) = t ∷ tokens_of steps
tokens_of (Leave k ∷ steps) = tokens_of steps
