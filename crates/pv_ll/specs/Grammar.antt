-- context-free grammars, what they derive, and which token of a text is at fault. Nothing here is of a table
use Rattle.std.specs.Prelude.{◌≡◌, ℕ, ◌<◌, ◌≤◌, ◌+◌, List, [], ◌∷◌, ◌++◌, length, take, Some, slice_get}
use Rattle.pv_ll.specs.declared.table.Symbol.{Symbol}
use Rattle.pv_ll.specs.declared.table.Symbol.TheVariants.{Token, Name}

-- a rule in Backus-Naur form: a name, and the symbols that may stand for it
pub record Production : Type 0 where
  pub name : ℕ
  pub body : List Symbol

infix 3 ◌⟶◌
abbrev pub ◌⟶◌ : ℕ → List Symbol → Production
n ⟶ body = record { name = n; body = body }

-- a grammar is its productions, which are numbered by their places
abbrev pub Grammar : Type 0
Grammar = List Production

-- production k lets the body stand for the name
abbrev pub IsProduction : Grammar → ℕ → ℕ → List Symbol → Type 0
IsProduction g k n body = slice_get g k ≡ Some (n ⟶ body)

-- the symbols derive the tokens: a token derives itself, and a name what one of its bodies derives
pub data Derives (g : Grammar) : List Symbol → List ℕ → Type 0 where
  nothing : Derives g [] []
  token : {t : ℕ} {ss : List Symbol} {w : List ℕ} → Derives g ss w → Derives g (Token t ∷ ss) (t ∷ w)
  name : {n : ℕ} {ss body : List Symbol} {u v w : List ℕ} → (k : ℕ) → IsProduction g k n body
      → Derives g body u → Derives g ss v → w ≡ u ++ v → Derives g (Name n ∷ ss) w

-- the leftmost derivation: the numbers of the productions in the order in which each is put in place of the first name
pub data Leftmost (g : Grammar) : List ℕ → List Symbol → List ℕ → Type 0 where
  done : Leftmost g [] [] []
  passed : {t : ℕ} {trace : List ℕ} {ss : List Symbol} {w : List ℕ} → Leftmost g trace ss w → Leftmost g trace (Token t ∷ ss) (t ∷ w)
  put : {n : ℕ} {trace : List ℕ} {ss body : List Symbol} {w : List ℕ} → (k : ℕ) → IsProduction g k n body
      → Leftmost g trace (body ++ ss) w → Leftmost g (k ∷ trace) (Name n ∷ ss) w

-- the tokens are a text of the language
abbrev pub IsSentence : Grammar → ℕ → List ℕ → Type 0
IsSentence g start w = Derives g (Name start ∷ []) w

-- token i is the first with which no text goes on; the number of tokens where only more of them would do
pub record IsFault (g : Grammar) (start : ℕ) (tokens : List ℕ) (i : ℕ) : Type 0 where
  pub within : i ≤ length tokens
  -- some text begins with the tokens before it
  pub viable : (w : List ℕ) × IsSentence g start (take i tokens ++ w)
  -- none begins with these and it
  pub exact : i < length tokens → (w : List ℕ) → IsSentence g start (take (i + 1) tokens ++ w) → ⊥
  -- the tokens alone are none either
  pub no_sentence : IsSentence g start tokens → ⊥
