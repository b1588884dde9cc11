-- texts as tokens, where a grammar knows only the kinds of tokens
use Rattle.std.specs.Prelude.{◌≡◌, ℕ, ◌<◌, ◌≤◌, ◌+◌, List, [], ◌∷◌, ◌++◌, length, take, map}
use Rattle.std.specs.List.{AllZip}

-- tokens of these kinds
pub record OfKinds (T : Type 0) (kind : T → ℕ) (kinds : List ℕ) : Type 0 where
  pub tokens : List T
  pub are : map kind tokens ≡ kinds

-- how kinds stand for tokens, where a token's kind may hang on those before it: each token serves as the kind that it has in
-- its place, a front has the kinds that it has in the whole, and each of so many kinds has a token that serves as it
pub record Kinding (T : Type 0) (kinds : ℕ) : Type 1 where
  pub serves : T → ℕ → Type 0
  pub kinds_of : List T → List ℕ
  pub each : (ts : List T) → AllZip serves ts (kinds_of ts)
  pub front : (ts more : List T) → (w : List ℕ) × (kinds_of (ts ++ more) ≡ kinds_of ts ++ w)
  pub witness : (k : ℕ) → k < kinds → (t : T) × serves t k

-- a token with a kind that it serves as: what a making takes where kinds hang on the tokens before
pub record Served (T : Type 0) (serves : T → ℕ → Type 0) : Type 0 where
  pub token : T
  pub kind : ℕ
  pub serves_as : serves token kind

-- tokens with their kinds
abbrev pub side_by_side : {T : Type 0} (serves : T → ℕ → Type 0) (ts : List T) (kinds : List ℕ) → AllZip serves ts kinds → List (Served T serves)
side_by_side serves [] kinds h = []
side_by_side serves (t ∷ ts) [] h = []
side_by_side serves (t ∷ ts) (k ∷ kinds) h =
    record { token = t; kind = k; serves_as = h.0 } ∷ side_by_side serves ts kinds h.1

-- of the texts that are meant, none is these tokens, and token i is the first with which none goes on; the number of tokens
-- where only more of them would do
pub record IsFaultAmong {T : Type 0} (IsText : List T → Type 0) (tokens : List T) (i : ℕ) : Type 0 where
  pub within : i ≤ length tokens
  -- some text begins with the tokens before it
  pub viable : (more : List T) × IsText (take i tokens ++ more)
  -- none begins with these and it
  pub exact : i < length tokens → (more : List T) → IsText (take (i + 1) tokens ++ more) → ⊥
  -- the tokens alone are none either
  pub no_text : IsText tokens → ⊥
