-- The form of the certificates that are read today: of the verdict 'satisfied' with k = 0, without reductions.
use Rattle.std.specs.Prelude.{◌≡◌, ◌≢◌, ℕ, zero, suc, List, ◌∷◌, ◌++◌, codes, ◌⊎◌}
use Rattle.pv_claims.specs.Lines.{NoFeed}

-- line n of a text, from 1: the stretch that the n-th line feed ends, and so what stands behind the last one is no line
abbrev pub IsLine : ℕ → List ℕ → List ℕ → Type 0
IsLine zero text line = ⊥
IsLine (suc zero) text line = (rest : List ℕ) × NoFeed line × (text ≡ line ++ 10 ∷ rest)
IsLine (suc (suc n)) text line =
    (head : List ℕ) × (rest : List ℕ) × NoFeed head × (text ≡ head ++ 10 ∷ rest) × IsLine (suc n) rest line

abbrev pub BeginsWith : List ℕ → List ℕ → Type 0
BeginsWith prefix line = (rest : List ℕ) × (line ≡ prefix ++ rest)

-- line 2 is another verdict than 'satisfied 0'
abbrev pub HasOtherVerdict : List ℕ → Type 0
HasOtherVerdict bytes =
    (line : List ℕ) × IsLine 2 bytes line × BeginsWith (codes "verdict ") line × (line ≢ codes "verdict satisfied 0")

-- line 4 is a chain with reductions
abbrev pub HasReductions : List ℕ → Type 0
HasReductions bytes = (line : List ℕ) × IsLine 4 bytes line × BeginsWith (codes "chain ") line

-- of a form that isn't read yet, whatever else is wrong with it
abbrev pub IsUnbuilt : List ℕ → Type 0
IsUnbuilt bytes = HasOtherVerdict bytes ⊎ HasReductions bytes
