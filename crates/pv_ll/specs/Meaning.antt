-- what names mean, as what their derivations do to a stack of values
use Rattle.std.specs.Prelude.{◌≡◌, ℕ, suc, List, [], ◌∷◌, ◌++◌, Some}
use Rattle.pv_ll.specs.declared.table.Symbol.{Symbol}
use Rattle.pv_ll.specs.declared.table.Symbol.TheVariants.{Token, Name}
use Rattle.pv_ll.specs.Grammar.{Grammar}
use Rattle.pv_ll.specs.Making.{Making, Runs}

-- what a language means by its names
pub record Meaning (T V : Type 0) : Type 1 where
  -- the name can begin on this stack
  pub wants : ℕ → List V → Type 0
  -- the name, having derived these tokens, takes the first stack to the second
  pub does : ℕ → List V → List T → List V → Type 0

-- the symbols can begin on this stack one behind another, whatever those before them do that they may
abbrev pub WantsAll : {T V : Type 0} → Making T V → Meaning T V → List Symbol → List V → Type 0
WantsAll m f [] s = Unit {0}
WantsAll {T} m f (Token k ∷ ss) s = (t : T) → m.kind t ≡ k → WantsAll m f ss (m.leaf t ∷ s)
WantsAll {T} {V} m f (Name n ∷ ss) s =
    f.wants n s × ((ts : List T) (behind : List V) → f.does n s ts behind → WantsAll m f ss behind)

-- each symbol did what it means, one behind another
pub data DoesAll {T V : Type 0} (m : Making T V) (f : Meaning T V) : List Symbol → List V → List T → List V → Type 0 where
  nil : {s : List V} → DoesAll m f [] s [] s
  tok : {k : ℕ} {t : T} {ss : List Symbol} {ts : List T} {s behind : List V} → m.kind t ≡ k
      → DoesAll m f ss (m.leaf t ∷ s) ts behind → DoesAll m f (Token k ∷ ss) s (t ∷ ts) behind
  val : {n : ℕ} {ss : List Symbol} {us ts ws : List T} {s left behind : List V} → f.does n s us left
      → DoesAll m f ss left ts behind → ws ≡ us ++ ts → DoesAll m f (Name n ∷ ss) s ws behind

-- alternative k, left on this stack, makes one of it, and its name did then what it means
pub record Reduces {T V : Type 0} (m : Making T V) (f : Meaning T V) (k n : ℕ) (s : List V) (ts : List T) (inner : List V) : Type 0 where
  pub after : List V
  pub makes : m.reduce k inner ≡ Some after
  pub mean : f.does n s ts after

-- the law of a production: where its body did what its symbols mean, its name does what it means
abbrev pub Law : {T V : Type 0} → Making T V → Meaning T V → ℕ → ℕ → List Symbol → Type 0
Law {T} {V} m f k n body =
    (s inner : List V) (ts : List T) → f.wants n s → DoesAll m f body s ts inner → Reduces m f k n s ts inner

-- a production finds what its body wants where its name finds what it wants
abbrev pub May : {T V : Type 0} → Making T V → Meaning T V → ℕ → ℕ → List Symbol → Type 0
May {T} {V} m f k n body = (s : List V) → f.wants n s → WantsAll m f body s

-- something of each production of a grammar, whose numbers begin with k: a product in the grammar's order
abbrev pub Each : (ℕ → ℕ → List Symbol → Type 0) → ℕ → Grammar → Type 0
Each P k [] = Unit {0}
Each P k (p ∷ g) = P k p.name p.body × Each P (suc k) g

-- what symbols that derive these tokens do to a stack on which they can begin: there is a stack behind them, and each did
-- what it means
pub record Outcome {T V : Type 0} (g : Grammar) (m : Making T V) (f : Meaning T V) (ss : List Symbol) (ts : List T) (s : List V) : Type 0 where
  pub behind : List V
  pub runs : Runs g m ss ts s behind
  pub does : DoesAll m f ss s ts behind
