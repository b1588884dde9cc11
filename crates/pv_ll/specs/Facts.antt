-- what the test of a table makes sure of, as facts
use Rattle.std.specs.Prelude.{◌≡◌, ℕ, ◌<◌, ◌≤◌, true, List, [], ◌∷◌, Some, slice_get}
use Rattle.std.specs.Int.{bit_at}
use Rattle.pv_ll.specs.declared.table.Symbol.{Symbol}
use Rattle.pv_ll.specs.declared.table.Symbol.TheVariants.{Token, Name}
use Rattle.pv_ll.specs.declared.table.Alternative.{Alternative}
use Rattle.pv_ll.specs.declared.table.Language.{Language}
use Rattle.pv_ll.specs.Grammar.{Grammar, IsSentence}
use Rattle.pv_ll.specs.Table.{grammar_of, body_of, rule, vanish, next, front}

-- alternative k of the table
abbrev pub Selects : Language → ℕ → Alternative → Type 0
Selects l k a = slice_get l.alternatives.now k ≡ Some a

-- each kind of the first set is in the second
abbrev pub IsSubset : ℕ → ℕ → Type 0
IsSubset x y = (t : ℕ) → bit_at x t ≡ 1 → bit_at y t ≡ 1

-- what may come behind each name of a list, before these kinds, is in its follow set
abbrev pub Followed : Language → ℕ → List Symbol → Type 0
Followed l after [] = Unit {0}
Followed l after (Token t ∷ ss) = Followed l after ss
Followed l after (Name n ∷ ss) = IsSubset (next l after ss) (rule l n).follow × Followed l after ss

-- each name of a list derives something
abbrev pub Lives : Grammar → List Symbol → Type 0
Lives g [] = Unit {0}
Lives g (Token t ∷ ss) = Lives g ss
Lives g (Name n ∷ ss) = ((w : List ℕ) × IsSentence g n w) × Lives g ss

-- each token of a list is one of that many kinds
abbrev pub IsWithin : ℕ → List Symbol → Type 0
IsWithin kinds [] = Unit {0}
IsWithin kinds (Token t ∷ ss) = (t < kinds) × IsWithin kinds ss
IsWithin kinds (Name n ∷ ss) = IsWithin kinds ss

-- what holds of each alternative
pub record Serves (l : Language) (a : Alternative) : Type 0 where
  pub predicted : IsSubset (next l (rule l a.name).follow (body_of l a)) a.when
  pub first : IsSubset (next l 0 (body_of l a)) (rule l a.name).first
  pub nullable : vanish l (body_of l a) ≡ true → (rule l a.name).nullable ≡ true
  pub followed : Followed l (rule l a.name).follow (body_of l a)
  pub falls : front l (body_of l a) < (rule l a.name).weight
  pub lives : Lives (grammar_of l) (body_of l a)
  pub within : IsWithin l.kinds (body_of l a)

-- what holds of a table that passes the test
pub record IsLL1 (l : Language) : Type 0 where
  pub kinds : l.kinds < 128
  pub start_ends : bit_at (rule l l.start).follow l.kinds ≡ 1
  pub start_lives : (w : List ℕ) × IsSentence (grammar_of l) l.start w
  pub serves : (k : ℕ) (a : Alternative) → Selects l k a → Serves l a
  pub apart : (j k : ℕ) (a b : Alternative) → Selects l j a → Selects l k b → a.name ≡ b.name
      → (t : ℕ) → bit_at a.when t ≡ 1 → bit_at b.when t ≡ 1 → j ≡ k
  pub placed : (k : ℕ) (a : Alternative) → Selects l k a → ((rule l a.name).from ≤ k) × (k < (rule l a.name).to)
  pub owned : (n k : ℕ) → (rule l n).from ≤ k → k < (rule l n).to
      → (a : Alternative) × (Selects l k a) × (a.name ≡ n)
