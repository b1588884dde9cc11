-- What comes of pushing a list of clauses into a store, one after the other.
use Rattle.std.specs.Prelude.{◌≡◌, ℕ, List, [], ◌∷◌, ◌++◌, Option, Some, None, Result, Ok, Err}
use Rattle.pv_cnf.specs.declared.clauses.PushFault.{PushFault}
use Rattle.pv_cnf.specs.declared.clauses.PushFault.TheVariants.{VariableOutOfRange, Doubled, Empty, Full, NoMemory}

-- for a list of all clauses: what would be in use with them, where that is past what the store has
abbrev pub Overflow : Type 0
Overflow = List (List ℕ) → Option ℕ

-- each of the clauses fits behind those that are there and those before it
abbrev pub AllFit : Overflow → List (List ℕ) → List (List ℕ) → Type 0
AllFit overflow there [] = Unit {0}
AllFit overflow there (clause ∷ clauses) = (overflow (there ++ clause ∷ []) ≡ None) × AllFit overflow (there ++ clause ∷ []) clauses

-- why a good clause isn't taken, the last of these: it doesn't fit, or memory ran out
abbrev pub IsRefusal : Overflow → List (List ℕ) → PushFault → Type 0
IsRefusal overflow all VariableOutOfRange = ⊥
IsRefusal overflow all Doubled = ⊥
IsRefusal overflow all Empty = ⊥
IsRefusal overflow all (Full need) = overflow all ≡ Some need
IsRefusal overflow all NoMemory = Unit {0}

-- the clauses stand behind those that were there, and each fits
pub record ArePushed (overflow : Overflow) (old clauses new : List (List ℕ)) : Type 0 where
  pub stand : new ≡ old ++ clauses
  pub fit : AllFit overflow old clauses

-- one of the clauses is refused: those before it fit, and stand behind those that were there
pub record StopsAt (overflow : Overflow) (old clauses new : List (List ℕ)) (fault : PushFault) : Type 0 where
  pub before : List (List ℕ)
  pub refused : List ℕ
  pub rest : List (List ℕ)
  pub split : clauses ≡ before ++ refused ∷ rest
  pub pushed : ArePushed overflow old before new
  pub refusal : IsRefusal overflow (new ++ refused ∷ []) fault

-- what a call gives that is to push these clauses
abbrev pub Pushes : Overflow → List (List ℕ) → List (List ℕ) → List (List ℕ) → Result (Unit {0}) PushFault → Type 0
Pushes overflow old clauses new (Ok done) = ArePushed overflow old clauses new
Pushes overflow old clauses new (Err fault) = StopsAt overflow old clauses new fault
