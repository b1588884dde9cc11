-- Where unit propagation ends.
use Rattle.std.specs.Prelude.{◌≡◌, ℕ, true, false, List, None, Some}
use Rattle.std.specs.List.{AllByRecursion}
use Rattle.pv_log.specs.Propagation.{named, unit_of, is_falsified}

-- a clause that isn't false and gives no literal a value
pub record IsQuiet (falses clause : List ℕ) : Type 0 where
  pub holds_out : is_falsified falses clause ≡ false
  pub gives_none : unit_of falses clause ≡ None

-- propagation of these literals has ended, without a false clause
abbrev pub AreQuiet : List ℕ → List (List ℕ) → Type 0
AreQuiet falses clauses = AllByRecursion (IsQuiet falses) clauses

-- the clause with this number is false
pub record IsConflict (clauses : List (List ℕ)) (falses : List ℕ) (n : ℕ) : Type 0 where
  pub clause : List ℕ
  pub at : named clauses n ≡ Some clause
  pub false_is : is_falsified falses clause ≡ true
