-- Clauses that are filed under one of their literals each. The clauses are numbered from 1, and those under one literal form a
-- chain from the last one back.
use Rattle.std.specs.Prelude.{◌≡◌, ℕ, zero, suc, ◌+◌, ◌-◌, ◌*◌, ◌<◌, ◌≤◌, Bool, true, false, List, ◌∷◌, length, Option, Some, None, slice_index_or}
use Rattle.std.specs.List.{list_any}
use Rattle.pv_log.specs.Propagation.{is_false, is_falsified, named}

pub record Filed : Type 0 where
  -- by literal, the clause that was filed last under it, or 0; under 0 are the clauses without a literal
  pub heads : List ℕ
  -- by clause, the one filed before it under the same literal, or 0
  pub nexts : List ℕ

-- the clause so many steps back
abbrev pub steps_back : List ℕ → ℕ → ℕ → ℕ
steps_back nexts zero id = id
steps_back nexts (suc k) id = steps_back nexts k (slice_index_or nexts id 0)

-- a clause comes in a chain from this one on
pub record ComesAfter (nexts : List ℕ) (from id : ℕ) : Type 0 where
  pub back : ℕ
  pub there : steps_back nexts back from ≡ id

-- a clause is in a literal's chain
abbrev pub IsUnder : Filed → ℕ → ℕ → Type 0
IsUnder filed lit id = ComesAfter filed.nexts (slice_index_or filed.heads lit 0) id

-- a literal of the clause under which it is filed, or 0
pub record HasPlace (filed : Filed) (id : ℕ) (clause : List ℕ) : Type 0 where
  pub lit : ℕ
  pub own : is_false (0 ∷ clause) lit ≡ true
  pub under : IsUnder filed lit id

-- these clauses are filed, over the variables 1 to this one
pub record IsFiled (variables : ℕ) (filed : Filed) (clauses : List (List ℕ)) : Type 0 where
  pub literals : length filed.heads ≡ 2 * variables + 2
  pub count : length filed.nexts ≡ length clauses + 1
  pub first : (lit : ℕ) → slice_index_or filed.heads lit 0 < length filed.nexts
  pub before : (id : ℕ) → slice_index_or filed.nexts id 0 ≤ id - 1
  pub each : (id : ℕ) (clause : List ℕ) → named clauses id ≡ Some clause → HasPlace filed id clause

-- whether it is a clause that is false
abbrev pub is_false_one : List ℕ → Option (List ℕ) → Bool
is_false_one falses None = false
is_false_one falses (Some clause) = is_falsified falses clause

-- what was found out about the clauses under a literal: one of all is false, or none of these
abbrev pub FindsFalse : List ℕ → List (List ℕ) → Filed → ℕ → Bool → Type 0
FindsFalse falses clauses filed lit true = list_any (is_falsified falses) clauses ≡ true
FindsFalse falses clauses filed lit false =
    (id : ℕ) (clause : List ℕ) → named clauses id ≡ Some clause → IsUnder filed lit id → is_falsified falses clause ≡ false
