-- What clauses, a trail and watches keep together. Each clause of two or more literals has two slots, which watch different literals of
-- it, and each slot stands in the list of its literal and in no other. A watched literal that is false, and whose turn in the
-- propagation is over, stands beside one that is true since a decision no later than the one by which the first became false.
use Rattle.std.specs.Prelude.{◌≡◌, ◌≢◌, ℕ, ◌+◌, ◌-◌, ◌*◌, ◌/◌, ◌<◌, ◌≤◌, true, false, List, length, Contains, Some, slice_get, slice_index}
use Rattle.std.specs.List.{AllByRecursion}
use Rattle.pv_cnf.specs.Literal.{complement}
use Rattle.pv_cnf.specs.Clause.{AreClauses, has_double}
use Rattle.pv_log.specs.Propagation.{is_false, named}
use Rattle.pv_region.specs.declared.watch.Watch.{Watch}
use Rattle.pv_region.specs.Stored.{Stored, used_of, all_lits, list_of}
use Rattle.pv_region.specs.Links.{code_of}
use Rattle.pv_watch.specs.Trail.{Path, IsSound}

-- the literal that a slot watches
abbrev pub literal_at : List ℕ → Watch → ℕ
literal_at slots w = slice_index slots (code_of w)

-- the other slot of a clause
abbrev pub other : Watch → Watch
other w = record { id = w.id; slot = 1 - w.slot }

-- a slot of a clause or lemma that has two literals or more
pub record IsSlotOf (s : Stored) (w : Watch) (clause : List ℕ) : Type 0 where
  pub slot : w.slot < 2
  pub at : named (all_lits s) w.id ≡ Some clause
  pub long : 1 < length clause

-- it watches a literal of the clause, in whose list it stands, and not the other slot's
pub record Watches (s : Stored) (slots : List ℕ) (w : Watch) (clause : List ℕ) : Type 0 where
  pub own : is_false clause (literal_at slots w) ≡ true
  pub differs : literal_at slots w ≢ literal_at slots (other w)
  pub there : Contains (list_of s (literal_at slots w)) w

-- what stands in the list of a literal is a slot that watches it
pub record IsWatch (s : Stored) (slots : List ℕ) (lit : ℕ) (w : Watch) : Type 0 where
  pub literal : literal_at slots w ≡ lit
  pub clause : List ℕ
  pub of_clause : IsSlotOf s w clause

pub record AreWatched (s : Stored) (slots : List ℕ) : Type 0 where
  pub each : (w : Watch) (clause : List ℕ) → IsSlotOf s w clause → Watches s slots w clause
  pub only : (lit : ℕ) (w : Watch) → 2 ≤ lit → Contains (list_of s lit) w → IsWatch s slots lit w

-- a literal is true since a decision no later than that of place p
pub record IsTrueSince (path : Path) (p lit : ℕ) : Type 0 where
  pub place : ℕ
  pub there : slice_get path.falses place ≡ Some (complement lit)
  pub since : AllByRecursion (λ s. p < s → place < s) path.starts

-- where the first literal is false and its turn is over, the second is true since no later
abbrev pub StandsBeside : Path → ℕ → ℕ → ℕ → Type 0
StandsBeside path done lit beside = (p : ℕ) → p < done → slice_get path.falses p ≡ Some lit → IsTrueSince path p beside

-- each watched literal whose turn is over stands beside a true one, where it is false
abbrev pub AreGuarded : Stored → Path → List ℕ → ℕ → Type 0
AreGuarded s path slots done =
    (w : Watch) (clause : List ℕ) → IsSlotOf s w clause → StandsBeside path done (literal_at slots w) (literal_at slots (other w))

-- what a propagation keeps, of which the turns of the first `done` literals are over
pub record Keeps (s : Stored) (path : Path) (slots : List ℕ) (done : ℕ) : Type 0 where
  pub variables : s.variables ≡ path.variables
  pub small : s.capacity ≤ 250000000
  pub lists : length s.lists ≡ 2 * s.variables
  pub valid : AreClauses s.variables (all_lits s)
  pub distinct : has_double path.falses ≡ false
  pub fits : used_of s ≤ s.capacity
  pub room : length slots ≡ 2 * (s.capacity / 3) + 2
  pub watched : AreWatched s slots
  pub guarded : AreGuarded s path slots done
  pub turns : AllByRecursion (λ start. start ≤ done) path.starts
  pub within : done ≤ length path.falses

-- a literal of the clause is true since before all decisions
pub record IsTrueFirst (path : Path) (clause : List ℕ) : Type 0 where
  pub lit : ℕ
  pub own : is_false clause lit ≡ true
  pub place : ℕ
  pub there : slice_get path.falses place ≡ Some (complement lit)
  pub since : AllByRecursion (λ s. place < s) path.starts

-- each clause of one literal is true since before all decisions
abbrev pub OnesAreTrue : List (List ℕ) → Path → Type 0
OnesAreTrue clauses path =
    (id : ℕ) (clause : List ℕ) → named clauses id ≡ Some clause → length clause ≡ 1 → IsTrueFirst path clause

-- a trail that unit propagation made, and clauses of which those of one literal are true since before all decisions
pub record IsReady (clauses : List (List ℕ)) (path : Path) : Type 0 where
  pub sound : IsSound clauses path
  pub ones : OnesAreTrue clauses path
