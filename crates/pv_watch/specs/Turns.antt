-- What the parts of a propagation say.
use Rattle.std.specs.Prelude.{◌≡◌, ◌≢◌, ◌⊎◌, ℕ, ◌+◌, ◌<◌, ◌≤◌, true, false, List, [], ◌∷◌, ◌++◌, length, Contains, Option, None, Some, slice_get}
use Rattle.std.specs.List.{AllByRecursion}
use Rattle.pv_cnf.specs.Literal.{complement, is_outside}
use Rattle.pv_cnf.specs.Clause.{IsClause}
use Rattle.pv_log.specs.Propagation.{is_false, named, is_falsified}
use Rattle.pv_region.specs.declared.watch.Watch.{Watch}
use Rattle.pv_region.specs.Stored.{Stored, count_of, all_lits, list_of, with_list}
use Rattle.pv_watch.specs.declared.visit.Visit.{Visit}
use Rattle.pv_watch.specs.declared.visit.Visit.TheVariants.{Stays, Moves, Conflict}
use Rattle.pv_watch.specs.declared.turn.Walk.{Walk}
use Rattle.pv_watch.specs.Trail.{Path, IsSound, Extends}
use Rattle.pv_watch.specs.Quiet.{IsConflict}
use Rattle.pv_watch.specs.Watched.{literal_at, other, StandsBeside, Keeps, IsTrueFirst}

-- a literal of the clause other than this one that isn't false
pub record CanWatch (falses clause : List ℕ) (other lit : ℕ) : Type 0 where
  pub own : is_false clause lit ≡ true
  pub differs : lit ≢ other
  pub free : is_false falses lit ≡ false

-- such a literal, or that all but this one are false
abbrev pub Replaces : List ℕ → List ℕ → ℕ → Option ℕ → Type 0
Replaces falses clause other None = (lit : ℕ) → is_false clause lit ≡ true → lit ≢ other → is_false falses lit ≡ true
Replaces falses clause other (Some lit) = CanWatch falses clause other lit

-- all literals of the clause but this one are false
pub record LeavesOne (path : Path) (clause : List ℕ) (lit : ℕ) : Type 0 where
  pub valid : IsClause path.variables clause
  pub own : is_false clause lit ≡ true
  pub rest : Replaces path.falses clause lit None

-- this literal of the clause is true, for which the clause may be the reason
pub record IsMadeTrue (old new : Path) (id : ℕ) (clause : List ℕ) (lit : ℕ) : Type 0 where
  pub extends : Extends old new
  pub true_is : is_false new.falses (complement lit) ≡ true
  pub sound : (clauses : List (List ℕ)) → named clauses id ≡ Some clause → IsSound clauses old → IsSound clauses new

-- what comes of a look at a clause
abbrev pub Looks : Path → Path → ℕ → List ℕ → ℕ → Visit → Type 0
Looks old new id clause other Stays = IsMadeTrue old new id clause other
Looks old new id clause other (Moves lit) = (new ≡ old) × CanWatch old.falses clause other lit
Looks old new id clause other Conflict = (new ≡ old) × (is_falsified old.falses clause ≡ true)

-- the clause of an entry, whose other slot watches this literal
pub record IsVisited (s : Stored) (path : Path) (w : Watch) (other : ℕ) : Type 0 where
  pub clause : List ℕ
  pub at : named (all_lits s) w.id ≡ Some clause
  pub valid : IsClause path.variables clause
  pub own : is_false clause other ≡ true
  pub from_one : 0 < w.id
  pub to_last : w.id ≤ count_of s

-- the last of some entries, if there is one
abbrev pub IsLastOf : List Watch → Option Watch → Type 0
IsLastOf ws None = ws ≡ []
IsLastOf ws (Some w) = (front : List Watch) × (ws ≡ front ++ w ∷ [])

-- the literal of the other slot is true
abbrev pub OtherIsTrue : List ℕ → List ℕ → Watch → Type 0
OtherIsTrue falses slots w = is_false falses (complement (literal_at slots (other w))) ≡ true

-- the walk over the list of a literal whose turn it is, with these entries to come
pub record Walks (s : Stored) (path : Path) (slots : List ℕ) (walk : Walk) (left : List Watch) : Type 0 where
  pub keeps : Keeps s path slots walk.place
  pub turn : slice_get path.falses walk.place ≡ Some walk.lit
  pub inside : is_outside s.variables walk.lit ≡ false
  pub kept : List Watch
  pub list : list_of s walk.lit ≡ kept ++ left
  pub before : IsLastOf kept walk.before
  pub count : walk.kept ≡ length kept
  pub trues : AllByRecursion (OtherIsTrue path.falses slots) kept
  pub few : length kept + length left < 9223372036854775808

-- the walk stands at an entry
pub record IsAtEntry (s : Stored) (path : Path) (slots : List ℕ) (walk : Walk) (w : Watch) : Type 0 where
  pub left : List Watch
  pub walks : Walks s path slots walk (w ∷ left)

-- the clauses and lemmas stay
pub record SameText (old new : Stored) : Type 0 where
  pub variables : new.variables ≡ old.variables
  pub capacity : new.capacity ≡ old.capacity
  pub clauses : new.clauses ≡ old.clauses
  pub lemmas : new.lemmas ≡ old.lemmas

-- a clause's two slots in the lists of these literals
abbrev pub attached : Stored → ℕ → ℕ → ℕ → Stored
attached s id first second =
    let one = with_list s first (record { id = id; slot = 0 } ∷ list_of s first) in
    with_list one second (record { id = id; slot = 1 } ∷ list_of one second)

-- propagation has gone on
pub record GoesOn (s t : Stored) (old new : Path) : Type 0 where
  pub text : SameText s t
  pub extends : Extends old new
  pub sound : IsSound (all_lits t) new

-- each entry of the list of a literal was looked at, and stands beside a true literal
pub record IsTurned (s : Stored) (path : Path) (slots : List ℕ) (done lit : ℕ) : Type 0 where
  pub keeps : Keeps s path slots done
  pub trues : AllByRecursion (OtherIsTrue path.falses slots) (list_of s lit)

-- a clause is false
pub record IsStuck (s : Stored) (path : Path) (slots : List ℕ) (done id : ℕ) : Type 0 where
  pub keeps : Keeps s path slots done
  pub conflict : IsConflict (all_lits s) path.falses id

-- ---- more clauses

-- a literal of the clause has no value
pub record HasUnset (falses clause : List ℕ) : Type 0 where
  pub lit : ℕ
  pub own : is_false clause lit ≡ true
  pub not_false : is_false falses lit ≡ false
  pub not_true : is_false falses (complement lit) ≡ false

-- the place at which the last decision was taken, or 0
pub record IsLevel (path : Path) (level : ℕ) : Type 0 where
  pub bound : level ≤ length path.falses
  pub low : AllByRecursion (λ s. s ≤ level) path.starts
  pub at : ((path.starts ≡ []) × (level ≡ 0)) ⊎ Contains path.starts level

-- two literals at which a new clause can be watched, where the turns of the first `done` are over
pub record CanAttach (path : Path) (done : ℕ) (clause : List ℕ) (first second : ℕ) : Type 0 where
  pub own_first : is_false clause first ≡ true
  pub own_second : is_false clause second ≡ true
  pub differ : first ≢ second
  pub beside_first : StandsBeside path done first second
  pub beside_second : StandsBeside path done second first

-- a clause of one literal, which is true since before all decisions
pub record IsOne (path : Path) (clause : List ℕ) : Type 0 where
  pub one : length clause ≡ 1
  pub first : IsTrueFirst path clause

-- what comes of a lemma that has entered
pub record HasEntered (old new : Path) (id : ℕ) (clause : List ℕ) : Type 0 where
  pub extends : Extends old new
  pub sound : (clauses : List (List ℕ)) → named clauses id ≡ Some clause → IsSound clauses old → IsSound clauses new

-- a literal of the clause with this number is true, if it has one alone
pub record IsTrueAt (falses clause : List ℕ) : Type 0 where
  pub lit : ℕ
  pub own : is_false clause lit ≡ true
  pub true_is : is_false falses (complement lit) ≡ true

abbrev pub OneIsTrue : List (List ℕ) → List ℕ → ℕ → Type 0
OneIsTrue clauses falses id = (clause : List ℕ) → named clauses id ≡ Some clause → length clause ≡ 1 → IsTrueAt falses clause
