-- What is learned of a conflict, and what a look at a clause shows.
use Rattle.std.specs.Prelude.{◌≡◌, ℕ, ◌+◌, ◌≤◌, true, List, [], take, Some, vec_capacity}
use Rattle.pv_log.specs.declared.line.Line.{Line}
use Rattle.pv_log.specs.Propagation.{unit_of, is_falsified}
use Rattle.pv_log.specs.Follows.{Follows as FollowsLog}
use Rattle.pv_watch.specs.Trail.{Path, LastIs}
use Rattle.pv_watch.specs.Quiet.{IsQuiet}
use Rattle.pv_learn.specs.declared.draft.Draft.{Draft}
use Rattle.pv_learn.specs.declared.look.Look.{Look}
use Rattle.pv_learn.specs.declared.look.Look.TheVariants as look

-- what a look at a clause shows
abbrev pub Shows : List ℕ → List ℕ → Look → Type 0
Shows falses clause look.Quiet = IsQuiet falses clause
Shows falses clause (look.Unit lit) = unit_of falses clause ≡ Some lit
Shows falses clause look.False = is_falsified falses clause ≡ true

-- the line at hand, with the number `id`
abbrev pub line_of : ℕ → List ℕ → List ℕ → Line
line_of id lits hints = record { id = id; lits = lits; hints = hints }

-- room for a line that follows: it has a literal of each variable at most, and one hint more at most
pub record HasRoom (variables for_lits for_hints : ℕ) : Type 0 where
  pub lits : variables ≤ for_lits
  pub hints : variables + 1 ≤ for_hints

-- there is no less room
pub record KeepsRoom (old new : Draft) : Type 0 where
  pub lits : vec_capacity old.lits ≤ vec_capacity new.lits
  pub hints : vec_capacity old.hints ≤ vec_capacity new.hints

-- the line follows, and is unit where the literals before the last decision are false
pub record IsAsserting (variables : ℕ) (clauses : List (List ℕ)) (start : ℕ) (falses : List ℕ) (line : Line) : Type 0 where
  pub follows : FollowsLog variables clauses line
  pub lit : ℕ
  pub unit : unit_of (take start falses) line.lits ≡ Some lit

-- the same, with the last decision's place
pub record IsNext (variables : ℕ) (clauses : List (List ℕ)) (path : Path) (line : Line) : Type 0 where
  pub start : ℕ
  pub last : LastIs path.starts start
  pub asserting : IsAsserting variables clauses start path.falses line

-- the line ends the log
pub record IsLast (variables : ℕ) (clauses : List (List ℕ)) (line : Line) : Type 0 where
  pub follows : FollowsLog variables clauses line
  pub empty : line.lits ≡ []
