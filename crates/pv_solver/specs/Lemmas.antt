-- Lemmas: lines of a log that follow, are new and aren't empty.
use Rattle.std.specs.Prelude.{ℕ, ◌<◌, List, length}
use Rattle.pv_log.specs.declared.line.Line.{Line}
use Rattle.pv_log.specs.Follows.{EachFollows}
use Rattle.pv_log.specs.Newness.{FollowsNew, NoneEmpty}

-- a line that may be learned
pub record IsLemma (variables : ℕ) (clauses : List (List ℕ)) (line : Line) : Type 0 where
  pub new : FollowsNew variables clauses line
  pub nonempty : 0 < length line.lits

-- each line was one that may be learned
pub record AreLemmas (variables : ℕ) (clauses : List (List ℕ)) (lines : List Line) : Type 0 where
  pub each : EachFollows (FollowsNew variables) clauses lines
  pub none_empty : NoneEmpty lines
