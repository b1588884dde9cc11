-- The state of a search between its steps.
use Rattle.std.specs.Prelude.{◌≡◌, ◌+◌, ◌≤◌, [], ◌∷◌, ◌++◌, length, Option, Some, None, vec_capacity}
use Rattle.pv_log.specs.declared.line.Line.{Line}
use Rattle.pv_log.specs.Follows.{Follows, IsAccepted}
use Rattle.pv_region.specs.Stored.{count_of, all_lits}
use Rattle.pv_watch.specs.Quiet.{AreQuiet}
use Rattle.pv_watch.specs.Watched.{IsReady}
use Rattle.pv_solver.specs.declared.answer.Answer.{Answer}
use Rattle.pv_solver.specs.declared.answer.Answer.TheVariants.{Sat, Unsat, SpentLemmas, SpentRegion}
use Rattle.pv_solver.specs.declared.search.Search.{Search}
use Rattle.pv_solver.specs.declared.search.End.{End}
use Rattle.pv_solver.specs.declared.search.End.TheVariants.{Settled, Refuted, NoLemma, NoRoom}
use Rattle.pv_solver.specs.Lemmas.{AreLemmas}
use Rattle.pv_solver.specs.Logged.{lines_in, log_as, values_as}
use Rattle.pv_solver.specs.Answers.{Problem, Outcome, SaysAll, HasSpentLemmas, HasSpentRegion}
use Rattle.pv_learn.specs.Learning.{HasRoom, line_of}
use Rattle.pv_solver.specs.Search.{AllSet}

-- the problem of a search
abbrev pub problem_in : Search → Problem
problem_in s = record {
  variables = s.propagator.stored.variables;
  clauses = s.propagator.stored.clauses;
  words = s.propagator.stored.capacity;
  lemmas = s.lemmas;
}

-- the line at hand, as the next one
abbrev pub line_in : Search → Line
line_in s = line_of (count_of s.propagator.stored + 1) s.draft.lits.items s.draft.hints.items

-- it is a search of this problem
pub record IsOf (p : Problem) (s : Search) : Type 0 where
  pub variables : s.propagator.stored.variables ≡ p.variables
  pub clauses : s.propagator.stored.clauses ≡ p.clauses
  pub words : s.propagator.stored.capacity ≡ p.words
  pub lemmas : s.lemmas ≡ p.lemmas

-- nothing was found yet, and nothing is false
pub record IsFresh (s : Search) : Type 0 where
  pub lemmas : s.propagator.stored.lemmas ≡ []
  pub falses : s.propagator.path.falses ≡ []
  pub starts : s.propagator.path.starts ≡ []
  pub variables : s.propagator.path.variables ≡ s.propagator.stored.variables
  pub checker : s.checker ≡ s.propagator.stored.variables
  pub room : HasRoom s.propagator.stored.variables (vec_capacity s.draft.lits) (vec_capacity s.draft.hints)

-- what a search keeps but that its trail is ready
pub record IsUnderWay (p : Problem) (s : Search) : Type 0 where
  pub is_of : IsOf p s
  pub path : s.propagator.path.variables ≡ p.variables
  pub checker : s.checker ≡ p.variables
  pub room : HasRoom p.variables (vec_capacity s.draft.lits) (vec_capacity s.draft.hints)
  pub lines : AreLemmas p.variables p.clauses (lines_in s.propagator.stored)
  pub few : length s.propagator.stored.lemmas ≤ p.lemmas

-- what a search keeps
pub record IsSearching (p : Problem) (s : Search) : Type 0 where
  pub under_way : IsUnderWay p s
  pub ready : IsReady (all_lits s.propagator.stored) s.propagator.path

-- one more lemma was learned
pub record HasLearned (p : Problem) (old new : Search) : Type 0 where
  pub searching : IsSearching p new
  pub one_more : length new.propagator.stored.lemmas ≡ length old.propagator.stored.lemmas + 1

-- each variable has a value, and propagation has ended without a false clause
pub record IsSettled (p : Problem) (s : Search) : Type 0 where
  pub searching : IsSearching p s
  pub quiet : AreQuiet s.propagator.path.falses (all_lits s.propagator.stored)
  pub set : AllSet s.propagator.path.variables s.propagator.path.falses

-- what an end says
abbrev pub Ends : Problem → Search → End → Type 0
Ends p s Settled = IsSettled p s
Ends p s Refuted = IsAccepted (Follows p.variables) p.clauses (lines_in s.propagator.stored ++ line_in s ∷ [])
Ends p s NoLemma = HasSpentLemmas p (lines_in s.propagator.stored)
Ends p s (NoRoom need) = HasSpentRegion p (lines_in s.propagator.stored) (line_in s) need

-- a search of this problem has ended so
pub record HasEnded (p : Problem) (s : Search) (end : End) : Type 0 where
  pub is_of : IsOf p s
  pub says : Ends p s end

-- what came of a conflict
abbrev pub Turns : Problem → Search → Search → Option End → Type 0
Turns p old new None = HasLearned p old new
Turns p old new (Some end) = HasEnded p new end

-- the answer of an end
abbrev pub answer_as : End → Answer
answer_as Settled = Sat
answer_as Refuted = Unsat
answer_as NoLemma = SpentLemmas
answer_as (NoRoom need) = SpentRegion need

-- what was found with an answer and the line that is last
abbrev pub found_in : Search → Line → Answer → Outcome
found_in s last answer = record {
  answer = answer;
  log = log_as s.propagator.stored last answer;
  values = values_as s.propagator.path answer;
  next = last;
}

abbrev pub outcome_in : Search → Line → Option Answer → Option Outcome
outcome_in s last None = None
outcome_in s last (Some answer) = Some (found_in s last answer)

-- what a solver keeps: before its answer nothing is found, and then the answer says what it says
abbrev pub IsKept : Search → Line → Option Answer → Type 0
IsKept s last None = IsFresh s
IsKept s last (Some answer) = SaysAll (problem_in s) (found_in s last answer)
