-- What a solver is, and what its answers say.
use Rattle.std.specs.Prelude.{◌≡◌, ℕ, Bool, false, ◌+◌, ◌<◌, ◌≤◌, List, [], length, Option, None, Some, slice_index_or}
use Rattle.pv_cnf.specs.Clause.{Holds}
use Rattle.pv_log.specs.declared.line.Line.{Line}
use Rattle.pv_log.specs.Follows.{Follows, IsAccepted}
use Rattle.pv_solver.specs.declared.answer.Answer.{Answer}
use Rattle.pv_solver.specs.declared.answer.Answer.TheVariants.{Sat, Unsat, SpentLemmas, SpentRegion}
use Rattle.pv_solver.specs.Costs.{line_cost, words_with}
use Rattle.pv_solver.specs.Lemmas.{IsLemma, AreLemmas}
use Rattle.pv_solver.specs.Quiet.{with_lines, NoneFalse}

-- a formula with its limits: the words that there are, and how many lemmas may be learned
pub record Problem : Type 0 where
  pub variables : ℕ
  pub clauses : List (List ℕ)
  pub words : ℕ
  pub lemmas : ℕ

-- what was found: the answer, the lines of the log, the value of each variable with one for 0 where the answer is Sat, and the
-- lemma for which there was no room where it is SpentRegion
pub record Outcome : Type 0 where
  pub answer : Answer
  pub log : List Line
  pub values : List Bool
  pub next : Line

-- a solver: its problem, and what was found once it has answered
pub record Solving : Type 0 where
  pub problem : Problem
  pub outcome : Option Outcome

-- the value of each variable
abbrev pub truth_of : List Bool → ℕ → Bool
truth_of values v = slice_index_or values v false

-- a limit was spent: the lines are lemmas, and unit propagation over the clauses and the lines makes none of
-- them false
pub record IsSpent (p : Problem) (lines : List Line) : Type 0 where
  pub lemmas : AreLemmas p.variables p.clauses lines
  pub none_false : NoneFalse (with_lines p.clauses lines)

-- the lemmas are spent
pub record HasSpentLemmas (p : Problem) (lines : List Line) : Type 0 where
  pub spent : IsSpent p lines
  pub all : length lines ≡ p.lemmas

-- the region is spent: there is one more lemma, for which a line is left, and with it `need` words, more than
-- there are, would be in use, while those without it fit
pub record HasSpentRegion (p : Problem) (lines : List Line) (next : Line) (need : ℕ) : Type 0 where
  pub spent : IsSpent p lines
  pub left : length lines < p.lemmas
  pub fits : words_with p.variables p.clauses lines ≤ p.words
  pub next_is : IsLemma p.variables (with_lines p.clauses lines) next
  pub sum : need ≡ words_with p.variables p.clauses lines + line_cost next
  pub past : p.words < need

-- what an answer says of the problem and of what was found
abbrev pub Says : Problem → List Line → List Bool → Line → Answer → Type 0
Says p lines values next Sat = Holds (truth_of values) p.clauses × (length values ≡ p.variables + 1)
Says p lines values next Unsat = IsAccepted (Follows p.variables) p.clauses lines
Says p lines values next SpentLemmas = HasSpentLemmas p lines
Says p lines values next (SpentRegion need) = HasSpentRegion p lines next need

abbrev pub SaysAll : Problem → Outcome → Type 0
SaysAll p found = Says p found.log found.values found.next found.answer

-- the answer, if there is one
abbrev pub answer_of : Option Outcome → Option Answer
answer_of None = None
answer_of (Some found) = Some found.answer

-- the lines that were found
abbrev pub lines_of : Option Outcome → List Line
lines_of None = []
lines_of (Some found) = found.log

-- the values that were found, with one for 0
abbrev pub values_of : Option Outcome → List Bool
values_of None = []
values_of (Some found) = found.values

-- the lemma for which there was no room, where that is the answer
abbrev pub next_as : Answer → Line → Option Line
next_as Sat next = None
next_as Unsat next = None
next_as SpentLemmas next = None
next_as (SpentRegion need) next = Some next

abbrev pub next_of : Option Outcome → Option Line
next_of None = None
next_of (Some found) = next_as found.answer found.next

-- the variables from 1 to this have a value
abbrev pub assigned_as : ℕ → Answer → ℕ
assigned_as variables Sat = variables
assigned_as variables Unsat = 0
assigned_as variables SpentLemmas = 0
assigned_as variables (SpentRegion need) = 0

abbrev pub assigned_in : ℕ → Option Outcome → ℕ
assigned_in variables None = 0
assigned_in variables (Some found) = assigned_as variables found.answer

abbrev pub assigned_of : Solving → ℕ
assigned_of s = assigned_in s.problem.variables s.outcome
