-- The log and the values, as they lie in a region and on a trail.
use Rattle.std.specs.Prelude.{ℕ, zero, suc, Bool, ◌+◌, ◌*◌, List, [], ◌∷◌, ◌++◌, length}
use Rattle.pv_log.specs.declared.line.Line.{Line}
use Rattle.pv_log.specs.Propagation.{is_false}
use Rattle.pv_region.specs.Stored.{Stored, Hinted}
use Rattle.pv_watch.specs.Trail.{Path}
use Rattle.pv_solver.specs.declared.answer.Answer.{Answer}
use Rattle.pv_solver.specs.declared.answer.Answer.TheVariants.{Sat, Unsat, SpentLemmas, SpentRegion}

-- lemmas as lines, the first of which has this id
abbrev pub lines_from : ℕ → List Hinted → List Line
lines_from id [] = []
lines_from id (lemma ∷ lemmas) = record { id = id; lits = lemma.lits; hints = lemma.hints } ∷ lines_from (id + 1) lemmas

-- the lemmas of a region: their ids go on from the clauses'
abbrev pub lines_in : Stored → List Line
lines_in s = lines_from (length s.clauses + 1) s.lemmas

-- the log with an answer: after Unsat the empty line, which lies outside the region, is the last
abbrev pub log_as : Stored → Line → Answer → List Line
log_as s last Sat = lines_in s
log_as s last Unsat = lines_in s ++ last ∷ []
log_as s last SpentLemmas = lines_in s
log_as s last (SpentRegion need) = lines_in s

-- how many lines lie outside the region
abbrev pub extra_as : Answer → ℕ
extra_as Sat = 0
extra_as Unsat = 1
extra_as SpentLemmas = 0
extra_as (SpentRegion need) = 0

-- the values of 0 and the variables below this: true where the negation is false
abbrev pub values_to : List ℕ → ℕ → List Bool
values_to falses zero = []
values_to falses (suc v) = values_to falses v ++ is_false falses (2 * v + 1) ∷ []

-- the values with an answer: each variable's after Sat, and none else
abbrev pub values_as : Path → Answer → List Bool
values_as path Sat = values_to path.falses (path.variables + 1)
values_as path Unsat = []
values_as path SpentLemmas = []
values_as path (SpentRegion need) = []
