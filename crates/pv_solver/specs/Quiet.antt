-- Where unit propagation makes no clause false.
use Rattle.std.specs.Prelude.{ℕ, List, [], ◌++◌, map}
use Rattle.pv_log.specs.declared.line.Line.{Line}
use Rattle.pv_log.specs.Propagation.{LeadsToFalse}

-- the clauses and those of the lines
abbrev pub with_lines : List (List ℕ) → List Line → List (List ℕ)
with_lines clauses lines = clauses ++ map (λ line. line.lits) lines

-- Unit propagation makes none of the clauses false: from no assumption no hints lead to a false clause, each
-- hint but the last naming a clause with all literals false but one without a value, which becomes true.
abbrev pub NoneFalse : List (List ℕ) → Type 0
NoneFalse clauses = (hints : List ℕ) → LeadsToFalse clauses [] hints → ⊥
