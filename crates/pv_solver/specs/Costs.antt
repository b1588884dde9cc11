-- The words that variables, clauses and lemmas take: two for a variable (one for each of its literals), three
-- beside its literals for a clause, and four beside its literals and hints for a lemma.
use Rattle.std.specs.Prelude.{ℕ, ◌+◌, ◌*◌, List, length, sum_by, Option, None, Some, nat_lt, if◌then◌else◌}
use Rattle.pv_log.specs.declared.line.Line.{Line}
pub use Rattle.pv_region.specs.Stored.{clause_cost}

-- the words of a lemma
abbrev pub line_cost : Line → ℕ
line_cost line = 4 + length line.lits + length line.hints

-- the words in use with these clauses and no lemma
abbrev pub words_of : ℕ → List (List ℕ) → ℕ
words_of variables clauses = 2 * variables + sum_by clause_cost clauses

-- the words in use with these clauses and these lemmas
abbrev pub words_with : ℕ → List (List ℕ) → List Line → ℕ
words_with variables clauses lines = words_of variables clauses + sum_by line_cost lines

-- the words in use where they are more than there are
abbrev pub past : ℕ → ℕ → Option ℕ
past words used = if nat_lt words used then Some used else None
