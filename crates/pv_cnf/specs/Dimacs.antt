-- The DIMACS CNF text of a formula (the format of the second DIMACS challenge and of the SAT competitions).
use Rattle.std.specs.Prelude.{ℕ, List, [], ◌++◌, length, codes, if◌then◌else◌}
use Rattle.std.specs.List.{flat_map}
use Rattle.std.specs.Fmt.{decimal}
use Rattle.pv_cnf.specs.Literal.{variable_of, is_negated}

-- variable v is written v, and its negation -v
abbrev pub literal_text : ℕ → List ℕ
literal_text lit = (if is_negated lit then codes "-" else []) ++ decimal (variable_of lit)

-- a clause is a line: its literals with a blank after each, then a 0
abbrev pub clause_line : List ℕ → List ℕ
clause_line lits = flat_map (λ lit. literal_text lit ++ codes " ") lits ++ codes "0\n"

-- the first line: how many variables and clauses there are
abbrev pub header_line : ℕ → ℕ → List ℕ
header_line variables count = codes "p cnf " ++ decimal variables ++ codes " " ++ decimal count ++ codes "\n"

-- the whole text: the header and a line for each clause
abbrev pub dimacs_text : ℕ → List (List ℕ) → List ℕ
dimacs_text variables clauses = header_line variables (length clauses) ++ flat_map clause_line clauses
