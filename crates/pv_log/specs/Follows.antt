-- Which lines of a log follow, and which logs are accepted (LRAT, additions alone).
use Rattle.std.specs.Prelude.{◌≡◌, ℕ, zero, suc, ◌+◌, ◌==◌, Bool, true, false, not, ◌||◌, List, [], ◌∷◌, ◌++◌, length, Option, Some, None, if◌then◌else◌}
use Rattle.pv_cnf.specs.Clause.{has_outside, has_double}
use Rattle.pv_log.specs.declared.line.Line.{Line}
use Rattle.pv_log.specs.declared.fault.LineFault.{LineFault}
use Rattle.pv_log.specs.declared.fault.LineFault.TheVariants.{BadId, Tautology}
use Rattle.pv_log.specs.Propagation.{LeadsToFalse, hints_fault}

-- A line follows the clauses before it, those of the formula and those of earlier lines: its id is the next
-- one, its variables are the formula's and none stands twice, and with all its literals false the hints lead
-- to a false clause.
pub record Follows (variables : ℕ) (clauses : List (List ℕ)) (line : Line) : Type 0 where
  pub next : line.id ≡ length clauses + 1
  pub inside : has_outside variables line.lits ≡ false
  pub distinct : has_double line.lits ≡ false
  pub refutes : LeadsToFalse clauses line.lits line.hints

-- what is wrong first with a line, in the order id, literals, hints
abbrev pub fault_of : ℕ → List (List ℕ) → Line → Option LineFault
fault_of variables clauses line =
    if not (line.id == length clauses + 1) then Some BadId
    else (if has_outside variables line.lits || has_double line.lits then Some Tautology
    else hints_fault clauses line.lits line.hints)

-- each line follows the clauses before it
abbrev pub EachFollows : (List (List ℕ) → Line → Type 0) → List (List ℕ) → List Line → Type 0
EachFollows follows clauses [] = Unit {0}
EachFollows follows clauses (line ∷ lines) =
    follows clauses line × EachFollows follows (clauses ++ line.lits ∷ []) lines

-- whether there is a last line, with no literal
abbrev pub ends_empty : List Line → Bool
ends_empty [] = false
ends_empty (line ∷ []) = length line.lits == 0
ends_empty (line ∷ next ∷ lines) = ends_empty (next ∷ lines)

-- the log is accepted for these clauses
pub record IsAccepted (follows : List (List ℕ) → Line → Type 0) (clauses : List (List ℕ)) (lines : List Line) : Type 0 where
  pub each : EachFollows follows clauses lines
  pub ends : ends_empty lines ≡ true

-- each line follows, but there is no last line that is empty
pub record LacksEmpty (follows : List (List ℕ) → Line → Type 0) (clauses : List (List ℕ)) (lines : List Line) : Type 0 where
  pub each : EachFollows follows clauses lines
  pub unfinished : ends_empty lines ≡ false

-- line n, from 1, is the first with a fault, and this is what is wrong first with it
abbrev pub FailsFirst : (List (List ℕ) → Line → Option LineFault) → List (List ℕ) → List Line → ℕ → LineFault → Type 0
FailsFirst fault clauses [] n kind = ⊥
FailsFirst fault clauses (line ∷ lines) zero kind = ⊥
FailsFirst fault clauses (line ∷ lines) (suc zero) kind = fault clauses line ≡ Some kind
FailsFirst fault clauses (line ∷ lines) (suc (suc n)) kind =
    (fault clauses line ≡ None) × FailsFirst fault (clauses ++ line.lits ∷ []) lines (suc n) kind
