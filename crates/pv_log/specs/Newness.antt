-- Which lines of a log are new: those that no clause before them subsumes.
use Rattle.std.specs.Prelude.{◌≡◌, ℕ, ◌<◌, Bool, false, List, length, Option, Some, None, nat_eq, if◌then◌else◌}
use Rattle.std.specs.List.{list_any, list_all, AllByRecursion}
use Rattle.pv_log.specs.declared.line.Line.{Line}
use Rattle.pv_log.specs.declared.fault.LineFault.{LineFault}
use Rattle.pv_log.specs.declared.fault.LineFault.TheVariants.{NotNew}
use Rattle.pv_log.specs.Follows.{Follows, fault_of}

-- whether all literals of a clause are among these
abbrev pub subsumes : List ℕ → List ℕ → Bool
subsumes clause lits = list_all (λ lit. list_any (nat_eq lit) lits) clause

-- whether one of the clauses has all its literals among these
abbrev pub is_subsumed : List (List ℕ) → List ℕ → Bool
is_subsumed clauses lits = list_any (λ clause. subsumes clause lits) clauses

-- A line follows the clauses before it, those of the formula and those of earlier lines, and none of them has
-- all its literals among the line's.
pub record FollowsNew (variables : ℕ) (clauses : List (List ℕ)) (line : Line) : Type 0 where
  pub follows : Follows variables clauses line
  pub fresh : is_subsumed clauses line.lits ≡ false

-- what is wrong first with a line that has to be new: that it isn't comes after all else
abbrev pub new_fault_of : ℕ → List (List ℕ) → Line → Option LineFault
new_fault_of variables clauses line = elim (fault_of variables clauses line) [
  | Some fault ↦ Some fault
  | None ↦ if is_subsumed clauses line.lits then Some NotNew else None
]

-- the clause of each line has a literal
abbrev pub NoneEmpty : List Line → Type 0
NoneEmpty lines = AllByRecursion (λ line. 0 < length line.lits) lines
