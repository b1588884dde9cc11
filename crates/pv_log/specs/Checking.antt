-- What the steps of a check find.
use Rattle.std.specs.Prelude.{◌≡◌, ℕ, true, false, List, [], ◌∷◌, ◌++◌, map, take, Option}
use Rattle.std.specs.List.{AllByRecursion}
use Rattle.pv_cnf.specs.Clause.{has_outside}
use Rattle.pv_log.specs.declared.line.Line.{Line}
use Rattle.pv_log.specs.declared.fault.LineFault.{LineFault}
use Rattle.pv_log.specs.declared.fault.Verdict.{Verdict}
use Rattle.pv_log.specs.declared.fault.Verdict.TheVariants.{Accepted, NoEmpty, Refused}
use Rattle.pv_log.specs.declared.left.Left.{Left}
use Rattle.pv_log.specs.declared.left.Left.TheVariants as left
use Rattle.pv_log.specs.Follows.{IsAccepted, LacksEmpty, FailsFirst, ends_empty}

-- how many literals these are
abbrev pub left_as : List ℕ → Left
left_as [] = left.None
left_as (lit ∷ []) = left.One lit
left_as (lit ∷ other ∷ lits) = left.More

-- the clauses of the first n lines
abbrev pub lemmas : List Line → ℕ → List (List ℕ)
lemmas lines n = map (λ line. line.lits) (take n lines)

-- the clauses that are known after the first n lines
abbrev pub known : List (List ℕ) → List Line → ℕ → List (List ℕ)
known clauses lines n = clauses ++ lemmas lines n

-- all variables are from 1 to this one
abbrev pub AreInside : ℕ → List (List ℕ) → Type 0
AreInside variables clauses = AllByRecursion (λ clause. has_outside variables clause ≡ false) clauses

-- what the verdict is once each line follows
abbrev pub EndsAs : List Line → Verdict → Type 0
EndsAs lines Accepted = ends_empty lines ≡ true
EndsAs lines NoEmpty = ends_empty lines ≡ false
EndsAs lines (Refused n kind) = ⊥

-- what a verdict says, where this is asked of a line and this is what is wrong first
abbrev pub Says : (List (List ℕ) → Line → Type 0) → (List (List ℕ) → Line → Option LineFault) → List (List ℕ) → List Line → Verdict → Type 0
Says follows fault clauses lines Accepted = IsAccepted follows clauses lines
Says follows fault clauses lines NoEmpty = LacksEmpty follows clauses lines
Says follows fault clauses lines (Refused n kind) = FailsFirst fault clauses lines n kind
