-- Unit propagation on lists. A partial assignment is the list of the literals that were made false so far: a
-- literal is true where its complement was, and has no value where neither was.
use Rattle.std.specs.Prelude.{◌≡◌, ℕ, zero, suc, Bool, true, false, not, List, [], ◌∷◌, ◌++◌, Option, Some, None, Result, Ok, Err, nat_eq, filter, slice_get, if◌then◌else◌}
use Rattle.std.specs.List.{list_any}
use Rattle.std.specs.Result.{result_err}
use Rattle.pv_cnf.specs.Literal.{complement}
use Rattle.pv_log.specs.declared.fault.LineFault.{LineFault}
use Rattle.pv_log.specs.declared.fault.LineFault.TheVariants.{UnknownHint, NotUnit, LastNotFalse}

-- whether a literal is false
abbrev pub is_false : List ℕ → ℕ → Bool
is_false falses lit = list_any (nat_eq lit) falses

-- the literals of a clause that aren't false
abbrev pub left_of : List ℕ → List ℕ → List ℕ
left_of falses clause = filter (λ lit. not (is_false falses lit)) clause

-- the literal, if there is no other and it has no value
abbrev pub sole_unset : List ℕ → List ℕ → Option ℕ
sole_unset falses [] = None
sole_unset falses (lit ∷ []) = if is_false falses (complement lit) then None else Some lit
sole_unset falses (lit ∷ other ∷ lits) = None

-- the literal without a value of a clause whose other literals are all false
abbrev pub unit_of : List ℕ → List ℕ → Option ℕ
unit_of falses clause = sole_unset falses (left_of falses clause)

-- whether all literals of the clause are false
abbrev pub is_falsified : List ℕ → List ℕ → Bool
is_falsified falses clause = elim (left_of falses clause) [ [] ↦ true | _ ∷ _ ↦ false ]

-- the clause with an id: ids count from 1
abbrev pub named : List (List ℕ) → ℕ → Option (List ℕ)
named clauses zero = None
named clauses (suc n) = slice_get clauses n

-- The hints lead to a false clause: each but the last names a clause with all literals false but one without a
-- value, which becomes true, and the last names a clause with all literals false.
abbrev pub LeadsToFalse : List (List ℕ) → List ℕ → List ℕ → Type 0
LeadsToFalse clauses falses [] = ⊥
LeadsToFalse clauses falses (h ∷ []) =
    (clause : List ℕ) × (named clauses h ≡ Some clause) × (is_falsified falses clause ≡ true)
LeadsToFalse clauses falses (h ∷ next ∷ hints) =
    (clause : List ℕ) × (lit : ℕ) × (named clauses h ≡ Some clause) × (unit_of falses clause ≡ Some lit)
    × LeadsToFalse clauses (falses ++ complement lit ∷ []) (next ∷ hints)

-- what a last hint that names this clause shows
abbrev pub last_step : List ℕ → Option (List ℕ) → Result (List ℕ) LineFault
last_step falses None = Err UnknownHint
last_step falses (Some clause) = if is_falsified falses clause then Ok falses else Err LastNotFalse

-- what is false after another hint that names this clause
abbrev pub unit_step : List ℕ → Option (List ℕ) → Result (List ℕ) LineFault
unit_step falses None = Err UnknownHint
unit_step falses (Some clause) =
    elim (unit_of falses clause) [ None ↦ Err NotUnit | Some lit ↦ Ok (falses ++ complement lit ∷ []) ]

-- what is wrong first with the hints, each tried before the next one
abbrev pub hints_fault : List (List ℕ) → List ℕ → List ℕ → Option LineFault
hints_fault clauses falses [] = Some LastNotFalse
hints_fault clauses falses (h ∷ []) = result_err (last_step falses (named clauses h))
hints_fault clauses falses (h ∷ next ∷ hints) = elim (unit_step falses (named clauses h)) [
  | Err fault ↦ Some fault
  | Ok more ↦ hints_fault clauses more (next ∷ hints)
]
