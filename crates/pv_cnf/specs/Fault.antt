-- The faults of a clause that don't depend on the store that is to take it.
use Rattle.std.specs.Prelude.{ℕ, ◌==◌, List, length, Option, None, Some, if◌then◌else◌}
use Rattle.pv_cnf.specs.declared.clauses.PushFault.{PushFault}
use Rattle.pv_cnf.specs.declared.clauses.PushFault.TheVariants.{VariableOutOfRange, Doubled, Empty}
use Rattle.pv_cnf.specs.Clause.{has_outside, has_double}

-- the first fault of a clause over the variables 1 to n
abbrev pub first_fault : ℕ → List ℕ → Option PushFault
first_fault n lits =
    if has_outside n lits then Some VariableOutOfRange
    else (if has_double lits then Some Doubled
    else (if length lits == 0 then Some Empty else None))
