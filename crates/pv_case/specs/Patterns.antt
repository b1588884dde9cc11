-- The kinds of requirements by their names, and how many expressions each has.
use Rattle.std.specs.Prelude.{ℕ, List, codes, bytes_eq, if◌then◌else◌, Option, Some, None}
use Rattle.pv_case.specs.declared.case.PatternKind.{PatternKind}
use Rattle.pv_case.specs.declared.case.PatternKind.TheVariants.{Invariant, Forbidden, Implication, Within, Between, Reach}

unfoldable pub kind_named : List ℕ → Option PatternKind
kind_named text =
    if bytes_eq text (codes "invariant") then Some Invariant
    else (if bytes_eq text (codes "forbidden") then Some Forbidden
    else (if bytes_eq text (codes "implication") then Some Implication
    else (if bytes_eq text (codes "within") then Some Within
    else (if bytes_eq text (codes "between") then Some Between
    else (if bytes_eq text (codes "reach") then Some Reach else None)))))

abbrev pub expressions_of : Option PatternKind → ℕ
expressions_of None = 0
expressions_of (Some Invariant) = 1
expressions_of (Some Forbidden) = 1
expressions_of (Some Implication) = 2
expressions_of (Some Within) = 2
expressions_of (Some Between) = 3
expressions_of (Some Reach) = 1
