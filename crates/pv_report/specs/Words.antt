-- Words that reports have, and their first lines.
use Rattle.std.specs.Prelude.{ℕ, List, ◌++◌, codes}
use Rattle.pv_place.specs.declared.trap.TrapKind.{TrapKind}
use Rattle.pv_place.specs.declared.trap.TrapKind.TheVariants.{DivideByZero, Index, Unset}
use Rattle.pv_case.specs.declared.case.PatternKind.{PatternKind}
use Rattle.pv_case.specs.declared.case.PatternKind.TheVariants.{Invariant, Forbidden, Implication, Within, Between, Reach}

abbrev pub pattern_word : PatternKind → List ℕ
pattern_word Invariant = codes "invariant"
pattern_word Forbidden = codes "forbidden"
pattern_word Implication = codes "implication"
pattern_word Within = codes "within"
pattern_word Between = codes "between"
pattern_word Reach = codes "reach"

abbrev pub trap_word : TrapKind → List ℕ
trap_word DivideByZero = codes "DivideByZero"
trap_word Index = codes "Index"
trap_word Unset = codes "Unset"

-- the first three lines of each report
abbrev pub head_text : List ℕ → PatternKind → List ℕ
head_text name kind =
    codes "PLCV 1\ncase " ++ (name ++ (codes "\npattern " ++ (pattern_word kind ++ codes "\n")))
