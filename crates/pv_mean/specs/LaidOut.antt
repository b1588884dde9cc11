-- What is laid out, as the code has it: the number of a cell is exact up to what a table may have.
use Rattle.std.specs.Prelude.{ℕ, ◌+◌, List, [], ◌∷◌, bytes_eq, Bool as Truth, true, not, if◌then◌else◌, Option, Some, None}
use Rattle.pv_types.specs.declared.declaration.Section.{Section}
use Rattle.pv_types.specs.Tree.{VarTree, var}
use Rattle.pv_types.specs.View.{type_tree}
use Rattle.pv_tree.specs.Scopes.{ProjectTree, is_const, is_of_instance}
use Rattle.pv_mean.specs.declared.laid.Seen.{Seen}
use Rattle.pv_mean.specs.declared.laid.Seen.TheVariants.{Found, Behind}
use Rattle.pv_mean.specs.declared.laid.Laid as declared
use Rattle.pv_mean.specs.declared.laid.Part.{Part}
use Rattle.pv_mean.specs.declared.laid.Part.TheVariants.{Fields, Instance, Temporary, Activation}
use Rattle.pv_mean.specs.Layout.{Laid, is_temp, size_in}
use Rattle.pv_mean.specs.Counts.{capped}

abbrev pub laid_tree : declared.Laid → Laid
laid_tree laid = record { ty = type_tree laid.ty.now; first = laid.first }

abbrev pub capped_laid : Laid → Laid
capped_laid laid = record { ty = laid.ty; first = capped laid.first }

abbrev pub test_of : Part → Section → Truth
test_of Fields section = true
test_of Instance section = is_of_instance section
test_of Temporary section = is_temp section
test_of Activation section = not (is_const section)

-- goes on behind a variable that isn't the one that is looked for
abbrev pub goes_on : Seen → (ℕ → Option Laid) → Option Laid
goes_on (Found laid) rest = Some (laid_tree laid)
goes_on (Behind n) rest = rest n

-- a look at the first of some variables, whose first cell has this number
abbrev pub seen_first : ProjectTree → (Section → Truth) → VarTree → List ℕ → ℕ → (ℕ → Option Laid) → Option Laid
seen_first project test (var name section ty start place) key at rest =
    if test section
    then (if bytes_eq key name.key then Some (record { ty = ty; first = at })
    else rest (capped (at + size_in project ty)))
    else rest at

-- the variable of this key, where each number of a cell is counted up to the bound
abbrev pub laid_counted : ProjectTree → (Section → Truth) → List VarTree → List ℕ → ℕ → Option Laid
laid_counted project test [] key at = None
laid_counted project test (v ∷ more) key at =
    seen_first project test v key at (λ n. laid_counted project test more key n)

-- the number of a variable's cells where the test says so
abbrev pub size_where : Truth → ℕ → ℕ
size_where test n = if test then n else 0
