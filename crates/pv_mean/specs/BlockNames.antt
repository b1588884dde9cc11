-- The numbers of a project's blocks by their names.
use Rattle.std.specs.Prelude.{◌≡◌, ℕ, suc, List, [], ◌∷◌, bytes_eq, Bool as Truth, if◌then◌else◌, Option, Some, None, option_map}
use Rattle.indexmap.specs.IndexMap.{get_by}
use Rattle.pv_tree.specs.Tree.{BlockTree}
use Rattle.pv_mean.specs.declared.names.BlockNames.{BlockNames}

-- the number that the table has of a key
abbrev pub number_in : BlockNames → List ℕ → Option ℕ
number_in names key = get_by (bytes_eq key) names.numbers

-- what the table had, or a new number where the test says so
abbrev pub number_after : Option ℕ → Truth → ℕ → Option ℕ
number_after (Some i) same n = Some i
number_after None same n = if same then Some n else None

-- the number of the first block of this key
abbrev pub number_named : List BlockTree → List ℕ → Option ℕ
number_named [] key = None
number_named (b ∷ bs) key =
    if bytes_eq key b.name.key then Some 0 else option_map (λ n. suc n) (number_named bs key)

-- of each key the first of these blocks is found
abbrev pub HasNumbers : BlockNames → List BlockTree → Type 0
HasNumbers names blocks = (key : List ℕ) → number_in names key ≡ number_named blocks key
