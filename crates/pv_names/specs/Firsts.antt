-- Names with their numbers in a list: of each name the first is found.
use Rattle.std.specs.Prelude.{◌≡◌, ℕ, suc, List, [], ◌∷◌, Option, Some, None, option_map, slice_get, bytes_eq, Bool as Truth, if◌then◌else◌}
use Rattle.indexmap.specs.IndexMap.{get_by}
use Rattle.pv_names.specs.declared.firsts.Firsts.{Firsts}

-- the number that is found of a key
abbrev pub number_in : Firsts → List ℕ → Option ℕ
number_in f key = get_by (bytes_eq key) f.numbers

-- what was found, or a new number where the test says so
abbrev pub or_number : Option ℕ → Truth → ℕ → Option ℕ
or_number (Some i) test n = Some i
or_number None test n = if test then Some n else None

-- the number of the first element that passes a test
abbrev pub first_number : {X : Type 0} → (X → Truth) → List X → Option ℕ
first_number test [] = None
first_number test (x ∷ xs) =
    if test x then Some 0 else option_map (λ n. suc n) (first_number test xs)

-- of each key the first in the list is found
abbrev pub FindsFirsts : Firsts → List (List ℕ) → Type 0
FindsFirsts f keys = (key : List ℕ) → number_in f key ≡ first_number (bytes_eq key) keys

-- of each key in the list its own number is found
abbrev pub FindsEach : Firsts → List (List ℕ) → Type 0
FindsEach f keys = (n : ℕ) (key : List ℕ) → slice_get keys n ≡ Some key → number_in f key ≡ Some n
