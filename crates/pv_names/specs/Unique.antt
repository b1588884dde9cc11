-- Variables no two of which have one name.
use Rattle.std.specs.Prelude.{◌≡◌, ℕ, List, map, Some, slice_get, bytes_eq}
use Rattle.pv_types.specs.Tree.{VarTree}
use Rattle.pv_types.specs.View.{name_of}
use Rattle.pv_names.specs.Firsts.{first_number}

-- each key is where the first of it is
abbrev pub AreUnique : List (List ℕ) → Type 0
AreUnique keys = (n : ℕ) (key : List ℕ) → slice_get keys n ≡ Some key → first_number (bytes_eq key) keys ≡ Some n

abbrev pub HaveUniqueNames : List VarTree → Type 0
HaveUniqueNames vars = AreUnique (map (λ v. (name_of v).key) vars)
