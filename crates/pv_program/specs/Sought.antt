-- Variables by their numbers, and the numbers of those that arguments are for.
use Rattle.std.specs.Prelude.{◌≡◌, ◌≤◌, ℕ, List, map, find, slice_get, nat_eq, Bool as Truth, false, Some, None}
use Rattle.std.specs.List.{list_any}
use Rattle.std.specs.List.Sorted.{IsNonDecreasing}
use Rattle.pv_types.specs.Tree.{VarTree}
use Rattle.pv_types.specs.View.{name_of}
use Rattle.pv_tree.specs.Tree.{ArgTree, BlockTree}
use Rattle.pv_tree.specs.Callees.{How}
use Rattle.pv_mean.specs.Calls.{is_for}

abbrev pub keys_of : List VarTree → List (List ℕ)
keys_of vars = map (λ v. (name_of v).key) vars

abbrev pub has_number : List ℕ → ℕ → Truth
has_number numbers n = list_any (nat_eq n) numbers

-- from this one on, a variable whose number isn't there has no argument
abbrev pub HaveAll : How → BlockTree → List ArgTree → ℕ → List ℕ → Type 0
HaveAll how block args next numbers = (n : ℕ) (v : VarTree) → next ≤ n
    → slice_get block.vars n ≡ Some v → has_number numbers n ≡ false
    → find (is_for how block (name_of v).key) args ≡ None

-- such numbers, of all variables, in their order
pub record AreSought (how : How) (block : BlockTree) (args : List ArgTree) (numbers : List ℕ) : Type 0 where
  pub all : HaveAll how block args 0 numbers
  pub rise : IsNonDecreasing numbers
