-- How many leaves declarations have: a product for an array, a sum for variables.
use Rattle.std.specs.Prelude.{
  ◌≡◌,
  ℕ,
  zero,
  suc,
  ◌+◌,
  ◌*◌,
  List,
  [],
  Option,
  Some,
  None,
  unwrap_or,
  length,
}
use Rattle.pv_types.specs.declared.declaration.Section.{Section}
use Rattle.pv_types.specs.declared.declaration.Section.TheVariants.{Static}
use Rattle.pv_types.specs.Tree.{
  TypeTree,
  plain,
  array,
  structure,
  named,
  unread,
  VarTree,
  var,
  VarTrees,
  no_vars,
  _then_,
}
use Rattle.pv_types.specs.View.{listed}
use Rattle.pv_types.specs.Named.{NamedType, look_up}
use Rattle.pv_types.specs.Leaves.{Around, block, instance, section_within, count_between}

-- the number, or 0 where there is no section
abbrev pub number_where : Option Section → ℕ → ℕ
number_where None n = 0
number_where (Some section) n = n

-- the number of leaves of a type, and of variables, by those of the named types
abbrev mutual
  pub size_of_type : (List ℕ → ℕ) → TypeTree → ℕ
  size_of_type size (plain ty) = 1
  size_of_type size (array low high of place) = count_between low high * size_of_type size of
  size_of_type size (structure vars) = size_of_fields size vars
  size_of_type size (named name place) = size name.key
  size_of_type size unread = 0

  pub size_of_fields : (List ℕ → ℕ) → VarTrees → ℕ
  size_of_fields size no_vars = 0
  size_of_fields size (_then_ (var name section ty start place) xs) =
      size_of_type size ty + size_of_fields size xs

-- variables that have no leaves don't count
abbrev pub size_of_vars : (List ℕ → ℕ) → Around → VarTrees → ℕ
size_of_vars size around no_vars = 0
size_of_vars size around (_then_ (var name section ty start place) xs) =
    number_where (section_within around section) (size_of_type size ty) + size_of_vars size around
    xs

abbrev pub size_of_named : List NamedType → ℕ → List ℕ → ℕ
size_of_named types zero key = 0
size_of_named types (suc n) key = size_of_vars (size_of_named types n) (instance Static)
    (listed (unwrap_or (look_up types key) []))

-- the number of leaves of a block's variables
abbrev pub size_of : List NamedType → List VarTree → ℕ
size_of types vars = size_of_vars (size_of_named types (length types)) block (listed vars)

-- a type has no leaf, however many named types may stand inside each other
abbrev pub HasNoLeaf : List NamedType → TypeTree → Type 0
HasNoLeaf types ty = (n : ℕ) → size_of_type (size_of_named types n) ty ≡ 0
