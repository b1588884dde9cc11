-- Leaves: the variables of simple types that a declaration gives, where arrays, structures and
-- named types are laid out in place.
use Rattle.std.specs.Prelude.{
  ℕ,
  zero,
  suc,
  ℤ,
  pos,
  negsuc,
  ◌+ℤ◌,
  ◌-ℤ◌,
  List,
  [],
  ◌∷◌,
  ◌++◌,
  Option,
  Some,
  None,
  unwrap_or,
  length,
}
use Rattle.std.specs.Fmt.{signed_decimal}
use Rattle.pv_types.specs.declared.name.Name.{Name}
use Rattle.pv_types.specs.declared.declaration.Section.{Section}
use Rattle.pv_types.specs.declared.declaration.Section.TheVariants.{
  Input,
  Output,
  InOut,
  Static,
  Temp,
  Const,
}
use Rattle.pv_types.specs.declared.declaration.Literal.{Literal}
use Rattle.pv_types.specs.declared.leaf.Leaf.{Leaf}
use Rattle.pv_types.specs.Tree.{
  TypeTree,
  plain,
  array,
  structure,
  named,
  unread,
  VarTree,
  var,
  VarTrees,
  no_vars,
  _then_,
}
use Rattle.pv_types.specs.View.{listed}
use Rattle.pv_types.specs.Named.{NamedType, look_up}

-- where variables stand: in a block itself, in an instance of a named type, or in a structure; the
-- latter two lie in a declaration of this section
pub data Around : Type 0 where
  block : Around
  instance : Section → Around
  fields : Section → Around

-- the section of the leaves of a variable that is declared in this section, or none where it has no
-- leaves: constants have none, and an instance has no temporary variables
abbrev pub block_section : Section → Option Section
block_section Input = Some Input
block_section Output = Some Output
block_section InOut = Some InOut
block_section Static = Some Static
block_section Temp = Some Temp
block_section Const = None

abbrev pub instance_section : Section → Section → Option Section
instance_section around Input = Some around
instance_section around Output = Some around
instance_section around InOut = Some around
instance_section around Static = Some around
instance_section around Temp = None
instance_section around Const = None

abbrev pub section_within : Around → Section → Option Section
section_within block own = block_section own
section_within (instance section) own = instance_section section own
section_within (fields section) own = Some section

-- the path of a variable in what has a path: after a dot, or its name alone where nothing is around
-- it
abbrev pub field_path : List ℕ → Name → List ℕ
field_path [] name = name.spelled
field_path (c ∷ path) name = c ∷ path ++ 46 ∷ name.spelled

-- the path of an array's element
abbrev pub element_path : List ℕ → ℤ → List ℕ
element_path path index = path ++ 91 ∷ (signed_decimal index ++ 93 ∷ [])

-- the value that a literal gives, or 0 where there is none
abbrev pub start_value : Option Literal → ℤ
start_value None = pos 0
start_value (Some literal) = literal.value

-- the number of whole numbers from low to high, and so 0 where high is below low
abbrev pub count_of : ℤ → ℕ
count_of (pos n) = n
count_of (negsuc n) = 0

abbrev pub count_between : ℤ → ℤ → ℕ
count_between low high = count_of ((high +ℤ pos 1) -ℤ low)

-- the leaves in a section, where there is one
abbrev pub leaves_where : Option Section → (Section → List Leaf) → List Leaf
leaves_where None leaves = []
leaves_where (Some section) leaves = leaves section

-- the leaves of as many elements, from this index on
abbrev pub leaves_of_elements : (ℤ → List Leaf) → ℤ → ℕ → List Leaf
leaves_of_elements element index zero = []
leaves_of_elements element index (suc n) =
    element index ++ leaves_of_elements element (index +ℤ pos 1) n

-- the leaves of a type that stands at a path, and of variables, by those of the named types at a
-- path
abbrev mutual
  pub leaves_of_type : (List ℕ → List ℕ → Section → List Leaf) → List ℕ → ℤ → Section → TypeTree
      → List Leaf
  leaves_of_type expand path start section (plain ty) =
      record { path = path; ty = ty; start = start; section = section } ∷ []
  leaves_of_type expand path start section (array low high of place) =
      leaves_of_elements (λ i. leaves_of_type expand (element_path path i) (pos 0) section of) low
      (count_between low high)
  leaves_of_type expand path start section (structure vars) =
      leaves_of_vars expand (fields section) path vars
  leaves_of_type expand path start section (named name place) = expand name.key path section
  leaves_of_type expand path start section unread = []

  pub leaves_of_vars : (List ℕ → List ℕ → Section → List Leaf) → Around → List ℕ → VarTrees
      → List Leaf
  leaves_of_vars expand around path no_vars = []
  leaves_of_vars expand around path (_then_ (var name section ty start place) xs) =
      leaves_where (section_within around section)
      (λ s. leaves_of_type expand (field_path path name) (start_value start) s ty)
      ++ leaves_of_vars expand around path xs

-- the leaves of a named type that stands at a path in this section, where at most n types stand
-- inside each other
abbrev pub leaves_of_named : List NamedType → ℕ → List ℕ → List ℕ → Section → List Leaf
leaves_of_named types zero key path section = []
leaves_of_named types (suc n) key path section =
    leaves_of_vars (leaves_of_named types n) (instance section) path
    (listed (unwrap_or (look_up types key) []))

-- the leaves of variables whose paths lie beneath this one
abbrev pub leaves_beneath : List ℕ → List NamedType → List VarTree → List Leaf
leaves_beneath path types vars = leaves_of_vars (leaves_of_named types (length types)) block path
    (listed vars)

-- the leaves of a block's variables, in the order of the declarations, an array's elements from low
-- to high
abbrev pub leaves_of : List NamedType → List VarTree → List Leaf
leaves_of = leaves_beneath []
