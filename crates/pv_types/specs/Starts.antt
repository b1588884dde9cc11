-- Start values as they are written.
use Rattle.std.specs.Prelude.{List, ⊤, Option, Some, None}
use Rattle.std.specs.List.{AllByRecursion}
use Rattle.pv_word.specs.Types.{InRange}
use Rattle.pv_types.specs.declared.declaration.Literal.{Literal}
use Rattle.pv_types.specs.declared.leaf.Leaf.{Leaf}
use Rattle.pv_types.specs.Tree.{
  TypeTree,
  plain,
  array,
  structure,
  named,
  unread,
  var,
  VarTrees,
  no_vars,
  _then_,
}
use Rattle.pv_types.specs.View.{listed}
use Rattle.pv_types.specs.Named.{NamedType}
use Rattle.pv_word.specs.declared.types.Ty.{Ty}

-- a value that is written for a variable of this type is one of its values
abbrev pub LiesIn : Ty → Option Literal → Type 0
LiesIn ty None = ⊤
LiesIn ty (Some literal) = InRange ty literal.value

-- each start value that is written in a type, or in variables, lies in its type
abbrev mutual
  pub StartsLie : Option Literal → TypeTree → Type 0
  StartsLie start (plain ty) = LiesIn ty start
  StartsLie start (array low high of place) = StartsLie None of
  StartsLie start (structure vars) = StartsLieIn vars
  StartsLie start (named name place) = ⊤
  StartsLie start unread = ⊤

  pub StartsLieIn : VarTrees → Type 0
  StartsLieIn no_vars = ⊤
  StartsLieIn (_then_ (var name section ty start place) xs) = StartsLie start ty × StartsLieIn xs

-- so it is in all named types
abbrev pub StartsLieInTypes : List NamedType → Type 0
StartsLieInTypes types = AllByRecursion (λ t. StartsLieIn (listed t.vars)) types

-- a leaf starts with a value of its type
abbrev pub StartsWell : Leaf → Type 0
StartsWell leaf = InRange leaf.ty leaf.start
