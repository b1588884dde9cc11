-- Declarations as plain data: what a declaration says, with all its names, values and places, and
-- nothing of where it lies in memory.
use Rattle.std.specs.Prelude.{ℤ, Option}
use Rattle.pv_word.specs.declared.types.Ty.{Ty}
use Rattle.pv_place.specs.declared.place.Place.{Place}
use Rattle.pv_types.specs.declared.name.Name.{Name}
use Rattle.pv_types.specs.declared.declaration.Section.{Section}
use Rattle.pv_types.specs.declared.declaration.Literal.{Literal}

mutual
  -- a type
  pub data TypeTree : Type 0 where
    plain : Ty → TypeTree
    array : ℤ → ℤ → TypeTree → Place → TypeTree
    structure : VarTrees → TypeTree
    named : Name → Place → TypeTree
    unread : TypeTree
    deriving IsSet as TypeTree-set

  -- a variable: its name, its section, its type, its start value and the place of its name
  pub data VarTree : Type 0 where
    var : Name → Section → TypeTree → Option Literal → Place → VarTree
    deriving IsSet as VarTree-set

  -- the fields of a structure
  pub data VarTrees : Type 0 where
    no_vars : VarTrees
    _then_ : VarTree → VarTrees → VarTrees
    deriving IsSet as VarTrees-set
