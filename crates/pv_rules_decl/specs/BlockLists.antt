-- What breaks a rule on declarations in a block.
use Rattle.std.specs.Prelude.{◌⊎◌}
use Rattle.pv_place.specs.declared.place.Place.{Place}
use Rattle.pv_tree.specs.Tree.{BlockTree}
use Rattle.pv_tree.specs.Interfaces.{all_types, all_vars, names_of_vars, IsLater}
use Rattle.pv_tree.specs.Rules.Arrays.{IsWrongType}
use Rattle.pv_tree.specs.Rules.DoubledNames.{DoublesField}
use Rattle.pv_rules_expr.specs.Members.{HasSome}
use Rattle.pv_rules_decl.specs.OnDeclarations.{IsMisplacedDate}

abbrev pub HasWrongArrayIn : Place → BlockTree → Type 0
HasWrongArrayIn at b = HasSome (IsWrongType at) (all_types b.vars)

abbrev pub MisplacesDateIn : Place → BlockTree → Type 0
MisplacesDateIn at b = HasSome (IsMisplacedDate b.kind at) (all_vars b.vars)

abbrev pub DoublesNameIn : Place → BlockTree → Type 0
DoublesNameIn at b = IsLater (names_of_vars b.vars) at ⊎ HasSome (DoublesField at) (all_types b.vars)
