-- A name is declared twice in one block, in its sections together or within a structure; or two blocks have one name. The place
-- is that of the later name.
use Rattle.std.specs.Prelude.{◌⊎◌, map, Any}
use Rattle.pv_place.specs.declared.place.Place.{Place}
use Rattle.pv_types.specs.Tree.{TypeTree, plain, array, structure, named, unread}
use Rattle.pv_types.specs.View.{fields_of}
use Rattle.pv_tree.specs.Tree.{BlockTree}
use Rattle.pv_tree.specs.Scopes.{ProjectTree}
use Rattle.pv_tree.specs.Interfaces.{all_types, names_of_vars, IsLater}

-- a structure declares a name twice
abbrev pub DoublesField : Place → TypeTree → Type 0
DoublesField place (structure vars) = IsLater (names_of_vars (fields_of vars)) place
DoublesField place (plain ty) = ⊥
DoublesField place (array low high of at) = ⊥
DoublesField place (named name at) = ⊥
DoublesField place unread = ⊥

abbrev pub DoublesName : Place → BlockTree → Type 0
DoublesName place block =
    IsLater (names_of_vars block.vars) place ⊎ Any (DoublesField place) (all_types block.vars)

abbrev pub IsDoubledName : ProjectTree → Place → Type 0
IsDoubledName project place =
    IsLater (map (λ b. (b.name, b.place)) project.blocks) place ⊎ Any
    (DoublesName place) project.blocks
