-- The named types of a project as declarations are laid out over them.
use Rattle.std.specs.Prelude.{List, map, filter}
use Rattle.pv_types.specs.Named.{NamedType}
use Rattle.pv_tree.specs.Tree.{BlockTree}
use Rattle.pv_tree.specs.Scopes.{ProjectTree, is_type}

abbrev pub named_type : BlockTree → NamedType
named_type block = record { key = block.name.key; vars = block.vars }

-- its function blocks and named structures, in their order
abbrev pub types_of_project : ProjectTree → List NamedType
types_of_project project = map named_type (filter (λ b. is_type b.kind) project.blocks)
