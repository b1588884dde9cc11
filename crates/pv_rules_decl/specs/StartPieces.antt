-- What is looked for in the declarations of a block and in the values that it gives to its parts: the nearest place in a block and in
-- a project.
use Rattle.std.specs.Prelude.{◌≡◌, List, flat_map, Option, None, Any}
use Rattle.pv_place.specs.declared.place.Place.{Place}
use Rattle.pv_tree.specs.Tree.{BlockTree, StartTree}
use Rattle.pv_tree.specs.Scopes.{ProjectTree, Scope}
use Rattle.pv_tree.specs.Things.{no_name}
use Rattle.pv_tree.specs.Interfaces.{all_vars}
use Rattle.pv_tree.specs.Parts.{Part, parts_of_operand, starts_of, path_of_start, thing_of_path, indexes_of}
use Rattle.pv_tree.specs.Rules.{Rule, BreaksInParts}
use Rattle.pv_tree.specs.Rules.Misfits.{MisusesPath, MisstartsVar, MisstartsPart, start_misfits_type}
use Rattle.pv_tree.specs.Rules.OutOfRange.{IsStartOutside, IsThingOutside, start_is_outside}
use Rattle.pv_tree.specs.Rules.Arrays.{IsBeyond}
use Rattle.pv_rules_expr.specs.NearestIn.{nearest_in}
use Rattle.pv_rules_expr.specs.Looks.{near_parts}
use Rattle.pv_rules_decl.specs.Starts.{near_vars, near_starts}
use Rattle.pv_rules_expr.specs.declared.search.Look.{Look}
use Rattle.pv_rules_decl.specs.StartLook.{StartLook}
use Rattle.pv_rules_decl.specs.StartLook as value
use Rattle.pv_rules_decl.specs.declared.on_starts.Piece.{Piece}
use Rattle.pv_rules_decl.specs.declared.on_starts.Piece.TheVariants.{MisfitStart, OutsideStart}

-- the expressions in the indexes of the parts that are given values
abbrev pub parts_of_starts : Scope → List StartTree → List Part
parts_of_starts scope starts = flat_map (λ v. parts_of_operand scope v.0) starts

abbrev pub piece_in : Piece → Scope → Option Place
piece_in MisfitStart scope = near_vars (start_misfits_type scope) (all_vars scope.block.vars) None
piece_in OutsideStart scope = near_vars start_is_outside (all_vars scope.block.vars) None

-- the values that a data block gives to its parts, and the expressions in their indexes
abbrev pub value_in : StartLook → Scope → Option Place
value_in what scope = near_starts what scope (starts_of scope.block.body) None

abbrev pub index_in : Look → Scope → Option Place
index_in what scope = near_parts what scope (parts_of_starts scope (starts_of scope.block.body)) None

abbrev pub within : ProjectTree → BlockTree → Scope
within project block = record { project = project; block = block }

-- the nearest of all blocks, by that of each
abbrev pub place_among : (Scope → Option Place) → ProjectTree → Option Place
place_among place project = nearest_in (λ b. place (within project b)) project.blocks None

abbrev pub piece_place : Piece → ProjectTree → Option Place
piece_place what project = place_among (piece_in what) project

-- what a value of a data block's part breaks
abbrev pub BreaksAt : StartLook → Scope → StartTree → Place → Type 0
BreaksAt value.Missing scope v at = thing_of_path scope (path_of_start scope v.0) ≡ no_name at
BreaksAt value.Misused scope v at = MisusesPath scope at (path_of_start scope v.0)
BreaksAt value.Misfit scope v at = MisstartsPart scope at v
BreaksAt value.Outside scope v at = IsThingOutside at v.1 (thing_of_path scope
    (path_of_start scope v.0))
BreaksAt value.Beyond scope v at = Any (IsBeyond scope at) (indexes_of scope
    (path_of_start scope v.0))

-- in the blocks of a project
abbrev pub InBlocks : (Scope → Place → Type 0) → ProjectTree → Place → Type 0
InBlocks breaks project at = Any (λ b. breaks (within project b) at) project.blocks

abbrev pub MisfitsStart : Scope → Place → Type 0
MisfitsStart scope at = Any (MisstartsVar scope at) (all_vars scope.block.vars)

abbrev pub HasOutsideStart : Scope → Place → Type 0
HasOutsideStart scope at = Any (IsStartOutside at) (all_vars scope.block.vars)

abbrev pub HasValue : StartLook → Scope → Place → Type 0
HasValue what scope at = Any (λ v. BreaksAt what scope v at) (starts_of scope.block.body)

-- the expressions in the indexes of those parts
abbrev pub BreaksInValues : Rule → Scope → Place → Type 0
BreaksInValues rule scope at =
    BreaksInParts rule scope (parts_of_starts scope (starts_of scope.block.body)) at
