-- What is computed once of a project: the table of its named types, and where its data blocks begin.
use Rattle.std.specs.Prelude.{◌≡◌, ℕ, ◌+◌, List, [], ◌∷◌, bytes_eq, Bool as Truth, if◌then◌else◌, Option, Some, None, unwrap_or}
use Rattle.indexmap.specs.IndexMap.{get_by}
use Rattle.pv_types.specs.Named.{NamedType, with_type}
use Rattle.pv_tree.specs.Tree.{BlockTree}
use Rattle.pv_tree.specs.Scopes.{ProjectTree, is_type}
use Rattle.pv_tree.specs.NamedTypes.{named_type}
use Rattle.pv_tree.specs.declared.kept.Project.{Project}
use Rattle.pv_tree.specs.Projects as trees
use Rattle.pv_types.specs.Sizes.{size_of_type}
use Rattle.pv_mean.specs.declared.data_blocks.DataBlocks.{DataBlocks}
use Rattle.pv_mean.specs.declared.known.Known.{Known}
use Rattle.pv_mean.specs.Layout.{size_of_name, is_db, data_type}
use Rattle.pv_mean.specs.Counts.{capped, size_known}

-- a project of the code as plain data
abbrev pub project_tree : Project → ProjectTree
project_tree project = trees.project_tree project.blocks.list.items project.symbols.items

-- the types of blocks put behind others one by one, each unless there is one of its name
abbrev pub with_block : List NamedType → BlockTree → List NamedType
with_block types b = if is_type b.kind then with_type types (named_type b) else types

abbrev pub with_blocks : List NamedType → List BlockTree → List NamedType
with_blocks types [] = types
with_blocks types (b ∷ bs) = with_blocks (with_block types b) bs

-- where the data block of this key begins, by the table, or behind all of them
abbrev pub begin_in : DataBlocks → List ℕ → Option ℕ
begin_in d key = get_by (bytes_eq key) d.firsts

abbrev pub begin_or_end : DataBlocks → List ℕ → ℕ
begin_or_end d key = unwrap_or (begin_in d key) d.total

-- where data blocks begin once one more block of this key stands behind them, if it is one
abbrev pub begin_after : Truth → Truth → Option ℕ → ℕ → Option ℕ
begin_after db same None total = if db then (if same then Some total else None) else None
begin_after db same (Some n) total = Some n

-- one more block stands behind those of the table
pub record AddsBlock (known : List ℕ → ℕ) (old new : DataBlocks) (b : BlockTree) : Type 0 where
  pub begins : (key : List ℕ) → begin_in new key
      ≡ begin_after (is_db b.kind) (bytes_eq key b.name.key) (begin_in old key) old.total
  pub total : new.total
      ≡ (if is_db b.kind then capped (old.total + size_of_type known (data_type b)) else old.total)

-- the sizes that are known are those of the project's types
abbrev pub AreSizesOf : Known → ProjectTree → Type 0
AreSizesOf known project =
    (key : List ℕ) → size_known known key ≡ capped (size_of_name project key)
