-- The whole table begins in its types, and so does a source.
use Rattle.std.proofs.Common.{◌≡◌, ℕ, zero, suc, ℤ, List, [], ◌∷◌, ◌++◌, Some, Contains, slice_get, subst}
use Rattle.std.specs.Prelude.{flat_map}
use Rattle.std.proofs.lemmas.Option.{none-some}
use Rattle.std.specs.List.{AllByRecursion}
use Rattle.pv_word.specs.Types.{InRange}
use Rattle.pv_tree.specs.Tree.{OperandTree, BlockTree}
use Rattle.pv_tree.specs.Scopes.{ProjectTree}
use Rattle.pv_tree.specs.Rules.{KeepsRules}
use Rattle.pv_mean.specs.declared.cell.Cell.{Cell}
use Rattle.pv_mean.specs.AreaBytes.{Bytes, bytes_of}
use Rattle.pv_mean.specs.Cells.{View, entry_cells, data_cells, area_cells, brief_cells, visible_part, table_of}
use Rattle.pv_mean.specs.Sources.{source_of}
use Rattle.pv_case_fit.specs.Inputs.{Views}
use Rattle.pv_replay.specs.Replays.{HasStarts}
use Rattle.pv_laws_starts.specs.Binding.{BindsInTypes}
use Rattle.pv_laws_starts.proofs.Declared.{contains_first, contains_more}
use Rattle.pv_laws_starts.proofs.Placing.{same_some}
use Rattle.pv_laws_starts.proofs.Beginning.{Begin, both_begin, entry_begins, areas_begin, brief_begin}
use Rattle.pv_laws_starts.proofs.DataBlocks.{data_blocks_begin}
use Rattle.pv_laws_starts.proofs.Bindings.{viewed, view_binds}

table_begins : (project : ProjectTree) (entry : BlockTree) (bytes : Bytes) → KeepsRules project → Contains project.blocks entry
    → Begin (table_of project entry bytes)
table_begins project entry bytes keeps c =
    both_begin (visible_part project entry bytes) (brief_cells project entry)
    (both_begin (entry_cells project entry ++ flat_map (data_cells project) project.blocks) (area_cells bytes)
    (both_begin (entry_cells project entry) (flat_map (data_cells project) project.blocks) (entry_begins project keeps entry c)
    (data_blocks_begin project keeps)) (areas_begin bytes)) (brief_begin project keeps entry c)

all_start : (cells : List Cell) → Begin cells → AllByRecursion (λ c. InRange c.ty c.start) cells
all_start [] a = tt
all_start (c ∷ cs) a = (a.0.start, all_start cs a.1)

pub table_starts : (project : ProjectTree) (entry : BlockTree) (bytes : Bytes) → KeepsRules project → Contains project.blocks entry
    → AllByRecursion (λ c. InRange c.ty c.start) (table_of project entry bytes)
table_starts project entry bytes keeps c = all_start (table_of project entry bytes) (table_begins project entry bytes keeps c)

pub source_has_starts : (project : ProjectTree) (entry : BlockTree) (operands : List OperandTree) (view : View) (bound : ℕ)
    → KeepsRules project
    → Contains project.blocks entry → BindsInTypes (table_of project entry (bytes_of project operands)) view
    → HasStarts (source_of project entry operands view bound)
source_has_starts project entry operands view bound keeps c binds =
    let w = viewed view (table_of project entry (bytes_of project operands))
    (table_begins project entry (bytes_of project operands) keeps c) binds in record { starts = w.0; bound = w.1 }

-- ---- by the entered block's number, and by what a case says

there : (blocks : List BlockTree) (n : ℕ) (b : BlockTree) → slice_get blocks n ≡ Some b → Contains blocks b
there [] n b e = absurd (none-some b e)
there (x ∷ xs) zero b e = subst (Contains (x ∷ xs)) (same_some x b e) (contains_first x xs)
there (x ∷ xs) (suc n) b e = contains_more x b xs (there xs n b e)

pub fitting_has_starts : (project : ProjectTree) (entry : BlockTree) (number : ℕ) (operands : List OperandTree) (params : List (List ℕ))
    (bind : List (List ℕ × ℤ)) (view : View) (bound : ℕ) → KeepsRules project → slice_get project.blocks number ≡ Some entry
    → Views (table_of project entry (bytes_of project operands)) params bind view.params view.bound
    → HasStarts (source_of project entry operands view bound)
fitting_has_starts project entry number operands params bind view bound keeps is v =
    source_has_starts project entry operands view bound keeps (there project.blocks number entry is)
    (view_binds (table_of project entry (bytes_of project operands)) params bind view v)
