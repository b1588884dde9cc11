-- The table has the entered block's cells, those of data blocks and of area bytes, also behind what a case says of it.
use Rattle.std.proofs.Common.{◌≡◌, ◌≤◌, ℕ, zero, suc, ◌+◌, ℤ, List, [], ◌∷◌, ◌++◌, length, Bool, true, false, not, cond, refl, ap, arith}
use Rattle.std.specs.Prelude.{flat_map}
use Rattle.std.proofs.lemmas.Bool.{true≢false}
use Rattle.std.proofs.lemmas.List.{length-append}
use Rattle.pv_tree.specs.Tree.{BlockTree}
use Rattle.pv_tree.specs.Scopes.{ProjectTree}
use Rattle.pv_mean.specs.declared.cell.Cell.{Cell}
use Rattle.pv_mean.specs.Layout.{entry_size, data_size}
use Rattle.pv_mean.specs.AreaBytes.{Bytes}
use Rattle.pv_mean.specs.Cells.{View, changed_at, as_param, as_bound, with_params, with_bindings, with_view, entry_cells, data_cells, area_cells, visible_part, table_of}
use Rattle.pv_mean.specs.Frames.{is_brief, visible_cells, visible_len}

-- ---- a view hides no cell

changed-shows : (change : Cell → Cell) → ((c : Cell) → is_brief (change c).role ≡ false) → (cells : List Cell) (n : ℕ)
    → visible_len cells ≤ visible_len (changed_at change cells n)
changed-shows change shows [] n = omega arith
changed-shows change shows (c ∷ cs) zero = lead (is_brief c.role) (is_brief (change c).role) (shows c)
  where
    lead : (b d : Bool) → d ≡ false → length (cond (not b) (c ∷ visible_cells cs) (visible_cells cs))
        ≤ length (cond (not d) (change c ∷ visible_cells cs) (visible_cells cs))
    lead true false e = omega arith
    lead false false e = omega arith
    lead b true e = absurd (true≢false e)
changed-shows change shows (c ∷ cs) (suc n) = lead (is_brief c.role) (changed-shows change shows cs n)
  where
    lead : (b : Bool) → visible_len cs ≤ visible_len (changed_at change cs n)
        → length (cond (not b) (c ∷ visible_cells cs) (visible_cells cs))
        ≤ length (cond (not b) (c ∷ visible_cells (changed_at change cs n)) (visible_cells (changed_at change cs n)))
    lead true le = le
    lead false le = omega (arith, le)

params-show : (ns : List ℕ) (cells : List Cell) → visible_len cells ≤ visible_len (with_params ns cells)
params-show [] cells = omega arith
params-show (n ∷ more) cells =
    let a = changed-shows as_param (λ c. refl) cells n in
    let b = params-show more (changed_at as_param cells n) in
    omega (arith, a, b)

bindings-show : (bs : List (ℕ × ℤ)) (cells : List Cell) → visible_len cells ≤ visible_len (with_bindings bs cells)
bindings-show [] cells = omega arith
bindings-show (x ∷ more) cells =
    let a = changed-shows (as_bound x.1) (λ c. refl) cells x.0 in
    let b = bindings-show more (changed_at (as_bound x.1) cells x.0) in
    omega (arith, a, b)

view-shows : (view : View) (cells : List Cell) → visible_len cells ≤ visible_len (with_view view cells)
view-shows view cells =
    let a = params-show view.params cells in
    let b = bindings-show view.bound (with_params view.params cells) in
    omega (arith, a, b)

-- ---- the table

pub table-holds : (project : ProjectTree) (entry : BlockTree) (bytes : Bytes) (view : View)
    → length (entry_cells project entry) ≡ entry_size project entry
    → length (flat_map (data_cells project) project.blocks) ≡ data_size project project.blocks
    → length (area_cells bytes) ≡ length bytes.inputs + length bytes.outputs + length bytes.flags
    → visible_cells (table_of project entry bytes) ≡ visible_part project entry bytes
    → entry_size project entry + data_size project project.blocks + (length bytes.inputs + length bytes.outputs + length bytes.flags)
    ≤ visible_len (with_view view (table_of project entry bytes))
table-holds project entry bytes view e d a v =
    let shows = view-shows view (table_of project entry bytes) in
    let whole = ap length v in
    let both = length-append (entry_cells project entry ++ flat_map (data_cells project) project.blocks) (area_cells bytes) in
    let front = length-append (entry_cells project entry) (flat_map (data_cells project) project.blocks) in
    omega (arith, e, d, a, shows, whole, both, front)
