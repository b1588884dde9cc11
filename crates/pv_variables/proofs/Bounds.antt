-- The bound variables of a block, and that the entry's with the shared ones are the visible cells.
use Rattle.std.proofs.Common.{◌≡◌, ◌≤◌, ℕ, zero, suc, ◌+◌, ◌*◌, ℤ, List, [], ◌∷◌, ◌++◌, map, length, cond, refl, ap, arith}
use Rattle.std.specs.Prelude.{filter, flat_map, take, option_to_list, Bool as Truth, true, false, ◌&&◌, not, if◌then◌else◌}
use Rattle.std.proofs.lemmas.Bool.{true≢false}
use Rattle.std.proofs.lemmas.List.{length-append, length-map, length-take-le, length-drop}
use Rattle.pv_types.specs.declared.declaration.Section.TheVariants.{Const}
use Rattle.pv_types.specs.declared.leaf.Leaf.{Leaf}
use Rattle.pv_tree.specs.Tree.{BlockTree}
use Rattle.pv_tree.specs.Scopes.{ProjectTree, is_fc}
use Rattle.pv_tree.specs.Callees.{is_param}
use Rattle.pv_mean.specs.declared.cell.Cell.{Cell}
use Rattle.pv_mean.specs.Layout.{size_among, entry_size}
use Rattle.pv_mean.specs.AreaBytes.{Bytes}
use Rattle.pv_mean.specs.Cells.{changed_at, as_param, as_bound, with_params, with_bindings, entry_cells, data_cells, area_cells, visible_part, table_of, leaves_of_block}
use Rattle.pv_mean.specs.Sources.{Source}
use Rattle.pv_mean.specs.Frames.{is_brief, visible_cells, visible_len}
use Rattle.pv_variables.specs.Variables.{is_entry, is_bound_in, value_count, bound_count, own_first, plain_variable, variable_of_cell, with_set, role_of_param, bound_of_called, bound_variables}
use Rattle.pv_variables.specs.Correct.{HasTable, IsEntered}
use Rattle.pv_place.specs.declared.role.Role.TheVariants.{Kept, Brief}
use Rattle.pv_variables.proofs.Counted.{all-kept, none-among, pairs, count-value}

-- ---- a view hides no cell

changed-shows : (change : Cell → Cell) → ((c : Cell) → is_brief (change c).role ≡ false) → (cells : List Cell) (n : ℕ)
    → visible_len cells ≤ visible_len (changed_at change cells n)
changed-shows change shows [] n = omega arith
changed-shows change shows (c ∷ cs) zero = lead (is_brief c.role) (is_brief (change c).role) (shows c)
  where
    lead : (b d : Truth) → d ≡ false → length (cond (not b) (c ∷ visible_cells cs) (visible_cells cs))
        ≤ length (cond (not d) (change c ∷ visible_cells cs) (visible_cells cs))
    lead true false e = omega arith
    lead false false e = omega arith
    lead b true e = absurd (true≢false e)
changed-shows change shows (c ∷ cs) (suc n) = lead (is_brief c.role) (changed-shows change shows cs n)
  where
    lead : (b : Truth) → visible_len cs ≤ visible_len (changed_at change cs n)
        → length (cond (not b) (c ∷ visible_cells cs) (visible_cells cs))
        ≤ length (cond (not b) (c ∷ visible_cells (changed_at change cs n)) (visible_cells (changed_at change cs n)))
    lead true le = le
    lead false le = omega (arith, le)

params-show : (ns : List ℕ) (cells : List Cell) → visible_len cells ≤ visible_len (with_params ns cells)
params-show [] cells = omega arith
params-show (n ∷ more) cells =
    let a = changed-shows as_param (λ c. refl) cells n in
    let b = params-show more (changed_at as_param cells n) in
    omega (arith, a, b)

bindings-show : (bs : List (ℕ × ℤ)) (cells : List Cell) → visible_len cells ≤ visible_len (with_bindings bs cells)
bindings-show [] cells = omega arith
bindings-show (x ∷ more) cells =
    let a = changed-shows (as_bound x.1) (λ c. refl) cells x.0 in
    let b = bindings-show more (changed_at (as_bound x.1) cells x.0) in
    omega (arith, a, b)

-- ---- what is known of tables

abbrev pub AreEntryCells : Type 0
AreEntryCells = (project : ProjectTree) (block : BlockTree) → length (entry_cells project block) ≡ entry_size project block

abbrev pub AreShown : Type 0
AreShown = (project : ProjectTree) (block : BlockTree) (bytes : Bytes)
    → visible_cells (table_of project block bytes) ≡ visible_part project block bytes

-- the entry's cells are among the visible ones
entry-shown : AreEntryCells → AreShown → (source : Source) → HasTable source
    → entry_size source.project source.entry ≤ visible_len source.cells
entry-shown counts shown source table =
    let view = table.0 in
    let cells = table_of source.project source.entry source.bytes in
    let e = counts source.project source.entry in
    let v = ap length (shown source.project source.entry source.bytes) in
    let both = length-append (entry_cells source.project source.entry ++ flat_map (data_cells source.project) source.project.blocks)
    (area_cells source.bytes) in
    let front = length-append (entry_cells source.project source.entry) (flat_map (data_cells source.project) source.project.blocks) in
    let a = params-show view.params cells in
    let b = bindings-show view.bound (with_params view.params cells) in
    let c = ap visible_len table.1 in
    omega (arith, e, v, both, front, a, b, c)

-- ---- a called block

and-false : (b : Truth) → (b && false) ≡ false
and-false true = refl
and-false false = refl

pub bound-never : (block : BlockTree) → is_bound_in block Const ≡ false
bound-never block = and-false (is_fc block.kind)

called-counted : AreEntryCells → (project : ProjectTree) (block : BlockTree)
    → length (bound_of_called project block)
    ≡ entry_size project block + 2 * (size_among project (is_bound_in block) block.vars + value_count block)
called-counted counts project block =
    let own = map (λ (c : Cell). plain_variable Kept c.ty) (entry_cells project block) in
    let params = filter (λ (l : Leaf). is_bound_in block l.section) (leaves_of_block project block) in
    let a = length-append (own ++ flat_map (λ (l : Leaf). with_set (role_of_param l.section) l.ty) params)
    (flat_map (with_set Brief) (option_to_list block.value)) in
    let b = length-append own (flat_map (λ (l : Leaf). with_set (role_of_param l.section) l.ty) params) in
    let c = length-map (entry_cells project block) (λ (c : Cell). plain_variable Kept c.ty) in
    let d = counts project block in
    let e = pairs (λ (l : Leaf). with_set (role_of_param l.section) l.ty) params (λ l. refl) in
    let f = all-kept project (is_bound_in block) block.vars (bound-never block) in
    let g = pairs (with_set Brief) (option_to_list block.value) (λ ty. refl) in
    let h = count-value block.value in
    omega (arith, a, b, c, d, e, f, g, h)

-- ---- the entry

entered-counted : AreEntryCells → AreShown → (source : Source) (block : BlockTree) → HasTable source → block ≡ source.entry
    → is_fc block.kind ≡ false → value_count block ≡ 0
    → length (map variable_of_cell (take (entry_size source.project block) (visible_cells source.cells))) ≡ bound_count source block
entered-counted counts shown source block table same not_fc no_value =
    let le = entry-shown counts shown source table in
    let s = ap (entry_size source.project) same in
    let m = length-map (take (entry_size source.project block) (visible_cells source.cells)) variable_of_cell in
    let t = length-take-le (entry_size source.project block) (visible_cells source.cells) (omega (arith, le, s)) in
    let n = none-among source.project (is_bound_in block) block.vars (λ x. ap (λ b. b && is_param x) not_fc) in
    omega (arith, m, t, n, no_value)

pub bound-counted : AreEntryCells → AreShown → (source : Source) (block : BlockTree) → HasTable source → IsEntered source block
    → length (bound_variables source block) ≡ bound_count source block
bound-counted counts shown source block table entered = lead (is_entry source block) entered
  where
    lead : (b : Truth) → (b ≡ true → (block ≡ source.entry) × (is_fc block.kind ≡ false) × (value_count block ≡ 0))
        → length (if b then map variable_of_cell (take (entry_size source.project block) (visible_cells source.cells))
        else bound_of_called source.project block) ≡ bound_count source block
    lead true is = let h = is refl in entered-counted counts shown source block table h.0 h.1 h.2
    lead false is = called-counted counts source.project block

pub cells-counted : AreEntryCells → AreShown → (source : Source) → HasTable source → is_fc source.entry.kind ≡ false
    → value_count source.entry ≡ 0 → own_first source source.entry ≡ visible_len source.cells
cells-counted counts shown source table not_fc no_value =
    let le = entry-shown counts shown source table in
    let d = length-drop (entry_size source.project source.entry) (visible_cells source.cells) in
    let n = none-among source.project (is_bound_in source.entry) source.entry.vars (λ x. ap (λ b. b && is_param x) not_fc) in
    omega (arith, le, d, n, no_value)
