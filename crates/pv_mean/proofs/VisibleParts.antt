-- The visible cells of a table are its first part, so that a visible cell's number among them is its number in the table.
use Rattle.std.proofs.Common.{◌≡◌, ℕ, zero, suc, ℤ, pos, List, [], ◌∷◌, ◌++◌, map, length, Bool, true, false, not, cond, Option, Some, None, refl, ap, sym, subst, ◌∙◌}
use Rattle.std.specs.Prelude.{filter, flat_map, option_to_list, if◌then◌else◌}
use Rattle.std.specs.List.{AllByRecursion}
use Rattle.std.proofs.lemmas.List.Elements.{filter-append}
use Rattle.std.proofs.lemmas.Bool.{false≢true}
use Rattle.pv_word.specs.declared.types.Ty.{Ty}
use Rattle.pv_place.specs.declared.role.Role.TheVariants.{Input as InputRole, Kept}
use Rattle.pv_types.specs.declared.declaration.Section.{Section}
use Rattle.pv_types.specs.declared.declaration.Section.TheVariants.{Input, Output, InOut, Static, Temp, Const}
use Rattle.pv_types.specs.declared.leaf.Leaf.{Leaf}
use Rattle.pv_types.specs.Tree.{TypeTree, VarTree, var}
use Rattle.pv_types.specs.Leaves.{block, section_within, field_path, start_value, leaves_where, leaves_of_type, leaves_of}
use Rattle.pv_tree.specs.Tree.{StartTree, BlockTree}
use Rattle.pv_tree.specs.Callees.{CallSite, Callee, runs, not_declared, not_callable, unknown, callee_of}
use Rattle.pv_tree.specs.Scopes.{ProjectTree, is_fb, is_stl}
use Rattle.pv_tree.specs.Parts.{starts_of, calls_of}
use Rattle.pv_mean.specs.declared.cell.Cell.{Cell}
use Rattle.pv_tree.specs.NamedTypes.{types_of_project}
use Rattle.pv_mean.specs.Layout.{Laid, is_temp, is_db, data_type}
use Rattle.pv_mean.specs.AreaBytes.{Bytes}
use Rattle.pv_mean.specs.Cells.{role_of, cell_of, leaves_of_block, entry_cells, with_start_at, with_start, with_starts, started, data_leaves, data_cells, area_cells, byte_cell, brief_cell, brief_variables, value_cells, stl_cells, stl_types, own_brief_cells, nameless, most_calls, brief_of_callee, brief_below, brief_cells, visible_part, table_of}
use Rattle.pv_mean.specs.Frames.{is_brief, visible_cells}
use Rattle.pv_mean.proofs.Tables.{AreOf, of-type, of-named, expand_in, stays}

-- ---- lists of cells of which all are visible, or none is

abbrev Shows : Cell → Type 0
Shows c = is_brief c.role ≡ false

abbrev Hides : Cell → Type 0
Hides c = is_brief c.role ≡ true

all-append : (P : Cell → Type 0) (xs ys : List Cell) → AllByRecursion P xs → AllByRecursion P ys → AllByRecursion P (xs ++ ys)
all-append P [] ys a b = b
all-append P (x ∷ xs) ys a b = (a.0, all-append P xs ys a.1 b)

shown : (cs : List Cell) → AllByRecursion Shows cs → visible_cells cs ≡ cs
shown [] are = refl
shown (c ∷ cs) are = ap (λ b. cond (not b) (c ∷ visible_cells cs) (visible_cells cs)) are.0 ∙ ap (λ l. c ∷ l) (shown cs are.1)

hidden : (cs : List Cell) → AllByRecursion Hides cs → visible_cells cs ≡ []
hidden [] are = refl
hidden (c ∷ cs) are = ap (λ b. cond (not b) (c ∷ visible_cells cs) (visible_cells cs)) are.0 ∙ hidden cs are.1

mapped : {X : Type 0} (P : Cell → Type 0) (f : X → Cell) → ((x : X) → P (f x)) → (xs : List X) → AllByRecursion P (map f xs)
mapped P f each [] = tt
mapped P f each (x ∷ xs) = (each x, mapped P f each xs)

flat : {X : Type 0} (P : Cell → Type 0) (f : X → List Cell) → ((x : X) → AllByRecursion P (f x)) → (xs : List X) → AllByRecursion P (flat_map f xs)
flat P f each [] = tt
flat P f each (x ∷ xs) = all-append P (f x) (flat_map f xs) (each x) (flat P f each xs)

-- ---- the entered block

-- no leaf is of a constant
abbrev IsOfVariable : Leaf → Type 0
IsOfVariable l = (is_temp l.section ≡ false) → is_brief (role_of l.section) ≡ false

leaf-append : (xs ys : List Leaf) → AllByRecursion IsOfVariable xs → AllByRecursion IsOfVariable ys → AllByRecursion IsOfVariable (xs ++ ys)
leaf-append [] ys a b = b
leaf-append (x ∷ xs) ys a b = (a.0, leaf-append xs ys a.1 b)

of-section : (s : Section) → ((is_temp s ≡ false) → is_brief (role_of s) ≡ false) → (ls : List Leaf) → AreOf s ls → AllByRecursion IsOfVariable ls
of-section s is [] are = tt
of-section s is (l ∷ ls) are = (
  subst (λ (r : Section). (is_temp r ≡ false) → is_brief (role_of r) ≡ false) (sym are.0) is,
  of-section s is ls are.1,
)

leaves-of : (project : ProjectTree) (vars : List VarTree) → AllByRecursion IsOfVariable (leaves_of (types_of_project project) vars)
leaves-of project [] = tt
leaves-of project (var name section ty start place ∷ more) =
    leaf-append (leaves_where (section_within block section)
    (λ r. leaves_of_type (expand_in project) (field_path [] name) (start_value start) r ty)) _ (lead section) (leaves-of project more)
  where
    its : (s : Section) → AreOf s (leaves_of_type (expand_in project) (field_path [] name) (start_value start) s ty)
    its s = of-type (expand_in project) (of-named (types_of_project project) (length (types_of_project project)))
        (field_path [] name) (start_value start) s ty

    lead : (own : Section) → AllByRecursion IsOfVariable (leaves_where (section_within block own)
        (λ r. leaves_of_type (expand_in project) (field_path [] name) (start_value start) r ty))
    lead Input = of-section Input (λ _. refl) _ (its Input)
    lead Output = of-section Output (λ _. refl) _ (its Output)
    lead InOut = of-section InOut (λ _. refl) _ (its InOut)
    lead Static = of-section Static (λ _. refl) _ (its Static)
    lead Temp = of-section Temp (λ h. absurd (false≢true (sym h))) _ (its Temp)
    lead Const = tt

staying : (ls : List Leaf) → AllByRecursion IsOfVariable ls → AllByRecursion Shows (map cell_of (filter (λ l. stays l.section) ls))
staying [] are = tt
staying (l ∷ ls) are = lead (is_temp l.section) are.0 (staying ls are.1)
  where
    lead : (b : Bool) → ((b ≡ false) → is_brief (role_of l.section) ≡ false)
        → AllByRecursion Shows (map cell_of (filter (λ k. stays k.section) ls))
        → AllByRecursion Shows (map cell_of (cond (not b) (l ∷ filter (λ k. stays k.section) ls) (filter (λ k. stays k.section) ls)))
    lead true is rest = rest
    lead false is rest = (is refl, rest)

entry-shows : (project : ProjectTree) (b : BlockTree) → AllByRecursion Shows (entry_cells project b)
entry-shows project b = lead (is_fb b.kind)
  where
    lead : (t : Bool) → AllByRecursion Shows (if t then map cell_of (filter (λ l. stays l.section) (leaves_of_block project b)) else [])
    lead true = staying (leaves_of_block project b) (leaves-of project b.vars)
    lead false = tt

-- ---- data blocks and areas

start-shows : (cs : List Cell) (n : ℕ) (v : ℤ) → AllByRecursion Shows cs → AllByRecursion Shows (with_start_at cs n v)
start-shows [] n v are = tt
start-shows (c ∷ cs) zero v are = (are.0, are.1)
start-shows (c ∷ cs) (suc n) v are = (are.0, start-shows cs n v are.1)

option-shows : (cs : List Cell) (o : Option Laid) (v : ℤ) → AllByRecursion Shows cs → AllByRecursion Shows (with_start cs o v)
option-shows cs None v are = are
option-shows cs (Some laid) v are = start-shows cs laid.first v are

starts-show : (project : ProjectTree) (ty : TypeTree) (ss : List StartTree) (cs : List Cell) → AllByRecursion Shows cs
    → AllByRecursion Shows (with_starts project ty ss cs)
starts-show project ty [] cs are = are
starts-show project ty (s ∷ more) cs are = starts-show project ty more _ (option-shows cs (started project ty s.0) s.1.value are)

static-shows : (ls : List Leaf) → AreOf Static ls → AllByRecursion Shows (map cell_of ls)
static-shows [] are = tt
static-shows (l ∷ ls) are = (ap (λ s. is_brief (role_of s)) are.0, static-shows ls are.1)

data-shows : (project : ProjectTree) (b : BlockTree) → AllByRecursion Shows (data_cells project b)
data-shows project b = lead (is_db b.kind)
  where
    lead : (t : Bool) → AllByRecursion Shows
        (if t then with_starts project (data_type b) (starts_of b.body) (map cell_of (data_leaves project b)) else [])
    lead true = starts-show project (data_type b) (starts_of b.body) (map cell_of (data_leaves project b))
        (static-shows (data_leaves project b) (of-type (expand_in project)
        (of-named (types_of_project project) (length (types_of_project project))) b.name.spelled (pos 0) Static (data_type b)))
    lead false = tt

areas-show : (bytes : Bytes) → AllByRecursion Shows (area_cells bytes)
areas-show bytes =
    all-append Shows (map (byte_cell 73 InputRole) bytes.inputs ++ map (byte_cell 81 Kept) bytes.outputs) (map (byte_cell 77 Kept) bytes.flags)
    (all-append Shows (map (byte_cell 73 InputRole) bytes.inputs) (map (byte_cell 81 Kept) bytes.outputs)
    (mapped Shows (byte_cell 73 InputRole) (λ n. refl) bytes.inputs) (mapped Shows (byte_cell 81 Kept) (λ n. refl) bytes.outputs))
    (mapped Shows (byte_cell 77 Kept) (λ n. refl) bytes.flags)

part-shows : (project : ProjectTree) (b : BlockTree) (bytes : Bytes) → AllByRecursion Shows (visible_part project b bytes)
part-shows project b bytes =
    all-append Shows (entry_cells project b ++ flat_map (data_cells project) project.blocks) (area_cells bytes)
    (all-append Shows (entry_cells project b) (flat_map (data_cells project) project.blocks) (entry-shows project b)
    (flat Shows (data_cells project) (data-shows project) project.blocks)) (areas-show bytes)

-- ---- brief cells

own-hide : (project : ProjectTree) (b : BlockTree) → AllByRecursion Hides (own_brief_cells project b)
own-hide project b =
    all-append Hides (brief_variables project b ++ value_cells b) (stl_cells b)
    (all-append Hides (brief_variables project b) (value_cells b)
    (mapped Hides (λ (l : Leaf). brief_cell l.path l.ty l.start) (λ l. refl) _)
    (mapped Hides (λ (ty : Ty). brief_cell [] ty (pos 0)) (λ ty. refl) (option_to_list b.value))) (lead (is_stl b.body))
  where
    lead : (t : Bool) → AllByRecursion Hides (if t then map (λ ty. brief_cell [] ty (pos 0)) stl_types else [])
    lead true = mapped Hides (λ (ty : Ty). brief_cell [] ty (pos 0)) (λ ty. refl) stl_types
    lead false = tt

nameless-hide : (cs : List Cell) → AllByRecursion Hides cs → AllByRecursion Hides (map nameless cs)
nameless-hide [] are = tt
nameless-hide (c ∷ cs) are = (are.0, nameless-hide cs are.1)

callee-hides : (project : ProjectTree) (below : BlockTree → List Cell) → ((b : BlockTree) → AllByRecursion Hides (below b)) → (c : Callee)
    → AllByRecursion Hides (brief_of_callee project below c)
callee-hides project below each (runs b) =
    all-append Hides (map nameless (own_brief_cells project b)) (below b) (nameless-hide (own_brief_cells project b) (own-hide project b)) (each b)
callee-hides project below each (not_declared place) = tt
callee-hides project below each (not_callable place) = tt
callee-hides project below each unknown = tt

below-hide : (project : ProjectTree) (n : ℕ) (b : BlockTree) → AllByRecursion Hides (brief_below project n b)
below-hide project zero b = tt
below-hide project (suc n) b =
    flat Hides (λ (s : CallSite). brief_of_callee project (brief_below project n) (callee_of (record { project = project; block = b }) s))
    (λ s. callee-hides project (brief_below project n) (below-hide project n) (callee_of (record { project = project; block = b }) s)) (calls_of b)

brief-hide : (project : ProjectTree) (b : BlockTree) → AllByRecursion Hides (brief_cells project b)
brief-hide project b =
    all-append Hides (own_brief_cells project b) (brief_below project most_calls b) (own-hide project b) (below-hide project most_calls b)

-- ---- the table

append-none : (xs : List Cell) → xs ++ [] ≡ xs
append-none [] = refl
append-none (x ∷ xs) = ap (λ l. x ∷ l) (append-none xs)

pub visible-first : (project : ProjectTree) (b : BlockTree) (bytes : Bytes) → visible_cells (table_of project b bytes) ≡ visible_part project b bytes
visible-first project b bytes =
    filter-append (λ c. not (is_brief c.role)) (visible_part project b bytes) (brief_cells project b)
    ∙ (ap (λ l. l ++ visible_cells (brief_cells project b)) (shown (visible_part project b bytes) (part-shows project b bytes))
    ∙ (ap (λ l. visible_part project b bytes ++ l) (hidden (brief_cells project b) (brief-hide project b))
    ∙ append-none (visible_part project b bytes)))
