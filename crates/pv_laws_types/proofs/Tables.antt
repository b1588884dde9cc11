-- The types of the table's visible cells: those of the entered block, of data blocks and of bytes, whatever a case says of the cells.
use Rattle.std.proofs.Common.{◌≡◌, ℕ, zero, suc, ◌+◌, ℤ, List, [], ◌∷◌, ◌++◌, map, length, Bool, true, false, not, cond, Option, Some, None, Contains, refl, sym, ap, subst, ◌∙◌, pos, arith}
use Rattle.std.specs.Prelude.{⊤, filter, flat_map, bytes_eq, if◌then◌else◌}
use Rattle.std.specs.List.{AllByRecursion}
use Rattle.std.proofs.lemmas.Bool.{true≢false}
use Rattle.std.proofs.lemmas.List.{length-append}
use Rattle.std.proofs.lemmas.List.Elements.{Contains-append_right}
use Rattle.std.proofs.lemmas.Option.{none-some}
use Rattle.std.proofs.lemmas.Slice.Eq.{bytes_eq-Decides}
use Rattle.pv_word.specs.declared.types.Ty.{Ty}
use Rattle.pv_types.specs.declared.declaration.Section.{Section}
use Rattle.pv_types.specs.declared.declaration.Section.TheVariants.{Input, Output, InOut, Static, Temp, Const}
use Rattle.pv_types.specs.declared.leaf.Leaf.{Leaf}
use Rattle.pv_types.specs.Tree.{TypeTree, VarTree, var}
use Rattle.pv_types.specs.View.{listed}
use Rattle.pv_tree.specs.declared.block.BlockKind.{BlockKind}
use Rattle.pv_tree.specs.declared.block.BlockKind.TheVariants.{Fb, Fc, Ob, Db, Udt}
use Rattle.pv_tree.specs.Tree.{StartTree, BlockTree}
use Rattle.pv_tree.specs.Scopes.{ProjectTree, is_fb, is_of_instance, first_block}
use Rattle.pv_tree.specs.Parts.{starts_of}
use Rattle.pv_tree.specs.Rules.{KeepsRules}
use Rattle.pv_tree.specs.Rules.MissingTypes.{names_in_vars, name_of_kind}
use Rattle.pv_mean.specs.declared.cell.Cell.{Cell}
use Rattle.pv_mean.specs.Layout.{Laid, size_in, size_among, is_temp, is_db, held_by, data_type, entry_size, data_first}
use Rattle.pv_mean.specs.Cells.{View, cell_of, leaves_of_block, entry_cells, with_start_at, with_start, with_starts, started, data_leaves, data_cells, area_cells, visible_part, table_of, brief_cells, changed_at, as_param, as_bound, with_params, with_bindings, with_view}
use Rattle.pv_mean.specs.AreaBytes.{Bytes}
use Rattle.pv_mean.specs.Sources.{Source, data_block_first}
use Rattle.pv_mean.specs.Frames.{is_brief, visible_cells}
use Rattle.pv_laws_types.specs.Typed.{types_of_cells, visible_types, StandAt, HasTable}
use Rattle.pv_laws_types.proofs.CellTypes.{leaf_types, types_in, types_among, types_counted, laid_types, but_constants, block_types, among_same}
use Rattle.pv_laws_types.proofs.Standing.{stand_left, stand_right, IsKnown, IsLaid, name_known, block_known}

pub cells_append : (xs ys : List Cell) → types_of_cells (xs ++ ys) ≡ types_of_cells xs ++ types_of_cells ys
cells_append [] ys = refl
cells_append (x ∷ xs) ys = ap (λ l. x.ty ∷ l) (cells_append xs ys)

leaf_cells : (leaves : List Leaf) → types_of_cells (map cell_of leaves) ≡ leaf_types leaves
leaf_cells [] = refl
leaf_cells (l ∷ ls) = ap (λ t. l.ty ∷ t) (leaf_cells ls)

-- ---- the visible cells begin with those of the table

-- cells that are shown, of these types, and what is behind them
abbrev Fronted : List Ty → List Cell → Type 0
Fronted [] cells = ⊤
Fronted (t ∷ ts) [] = ⊥
Fronted (t ∷ ts) (c ∷ cs) = (c.ty ≡ t) × (is_brief c.role ≡ false) × Fronted ts cs

changed_fronted : (change : Cell → Cell) → ((c : Cell) → (change c).ty ≡ c.ty) → ((c : Cell) → is_brief (change c).role ≡ false)
    → (types : List Ty) (cells : List Cell) (n : ℕ) → Fronted types cells → Fronted types (changed_at change cells n)
changed_fronted change keeps shows [] cells n f = tt
changed_fronted change keeps shows (t ∷ ts) [] n f = absurd f
changed_fronted change keeps shows (t ∷ ts) (c ∷ cs) zero f = (keeps c ∙ f.0, shows c, f.2)
changed_fronted change keeps shows (t ∷ ts) (c ∷ cs) (suc n) f = (f.0, f.1, changed_fronted change keeps shows ts cs n f.2)

params_fronted : (types : List Ty) (ns : List ℕ) (cells : List Cell) → Fronted types cells → Fronted types (with_params ns cells)
params_fronted types [] cells f = f
params_fronted types (n ∷ more) cells f =
    params_fronted types more (changed_at as_param cells n) (changed_fronted as_param (λ c. refl) (λ c. refl) types cells n f)

bindings_fronted : (types : List Ty) (bs : List (ℕ × ℤ)) (cells : List Cell) → Fronted types cells → Fronted types (with_bindings bs cells)
bindings_fronted types [] cells f = f
bindings_fronted types (b ∷ more) cells f =
    bindings_fronted types more (changed_at (as_bound b.1) cells b.0)
    (changed_fronted (as_bound b.1) (λ c. refl) (λ c. refl) types cells b.0 f)

view_fronted : (types : List Ty) (view : View) (cells : List Cell) → Fronted types cells → Fronted types (with_view view cells)
view_fronted types view cells f =
    bindings_fronted types view.bound (with_params view.params cells) (params_fronted types view.params cells f)

fronted_stands : (types : List Ty) (cells : List Cell) → Fronted types cells → StandAt types (types_of_cells (visible_cells cells)) 0
fronted_stands [] cells f = record { front = []; back = types_of_cells (visible_cells cells); is = refl; at = refl }
fronted_stands (t ∷ ts) [] f = absurd f
fronted_stands (t ∷ ts) (c ∷ cs) f =
    let s = fronted_stands ts cs f.2 in record {
      front = [];
      back = s.back;
      is = ap (λ b. types_of_cells (cond (not b) (c ∷ visible_cells cs) (visible_cells cs))) f.1
          ∙ (ap (λ x. x ∷ types_of_cells (visible_cells cs)) f.0 ∙ ap (λ l. t ∷ l) (s.is ∙ front_nil s.front (ts ++ s.back) s.at));
      at = refl;
    }
  where
    front_nil : (front rest : List Ty) → length front ≡ 0 → front ++ rest ≡ rest
    front_nil [] rest e = refl
    front_nil (x ∷ front) rest e = absurd (omega (arith, e))

shown_all : (cells : List Cell) → AllByRecursion (λ c. is_brief c.role ≡ false) (visible_cells cells)
shown_all [] = tt
shown_all (c ∷ cs) = lead (is_brief c.role) refl (shown_all cs)
  where
    lead : (b : Bool) → is_brief c.role ≡ b → AllByRecursion (λ d. is_brief d.role ≡ false) (visible_cells cs)
        → AllByRecursion (λ d. is_brief d.role ≡ false) (cond (not b) (c ∷ visible_cells cs) (visible_cells cs))
    lead true is rest = rest
    lead false is rest = (is, rest)

all_fronted : (xs ys : List Cell) → AllByRecursion (λ c. is_brief c.role ≡ false) xs → Fronted (types_of_cells xs) (xs ++ ys)
all_fronted [] ys a = tt
all_fronted (x ∷ xs) ys a = (refl, a.0, all_fronted xs ys a.1)

-- what the law on tables says
abbrev pub Shows : Type 0
Shows = (project : ProjectTree) (block : BlockTree) (bytes : Bytes)
    → visible_cells (table_of project block bytes) ≡ visible_part project block bytes

abbrev pub table_types : Source → List Ty
table_types source = types_of_cells (visible_part source.project source.entry source.bytes)

pub table_stands : Shows → (source : Source) → HasTable source → StandAt (table_types source) (visible_types source) 0
table_stands shows source table =
    subst (λ cells. StandAt (table_types source) (types_of_cells (visible_cells cells)) 0) (sym table.1)
    (fronted_stands (table_types source) (with_view table.0 (table_of source.project source.entry source.bytes))
    (view_fronted (table_types source) table.0 (table_of source.project source.entry source.bytes)
    (all_fronted (visible_part source.project source.entry source.bytes) (brief_cells source.project source.entry)
    (subst (AllByRecursion (λ c. is_brief c.role ≡ false)) (shows source.project source.entry source.bytes)
    (shown_all (table_of source.project source.entry source.bytes))))))

-- ---- the entered block

section_kept : (s : Section) → but_constants (λ x. not (is_temp x)) s ≡ is_of_instance s
section_kept Input = refl
section_kept Output = refl
section_kept InOut = refl
section_kept Static = refl
section_kept Temp = refl
section_kept Const = refl

pub instance_cells_types : (project : ProjectTree) (b : BlockTree)
    → types_of_cells (entry_cells project b) ≡ cond (is_fb b.kind) (types_among project is_of_instance b.vars) []
instance_cells_types project b = lead (is_fb b.kind)
  where
    lead : (t : Bool) → types_of_cells (if t then map cell_of (filter (λ l. not (is_temp l.section)) (leaves_of_block project b)) else [])
        ≡ cond t (types_among project is_of_instance b.vars) []
    lead true = leaf_cells (filter (λ l. not (is_temp l.section)) (leaves_of_block project b))
        ∙ (block_types project (λ s. not (is_temp s)) b.vars
        ∙ among_same project (but_constants (λ s. not (is_temp s))) is_of_instance section_kept b.vars)
    lead false = refl

pub among_counted : (project : ProjectTree) (test : Section → Bool) (vars : List VarTree)
    → length (types_among project test vars) ≡ size_among project test vars
among_counted project test [] = refl
among_counted project test (var name section ty start place ∷ more) = lead (among_counted project test more) (test section)
  where
    lead : length (types_among project test more) ≡ size_among project test more → (t : Bool)
        → length (cond t (types_in project ty ++ types_among project test more) (types_among project test more))
        ≡ (if t then size_in project ty + size_among project test more else size_among project test more)
    lead b true = let e = length-append (types_in project ty) (types_among project test more) in
        let a = types_counted project ty in omega (arith, e, a, b)
    lead b false = b

entry_counted : (project : ProjectTree) (b : BlockTree) → length (types_of_cells (entry_cells project b)) ≡ entry_size project b
entry_counted project b = ap length (instance_cells_types project b) ∙ lead (is_fb b.kind)
  where
    lead : (t : Bool) → length (cond t (types_among project is_of_instance b.vars) [])
        ≡ (if t then size_among project is_of_instance b.vars else 0)
    lead true = among_counted project is_of_instance b.vars
    lead false = refl

module _ (shows : Shows) (source : Source) (table : HasTable source) where
  front_stands : StandAt (types_of_cells (entry_cells source.project source.entry)
      ++ types_of_cells (flat_map (data_cells source.project) source.project.blocks)) (visible_types source) 0
  front_stands =
      let front = entry_cells source.project source.entry ++ flat_map (data_cells source.project) source.project.blocks in
      stand_left _ (types_of_cells (area_cells source.bytes)) (visible_types source) 0
      (subst (λ l. StandAt l (visible_types source) 0)
      (cells_append front (area_cells source.bytes)
      ∙ ap (λ l. l ++ types_of_cells (area_cells source.bytes))
      (cells_append (entry_cells source.project source.entry) (flat_map (data_cells source.project) source.project.blocks)))
      (table_stands shows source table))

  pub entry_stands : StandAt (types_of_cells (entry_cells source.project source.entry)) (visible_types source) 0
  entry_stands = stand_left _ (types_of_cells (flat_map (data_cells source.project) source.project.blocks)) (visible_types source) 0 front_stands

  data_stand : StandAt (types_of_cells (flat_map (data_cells source.project) source.project.blocks)) (visible_types source)
      (entry_size source.project source.entry)
  data_stand =
      subst (StandAt (types_of_cells (flat_map (data_cells source.project) source.project.blocks)) (visible_types source))
      (let e = entry_counted source.project source.entry in omega (arith, e))
      (stand_right (types_of_cells (entry_cells source.project source.entry)) _ (visible_types source) 0 front_stands)

-- ---- data blocks

start_types : (cells : List Cell) (n : ℕ) (v : ℤ) → types_of_cells (with_start_at cells n v) ≡ types_of_cells cells
start_types [] n v = refl
start_types (c ∷ cs) zero v = refl
start_types (c ∷ cs) (suc n) v = ap (λ l. c.ty ∷ l) (start_types cs n v)

option_types : (cells : List Cell) (o : Option Laid) (v : ℤ) → types_of_cells (with_start cells o v) ≡ types_of_cells cells
option_types cells None v = refl
option_types cells (Some laid) v = start_types cells laid.first v

starts_types : (project : ProjectTree) (ty : TypeTree) (ss : List StartTree) (cells : List Cell)
    → types_of_cells (with_starts project ty ss cells) ≡ types_of_cells cells
starts_types project ty [] cells = refl
starts_types project ty (s ∷ more) cells =
    starts_types project ty more (with_start cells (started project ty s.0) s.1.value) ∙ option_types cells (started project ty s.0) s.1.value

data_types : (project : ProjectTree) (b : BlockTree)
    → types_of_cells (data_cells project b) ≡ cond (is_db b.kind) (types_in project (data_type b)) []
data_types project b = lead (is_db b.kind)
  where
    lead : (t : Bool) → types_of_cells (if t then with_starts project (data_type b) (starts_of b.body) (map cell_of (data_leaves project b)) else [])
        ≡ cond t (types_in project (data_type b)) []
    lead true = starts_types project (data_type b) (starts_of b.body) (map cell_of (data_leaves project b))
        ∙ (leaf_cells (data_leaves project b) ∙ laid_types project b.name.spelled (pos 0) Static (data_type b))
    lead false = refl

same_some : {X : Type 0} (x y : X) → Some x ≡ Some y → x ≡ y
same_some x y e = cc

block_stands : (project : ProjectTree) (all : List Ty) (blocks : List BlockTree) (key : List ℕ) (first : ℕ) (b : BlockTree)
    → first_block blocks key ≡ Some b → is_db b.kind ≡ true → StandAt (types_of_cells (flat_map (data_cells project) blocks)) all first
    → StandAt (types_in project (data_type b)) all (data_first project blocks key first)
block_stands project all [] key first b is db s = absurd (none-some b is)
block_stands project all (x ∷ more) key first b is db s =
    lead (λ n e w. block_stands project all more key n b e db w) (bytes_eq key x.name.key) (is_db x.kind) refl is
    (subst (λ l. StandAt l all first)
    (cells_append (data_cells project x) (flat_map (data_cells project) more)
    ∙ ap (λ l. l ++ types_of_cells (flat_map (data_cells project) more)) (data_types project x)) s)
  where
    rest : List Ty
    rest = types_of_cells (flat_map (data_cells project) more)

    lead : ((n : ℕ) → first_block more key ≡ Some b → StandAt rest all n → StandAt (types_in project (data_type b)) all (data_first project more key n))
        → (same kept : Bool) → is_db x.kind ≡ kept → cond same (Some x) (first_block more key) ≡ Some b
        → StandAt (cond kept (types_in project (data_type x)) [] ++ rest) all first
        → StandAt (types_in project (data_type b)) all
        (cond kept (cond same first (data_first project more key (first + size_in project (data_type x)))) (data_first project more key first))
    lead behind true true k e w =
        subst (λ y. StandAt (types_in project (data_type y)) all first) (same_some x b e) (stand_left (types_in project (data_type x)) rest all first w)
    lead behind true false k e w = absurd (true≢false (sym db ∙ ap (λ y. is_db y.kind) (sym (same_some x b e)) ∙ k))
    lead behind false true k e w = behind (first + size_in project (data_type x)) e
        (subst (λ n. StandAt rest all (first + n)) (types_counted project (data_type x)) (stand_right (types_in project (data_type x)) rest all first w))
    lead behind false false k e w = behind first e w

pub found_in : (blocks : List BlockTree) (key : List ℕ) (b : BlockTree) → first_block blocks key ≡ Some b → Contains blocks b
found_in [] key b e = absurd (none-some b e)
found_in (x ∷ more) key b e = lead (bytes_eq key x.name.key) e (λ f. found_in more key b f)
  where
    lead : (same : Bool) → cond same (Some x) (first_block more key) ≡ Some b → (first_block more key ≡ Some b → Contains more b)
        → Contains (x ∷ more) b
    lead true f behind = (0, omega arith, same_some x b f)
    lead false f behind = let c = behind f in (suc c.0, (let l = c.1 in omega (arith, l)), c.2)

pub block_named : (blocks : List BlockTree) (key : List ℕ) (b : BlockTree) → first_block blocks key ≡ Some b → key ≡ b.name.key
block_named [] key b is = absurd (none-some b is)
block_named (x ∷ more) key b is = lead (bytes_eq key x.name.key) refl is (λ e. block_named more key b e)
  where
    lead : (same : Bool) → bytes_eq key x.name.key ≡ same → cond same (Some x) (first_block more key) ≡ Some b
        → (first_block more key ≡ Some b → key ≡ b.name.key) → key ≡ b.name.key
    lead true s e behind = (bytes_eq-Decides key x.name.key).0 s ∙ ap (λ y. y.name.key) (same_some x b e)
    lead false s e behind = behind e

kind_known : (project : ProjectTree) → KeepsRules project → (b : BlockTree) → Contains project.blocks b → (kind : BlockKind) → b.kind ≡ kind
    → IsKnown project (held_by kind b.vars)
kind_known project keeps b c Fb k = tt
kind_known project keeps b c Fc k = tt
kind_known project keeps b c Ob k = tt
kind_known project keeps b c (Db None) k = block_known project keeps b c
kind_known project keeps b c (Db (Some of)) k =
    name_known project keeps b c of (Contains-append_right (names_in_vars (listed b.vars)) (name_of_kind b.kind) of
    (subst (λ x. Contains (name_of_kind x) of) (sym k) (0, omega arith, refl)))
kind_known project keeps b c Udt k = tt

-- a data block has its cells
pub data_laid_out : Shows → (source : Source) → HasTable source → KeepsRules source.project → (key : List ℕ) (b : BlockTree)
    → first_block source.project.blocks key ≡ Some b → is_db b.kind ≡ true
    → IsLaid source.project (visible_types source) (data_type b)
    (record { ty = data_type b; first = data_block_first source b.name.key })
data_laid_out shows source table keeps key b is db = record {
  typed = refl;
  known = kind_known source.project keeps b (found_in source.project.blocks key b is) b.kind refl;
  stands = block_stands source.project (visible_types source) source.project.blocks b.name.key (entry_size source.project source.entry) b
      (subst (λ k. first_block source.project.blocks k ≡ Some b) (block_named source.project.blocks key b is) is) db
      (data_stand shows source table);
}
