-- The cell table has as many cells for each part as the layout says, so that what is looked for behind a part stands there.
use Rattle.std.proofs.Common.{◌≡◌, ℕ, zero, suc, ◌+◌, ℤ, pos, ◌+ℤ◌, List, [], ◌∷◌, ◌++◌, map, length, Bool, true, false, not, cond, Option, Some, None, refl, ap, ◌∙◌, arith}
use Rattle.std.specs.Prelude.{filter, flat_map, unwrap_or, if◌then◌else◌}
use Rattle.std.specs.List.{AllByRecursion}
use Rattle.std.proofs.lemmas.List.{length-append, length-map}
use Rattle.std.proofs.lemmas.List.Elements.{filter-append}
use Rattle.std.proofs.lemmas.Option.{none-some}
use Rattle.pv_place.specs.declared.place.Place.{Place}
use Rattle.pv_place.specs.declared.role.Role.TheVariants.{Input as InputRole, Kept}
use Rattle.pv_types.specs.declared.name.Name.{Name}
use Rattle.pv_types.specs.declared.declaration.Literal.{Literal}
use Rattle.pv_types.specs.declared.declaration.Section.{Section}
use Rattle.pv_types.specs.declared.declaration.Section.TheVariants.{Input, Output, InOut, Static, Temp, Const}
use Rattle.pv_types.specs.declared.leaf.Leaf.{Leaf}
use Rattle.pv_types.specs.Tree.{TypeTree, plain, array, structure, named, unread, VarTree, var, VarTrees, no_vars, _then_}
use Rattle.pv_types.specs.View.{listed}
use Rattle.pv_types.specs.Named.{NamedType, look_up}
use Rattle.pv_types.specs.Leaves.{block, instance, fields, section_within, field_path, element_path, start_value, count_between, leaves_where, leaves_of_elements, leaves_of_type, leaves_of_vars, leaves_of_named, leaves_of}
use Rattle.pv_types.proofs.ForCallers.{counted_leaves}
use Rattle.pv_tree.specs.Tree.{StartTree, BlockTree}
use Rattle.pv_tree.specs.Scopes.{ProjectTree, is_fb, is_of_instance}
use Rattle.pv_tree.specs.Parts.{starts_of}
use Rattle.pv_mean.specs.declared.cell.Cell.{Cell}
use Rattle.pv_tree.specs.NamedTypes.{types_of_project}
use Rattle.pv_mean.specs.Layout.{Laid, size_in, size_among, is_temp, is_db, data_type, entry_size, data_size}
use Rattle.pv_mean.specs.AreaBytes.{Bytes}
use Rattle.pv_mean.specs.Cells.{cell_of, leaves_of_block, entry_cells, with_start_at, with_start, with_starts, started, data_leaves, data_cells, area_cells, byte_cell}

-- ---- the leaves of a declaration have its section

abbrev pub AreOf : Section → List Leaf → Type 0
AreOf s leaves = AllByRecursion (λ l. l.section ≡ s) leaves

pub of-append : (s : Section) (xs ys : List Leaf) → AreOf s xs → AreOf s ys → AreOf s (xs ++ ys)
of-append s [] ys a b = b
of-append s (x ∷ xs) ys a b = (a.0, of-append s xs ys a.1 b)

of-elements : (s : Section) (element : ℤ → List Leaf) → ((i : ℤ) → AreOf s (element i)) → (i : ℤ) (count : ℕ)
    → AreOf s (leaves_of_elements element i count)
of-elements s element each i zero = tt
of-elements s element each i (suc count) = of-append s (element i) _ (each i) (of-elements s element each (i +ℤ pos 1) count)

module _ (expand : List ℕ → List ℕ → Section → List Leaf) (known : (key path : List ℕ) (s : Section) → AreOf s (expand key path s)) where
  mutual
    pub of-type : (path : List ℕ) (start : ℤ) (s : Section) (t : TypeTree) → AreOf s (leaves_of_type expand path start s t)
    of-type path start s (plain ty) = (refl, tt)
    of-type path start s (array low high of place) =
        of-elements s _ (λ i. of-type (element_path path i) (pos 0) s of) low (count_between low high)
    of-type path start s (structure vars) = of-fields path s vars
    of-type path start s (named name place) = known name.key path s
    of-type path start s unread = tt

    of-fields : (path : List ℕ) (s : Section) (vars : VarTrees) → AreOf s (leaves_of_vars expand (fields s) path vars)
    of-fields path s no_vars = tt
    of-fields path s (_then_ (var name section ty start place) xs) =
        of-append s (leaves_of_type expand (field_path path name) (start_value start) s ty) _
        (of-type (field_path path name) (start_value start) s ty) (of-fields path s xs)

  of-instance : (path : List ℕ) (s : Section) (vars : VarTrees) → AreOf s (leaves_of_vars expand (instance s) path vars)
  of-instance path s no_vars = tt
  of-instance path s (_then_ (var name section ty start place) xs) =
      of-append s (leaves_where (section_within (instance s) section)
      (λ r. leaves_of_type expand (field_path path name) (start_value start) r ty)) _ (lead section) (of-instance path s xs)
    where
      lead : (own : Section) → AreOf s (leaves_where (section_within (instance s) own)
          (λ r. leaves_of_type expand (field_path path name) (start_value start) r ty))
      lead Input = of-type (field_path path name) (start_value start) s ty
      lead Output = of-type (field_path path name) (start_value start) s ty
      lead InOut = of-type (field_path path name) (start_value start) s ty
      lead Static = of-type (field_path path name) (start_value start) s ty
      lead Temp = tt
      lead Const = tt

pub of-named : (types : List NamedType) (n : ℕ) (key path : List ℕ) (s : Section) → AreOf s (leaves_of_named types n key path s)
of-named types zero key path s = tt
of-named types (suc n) key path s =
    of-instance (leaves_of_named types n) (λ k p r. of-named types n k p r) path s (listed (unwrap_or (look_up types key) []))

-- ---- filters by section

kept-all : (p : Section → Bool) (s : Section) (xs : List Leaf) → AreOf s xs → p s ≡ true → filter (λ l. p l.section) xs ≡ xs
kept-all p s [] are is = refl
kept-all p s (x ∷ xs) are is =
    ap (λ b. cond b (x ∷ filter (λ l. p l.section) xs) (filter (λ l. p l.section) xs)) (ap p are.0 ∙ is)
    ∙ ap (λ l. x ∷ l) (kept-all p s xs are.1 is)

kept-none : (p : Section → Bool) (s : Section) (xs : List Leaf) → AreOf s xs → p s ≡ false → filter (λ l. p l.section) xs ≡ []
kept-none p s [] are is = refl
kept-none p s (x ∷ xs) are is =
    ap (λ b. cond b (x ∷ filter (λ l. p l.section) xs) (filter (λ l. p l.section) xs)) (ap p are.0 ∙ is)
    ∙ kept-none p s xs are.1 is

-- ---- the entered block

abbrev pub expand_in : ProjectTree → List ℕ → List ℕ → Section → List Leaf
expand_in project = leaves_of_named (types_of_project project) (length (types_of_project project))

abbrev pub stays : Section → Bool
stays s = not (is_temp s)

type-counted : (project : ProjectTree) (name : Name) (s : Section) (ty : TypeTree) (start : Option Literal) (place : Place)
    → section_within block s ≡ Some s
    → length (leaves_of_type (expand_in project) (field_path [] name) (start_value start) s ty) ≡ size_in project ty
type-counted project name Input ty start place is =
    let e = counted_leaves (types_of_project project) (var name Input ty start place ∷ []) in
    let a = length-append (leaves_of_type (expand_in project) (field_path [] name) (start_value start) Input ty) [] in omega (arith, e, a)
type-counted project name Output ty start place is =
    let e = counted_leaves (types_of_project project) (var name Output ty start place ∷ []) in
    let a = length-append (leaves_of_type (expand_in project) (field_path [] name) (start_value start) Output ty) [] in omega (arith, e, a)
type-counted project name InOut ty start place is =
    let e = counted_leaves (types_of_project project) (var name InOut ty start place ∷ []) in
    let a = length-append (leaves_of_type (expand_in project) (field_path [] name) (start_value start) InOut ty) [] in omega (arith, e, a)
type-counted project name Static ty start place is =
    let e = counted_leaves (types_of_project project) (var name Static ty start place ∷ []) in
    let a = length-append (leaves_of_type (expand_in project) (field_path [] name) (start_value start) Static ty) [] in omega (arith, e, a)
type-counted project name Temp ty start place is =
    let e = counted_leaves (types_of_project project) (var name Temp ty start place ∷ []) in
    let a = length-append (leaves_of_type (expand_in project) (field_path [] name) (start_value start) Temp ty) [] in omega (arith, e, a)
type-counted project name Const ty start place is = absurd (none-some _ is)

one-stays : (project : ProjectTree) (name : Name) (s : Section) (ty : TypeTree) (start : Option Literal) (place : Place)
    → length (filter (λ l. stays l.section) (leaves_where (section_within block s)
    (λ r. leaves_of_type (expand_in project) (field_path [] name) (start_value start) r ty)))
    ≡ (if is_of_instance s then size_in project ty else 0)
one-stays project name Input ty start place =
    ap length (kept-all stays Input _ (of-type (expand_in project) (of-named (types_of_project project) (length (types_of_project project)))
    (field_path [] name) (start_value start) Input ty) refl) ∙ type-counted project name Input ty start place refl
one-stays project name Output ty start place =
    ap length (kept-all stays Output _ (of-type (expand_in project) (of-named (types_of_project project) (length (types_of_project project)))
    (field_path [] name) (start_value start) Output ty) refl) ∙ type-counted project name Output ty start place refl
one-stays project name InOut ty start place =
    ap length (kept-all stays InOut _ (of-type (expand_in project) (of-named (types_of_project project) (length (types_of_project project)))
    (field_path [] name) (start_value start) InOut ty) refl) ∙ type-counted project name InOut ty start place refl
one-stays project name Static ty start place =
    ap length (kept-all stays Static _ (of-type (expand_in project) (of-named (types_of_project project) (length (types_of_project project)))
    (field_path [] name) (start_value start) Static ty) refl) ∙ type-counted project name Static ty start place refl
one-stays project name Temp ty start place =
    ap length (kept-none stays Temp _ (of-type (expand_in project) (of-named (types_of_project project) (length (types_of_project project)))
    (field_path [] name) (start_value start) Temp ty) refl)
one-stays project name Const ty start place = refl

all-stay : (project : ProjectTree) (vars : List VarTree)
    → length (filter (λ l. stays l.section) (leaves_of (types_of_project project) vars)) ≡ size_among project is_of_instance vars
all-stay project [] = refl
all-stay project (var name section ty start place ∷ more) =
    ap length (filter-append (λ l. stays l.section) (leaves_where (section_within block section)
    (λ r. leaves_of_type (expand_in project) (field_path [] name) (start_value start) r ty)) (leaves_of (types_of_project project) more))
    ∙ (length-append (filter (λ l. stays l.section) (leaves_where (section_within block section)
    (λ r. leaves_of_type (expand_in project) (field_path [] name) (start_value start) r ty)))
    (filter (λ l. stays l.section) (leaves_of (types_of_project project) more))
    ∙ (ap (λ n. n + length (filter (λ l. stays l.section) (leaves_of (types_of_project project) more)))
    (one-stays project name section ty start place)
    ∙ (ap (λ n. (if is_of_instance section then size_in project ty else 0) + n) (all-stay project more)
    ∙ lead (is_of_instance section))))
  where
    lead : (b : Bool) → (if b then size_in project ty else 0) + size_among project is_of_instance more
        ≡ (if b then size_in project ty + size_among project is_of_instance more else size_among project is_of_instance more)
    lead true = refl
    lead false = omega arith

pub entry-counted : (project : ProjectTree) (block' : BlockTree) → length (entry_cells project block') ≡ entry_size project block'
entry-counted project b = lead (is_fb b.kind)
  where
    lead : (t : Bool) → length (if t then map cell_of (filter (λ l. stays l.section) (leaves_of_block project b)) else [])
        ≡ (if t then size_among project is_of_instance b.vars else 0)
    lead true = length-map (filter (λ l. stays l.section) (leaves_of_block project b)) cell_of ∙ all-stay project b.vars
    lead false = refl

-- ---- data blocks

start-keeps : (cells : List Cell) (n : ℕ) (v : ℤ) → length (with_start_at cells n v) ≡ length cells
start-keeps [] n v = refl
start-keeps (c ∷ cs) zero v = refl
start-keeps (c ∷ cs) (suc n) v = ap suc (start-keeps cs n v)

option-keeps : (cells : List Cell) (o : Option Laid) (v : ℤ) → length (with_start cells o v) ≡ length cells
option-keeps cells None v = refl
option-keeps cells (Some laid) v = start-keeps cells laid.first v

starts-keep : (project : ProjectTree) (ty : TypeTree) (ss : List StartTree) (cells : List Cell)
    → length (with_starts project ty ss cells) ≡ length cells
starts-keep project ty [] cells = refl
starts-keep project ty (s ∷ more) cells =
    starts-keep project ty more _ ∙ option-keeps cells (started project ty s.0) s.1.value

data-counted : (project : ProjectTree) (b : BlockTree) → length (data_leaves project b) ≡ size_in project (data_type b)
data-counted project b = type-counted project b.name Static (data_type b) None b.place refl

all-data-counted : (project : ProjectTree) (blocks : List BlockTree) → length (flat_map (data_cells project) blocks) ≡ data_size project blocks
all-data-counted project [] = refl
all-data-counted project (b ∷ more) =
    length-append (data_cells project b) (flat_map (data_cells project) more)
    ∙ (ap (λ n. length (data_cells project b) + n) (all-data-counted project more) ∙ lead (is_db b.kind))
  where
    lead : (t : Bool) → length (if t then with_starts project (data_type b) (starts_of b.body) (map cell_of (data_leaves project b)) else [])
        + data_size project more
        ≡ (if t then size_in project (data_type b) + data_size project more else data_size project more)
    lead true = ap (λ n. n + data_size project more)
        (starts-keep project (data_type b) (starts_of b.body) (map cell_of (data_leaves project b))
        ∙ (length-map (data_leaves project b) cell_of ∙ data-counted project b))
    lead false = omega arith

pub data-counted_all : (project : ProjectTree) → length (flat_map (data_cells project) project.blocks) ≡ data_size project project.blocks
data-counted_all project = all-data-counted project project.blocks

-- ---- areas

sums : (x y z a b c : ℕ) → x ≡ a → y ≡ b → z ≡ c → x + y + z ≡ a + b + c
sums x y z a b c p q r = omega (arith, p, q, r)

pub areas-counted : (bytes : Bytes) → length (area_cells bytes) ≡ length bytes.inputs + length bytes.outputs + length bytes.flags
areas-counted bytes =
    length-append (map (byte_cell 73 InputRole) bytes.inputs ++ map (byte_cell 81 Kept) bytes.outputs) (map (byte_cell 77 Kept) bytes.flags)
    ∙ (ap (λ n. n + length (map (byte_cell 77 Kept) bytes.flags))
    (length-append (map (byte_cell 73 InputRole) bytes.inputs) (map (byte_cell 81 Kept) bytes.outputs))
    ∙ sums _ _ _ _ _ _ (length-map bytes.inputs (byte_cell 73 InputRole)) (length-map bytes.outputs (byte_cell 81 Kept))
    (length-map bytes.flags (byte_cell 77 Kept)))
