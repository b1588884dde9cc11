-- The values that a data block gives to its parts lie in the types of the cells that they are for.
use Rattle.std.proofs.Common.{◌≡◌, ◌≢◌, inl, inr, ℕ, zero, suc, ℤ, List, [], ◌∷◌, ◌++◌, map, length, Bool, true, false, Option, Some, None, IsTrue, Contains, refl, sym, ap, subst, ◌∙◌, append-nil, arith}
use Rattle.std.specs.Prelude.{⊤, is_some, flat_map, if◌then◌else◌}
use Rattle.std.proofs.lemmas.Option.{none-some}
use Rattle.std.proofs.lemmas.List.Elements.{Contains-append_right}
use Rattle.pv_word.specs.declared.types.Ty.{Ty}
use Rattle.pv_word.specs.Types.{InRange}
use Rattle.pv_place.specs.declared.place.Place.{Place}
use Rattle.pv_types.specs.declared.leaf.Leaf.{Leaf}
use Rattle.pv_types.specs.Tree.{TypeTree, plain, array, structure, named, unread, VarTree}
use Rattle.pv_types.specs.View.{listed}
use Rattle.pv_types.specs.Named.{AllNamedIn}
use Rattle.pv_tree.specs.declared.expr.Root.{Root}
use Rattle.pv_tree.specs.declared.expr.Root.TheVariants.{Local, Named, Area}
use Rattle.pv_tree.specs.declared.block.BlockKind.{BlockKind}
use Rattle.pv_tree.specs.declared.block.BlockKind.TheVariants.{Fb, Fc, Ob, Db, Udt}
use Rattle.pv_tree.specs.Tree.{PlacedName, OperandTree, operand, StartTree, BlockTree}
use Rattle.pv_tree.specs.Scopes.{ProjectTree, Scope, type_named}
use Rattle.pv_tree.specs.Things.{Thing, part, a_date}
use Rattle.pv_tree.specs.Parts.{starts_of, path_of, path_of_start, thing_of_path, operands_of}
use Rattle.pv_tree.specs.Rules.{KeepsRules, misfit, out_of_range}
use Rattle.pv_tree.specs.Rules.MissingTypes.{names_in_vars, name_of_kind}
use Rattle.pv_tree.specs.Rules.Misfits.{start_misfits_type, MisstartsThing}
use Rattle.pv_tree.specs.Rules.OutOfRange.{start_is_outside, IsThingOutside}
use Rattle.pv_mean.specs.declared.cell.Cell.{Cell}
use Rattle.pv_mean.specs.Layout.{Laid, is_db, held_by, data_type, field_laid}
use Rattle.pv_mean.specs.Cells.{cell_of, started_from, started, with_start_at, with_start, with_starts, data_leaves, data_cells}
use Rattle.pv_laws_starts.proofs.Declared.{contains_more, contains_first, inside_plain, IsLaidOut, name_laid_out, vars_laid_out}
use Rattle.pv_laws_starts.proofs.Placing.{leaves_at, Stands, IsKnown, IsPlaced, field_placed, behind_placed}
use Rattle.pv_laws_starts.proofs.Telling.{Tells, kind_tells, behind_tells}
use Rattle.pv_laws_starts.proofs.Beginning.{Begin, cells_of_leaves, data_starts, both_begin}

-- ---- a value at a number

same_head : {X : Type 0} (x y : X) (xs ys : List X) → x ∷ xs ≡ y ∷ ys → x ≡ y
same_head x y xs ys e = cc

same_tail : {X : Type 0} (x y : X) (xs ys : List X) → x ∷ xs ≡ y ∷ ys → xs ≡ ys
same_tail x y xs ys e = cc

start_begins : (cells : List Cell) (n : ℕ) (v : ℤ) (front : List Ty) (ty : Ty) (back : List Ty) → map (λ c. c.ty) cells ≡ front ++ ty ∷ back
    → length front ≡ n → InRange ty v → Begin cells → Begin (with_start_at cells n v)
start_begins [] n v front ty back is at w a = tt
start_begins (c ∷ cs) zero v [] ty back is at w a =
    (record { start = subst (λ t. InRange t v) (sym (same_head c.ty ty (map (λ d. d.ty) cs) back is)) w; unbound = a.0.unbound }, a.1)
start_begins (c ∷ cs) zero v (t ∷ front) ty back is at w a = absurd (omega (arith, at))
start_begins (c ∷ cs) (suc n) v [] ty back is at w a = absurd (omega (arith, at))
start_begins (c ∷ cs) (suc n) v (t ∷ front) ty back is at w a =
    (a.0, start_begins cs n v front ty back (same_tail c.ty t (map (λ d. d.ty) cs) (front ++ ty ∷ back) is) (omega (arith, at)) w a.1)

start_types : (cells : List Cell) (n : ℕ) (v : ℤ) → map (λ c. c.ty) (with_start_at cells n v) ≡ map (λ c. c.ty) cells
start_types [] n v = refl
start_types (c ∷ cs) zero v = refl
start_types (c ∷ cs) (suc n) v = ap (λ l. c.ty ∷ l) (start_types cs n v)

-- where there is a cell of the number it has this type, of which the value is
abbrev Fits : List Ty → Option Laid → ℤ → Type 0
Fits types None v = ⊤
Fits types (Some laid) v =
    (front : List Ty) × (ty : Ty) × (back : List Ty) × (types ≡ front ++ ty ∷ back) × (length front ≡ laid.first) × InRange ty v

option_begins : (cells : List Cell) (o : Option Laid) (v : ℤ) → Fits (map (λ c. c.ty) cells) o v → Begin cells
    → Begin (with_start cells o v)
option_begins cells None v w a = a
option_begins cells (Some laid) v (front, ty, back, is, at, inside) a = start_begins cells laid.first v front ty back is at inside a

option_types : (cells : List Cell) (o : Option Laid) (v : ℤ) → map (λ c. c.ty) (with_start cells o v) ≡ map (λ c. c.ty) cells
option_types cells None v = refl
option_types cells (Some laid) v = start_types cells laid.first v

starts_begin : (project : ProjectTree) (ty : TypeTree) (types : List Ty) (ss : List StartTree)
    → ((s : StartTree) → Contains ss s → Fits types (started project ty s.0) s.1.value) → (cells : List Cell)
    → map (λ c. c.ty) cells ≡ types
    → Begin cells → Begin (with_starts project ty ss cells)
starts_begin project ty types [] f cells e a = a
starts_begin project ty types (s ∷ more) f cells e a =
    let fits = subst (λ l. Fits l (started project ty s.0) s.1.value) (sym e) (f s (contains_first s more)) in
    starts_begin project ty types more (λ t c. f t (contains_more s t more c)) (with_start cells (started project ty s.0) s.1.value)
    (option_types cells (started project ty s.0) s.1.value ∙ e) (option_begins cells (started project ty s.0) s.1.value fits a)

-- ---- the types of leaves

abbrev leaf_types : List Leaf → List Ty
leaf_types leaves = map (λ c. c.ty) (map cell_of leaves)

types_append : (xs ys : List Leaf) → leaf_types (xs ++ ys) ≡ leaf_types xs ++ leaf_types ys
types_append [] ys = refl
types_append (x ∷ xs) ys = ap (λ l. x.ty ∷ l) (types_append xs ys)

types_count : (xs : List Leaf) → length (leaf_types xs) ≡ length xs
types_count [] = refl
types_count (x ∷ xs) = ap suc (types_count xs)

-- ---- what the rules say of a value

contains_map : {X Y : Type 0} (f : X → Y) (xs : List X) (x : X) → Contains xs x → Contains (map f xs) (f x)
contains_map f [] x (k, lt, e) = absurd (omega (arith, lt))
contains_map f (y ∷ ys) x (zero, lt, e) = (0, omega arith, ap f e)
contains_map f (y ∷ ys) x (suc k, lt, e) = contains_more (f y) (f x) (map f ys) (contains_map f ys x (k, omega (arith, lt), e))

module _ (project : ProjectTree) (keeps : KeepsRules project) (b : BlockTree) (in_project : Contains project.blocks b) where
  abbrev scope : Scope
  scope = record { project = project; block = b }

  abbrev thing : StartTree → Thing
  thing s = thing_of_path scope (path_of_start scope s.0)

  no_date : (s : StartTree) → Contains (starts_of b.body) s → (at : Place) → thing s ≡ a_date at → ⊥
  no_date s c at e =
      let p = Contains-append_right (map (path_of scope) (operands_of project b)) (map (λ v. path_of_start scope v.0) (starts_of b.body))
      (path_of_start scope s.0) (contains_map (λ (v : StartTree). path_of_start scope v.0) (starts_of b.body) s c) in
      keeps misfit at (in_project.0, b, in_project.1, in_project.2, inl (inr (p.0, path_of_start scope s.0, p.1, p.2, inr (inl e))))

  no_misfit : (s : StartTree) → Contains (starts_of b.body) s → (ty : TypeTree) → thing s ≡ part ty
      → IsTrue (start_misfits_type scope ty s.1) → ⊥
  no_misfit s c ty e h =
      keeps misfit s.1.place (
        in_project.0,
        b,
        in_project.1,
        in_project.2,
        inr (inr (inr (inl
            (c.0, s, c.1, c.2, subst (MisstartsThing scope s.1.place s.1) (sym e) (refl, h))))),
      )

  not_outside_thing : (s : StartTree) → Contains (starts_of b.body) s → (ty : TypeTree) → thing s ≡ part ty
      → IsTrue (start_is_outside ty s.1) → ⊥
  not_outside_thing s c ty e h =
      keeps out_of_range s.1.place (
        in_project.0,
        b,
        in_project.1,
        in_project.2,
        inr (inr (inl
            (c.0, s, c.1, c.2, subst (IsThingOutside s.1.place s.1) (sym e) (refl, h)))),
      )

  -- ---- the cell that a value is for

  kind_known : (kind : BlockKind) (vars : List VarTree) → AllNamedIn (IsLaidOut project) (listed vars)
      → ((n : PlacedName) → Contains (name_of_kind kind) n → IsLaidOut project n.0.key) → IsKnown project (held_by kind vars)
  kind_known Fb vars known f = tt
  kind_known Fc vars known f = tt
  kind_known Ob vars known f = tt
  kind_known (Db None) vars known f = known
  kind_known (Db (Some of)) vars known f = f of (contains_first of [])
  kind_known Udt vars known f = tt

  whole : IsPlaced project (data_leaves project b) (record { ty = data_type b; first = 0 })
  whole = record {
    known = kind_known b.kind b.vars (vars_laid_out project keeps b in_project) (λ n d. name_laid_out project keeps b in_project n
        (Contains-append_right (names_in_vars (listed b.vars)) (name_of_kind b.kind) n d));
    stands = record {
      front = [];
      back = [];
      path = b.name.spelled;
      start = None;
      is = sym (append-nil (data_leaves project b));
      at = refl;
    };
  }

  root_placed : (root : Root) (l : Laid) → started_from project (data_type b) root ≡ Some l → IsPlaced project (data_leaves project b) l
  root_placed (Local name hash place) l e =
      field_placed project keeps (data_leaves project b) (record { ty = data_type b; first = 0 }) l name.key whole e
  root_placed (Named name) l e = absurd (none-some l e)
  root_placed (Area area bits byte bit) l e = absurd (none-some l e)

  part_placed : (o : OperandTree) (l : Laid) → started project (data_type b) o ≡ Some l → IsPlaced project (data_leaves project b) l
  part_placed (operand root more place) l e =
      behind_placed project keeps (data_leaves project b) more (started_from project (data_type b) root) (root_placed root) l e

  part_tells : (o : OperandTree) → Tells (started project (data_type b) o) (thing_of_path scope (path_of_start scope o))
  part_tells (operand (Local name hash place) more at) =
      behind_tells scope more place (field_laid project (record { ty = data_type b; first = 0 }) name.key) _
      (kind_tells scope b.kind b.vars name.key place)
  part_tells (operand (Named name) more at) = behind_tells scope more at None _ tt
  part_tells (operand (Area area bits byte bit) more at) = behind_tells scope more at None _ tt

  plain_fits : (ty : Ty) (first : ℕ) (v : ℤ) → Stands project (data_leaves project b) (record { ty = plain ty; first = first })
      → InRange ty v
      → Fits (leaf_types (data_leaves project b)) (Some (record { ty = plain ty; first = first })) v
  plain_fits ty first v held inside = (
    leaf_types held.front,
    ty,
    leaf_types held.back,
    ap leaf_types held.is ∙ types_append held.front (leaves_at project held.path held.start (plain ty) ++ held.back),
    types_count held.front ∙ held.at,
    inside,
  )

  type_fits : (s : StartTree) → Contains (starts_of b.body) s → (ty : TypeTree) (first : ℕ) → thing s ≡ part ty
      → IsPlaced project (data_leaves project b) (record { ty = ty; first = first })
      → Fits (leaf_types (data_leaves project b)) (Some (record { ty = ty; first = first })) s.1.value
  type_fits s c (plain ty) first e placed =
      plain_fits ty first s.1.value placed.stands (inside_plain ty s.1 (not_outside_thing s c (plain ty) e))
  type_fits s c (array low high of place) first e placed = absurd (no_misfit s c (array low high of place) e refl)
  type_fits s c (structure vars) first e placed = absurd (no_misfit s c (structure vars) e refl)
  type_fits s c (named name place) first e placed =
      absurd (no_misfit s c (named name place) e (some_is (type_named project name.key) placed.known.there))
    where
      some_is : (o : Option BlockTree) → o ≢ None → is_some o ≡ true
      some_is None not_none = absurd (not_none refl)
      some_is (Some x) not_none = refl
  type_fits s c unread first e placed = absurd (no_misfit s c unread e refl)

  start_fits : (s : StartTree) → Contains (starts_of b.body) s
      → Fits (leaf_types (data_leaves project b)) (started project (data_type b) s.0) s.1.value
  start_fits s c = lead (started project (data_type b) s.0) (part_placed s.0) (part_tells s.0)
    where
      lead : (o : Option Laid) → ((l : Laid) → o ≡ Some l → IsPlaced project (data_leaves project b) l) → Tells o (thing s)
          → Fits (leaf_types (data_leaves project b)) o s.1.value
      lead None placed tells = tt
      lead (Some l) placed (inl e) = type_fits s c l.ty l.first e (placed l refl)
      lead (Some l) placed (inr d) = absurd (no_date s c d.0 d.1)

  pub data_begins : Begin (data_cells project b)
  data_begins = lead (is_db b.kind)
    where
      lead : (t : Bool) → Begin
          (if t then with_starts project (data_type b) (starts_of b.body) (map cell_of (data_leaves project b)) else [])
      lead true = starts_begin project (data_type b) (leaf_types (data_leaves project b)) (starts_of b.body) start_fits
          (map cell_of (data_leaves project b)) refl (cells_of_leaves (data_leaves project b) (data_starts project keeps b in_project))
      lead false = tt

all_data_begin : (project : ProjectTree) → KeepsRules project → (blocks : List BlockTree)
    → ((b : BlockTree) → Contains blocks b → Contains project.blocks b) → Begin (flat_map (data_cells project) blocks)
all_data_begin project keeps [] f = tt
all_data_begin project keeps (b ∷ more) f =
    both_begin (data_cells project b) (flat_map (data_cells project) more) (data_begins project keeps b (f b (contains_first b more)))
    (all_data_begin project keeps more (λ c is. f c (contains_more b c more is)))

pub data_blocks_begin : (project : ProjectTree) → KeepsRules project → Begin (flat_map (data_cells project) project.blocks)
data_blocks_begin project keeps = all_data_begin project keeps project.blocks (λ b is. is)
