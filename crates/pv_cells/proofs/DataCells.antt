-- The cells of a data block: those of the one variable that it is, with the values that it gives to its parts.
use Rattle.std.proofs.Common.{◌≡◌, ◌≤◌, ◌<◌, ℕ, ◌+◌, List, [], ◌∷◌, ◌++◌, map, drop, get_or, length, Bool, true, false, Some, None, refl, sym, ap, ◌∙◌, arith}
use Rattle.std.specs.Prelude.{if◌then◌else◌}
use Rattle.std.proofs.lemmas.Option.{none-some, same_Some}
use Rattle.std.proofs.lemmas.List.{append-nil, length-map, drop_all}
use Rattle.pv_types.specs.declared.declaration.Section.TheVariants.{Static}
use Rattle.pv_types.specs.View.{listed}
use Rattle.pv_types.specs.Tree.{TypeTree, structure, named, VarTree, var}
use Rattle.pv_tree.specs.declared.block.BlockKind.{BlockKind}
use Rattle.pv_tree.specs.declared.block.BlockKind.TheVariants.{Db}
use Rattle.pv_types.specs.declared.declaration.Literal.{Literal}
use Rattle.pv_types.specs.Named.{NamedType}
use Rattle.pv_types.specs.Leaves.{leaves_of}
use Rattle.pv_tree.specs.declared.expr.Operand.{Operand}
use Rattle.pv_tree.specs.View.{operand_tree, start_tree}
use Rattle.pv_tree.specs.Tree.{PlacedName, BlockTree}
use Rattle.pv_tree.specs.Scopes.{ProjectTree}
use Rattle.pv_tree.specs.Parts.{starts_of}
use Rattle.pv_tree.specs.NamedTypes.{types_of_project}
use Rattle.pv_mean.specs.declared.cell.Cell.{Cell}
use Rattle.pv_mean.specs.Layout.{is_db, held_by, data_type}
use Rattle.pv_mean.specs.Cells.{cell_of, data_leaves, data_cells, started, with_start, with_starts}
use Rattle.pv_cells.specs.declared.variables.Form.TheVariants.{Visible}
use Rattle.pv_cells.specs.Forms.{formed}
use Rattle.pv_cells.specs.Starts.{data_var}
use Rattle.pv_cells.proofs.Pushing.{dropped}
use Rattle.pv_cells.proofs.Starting.{starts-keep}

-- what there is only where a test says so
pub there_where : {X : Type 0} (b : Bool) (x y : X) → Some x ≡ (if b then Some y else None) → (b ≡ true) × (x ≡ y)
there_where true x y e = (refl, same_Some x y e)
there_where false x y e = absurd (none-some x (sym e))

pub none_where : {X : Type 0} (b : Bool) (y : X) → None ≡ (if b then Some y else None) → b ≡ false
none_where true y e = absurd (none-some y e)
none_where false y e = refl

module _ (project : ProjectTree) (b : BlockTree) where
  pub no-data : is_db b.kind ≡ false → [] ≡ data_cells project b
  no-data not =
      ap (λ t. if t then with_starts project (data_type b) (starts_of b.body) (map cell_of (data_leaves project b)) else []) (sym not)

  is-data : is_db b.kind ≡ true → data_cells project b ≡ with_starts project (data_type b) (starts_of b.body) (map cell_of (data_leaves project b))
  is-data db =
      ap (λ t. if t then with_starts project (data_type b) (starts_of b.body) (map cell_of (data_leaves project b)) else []) db

  module _ (types : List NamedType) (held : VarTree) (its : types ≡ types_of_project project) (is : held ≡ data_var b) (db : is_db b.kind ≡ true) where
    held-leaves : leaves_of types (held ∷ []) ≡ data_leaves project b
    held-leaves =
        ap (λ ts. leaves_of ts (held ∷ [])) its ∙ ap (λ v. leaves_of (types_of_project project) (v ∷ [])) is
        ∙ append-nil (data_leaves project b)

    held-count : length (data_cells project b) ≡ length (leaves_of types (held ∷ []))
    held-count =
        ap length (is-data db) ∙ starts-keep project (data_type b) (starts_of b.body) (map cell_of (data_leaves project b))
        ∙ length-map (data_leaves project b) cell_of ∙ ap length (sym held-leaves)

    pub held-few : (m : ℕ) → length (data_cells project b) ≤ m → length (leaves_of types (held ∷ [])) ≤ m
    held-few m few = let e = held-count in omega (arith, few, e)

    -- the cells as they are laid out
    pub laid-few : (m : ℕ) (cells : List Cell) → length (data_cells project b) ≤ m
        → cells ≡ [] ++ map (formed Visible) (leaves_of types (held ∷ [])) → length cells ≤ m
    laid-few m cells few e =
        let f : length cells ≡ length (leaves_of types (held ∷ [])) = ap length e ∙ length-map (leaves_of types (held ∷ [])) (formed Visible) in
        let g = held-count in omega (arith, few, f, g)

    pub held-made : (cells new : List Cell) → cells ≡ [] ++ map (formed Visible) (leaves_of types (held ∷ []))
        → new ≡ with_starts project (data_type b) (starts_of b.body) cells → new ≡ data_cells project b
    held-made cells new laid set =
        set ∙ ap (with_starts project (data_type b) (starts_of b.body)) (laid ∙ ap (map (formed Visible)) held-leaves) ∙ sym (is-data db)

-- ---- start values, one more

pub starts-left : (p : ProjectTree) (ty : TypeTree) (ss : List (Operand × Literal)) (i j : ℕ) (x : Operand × Literal) → i < length ss
    → x ≡ get_or ss i x → j ≡ i + 1
    → (old new whole : List Cell) → new ≡ with_start old (started p ty (operand_tree x.0)) x.1.value
    → with_starts p ty (map start_tree (drop i ss)) old ≡ whole → with_starts p ty (map start_tree (drop j ss)) new ≡ whole
starts-left p ty ss i j x inside is next old new whole set left =
    ap (with_starts p ty (map start_tree (drop j ss))) set
    ∙ ap (λ l. with_starts p ty (map start_tree l) old) (sym (dropped ss i j x inside is next)) ∙ left

pub starts-done : (p : ProjectTree) (ty : TypeTree) (ss : List (Operand × Literal)) (i : ℕ) (cells whole : List Cell) → length ss ≤ i
    → with_starts p ty (map start_tree (drop i ss)) cells ≡ whole → cells ≡ whole
starts-done p ty ss i cells whole past left =
    ap (λ l. with_starts p ty (map start_tree l) cells) (sym (drop_all i ss past)) ∙ left

-- ---- what a data block holds

module _ (b : BlockTree) where
  held-where : (kind : BlockKind) → kind ≡ b.kind → (if is_db kind then Some (held_by kind b.vars) else None)
      ≡ (if is_db b.kind then Some (data_type b) else None)
  held-where kind is = ap (λ k. if is_db k then Some (held_by k b.vars) else None) is

  pub holds-own : (t : TypeTree) (vars : List VarTree) → Db None ≡ b.kind → vars ≡ b.vars → t ≡ structure (listed vars)
      → Some t ≡ (if is_db b.kind then Some (data_type b) else None)
  holds-own t vars kind all is = ap Some is ∙ ap (λ vs. Some (structure (listed vs))) all ∙ held-where (Db None) kind

  pub holds-typed : (of : PlacedName) (t : TypeTree) → Db (Some of) ≡ b.kind → t ≡ named of.0 of.1
      → Some t ≡ (if is_db b.kind then Some (data_type b) else None)
  holds-typed of t kind is = ap Some is ∙ held-where (Db (Some of)) kind

  -- the variable of what it holds
  pub var-held : (t : TypeTree) (v : VarTree) → Some t ≡ (if is_db b.kind then Some (data_type b) else None)
      → v ≡ var b.name Static t None b.place → Some v ≡ (if is_db b.kind then Some (data_var b) else None)
  var-held t v held is = lead (is_db b.kind) held
    where
      lead : (db : Bool) → Some t ≡ (if db then Some (data_type b) else None) → Some v ≡ (if db then Some (data_var b) else None)
      lead true e = ap Some (is ∙ ap (λ x. var b.name Static x None b.place) (same_Some t (data_type b) e))
      lead false e = absurd (none-some t (sym e))

  pub none-held : None ≡ (if is_db b.kind then Some (data_type b) else None) → None ≡ (if is_db b.kind then Some (data_var b) else None)
  none-held none = lead (is_db b.kind) none
    where
      lead : (db : Bool) → None ≡ (if db then Some (data_type b) else None) → None ≡ (if db then Some (data_var b) else None)
      lead true e = absurd (none-some (data_type b) e)
      lead false e = refl

-- what the code finds of a block, said of its entry
pub held-there : (b c : BlockTree) (vs : List VarTree) → b ≡ c → Some vs ≡ (if is_db b.kind then Some (data_var b ∷ []) else None)
    → (is_db c.kind ≡ true) × (vs ≡ data_var c ∷ [])
held-there b c vs same is =
    there_where (is_db c.kind) vs (data_var c ∷ []) (is ∙ ap (λ x. if is_db x.kind then Some (data_var x ∷ []) else None) same)

pub none-there : (b c : BlockTree) → b ≡ c → None ≡ (if is_db b.kind then Some (data_var b ∷ []) else None) → is_db c.kind ≡ false
none-there b c same is = none_where (is_db c.kind) (data_var c ∷ []) (is ∙ ap (λ x. if is_db x.kind then Some (data_var x ∷ []) else None) same)
