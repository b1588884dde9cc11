-- What the rules say of the parts of a block, for a project that keeps them: each rule turned round at the part that it names.
use Rattle.std.proofs.Common.{◌≡◌, List, [], ◌∷◌, ◌++◌, map, Bool, true, false, not, ◌&&◌, inl, inr, refl, sym, subst}
use Rattle.std.proofs.lemmas.List.Elements.{Contains-append_left, Contains-append_right, All-contains, All-from_recursion}
use Rattle.std.specs.List.{AllByRecursion, flat_map}
use Rattle.std.specs.Prelude.{IsTrue, IsFalse, is_some, filter_map, Option, Some, None, Contains}
use Rattle.pv_types.specs.declared.declaration.Section.{Section}
use Rattle.pv_types.specs.declared.declaration.Section.TheVariants.{Input, Output, InOut, Static, Temp, Const}
use Rattle.pv_types.specs.Tree.{TypeTree, plain, array, structure, named, unread, VarTree, var, VarTrees, no_vars, _then_}
use Rattle.pv_types.specs.View.{listed, section_of, declared_type_of, place_of}
use Rattle.pv_tree.specs.declared.block.BlockKind.{BlockKind}
use Rattle.pv_tree.specs.declared.block.BlockKind.TheVariants.{Fb, Fc, Ob, Db, Udt}
use Rattle.pv_tree.specs.Tree.{PlacedName, OperandTree, operand, BlockTree}
use Rattle.pv_tree.specs.Scopes.{ProjectTree, Scope, is_const, is_ob, type_named}
use Rattle.pv_tree.specs.Things.{Thing, part, constant, a_block, no_name, no_array, a_date, untold, is_date, thing_of, first_place}
use Rattle.pv_tree.specs.Callees.{is_output, Param, param_of_arg}
use Rattle.pv_tree.specs.Parts.{Part, Path, path_of, path_of_start, paths_of, operands_of, operands_read, reads_of_parts, assigned_operands, instruction_operands, parts_of_block, indexes_of, starts_of, instructions_of}
use Rattle.pv_tree.specs.Interfaces.{vars_in, fields_in}
use Rattle.pv_tree.specs.Rules.{KeepsRules, missing_name, misfit, beyond_bounds, not_callable, fixed_output, wrong_address}
use Rattle.pv_tree.specs.Rules.MissingTypes.{names_in, names_in_vars, name_of_kind}
use Rattle.pv_tree.specs.Rules.Misfits.{is_temporary}
use Rattle.pv_types.specs.Named.{AllNamedIn}
use Rattle.pv_tree.specs.Rules.Callable.{is_void_thing, is_output_where, IsOutputArgument, read_operand}
use Rattle.pv_tree.specs.Rules.Targets.{is_fixed, goes_out, goes_out_where, isnt_assignable}
use Rattle.pv_tree.specs.Rules.Addresses.{is_wrong_operand}
use Rattle.pv_tree.proofs.KeptRules.{grounded}
use Rattle.pv_tree.proofs.ToldThings.{all_of, contains_first, contains_later, Declared, TypeTold, VarTold, KindTold, BlockTold, BlocksTold}
use Rattle.pv_tree.proofs.NoneBroken.{IndexKeeps, OperandKeeps, PartKeeps}
use Rattle.pv_tree.proofs.Upwards.{ScopeTold}

-- ---- lists

each_in : {X Y : Type 0} (f : X → List Y) (xs : List X) (all : List Y) → ((y : Y) → Contains (flat_map f xs) y → Contains all y)
    → AllByRecursion (λ x. (y : Y) → Contains (f x) y → Contains all y) xs
each_in f [] all inj = tt
each_in f (x ∷ xs) all inj = (
  λ y c. inj y (Contains-append_left (f x) (flat_map f xs) y c),
  each_in f xs all (λ y c. inj y (Contains-append_right (f x)
      (flat_map f xs) y c)),
)

pub contains_flat : {X Y : Type 0} (f : X → List Y) (xs : List X) (x : X) (y : Y) → Contains xs x → Contains (f x) y → Contains
    (flat_map f xs) y
contains_flat {X} {Y} f xs x y c d =
    All-contains (λ z. (w : Y) → Contains (f z) w → Contains (flat_map f xs) w) xs x
    (All-from_recursion (λ z. (w : Y) → Contains (f z) w → Contains (flat_map f xs) w) xs (each_in f xs (flat_map f xs) (λ w e. e))) c y d

each_mapped : {X Y : Type 0} (f : X → Y) (xs : List X) (all : List Y) → ((y : Y) → Contains (map f xs) y → Contains all y) → AllByRecursion
    (λ x. Contains all (f x)) xs
each_mapped f [] all inj = tt
each_mapped f (x ∷ xs) all inj =
    (inj (f x) (contains_first (f x) (map f xs)), each_mapped f xs all (λ y c. inj y (contains_later (f x) (map f xs) y c)))

pub contains_mapped : {X Y : Type 0} (f : X → Y) (xs : List X) (x : X) → Contains xs x → Contains (map f xs) (f x)
contains_mapped f xs x c =
    All-contains (λ z. Contains (map f xs) (f z)) xs x (All-from_recursion (λ z. Contains (map f xs) (f z)) xs (each_mapped f xs (map f xs)
    (λ y d. d))) c

-- ---- types

is_there : {X : Type 0} (o : Option X) → (o ≡ None → ⊥) → IsTrue (is_some o)
is_there None f = absurd (f refl)
is_there (Some x) f = refl

mutual
  type_told : (project : ProjectTree) (ty : TypeTree) → ((n : PlacedName) → Contains (names_in ty) n → Declared project n.0.key)
      → TypeTold project ty
  type_told project (plain ty) f = tt
  type_told project (array low high of place) f = type_told project of f
  type_told project (structure vars) f = fields_told project vars f
  type_told project (named name place) f = f (name, place) (contains_first (name, place) [])
  type_told project unread f = tt

  fields_told : (project : ProjectTree) (vars : VarTrees) → ((n : PlacedName) → Contains (names_in_vars vars) n → Declared project n.0.key)
      → AllNamedIn (Declared project) vars
  fields_told project no_vars f = tt
  fields_told project (_then_ (var name section ty start place) more) f = (
    type_told project ty (λ n c. f n (Contains-append_left (names_in ty) (names_in_vars more) n c)),
    fields_told project more (λ n c. f n (Contains-append_right (names_in ty) (names_in_vars more) n c)),
  )

vars_told : (project : ProjectTree) (vars : List VarTree) → ((n : PlacedName) → Contains (names_in_vars (listed vars)) n
    → Declared project n.0.key)
    → ((v : VarTree) → Contains (vars_in (listed vars)) v → IsFalse (is_const (section_of v) && is_date (declared_type_of v)))
    → AllByRecursion (VarTold project) vars
vars_told project [] f g = tt
vars_told project (var name section ty start place ∷ more) f g = (
  (
    type_told project ty (λ n c. f n (Contains-append_left (names_in ty) (names_in_vars (listed more)) n c)),
    g (var name section ty start place) (contains_first (var name section ty start place) (fields_in ty ++ vars_in (listed more))),
  ),
  vars_told project more (λ n c. f n (Contains-append_right (names_in ty) (names_in_vars (listed more)) n c))
      (λ v c. g v (contains_later (var name section ty start place) (fields_in ty ++ vars_in (listed more)) v (Contains-append_right
      (fields_in ty) (vars_in (listed more)) v c))),
)

no_date : (d o : Bool) → (IsTrue (d && not (o && false)) → ⊥) → IsFalse d
no_date true true f = absurd (f refl)
no_date true false f = absurd (f refl)
no_date false o f = refl

no_constant_date : (kind : BlockKind) (v : VarTree) → (IsTrue (is_date (declared_type_of v) && not (is_ob kind && is_temporary
    (section_of v))) → ⊥) → IsFalse (is_const (section_of v) && is_date (declared_type_of v))
no_constant_date kind (var name Input ty start place) f = refl
no_constant_date kind (var name Output ty start place) f = refl
no_constant_date kind (var name InOut ty start place) f = refl
no_constant_date kind (var name Static ty start place) f = refl
no_constant_date kind (var name Temp ty start place) f = refl
no_constant_date kind (var name Const ty start place) f = no_date (is_date ty) (is_ob kind) f

kind_told : (project : ProjectTree) (kind : BlockKind) → ((n : PlacedName) → Contains (name_of_kind kind) n → Declared project n.0.key)
    → KindTold project kind
kind_told project Fb f = tt
kind_told project Fc f = tt
kind_told project Ob f = tt
kind_told project (Db None) f = tt
kind_told project (Db (Some of)) f = f of (contains_first of [])
kind_told project Udt f = tt

block_told : (project : ProjectTree) → KeepsRules project → (block : BlockTree) → Contains project.blocks block → BlockTold project block
block_told project keeps block b = (
  vars_told project block.vars
      (λ n c. is_there (type_named project n.0.key) ((grounded project keeps).there block n b (Contains-append_left (names_in_vars
      (listed block.vars)) (name_of_kind block.kind) n c)))
      (λ v c. no_constant_date block.kind v (λ m. keeps misfit (place_of v) (
        b.0,
        block,
        b.1,
        b.2,
        inr (inl (
          c.0,
          v,
          c.1,
          c.2,
          (refl, m),
        )),
      ))),
  kind_told project block.kind
      (λ n c. is_there (type_named project n.0.key) ((grounded project keeps).there block n b (Contains-append_right (names_in_vars
      (listed block.vars)) (name_of_kind block.kind) n c))),
)

pub blocks_told : (project : ProjectTree) → KeepsRules project → BlocksTold project
blocks_told project keeps = all_of (BlockTold project) project.blocks (block_told project keeps)

pub scope_told : (project : ProjectTree) → KeepsRules project → (block : BlockTree) → Contains project.blocks block → ScopeTold
    (record { project = project; block = block })
scope_told project keeps block b = record { blocks = blocks_told project keeps; vars = (block_told project keeps block b).0 }

-- ---- paths and operands

pub path_keeps : (project : ProjectTree) → KeepsRules project → (block : BlockTree) → Contains project.blocks block → (p : Path) → Contains
    (paths_of project block) p
    → AllByRecursion (IndexKeeps (record { project = project; block = block })) (indexes_of (record { project = project; block = block }) p)
path_keeps project keeps block b p c = all_of (IndexKeeps scope) (indexes_of scope p) (λ i d. record {
  typed = λ at m. keeps misfit at (b.0, block, b.1, b.2, inl (inr (c.0, p, c.1, c.2, inr (inr (d.0, i, d.1, d.2, m)))));
  inside = λ at m. keeps beyond_bounds at (b.0, block, b.1, b.2, (c.0, p, c.1, c.2, (d.0, i, d.1, d.2, m)));
})
  where
    scope : Scope
    scope = record { project = project; block = block }

pub operand_path : (project : ProjectTree) (block : BlockTree) (o : OperandTree) → Contains (operands_of project block) o
    → Contains (paths_of project block) (path_of (record { project = project; block = block }) o)
operand_path project block o c =
    Contains-append_left (map (path_of scope) (operands_of project block)) (map (λ v. path_of_start scope v.0) (starts_of block.body))
    (path_of scope o)
    (contains_mapped (path_of scope) (operands_of project block) o c)
  where
    scope : Scope
    scope = record { project = project; block = block }

isnt : (b : Bool) → (IsTrue b → ⊥) → IsFalse b
isnt true f = absurd (f refl)
isnt false f = refl

-- an argument for an output is no function without a value, since it can be assigned
goes : (o : Option Param) → IsTrue (is_output_where o) → IsTrue (goes_out_where o)
goes None t = t
goes (Some p) t = by_section p.section t
  where
    by_section : (section : Section) → IsTrue (is_output section) → IsTrue (goes_out section)
    by_section Input u = u
    by_section Output u = u
    by_section InOut u = refl
    by_section Static u = u
    by_section Temp u = u
    by_section Const u = u

void_fixed : (thing : Thing) → IsTrue (is_void_thing thing) → IsTrue (is_fixed thing)
void_fixed (part ty) t = t
void_fixed (constant ty) t = refl
void_fixed (a_block b) t = refl
void_fixed (no_name at) t = t
void_fixed (no_array at) t = t
void_fixed (a_date at) t = t
void_fixed untold t = t

not_written : (project : ProjectTree) → KeepsRules project → (block : BlockTree) → Contains project.blocks block → (o : OperandTree)
    → IsTrue (is_void_thing (thing_of (record { project = project; block = block }) o)) → IsOutputArgument
    (record { project = project; block = block }) o → ⊥
not_written project keeps block b o e (k, s, l, g, (n, a, m, h, (same, out))) =
    keeps fixed_output (first_place a.value) (
      b.0,
      block,
      b.1,
      b.2,
      (
        k,
        s,
        l,
        g,
        (
          n,
          a,
          m,
          h,
          (
            refl,
            goes (param_of_arg scope s a) out,
            subst (λ z. IsTrue (isnt_assignable scope z)) (sym same) (void_fixed (thing_of scope o) e),
          ),
        ),
      ),
    )
  where
    scope : Scope
    scope = record { project = project; block = block }

-- an operand that an expression of the block reads
pub operand_keeps : (project : ProjectTree) → KeepsRules project → (block : BlockTree) → Contains project.blocks block
    → (o : OperandTree) → Contains (reads_of_parts (parts_of_block project block)) o → OperandKeeps
    (record { project = project; block = block }) o
operand_keeps project keeps block b (operand root more place) r = record {
  is_named = λ at e. keeps missing_name at (b.0, block, b.1, b.2, inl (c.0, path_of scope o, c.1, c.2, e));
  is_array = λ at e. keeps misfit at (b.0, block, b.1, b.2, inl (inr (c.0, path_of scope o, c.1, c.2, inl e)));
  no_date = λ at e. keeps misfit at (b.0, block, b.1, b.2, inl (inr (c.0, path_of scope o, c.1, c.2, inr (inl e))));
  valued = λ e. keeps not_callable (path_of scope o).last (
    b.0,
    block,
    b.1,
    b.2,
    inr (
      v.0,
      o,
      v.1,
      v.2,
      (
        (refl, e),
        not_written project keeps block b o e,
      ),
    ),
  );
  addressed = isnt (is_wrong_operand o) (λ e. keeps wrong_address place (b.0, block, b.1, b.2, (a.0, o, a.1, a.2, (refl, e))));
  indexed = path_keeps project keeps block b (path_of scope o) c;
}
  where
    scope : Scope
    scope = record { project = project; block = block }

    o : OperandTree
    o = operand root more place

    a : Contains (operands_of project block) o
    a = Contains-append_left (reads_of_parts (parts_of_block project block) ++ assigned_operands block) (instruction_operands block) o
        (Contains-append_left (reads_of_parts (parts_of_block project block)) (assigned_operands block) o r)

    c : Contains (paths_of project block) (path_of scope o)
    c = operand_path project block o a

    v : Contains (reads_of_parts (parts_of_block project block) ++ filter_map read_operand (instructions_of block.body)) o
    v = Contains-append_left (reads_of_parts (parts_of_block project block)) (filter_map read_operand (instructions_of block.body)) o r

pub part_keeps : (project : ProjectTree) → KeepsRules project → (block : BlockTree) → Contains project.blocks block
    → (p : Part) → Contains (parts_of_block project block) p → PartKeeps (record { project = project; block = block }) p
part_keeps project keeps block b p c = record {
  fits = λ at m. keeps misfit at (b.0, block, b.1, b.2, inl (inl (c.0, p, c.1, c.2, m)));
  reads = all_of (OperandKeeps (record { project = project; block = block })) (operands_read p.expr)
      (λ o d. operand_keeps project keeps block b o (contains_flat (λ q. operands_read q.expr) (parts_of_block project block) p o c d));
}
