-- Cells of variables, of areas and of calls begin with values of their types.
use Rattle.std.proofs.Common.{◌≡◌, ℕ, zero, suc, pos, List, [], ◌∷◌, ◌++◌, map, Bool, true, false, cond, not, Some, None, Contains, refl, arith}
use Rattle.std.specs.Prelude.{filter, flat_map, option_to_list, if◌then◌else◌}
use Rattle.std.specs.List.{AllByRecursion}
use Rattle.std.proofs.lemmas.Int.{ints}
use Rattle.pv_word.specs.declared.types.Ty.{Ty}
use Rattle.pv_word.specs.declared.types.Ty.TheVariants.{Bool as BoolType, Byte, Word, Dword, Int, Dint, Time}
use Rattle.pv_word.specs.Types.{InRange}
use Rattle.pv_place.specs.declared.role.Role.{Role}
use Rattle.pv_place.specs.declared.role.Role.TheVariants.{Input as InputRole, Kept}
use Rattle.pv_types.specs.declared.declaration.Section.TheVariants.{Static}
use Rattle.pv_types.specs.declared.leaf.Leaf.{Leaf}
use Rattle.pv_types.specs.Tree.{VarTree, var}
use Rattle.pv_types.specs.View.{listed}
use Rattle.pv_types.specs.Starts.{StartsLie, StartsLieIn, StartsWell}
use Rattle.pv_types.proofs.ForCallers.{leaves_start}
use Rattle.pv_tree.specs.declared.block.BlockKind.{BlockKind}
use Rattle.pv_tree.specs.declared.block.BlockKind.TheVariants.{Fb, Fc, Ob, Db, Udt}
use Rattle.pv_tree.specs.Tree.{BlockTree}
use Rattle.pv_tree.specs.Scopes.{ProjectTree, is_fb, is_stl}
use Rattle.pv_tree.specs.NamedTypes.{types_of_project}
use Rattle.pv_tree.specs.Callees.{Callee, runs, not_declared, not_callable, unknown, CallSite, callee_of}
use Rattle.pv_tree.specs.Parts.{calls_of}
use Rattle.pv_tree.specs.Rules.{KeepsRules}
use Rattle.pv_mean.specs.declared.cell.Cell.{Cell}
use Rattle.pv_mean.specs.Layout.{is_temp, is_brief_in, held_by, data_type}
use Rattle.pv_mean.specs.AreaBytes.{Bytes}
use Rattle.pv_mean.specs.Chains.{RunsSuch}
use Rattle.pv_mean.specs.Cells.{cell_of, leaves_of_block, entry_cells, data_leaves, byte_cell, area_cells, brief_cell, brief_variables, value_cells, stl_types, stl_cells, own_brief_cells, nameless, most_calls, brief_of_callee, brief_below, brief_cells}
use Rattle.pv_laws_starts.proofs.Declared.{block_lies, types_lie}
use Rattle.pv_tree.proofs.ForCallers.{run_block_in}
use Rattle.pv_mean.proofs.ForCallers.{runs_such}

-- it begins with a value of its type, and no case has bound it yet
pub record Begins (c : Cell) : Type 0 where
  pub start : InRange c.ty c.start
  pub unbound : c.bound ≡ None

abbrev pub Begin : List Cell → Type 0
Begin cells = AllByRecursion Begins cells

-- ---- lists

pub both_begin : (xs ys : List Cell) → Begin xs → Begin ys → Begin (xs ++ ys)
both_begin [] ys a b = b
both_begin (x ∷ xs) ys a b = (a.0, both_begin xs ys a.1 b)

front_starts : (xs ys : List Leaf) → AllByRecursion StartsWell (xs ++ ys) → AllByRecursion StartsWell xs
front_starts [] ys a = tt
front_starts (x ∷ xs) ys a = (a.0, front_starts xs ys a.1)

kept_start : (test : Leaf → Bool) (leaves : List Leaf) → AllByRecursion StartsWell leaves → AllByRecursion StartsWell (filter test leaves)
kept_start test [] a = tt
kept_start test (l ∷ ls) a = lead (test l) (kept_start test ls a.1)
  where
    lead : (t : Bool) → AllByRecursion StartsWell (filter test ls)
        → AllByRecursion StartsWell (cond t (l ∷ filter test ls) (filter test ls))
    lead true rest = (a.0, rest)
    lead false rest = rest

-- a leaf's cell has its type and its start value
pub cells_of_leaves : (leaves : List Leaf) → AllByRecursion StartsWell leaves → Begin (map cell_of leaves)
cells_of_leaves [] a = tt
cells_of_leaves (l ∷ ls) a = (record { start = a.0; unbound = refl }, cells_of_leaves ls a.1)

brief_of_leaves : (leaves : List Leaf) → AllByRecursion StartsWell leaves → Begin (map (λ l. brief_cell l.path l.ty l.start) leaves)
brief_of_leaves [] a = tt
brief_of_leaves (l ∷ ls) a = (record { start = a.0; unbound = refl }, brief_of_leaves ls a.1)

-- ---- cells that begin with 0

zero_in : (ty : Ty) → InRange ty (pos 0)
zero_in BoolType = record { from = omega (arith, ints); to = omega (arith, ints) }
zero_in Byte = record { from = omega (arith, ints); to = omega (arith, ints) }
zero_in Word = record { from = omega (arith, ints); to = omega (arith, ints) }
zero_in Dword = record { from = omega (arith, ints); to = omega (arith, ints) }
zero_in Int = record { from = omega (arith, ints); to = omega (arith, ints) }
zero_in Dint = record { from = omega (arith, ints); to = omega (arith, ints) }
zero_in Time = record { from = omega (arith, ints); to = omega (arith, ints) }

mapped_begin : {X : Type 0} (f : X → Cell) → ((x : X) → Begins (f x)) → (xs : List X) → Begin (map f xs)
mapped_begin f each [] = tt
mapped_begin f each (x ∷ xs) = (each x, mapped_begin f each xs)

zeros_begin : (types : List Ty) → Begin (map (λ ty. brief_cell [] ty (pos 0)) types)
zeros_begin types = mapped_begin (λ (ty : Ty). brief_cell [] ty (pos 0)) (λ ty. record { start = zero_in ty; unbound = refl }) types

byte_begins : (letter : ℕ) (role : Role) (n : ℕ) → Begins (byte_cell letter role n)
byte_begins letter role n = record { start = zero_in Byte; unbound = refl }

pub areas_begin : (bytes : Bytes) → Begin (area_cells bytes)
areas_begin bytes =
    both_begin (map (byte_cell 73 InputRole) bytes.inputs ++ map (byte_cell 81 Kept) bytes.outputs) (map (byte_cell 77 Kept) bytes.flags)
    (both_begin (map (byte_cell 73 InputRole) bytes.inputs) (map (byte_cell 81 Kept) bytes.outputs)
    (mapped_begin (byte_cell 73 InputRole) (byte_begins 73 InputRole) bytes.inputs)
    (mapped_begin (byte_cell 81 Kept) (byte_begins 81 Kept) bytes.outputs))
    (mapped_begin (byte_cell 77 Kept) (byte_begins 77 Kept) bytes.flags)

-- ---- cells of variables

block_starts : (project : ProjectTree) → KeepsRules project → (b : BlockTree) → Contains project.blocks b
    → AllByRecursion StartsWell (leaves_of_block project b)
block_starts project keeps b c = leaves_start (types_of_project project) b.vars (types_lie project keeps) (block_lies project keeps b c)

pub entry_begins : (project : ProjectTree) → KeepsRules project → (b : BlockTree) → Contains project.blocks b
    → Begin (entry_cells project b)
entry_begins project keeps b c = lead (is_fb b.kind)
  where
    lead : (t : Bool) → Begin (if t then map cell_of (filter (λ l. not (is_temp l.section)) (leaves_of_block project b)) else [])
    lead true = cells_of_leaves (filter (λ l. not (is_temp l.section)) (leaves_of_block project b))
        (kept_start (λ l. not (is_temp l.section)) (leaves_of_block project b) (block_starts project keeps b c))
    lead false = tt

held_lies : (kind : BlockKind) (vars : List VarTree) → StartsLieIn (listed vars) → StartsLie None (held_by kind vars)
held_lies Fb vars lie = tt
held_lies Fc vars lie = tt
held_lies Ob vars lie = tt
held_lies (Db None) vars lie = lie
held_lies (Db (Some of)) vars lie = tt
held_lies Udt vars lie = tt

-- what a data block holds, before its own values are put in
pub data_starts : (project : ProjectTree) → KeepsRules project → (b : BlockTree) → Contains project.blocks b
    → AllByRecursion StartsWell (data_leaves project b)
data_starts project keeps b c =
    front_starts (data_leaves project b) [] (leaves_start (types_of_project project) (var b.name Static (data_type b) None b.place ∷ [])
    (types_lie project keeps) (held_lies b.kind b.vars (block_lies project keeps b c), tt))

-- ---- cells of calls

own_begin : (project : ProjectTree) → KeepsRules project → (b : BlockTree) → Contains project.blocks b → Begin (own_brief_cells project b)
own_begin project keeps b c =
    both_begin (brief_variables project b ++ value_cells b) (stl_cells b)
    (both_begin (brief_variables project b) (value_cells b)
    (brief_of_leaves (filter (λ l. is_brief_in b l.section) (leaves_of_block project b))
    (kept_start (λ l. is_brief_in b l.section) (leaves_of_block project b) (block_starts project keeps b c)))
    (zeros_begin (option_to_list b.value))) (lead (is_stl b.body))
  where
    lead : (t : Bool) → Begin (if t then map (λ ty. brief_cell [] ty (pos 0)) stl_types else [])
    lead true = zeros_begin stl_types
    lead false = tt

nameless_begin : (cells : List Cell) → Begin cells → Begin (map nameless cells)
nameless_begin [] a = tt
nameless_begin (c ∷ cs) a = (record { start = a.0.start; unbound = a.0.unbound }, nameless_begin cs a.1)

callee_begins : (project : ProjectTree) (below : BlockTree → List Cell) (callee : Callee)
    → RunsSuch (λ b. Begin (own_brief_cells project b) × Begin (below b)) callee → Begin (brief_of_callee project below callee)
callee_begins project below (runs b) w =
    both_begin (map nameless (own_brief_cells project b)) (below b) (nameless_begin (own_brief_cells project b) w.0) w.1
callee_begins project below (not_declared place) w = tt
callee_begins project below (not_callable place) w = tt
callee_begins project below unknown w = tt

flat_begin : {X : Type 0} (f : X → List Cell) → ((x : X) → Begin (f x)) → (xs : List X) → Begin (flat_map f xs)
flat_begin f each [] = tt
flat_begin f each (x ∷ xs) = both_begin (f x) (flat_map f xs) (each x) (flat_begin f each xs)

below_begins : (project : ProjectTree) → KeepsRules project → (n : ℕ) (b : BlockTree) → Begin (brief_below project n b)
below_begins project keeps zero b = tt
below_begins project keeps (suc n) b =
    flat_begin (λ (s : CallSite). brief_of_callee project (brief_below project n) (callee_of (record { project = project; block = b }) s))
    (λ s. callee_begins project (brief_below project n) (callee_of (record { project = project; block = b }) s)
    (runs_such (λ x. Begin (own_brief_cells project x) × Begin (brief_below project n x)) (callee_of (record { project = project; block = b }) s)
    (λ x run. (own_begin project keeps x (run_block_in (record { project = project; block = b }) s x run), below_begins project keeps n x)))) (calls_of b)

pub brief_begin : (project : ProjectTree) → KeepsRules project → (b : BlockTree) → Contains project.blocks b → Begin (brief_cells project b)
brief_begin project keeps b c =
    both_begin (own_brief_cells project b) (brief_below project most_calls b) (own_begin project keeps b c)
    (below_begins project keeps most_calls b)
