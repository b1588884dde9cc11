-- No number of a block's variables passes 32 bits, where the block has room and its table as few cells as one may have.
use Rattle.std.proofs.Common.{map, ◌≡◌, ℕ, zero, suc, ◌+◌, ◌*◌, ◌<◌, ◌≤◌, List, [], ◌∷◌, length, drop, get_or, Bool, true, false, cond, refl, sym, ap, subst, ◌∙◌, arith}
use Rattle.std.specs.Prelude.{◌^◌, ◌&&◌, not, is_some, if◌then◌else◌}
use Rattle.std.proofs.lemmas.Bool.{true≢false, false≢true}
use Rattle.std.proofs.lemmas.List.{length-drop}
use Rattle.pv_types.specs.declared.declaration.Section.{Section}
use Rattle.pv_types.specs.declared.declaration.Section.TheVariants.{Input, Output, InOut, Static, Temp, Const}
use Rattle.pv_types.specs.declared.var.Var.{Var}
use Rattle.pv_types.specs.Tree.{VarTree, var}
use Rattle.pv_types.specs.View.{type_tree, var_tree}
use Rattle.pv_types.proofs.ForCallers.{var_seen}
use Rattle.pv_tree.specs.declared.block.BlockKind.{BlockKind}
use Rattle.pv_tree.specs.declared.block.BlockKind.TheVariants.{Fb, Fc, Ob, Db, Udt}
use Rattle.pv_tree.specs.Tree.{BlockTree}
use Rattle.pv_tree.specs.Scopes.{ProjectTree, is_fc, is_fb, is_const, is_of_instance}
use Rattle.pv_tree.specs.Callees.{is_param}
use Rattle.pv_mean.specs.declared.cell.Cell.{Cell}
use Rattle.pv_mean.specs.declared.count.TheConstants.{BEYOND}
use Rattle.pv_mean.specs.Layout.{size_in, size_among, is_brief_in, is_temp, entry_size}
use Rattle.pv_mean.specs.Frames.{is_brief, visible_cells, visible_len}
use Rattle.pv_mean.specs.Sources.{Source}
use Rattle.pv_resolve.specs.Rooms.{HasRoom}
use Rattle.pv_variables.specs.Variables.{is_bound_in, value_count, bound_count, shared_count, own_first}
use Rattle.pv_variables.specs.Numbered.{Found, HasNext, with_cells, with_variable, with_variables}
use Rattle.pv_variables.proofs.Filling.{variables_from}

-- ---- cells

few_shown : (b : Bool) (x : Cell) (more : List Cell) (n : ℕ) → length more ≤ n → length (cond b (x ∷ more) more) ≤ n + 1
few_shown true x more n h = omega (arith, h)
few_shown false x more n h = omega (arith, h)

pub visible_few : (cells : List Cell) → visible_len cells ≤ length cells
visible_few [] = omega arith
visible_few (x ∷ more) =
    let h = few_shown (not (is_brief x.role)) x (visible_cells more) (length more) (visible_few more) in omega (arith, h)

-- ---- variables of sections

size_below : (project : ProjectTree) (p q : Section → Bool) → ((s : Section) → p s ≡ true → q s ≡ true) → (vars : List VarTree)
    → size_among project p vars ≤ size_among project q vars
size_below project p q f [] = omega arith
size_below project p q f (var name section ty start place ∷ more) =
    lead (p section) (q section) (f section) (size_below project p q f more)
  where
    lead : (a b : Bool) → (a ≡ true → b ≡ true) → size_among project p more ≤ size_among project q more
        → (if a then size_in project ty + size_among project p more else size_among project p more)
        ≤ (if b then size_in project ty + size_among project q more else size_among project q more)
    lead true true g h = omega (arith, h)
    lead true false g h = absurd (false≢true (g refl))
    lead false true g h = omega (arith, h)
    lead false false g h = h

param_brief : (kind : BlockKind) (s : Section) → is_fc kind && is_param s ≡ true → (if is_fb kind then is_temp s else not (is_const s)) ≡ true
param_brief Fb s h = absurd (false≢true h)
param_brief Fc Input h = refl
param_brief Fc Output h = refl
param_brief Fc InOut h = refl
param_brief Fc Static h = refl
param_brief Fc Temp h = refl
param_brief Fc Const h = absurd (false≢true h)
param_brief Ob s h = absurd (false≢true h)
param_brief (Db of) s h = absurd (false≢true h)
param_brief Udt s h = absurd (false≢true h)

-- what a caller hands over lives within one activation
pub bound_below : (project : ProjectTree) (block : BlockTree)
    → size_among project (is_bound_in block) block.vars ≤ size_among project (is_brief_in block) block.vars
bound_below project block = size_below project (is_bound_in block) (is_brief_in block) (param_brief block.kind) block.vars

pub entry_near : (source : Source) (block : BlockTree) → HasRoom source block → entry_size source.project block < BEYOND
entry_near source block h = lead (is_fb block.kind)
  where
    lead : (fb : Bool) → (if fb then size_among source.project is_of_instance block.vars else 0) < BEYOND
    lead true = h.own
    lead false = omega arith

pub bound_near : (source : Source) (block : BlockTree) → HasRoom source block → size_among source.project (is_bound_in block) block.vars < BEYOND
bound_near source block h =
    let few = bound_below source.project block in
    let near = h.brief in omega (arith, few, near)

one_value : (block : BlockTree) → value_count block ≤ 1
one_value block = lead (is_some block.value)
  where
    lead : (b : Bool) → (if b then 1 else 0) ≤ 1
    lead true = omega arith
    lead false = omega arith

pub bound_few : (source : Source) (block : BlockTree) → HasRoom source block → bound_count source block < 3 * BEYOND
bound_few source block h =
    let own = entry_near source block h in
    let params = bound_near source block h in
    let value = one_value block in omega (arith, own, params, value)

pub shared_few : (source : Source) → shared_count source ≤ length source.cells
shared_few source =
    let all = visible_few source.cells in
    let left = length-drop (entry_size source.project source.entry) (visible_cells source.cells) in omega (arith, all, left)

pub own_few : (source : Source) (block : BlockTree) → HasRoom source block → length source.cells < BEYOND → own_first source block < 4 * BEYOND
own_few source block h few =
    let bound = bound_few source block h in
    let shared = shared_few source in omega (arith, few, bound, shared)

-- ---- one of the variables that are left

pub first_near : (project : ProjectTree) (test : Section → Bool) (vars : List Var) (i n : ℕ) (v : Var) → i < length vars → v ≡ get_or vars i v
    → n + size_among project test (map var_tree (drop i vars)) < BEYOND → (if test v.of.now.section then size_in project (type_tree v.of.now.ty) else 0) < BEYOND
first_near project test vars i n v inside is near =
    lead (test v.of.now.section) (ap (size_among project test) (variables_from vars i v inside is))
  where
    lead : (b : Bool) → size_among project test (map var_tree (drop i vars)) ≡ (if b then size_in project (type_tree v.of.now.ty)
        + size_among project test (map var_tree (drop (i + 1) vars)) else size_among project test (map var_tree (drop (i + 1) vars)))
        → (if b then size_in project (type_tree v.of.now.ty) else 0) < BEYOND
    lead true e = omega (arith, near, e)
    lead false e = omega arith

one_fewer : (project : ProjectTree) (test : Section → Bool) (v : VarTree) (more : List VarTree)
    → size_among project test more ≤ size_among project test (v ∷ more)
one_fewer project test (var name section ty start place) more = lead (test section)
  where
    lead : (b : Bool) → size_among project test more ≤ (if b then size_in project ty + size_among project test more else size_among project test more)
    lead true = omega arith
    lead false = omega arith

left_fewer : (project : ProjectTree) (test : Section → Bool) (vars : List Var) (i : ℕ)
    → size_among project test (map var_tree (drop i vars)) ≤ size_among project test (map var_tree vars)
left_fewer project test [] zero = omega arith
left_fewer project test [] (suc i) = omega arith
left_fewer project test (v ∷ vars) zero = omega arith
left_fewer project test (v ∷ vars) (suc i) =
    let rest = left_fewer project test vars i in
    let whole = one_fewer project test (var_tree v) (map var_tree vars) in omega (arith, rest, whole)

pub left_near : (project : ProjectTree) (test : Section → Bool) (vars : List Var) (i : ℕ) (v : Var) → i < length vars → v ≡ get_or vars i v
    → size_among project test (map var_tree vars) < BEYOND → (if test v.of.now.section then size_in project (type_tree v.of.now.ty) else 0) < BEYOND
left_near project test vars i v inside is near =
    first_near project test vars i 0 v inside is (let rest = left_fewer project test vars i in omega (arith, rest, near))

-- ---- the next numbers

-- the one of the two that moves
pub bound_next : (b : Bool) (size : ℕ) (f : Found) → b ≡ true → HasNext (with_cells b size f) → f.bound + 2 * size < 2 ^ 32
bound_next true size f is h = h.bound
bound_next false size f is h = absurd (false≢true is)

pub own_next : (b : Bool) (size : ℕ) (f : Found) → b ≡ false → HasNext (with_cells b size f) → f.own + 2 * size < 2 ^ 32
own_next true size f is h = absurd (true≢false is)
own_next false size f is h = h.own

cells_before : (b : Bool) (size : ℕ) (f : Found) → HasNext (with_cells b size f) → HasNext f
cells_before true size f h = record { bound = (let w = h.bound in omega (arith, w)); own = h.own }
cells_before false size f h = record { bound = h.bound; own = (let w = h.own in omega (arith, w)) }

variable_before : (project : ProjectTree) (block : BlockTree) (v : VarTree) (f : Found) → HasNext (with_variable project block v f) → HasNext f
variable_before project block (var name section ty start place) f = lead (is_brief_in block section)
  where
    lead : (b : Bool) → HasNext (if b then with_cells (is_bound_in block section) (size_in project ty) f else f) → HasNext f
    lead true h = cells_before (is_bound_in block section) (size_in project ty) f h
    lead false h = h

pub next_before : (project : ProjectTree) (block : BlockTree) (vars : List VarTree) (f : Found) → HasNext (with_variables project block vars f)
    → HasNext f
next_before project block [] f h = h
next_before project block (v ∷ more) f h =
    variable_before project block v f (next_before project block more (with_variable project block v f) h)

-- of the first of those that are left
pub first_next : (project : ProjectTree) (block : BlockTree) (vars : List Var) (i : ℕ) (v : Var) (f whole : Found) → i < length vars
    → v ≡ get_or vars i v → with_variables project block (map var_tree (drop i vars)) f ≡ whole → HasNext whole
    → HasNext (with_variable project block (var_tree v) f)
first_next project block vars i v f whole inside is e h =
    subst (λ t. HasNext (with_variable project block t f)) (sym (var_seen v))
    (next_before project block (map var_tree (drop (i + 1) vars)) (with_variable project block (var v.name.now v.of.now.section (type_tree v.of.now.ty) v.of.now.start v.place) f)
    (subst HasNext (sym (ap (λ l. with_variables project block l f) (sym (variables_from vars i v inside is)) ∙ e)) h))

-- they are so many at most
pub record Goes (f g : Found) (size : ℕ) : Type 0 where
  pub bound : g.bound ≤ f.bound + 2 * size
  pub own : g.own ≤ f.own + 2 * size

cells_go : (b : Bool) (size more : ℕ) (f g : Found) → Goes (with_cells b size f) g more → Goes f g (size + more)
cells_go true size more f g h =
    record { bound = (let w = h.bound in omega (arith, w)); own = (let w = h.own in omega (arith, w)) }
cells_go false size more f g h =
    record { bound = (let w = h.bound in omega (arith, w)); own = (let w = h.own in omega (arith, w)) }

pub next_goes : (project : ProjectTree) (block : BlockTree) (vars : List VarTree) (f : Found)
    → Goes f (with_variables project block vars f) (size_among project (is_brief_in block) vars)
next_goes project block [] f = record { bound = omega arith; own = omega arith }
next_goes project block (var name section ty start place ∷ more) f =
    lead (is_brief_in block section) (λ g. next_goes project block more g)
  where
    rest : ℕ
    rest = size_among project (is_brief_in block) more

    lead : (b : Bool) → ((g : Found) → Goes g (with_variables project block more g) rest)
        → Goes f (with_variables project block more (if b then with_cells (is_bound_in block section) (size_in project ty) f else f))
        (if b then size_in project ty + rest else rest)
    lead true h =
        let g = with_cells (is_bound_in block section) (size_in project ty) f in
        cells_go (is_bound_in block section) (size_in project ty) rest f (with_variables project block more g) (h g)
    lead false h = h f

pub next_fits : (source : Source) (block : BlockTree) (f : Found) → HasRoom source block → f.bound ≡ 0 → f.own < 4 * BEYOND
    → HasNext (with_variables source.project block block.vars f)
next_fits source block f h none own =
    let g = next_goes source.project block block.vars f in
    let b = g.bound in
    let o = g.own in
    let near = h.brief in
    record { bound = omega (arith, none, near, b); own = omega (arith, own, near, o) }
