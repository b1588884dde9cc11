-- Variables that are put behind others, leaf by leaf and cell by cell, are those that the definition lists.
use Rattle.std.proofs.Common.{◌≡◌, ◌<◌, ℕ, zero, suc, ◌+◌, ◌-◌, List, [], ◌∷◌, ◌++◌, map, drop, get_or, length, cond, append_assoc, refl, sym, ap, ◌∙◌, add-one, arith}
use Rattle.std.specs.Prelude.{take, filter, flat_map, Bool as Truth, true, false, not, if◌then◌else◌}
use Rattle.std.proofs.Math.Seq.{drop-cons}
use Rattle.std.proofs.lemmas.List.{append-nil, map-append}
use Rattle.pv_place.specs.declared.role.Role.TheVariants.{Kept, Brief}
use Rattle.pv_types.specs.declared.leaf.Leaf.{Leaf}
use Rattle.pv_tree.specs.Tree.{BlockTree}
use Rattle.pv_tree.specs.Scopes.{ProjectTree, is_fb, has_key}
use Rattle.pv_mean.specs.declared.cell.Cell.{Cell}
use Rattle.pv_mean.specs.Cells.{cell_of, leaves_of_block, entry_cells}
use Rattle.pv_mean.specs.Layout.{is_temp, entry_size}
use Rattle.pv_mean.specs.Sources.{Source}
use Rattle.pv_mean.specs.Frames.{is_brief, visible_cells}
use Rattle.pv_flow.specs.Automata.{Variable}
use Rattle.pv_flow.specs.declared.parts.Variable.{Variable as CodeVariable}
use Rattle.pv_flow.specs.View.{variable_of}
use Rattle.pv_variables.specs.declared.list.Group.TheVariants.{Instance, Params, Own}
use Rattle.pv_variables.specs.Variables.{is_bound_in, plain_variable, variable_of_cell, with_set, role_of_param, bound_of_called, bound_variables}
use Rattle.pv_variables.specs.Listed.{Adds, is_own_in, leaf_variables, front_of, rest_of}

-- ---- one behind others

pub one_behind : (old new : List CodeVariable) (v : CodeVariable) → new ≡ old ++ v ∷ [] → Adds old new (variable_of v ∷ [])
one_behind old new v e = ap (map variable_of) e ∙ map-append variable_of old (v ∷ [])

pub none_behind : (old : List CodeVariable) → Adds old old []
none_behind old = sym (append-nil (map variable_of old))

pub both_behind : (old mid new : List CodeVariable) (a b : List Variable) → Adds old mid a → Adds mid new b → Adds old new (a ++ b)
both_behind old mid new a b e f = f ∙ ap (λ l. l ++ b) e ∙ append_assoc (map variable_of old) a b

pub same_behind : (old new : List CodeVariable) (a b : List Variable) → a ≡ b → Adds old new a → Adds old new b
same_behind old new a b e h = h ∙ ap (λ l. map variable_of old ++ l) e

pub if_not : (old : List CodeVariable) (t : Truth) (a : List Variable) → t ≡ false → Adds old old (if t then a else [])
if_not old t a e = none_behind old ∙ ap (λ b. map variable_of old ++ (if b then a else [])) (sym e)

pub if_so : (old new : List CodeVariable) (t : Truth) (a : List Variable) → t ≡ true → Adds old new a
    → Adds old new (if t then a else [])
if_so old new t a e h = h ∙ ap (λ b. map variable_of old ++ (if b then a else [])) (sym e)

-- ---- along a list

pub one_more : {X : Type 0} (xs : List X) (i : ℕ) (x : X) → i < length xs → x ≡ get_or xs i x → drop i xs ≡ x ∷ drop (i + 1) xs
one_more xs i x inside is =
    drop-cons xs i x inside ∙ ap (λ y. y ∷ drop (suc i) xs) (sym is) ∙ ap (λ (n : ℕ). x ∷ drop n xs) (sym (add-one i))

pub leaves_left : (f : Leaf → List Variable) (leaves : List Leaf) (i : ℕ) (x : Leaf) (old new : List CodeVariable) (whole : List Variable)
    → i < length leaves → x ≡ get_or leaves i x → Adds old new (f x)
    → map variable_of old ++ flat_map f (drop i leaves) ≡ whole
    → map variable_of new ++ flat_map f (drop (i + 1) leaves) ≡ whole
leaves_left f leaves i x old new whole inside is grown left =
    ap (λ l. l ++ flat_map f (drop (i + 1) leaves)) grown
    ∙ append_assoc (map variable_of old) (f x) (flat_map f (drop (i + 1) leaves))
    ∙ ap (λ l. map variable_of old ++ flat_map f l) (sym (one_more leaves i x inside is))
    ∙ left

pub leaves_done : (f : Leaf → List Variable) (leaves : List Leaf) (i : ℕ) (new : List CodeVariable) (whole : List Variable)
    → drop i leaves ≡ [] → map variable_of new ++ flat_map f (drop i leaves) ≡ whole → map variable_of new ≡ whole
leaves_done f leaves i new whole none left =
    sym (append-nil (map variable_of new)) ∙ ap (λ l. map variable_of new ++ flat_map f l) (sym none) ∙ left

-- F is what of these cells is still to be put, by how many
pub cells_left : (F : ℕ → List Cell → List Variable) (cells : List Cell) (i n m : ℕ) (x : Cell) (old new : List CodeVariable) (whole : List Variable)
    → i < length cells → x ≡ get_or cells i x
    → ((rest : List Cell) → map variable_of new ++ F m rest ≡ map variable_of old ++ F n (x ∷ rest))
    → map variable_of old ++ F n (drop i cells) ≡ whole → map variable_of new ++ F m (drop (i + 1) cells) ≡ whole
cells_left F cells i n m x old new whole inside is step left =
    step (drop (i + 1) cells) ∙ ap (λ l. map variable_of old ++ F n l) (sym (one_more cells i x inside is)) ∙ left

pub cells_done : (F : ℕ → List Cell → List Variable) (cells : List Cell) (i n : ℕ) (new : List CodeVariable) (whole : List Variable)
    → F n [] ≡ [] → drop i cells ≡ [] → map variable_of new ++ F n (drop i cells) ≡ whole → map variable_of new ≡ whole
cells_done F cells i n new whole empty none left =
    sym (append-nil (map variable_of new)) ∙ ap (λ l. map variable_of new ++ l) (sym empty)
    ∙ ap (λ l. map variable_of new ++ F n l) (sym none) ∙ left

pub front_none : (n : ℕ) → front_of n [] ≡ []
front_none zero = refl
front_none (suc n) = refl

pub rest_none : (n : ℕ) → rest_of n [] ≡ []
rest_none zero = refl
rest_none (suc n) = refl

-- ---- the cell in front

-- what is hidden is passed over
pub hidden : (x : Cell) (rest : List Cell) → not (is_brief x.role) ≡ false → visible_cells (x ∷ rest) ≡ visible_cells rest
hidden x rest e = ap (λ b. cond b (x ∷ visible_cells rest) (visible_cells rest)) e

pub shown : (x : Cell) (rest : List Cell) → not (is_brief x.role) ≡ true → visible_cells (x ∷ rest) ≡ x ∷ visible_cells rest
shown x rest e = ap (λ b. cond b (x ∷ visible_cells rest) (visible_cells rest)) e

pub front_hidden : (old : List CodeVariable) (n : ℕ) (x : Cell) → not (is_brief x.role) ≡ false → (rest : List Cell)
    → map variable_of old ++ front_of n rest ≡ map variable_of old ++ front_of n (x ∷ rest)
front_hidden old n x e rest = ap (λ l. map variable_of old ++ map variable_of_cell (take n l)) (sym (hidden x rest e))

pub rest_hidden : (old : List CodeVariable) (n : ℕ) (x : Cell) → not (is_brief x.role) ≡ false → (rest : List Cell)
    → map variable_of old ++ rest_of n rest ≡ map variable_of old ++ rest_of n (x ∷ rest)
rest_hidden old n x e rest = ap (λ l. map variable_of old ++ map variable_of_cell (drop n l)) (sym (hidden x rest e))

counted : (n m : ℕ) → 0 < n → m ≡ n - 1 → n ≡ suc m
counted n m some e = omega (arith, some, e)

pub front_shown : (old new : List CodeVariable) (n m : ℕ) (x : Cell) → not (is_brief x.role) ≡ true → 0 < n → m ≡ n - 1
    → Adds old new (variable_of_cell x ∷ []) → (rest : List Cell)
    → map variable_of new ++ front_of m rest ≡ map variable_of old ++ front_of n (x ∷ rest)
front_shown old new n m x e some less grown rest =
    ap (λ l. l ++ front_of m rest) grown
    ∙ append_assoc (map variable_of old) (variable_of_cell x ∷ []) (front_of m rest)
    ∙ ap (λ (k : ℕ). map variable_of old ++ map variable_of_cell (take k (x ∷ visible_cells rest))) (sym (counted n m some less))
    ∙ ap (λ l. map variable_of old ++ map variable_of_cell (take n l)) (sym (shown x rest e))

-- none are still to come
pub front_ended : (old : List CodeVariable) (n : ℕ) (x : Cell) → n ≡ 0 → (rest : List Cell)
    → map variable_of old ++ front_of 0 rest ≡ map variable_of old ++ front_of n (x ∷ rest)
front_ended old n x e rest = ap (λ (k : ℕ). map variable_of old ++ front_of k (x ∷ rest)) (sym e)

pub rest_skipped : (old : List CodeVariable) (n m : ℕ) (x : Cell) → not (is_brief x.role) ≡ true → 0 < n → m ≡ n - 1 → (rest : List Cell)
    → map variable_of old ++ rest_of m rest ≡ map variable_of old ++ rest_of n (x ∷ rest)
rest_skipped old n m x e some less rest =
    ap (λ (k : ℕ). map variable_of old ++ map variable_of_cell (drop k (x ∷ visible_cells rest))) (sym (counted n m some less))
    ∙ ap (λ l. map variable_of old ++ map variable_of_cell (drop n l)) (sym (shown x rest e))

pub rest_shown : (old new : List CodeVariable) (n : ℕ) (x : Cell) → not (is_brief x.role) ≡ true → n ≡ 0
    → Adds old new (variable_of_cell x ∷ []) → (rest : List Cell)
    → map variable_of new ++ rest_of 0 rest ≡ map variable_of old ++ rest_of n (x ∷ rest)
rest_shown old new n x e none grown rest =
    ap (λ l. l ++ rest_of 0 rest) grown
    ∙ append_assoc (map variable_of old) (variable_of_cell x ∷ []) (rest_of 0 rest)
    ∙ ap (λ l. map variable_of old ++ map variable_of_cell l) (sym (shown x rest e))
    ∙ ap (λ (k : ℕ). map variable_of old ++ rest_of k (x ∷ rest)) (sym none)

-- ---- leaves of a group

-- what is made of those that pass a test
pub filtered : (p : Leaf → Truth) (f : Leaf → List Variable) (xs : List Leaf)
    → flat_map (λ l. if p l then f l else []) xs ≡ flat_map f (filter p xs)
filtered p f [] = refl
filtered p f (x ∷ xs) = lead (p x) (filtered p f xs)
  where
    lead : (b : Truth) → flat_map (λ l. if p l then f l else []) xs ≡ flat_map f (filter p xs)
        → (if b then f x else []) ++ flat_map (λ l. if p l then f l else []) xs
        ≡ flat_map f (cond b (x ∷ filter p xs) (filter p xs))
    lead true e = ap (λ l. f x ++ l) e
    lead false e = e

-- one for each
pub singly : (f : Leaf → Variable) (xs : List Leaf) → flat_map (λ l. f l ∷ []) xs ≡ map f xs
singly f [] = refl
singly f (x ∷ xs) = ap (λ l. f x ∷ l) (singly f xs)

held_cells : (ls : List Leaf) → map (λ (c : Cell). plain_variable Kept c.ty) (map cell_of ls) ≡ map (λ (l : Leaf). plain_variable Kept l.ty) ls
held_cells [] = refl
held_cells (l ∷ ls) = ap (λ m. plain_variable Kept l.ty ∷ m) (held_cells ls)

-- a function block's instance; any other block has none
pub instance_listed : (project : ProjectTree) (block : BlockTree) (leaves : List Leaf) → leaves ≡ leaves_of_block project block
    → is_fb block.kind ≡ true
    → flat_map (leaf_variables Instance block) leaves ≡ map (λ (c : Cell). plain_variable Kept c.ty) (entry_cells project block)
instance_listed project block leaves same is =
    filtered (λ (l : Leaf). not (is_temp l.section)) (λ (l : Leaf). plain_variable Kept l.ty ∷ []) leaves
    ∙ singly (λ (l : Leaf). plain_variable Kept l.ty) (filter (λ (l : Leaf). not (is_temp l.section)) leaves)
    ∙ sym (held_cells (filter (λ (l : Leaf). not (is_temp l.section)) leaves))
    ∙ ap (λ ls. map (λ (c : Cell). plain_variable Kept c.ty) (map cell_of (filter (λ (l : Leaf). not (is_temp l.section)) ls))) same
    ∙ ap (λ b. map (λ (c : Cell). plain_variable Kept c.ty)
    (if b then map cell_of (filter (λ (l : Leaf). not (is_temp l.section)) (leaves_of_block project block)) else [])) (sym is)

pub no_instance : (project : ProjectTree) (block : BlockTree) → is_fb block.kind ≡ false
    → [] ≡ map (λ (c : Cell). plain_variable Kept c.ty) (entry_cells project block)
no_instance project block is =
    ap (λ b. map (λ (c : Cell). plain_variable Kept c.ty)
    (if b then map cell_of (filter (λ (l : Leaf). not (is_temp l.section)) (leaves_of_block project block)) else [])) (sym is)

pub params_listed : (project : ProjectTree) (block : BlockTree) (leaves : List Leaf) → leaves ≡ leaves_of_block project block
    → flat_map (leaf_variables Params block) leaves
    ≡ flat_map (λ (l : Leaf). with_set (role_of_param l.section) l.ty) (filter (λ (l : Leaf). is_bound_in block l.section) (leaves_of_block project block))
params_listed project block leaves same =
    filtered (λ (l : Leaf). is_bound_in block l.section) (λ (l : Leaf). with_set (role_of_param l.section) l.ty) leaves
    ∙ ap (λ ls. flat_map (λ (l : Leaf). with_set (role_of_param l.section) l.ty) (filter (λ (l : Leaf). is_bound_in block l.section) ls)) same

pub own_listed : (project : ProjectTree) (block : BlockTree) (leaves : List Leaf) → leaves ≡ leaves_of_block project block
    → flat_map (leaf_variables Own block) leaves
    ≡ flat_map (λ (l : Leaf). with_set Brief l.ty) (filter (λ (l : Leaf). is_own_in block l.section) (leaves_of_block project block))
own_listed project block leaves same =
    filtered (λ (l : Leaf). is_own_in block l.section) (λ (l : Leaf). with_set Brief l.ty) leaves
    ∙ ap (λ ls. flat_map (λ (l : Leaf). with_set Brief l.ty) (filter (λ (l : Leaf). is_own_in block l.section) ls)) same

-- ---- the bound ones

pub entry_listed : (source : Source) (entered block : BlockTree) (t : Truth) → entered ≡ source.entry
    → t ≡ has_key entered.name.key block.name → t ≡ true
    → front_of (entry_size source.project block) source.cells ≡ bound_variables source block
entry_listed source entered block t same e is =
    ap (λ b. if b then front_of (entry_size source.project block) source.cells else bound_of_called source.project block)
    (sym is ∙ e ∙ ap (λ (x : BlockTree). has_key x.name.key block.name) same)

pub called_listed : (source : Source) (entered block : BlockTree) (t : Truth) → entered ≡ source.entry
    → t ≡ has_key entered.name.key block.name → t ≡ false → bound_of_called source.project block ≡ bound_variables source block
called_listed source entered block t same e is =
    ap (λ b. if b then front_of (entry_size source.project block) source.cells else bound_of_called source.project block)
    (sym is ∙ e ∙ ap (λ (x : BlockTree). has_key x.name.key block.name) same)
