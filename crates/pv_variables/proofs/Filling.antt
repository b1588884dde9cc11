-- Cells and variables gone along one after another: what is counted, and the numbers that are found.
use Rattle.std.proofs.Common.{map, ◌≡◌, ◌<◌, ℕ, suc, ◌+◌, ◌-◌, List, [], ◌∷◌, ◌++◌, length, drop, get_or, cond, append_assoc, refl, sym, ap, ◌∙◌, add-one, arith}
use Rattle.std.specs.Prelude.{Bool as Truth, true, false, not, if◌then◌else◌}
use Rattle.std.proofs.Math.Seq.{drop-cons}
use Rattle.pv_types.specs.declared.declaration.Section.{Section}
use Rattle.pv_types.specs.declared.var.Var.{Var}
use Rattle.pv_types.specs.Tree.{var}
use Rattle.pv_types.specs.View.{type_tree, var_tree}
use Rattle.pv_types.proofs.ForCallers.{var_seen}
use Rattle.pv_tree.specs.Tree.{BlockTree}
use Rattle.pv_tree.specs.Scopes.{ProjectTree}
use Rattle.pv_mean.specs.declared.cell.Cell.{Cell}
use Rattle.pv_mean.specs.Layout.{size_in, size_among, is_brief_in}
use Rattle.pv_mean.specs.Frames.{is_brief, visible_cells, visible_len}
use Rattle.pv_variables.specs.Variables.{is_bound_in}
use Rattle.pv_variables.specs.Numbered.{two_apart, Found, with_cells, with_variable, with_variables}

-- ---- cells

pub cells_from : (cells : List Cell) (i : ℕ) (x : Cell) → i < length cells → x ≡ get_or cells i x
    → drop i cells ≡ x ∷ drop (i + 1) cells
cells_from cells i x inside is =
    drop-cons cells i x inside
    ∙ ap (λ (y : Cell). y ∷ drop (suc i) cells) (sym is)
    ∙ ap (λ (n : ℕ). x ∷ drop n cells) (sym (add-one i))

shown_one : (b : Truth) (x : Cell) (more : List Cell)
    → length (cond b (x ∷ more) more) ≡ (if b then 1 else 0) + length more
shown_one true x more = omega arith
shown_one false x more = omega arith

pub visible_from : (cells : List Cell) (i n m : ℕ) (x : Cell) → i < length cells → x ≡ get_or cells i x
    → m ≡ n + (if not (is_brief x.role) then 1 else 0) → n + visible_len (drop i cells) ≡ visible_len cells
    → m + visible_len (drop (i + 1) cells) ≡ visible_len cells
visible_from cells i n m x inside is e whole =
    let split = ap visible_len (cells_from cells i x inside is) in
    let one = shown_one (not (is_brief x.role)) x (visible_cells (drop (i + 1) cells)) in
    sums n m (if not (is_brief x.role) then 1 else 0) (visible_len (drop i cells)) (visible_len (drop (i + 1) cells)) (visible_len cells)
    e (split ∙ one) whole
  where
    sums : (n m s a b w : ℕ) → m ≡ n + s → a ≡ s + b → n + a ≡ w → m + b ≡ w
    sums n m s a b w e p q = omega (arith, e, p, q)

-- ---- variables

pub variables_from : (vars : List Var) (i : ℕ) (v : Var) → i < length vars → v ≡ get_or vars i v
    → map var_tree (drop i vars) ≡ var v.name.now v.of.now.section (type_tree v.of.now.ty) v.of.now.start v.place ∷ map var_tree (drop (i + 1) vars)
variables_from vars i v inside is =
    ap (λ l. map var_tree l) (drop-cons vars i v inside)
    ∙ ap (λ w. var_tree w ∷ map var_tree (drop (suc i) vars)) (sym is)
    ∙ ap (λ n. var_tree v ∷ map var_tree (drop n vars)) (sym (add-one i))
    ∙ ap (λ t. t ∷ map var_tree (drop (i + 1) vars)) (var_seen v)

pub none-before : (n : ℕ) → 0 + n ≡ n
none-before n = omega arith

size_one : (b : Truth) (s more : ℕ) → (if b then s + more else more) ≡ (if b then s else 0) + more
size_one true s more = refl
size_one false s more = omega arith

pub bound_from : (project : ProjectTree) (test : Section → Truth) (vars : List Var) (i n m : ℕ) (v : Var)
    → i < length vars → v ≡ get_or vars i v → m ≡ n + (if test v.of.now.section then size_in project (type_tree v.of.now.ty) else 0)
    → n + size_among project test (map var_tree (drop i vars)) ≡ size_among project test (map var_tree vars)
    → m + size_among project test (map var_tree (drop (i + 1) vars)) ≡ size_among project test (map var_tree vars)
bound_from project test vars i n m v inside is e whole =
    let split = ap (size_among project test) (variables_from vars i v inside is) in
    let one = size_one (test v.of.now.section) (size_in project (type_tree v.of.now.ty)) (size_among project test (map var_tree (drop (i + 1) vars))) in
    sums n m (if test v.of.now.section then size_in project (type_tree v.of.now.ty) else 0) (size_among project test (map var_tree (drop i vars)))
    (size_among project test (map var_tree (drop (i + 1) vars))) (size_among project test (map var_tree vars)) e (split ∙ one) whole
  where
    sums : (n m s a b w : ℕ) → m ≡ n + s → a ≡ s + b → n + a ≡ w → m + b ≡ w
    sums n m s a b w e p q = omega (arith, e, p, q)

pub variable_other : (project : ProjectTree) (block : BlockTree) (v : Var) (f : Found) (b : Truth) → b ≡ is_brief_in block v.of.now.section
    → b ≡ false → f ≡ with_variable project block (var_tree v) f
variable_other project block v f b e is =
    sym (ap (λ t. with_variable project block t f) (var_seen v)
    ∙ ap (λ (x : Truth). if x then with_cells (is_bound_in block v.of.now.section) (size_in project (type_tree v.of.now.ty)) f else f) (sym e ∙ is))

pub variable_brief : (project : ProjectTree) (block : BlockTree) (v : Var) (f : Found) (b : Truth) → b ≡ is_brief_in block v.of.now.section
    → b ≡ true → with_cells (is_bound_in block v.of.now.section) (size_in project (type_tree v.of.now.ty)) f ≡ with_variable project block (var_tree v) f
variable_brief project block v f b e is =
    sym (ap (λ t. with_variable project block t f) (var_seen v)
    ∙ ap (λ (x : Truth). if x then with_cells (is_bound_in block v.of.now.section) (size_in project (type_tree v.of.now.ty)) f else f) (sym e ∙ is))

pub found_from : (project : ProjectTree) (block : BlockTree) (vars : List Var) (i : ℕ) (v : Var) (f g whole : Found)
    → i < length vars → v ≡ get_or vars i v → g ≡ with_variable project block (var_tree v) f
    → with_variables project block (map var_tree (drop i vars)) f ≡ whole
    → with_variables project block (map var_tree (drop (i + 1) vars)) g ≡ whole
found_from project block vars i v f g whole inside is next before =
    ap (λ (x : Found). with_variables project block (map var_tree (drop (i + 1) vars)) x)
    (next ∙ ap (λ t. with_variable project block t f) (var_seen v))
    ∙ ap (λ l. with_variables project block l f) (sym (variables_from vars i v inside is))
    ∙ before

pub found_all : (project : ProjectTree) (block : BlockTree) (vars : List Var) (i : ℕ) (f whole : Found) → drop i vars ≡ []
    → with_variables project block (map var_tree (drop i vars)) f ≡ whole → f ≡ whole
found_all project block vars i f whole none before =
    ap (λ (l : List Var). with_variables project block (map var_tree l) f) (sym none) ∙ before

-- ---- numbers, two apart

pub two_more : (count k n : ℕ) (front : List ℕ) → k < count
    → (front ++ n ∷ []) ++ two_apart (count - (k + 1)) (n + 2) ≡ front ++ two_apart (count - k) n
two_more count k n front inside =
    append_assoc front (n ∷ []) (two_apart (count - (k + 1)) (n + 2))
    ∙ ap (λ (c : ℕ). front ++ two_apart c n) (next count k inside)
  where
    next : (c j : ℕ) → j < c → suc (c - (j + 1)) ≡ c - j
    next c j lt = omega (arith, lt)
