-- The brief cells of a block itself: those of its variables that pass a test, its value and what STL adds; with their paths or without.
use Rattle.std.proofs.Common.{◌≡◌, ℕ, ◌+◌, List, [], ◌∷◌, ◌++◌, map, length, Bool, true, false, not, refl, sym, ap, ◌∙◌, arith, append_assoc, pos}
use Rattle.std.specs.Prelude.{◌≤◌, filter, min, option_to_list, if◌then◌else◌}
use Rattle.std.proofs.lemmas.List.{length-append, length-map, map-append}
use Rattle.pv_word.specs.declared.types.Ty.{Ty}
use Rattle.pv_types.specs.declared.declaration.Section.{Section}
use Rattle.pv_types.specs.declared.leaf.Leaf.{Leaf}
use Rattle.pv_types.specs.Tree.{VarTree}
use Rattle.pv_tree.specs.Tree.{BlockTree}
use Rattle.pv_tree.specs.Scopes.{ProjectTree, is_fb, is_stl, is_of_instance}
use Rattle.pv_mean.specs.declared.count.TheConstants.{BEYOND}
use Rattle.pv_mean.specs.Counts.{capped}
use Rattle.pv_mean.specs.declared.cell.Cell.{Cell}
use Rattle.pv_mean.specs.Layout.{size_among, is_temp, is_brief_in}
use Rattle.pv_mean.specs.Cells.{cell_of, brief_cell, leaves_of_block, entry_cells, brief_variables, value_cells, stl_types, stl_cells, own_brief_cells, nameless}
use Rattle.pv_cells.specs.declared.variables.Form.{Form}
use Rattle.pv_cells.specs.declared.variables.Form.TheVariants.{Visible, Brief, Nameless}
use Rattle.pv_cells.specs.Forms.{formed, leaves_among, own_formed}
use Rattle.pv_cells.proofs.Leaves.{filter-among, among-counted, among-same, stays_is_instance, brief_no_const}

-- ---- the entered block

pub entry-formed : (project : ProjectTree) (b : BlockTree) → is_fb b.kind ≡ true
    → entry_cells project b ≡ map (formed Visible) (leaves_among project is_of_instance b.vars)
entry-formed project b is =
    ap (λ t. if t then map cell_of (filter (λ l. not (is_temp l.section)) (leaves_of_block project b)) else []) is
    ∙ ap (map cell_of) (filter-among project (λ s. not (is_temp s)) is_of_instance stays_is_instance b.vars)

pub entry-few : (project : ProjectTree) (b : BlockTree) → is_fb b.kind ≡ true → (vars : List VarTree) → vars ≡ b.vars → (m : ℕ)
    → length (entry_cells project b) ≤ m → length (leaves_among project is_of_instance vars) ≤ m
entry-few project b is vars all m few =
    let e : length (entry_cells project b) ≡ length (leaves_among project is_of_instance b.vars) =
    ap length (entry-formed project b is) ∙ length-map (leaves_among project is_of_instance b.vars) (formed Visible) in
    let f : length (leaves_among project is_of_instance vars) ≡ length (leaves_among project is_of_instance b.vars) =
    ap (λ l. length (leaves_among project is_of_instance l)) all in
    omega (arith, few, e, f)

-- ---- brief cells

brief-formed : (project : ProjectTree) (b : BlockTree)
    → brief_variables project b ≡ map (formed Brief) (leaves_among project (is_brief_in b) b.vars)
brief-formed project b =
    ap (map (λ l. brief_cell l.path l.ty l.start)) (filter-among project (is_brief_in b) (is_brief_in b) (λ s e. refl) b.vars)

pub own-formed : (project : ProjectTree) (b : BlockTree) → own_brief_cells project b ≡ own_formed Brief project b
own-formed project b = ap (λ l. l ++ value_cells b ++ stl_cells b) (brief-formed project b)

leaves-nameless : (ls : List Leaf) → map nameless (map (formed Brief) ls) ≡ map (formed Nameless) ls
leaves-nameless [] = refl
leaves-nameless (l ∷ ls) = ap (λ m. formed Nameless l ∷ m) (leaves-nameless ls)

types-nameless : (tys : List Ty) → map nameless (map (λ ty. brief_cell [] ty (pos 0)) tys) ≡ map (λ ty. brief_cell [] ty (pos 0)) tys
types-nameless [] = refl
types-nameless (ty ∷ tys) = ap (λ m. brief_cell [] ty (pos 0) ∷ m) (types-nameless tys)

stl-nameless : (t : Bool) → map nameless (if t then map (λ ty. brief_cell [] ty (pos 0)) stl_types else [])
    ≡ (if t then map (λ ty. brief_cell [] ty (pos 0)) stl_types else [])
stl-nameless true = refl
stl-nameless false = refl

pub own-nameless : (project : ProjectTree) (b : BlockTree) → map nameless (own_brief_cells project b) ≡ own_formed Nameless project b
own-nameless project b =
    ap (map nameless) (own-formed project b)
    ∙ map-append nameless (map (formed Brief) (leaves_among project (is_brief_in b) b.vars) ++ value_cells b) (stl_cells b)
    ∙ ap (λ l. l ++ map nameless (stl_cells b))
    (map-append nameless (map (formed Brief) (leaves_among project (is_brief_in b) b.vars)) (value_cells b)
    ∙ ap (λ l. l ++ map nameless (value_cells b)) (leaves-nameless (leaves_among project (is_brief_in b) b.vars))
    ∙ ap (λ l. map (formed Nameless) (leaves_among project (is_brief_in b) b.vars) ++ l) (types-nameless (option_to_list b.value)))
    ∙ ap (λ l. map (formed Nameless) (leaves_among project (is_brief_in b) b.vars) ++ value_cells b ++ l) (stl-nameless (is_stl b.body))

-- ---- how many

pub own-counted : (project : ProjectTree) (b : BlockTree)
    → length (own_brief_cells project b) ≡ size_among project (is_brief_in b) b.vars + (length (value_cells b) + length (stl_cells b))
own-counted project b =
    let ls = leaves_among project (is_brief_in b) b.vars in
    ap length (own-formed project b)
    ∙ length-append (map (formed Brief) ls ++ value_cells b) (stl_cells b)
    ∙ ap (λ n. n + length (stl_cells b)) (length-append (map (formed Brief) ls) (value_cells b)
    ∙ ap (λ n. n + length (value_cells b)) (length-map ls (formed Brief) ∙ among-counted project (is_brief_in b) (brief_no_const b) b.vars))
    ∙ (let e : (n a b : ℕ) → (n + a) + b ≡ n + (a + b) = λ n a b. omega arith in
    e (size_among project (is_brief_in b) b.vars) (length (value_cells b)) (length (stl_cells b)))

-- counted up to the bound, as the code has it
pub own-sized : (project : ProjectTree) (b : BlockTree) (a v s r : ℕ) → a ≡ capped (size_among project (is_brief_in b) b.vars)
    → v ≡ length (value_cells b) → s ≡ length (stl_cells b) → r ≡ capped (a + (v + s))
    → r ≡ capped (length (own_brief_cells project b))
own-sized project b a v s r vars value stl is =
    is ∙ by BEYOND (size_among project (is_brief_in b) b.vars) a (v + s) (length (value_cells b) + length (stl_cells b)) vars
    (ap (λ n. n + s) value ∙ ap (λ n. length (value_cells b) + n) stl)
    ∙ ap capped (sym (own-counted project b))
  where
    by : (c m a k n : ℕ) → a ≡ min m c → k ≡ n → min (a + k) c ≡ min (m + n) c
    by c m a k n e f = omega (arith, e, f)

-- the leaves of its variables are no more than its cells
pub own-few : (project : ProjectTree) (b : BlockTree) (t : Section → Bool) → ((s : Section) → t s ≡ is_brief_in b s) → (m : ℕ)
    → length (own_brief_cells project b) ≤ m → length (leaves_among project t b.vars) ≤ m
own-few project b t same m few =
    let e = own-counted project b in
    let f : length (leaves_among project t b.vars) ≡ size_among project (is_brief_in b) b.vars =
    ap length (among-same project t (is_brief_in b) same b.vars) ∙ among-counted project (is_brief_in b) (brief_no_const b) b.vars in
    omega (arith, few, e, f)

-- put behind others, part by part
pub own-pushed : (form : Form) (project : ProjectTree) (b : BlockTree) (t : Section → Bool) → ((s : Section) → t s ≡ is_brief_in b s)
    → (old one two three : List Cell) → one ≡ old ++ map (formed form) (leaves_among project t b.vars) → two ≡ one ++ value_cells b
    → three ≡ two ++ stl_cells b → three ≡ old ++ own_formed form project b
own-pushed form project b t same old one two three vars value stl =
    let leaves = map (formed form) (leaves_among project (is_brief_in b) b.vars) in
    let first : one ≡ old ++ leaves = vars ∙ ap (λ l. old ++ map (formed form) l) (among-same project t (is_brief_in b) same b.vars) in
    stl ∙ ap (λ l. l ++ stl_cells b) (value ∙ ap (λ l. l ++ value_cells b) first ∙ append_assoc old leaves (value_cells b))
    ∙ append_assoc old (leaves ++ value_cells b) (stl_cells b)
