-- The cells of blocks of the first form: each variable has one, of BOOL, which starts at 0 and is an input or kept; no other is there.
use Rattle.std.proofs.Common.{◌≡◌, ◌⊎◌, ℕ, List, [], ◌∷◌, ◌++◌, length, map, replicate, ℤ, pos, Bool, true, false, not, cond, Option, None, inl, inr, refl, ap, sym, subst, ◌∙◌}
use Rattle.std.specs.Prelude.{filter, flat_map, option_to_list, if◌then◌else◌}
use Rattle.std.specs.List.{AllByRecursion}
use Rattle.std.proofs.lemmas.List.{append-nil}
use Rattle.std.proofs.lemmas.List.Elements.{recursion_from_All}
use Rattle.pv_word.specs.declared.types.Ty.{Ty}
use Rattle.pv_word.specs.declared.types.Ty.TheVariants.{Bool as BoolType}
use Rattle.pv_place.specs.declared.role.Role.{Role}
use Rattle.pv_place.specs.declared.role.Role.TheVariants.{Input as InputRole, Kept}
use Rattle.pv_place.specs.Roles.{is_input, is_stored}
use Rattle.pv_types.specs.declared.name.Name.{Name}
use Rattle.pv_types.specs.declared.declaration.Section.{Section}
use Rattle.pv_types.specs.declared.declaration.Section.TheVariants.{Input, Output, Static}
use Rattle.pv_types.specs.declared.declaration.Literal.{Literal}
use Rattle.pv_types.specs.declared.leaf.Leaf.{Leaf}
use Rattle.pv_types.specs.Tree.{TypeTree, plain, VarTree, var}
use Rattle.pv_types.specs.View.{listed}
use Rattle.pv_types.specs.Leaves.{leaves_of_vars, block}
use Rattle.pv_tree.specs.Tree.{assign, assign_call, if_, case_, for_, while_, repeat_, exit_, continue_, return_, call_, empty_, StmtTrees, no_stmts, stmts, BodyTree, scl, stl, starts, BlockTree}
use Rattle.pv_tree.specs.Scopes.{ProjectTree, is_fb, is_stl, is_const}
use Rattle.pv_tree.specs.Callees.{CallSite, callee_of}
use Rattle.pv_tree.specs.Parts.{spots_of_stmts, spots_of_body, instructions_of, starts_of, calls_of_stmt, calls_of_instruction}
use Rattle.pv_bool.specs.declared.program.Bit.{Bit}
use Rattle.pv_bool.specs.Roles.{is_kept}
use Rattle.pv_bool.specs.Scans.{start as program_start}
use Rattle.pv_bool.specs.Machine.{bit_range, bit_of, number_of, numbers_of}
use Rattle.pv_mean.specs.declared.cell.Cell.{Cell}
use Rattle.pv_mean.specs.Layout.{is_temp, is_db, data_type}
use Rattle.pv_mean.specs.AreaBytes.{Bytes}
use Rattle.pv_mean.specs.Cells.{role_of, cell_of, leaves_of_block, entry_cells, data_cells, with_starts, data_leaves, area_cells, brief_cell, brief_variables, value_cells, stl_types, stl_cells, own_brief_cells, brief_below, brief_of_callee, brief_cells, most_calls, table_of}
use Rattle.pv_mean.specs.Frames.{Params, stored_cells, input_cells, image_len, input_len, range_by, range_of_cell, image_ranges, input_ranges, start_by, start_image}
use Rattle.pv_bool_form.specs.FirstForm.{IsFirstVar, AreFirstStmts, IsFirstBody, IsFirstForm}
use Rattle.pv_bool_form.specs.Programs.{bit_role, bit_of_cell}

-- ---- one cell

pub record IsFirstCell (c : Cell) : Type 0 where
  pub ty : c.ty ≡ BoolType
  pub start : c.start ≡ pos 0
  pub bound : c.bound ≡ None
  pub role : (c.role ≡ InputRole) ⊎ (c.role ≡ Kept)

abbrev cell_at : Name → Section → Cell
cell_at name section = record { path = name.spelled; ty = BoolType; start = pos 0; role = role_of section; bound = None }

abbrev pub first_cell : VarTree → Cell
first_cell (var name section ty start place) = cell_at name section

cell_is_first : (v : VarTree) → IsFirstVar v → IsFirstCell (first_cell v)
cell_is_first (var name section ty start place) is = record {
  ty = refl;
  start = refl;
  bound = refl;
  role = elim is.0 [
    | inl e ↦ inl (ap role_of e)
    | inr other ↦ elim other [ inl e ↦ inr (ap role_of e) | inr e ↦ inr (ap role_of e) ]
  ];
}

pub cells_are_first : (vs : List VarTree) → AllByRecursion IsFirstVar vs → AllByRecursion IsFirstCell (map first_cell vs)
cells_are_first [] all = tt
cells_are_first (v ∷ vs) all = (cell_is_first v all.0, cells_are_first vs all.1)

-- what holds of a section where it is a first one's
pub by_section : (P : Section → Type 0) (s : Section) → (s ≡ Input) ⊎ ((s ≡ Output) ⊎ (s ≡ Static))
    → P Input → P Output → P Static → P s
by_section P s is a b c = elim is [
  | inl e ↦ subst P (sym e) a
  | inr other ↦ elim other [ inl e ↦ subst P (sym e) b | inr e ↦ subst P (sym e) c ]
]

-- ---- the entered block's cells

abbrev Expand : Type 0
Expand = List ℕ → List ℕ → Section → List Leaf

abbrev leaves : Expand → List VarTree → List Leaf
leaves expand vs = leaves_of_vars expand block [] (listed vs)

entry_of_vars : (expand : Expand) (vs : List VarTree) → AllByRecursion IsFirstVar vs
    → map cell_of (filter (λ l. not (is_temp l.section)) (leaves expand vs)) ≡ map first_cell vs
entry_of_vars expand [] all = refl
entry_of_vars expand ((var name section ty start place) ∷ vs) all =
    let P : TypeTree → Type 0 = λ t. map cell_of (filter (λ l. not (is_temp l.section)) (leaves expand (var name section t start place ∷ vs)))
    ≡ cell_at name section ∷ map first_cell vs in
    let Q : Option Literal → Type 0 = λ s. map cell_of (filter (λ l. not (is_temp l.section)) (leaves expand (var name section (plain BoolType) s place ∷ vs)))
    ≡ cell_at name section ∷ map first_cell vs in
    let R : Section → Type 0 = λ s. map cell_of (filter (λ l. not (is_temp l.section)) (leaves expand (var name s (plain BoolType) None place ∷ vs)))
    ≡ cell_at name s ∷ map first_cell vs in
    let rest = entry_of_vars expand vs all.1 in
    subst P (sym all.0.1) (subst Q (sym all.0.2) (by_section R section all.0.0
    (ap (λ (cs : List Cell). cell_at name Input ∷ cs) rest)
    (ap (λ (cs : List Cell). cell_at name Output ∷ cs) rest)
    (ap (λ (cs : List Cell). cell_at name Static ∷ cs) rest)))

brief_of_vars : (expand : Expand) (vs : List VarTree) → AllByRecursion IsFirstVar vs
    → filter (λ l. is_temp l.section) (leaves expand vs) ≡ []
brief_of_vars expand [] all = refl
brief_of_vars expand ((var name section ty start place) ∷ vs) all =
    let P : TypeTree → Type 0 = λ t. filter (λ l. is_temp l.section) (leaves expand (var name section t start place ∷ vs)) ≡ [] in
    let R : Section → Type 0 = λ s. filter (λ l. is_temp l.section) (leaves expand (var name s (plain BoolType) start place ∷ vs)) ≡ [] in
    let rest = brief_of_vars expand vs all.1 in
    subst P (sym all.0.1) (by_section R section all.0.0 rest rest rest)

-- ---- no calls

no_calls_in : (vars : List VarTree) (ss : StmtTrees) → AreFirstStmts vars ss
    → flat_map (λ s. calls_of_stmt s.stmt) (spots_of_stmts [] ss) ≡ []
no_calls_in vars no_stmts are = refl
no_calls_in vars (stmts (assign target place e) more) are = no_calls_in vars more are.1
no_calls_in vars (stmts (assign_call target place call) more) are = absurd are.0
no_calls_in vars (stmts (if_ conditions other place) more) are = absurd are.0
no_calls_in vars (stmts (case_ selector choices other place) more) are = absurd are.0
no_calls_in vars (stmts (for_ name name_place first last by body place) more) are = absurd are.0
no_calls_in vars (stmts (while_ condition body place) more) are = absurd are.0
no_calls_in vars (stmts (repeat_ body condition place) more) are = absurd are.0
no_calls_in vars (stmts (exit_ place) more) are = absurd are.0
no_calls_in vars (stmts (continue_ place) more) are = absurd are.0
no_calls_in vars (stmts (return_ place) more) are = absurd are.0
no_calls_in vars (stmts (call_ call) more) are = absurd are.0
no_calls_in vars (stmts (empty_ place) more) are = absurd are.0

-- what a body of the first form hasn't
record HasNothingElse (body : BodyTree) : Type 0 where
  calls : flat_map (λ s. calls_of_stmt s.stmt) (spots_of_body body) ++ flat_map calls_of_instruction (instructions_of body) ≡ []
  is_scl : is_stl body ≡ false

nothing_else : (vars : List VarTree) (body : BodyTree) → IsFirstBody vars body → HasNothingElse body
nothing_else vars (scl ss) is = record { calls = ap (λ (l : List CallSite). l ++ []) (no_calls_in vars ss is); is_scl = refl }
nothing_else vars (stl instructions) is = absurd is
nothing_else vars (starts values) is = absurd is

-- ---- the table

pub first_vars : (b : BlockTree) → IsFirstForm b → AllByRecursion IsFirstVar b.vars
first_vars b is = recursion_from_All IsFirstVar b.vars is.vars

entry_part : (project : ProjectTree) (b : BlockTree) → IsFirstForm b → entry_cells project b ≡ map first_cell b.vars
entry_part project b is =
    ap (λ k. if is_fb k then map cell_of (filter (λ l. not (is_temp l.section)) (leaves_of_block project b)) else []) is.kind
    ∙ entry_of_vars _ b.vars (first_vars b is)

no_data : (project : ProjectTree) (b : BlockTree) → IsFirstForm b → data_cells project b ≡ []
no_data project b is = ap (λ k. if is_db k
    then with_starts project (data_type b) (starts_of b.body) (map cell_of (data_leaves project b)) else []) is.kind

no_brief_variables : (project : ProjectTree) (b : BlockTree) → IsFirstForm b → brief_variables project b ≡ []
no_brief_variables project b is =
    ap (λ k. map (λ l. brief_cell l.path l.ty l.start)
    (filter (λ l. if is_fb k then is_temp l.section else not (is_const l.section)) (leaves_of_block project b))) is.kind
    ∙ ap (λ (ls : List Leaf). map (λ l. brief_cell l.path l.ty l.start) ls) (brief_of_vars _ b.vars (first_vars b is))

own_brief : (project : ProjectTree) (b : BlockTree) → IsFirstForm b → own_brief_cells project b ≡ []
own_brief project b is =
    ap (λ (cs : List Cell). cs ++ value_cells b ++ stl_cells b) (no_brief_variables project b is)
    ∙ ap (λ (v : Option Ty). map (λ ty. brief_cell [] ty (pos 0)) (option_to_list v) ++ stl_cells b) is.value
    ∙ ap (λ t. if t then map (λ ty. brief_cell [] ty (pos 0)) stl_types else []) (nothing_else b.vars b.body is.body).is_scl

no_brief : (project : ProjectTree) (b : BlockTree) → IsFirstForm b → brief_cells project b ≡ []
no_brief project b is =
    ap (λ (cs : List Cell). cs ++ brief_below project most_calls b) (own_brief project b is)
    ∙ ap (λ (cs : List CallSite). flat_map (λ s. brief_of_callee project (brief_below project 6)
    (callee_of (record { project = project; block = b }) s)) cs) (nothing_else b.vars b.body is.body).calls

abbrev pub no_bytes : Bytes
no_bytes = record { inputs = []; outputs = []; flags = [] }

joined : (m e d a r : List Cell) → e ≡ m → d ≡ [] → a ≡ [] → r ≡ [] → ((e ++ d) ++ a) ++ r ≡ m
joined m e d a r es ds none rs =
    ap (λ x. ((x ++ d) ++ a) ++ r) es ∙ ap (λ x. ((m ++ x) ++ a) ++ r) ds ∙ ap (λ x. ((m ++ []) ++ x) ++ r) none
    ∙ ap (λ x. ((m ++ []) ++ []) ++ x) rs ∙ append-nil ((m ++ []) ++ []) ∙ append-nil (m ++ []) ∙ append-nil m

-- a block alone, with no bytes of areas, has its variables' cells
pub table_is_first : (project : ProjectTree) (b : BlockTree) → IsFirstForm b → project.blocks ≡ b ∷ []
    → table_of project b no_bytes ≡ map first_cell b.vars
table_is_first project b is alone = joined (map first_cell b.vars) (entry_cells project b) (flat_map (data_cells project) project.blocks) (area_cells no_bytes)
    (brief_cells project b) (entry_part project b is)
    (ap (λ (bs : List BlockTree). flat_map (data_cells project) bs) alone ∙ ap (λ (cs : List Cell). cs ++ []) (no_data project b is))
    refl (no_brief project b is)

-- ---- ranges

first_range : (c : Cell) → IsFirstCell c → range_of_cell c ≡ bit_range
first_range c is =
    ap (λ b. range_by c.role b c.ty) is.bound ∙ ap (λ t. range_by c.role None t) is.ty
    ∙ (elim is.role [ inl e ↦ ap (λ r. range_by r None BoolType) e | inr e ↦ ap (λ r. range_by r None BoolType) e ])

pub first_image_ranges : (cs : List Cell) → AllByRecursion IsFirstCell cs → image_ranges cs ≡ replicate (image_len cs) bit_range
first_image_ranges [] all = refl
first_image_ranges (c ∷ cs) all = lead (is_stored c.role) (first_image_ranges cs all.1)
  where
    lead : (b : Bool) → image_ranges cs ≡ replicate (image_len cs) bit_range
        → map range_of_cell (cond b (c ∷ stored_cells cs) (stored_cells cs))
        ≡ replicate (length (cond b (c ∷ stored_cells cs) (stored_cells cs))) bit_range
    lead true same = ap (λ r. r ∷ image_ranges cs) (first_range c all.0) ∙ ap (λ rs. bit_range ∷ rs) same
    lead false same = same

pub first_input_ranges : (cs : List Cell) → AllByRecursion IsFirstCell cs → input_ranges cs ≡ replicate (input_len cs) bit_range
first_input_ranges [] all = refl
first_input_ranges (c ∷ cs) all = lead (is_input c.role) (first_input_ranges cs all.1)
  where
    lead : (b : Bool) → input_ranges cs ≡ replicate (input_len cs) bit_range
        → map range_of_cell (cond b (c ∷ input_cells cs) (input_cells cs))
        ≡ replicate (length (cond b (c ∷ input_cells cs) (input_cells cs))) bit_range
    lead true same = ap (λ r. r ∷ input_ranges cs) (first_range c all.0) ∙ ap (λ rs. bit_range ∷ rs) same
    lead false same = same

-- what holds of a cell's role where it is an input's and where it is kept holds of it
pub by_role : (P : Role → Type 0) (c : Cell) → IsFirstCell c → P InputRole → P Kept → P c.role
by_role P c is of_input of_kept = elim is.role [ inl e ↦ subst P (sym e) of_input | inr e ↦ subst P (sym e) of_kept ]

-- ---- the image before the first scan

abbrev StartStep : Cell → List Cell → Params → Role → Type 0
StartStep c cs params r = start_by r c.bound c.start (λ more. start_image cs more) params
    ≡ numbers_of (map (λ (b : Bit). b.start) (cond (is_kept (bit_role r)) (bit_of_cell c ∷ filter (λ b. is_kept b.role) (map bit_of_cell cs))
    (filter (λ b. is_kept b.role) (map bit_of_cell cs))))

zero_begins : (v : ℤ) → v ≡ pos 0 → v ≡ number_of (bit_of v)
zero_begins v e = let P : ℤ → Type 0 = λ w. w ≡ number_of (bit_of w) in subst P (sym e) refl

pub start-bits : (cs : List Cell) (params : Params) → AllByRecursion IsFirstCell cs
    → start_image cs params ≡ numbers_of (program_start (map bit_of_cell cs))
start-bits [] params all = refl
start-bits (c ∷ cs) params all =
    let same = start-bits cs params all.1 in
    by_role (StartStep c cs params) c all.0 same (ap (λ v. v ∷ start_image cs params) (zero_begins c.start all.0.start)
    ∙ ap (λ vs. number_of (bit_of c.start) ∷ vs) same)
