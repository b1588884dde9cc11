-- Words of the first form: each names a visible cell, and is a BOOL.
use Rattle.std.proofs.Common.{◌≡◌, ℕ, ◌+◌, List, [], ◌∷◌, Bool, true, false, true≢false, ◌<◌, suc, length, arith, Option, Some, refl, ap, sym, subst, ◌∙◌}
use Rattle.std.specs.Prelude.{bytes_eq, is_some, if◌then◌else◌}
use Rattle.std.specs.List.{AllByRecursion}
use Rattle.pv_word.specs.declared.types.Ty.TheVariants.{Bool as BoolType}
use Rattle.pv_place.specs.declared.place.Place.{Place}
use Rattle.pv_types.specs.declared.declaration.Section.{Section}
use Rattle.pv_types.specs.Tree.{TypeTree, plain, VarTree, var}
use Rattle.pv_tree.specs.declared.expr.Root.{Root}
use Rattle.pv_tree.specs.declared.expr.Root.TheVariants.{Local, Named, Area}
use Rattle.pv_tree.specs.declared.block.BlockKind.TheVariants.{Fb}
use Rattle.pv_tree.specs.Tree.{OperandTree, operand, StepTrees, no_steps, BlockTree}
use Rattle.pv_tree.specs.Scopes.{ProjectTree, Scope, first_var, first_block, own_value, is_of_instance, is_fb}
use Rattle.pv_tree.specs.Sorts.{one}
use Rattle.pv_tree.specs.Things.{no_name, thing_of_var, thing_of_value, thing_of_variable, thing_of_block, dated}
use Rattle.pv_tree.specs.Types.{sort_of_operand, sort_of_thing}
use Rattle.pv_mean.specs.Sources.{Source}
use Rattle.pv_mean.specs.Layout.{Laid, laid_among, is_brief_in}
use Rattle.pv_mean.specs.Spots.{Spot, visible, nowhere}
use Rattle.pv_mean.specs.Activations.{scope_in, Begins, at, visible_where, brief_where, variable_begins, variable_or, value_or, block_or, word_begins, root_begins, spot_of}
use Rattle.pv_mean.specs.Endings.{got}
use Rattle.pv_mean.specs.Frames.{Frame}
use Rattle.pv_mean.specs.Values.{locate}
use Rattle.pv_mean.specs.Scans.{entry_activation}
use Rattle.pv_bool_form.specs.FirstForm.{IsFirstVar, IsFirstRoot, IsFirstOperand, IsFirstForm}
use Rattle.pv_bool_form.specs.Programs.{number_at, number_of}
use Rattle.pv_bool_form.proofs.Cells.{first_vars, by_section}

-- a word that variables of the first form declare: the variable that is found, and where it is laid out
record IsWord (found : Option VarTree) (laid : Option Laid) (end : ℕ) : Type 0 where
  v : VarTree
  is : IsFirstVar v
  is_found : found ≡ Some v
  n : ℕ
  within : n < end
  is_laid : laid ≡ Some (record { ty = plain BoolType; first = n })

abbrev pub cell_from : ℕ → Laid
cell_from n = record { ty = plain BoolType; first = n }

next_word : (x : VarTree) (n end : ℕ) (found : Option VarTree) (laid : Option Laid) (b : Bool) → IsFirstVar x → n < end
    → (is_some found ≡ true → IsWord found laid end) → is_some (if b then Some x else found) ≡ true
    → IsWord (if b then Some x else found) (if b then Some (cell_from n) else laid) end
next_word x n end found laid true is lt next some = record { v = x; is = is; is_found = refl; n = n; within = lt; is_laid = refl }
next_word x n end found laid false is lt next some = next some

shifted : (found : Option VarTree) (laid : Option Laid) (a b : ℕ) → a ≡ b → IsWord found laid a → IsWord found laid b
shifted found laid a b e w = let P : ℕ → Type 0 = λ n. IsWord found laid n in subst P e w

is_word : (project : ProjectTree) (vs : List VarTree) (key : List ℕ) (first : ℕ) → AllByRecursion IsFirstVar vs
    → is_some (first_var vs key) ≡ true → IsWord (first_var vs key) (laid_among project is_of_instance vs key first) (first + length vs)
is_word project [] key first all is = absurd (true≢false (sym is))
is_word project ((var name section ty start place) ∷ vs) key first all is =
    let x = var name section ty start place in
    let P : TypeTree → Type 0 = λ t. IsWord (first_var (x ∷ vs) key) (laid_among project is_of_instance (var name section t start place ∷ vs) key first) (first + suc (length vs)) in
    let Q : Section → Type 0 = λ s. IsWord (first_var (x ∷ vs) key) (laid_among project is_of_instance (var name s (plain BoolType) start place ∷ vs) key first) (first + suc (length vs)) in
    let here = next_word x first (first + suc (length vs)) (first_var vs key) (laid_among project is_of_instance vs key (first + 1)) (bytes_eq key name.key) all.0 (omega arith)
    (λ some. shifted _ _ _ _ (omega arith) (is_word project vs key (first + 1) all.1 some)) is in
    subst P (sym all.0.1) (by_section Q section all.0.0 here here here)

-- ---- where it begins

variable_is : (source : Source) (b : BlockTree) (v : VarTree) (key : List ℕ) (n : ℕ) → b.kind ≡ Fb → IsFirstVar v
    → laid_among source.project is_of_instance b.vars key 0 ≡ Some (cell_from n)
    → spot_of (variable_begins source (record { block = b; first = 0 }) key v) ≡ visible n
variable_is source b (var name section ty start place) key n kind is laid =
    let place_of : Section → Begins = λ s. variable_begins source (record { block = b; first = 0 }) key (var name s ty start place) in
    let P : Section → Type 0 = λ s. spot_of (place_of s) ≡ visible n in
    by_section P section is.0 lead lead lead
  where
    lead : spot_of (if (if is_fb b.kind then false else true)
        then brief_where (laid_among source.project (is_brief_in b) b.vars key 0)
        else visible_where (laid_among source.project is_of_instance b.vars key 0)) ≡ visible n
    lead = ap (λ k. spot_of (if (if is_fb k then false else true)
        then brief_where (laid_among source.project (is_brief_in b) b.vars key 0)
        else visible_where (laid_among source.project is_of_instance b.vars key 0))) kind
        ∙ ap (λ l. spot_of (visible_where l)) laid

-- whether it is found among the block's variables, and begins there
word_spot : (source : Source) (b : BlockTree) (key : List ℕ) → IsFirstForm b → is_some (first_var b.vars key) ≡ true
    → (n : ℕ) × (n < length b.vars) × (spot_of (word_begins source (record { block = b; first = 0 }) key false) ≡ visible n)
word_spot source b key form some =
    let w = is_word source.project b.vars key 0 (first_vars b form) some in
    let other : Option VarTree → Begins = λ found. variable_or source (record { block = b; first = 0 }) key found
    (value_or source (record { block = b; first = 0 }) (own_value b key false)
    (block_or source (first_block source.project.blocks key) (at nowhere))) in
    (w.n, (let h = w.within in omega arith), ap (λ found. spot_of (other found)) w.is_found ∙ variable_is source b w.v key w.n form.kind w.is w.is_laid)

-- the number of its cell, and where it is laid out
pub word_number : (source : Source) (b : BlockTree) (key : List ℕ) → IsFirstForm b → is_some (first_var b.vars key) ≡ true
    → (n : ℕ) × (laid_among source.project is_of_instance b.vars key 0 ≡ Some (cell_from n))
    × (number_at (spot_of (word_begins source (record { block = b; first = 0 }) key false)) ≡ n)
unfolding word_spot
word_number source b key form some =
    let w = is_word source.project b.vars key 0 (first_vars b form) some in
    let spot = word_spot source b key form some in
    (w.n, w.is_laid, ap (λ s. number_at s) spot.2)

numbered : (s : Spot) (n : ℕ) → s ≡ visible n → s ≡ visible (number_at s)
numbered s n e = let P : Spot → Type 0 = λ t. t ≡ visible (number_at t) in subst P (sym e) refl

root_spot : (source : Source) (root : Root) → IsFirstForm source.entry → IsFirstRoot source.entry.vars root
    → spot_of (root_begins source (entry_activation source) root)
    ≡ visible (number_at (spot_of (root_begins source (entry_activation source) root)))
root_spot source (Local name hash place) form is =
    let spot : Bool → Spot = λ h. spot_of (word_begins source (entry_activation source) name.key h) in
    let P : Bool → Type 0 = λ h. spot h ≡ visible (number_at (spot h)) in
    let found = word_spot source source.entry name.key form is.1 in
    subst P (sym is.0) (numbered (spot false) found.0 found.2)
root_spot source (Named name) form is = absurd is
root_spot source (Area area bits byte bit) form is = absurd is

-- a word of the first form names the visible cell of its number
pub located : (source : Source) (frame : Frame) (o : OperandTree) → IsFirstForm source.entry → IsFirstOperand source.entry.vars o
    → locate source (entry_activation source) frame o ≡ got (visible (number_of source o))
located source frame (operand root more place) form is =
    let P : StepTrees → Type 0 = λ m. locate source (entry_activation source) frame (operand root m place) ≡ got (visible (number_of source (operand root m place))) in
    subst P (sym is.1) (ap (λ (s : Spot). got s) (root_spot source root form is.0))

root_within : (source : Source) (root : Root) → IsFirstForm source.entry → IsFirstRoot source.entry.vars root
    → number_at (spot_of (root_begins source (entry_activation source) root)) < length source.entry.vars
root_within source (Local name hash place) form is =
    let P : Bool → Type 0 = λ h. number_at (spot_of (word_begins source (entry_activation source) name.key h)) < length source.entry.vars in
    let Q : Spot → Type 0 = λ s. number_at s < length source.entry.vars in
    let found = word_spot source source.entry name.key form is.1 in
    subst P (sym is.0) (subst Q (sym found.2) found.1)
root_within source (Named name) form is = absurd is
root_within source (Area area bits byte bit) form is = absurd is

-- which is one of the block's variables
pub numbers_within : (source : Source) (o : OperandTree) → IsFirstForm source.entry → IsFirstOperand source.entry.vars o
    → number_of source o < length source.entry.vars
numbers_within source (operand root more place) form is = root_within source root form is.0

-- ---- its type

variable_sort : (scope : Scope) (last : Place) (v : VarTree) → IsFirstVar v → sort_of_thing scope (dated last (thing_of_var v)) ≡ one BoolType
variable_sort scope last (var name section ty start place) is =
    let P : TypeTree → Section → Type 0 = λ t s. sort_of_thing scope (dated last (thing_of_var (var name s t start place))) ≡ one BoolType in
    let Q : TypeTree → Type 0 = λ t. P t section in
    let R : Section → Type 0 = λ s. P (plain BoolType) s in
    subst Q (sym is.1) (by_section R section is.0 refl refl refl)

root_sort : (source : Source) (root : Root) (place : Place) → IsFirstForm source.entry → IsFirstRoot source.entry.vars root
    → sort_of_operand (scope_in source (entry_activation source)) (operand root no_steps place) ≡ one BoolType
root_sort source (Local name hash there) place form is =
    let scope = scope_in source (entry_activation source) in
    let w = is_word source.project source.entry.vars name.key 0 (first_vars source.entry form) is.1 in
    ap (λ found. sort_of_thing scope (dated there (thing_of_variable found
    (thing_of_value (own_value scope.block name.key hash) (if hash then no_name there else thing_of_block (first_block scope.project.blocks name.key) (no_name there)))))) w.is_found
    ∙ variable_sort scope there w.v w.is
root_sort source (Named name) place form is = absurd is
root_sort source (Area area bits byte bit) place form is = absurd is

-- and it is a BOOL
pub word_sort : (source : Source) (o : OperandTree) → IsFirstForm source.entry → IsFirstOperand source.entry.vars o
    → sort_of_operand (scope_in source (entry_activation source)) o ≡ one BoolType
word_sort source (operand root more place) form is =
    let P : StepTrees → Type 0 = λ m. sort_of_operand (scope_in source (entry_activation source)) (operand root m place) ≡ one BoolType in
    subst P (sym is.1) (root_sort source root place form is.0)
