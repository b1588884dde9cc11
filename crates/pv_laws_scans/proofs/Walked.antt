-- Steps from a part, whose indexes are literals within their bounds, lead to a part among its cells.
use Rattle.std.proofs.Common.{◌≡◌, ◌⊎◌, inl, inr, ℕ, ℤ, List, [], ◌∷◌, Bool, true, false, cond, ◌&&◌, Option, Some, None, refl, sym, ap, subst, ◌∙◌, arith}
use Rattle.std.specs.Prelude.{⊤, int_le, is_some, option_and_then}
use Rattle.std.proofs.lemmas.Bool.{false≢true, and_parts}
use Rattle.std.proofs.lemmas.Option.{none-some, same_Some}
use Rattle.pv_word.specs.declared.types.Ty.{Ty}
use Rattle.pv_place.specs.declared.place.Place.{Place}
use Rattle.pv_types.specs.declared.name.Name.{Name}
use Rattle.pv_types.specs.Tree.{TypeTree, plain, array, structure, named, unread, VarTree}
use Rattle.pv_types.specs.View.{fields_of}
use Rattle.pv_tree.specs.Tree.{ExprTree, lit, read, unary, binary, std, paren, StepTree, field, index, StepTrees, no_steps, steps, BlockTree}
use Rattle.pv_tree.specs.LiteralTypes.{nothing}
use Rattle.pv_tree.specs.Sorts.{one_of, taken, own_type, common_type, result_of_unary}
use Rattle.pv_tree.specs.Scopes.{Scope, first_var, type_named}
use Rattle.pv_tree.specs.Things.{Thing, part, constant, a_block, no_name, no_array, a_date, untold, first_place, is_date, dated_type, dated, no_array_where, field_where, field_within, fields_of_type, field_of_type, element_of_type, thing_at, last_behind, thing_behind}
use Rattle.pv_tree.specs.Types.{Written, literal_of, sort_of_written, sort_where, sort_of, is_index_type, lies_in, is_index, are_indexed}
use Rattle.pv_tree.specs.Rules.{KeepsRules}
use Rattle.pv_mean.specs.Layout.{Laid, size_in, field_laid, element_from, element_laid, laid_behind}
use Rattle.pv_laws_scans.specs.Naming.{LiesIn, NamesTypesOf, HasLiteralIndexes}
use Rattle.pv_laws_scans.proofs.Fields.{field-has, element-has, same-part}

-- ---- what isn't there stays so

abbrev is-part : Thing → Bool
is-part (part ty) = true
is-part (constant ty) = false
is-part (a_block b) = false
is-part (no_name p) = false
is-part (no_array p) = false
is-part (a_date p) = false
is-part untold = false

-- no part comes of it
abbrev IsGone : Thing → Type 0
IsGone (part ty) = ⊥
IsGone (constant ty) = ⊥
IsGone (a_block b) = ⊥
IsGone (no_name p) = ⊤
IsGone (no_array p) = ⊤
IsGone (a_date p) = ⊤
IsGone untold = ⊤

gone-step : (scope : Scope) (last : Place) (t : Thing) (step : StepTree) → IsGone t → IsGone (thing_at scope (dated last t) step)
gone-step scope last (part ty) step g = absurd g
gone-step scope last (constant ty) step g = absurd g
gone-step scope last (a_block b) step g = absurd g
gone-step scope last (no_name p) (field name place) g = tt
gone-step scope last (no_name p) (index e place) g = tt
gone-step scope last (no_array p) (field name place) g = tt
gone-step scope last (no_array p) (index e place) g = tt
gone-step scope last (a_date p) (field name place) g = tt
gone-step scope last (a_date p) (index e place) g = tt
gone-step scope last untold (field name place) g = tt
gone-step scope last untold (index e place) g = tt

gone-part : (scope : Scope) (last : Place) (t : Thing) → IsGone t → is-part (dated last t) ≡ false
gone-part scope last (part ty) g = absurd g
gone-part scope last (constant ty) g = refl
gone-part scope last (a_block b) g = refl
gone-part scope last (no_name p) g = refl
gone-part scope last (no_array p) g = refl
gone-part scope last (a_date p) g = refl
gone-part scope last untold g = refl

stays-gone : (scope : Scope) (more : StepTrees) (last : Place) (t : Thing) (ty : TypeTree) → IsGone t
    → thing_behind scope last t more ≡ part ty → ⊥
stays-gone scope no_steps last t ty g e = false≢true (sym (gone-part scope last t g) ∙ ap is-part e)
stays-gone scope (steps step more) last t ty g e =
    stays-gone scope more (last_behind last step) (thing_at scope (dated last t) step) ty (gone-step scope last t step g) e

-- ---- dates

-- it is no date, or no part comes of it
dated-same : (last : Place) (t : TypeTree) → (dated_type last t ≡ part t) ⊎ IsGone (dated_type last t)
dated-same last (plain ty) = inl refl
dated-same last (array low high of p) = lead (is_date of)
  where
    lead : (d : Bool) → (cond d (a_date last) (part (array low high of p)) ≡ part (array low high of p))
        ⊎ IsGone (cond d (a_date last) (part (array low high of p)))
    lead true = inr tt
    lead false = inl refl
dated-same last (structure vars) = inl refl
dated-same last (named name p) = inl refl
dated-same last unread = inr tt

-- ---- fields and elements are parts, or gone

where-part : (o : Option VarTree) (place : Place) → ((ty : TypeTree) × (field_where o place ≡ part ty)) ⊎ IsGone (field_where o place)
where-part None place = inr tt
where-part (Some v) place = inl (_, refl)

within-part : (o : Option BlockTree) (key : List ℕ) (place : Place)
    → ((ty : TypeTree) × (field_within o key place ≡ part ty)) ⊎ IsGone (field_within o key place)
within-part None key place = inr tt
within-part (Some b) key place = where-part (first_var (fields_of_type b) key) place

field-part : (scope : Scope) (t : TypeTree) (key : List ℕ) (place : Place)
    → ((ty : TypeTree) × (field_of_type scope t key place ≡ part ty)) ⊎ IsGone (field_of_type scope t key place)
field-part scope (plain ty) key place = inr tt
field-part scope (array low high of p) key place = inr tt
field-part scope (structure vars) key place = where-part (first_var (fields_of vars) key) place
field-part scope (named name p) key place = within-part (type_named scope.project name.key) key place
field-part scope unread key place = inr tt

-- ---- literals

literal-sort : (scope : Scope) (e : ExprTree) (w : Written) → literal_of e ≡ Some w → sort_of scope e ≡ sort_of_written w.ty w.value
literal-sort scope (lit ty v place) w e = ap (λ (x : Written). sort_of_written x.ty x.value) (same_Some (record { ty = ty; value = v }) w e)
literal-sort scope (read o) w e = absurd (none-some w e)
literal-sort scope (unary op place arg) w e =
    ap (λ o. sort_where o (one_of (option_and_then (result_of_unary op) (common_type (taken nothing (sort_of scope arg) ∷ []))))) e
literal-sort scope (binary op place l r) w e = absurd (none-some w e)
literal-sort scope (std function place args) w e = absurd (none-some w e)
literal-sort scope (paren place inner) w e = literal-sort scope inner w e

-- a literal index lies within the bounds
within-bounds : (scope : Scope) (low high : ℤ) (of : TypeTree) (p : Place) (e : ExprTree) (w : Written) → literal_of e ≡ Some w
    → is_index (part (array low high of p)) (sort_of scope e) ≡ true → int_le low w.value && int_le w.value high ≡ true
within-bounds scope low high of p e w is good = lead w.ty
    ((and_parts (is_index_type (own_type (taken nothing (sort_of scope e)))) (lies_in (part (array low high of p)) (sort_of scope e)) good).1)
    (literal-sort scope e w is)
  where
    lead : (o : Option Ty) → lies_in (part (array low high of p)) (sort_of scope e) ≡ true → sort_of scope e ≡ sort_of_written o w.value
        → int_le low w.value && int_le w.value high ≡ true
    lead None lies s = subst (λ x. lies_in (part (array low high of p)) x ≡ true) s lies
    lead (Some ty) lies s = subst (λ x. lies_in (part (array low high of p)) x ≡ true) s lies

-- ---- steps

gone-thing : (scope : Scope) (t : Thing) (step : StepTree) → IsGone t → IsGone (thing_at scope t step)
gone-thing scope (part ty) step g = absurd g
gone-thing scope (constant ty) step g = absurd g
gone-thing scope (a_block b) step g = absurd g
gone-thing scope (no_name p) (field name place) g = tt
gone-thing scope (no_name p) (index e place) g = tt
gone-thing scope (no_array p) (field name place) g = tt
gone-thing scope (no_array p) (index e place) g = tt
gone-thing scope (a_date p) (field name place) g = tt
gone-thing scope (a_date p) (index e place) g = tt
gone-thing scope untold (field name place) g = tt
gone-thing scope untold (index e place) g = tt

-- what steps lead to, among so many cells
abbrev Among : Scope → Option Laid → TypeTree → ℕ → ℕ → Type 0
Among scope found ty first count =
    (laid : Laid) × (found ≡ Some laid) × (laid.ty ≡ ty) × LiesIn scope.project first count laid

farther : (scope : Scope) (found : Option Laid) (ty : TypeTree) (first count : ℕ) (l : Laid) → LiesIn scope.project first count l
    → Among scope found ty l.first (size_in scope.project l.ty) → Among scope found ty first count
farther scope found ty first count l inner w = (
  w.0,
  w.1,
  w.2,
  record {
    from = (let a = inner.from in let b = w.3.from in omega (arith, a, b));
    to = (let a = inner.to in let b = w.3.to in omega (arith, a, b));
  },
)

-- what is known of the other steps
abbrev Rest : Scope → StepTrees → Place → TypeTree → Type 0
Rest scope more next ty = (l : Laid) → NamesTypesOf scope.project l.ty → are_indexed scope next (part l.ty) more ≡ true
    → thing_behind scope next (part l.ty) more ≡ part ty
    → Among scope (laid_behind scope.project (Some l) more) ty l.first (size_in scope.project l.ty)

by-field : (scope : Scope) → KeepsRules scope.project → (more : StepTrees) (laid : Laid) (next : Place) (ty : TypeTree) (name : Name)
    → NamesTypesOf scope.project laid.ty → Rest scope more next ty
    → ((t : TypeTree) × (field_of_type scope laid.ty name.key next ≡ part t)) ⊎ IsGone (field_of_type scope laid.ty name.key next)
    → are_indexed scope next (field_of_type scope laid.ty name.key next) more ≡ true
    → thing_behind scope next (field_of_type scope laid.ty name.key next) more ≡ part ty
    → Among scope (laid_behind scope.project (field_laid scope.project laid name.key) more) ty laid.first (size_in scope.project laid.ty)
by-field scope keeps more laid next ty name names rest (inr gone) good means =
    absurd (stays-gone scope more next (field_of_type scope laid.ty name.key next) ty gone means)
by-field scope keeps more laid next ty name names rest (inl found) good means =
    let f = field-has scope laid name.key next found.0 keeps names found.1 in
    let same = found.1 ∙ ap part (sym f.2) in
    subst (λ o. Among scope (laid_behind scope.project o more) ty laid.first (size_in scope.project laid.ty)) (sym f.1)
    (farther scope (laid_behind scope.project (Some f.0) more) ty laid.first (size_in scope.project laid.ty) f.0 f.3
    (rest f.0 (subst (NamesTypesOf scope.project) (sym f.2) f.4) (ap (λ x. are_indexed scope next x more) (sym same) ∙ good)
    (ap (λ x. thing_behind scope next x more) (sym same) ∙ means)))

by-dated : (scope : Scope) → KeepsRules scope.project → (more : StepTrees) (laid : Laid) (next : Place) (ty : TypeTree) (name : Name) (d : Thing)
    → NamesTypesOf scope.project laid.ty → Rest scope more next ty → (d ≡ part laid.ty) ⊎ IsGone d
    → are_indexed scope next (thing_at scope d (field name next)) more ≡ true
    → thing_behind scope next (thing_at scope d (field name next)) more ≡ part ty
    → Among scope (laid_behind scope.project (field_laid scope.project laid name.key) more) ty laid.first (size_in scope.project laid.ty)
by-dated scope keeps more laid next ty name d names rest (inr gone) good means =
    absurd (stays-gone scope more next (thing_at scope d (field name next)) ty (gone-thing scope d (field name next) gone) means)
by-dated scope keeps more laid next ty name d names rest (inl same) good means =
    by-field scope keeps more laid next ty name names rest (field-part scope laid.ty name.key next)
    (subst (λ t. are_indexed scope next (thing_at scope t (field name next)) more ≡ true) same good)
    (subst (λ t. thing_behind scope next (thing_at scope t (field name next)) more ≡ part ty) same means)

element-gone : (scope : Scope) (name : Name) (at p : Place) → IsGone (element_of_type scope (named name at) p)
element-gone scope name at p = lead (type_named scope.project name.key)
  where
    lead : (o : Option BlockTree) → IsGone (no_array_where o p)
    lead None = tt
    lead (Some b) = tt

by-element : (scope : Scope) (more : StepTrees) (laid : Laid) (last : Place) (ty : TypeTree) (e : ExprTree) (w : Written) (t : TypeTree)
    → laid.ty ≡ t → NamesTypesOf scope.project t → Rest scope more last ty → literal_of e ≡ Some w
    → is_index (part t) (sort_of scope e) ≡ true
    → are_indexed scope last (element_of_type scope t (first_place e)) more ≡ true
    → thing_behind scope last (element_of_type scope t (first_place e)) more ≡ part ty
    → Among scope (laid_behind scope.project (element_laid scope.project laid w.value) more) ty laid.first (size_in scope.project t)
by-element scope more laid last ty e w (plain own) is names rest literal inside good means =
    absurd (stays-gone scope more last (no_array (first_place e)) ty tt means)
by-element scope more laid last ty e w (array low high of p) is names rest literal inside good means =
    let bounds = and_parts (int_le low w.value) (int_le w.value high) (within-bounds scope low high of p e w literal inside) in
    let x = element-has scope.project low high of p laid.first w.value bounds.0 bounds.1 in
    subst (λ o. Among scope (laid_behind scope.project o more) ty laid.first (size_in scope.project (array low high of p)))
    (sym (ap (λ t. element_from scope.project t laid.first w.value) is ∙ x.1))
    (farther scope (laid_behind scope.project (Some x.0) more) ty laid.first (size_in scope.project (array low high of p)) x.0 x.3
    (rest x.0 (subst (NamesTypesOf scope.project) (sym x.2) names) (ap (λ t. are_indexed scope last (part t) more) x.2 ∙ good)
    (ap (λ t. thing_behind scope last (part t) more) x.2 ∙ means)))
by-element scope more laid last ty e w (structure vars) is names rest literal inside good means =
    absurd (stays-gone scope more last (no_array (first_place e)) ty tt means)
by-element scope more laid last ty e w (named name p) is names rest literal inside good means =
    absurd (stays-gone scope more last (element_of_type scope (named name p) (first_place e)) ty (element-gone scope name p (first_place e)) means)
by-element scope more laid last ty e w unread is names rest literal inside good means =
    absurd (stays-gone scope more last (no_array (first_place e)) ty tt means)

by-index : (scope : Scope) (more : StepTrees) (laid : Laid) (last : Place) (ty : TypeTree) (e : ExprTree) (place : Place) (d : Thing)
    → NamesTypesOf scope.project laid.ty → Rest scope more last ty → (d ≡ part laid.ty) ⊎ IsGone d → (o : Option Written)
    → literal_of e ≡ o → is_some o ≡ true → is_index d (sort_of scope e) ≡ true
    → are_indexed scope last (thing_at scope d (index e place)) more ≡ true
    → thing_behind scope last (thing_at scope d (index e place)) more ≡ part ty
    → Among scope (laid_behind scope.project (option_and_then (λ w. element_laid scope.project laid w.value) o) more) ty laid.first
    (size_in scope.project laid.ty)
by-index scope more laid last ty e place d names rest (inr gone) o literal some inside good means =
    absurd (stays-gone scope more last (thing_at scope d (index e place)) ty (gone-thing scope d (index e place) gone) means)
by-index scope more laid last ty e place d names rest (inl same) None literal some inside good means = absurd (false≢true some)
by-index scope more laid last ty e place d names rest (inl same) (Some w) literal some inside good means =
    by-element scope more laid last ty e w laid.ty refl names rest literal
    (subst (λ t. is_index t (sort_of scope e) ≡ true) same inside)
    (subst (λ t. are_indexed scope last (thing_at scope t (index e place)) more ≡ true) same good)
    (subst (λ t. thing_behind scope last (thing_at scope t (index e place)) more ≡ part ty) same means)

gone-none : (t : Thing) (ty : TypeTree) → IsGone t → t ≡ part ty → ⊥
gone-none t ty g e = subst IsGone e g

pub steps-lead : (scope : Scope) → KeepsRules scope.project → (more : StepTrees) (laid : Laid) (last : Place) (ty : TypeTree)
    → NamesTypesOf scope.project laid.ty → HasLiteralIndexes more → are_indexed scope last (part laid.ty) more ≡ true
    → thing_behind scope last (part laid.ty) more ≡ part ty
    → Among scope (laid_behind scope.project (Some laid) more) ty laid.first (size_in scope.project laid.ty)
steps-lead scope keeps no_steps laid last ty names literal good means = lead (dated-same last laid.ty)
  where
    lead : (dated_type last laid.ty ≡ part laid.ty) ⊎ IsGone (dated_type last laid.ty)
        → Among scope (Some laid) ty laid.first (size_in scope.project laid.ty)
    lead (inl same) = (laid, refl, same-part laid.ty ty (sym same ∙ means), record { from = omega arith; to = omega arith })
    lead (inr gone) = absurd (gone-none (dated_type last laid.ty) ty gone means)
steps-lead scope keeps (steps (field name place) more) laid last ty names literal good means =
    by-dated scope keeps more laid place ty name (dated_type last laid.ty) names
    (λ l n g m. steps-lead scope keeps more l place ty n literal g m) (dated-same last laid.ty) good means
steps-lead scope keeps (steps (index e place) more) laid last ty names literal good means =
    let both = and_parts (is_index (dated_type last laid.ty) (sort_of scope e))
    (are_indexed scope last (thing_at scope (dated_type last laid.ty) (index e place)) more) good in
    by-index scope more laid last ty e place (dated_type last laid.ty) names
    (λ l n g m. steps-lead scope keeps more l last ty n literal.1 g m) (dated-same last laid.ty) (literal_of e) refl literal.0 both.0 both.1 means
