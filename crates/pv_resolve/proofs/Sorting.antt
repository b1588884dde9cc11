-- What expressions and operands are to the operators around them, form by form.
use Rattle.std.proofs.Common.{◌≡◌, ℕ, ◌+◌, ◌<◌, ◌≤◌, List, [], ◌∷◌, ◌++◌, Bool, true, false, ◌&&◌, if◌then◌else◌, length, map, take, drop, get_or, Some, None, refl, sym, ap, subst, ◌∙◌}
use Rattle.std.specs.Prelude.{option_and_then, unwrap_or}
use Rattle.std.proofs.lemmas.List.{take_all, drop_all, map-append}
use Rattle.std.proofs.lemmas.Option.{none-some}
use Rattle.pv_word.specs.declared.types.Ty.TheVariants.{Dint}
use Rattle.pv_place.specs.declared.place.Place.{Place}
use Rattle.pv_tree.specs.declared.expr.BinaryOp.{BinaryOp}
use Rattle.pv_tree.specs.declared.expr.StdFunction.{StdFunction}
use Rattle.pv_tree.specs.declared.expr.Expr.{Expr}
use Rattle.pv_tree.specs.declared.expr.Step.{Step}
use Rattle.pv_tree.specs.declared.expr.Operand.{Operand}
use Rattle.pv_tree.specs.Tree.{ExprTree, read, binary, std, paren, OperandTree, StepTree, field, index}
use Rattle.pv_tree.specs.Sorts as sorts
use Rattle.pv_tree.specs.Scopes.{Scope}
use Rattle.pv_tree.specs.Things.{Thing, thing_at, last_behind, dated, thing_of_root, root_place}
use Rattle.pv_tree.specs.Types.{Written, literal_of, sort_of, sort_of_operand, sort_of_thing, sort_of_written, is_index, is_indexed}
use Rattle.pv_tree.specs.View.{expr_tree, exprs_of, operand_tree, step_tree, steps_of}
use Rattle.pv_tree.proofs.ForCallers.{operand_seen}
use Rattle.pv_names.specs.declared.sort.Sort.{Sort}
use Rattle.pv_names.specs.InScope.{scope_of}
use Rattle.pv_names.specs.Literals.{written_of}
use Rattle.pv_names.specs.Sorts.{sort_tree}
use Rattle.pv_names.proofs.ForCallers.{IsOn, on_start, on_step, on_end, literal_told, rest_step, sorts_mapped}
use Rattle.pv_mean.specs.Sources.{Source}
use Rattle.pv_mean.specs.Values.{result_type}
use Rattle.pv_resolve.specs.declared.context.Context.{Context}
use Rattle.pv_resolve.specs.Contexts.{IsContext, block_in}
use Rattle.pv_resolve.proofs.Loops.{mapped_more}

-- the type of a value by its sort
pub typed_by : (c : Context) (source : Source) (e : ExprTree) (s : sorts.Sort) → IsContext c source → s ≡ sort_of (scope_of c.scope) e
    → unwrap_or (sorts.own_type s) Dint ≡ result_type (record { project = source.project; block = block_in c }) e
typed_by c source e s is same =
    ap (λ x. unwrap_or (sorts.own_type x) Dint) same
    ∙ ap (λ p. unwrap_or (sorts.own_type (sort_of (record { project = p; block = block_in c }) e)) Dint) is.project

-- ---- expressions

written_back : (s : sorts.Sort) (w : Written) → written_of s ≡ Some w → sort_of_written w.ty w.value ≡ s
written_back (sorts.untyped v) w is =
    let same : (record { ty = None; value = v }) ≡ w = cc in ap (λ (x : Written). sort_of_written x.ty x.value) (sym same)
written_back (sorts.typed ty v) w is =
    let same : (record { ty = Some ty; value = v }) ≡ w = cc in ap (λ (x : Written). sort_of_written x.ty x.value) (sym same)
written_back (sorts.one ty) w is = absurd (none-some w is)
written_back sorts.whole w is = absurd (none-some w is)
written_back sorts.broken w is = absurd (none-some w is)

pub literal_sort : (scope : Scope) (e : ExprTree) (w : Written) → Some w ≡ literal_of e → sort_of_written w.ty w.value ≡ sort_of scope e
literal_sort scope e w is = written_back (sort_of scope e) w (sym (is ∙ literal_told scope e))

pub read_sort : (scope : Scope) (e : ExprTree) (o : OperandTree) (s : sorts.Sort) → e ≡ read o → s ≡ sort_of_operand scope o → s ≡ sort_of scope e
read_sort scope e o s is same = same ∙ ap (sort_of scope) (sym is)

pub binary_sort : (scope : Scope) (e : ExprTree) (op : BinaryOp) (place : Place) (l r : ExprTree) (a b : sorts.Sort) → e ≡ binary op place l r
    → a ≡ sort_of scope l → b ≡ sort_of scope r
    → sorts.one_of (option_and_then (sorts.result_of_binary op) (sorts.common_type (sorts.beside (a ∷ b ∷ [])))) ≡ sort_of scope e
binary_sort scope e op place l r a b is left right =
    ap (λ x. sorts.one_of (option_and_then (sorts.result_of_binary op) (sorts.common_type (sorts.beside (x ∷ b ∷ []))))) left
    ∙ ap (λ y. sorts.one_of (option_and_then (sorts.result_of_binary op) (sorts.common_type (sorts.beside (sort_of scope l ∷ y ∷ []))))) right
    ∙ ap (sort_of scope) (sym is)

pub paren_sort : (scope : Scope) (e : ExprTree) (place : Place) (inner : ExprTree) (s : sorts.Sort) → e ≡ paren place inner
    → s ≡ sort_of scope inner → s ≡ sort_of scope e
paren_sort scope e place inner s is same = same ∙ ap (sort_of scope) (sym is)

-- the sorts of arguments so far
pub sorts_next : (scope : Scope) (before after : List Sort) (s : Sort) (items : List Expr) (i : ℕ) (x : Expr) → i < length items
    → x ≡ get_or items i x → after ≡ before ++ s ∷ [] → sort_tree s ≡ sort_of scope (expr_tree x)
    → map sort_tree before ≡ map (λ e. sort_of scope (expr_tree e)) (take i items)
    → map sort_tree after ≡ map (λ e. sort_of scope (expr_tree e)) (take (i + 1) items)
sorts_next scope before after s items i x inside is grown same h =
    ap (map sort_tree) grown ∙ map-append sort_tree before (s ∷ []) ∙ ap (λ l. l ++ sort_tree s ∷ []) h
    ∙ ap (λ y. map (λ e. sort_of scope (expr_tree e)) (take i items) ++ y ∷ []) same
    ∙ sym (mapped_more (λ e. sort_of scope (expr_tree e)) items i x inside is)

pub function_sort : (scope : Scope) (e : ExprTree) (function : StdFunction) (place : Place) (items : List Expr) (i : ℕ) (ss : List sorts.Sort)
    → e ≡ std function place (exprs_of (map expr_tree items)) → length items ≤ i
    → ss ≡ map (λ e. sort_of scope (expr_tree e)) (take i items)
    → sorts.one_of (sorts.result_of_function function (sorts.arguments_of function ss)) ≡ sort_of scope e
function_sort scope e function place items i ss is past h =
    ap (λ l. sorts.one_of (sorts.result_of_function function (sorts.arguments_of function l)))
    (h ∙ ap (map (λ e. sort_of scope (expr_tree e))) (take_all i items past) ∙ sorts_mapped scope items)
    ∙ ap (sort_of scope) (sym is)

-- ---- operands

and_true : (b : Bool) → b ≡ (b && true)
and_true true = refl
and_true false = refl

pub field_indexed : (scope : Scope) (thing : Thing) (indexed : Bool) (s : StepTree) (name : _) (place : Place) → s ≡ field name place
    → indexed ≡ (indexed && is_indexed scope thing s)
field_indexed scope thing indexed s name place is = and_true indexed ∙ ap (λ x. indexed && is_indexed scope thing x) (sym is)

pub index_indexed : (scope : Scope) (thing : Thing) (indexed : Bool) (s : StepTree) (e : ExprTree) (place : Place) (sort : sorts.Sort)
    → s ≡ index e place → sort ≡ sort_of scope e → (indexed && is_index thing sort) ≡ (indexed && is_indexed scope thing s)
index_indexed scope thing indexed s e place sort is same =
    ap (λ x. indexed && is_index thing x) same ∙ ap (λ x. indexed && is_indexed scope thing x) (sym is)

-- what the steps so far mean
pub told_none : (scope : Scope) (o : Operand) (last : Place) (thing : Thing) (items : List Step) → items ≡ o.steps.items
    → last ≡ root_place o.root.value o.place → thing ≡ thing_of_root scope o.root.value o.place
    → IsOn scope (operand_tree o) last thing true (steps_of (map step_tree items))
told_none scope o last thing items same last_is thing_is =
    subst (λ l. IsOn scope (operand_tree o) last thing true (steps_of (map step_tree l))) (sym same)
    (subst (λ k. IsOn scope (operand_tree o) k thing true (steps_of (map step_tree o.steps.items))) (sym last_is)
    (subst (λ t. IsOn scope (operand_tree o) (root_place o.root.value o.place) t true (steps_of (map step_tree o.steps.items))) (sym thing_is)
    (on_start scope (operand_tree o) o.root.value (steps_of (map step_tree o.steps.items)) o.place (operand_seen o))))

pub told_next : (scope : Scope) (o : OperandTree) (last next_last : Place) (thing at next : Thing) (indexed next_indexed : Bool) (items : List Step)
    (i : ℕ) (x : Step) → i < length items → x ≡ get_or items i x → at ≡ dated last thing → next ≡ thing_at scope at (step_tree x)
    → next_last ≡ last_behind last (step_tree x) → next_indexed ≡ (indexed && is_indexed scope at (step_tree x))
    → IsOn scope o last thing indexed (steps_of (map step_tree (drop i items)))
    → IsOn scope o next_last next next_indexed (steps_of (map step_tree (drop (i + 1) items)))
told_next scope o last next_last thing at next indexed next_indexed items i x inside is at_is next_is last_is indexed_is h =
    let s = step_tree x in
    let rest = steps_of (map step_tree (drop (i + 1) items)) in
    subst (λ k. IsOn scope o k next next_indexed rest) (sym last_is)
    (subst (λ t. IsOn scope o (last_behind last s) t next_indexed rest) (sym (next_is ∙ ap (λ t. thing_at scope t s) at_is))
    (subst (λ b. IsOn scope o (last_behind last s) (thing_at scope (dated last thing) s) b rest)
    (sym (indexed_is ∙ ap (λ t. indexed && is_indexed scope t s) at_is))
    (on_step scope o last thing indexed (steps_of (map step_tree (drop i items))) s rest (rest_step items i (i + 1) x inside is refl) h)))

pub told_all : (scope : Scope) (o : OperandTree) (last : Place) (thing at : Thing) (indexed : Bool) (items : List Step) (i : ℕ) (s : sorts.Sort)
    → length items ≤ i → IsOn scope o last thing indexed (steps_of (map step_tree (drop i items))) → at ≡ dated last thing
    → s ≡ (if indexed then sort_of_thing scope at else sorts.broken) → s ≡ sort_of_operand scope o
told_all scope o last thing at indexed items i s past h at_is sort_is =
    sort_is ∙ ap (λ t. if indexed then sort_of_thing scope t else sorts.broken) at_is
    ∙ on_end scope o last thing indexed (steps_of (map step_tree (drop i items))) (ap (λ l. steps_of (map step_tree l)) (drop_all i items past)) h
