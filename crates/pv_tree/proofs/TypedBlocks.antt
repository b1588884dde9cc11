-- In a project that keeps the rules each expression has a type by what is wanted of it: none is broken, by the walk up; none that a
-- statement, an argument or an instruction asks is whole, by the rule on what asks it; and so are their parts, by the walk down.
use Rattle.std.proofs.Common.{◌≡◌, List, [], ◌∷◌, ◌++◌, Bool, true, false, ◌||◌, inl, inr, refl, sym, subst}
use Rattle.std.proofs.lemmas.Bool.{true≢false}
use Rattle.std.specs.List.{AllByRecursion, flat_map}
use Rattle.std.specs.Prelude.{IsTrue, IsFalse, Option, Some, None, option_to_list, if◌then◌else◌}
use Rattle.pv_place.specs.declared.place.Place.{Place}
use Rattle.pv_types.specs.declared.declaration.Section.{Section}
use Rattle.pv_types.specs.declared.declaration.Section.TheVariants.{Input, Output, InOut, Static, Temp, Const}
use Rattle.pv_types.specs.Tree.{TypeTree}
use Rattle.pv_tree.specs.Tree.{ExprTree, lit, read, unary, binary, std, paren, OperandTree, operand, ArgTree, StmtTree, assign, assign_call, if_, case_, for_, while_, repeat_, exit_, continue_, return_, call_, empty_}
use Rattle.pv_tree.specs.LiteralTypes.{Want, nothing, this, unsure}
use Rattle.pv_tree.specs.Sorts.{Sort, untyped, typed, one, whole, broken, is_whole, taken}
use Rattle.pv_tree.specs.Scopes.{Scope}
use Rattle.pv_tree.specs.Things.{Thing, part, constant, a_block, no_name, no_array, a_date, untold, thing_of, thing_of_root, root_place, first_place}
use Rattle.pv_tree.specs.Types.{sort_of, sort_of_operand, sort_of_thing, sort_of_type, are_indexed}
use Rattle.pv_tree.specs.Callees.{CallSite, Param, param_of_arg, want_of_param, want_of_type, want_of_arg}
use Rattle.pv_tree.specs.Parts.{Part, parts_of, parts_of_operand, parts_of_call, parts_of_stmt, path_of, path_of_start, start_thing, indexes_of, conditions_of, calls_of_stmt, target_of, operand_of, want_of_target, want_of_counter}
use Rattle.pv_tree.specs.Fits.{doesnt_fit, sort_of_taken, sort_of_target}
use Rattle.pv_tree.specs.Rules.Misfits.{MisfitsStmt, MisfitsCounter, MisfitsParam, doesnt_pass, sort_of_argument}
use Rattle.pv_tree.specs.Rules.Conditions.{conditions_of_stmt, IsNoCondition}
use Rattle.pv_tree.specs.Rules.Cases.{ChoosesWrong}
use Rattle.pv_tree.specs.Rules.Targets.{is_fixed, goes_out, goes_out_where, isnt_assignable}
use Rattle.pv_tree.specs.RuleLaws.{HasType}
use Rattle.pv_tree.proofs.NoneBroken.{IndexKeeps, PartKeeps, all-front, all-behind, own_taken}
use Rattle.pv_tree.proofs.Upwards.{ScopeTold, up, steps_up}
use Rattle.pv_tree.proofs.PartTypes.{all-append, parts_have_types, steps_have}

-- ---- truth values

isnt : (b : Bool) → (IsTrue b → ⊥) → IsFalse b
isnt true f = absurd (f refl)
isnt false f = refl

left : (a b : Bool) → (IsTrue (a || b) → ⊥) → IsFalse a
left true b f = absurd (f refl)
left false b f = refl

first : (a b c : Bool) → (IsTrue (a || b || c) → ⊥) → IsFalse a
first true b c f = absurd (f refl)
first false b c f = refl

middle : (a b c : Bool) → (IsTrue (a || b || c) → ⊥) → IsFalse b
middle true true c f = absurd (f refl)
middle true false c f = refl
middle false true c f = absurd (f refl)
middle false false c f = refl

-- ---- parts of lists

abbrev pub Passes : Scope → List Part → Type 0
Passes scope ps = AllByRecursion (PartKeeps scope) ps → AllByRecursion (HasType scope) ps

pub flat : {X : Type 0} (scope : Scope) (f : X → List Part) (xs : List X) → AllByRecursion (λ x. Passes scope (f x)) xs → Passes scope
    (flat_map f xs)
flat scope f [] ps k = tt
flat scope f (x ∷ xs) ps k =
    all-append (HasType scope) (f x) (flat_map f xs) (ps.0 (all-front (PartKeeps scope) (f x) (flat_map f xs) k)) (flat scope f xs ps.1
    (all-behind (PartKeeps scope) (f x) (flat_map f xs) k))

pub joined : (scope : Scope) (xs ys : List Part) → Passes scope xs → Passes scope ys → Passes scope (xs ++ ys)
joined scope xs ys p q k =
    all-append (HasType scope) xs ys (p (all-front (PartKeeps scope) xs ys k)) (q (all-behind (PartKeeps scope) xs ys k))

-- ---- what isn't whole

pub taken_not : (want : Want) (x : Sort) → IsFalse (is_whole x) → IsFalse (is_whole (taken want x))
taken_not want (untyped v) p = refl
taken_not want (typed ty v) p = refl
taken_not want (one ty) p = refl
taken_not want whole p = p
taken_not want broken p = refl

root : (scope : Scope) (told : ScopeTold scope) (want : Want) (e : ExprTree) → IsFalse (is_whole (taken want (sort_of scope e)))
    → Passes scope (parts_of scope want e)
root scope told want e w k = parts_have_types scope want e (own_taken want (sort_of scope e) (up scope told want e k) w)

pub target_passes : (scope : Scope) (told : ScopeTold scope) (o : OperandTree) → AllByRecursion (IndexKeeps scope) (indexes_of scope
    (path_of scope o)) → Passes scope (parts_of_operand scope o)
target_passes scope told (operand begin more place) i k =
    steps_have scope (root_place begin place) (thing_of_root scope begin place) more (steps_up scope told (root_place begin place)
    (thing_of_root scope begin place) more i k)

pub start_passes : (scope : Scope) (told : ScopeTold scope) (o : OperandTree) → AllByRecursion (IndexKeeps scope) (indexes_of scope
    (path_of_start scope o)) → Passes scope (parts_of_operand scope o)
start_passes scope told (operand begin more place) i k =
    steps_have scope (root_place begin place) (start_thing scope begin) more (steps_up scope told (root_place begin place)
    (start_thing scope begin) more i k)

-- ---- arguments

neither_whole : (b : Bool) → IsFalse (is_whole (if b then broken else broken))
neither_whole true = refl
neither_whole false = refl

by_thing : (scope : Scope) (o : OperandTree) (t : Thing) (b : Bool) (s : Sort) → s ≡ (if b then sort_of_thing scope t else broken)
    → s ≡ sort_of_operand scope o
    → (IsTrue (is_whole (sort_of_taken scope o t)) → ⊥) → (IsTrue (is_fixed t) → ⊥) → IsFalse (is_whole s)
by_thing scope o (part ty) b s e own f g = isnt (is_whole s) (λ w. f (subst (λ z. IsTrue (is_whole z)) own w))
by_thing scope o (constant ty) b s e own f g = absurd (g refl)
by_thing scope o (a_block x) b s e own f g = absurd (g refl)
by_thing scope o (no_name at) b s e own f g = subst (λ z. IsFalse (is_whole z)) (sym e) (neither_whole b)
by_thing scope o (no_array at) b s e own f g = subst (λ z. IsFalse (is_whole z)) (sym e) (neither_whole b)
by_thing scope o (a_date at) b s e own f g = subst (λ z. IsFalse (is_whole z)) (sym e) (neither_whole b)
by_thing scope o untold b s e own f g = subst (λ z. IsFalse (is_whole z)) (sym e) (neither_whole b)

out_not : (scope : Scope) (e : ExprTree) → (IsTrue (is_whole (sort_of_argument scope e (operand_of e))) → ⊥) → (IsTrue
    (isnt_assignable scope (operand_of e)) → ⊥) → IsFalse (is_whole (sort_of scope e))
out_not scope (lit ty value place) f g = absurd (g refl)
out_not scope (read (operand begin more place)) f g =
    by_thing scope (operand begin more place) (thing_of scope (operand begin more place)) (are_indexed scope (root_place begin place)
    (thing_of_root scope begin place) more)
    (sort_of_operand scope (operand begin more place)) refl refl f g
out_not scope (unary op place arg) f g = absurd (g refl)
out_not scope (binary op place l r) f g = absurd (g refl)
out_not scope (std function place args) f g = absurd (g refl)
out_not scope (paren place inner) f g = absurd (g refl)

back : (b : Bool) → IsFalse b → IsTrue b → ⊥
back true p q = true≢false p
back false p q = true≢false (sym q)

section_not : (scope : Scope) (section : Section) (ty : TypeTree) (e : ExprTree) → (IsTrue (doesnt_pass scope section ty e) → ⊥)
    → (IsTrue (goes_out section) → IsTrue (isnt_assignable scope (operand_of e)) → ⊥) → IsFalse (is_whole (taken (want_of_type ty)
    (sort_of scope e)))
section_not scope Input ty e f g = middle (is_whole (sort_of_type scope ty)) (is_whole (taken (want_of_type ty) (sort_of scope e))) _ f
section_not scope Output ty e f g =
    taken_not (want_of_type ty) (sort_of scope e) (out_not scope e (back _ (first (is_whole (sort_of_argument scope e (operand_of e)))
    (is_whole (sort_of_type scope ty)) _ f)) (g refl))
section_not scope InOut ty e f g =
    taken_not (want_of_type ty) (sort_of scope e)
    (out_not scope e (back _ (first (is_whole (sort_of_argument scope e (operand_of e))) (is_whole (sort_of_type scope ty)) _
    (back _ (left (doesnt_fit (sort_of_argument scope e (operand_of e)) (sort_of_type scope ty)) _ f)))) (g refl))
section_not scope Static ty e f g = taken_not (want_of_type ty) (sort_of scope e) (isnt (is_whole (sort_of scope e)) f)
section_not scope Temp ty e f g = taken_not (want_of_type ty) (sort_of scope e) (isnt (is_whole (sort_of scope e)) f)
section_not scope Const ty e f g = taken_not (want_of_type ty) (sort_of scope e) (isnt (is_whole (sort_of scope e)) f)

arg_not : (scope : Scope) (o : Option Param) (e : ExprTree) → (MisfitsParam scope e o → ⊥)
    → (IsTrue (goes_out_where o) → IsTrue (isnt_assignable scope (operand_of e)) → ⊥) → IsFalse (is_whole (taken (want_of_param o)
    (sort_of scope e)))
arg_not scope None e f g = taken_not unsure (sort_of scope e) (isnt (is_whole (sort_of scope e)) f)
arg_not scope (Some p) e f g = section_not scope p.section p.ty e f g

pub record ArgKeeps (scope : Scope) (c : CallSite) (a : ArgTree) : Type 0 where
  pub fits : MisfitsParam scope a.value (param_of_arg scope c a) → ⊥
  pub given : IsTrue (goes_out_where (param_of_arg scope c a)) → IsTrue (isnt_assignable scope (operand_of a.value)) → ⊥

arg_passes : (scope : Scope) (told : ScopeTold scope) (c : CallSite) (a : ArgTree) → ArgKeeps scope c a → Passes scope (parts_of scope
    (want_of_arg scope c a) a.value)
arg_passes scope told c a k =
    root scope told (want_of_arg scope c a) a.value (arg_not scope (param_of_arg scope c a) a.value k.fits k.given)

abbrev pub CallKeeps : Scope → CallSite → Type 0
CallKeeps scope c = AllByRecursion (ArgKeeps scope c) c.call.args

pub weaker : {X : Type 0} (P Q : X → Type 0) (xs : List X) → ((x : X) → P x → Q x) → AllByRecursion P xs → AllByRecursion Q xs
weaker P Q [] f a = tt
weaker P Q (x ∷ xs) f a = (f x a.0, weaker P Q xs f a.1)

pub call_passes : (scope : Scope) (told : ScopeTold scope) (c : CallSite) → CallKeeps scope c → Passes scope (parts_of_call scope c)
call_passes scope told c k =
    flat scope (λ a. parts_of scope (want_of_arg scope c a) a.value) c.call.args
    (weaker (ArgKeeps scope c) (λ a. Passes scope (parts_of scope (want_of_arg scope c a) a.value)) c.call.args (arg_passes scope told c) k)

-- ---- statements

abbrev pub TargetKeeps : Scope → OperandTree → Type 0
TargetKeeps scope o = AllByRecursion (IndexKeeps scope) (indexes_of scope (path_of scope o))

abbrev pub ConditionKeeps : Scope → ExprTree → Type 0
ConditionKeeps scope e = (at : Place) → IsNoCondition scope at e → ⊥

pub record StmtKeeps (scope : Scope) (s : StmtTree) : Type 0 where
  pub fits : (at : Place) → MisfitsStmt scope at s → ⊥
  pub conditions : AllByRecursion (ConditionKeeps scope) (conditions_of_stmt s)
  pub selects : (at : Place) → ChoosesWrong scope at s → ⊥
  pub calls : AllByRecursion (CallKeeps scope) (calls_of_stmt s)
  pub targets : AllByRecursion (TargetKeeps scope) (option_to_list (target_of s))

condition_passes : (scope : Scope) (told : ScopeTold scope) (e : ExprTree) → ConditionKeeps scope e → Passes scope
    (parts_of scope nothing e)
condition_passes scope told e k =
    root scope told nothing e (left (is_whole (taken nothing (sort_of scope e))) _ (λ m. k (first_place e) (refl, m)))

counter_not : (scope : Scope) (want : Want) (e : ExprTree) → ((at : Place) → MisfitsCounter scope at want e → ⊥) → IsFalse (is_whole
    (taken want (sort_of scope e)))
counter_not scope nothing e f = taken_not nothing (sort_of scope e) (isnt (is_whole (sort_of scope e)) (λ m. f (first_place e) (refl, m)))
counter_not scope (this ty) e f = middle false (is_whole (taken (this ty) (sort_of scope e))) _ (λ m. f (first_place e) (refl, m))
counter_not scope unsure e f = taken_not unsure (sort_of scope e) (isnt (is_whole (sort_of scope e)) (λ m. f (first_place e) (refl, m)))

pub stmt_passes : (scope : Scope) (told : ScopeTold scope) (s : StmtTree) → StmtKeeps scope s → Passes scope (parts_of_stmt scope s)
stmt_passes scope told (assign target place value) k =
    joined scope (parts_of_operand scope target) (parts_of scope (want_of_target scope target) value)
    (target_passes scope told target k.targets.0)
    (root scope told (want_of_target scope target) value
    (middle (is_whole (sort_of_target scope target)) (is_whole (taken (want_of_target scope target) (sort_of scope value))) _
    (λ m. k.fits place (refl, m))))
stmt_passes scope told (assign_call target place call) k =
    joined scope (parts_of_operand scope target) _ (target_passes scope told target k.targets.0) (call_passes scope told _ k.calls.0)
stmt_passes scope told (if_ conditions other place) k =
    flat scope (parts_of scope nothing) (conditions_of conditions)
    (weaker (ConditionKeeps scope) (λ e. Passes scope (parts_of scope nothing e)) (conditions_of conditions)
    (condition_passes scope told) k.conditions)
stmt_passes scope told (case_ selector choices other place) k =
    root scope told nothing selector (left (is_whole (taken nothing (sort_of scope selector))) _ (λ m. k.selects (first_place selector) (inl
    (refl, m))))
stmt_passes scope told (for_ name name_place begin last by body place) k =
    joined scope (parts_of scope (want_of_counter scope name name_place) begin) (parts_of scope
    (want_of_counter scope name name_place) last)
    (root scope told (want_of_counter scope name name_place) begin (counter_not scope (want_of_counter scope name name_place) begin
    (λ at m. k.fits at (inl m))))
    (root scope told (want_of_counter scope name name_place) last (counter_not scope (want_of_counter scope name name_place) last
    (λ at m. k.fits at (inr m))))
stmt_passes scope told (while_ condition body place) k = condition_passes scope told condition k.conditions.0
stmt_passes scope told (repeat_ body condition place) k = condition_passes scope told condition k.conditions.0
stmt_passes scope told (exit_ place) k = λ p. tt
stmt_passes scope told (continue_ place) k = λ p. tt
stmt_passes scope told (return_ place) k = λ p. tt
stmt_passes scope told (call_ call) k = call_passes scope told _ k.calls.0
stmt_passes scope told (empty_ place) k = λ p. tt
