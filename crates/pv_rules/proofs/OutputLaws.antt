-- Which operands calls write: a name that comes to a function has no steps, so it is told apart from others by its root and its place.
use Rattle.std.proofs.Common.{◌≡◌, ℕ, refl, sym, ap, subst, ◌∙◌, inl, inr, List, [], ◌∷◌, Option, Some, None, Bool, true, false, ◌&&◌, ◌||◌, is_some, true≢false, IsTrue, arith}
use Rattle.std.specs.Prelude.{◌⊎◌, Any, not, nat_eq, bytes_eq, if◌then◌else◌}
use Rattle.std.specs.List.{list_any}
use Rattle.std.proofs.lemmas.Slice.Eq.{bytes_eq-Decides}
use Rattle.std.proofs.lemmas.Bool.Decides.{nat_tests}
use Rattle.std.proofs.lemmas.Option.{same_Some}
use Rattle.pv_word.specs.declared.types.Ty.{Ty}
use Rattle.pv_place.specs.declared.place.Place.{Place}
use Rattle.pv_types.specs.declared.name.Name.{Name}
use Rattle.pv_types.specs.Tree.{TypeTree, plain, array, structure, named, unread, VarTree}
use Rattle.pv_types.specs.View.{fields_of}
use Rattle.pv_tree.specs.declared.block.BlockKind.{BlockKind}
use Rattle.pv_tree.specs.declared.block.BlockKind.TheVariants.{Fb, Fc, Ob, Db, Udt}
use Rattle.pv_tree.specs.declared.expr.Root.{Root}
use Rattle.pv_tree.specs.declared.expr.Root.TheVariants.{Local, Named, Area}
use Rattle.pv_tree.specs.Tree.{ExprTree, lit, read, unary, binary, std, paren, OperandTree, operand, StepTree, field, index, StepTrees, no_steps, steps, ArgTree, BlockTree}
use Rattle.pv_tree.specs.Scopes.{Scope, first_var, type_named}
use Rattle.pv_tree.specs.Things.{Thing, part, constant, a_block, no_name, no_array, a_date, untold, first_place, is_date, is_address, type_of_bits, dated, thing_at, thing_behind, last_behind, root_place, thing_of_root, thing_of, field_where, field_within, field_of_type, field_of_kind, field_of_thing, no_array_where, element_of_thing}
use Rattle.pv_tree.specs.Callees.{Callee, How, CallSite, callee_of, param_of_arg}
use Rattle.pv_tree.specs.Parts.{calls_of, operand_of, path_of, thing_of_path}
use Rattle.pv_tree.specs.Rules.Callable.{is_void_thing, ReadsVoid, is_output_where, IsOutputArgument}
use Rattle.pv_tree.specs.Operands.{operands_in, operands_within}
use Rattle.pv_rules_expr.specs.Members.{HasSome, Has}
use Rattle.pv_rules_expr.specs.Nearest.{IsUpTo, IsNearest, nearer_of}
use Rattle.pv_rules_expr.specs.NearestIn.{nearest_in}
use Rattle.pv_rules_expr.specs.Places.{place_where}
use Rattle.pv_rules_expr.proofs.ForCallers.{any_has, has_any, nearest_same, nearest_where}
use Rattle.pv_rules_code.specs.AtCalls.{param_in}
use Rattle.pv_rules.specs.Outputs.{same_place, same_name, same_truth, same_root, same_plain, is_that, passes_out, hands_out, call_writes, is_written}
use Rattle.pv_rules.specs.Values.{unless, value_at}

-- ---- equal where the tests pass

both_on : (a b : Bool) → IsTrue (a && b) → IsTrue a × IsTrue b
both_on true b h = (refl, h)
both_on false b h = absurd (true≢false (sym h))

on_both : (a b : Bool) → IsTrue a → IsTrue b → IsTrue (a && b)
on_both true b h g = g
on_both false b h g = absurd (true≢false (sym h))

nat_same : (a b : ℕ) → IsTrue (nat_eq a b) → a ≡ b
nat_same a b h = grind (arith, nat_tests)

nat_self : (a : ℕ) → IsTrue (nat_eq a a)
nat_self a = grind (arith, nat_tests)

place_same : (a b : Place) → IsTrue (same_place a b) → a ≡ b
place_same a b h =
    let k = both_on (nat_eq a.file b.file) (nat_eq a.offset b.offset) h in
    ap (λ f. record { file = f; offset = a.offset }) (nat_same a.file b.file k.0)
    ∙ ap (λ o. record { file = b.file; offset = o }) (nat_same a.offset b.offset k.1)

place_self : (a : Place) → IsTrue (same_place a a)
place_self a = on_both (nat_eq a.file a.file) (nat_eq a.offset a.offset) (nat_self a.file) (nat_self a.offset)

truth_same : (a b : Bool) → IsTrue (same_truth a b) → a ≡ b
truth_same true true h = refl
truth_same true false h = absurd (true≢false (sym h))
truth_same false true h = absurd (true≢false (sym h))
truth_same false false h = refl

truth_self : (a : Bool) → IsTrue (same_truth a a)
truth_self true = refl
truth_self false = refl

name_same : (a b : Name) → IsTrue (same_name a b) → a ≡ b
name_same a b h =
    let k = both_on (bytes_eq a.key b.key && bytes_eq a.spelled b.spelled) (same_truth a.paired b.paired) h in
    let m = both_on (bytes_eq a.key b.key) (bytes_eq a.spelled b.spelled) k.0 in
    ap (λ y. record { key = y; spelled = a.spelled; paired = a.paired }) ((bytes_eq-Decides a.key b.key).0 m.0)
    ∙ ap (λ s. record { key = b.key; spelled = s; paired = a.paired }) ((bytes_eq-Decides a.spelled b.spelled).0 m.1)
    ∙ ap (λ t. record { key = b.key; spelled = b.spelled; paired = t }) (truth_same a.paired b.paired k.1)

name_self : (a : Name) → IsTrue (same_name a a)
name_self a =
    on_both (bytes_eq a.key a.key && bytes_eq a.spelled a.spelled) (same_truth a.paired a.paired)
    (on_both (bytes_eq a.key a.key) (bytes_eq a.spelled a.spelled) ((bytes_eq-Decides a.key a.key).1 refl) ((bytes_eq-Decides a.spelled a.spelled).1 refl))
    (truth_self a.paired)

root_same : (a b : Root) → IsTrue (same_root a b) → a ≡ b
root_same (Local a hash at) (Local b hashed place) h =
    let k = both_on (same_name a b && same_truth hash hashed) (same_place at place) h in
    let m = both_on (same_name a b) (same_truth hash hashed) k.0 in
    ap (λ n. Local n hash at) (name_same a b m.0) ∙ ap (λ t. Local b t at) (truth_same hash hashed m.1)
    ∙ ap (λ p. Local b hashed p) (place_same at place k.1)
root_same (Local a hash at) (Named b) h = absurd (true≢false (sym h))
root_same (Local a hash at) (Area area bits byte bit) h = absurd (true≢false (sym h))
root_same (Named a) (Named b) h = ap Named (name_same a b h)
root_same (Named a) (Local b hashed place) h = absurd (true≢false (sym h))
root_same (Named a) (Area area bits byte bit) h = absurd (true≢false (sym h))
root_same (Area area bits byte bit) other h = absurd (true≢false (sym h))

plain_same : (p o : OperandTree) → IsTrue (same_plain p o) → p ≡ o
plain_same (operand a no_steps at) (operand b no_steps place) h =
    let k = both_on (same_root a b) (same_place at place) h in
    ap (λ r. operand r no_steps at) (root_same a b k.0) ∙ ap (λ q. operand b no_steps q) (place_same at place k.1)
plain_same (operand a no_steps at) (operand b (steps s more) place) h = absurd (true≢false (sym h))
plain_same (operand a (steps s more) at) (operand b others place) h = absurd (true≢false (sym h))

-- ---- the name of a function has no steps

still : (n : Place) (t : Thing) → is_void_thing (dated n t) ≡ is_void_thing t
still n (part (plain ty)) = refl
still n (part (array low high of at)) =
    elim (is_date of) as (λ b. is_void_thing (if b then a_date n else part (array low high of at)) ≡ false) [ true ↦ refl | false ↦ refl ]
still n (part (structure vars)) = refl
still n (part (named m at)) = refl
still n (part unread) = refl
still n (constant ty) = refl
still n (a_block b) = refl
still n (no_name at) = refl
still n (no_array at) = refl
still n (a_date at) = refl
still n untold = refl

field_no : (o : Option VarTree) (place : Place) → is_void_thing (field_where o place) ≡ false
field_no None place = refl
field_no (Some v) place = refl

within_no : (o : Option BlockTree) (key : List ℕ) (place : Place) → is_void_thing (field_within o key place) ≡ false
within_no None key place = refl
within_no (Some b) key place = field_no _ place

type_no : (scope : Scope) (ty : TypeTree) (key : List ℕ) (place : Place) → is_void_thing (field_of_type scope ty key place) ≡ false
type_no scope (plain ty) key place = refl
type_no scope (array low high of at) key place = refl
type_no scope (structure vars) key place = field_no (first_var (fields_of vars) key) place
type_no scope (named name at) key place = within_no (type_named scope.project name.key) key place
type_no scope unread key place = refl

kind_no : (scope : Scope) (kind : BlockKind) (vars : List VarTree) (key : List ℕ) (place : Place)
    → is_void_thing (field_of_kind scope kind vars key place) ≡ false
kind_no scope Fb vars key place = refl
kind_no scope Fc vars key place = refl
kind_no scope Ob vars key place = refl
kind_no scope (Db None) vars key place = field_no (first_var vars key) place
kind_no scope (Db (Some of)) vars key place = within_no (type_named scope.project of.0.key) key place
kind_no scope Udt vars key place = refl

named_no : (scope : Scope) (t : Thing) (key : List ℕ) (place : Place) → is_void_thing (field_of_thing scope t key place) ≡ false
named_no scope (part ty) key place = type_no scope ty key place
named_no scope (constant ty) key place = refl
named_no scope (a_block b) key place = kind_no scope b.kind b.vars key place
named_no scope (no_name at) key place = refl
named_no scope (no_array at) key place = refl
named_no scope (a_date at) key place = refl
named_no scope untold key place = refl

where_no : (o : Option BlockTree) (place : Place) → is_void_thing (no_array_where o place) ≡ false
where_no None place = refl
where_no (Some b) place = refl

element_no : (scope : Scope) (t : Thing) (place : Place) → is_void_thing (element_of_thing scope t place) ≡ false
element_no scope (part (plain ty)) place = refl
element_no scope (part (array low high of at)) place = refl
element_no scope (part (structure vars)) place = refl
element_no scope (part (named name at)) place = where_no (type_named scope.project name.key) place
element_no scope (part unread) place = refl
element_no scope (constant ty) place = refl
element_no scope (a_block b) place = refl
element_no scope (no_name at) place = refl
element_no scope (no_array at) place = refl
element_no scope (a_date at) place = refl
element_no scope untold place = refl

step_no : (scope : Scope) (t : Thing) (s : StepTree) → is_void_thing (thing_at scope t s) ≡ false
step_no scope t (field name place) = named_no scope t name.key place
step_no scope t (index e place) = element_no scope t (first_place e)

behind_no : (scope : Scope) (last : Place) (t : Thing) (more : StepTrees) → is_void_thing t ≡ false → is_void_thing (thing_behind scope last t more) ≡ false
behind_no scope last t no_steps isnt = still last t ∙ isnt
behind_no scope last t (steps s more) isnt = behind_no scope (last_behind last s) (thing_at scope (dated last t) s) more (step_no scope (dated last t) s)

area_no : (b : Bool) (ty : Ty) → is_void_thing (if b then part (plain ty) else untold) ≡ false
area_no true ty = refl
area_no false ty = refl

-- so a name that means such a function is the same as itself
void_self : (scope : Scope) (o : OperandTree) → IsTrue (is_void_thing (thing_of_path scope (path_of scope o))) → IsTrue (same_plain o o)
void_self scope (operand (Local name hash at) no_steps place) is =
    on_both (same_root (Local name hash at) (Local name hash at)) (same_place place place)
    (on_both (same_name name name && same_truth hash hash) (same_place at at)
    (on_both (same_name name name) (same_truth hash hash) (name_self name) (truth_self hash)) (place_self at))
    (place_self place)
void_self scope (operand (Named name) no_steps place) is =
    on_both (same_root (Named name) (Named name)) (same_place place place) (name_self name) (place_self place)
void_self scope (operand (Area area bits byte bit) no_steps place) is =
    absurd (true≢false (sym is ∙ still place (if is_address bits byte bit then part (plain (type_of_bits bits)) else untold)
    ∙ area_no (is_address bits byte bit) (type_of_bits bits)))
void_self scope (operand root (steps s more) place) is =
    absurd (true≢false (sym is ∙ behind_no scope (last_behind (root_place root place) s)
    (thing_at scope (dated (root_place root place) (thing_of_root scope root place)) s) more
    (step_no scope (dated (root_place root place) (thing_of_root scope root place)) s)))

-- ---- some of a list

some_each : {X : Type 0} (P Q : X → Type 0) (xs : List X) → ((x : X) → P x → Q x) → HasSome P xs → HasSome Q xs
some_each P Q [] f h = h
some_each P Q (x ∷ xs) f (inl p) = inl (f x p)
some_each P Q (x ∷ xs) f (inr h) = inr (some_each P Q xs f h)

tested : {X : Type 0} (f : X → Bool) (xs : List X) → IsTrue (list_any f xs) → HasSome (λ x. IsTrue (f x)) xs
tested f [] h = true≢false (sym h)
tested f (x ∷ xs) h = lead (f x) refl h (tested f xs)
  where
    lead : (b : Bool) → f x ≡ b → IsTrue (b || list_any f xs) → (IsTrue (list_any f xs) → HasSome (λ x. IsTrue (f x)) xs)
        → IsTrue (f x) ⊎ HasSome (λ x. IsTrue (f x)) xs
    lead true on h rest = inl on
    lead false off h rest = inr (rest h)

test_of : {X : Type 0} (f : X → Bool) (xs : List X) → HasSome (λ x. IsTrue (f x)) xs → IsTrue (list_any f xs)
test_of f [] h = absurd h
test_of f (x ∷ xs) (inl on) = subst (λ b. IsTrue (b || list_any f xs)) (sym on) refl
test_of f (x ∷ xs) (inr h) = lead (f x) (test_of f xs h)
  where
    lead : (b : Bool) → IsTrue (list_any f xs) → IsTrue (b || list_any f xs)
    lead true rest = refl
    lead false rest = rest

-- ---- output arguments

abbrev Passes : Scope → OperandTree → CallSite → ArgTree → Type 0
Passes scope o s a = (operand_of a.value ≡ Some o) × IsTrue (is_output_where (param_of_arg scope s a))

that_is : (q : Option OperandTree) (o : OperandTree) → IsTrue (is_that q o) → q ≡ Some o
that_is None o h = absurd (true≢false (sym h))
that_is (Some p) o h = ap Some (plain_same p o h)

passes_is : (scope : Scope) (o : OperandTree) (s : CallSite) (a : ArgTree) → IsTrue (passes_out scope o s a) → Passes scope o s a
passes_is scope o s a h =
    let k = both_on (is_that (operand_of a.value) o) (is_output_where (param_of_arg scope s a)) h in (that_is (operand_of a.value) o k.0, k.1)

is_passes : (scope : Scope) (o : OperandTree) (s : CallSite) (a : ArgTree) → IsTrue (same_plain o o) → Passes scope o s a → IsTrue (passes_out scope o s a)
is_passes scope o s a self p =
    on_both (is_that (operand_of a.value) o) (is_output_where (param_of_arg scope s a)) (subst (λ q. IsTrue (is_that q o)) (sym p.0) self) p.1

written_is : (scope : Scope) (calls : List CallSite) → calls_of scope.block ≡ calls → (o : OperandTree) → IsTrue (is_written scope calls o)
    → IsOutputArgument scope o
written_is scope calls all o h =
    has_any (λ s. Any (Passes scope o s) s.call.args) (calls_of scope.block)
    (subst (HasSome (λ s. Any (Passes scope o s) s.call.args)) (sym all)
    (some_each (λ s. IsTrue (call_writes scope o s)) (λ s. Any (Passes scope o s) s.call.args) calls
    (λ s k. has_any (Passes scope o s) s.call.args
    (some_each (λ a. IsTrue (passes_out scope o s a)) (Passes scope o s) s.call.args (λ a p. passes_is scope o s a p)
    (tested (passes_out scope o s) s.call.args k)))
    (tested (call_writes scope o) calls h)))

is_written_by : (scope : Scope) (calls : List CallSite) → calls_of scope.block ≡ calls → (o : OperandTree) → IsTrue (same_plain o o)
    → IsOutputArgument scope o → IsTrue (is_written scope calls o)
is_written_by scope calls all o self h =
    test_of (call_writes scope o) calls
    (some_each (λ s. Any (Passes scope o s) s.call.args) (λ s. IsTrue (call_writes scope o s)) calls
    (λ s k. test_of (passes_out scope o s) s.call.args
    (some_each (Passes scope o s) (λ a. IsTrue (passes_out scope o s a)) s.call.args (λ a p. is_passes scope o s a self p)
    (any_has (Passes scope o s) s.call.args k)))
    (subst (HasSome (λ s. Any (Passes scope o s) s.call.args)) all
    (any_has (λ s. Any (Passes scope o s) s.call.args) (calls_of scope.block) h)))

-- ---- the nearest

off_not : (b : Bool) → IsTrue (not b) → IsTrue b → ⊥
off_not true h g = true≢false (sym h)
off_not false h g = true≢false (sym g)

not_off : (b : Bool) → (IsTrue b → ⊥) → IsTrue (not b)
not_off true f = absurd (f refl)
not_off false f = refl

where_value : (void out : Bool) (place : Place) → unless out (place_where void place) ≡ place_where (void && not out) place
where_value true true place = refl
where_value true false place = refl
where_value false true place = refl
where_value false false place = refl

-- an operand reads the value of a function that has none, and no call writes it
abbrev pub ReadsValue : Scope → OperandTree → Place → Type 0
ReadsValue scope o at = ReadsVoid scope at o × (IsOutputArgument scope o → ⊥)

pub value_nearest : (scope : Scope) (calls : List CallSite) → calls_of scope.block ≡ calls → (o : OperandTree)
    → IsNearest (ReadsValue scope o) (value_at scope calls o)
value_nearest scope calls all (operand root more place) =
    subst (IsNearest (ReadsValue scope (operand root more place))) (sym (where_value void out (root_place root place)))
    (nearest_same (λ at. (root_place root place ≡ at) × IsTrue (void && not out)) (ReadsValue scope (operand root more place))
    (place_where (void && not out) (root_place root place))
    (λ at h. let k = both_on void (not out) h.1 in
    ((h.0, k.0), (λ is. off_not out k.1 (is_written_by scope calls all (operand root more place) (void_self scope (operand root more place) k.0) is))))
    (λ at h. (h.0.0, on_both void (not out) h.0.1 (not_off out (λ is. h.1 (written_is scope calls all (operand root more place) is)))))
    (nearest_where (void && not out) (root_place root place)))
  where
    void : Bool
    void = is_void_thing (thing_of scope (operand root more place))

    out : Bool
    out = is_written scope calls (operand root more place)

-- ---- the nearest with an operand, and with one that an argument hands out

-- one that isn't nearer changes nothing, nor does none
pub not_nearer : (n : Option Place) (at : Place) (out : Bool) → IsUpTo n at → nearer_of n (unless out (Some at)) ≡ n
not_nearer None at out h = absurd h
not_nearer (Some a) at true h = refl
not_nearer (Some a) at false h = ap (λ b. if b then Some a else Some at) h

nearer_none : (n : Option Place) → nearer_of n None ≡ n
nearer_none None = refl
nearer_none (Some a) = refl

unless_none : (out : Bool) → unless out None ≡ None
unless_none true = refl
unless_none false = refl

pub not_void : (n : Option Place) (out : Bool) → n ≡ nearer_of n (unless out None)
not_void n out = sym (ap (nearer_of n) (unless_none out) ∙ nearer_none n)

-- an operand that an argument hands out reads no value
handed_none : (scope : Scope) (calls : List CallSite) (callee : Callee) (how : How) (a : ArgTree)
    → ((o : OperandTree) → IsTrue (hands_out callee how a o) → IsTrue (is_written scope calls o)) → (o : OperandTree) → operand_of a.value ≡ Some o
    → IsTrue (is_output_where (param_in callee how a)) → value_at scope calls o ≡ None
handed_none scope calls callee how a written (operand root more place) is output =
    lead (is_void_thing (thing_of scope o)) (is_written scope calls o)
    (λ void. written o (on_both (is_that (operand_of a.value) o) (is_output_where (param_in callee how a))
    (subst (λ q. IsTrue (is_that q o)) (sym is) (void_self scope o void)) output))
  where
    o : OperandTree
    o = operand root more place

    lead : (void out : Bool) → (IsTrue void → IsTrue out) → unless out (place_where void (root_place root place)) ≡ None
    lead true out f = ap (λ b. unless b (Some (root_place root place))) (f refl)
    lead false out f = unless_none out

reads_one : (e : ExprTree) (o : OperandTree) → operand_of e ≡ Some o → operands_in e ≡ o ∷ operands_within o
reads_one (read p) o is = ap (λ q. q ∷ operands_within q) (same_Some p o is)
reads_one (lit ty value place) o is = absurd (true≢false (sym (ap is_some is)))
reads_one (unary op place arg) o is = absurd (true≢false (sym (ap is_some is)))
reads_one (binary op place left right) o is = absurd (true≢false (sym (ap is_some is)))
reads_one (std function place args) o is = absurd (true≢false (sym (ap is_some is)))
reads_one (paren place inner) o is = absurd (true≢false (sym (ap is_some is)))

-- so only those of its indexes are looked at
pub handed : (scope : Scope) (calls : List CallSite) (callee : Callee) (how : How) (a : ArgTree)
    → ((o : OperandTree) → IsTrue (hands_out callee how a o) → IsTrue (is_written scope calls o)) → (o : OperandTree) → operand_of a.value ≡ Some o
    → IsTrue (is_output_where (param_in callee how a)) → (n new : Option Place) → new ≡ nearest_in (value_at scope calls) (operands_within o) n
    → new ≡ nearest_in (value_at scope calls) (operands_in a.value) n
handed scope calls callee how a written o is output n new looked =
    looked
    ∙ ap (nearest_in (value_at scope calls) (operands_within o))
    (sym (ap (nearer_of n) (handed_none scope calls callee how a written o is output) ∙ nearer_none n))
    ∙ ap (λ l. nearest_in (value_at scope calls) l n) (sym (reads_one a.value o is))

-- what an argument of one of the calls hands out is written
pub hands_written : (scope : Scope) (calls : List CallSite) (s : CallSite) (callee : Callee) (a : ArgTree) → Has calls s → callee ≡ callee_of scope s
    → Has s.call.args a → (o : OperandTree) → IsTrue (hands_out callee s.how a o) → IsTrue (is_written scope calls o)
hands_written scope calls s callee a in_calls comes in_args o h =
    test_of (call_writes scope o) calls
    (some_each (λ c. c ≡ s) (λ c. IsTrue (call_writes scope o c)) calls
    (λ c e. subst (λ c. IsTrue (call_writes scope o c)) (sym e)
    (test_of (passes_out scope o s) s.call.args
    (some_each (λ b. b ≡ a) (λ b. IsTrue (passes_out scope o s b)) s.call.args
    (λ b f. subst (λ b. IsTrue (passes_out scope o s b)) (sym f) (subst (λ k. IsTrue (hands_out k s.how a o)) comes h)) in_args))) in_calls)
