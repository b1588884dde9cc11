-- Where no part of an expression breaks a rule, the expression isn't broken: so whatever lacks a type breaks a rule that has a place.
-- The walk goes from the leaves up; an operator whose operands aren't broken and that fits them has a result.
use Rattle.std.proofs.Common.{◌≡◌, List, [], ◌∷◌, ◌++◌, Bool, true, false, not, ◌&&◌, ◌||◌, refl, sym, ap, subst}
use Rattle.std.proofs.lemmas.Bool.{true≢false}
use Rattle.std.specs.List.{AllByRecursion, list_any}
use Rattle.std.specs.Prelude.{ℤ, IsTrue, IsFalse, is_some, option_and_then, Option, Some, None, if◌then◌else◌}
use Rattle.pv_word.specs.declared.types.Ty.{Ty}
use Rattle.pv_word.specs.declared.types.Ty.TheVariants as t
use Rattle.pv_place.specs.declared.place.Place.{Place}
use Rattle.pv_types.specs.Tree.{plain, array, structure, named, unread}
use Rattle.pv_tree.specs.Tree.{ExprTree, lit, read, unary, binary, std, paren, OperandTree, operand, StepTrees, no_steps, steps}
use Rattle.pv_tree.specs.LiteralTypes.{Want, nothing, is_whole_number}
use Rattle.pv_tree.specs.Sorts.{Sort, untyped, typed, one, whole, broken, is_whole, is_broken, own_type, one_of, taken, common_type, result_of_unary, misfits}
use Rattle.pv_tree.specs.Scopes.{Scope, type_named}
use Rattle.pv_tree.specs.Things.{Thing, part, constant, a_block, no_name, no_array, a_date, untold, thing_at, last_behind, is_date, dated, thing_behind, thing_of, thing_of_root, root_place}
use Rattle.pv_tree.specs.Types.{Written, literal_of, sort_where, sort_of_written, sort_of, sort_of_thing, is_index_type, is_void}
use Rattle.pv_tree.specs.Parts.{Part, operands_read, IndexAt, indexes_behind}
use Rattle.pv_tree.specs.Fits.{is_of_other_type}
use Rattle.pv_tree.specs.Rules.Misfits.{Misapplies, Misindexes}
use Rattle.pv_tree.specs.Rules.Arrays.{IsBeyond}
use Rattle.pv_tree.specs.Rules.Callable.{is_void_thing}
use Rattle.pv_tree.specs.Rules.Addresses.{is_wrong_operand}
use Rattle.pv_tree.proofs.ToldThings.{Told}

-- ---- what breaks no rule by itself

-- the indexes in an operand
abbrev pub indexes_of_operand : Scope → OperandTree → List IndexAt
indexes_of_operand scope (operand root more place) = indexes_behind scope (root_place root place) (thing_of_root scope root place) more

pub record IndexKeeps (scope : Scope) (i : IndexAt) : Type 0 where
  pub typed : (at : Place) → Misindexes scope at i → ⊥
  pub inside : (at : Place) → IsBeyond scope at i → ⊥

pub record OperandKeeps (scope : Scope) (o : OperandTree) : Type 0 where
  pub is_named : (at : Place) → thing_of scope o ≡ no_name at → ⊥
  pub is_array : (at : Place) → thing_of scope o ≡ no_array at → ⊥
  pub no_date : (at : Place) → thing_of scope o ≡ a_date at → ⊥
  pub valued : IsTrue (is_void_thing (thing_of scope o)) → ⊥
  pub addressed : IsFalse (is_wrong_operand o)
  pub indexed : AllByRecursion (IndexKeeps scope) (indexes_of_operand scope o)

pub record PartKeeps (scope : Scope) (p : Part) : Type 0 where
  pub fits : (at : Place) → Misapplies scope at p.expr → ⊥
  pub reads : AllByRecursion (OperandKeeps scope) (operands_read p.expr)

-- ---- lists and truth values

pub all-front : {X : Type 0} (P : X → Type 0) (xs ys : List X) → AllByRecursion P (xs ++ ys) → AllByRecursion P xs
all-front P [] ys a = tt
all-front P (x ∷ xs) ys a = (a.0, all-front P xs ys a.1)

pub all-behind : {X : Type 0} (P : X → Type 0) (xs ys : List X) → AllByRecursion P (xs ++ ys) → AllByRecursion P ys
all-behind P [] ys a = a
all-behind P (x ∷ xs) ys a = all-behind P xs ys a.1

pub all_where : {X : Type 0} (P : X → Type 0) (b : Bool) (xs : List X) → IsFalse b → AllByRecursion P (if b then [] else xs)
    → AllByRecursion P xs
all_where P true xs f a = absurd (true≢false f)
all_where P false xs f a = a

pub neither : (a b : Bool) → IsFalse a → IsFalse b → IsFalse (a || b)
neither true b p q = p
neither false b p q = q

pub both : (a b : Bool) → IsTrue a → IsTrue b → IsTrue (a && b)
both true b p q = q
both false b p q = p

-- ---- literals

pub written_ok : (want : Want) (ty : Option Ty) (v : ℤ) → IsFalse (is_broken (taken want (sort_of_written ty v)))
written_ok want None v = refl
written_ok want (Some ty) v = refl

pub literal_sort : (scope : Scope) (e : ExprTree) (w : Written) → literal_of e ≡ Some w → sort_of scope e ≡ sort_of_written w.ty w.value
literal_sort scope (lit ty value place) w p = ap (λ z. sort_where z broken) p
literal_sort scope (read o) w p = absurd (true≢false (ap is_some (sym p)))
literal_sort scope (unary op place arg) w p =
    subst (λ z. sort_where z (one_of (option_and_then (result_of_unary op) (common_type (taken nothing (sort_of scope arg)
    ∷ [])))) ≡ sort_of_written w.ty w.value) (sym p) refl
literal_sort scope (binary op place left right) w p = absurd (true≢false (ap is_some (sym p)))
literal_sort scope (std function place args) w p = absurd (true≢false (ap is_some (sym p)))
literal_sort scope (paren place inner) w p = literal_sort scope inner w p

-- ---- operators

spoken : (w b : Bool) → IsFalse b → IsTrue (w || not b)
spoken true b p = refl
spoken false b p = ap not p

pub fitted : (want : Want) (r : Option Ty) (ss : List Sort) → IsFalse (list_any is_broken ss) → (IsTrue (misfits r ss) → ⊥) → IsFalse
    (is_broken (taken want (one_of r)))
fitted want (Some ty) ss p f = refl
fitted want None ss p f = absurd (f (spoken (list_any is_whole ss) (list_any is_broken ss) p))

pub unary_ok : (want : Want) (l : Option Written) (r : Option Ty) (x : Sort)
    → (IsTrue (not (is_some l) && misfits r (x ∷ [])) → ⊥) → (IsFalse (is_some l) → IsFalse (is_broken x))
    → IsFalse (is_broken (taken want (sort_where l (one_of r))))
unary_ok want (Some w) r x fits sub = written_ok want w.ty w.value
unary_ok want None r x fits sub = fitted want r (x ∷ []) (neither (is_broken x) false (sub refl) refl) fits

pub paren_ok : (want : Want) (l : Option Written) (s : Sort)
    → ((w : Written) → l ≡ Some w → s ≡ sort_of_written w.ty w.value) → (IsFalse (is_some l) → IsFalse (is_broken (taken want s))) → IsFalse
    (is_broken (taken want s))
paren_ok want (Some w) s same sub =
    subst (λ z. IsFalse (is_broken (taken want z))) (sym (same w refl)) (written_ok want w.ty w.value)
paren_ok want None s same sub = sub refl

-- ---- operands

chosen : (want : Want) (b : Bool) → IsTrue b → IsFalse (is_broken (taken want (if b then whole else broken)))
chosen want true p = refl
chosen want false p = absurd (true≢false (sym p))

unchosen : (want : Want) (b : Bool) → (IsTrue b → ⊥) → IsFalse (is_broken (taken want (if b then broken else whole)))
unchosen want true p = absurd (p refl)
unchosen want false p = refl

pub thing_ok : (scope : Scope) (want : Want) (r : Thing) → Told scope.project r → (r ≡ part unread → ⊥) → ((at : Place) → r ≡ no_name at
    → ⊥) → ((at : Place) → r ≡ no_array at → ⊥)
    → ((at : Place) → r ≡ a_date at → ⊥) → (IsTrue (is_void_thing r) → ⊥) → IsFalse (is_broken (taken want (sort_of_thing scope r)))
thing_ok scope want (part (plain ty)) t u a b c d = refl
thing_ok scope want (part (array low high of at)) t u a b c d = refl
thing_ok scope want (part (structure vars)) t u a b c d = refl
thing_ok scope want (part (named name at)) t u a b c d = chosen want (is_some (type_named scope.project name.key)) t
thing_ok scope want (part unread) t u a b c d = absurd (u refl)
thing_ok scope want (constant (plain ty)) t u a b c d = refl
thing_ok scope want (constant (array low high of at)) t u a b c d = refl
thing_ok scope want (constant (structure vars)) t u a b c d = refl
thing_ok scope want (constant (named name at)) t u a b c d = chosen want (is_some (type_named scope.project name.key)) t.0
thing_ok scope want (constant unread) t u a b c d = absurd (true≢false t.1)
thing_ok scope want (a_block block) t u a b c d = unchosen want (is_void block) d
thing_ok scope want (no_name at) t u a b c d = absurd (a at refl)
thing_ok scope want (no_array at) t u a b c d = absurd (b at refl)
thing_ok scope want (a_date at) t u a b c d = absurd (c at refl)
thing_ok scope want untold t u a b c d = absurd t

-- what names come to is no date that isn't noticed
abbrev pub IsNoticed : Thing → Type 0
IsNoticed (part unread) = ⊥
IsNoticed (part (plain ty)) = Unit {0}
IsNoticed (part (array low high of at)) = Unit {0}
IsNoticed (part (structure vars)) = Unit {0}
IsNoticed (part (named name at)) = Unit {0}
IsNoticed (constant ty) = Unit {0}
IsNoticed (a_block b) = Unit {0}
IsNoticed (no_name at) = Unit {0}
IsNoticed (no_array at) = Unit {0}
IsNoticed (a_date at) = Unit {0}
IsNoticed untold = Unit {0}

noticed_if : (c : Bool) (x y : Thing) → IsNoticed x → IsNoticed y → IsNoticed (if c then x else y)
noticed_if true x y t u = t
noticed_if false x y t u = u

dated_noticed : (last : Place) (thing : Thing) → IsNoticed (dated last thing)
dated_noticed last (part (plain ty)) = tt
dated_noticed last (part (array low high of at)) = noticed_if (is_date of) (a_date last) (part (array low high of at)) tt tt
dated_noticed last (part (structure vars)) = tt
dated_noticed last (part (named name at)) = tt
dated_noticed last (part unread) = tt
dated_noticed last (constant ty) = tt
dated_noticed last (a_block b) = tt
dated_noticed last (no_name at) = tt
dated_noticed last (no_array at) = tt
dated_noticed last (a_date at) = tt
dated_noticed last untold = tt

pub noticed : (scope : Scope) (last : Place) (thing : Thing) (more : StepTrees) → IsNoticed (thing_behind scope last thing more)
noticed scope last thing no_steps = dated_noticed last thing
noticed scope last thing (steps step more) = noticed scope (last_behind last step) (thing_at scope (dated last thing) step) more

number_ok : (ty : Ty) → (IsTrue (not (is_whole_number ty)) → ⊥) → IsTrue (is_whole_number ty)
number_ok t.Bool f = absurd (f refl)
number_ok t.Byte f = absurd (f refl)
number_ok t.Word f = absurd (f refl)
number_ok t.Dword f = absurd (f refl)
number_ok t.Int f = refl
number_ok t.Dint f = refl
number_ok t.Time f = absurd (f refl)

pub index_typed : (s : Sort) → IsFalse (is_broken s) → (IsTrue (is_some (own_type s))) → (IsTrue (is_of_other_type is_whole_number s) → ⊥)
    → IsTrue (is_index_type (own_type s))
index_typed (untyped v) p q f = q
index_typed (typed ty v) p q f = number_ok ty f
index_typed (one ty) p q f = number_ok ty f
index_typed whole p q f = q
index_typed broken p q f = q

-- what is taken is typed, unless it is whole or broken
pub own_taken : (want : Want) (x : Sort) → IsFalse (is_broken (taken want x)) → IsFalse (is_whole (taken want x)) → IsTrue (is_some
    (own_type (taken want x)))
own_taken want (untyped v) p q = refl
own_taken want (typed ty v) p q = refl
own_taken want (one ty) p q = refl
own_taken want whole p q = absurd (true≢false q)
own_taken want broken p q = absurd (true≢false p)

pub not_whole : (s : Sort) → (IsTrue (is_of_other_type is_whole_number s) → ⊥) → IsFalse (is_whole s)
not_whole (untyped v) f = refl
not_whole (typed ty v) f = refl
not_whole (one ty) f = refl
not_whole whole f = absurd (f refl)
not_whole broken f = refl

pub lies : (a b : Bool) → IsTrue a → (IsTrue (a && not b) → ⊥) → IsTrue b
lies true true p f = refl
lies true false p f = absurd (f refl)
lies false b p f = absurd (true≢false (sym p))
