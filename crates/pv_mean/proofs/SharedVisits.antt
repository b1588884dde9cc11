-- Visits that enter what is named, where variables that are declared at once name it once.
use Rattle.std.proofs.Common.{◌≡◌, ◌<◌, ◌≤◌, ℕ, ◌+◌, List, [], ◌∷◌, ◌++◌, Option, length, map, take, get_or, refl, sym, ap, ◌∙◌, subst, append_assoc, arith, add-one, Bor}
use Rattle.std.specs.Prelude.{IsSome}
use Rattle.std.proofs.Math.Seq.{take-suc}
use Rattle.std.proofs.lemmas.List.{append-nil, map-append, take_all}
use Rattle.std.proofs.lemmas.Grind.{flat_map-append}
use Rattle.pv_place.specs.declared.place.Place.{Place}
use Rattle.pv_word.specs.declared.types.Ty.{Ty}
use Rattle.pv_types.specs.declared.name.Name.{Name}
use Rattle.pv_types.specs.declared.declaration.Literal.{Literal}
use Rattle.pv_types.specs.declared.declaration.Section.{Section}
use Rattle.pv_types.specs.declared.declaration.DeclType.{DeclType, fold-roll-DeclType}
use Rattle.pv_types.specs.declared.declaration.DeclType.TheVariants as variant
use Rattle.pv_types.specs.declared.declaration.DeclType.TheViews as form
use Rattle.pv_types.specs.declared.declaration.DeclType.TheOpen.{DeclType-F}
use Rattle.pv_types.specs.declared.declaration.Vars.{Vars}
use Rattle.pv_types.specs.Tree.{TypeTree, plain, named, unread, VarTree, var, no_vars}
use Rattle.pv_types.specs.View.{type_tree, type_step, vars_tree, vars_step, word_tree, var_trees, listed}
use Rattle.pv_types.specs.Named.{look_up, AllNamed, AllNamedIn}
use Rattle.pv_types.proofs.ForCallers.{vars_seen}
use Rattle.pv_mean.specs.declared.sizing.Task.{Task}
use Rattle.pv_mean.specs.declared.sizing.Task.TheVariants.{Enter}
use Rattle.pv_mean.specs.Visits.{Visit, visit_of, visits_of, enter, enters_in, enters_in_vars, Awaits, Covered, EnterThose, AddsEnters, steps_left}
use Rattle.pv_mean.proofs.Visits.{named_in_to, awaits_left, awaits_right, all_awaited, enters_covered, enters_there, there-append, left-append}

-- ---- what is named in two lists of variables

module _ (P : List ℕ → Type 0) where
  named_front : (xs ys : List VarTree) → AllNamedIn P (listed (xs ++ ys)) → AllNamedIn P (listed xs)
  named_front [] ys p = tt
  named_front (var name section ty start place ∷ xs) ys p = (p.0, named_front xs ys p.1)

  named_back : (xs ys : List VarTree) → AllNamedIn P (listed (xs ++ ys)) → AllNamedIn P (listed ys)
  named_back [] ys p = p
  named_back (var name section ty start place ∷ xs) ys p = named_back xs ys p.1

  named_both : (xs ys : List VarTree) → AllNamedIn P (listed xs) → AllNamedIn P (listed ys) → AllNamedIn P (listed (xs ++ ys))
  named_both [] ys p q = q
  named_both (var name section ty start place ∷ xs) ys p q = (p.0, named_both xs ys p.1 q)

  named_words : (s : Section) (t : TypeTree) (start : Option Literal) (ws : List (Name × Place)) → AllNamed P t
      → AllNamedIn P (listed (map (word_tree s t start) ws))
  named_words s t start [] p = tt
  named_words s t start (w ∷ ws) p = (p, named_words s t start ws p)

  named_first : (s : Section) (t : TypeTree) (start : Option Literal) (w : Name × Place) (ws : List (Name × Place))
      → AllNamedIn P (listed (map (word_tree s t start) (w ∷ ws))) → AllNamed P t
  named_first s t start w ws p = p.0

enters_parted : (xs ys : List VarTree) → enters_in_vars (listed (xs ++ ys)) ≡ enters_in_vars (listed xs) ++ enters_in_vars (listed ys)
enters_parted [] ys = refl
enters_parted (var name section ty start place ∷ xs) ys =
    ap (λ l. enters_in ty ++ l) (enters_parted xs ys) ∙ sym (append_assoc (enters_in ty) (enters_in_vars (listed xs)) (enters_in_vars (listed ys)))

-- ---- what a type names itself

own_entered : (t : TypeTree) → EnterThose (λ P. AllNamed P t) (enters_in t) (enters_in t)
own_entered t = record {
  awaits = all_awaited t;
  there = λ types a. enters_there types t a;
  covered = λ known ys c. enters_covered known t ys c;
  few = λ steps. omega arith;
}

type_named : (old new : List Visit) (t : TypeTree) → new ≡ old ++ enters_in t → AddsEnters old new (λ P. AllNamed P t) (enters_in t)
type_named old new t behind = record { more = enters_in t; are = own_entered t; behind = behind }

plain_seen : (ty : DeclType) (plainly : Ty) → ty ≡ variant.Plain plainly → type_tree ty ≡ plain plainly
unfolding form.roll-DeclType denote.Hole.Carrier.roll
plain_seen ty plainly is = ap type_tree is ∙ fold-roll-DeclType TypeTree (List VarTree) type_step vars_step (DeclType-F.Plain plainly)

unread_seen : (ty : DeclType) → ty ≡ variant.Unread → type_tree ty ≡ unread
unfolding form.roll-DeclType denote.Hole.Carrier.roll
unread_seen ty is = ap type_tree is ∙ fold-roll-DeclType TypeTree (List VarTree) type_step vars_step DeclType-F.Unread

named_seen : (ty : DeclType) (name : Name) (place : Place) → ty ≡ variant.Named name place → type_tree ty ≡ named name place
unfolding form.roll-DeclType denote.Hole.Carrier.roll
named_seen ty name place is = ap type_tree is ∙ fold-roll-DeclType TypeTree (List VarTree) type_step vars_step (DeclType-F.Named name place)

-- a simple type names none
pub plain_named : (old : List Visit) (ty : DeclType) (plainly : Ty) → ty ≡ variant.Plain plainly
    → AddsEnters old old (λ P. AllNamed P (type_tree ty)) (enters_in (type_tree ty))
plain_named old ty plainly is =
    type_named old old (type_tree ty) (sym (append-nil old) ∙ ap (λ t. old ++ enters_in t) (sym (plain_seen ty plainly is)))

pub unread_named : (old : List Visit) (ty : DeclType) → ty ≡ variant.Unread
    → AddsEnters old old (λ P. AllNamed P (type_tree ty)) (enters_in (type_tree ty))
unread_named old ty is =
    type_named old old (type_tree ty) (sym (append-nil old) ∙ ap (λ t. old ++ enters_in t) (sym (unread_seen ty is)))

-- a named one is put behind the others
pub name_named : (old new : List Task) (ty : DeclType) (name : Name) (place : Place) (r : Bor Name) → ty ≡ variant.Named name place
    → new ≡ old ++ Enter r ∷ [] → r.now ≡ name
    → AddsEnters (visits_of old) (visits_of new) (λ P. AllNamed P (type_tree ty)) (enters_in (type_tree ty))
name_named old new ty name place r is pushed same =
    type_named (visits_of old) (visits_of new) (type_tree ty)
    (ap visits_of pushed ∙ map-append visit_of old (Enter r ∷ []) ∙ ap (λ n. visits_of old ++ (enter n.key ∷ [])) same
    ∙ ap (λ t. visits_of old ++ enters_in t) (sym (named_seen ty name place is)))

-- ---- nothing, one declaration, and one more

none_entered : EnterThose (λ P. AllNamedIn P no_vars) [] []
none_entered = record { awaits = tt; there = λ types a. tt; covered = λ known ys c. c; few = λ steps. omega arith }

-- those that one declaration's type names are those of its variables
words_entered : (s : Section) (t : TypeTree) (start : Option Literal) (w : Name × Place) (ws : List (Name × Place)) (es : List Visit)
    → EnterThose (λ P. AllNamed P t) (enters_in t) es
    → EnterThose (λ P. AllNamedIn P (listed (map (word_tree s t start) (w ∷ ws))))
    (enters_in_vars (listed (map (word_tree s t start) (w ∷ ws)))) es
words_entered s t start w ws es are = record {
  awaits = named_words (λ k. Awaits k es) s t start (w ∷ ws) are.awaits;
  there = λ types a. are.there types (named_first (λ k. IsSome (look_up types k)) s t start w ws a);
  covered = are.covered;
  few = λ steps.
      let split = left-append steps (enters_in t) (enters_in_vars (listed (map (word_tree s t start) ws))) in
      let own = are.few steps in omega (arith, split, own);
}

both_entered : (xs ys : List VarTree) (es fs : List Visit)
    → EnterThose (λ P. AllNamedIn P (listed xs)) (enters_in_vars (listed xs)) es
    → EnterThose (λ P. AllNamedIn P (listed ys)) (enters_in_vars (listed ys)) fs
    → EnterThose (λ P. AllNamedIn P (listed (xs ++ ys))) (enters_in_vars (listed (xs ++ ys))) (es ++ fs)
both_entered xs ys es fs first second = record {
  awaits = named_both (λ k. Awaits k (es ++ fs)) xs ys
      (named_in_to (λ k. Awaits k es) (λ k. Awaits k (es ++ fs)) (λ k a. awaits_left k es fs a) (listed xs) first.awaits)
      (named_in_to (λ k. Awaits k fs) (λ k. Awaits k (es ++ fs)) (λ k a. awaits_right k es fs a) (listed ys) second.awaits);
  there = λ types a. there-append types es fs (first.there types (named_front (λ k. IsSome (look_up types k)) xs ys a))
      (second.there types (named_back (λ k. IsSome (look_up types k)) xs ys a));
  covered = λ known rest c.
      subst (Covered known) (sym (append_assoc es fs rest)) (first.covered known (fs ++ rest) (second.covered known rest c));
  few = λ steps.
      let split = left-append steps es fs in
      let parts = left-append steps (enters_in_vars (listed xs)) (enters_in_vars (listed ys)) in
      let whole = ap (steps_left steps) (enters_parted xs ys) in
      let a = first.few steps in let b = second.few steps in omega (arith, split, parts, whole, a, b);
}

taken_from : (vars : List Vars) (i : ℕ) (v : Vars) → i < length vars → v ≡ get_or vars i v
    → var_trees (take i vars) ++ vars_tree v ≡ var_trees (take (i + 1) vars)
taken_from vars i v inside is =
    ap (λ w. var_trees (take i vars) ++ vars_tree w) is
    ∙ (ap (λ l. var_trees (take i vars) ++ l) (sym (append-nil (vars_tree (get_or vars i v)))))
    ∙ sym (flat_map-append vars_tree (take i vars) (get_or vars i v ∷ []))
    ∙ ap var_trees (sym (take-suc vars i v inside)) ∙ ap (λ n. var_trees (take n vars)) (sym (add-one i))

-- nothing is entered
pub nothing_entered : (old : List Visit) → AddsEnters old old (λ P. AllNamedIn P no_vars) []
nothing_entered old = record { more = []; are = none_entered; behind = sym (append-nil old) }

-- variables that are declared at once, where there are names
pub shared_entered : (old new : List Visit) (v : Vars) → (v.names.items ≡ [] → ⊥)
    → AddsEnters old new (λ P. AllNamed P (type_tree v.ty)) (enters_in (type_tree v.ty))
    → AddsEnters old new (λ P. AllNamedIn P (listed (vars_tree v))) (enters_in_vars (listed (vars_tree v)))
shared_entered old new v some adds = by v.names.items refl
  where
    by : (ws : List (Name × Place)) → v.names.items ≡ ws
        → AddsEnters old new (λ P. AllNamedIn P (listed (vars_tree v))) (enters_in_vars (listed (vars_tree v)))
    by [] none = absurd (some none)
    by (w ∷ ws) is = record {
      more = adds.more;
      are = subst (λ l. EnterThose (λ P. AllNamedIn P (listed l)) (enters_in_vars (listed l)) adds.more)
          (ap (map (word_tree v.section (type_tree v.ty) v.start)) (sym is) ∙ sym (vars_seen v))
          (words_entered v.section (type_tree v.ty) v.start w ws adds.more adds.are);
      behind = adds.behind;
    }

-- and where there are none
pub unnamed_entered : (old : List Visit) (v : Vars) → v.names.items ≡ []
    → AddsEnters old old (λ P. AllNamedIn P (listed (vars_tree v))) (enters_in_vars (listed (vars_tree v)))
unnamed_entered old v none =
    subst (λ l. AddsEnters old old (λ P. AllNamedIn P (listed l)) (enters_in_vars (listed l)))
    (ap (map (word_tree v.section (type_tree v.ty) v.start)) (sym none) ∙ sym (vars_seen v)) (nothing_entered old)

-- a declaration more, as a loop goes along them
pub declared_entered : (old mid new : List Visit) (vars : List Vars) (i : ℕ) (v : Vars) → i < length vars → v ≡ get_or vars i v
    → AddsEnters old mid (λ P. AllNamedIn P (listed (var_trees (take i vars)))) (enters_in_vars (listed (var_trees (take i vars))))
    → AddsEnters mid new (λ P. AllNamedIn P (listed (vars_tree v))) (enters_in_vars (listed (vars_tree v)))
    → AddsEnters old new (λ P. AllNamedIn P (listed (var_trees (take (i + 1) vars)))) (enters_in_vars (listed (var_trees (take (i + 1) vars))))
declared_entered old mid new vars i v inside is before here = record {
  more = before.more ++ here.more;
  are = subst (λ l. EnterThose (λ P. AllNamedIn P (listed l)) (enters_in_vars (listed l)) (before.more ++ here.more))
      (taken_from vars i v inside is)
      (both_entered (var_trees (take i vars)) (vars_tree v) before.more here.more before.are here.are);
  behind = here.behind ∙ ap (λ l. l ++ here.more) before.behind ∙ append_assoc old before.more here.more;
}

-- once the loop has gone along all of them
pub all_entered : (old new : List Visit) (vars : List Vars) (i : ℕ) → length vars ≤ i
    → AddsEnters old new (λ P. AllNamedIn P (listed (var_trees (take i vars)))) (enters_in_vars (listed (var_trees (take i vars))))
    → AddsEnters old new (λ P. AllNamedIn P (listed (var_trees vars))) (enters_in_vars (listed (var_trees vars)))
all_entered old new vars i past adds =
    subst (λ (l : List Vars). AddsEnters old new (λ P. AllNamedIn P (listed (var_trees l))) (enters_in_vars (listed (var_trees l))))
    (take_all i vars past) adds
