-- A search for a leaf: nothing is left to be searched and no leaf was found, so there is none.
use Rattle.std.specs.Prelude.{◌≡◌, ℤ, ℕ, zero, suc, ◌+◌, ◌*◌, ◌≤◌, true, false, List, [], ◌∷◌, ◌++◌, Option, Some, None, is_some, bytes_eq, cond, map, length, unwrap_or, refl, Result, Ok, Err, IfOk}
use Rattle.std.specs.Map.{lookup}
use Rattle.std.proofs.Common.{ap, sym, ◌∙◌, inl, inr, arith, true≢false}
use Rattle.std.proofs.lemmas.Bool.{cases_Bool}
use Rattle.std.proofs.lemmas.Slice.Eq.{bytes_eq-Decides}
use Rattle.std.proofs.Math.Nat.{suc-mul}
use Rattle.indexmap.specs.IndexMap.{insert_entry}
use Rattle.pv_types.specs.declared.declaration.Section.{Section}
use Rattle.pv_types.specs.declared.declaration.Section.TheVariants.{Static}
use Rattle.pv_types.specs.declared.declaration.Vars.{Vars}
use Rattle.pv_types.specs.declared.leaf.Leaf.{Leaf}
use Rattle.pv_types.specs.declared.search.Sought.{Sought}
use Rattle.pv_types.specs.declared.search.Search.{Search}
use Rattle.pv_types.specs.declared.walk.Walk.{Walk}
use Rattle.pv_types.specs.Tree.{TypeTree, VarTree, var, VarTrees, no_vars, _then_}
use Rattle.pv_types.specs.View.{type_tree, vars_tree, word_tree, listed}
use Rattle.pv_types.specs.Named.{NamedType, look_up}
use Rattle.pv_types.specs.Leaves.{Around, instance, fields, section_within, leaves_of_type, leaves_of_named}
use Rattle.pv_types.specs.Sizes.{number_where, size_of_type, size_of_fields, size_of_vars, size_of_named, HasNoLeaf}
use Rattle.pv_types.specs.Search.{size_of_sought, size_of_all, size_of_met, Covers, IsSearch}
use Rattle.pv_types.specs.Walk.{IsSound, Adds, pending}
use Rattle.pv_types.proofs.Counting.{counted_type_of}
use Rattle.pv_types.proofs.Trees.{vars_seen}

all_push : (size : List ℕ → ℕ) (xs : List Sought) (x : Sought)
    → size_of_all size (xs ++ x ∷ []) ≡ size_of_all size xs + size_of_sought size x
all_push size [] x = omega arith
all_push size (y ∷ ys) x = let rest = all_push size ys x in omega (arith, rest)

met_insert : {X : Type 0} (size : List ℕ → ℕ) (es : List (List ℕ × X)) (key : List ℕ) (v : X) → is_some (lookup (bytes_eq key) es) ≡ false
    → size_of_met size (insert_entry bytes_eq es key v) ≡ size_of_met size es + size key
met_insert size [] key v none = omega arith
met_insert size (e ∷ es) key v none =
    elim (bytes_eq key e.0) as (λ b. is_some (cond b (Some e.1) (lookup (bytes_eq key) es)) ≡ false
    → size_of_met size (cond b ((e.0, v) ∷ es) (e ∷ insert_entry bytes_eq es key v)) ≡ size e.0 + size_of_met size es + size key)
    [ true ↦ λ h. absurd (true≢false h) | false ↦ λ h. let rest = met_insert size es key v h in omega (arith, rest) ] none

met_there : {X : Type 0} (size : List ℕ → ℕ) (es : List (List ℕ × X)) (key : List ℕ) → is_some (lookup (bytes_eq key) es) ≡ true
    → size key ≤ size_of_met size es
met_there size [] key there = absurd (true≢false (sym there))
met_there size (e ∷ es) key there =
    elim (cases_Bool (bytes_eq key e.0)) [
      | inl on ↦ let same = ap size ((bytes_eq-Decides key e.0).0 on) in omega (arith, same)
      | inr off ↦
          let rest = met_there size es key (sym (ap (λ b. is_some (cond b (Some e.1) (lookup (bytes_eq key) es))) off) ∙ there) in omega
          (arith, rest)
    ]

-- ---- what a part of a search covers

-- nothing is added for what has no leaf
pub nothing_covered : (types : List NamedType) (s : Search) (size : ℕ → ℕ) → ((n : ℕ) → size n ≡ 0) → Covers types s s size
nothing_covered types s size none = λ n sought met. record { sought = sought; none = none n; met = met; deeper = λ d. d }

-- nor for what was met before
pub met_covered : (types : List NamedType) (s : Search) (key : List ℕ) → is_some (lookup (bytes_eq key) s.met.entries) ≡ true
    → Covers types s s (λ n. size_of_named types n key)
met_covered types s key there = λ n sought met. record {
  sought = sought;
  none = let some = met_there (size_of_named types n) s.met.entries key there in omega (arith, some, met);
  met = met;
  deeper = λ d. d;
}

-- what is to be searched covers what has no leaf where it has none
pub pushed_covered : (types : List NamedType) (old new : Search) (x : Sought) (size : ℕ → ℕ) → new.sought.items ≡ old.sought.items ++ x ∷ []
    → new.met.entries ≡ old.met.entries → ((n : ℕ) → size_of_sought (size_of_named types n) x ≡ 0 → size n ≡ 0) → Covers types old new size
pushed_covered types old new x size sought met to = λ n all none.
    let now = ap (size_of_all (size_of_named types n)) sought ∙ all_push (size_of_named types n) old.sought.items x in record {
      sought = omega (arith, all, now);
      none = to n (omega (arith, all, now));
      met = ap (size_of_met (size_of_named types n)) (sym met) ∙ none;
      deeper = λ d. ap (size_of_met (size_of_named types (suc n))) met ∙ d;
    }

pub then_covered : (types : List NamedType) (old mid new : Search) (a b c : ℕ → ℕ) → Covers types old mid a → Covers types mid new b
    → ((n : ℕ) → a n ≡ 0 → b n ≡ 0 → c n ≡ 0) → Covers types old new c
then_covered types old mid new a b c first second both = λ n all met.
    let two = second n all met in
    let one = first n two.sought two.met in record {
      sought = one.sought;
      none = both n one.none two.none;
      met = one.met;
      deeper = λ d. two.deeper (one.deeper d);
    }

missing_size : (types : List NamedType) (key : List ℕ) (n : ℕ) → None ≡ look_up types key → size_of_named types n key ≡ 0
missing_size types key zero none = refl
missing_size types key (suc n) none = ap (λ o. size_of_vars (size_of_named types n) (instance Static) (listed (unwrap_or o []))) (sym none)

-- a type that isn't there has no leaf
pub missing_covered : (types : List NamedType) (s : Search) (key : List ℕ) → None ≡ look_up types key
    → Covers types s s (λ n. size_of_named types n key)
missing_covered types s key none = nothing_covered types s _ (λ n. missing_size types key n none)

-- a type that is met for the first time, with its variables
pub named_covered : (types : List NamedType) (old new : Search) (x : Sought) (key : List ℕ) (vars : List VarTree)
    → is_some (lookup (bytes_eq key) old.met.entries) ≡ false
    → new.sought.items ≡ old.sought.items ++ x ∷ [] → new.met.entries ≡ insert_entry bytes_eq old.met.entries key tt
    → ((n : ℕ) → size_of_sought (size_of_named types n) x ≡ size_of_vars (size_of_named types n) (instance Static) (listed vars))
    → Some vars ≡ look_up types key → Covers types old new (λ n. size_of_named types n key)
named_covered types old new x key vars unmet sought met same found = λ n all none.
    let now = ap (size_of_all (size_of_named types n)) sought ∙ all_push (size_of_named types n) old.sought.items x in
    let more = ap (size_of_met (size_of_named types n)) met ∙ met_insert (size_of_named types n) old.met.entries key tt unmet in
    let next = ap (size_of_met (size_of_named types (suc n))) met ∙ met_insert (size_of_named types (suc n)) old.met.entries key tt unmet in
    let its : size_of_named types (suc n) key ≡ size_of_sought (size_of_named types n) x =
    ap (λ o. size_of_vars (size_of_named types n) (instance Static) (listed (unwrap_or o []))) (sym found) ∙ sym (same n) in record {
      sought = omega (arith, all, now);
      none = omega (arith, none, more);
      met = omega (arith, none, more);
      deeper = λ d. omega (arith, d, next, its, all, now);
    }

pub same_covered : (types : List NamedType) (old new : Search) (a b : ℕ → ℕ) → ((n : ℕ) → b n ≡ a n) → Covers types old new a
    → Covers types old new b
same_covered types old new a b same covers = λ n all met.
    let c = covers n all met in record { sought = c.sought; none = same n ∙ c.none; met = c.met; deeper = c.deeper }

pub if_ok : {T E : Type 0} (r : Result T E) {P Q : T → Type 0} → ((x : T) → P x → Q x) → IfOk r P → IfOk r Q
if_ok (Ok x) f p = f x p
if_ok (Err e) f p = p

-- ---- a search

pub searched : (types : List NamedType) (root : TypeTree) (old mid new : Search) (x : Sought) → IsSearch types root old
    → old.sought.items ≡ mid.sought.items ++ x ∷ [] → mid.met.entries ≡ old.met.entries
    → Covers types mid new (λ n. size_of_sought (size_of_named types n) x) → IsSearch types root new
searched types root old mid new x search sought met covers = λ n all none.
    let c = covers n all none in
    let was = ap (size_of_all (size_of_named types n)) sought ∙ all_push (size_of_named types n) mid.sought.items x in
    let before = search n (omega (arith, was, c.sought, c.none)) (ap (size_of_met (size_of_named types n)) (sym met) ∙ c.met) in record {
      none = before.none;
      deeper = c.deeper (ap (size_of_met (size_of_named types (suc n))) met ∙ before.deeper);
    }

pub begun : (types : List NamedType) (root : TypeTree) (old new : Search) → old.met.entries ≡ []
    → Covers types old new (λ n. size_of_type (size_of_named types n) root) → IsSearch types root new
begun types root old new empty covers = λ n all none.
    let c = covers n all none in record {
      none = c.none;
      deeper = c.deeper (ap (size_of_met (size_of_named types (suc n))) empty);
    }

none_at_zero : {X : Type 0} (types : List NamedType) (es : List (List ℕ × X)) → size_of_met (size_of_named types 0) es ≡ 0
none_at_zero types [] = refl
none_at_zero types (e ∷ es) = let rest = none_at_zero types es in omega (arith, rest)

met_none : (types : List NamedType) (root : TypeTree) (s : Search) → IsSearch types root s → s.sought.items ≡ [] → (n : ℕ)
    → size_of_met (size_of_named types n) s.met.entries ≡ 0
met_none types root s search empty zero = none_at_zero types s.met.entries
met_none types root s search empty (suc n) =
    (search n (ap (size_of_all (size_of_named types n)) empty) (met_none types root s search empty n)).deeper

-- nothing is left to be searched
pub ended_search : (types : List NamedType) (root : TypeTree) (s : Search) → IsSearch types root s → s.sought.items ≡ []
    → HasNoLeaf types root
ended_search types root s search empty = λ n.
    (search n (ap (size_of_all (size_of_named types n)) empty) (met_none types root s search empty n)).none

-- ---- sizes

pub product_none : (count m : ℕ) → m ≡ 0 → count * m ≡ 0
product_none zero m none = omega arith
product_none (suc count) m none = let rest = product_none count m none in omega (arith, rest, none, suc-mul count m)

pub fields_sized : (size : List ℕ → ℕ) (s : Section) (vars : VarTrees) → size_of_vars size (fields s) vars ≡ size_of_fields size vars
fields_sized size s no_vars = refl
fields_sized size s (_then_ (var name section ty start place) xs) = ap (λ r. size_of_type size ty + r) (fields_sized size s xs)

where_none : (o : Option Section) (n : ℕ) → n ≡ 0 → number_where o n ≡ 0
where_none None n none = refl
where_none (Some s) n none = none

-- the number of leaves of variables, by those in front and those behind
pub vars_parted : (size : List ℕ → ℕ) (around : Around) (xs ys : List VarTree)
    → size_of_vars size around (listed (xs ++ ys)) ≡ size_of_vars size around (listed xs) + size_of_vars size around (listed ys)
vars_parted size around [] ys = omega arith
vars_parted size around (var name section ty start place ∷ xs) ys =
    let rest = vars_parted size around xs ys in omega (arith, rest)

words_none : (size : List ℕ → ℕ) (around : Around) (s : Section) (t : TypeTree) (start : _) (ws : List _)
    → number_where (section_within around s) (size_of_type size t) ≡ 0
    → size_of_vars size around (listed (map (word_tree s t start) ws)) ≡ 0
words_none size around s t start [] none = refl
words_none size around s t start (w ∷ ws) none =
    let rest = words_none size around s t start ws none in omega (arith, rest, none)

-- variables that share a type without a leaf have none
pub shared_none : (size : List ℕ → ℕ) (around : Around) (v : Vars) → size_of_type size (type_tree v.ty) ≡ 0
    → size_of_vars size around (listed (vars_tree v)) ≡ 0
shared_none size around v none =
    ap (λ l. size_of_vars size around (listed l)) (vars_seen v)
    ∙ words_none size around v.section (type_tree v.ty) v.start v.names.items (where_none (section_within around v.section) _ none)

-- nor have those that have no section
pub passed_none : (size : List ℕ → ℕ) (around : Around) (v : Vars) (o : Option Section) → o ≡ None → o ≡ section_within around v.section
    → size_of_vars size around (listed (vars_tree v)) ≡ 0
passed_none size around v o none is =
    ap (λ l. size_of_vars size around (listed l)) (vars_seen v)
    ∙ words_none size around v.section (type_tree v.ty) v.start v.names.items
    (ap (λ s. number_where s (size_of_type size (type_tree v.ty))) (sym is ∙ none))

-- nor has a declaration without names
pub nameless_none : (size : List ℕ → ℕ) (around : Around) (v : Vars) → v.names.items ≡ [] → size_of_vars size around (listed (vars_tree v)) ≡ 0
nameless_none size around v none =
    ap (λ l. size_of_vars size around (listed l)) (vars_seen v)
    ∙ ap (λ l. size_of_vars size around (listed (map (word_tree v.section (type_tree v.ty) v.start) l))) none

pub implied_covered : (types : List NamedType) (old new : Search) (a b : ℕ → ℕ) → ((n : ℕ) → a n ≡ 0 → b n ≡ 0) → Covers types old new a
    → Covers types old new b
implied_covered types old new a b implies covers = λ n all met.
    let c = covers n all met in record { sought = c.sought; none = implies n c.none; met = c.met; deeper = c.deeper }

-- ---- what has no leaf adds nothing to a walk

pub no_length : (ls : List Leaf) → length ls ≡ 0 → ls ≡ []
no_length [] none = refl
no_length (l ∷ ls) none = absurd (omega (arith, none))

pub no_leaves : (types : List NamedType) (levels : ℕ) (path : List ℕ) (start : ℤ) (s : Section) (t : TypeTree) → HasNoLeaf types t
    → leaves_of_type (leaves_of_named types levels) path start s t ≡ []
no_leaves types levels path start s t none = no_length _ (counted_type_of types levels path start s t ∙ none levels)

pub nothing_added : (types : List NamedType) (w : Walk) (more : List Leaf) (n : ℕ) → IsSound w → more ≡ [] → Adds types w w more n
nothing_added types w more n sound none = record {
  sound = sound;
  total = ap (λ l. w.leaves.items ++ (l ++ pending types w.path.items w.frames.items)) (sym none);
  work_falls = omega arith;
}
