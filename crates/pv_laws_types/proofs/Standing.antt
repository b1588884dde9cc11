-- Where a part stands among the types of cells: a variable among those that are declared with it, a field, an element.
use Rattle.std.proofs.Common.{◌≡◌, ◌≢◌, ℕ, zero, suc, ◌+◌, ◌*◌, ◌<◌, ℤ, pos, ◌+ℤ◌, ◌≤ℤ◌, List, [], ◌∷◌, ◌++◌, length, Bool, true, false, cond, ◌&&◌, Option, Some, None, refl, sym, ap, subst, ◌∙◌, append_assoc, suc-mul, arith}
use Rattle.std.specs.Prelude.{⊤, Contains, ◌-ℤ◌, int_le, unsigned_abs, bytes_eq, slice_get, filter}
use Rattle.std.proofs.lemmas.Int.{ints}
use Rattle.std.proofs.lemmas.List.{length-append}
use Rattle.std.proofs.lemmas.List.Elements.{Contains-append_left}
use Rattle.pv_word.specs.declared.types.Ty.{Ty}
use Rattle.pv_place.specs.declared.place.Place.{Place}
use Rattle.pv_types.specs.declared.declaration.Section.{Section}
use Rattle.pv_types.specs.Tree.{TypeTree, plain, array, structure, named, unread, VarTree, var}
use Rattle.pv_types.specs.View.{listed, fields_of, section_of}
use Rattle.pv_types.specs.Named.{AllNamed, AllNamedIn, NestsWithin}
use Rattle.pv_types.specs.Leaves.{count_of, count_between}
use Rattle.pv_types.proofs.ForCallers.{listed-fields}
use Rattle.pv_tree.specs.Tree.{PlacedName, BlockTree}
use Rattle.pv_tree.specs.Scopes.{ProjectTree, Scope, first_var, is_of_instance, type_named}
use Rattle.pv_tree.specs.NamedTypes.{types_of_project}
use Rattle.pv_tree.specs.Things.{Thing, part, constant, a_block, no_name, no_array, a_date, untold, field_where, field_within, field_of_type}
use Rattle.pv_tree.specs.Rules.{KeepsRules}
use Rattle.pv_tree.specs.Rules.MissingTypes.{names_in_vars, name_of_kind, named_types}
use Rattle.pv_tree.proofs.ForCallers.{type_contained, type_looked_up, types_nest, all_named_in, grounded}
use Rattle.pv_mean.specs.Layout.{Laid, size_in, laid_among, field_among, field_from}
use Rattle.pv_laws_types.specs.Typed.{StandAt}
use Rattle.pv_laws_types.proofs.CellTypes.{repeated, named_in, types_in, types_among, named_unfolds, fields_among, types_counted}

-- ---- lists

pub stand_left : (a b all : List Ty) (first : ℕ) → StandAt (a ++ b) all first → StandAt a all first
stand_left a b all first s = record {
  front = s.front;
  back = b ++ s.back;
  is = s.is ∙ ap (λ l. s.front ++ l) (append_assoc a b s.back);
  at = s.at;
}

pub stand_right : (a b all : List Ty) (first : ℕ) → StandAt (a ++ b) all first → StandAt b all (first + length a)
stand_right a b all first s = record {
  front = s.front ++ a;
  back = s.back;
  is = s.is ∙ (ap (λ l. s.front ++ l) (append_assoc a b s.back) ∙ sym (append_assoc s.front a (b ++ s.back)));
  at = (let e = length-append s.front a in omega (arith, e, s.at));
}

got_behind : (front back : List Ty) (ty : Ty) → slice_get (front ++ (ty ∷ back)) (length front) ≡ Some ty
got_behind [] back ty = refl
got_behind (t ∷ front) back ty = got_behind front back ty

pub stand_get : (all : List Ty) (ty : Ty) (n : ℕ) → StandAt (ty ∷ []) all n → slice_get all n ≡ Some ty
stand_get all ty n s =
    ap (λ l. slice_get l n) s.is ∙ (ap (λ k. slice_get (s.front ++ (ty ∷ s.back)) k) (sym s.at) ∙ got_behind s.front s.back ty)

stand_repeated : (types all : List Ty) (n k first : ℕ) → k < n → StandAt (repeated n types) all first
    → StandAt types all (first + k * length types)
stand_repeated types all zero k first lt s = absurd (omega (arith, lt))
stand_repeated types all (suc n) zero first lt s =
    subst (StandAt types all) (omega arith) (stand_left types (repeated n types) all first s)
stand_repeated types all (suc n) (suc k) first lt s =
    subst (StandAt types all) (let e = suc-mul k (length types) in omega (arith, e))
    (stand_repeated types all n k (first + length types) (omega (arith, lt)) (stand_right types (repeated n types) all first s))

-- ---- variables

-- a type of this key is there, and nests
pub record Nests (project : ProjectTree) (key : List ℕ) : Type 0 where
  pub there : type_named project key ≢ None
  pub within : NestsWithin (types_of_project project) (length (types_of_project project)) key

abbrev pub IsKnown : ProjectTree → TypeTree → Type 0
IsKnown project ty = AllNamed (Nests project) ty

abbrev pub AreKnown : ProjectTree → List VarTree → Type 0
AreKnown project vars = AllNamedIn (Nests project) (listed vars)

-- a part of the type is laid out there, and its cells have its types
pub record IsLaid (project : ProjectTree) (all : List Ty) (ty : TypeTree) (laid : Laid) : Type 0 where
  pub typed : laid.ty ≡ ty
  pub known : IsKnown project ty
  pub stands : StandAt (types_in project ty) all laid.first

-- what isn't there
abbrev pub IsNothing : Thing → Type 0
IsNothing (part ty) = ⊥
IsNothing (constant ty) = ⊥
IsNothing (a_block b) = ⊥
IsNothing (no_name at) = ⊤
IsNothing (no_array at) = ⊤
IsNothing (a_date at) = ⊤
IsNothing untold = ⊥

-- what is looked for by types and by the layout is found in both, or in none
abbrev pub Both : ProjectTree → List Ty → Option Laid → Thing → Type 0
Both project all None t = IsNothing t
Both project all (Some l) t = (t ≡ part l.ty) × IsLaid project all l.ty l

pub among_both : (project : ProjectTree) (all : List Ty) (test : Section → Bool) (vars : List VarTree) (key : List ℕ) (first : ℕ) (place : Place)
    → AreKnown project vars → StandAt (types_among project test vars) all first
    → Both project all (laid_among project test vars key first) (field_where (first_var (filter (λ v. test (section_of v)) vars) key) place)
among_both project all test [] key first place known s = tt
among_both project all test (var name section ty start at ∷ more) key first place known s =
    lead (λ n w. among_both project all test more key n place known.1 w) (test section) s
  where
    it : VarTree
    it = var name section ty start at

    kept : List VarTree
    kept = filter (λ v. test (section_of v)) more

    named_so : (same : Bool) → StandAt (types_in project ty ++ types_among project test more) all first
        → Both project all (laid_among project test more key (first + size_in project ty)) (field_where (first_var kept key) place)
        → Both project all (cond same (Some (record { ty = ty; first = first })) (laid_among project test more key (first + size_in project ty)))
        (field_where (cond same (Some it) (first_var kept key)) place)
    named_so true w rest = (
      refl,
      record { typed = refl; known = known.0; stands = stand_left (types_in project ty) (types_among project test more) all first w },
    )
    named_so false w rest = rest

    lead : ((n : ℕ) → StandAt (types_among project test more) all n
        → Both project all (laid_among project test more key n) (field_where (first_var kept key) place)) → (t : Bool)
        → StandAt (cond t (types_in project ty ++ types_among project test more) (types_among project test more)) all first
        → Both project all
        (cond t (cond (bytes_eq key name.key) (Some (record { ty = ty; first = first }))
        (laid_among project test more key (first + size_in project ty)))
        (laid_among project test more key first))
        (field_where (first_var (cond t (it ∷ kept) kept) key) place)
    lead rest true w = named_so (bytes_eq key name.key) w (rest (first + size_in project ty)
        (subst (λ n. StandAt (types_among project test more) all (first + n)) (types_counted project ty)
        (stand_right (types_in project ty) (types_among project test more) all first w)))
    lead rest false w = rest first w

all_kept : (vars : List VarTree) → filter (λ v. true) vars ≡ vars
all_kept [] = refl
all_kept (v ∷ more) = ap (λ l. v ∷ l) (all_kept more)

-- ---- fields

pub structure_both : (project : ProjectTree) (all : List Ty) (vars : List VarTree) (key : List ℕ) (first : ℕ) (place : Place)
    → AreKnown project vars → StandAt (types_among project (λ s. true) vars) all first
    → Both project all (laid_among project (λ s. true) vars key first) (field_where (first_var vars key) place)
structure_both project all vars key first place known s =
    subst (λ l. Both project all (laid_among project (λ s. true) vars key first) (field_where (first_var l key) place)) (all_kept vars)
    (among_both project all (λ s. true) vars key first place known s)

-- a type that a block of the project names is known, and so are the types of its variables
pub name_known : (project : ProjectTree) → KeepsRules project → (b : BlockTree) → Contains project.blocks b → (n : PlacedName)
    → Contains (named_types b) n → Nests project n.0.key
name_known project keeps b c n d = record {
  there = (grounded project keeps).there b n c d;
  within = (types_nest project keeps).named b n c d;
}

pub block_known : (project : ProjectTree) → KeepsRules project → (b : BlockTree) → Contains project.blocks b → AreKnown project b.vars
block_known project keeps b c = all_named_in (Nests project) (listed b.vars)
    (λ n d. name_known project keeps b c n (Contains-append_left (names_in_vars (listed b.vars)) (name_of_kind b.kind) n d))

pub named_both : (project : ProjectTree) → KeepsRules project → (all : List Ty) (type_key key : List ℕ) (first : ℕ) (place : Place)
    → Nests project type_key → StandAt (named_in project type_key) all first
    → Both project all (field_among project is_of_instance (type_named project type_key) key first)
    (field_within (type_named project type_key) key place)
named_both project keeps all type_key key first place nests s = lead (type_named project type_key) refl
  where
    lead : (o : Option BlockTree) → type_named project type_key ≡ o
        → Both project all (field_among project is_of_instance o key first) (field_within o key place)
    lead None is = absurd (nests.there is)
    lead (Some b) is = among_both project all is_of_instance b.vars key first place (block_known project keeps b (type_contained project type_key b is))
        (subst (λ l. StandAt l all first) (named_unfolds project type_key b.vars nests.within (type_looked_up project type_key b is)) s)

pub field_both : (scope : Scope) → KeepsRules scope.project → (all : List Ty) (ty : TypeTree) (key : List ℕ) (first : ℕ) (place : Place)
    → IsKnown scope.project ty → StandAt (types_in scope.project ty) all first
    → Both scope.project all (field_from scope.project ty first key) (field_of_type scope ty key place)
field_both scope keeps all (plain ty) key first place known s = tt
field_both scope keeps all (array low high of at) key first place known s = tt
field_both scope keeps all (structure vars) key first place known s =
    structure_both scope.project all (fields_of vars) key first place
    (subst (AllNamedIn (Nests scope.project)) (sym (listed-fields vars)) known)
    (subst (λ l. StandAt l all first) (fields_among (named_in scope.project) vars) s)
field_both scope keeps all (named name at) key first place known s =
    named_both scope.project keeps all name.key key first place known s
field_both scope keeps all unread key first place known s = tt

-- ---- elements

-- an index between the bounds
record IsBetween (low high i : ℤ) : Type 0 where
  few : unsigned_abs (i -ℤ low) < count_between low high

count_is : (z : ℤ) (k : ℕ) → pos (suc k) ≤ℤ z → k < count_of z
count_is z k e = grind (arith, ints)

between : (low high i : ℤ) → int_le low i && int_le i high ≡ true → IsBetween low high i
between low high i e = record { few = count_is ((high +ℤ pos 1) -ℤ low) (unsigned_abs (i -ℤ low)) (grind (arith, ints)) }

-- an element of an array is laid out where its index lies within the bounds
pub element_laid_out : (project : ProjectTree) (all : List Ty) (low high : ℤ) (of : TypeTree) (place : Place) (first : ℕ) (i : ℤ)
    → IsKnown project of → StandAt (repeated (count_between low high) (types_in project of)) all first → int_le low i && int_le i high ≡ true
    → IsLaid project all of (record { ty = of; first = first + unsigned_abs (i -ℤ low) * size_in project of })
element_laid_out project all low high of place first i known s inside = record {
  typed = refl;
  known = known;
  stands = subst (λ n. StandAt (types_in project of) all (first + unsigned_abs (i -ℤ low) * n)) (types_counted project of)
      (stand_repeated (types_in project of) all (count_between low high) (unsigned_abs (i -ℤ low)) first (between low high i inside).few s);
}
