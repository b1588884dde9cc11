-- A field and an element lie among the cells of what they are parts of.
use Rattle.std.proofs.Common.{◌≡◌, ◌<◌, ◌≤◌, ℕ, zero, suc, ◌+◌, ◌*◌, ℤ, pos, ◌+ℤ◌, ◌≤ℤ◌, List, [], ◌∷◌, ◌++◌, length, Bool, true, false, cond, ◌&&◌, Option, Some, None, Contains, refl, sym, ap, subst, ◌∙◌, append-nil, suc-mul, arith}
use Rattle.std.specs.Prelude.{◌-ℤ◌, int_le, unsigned_abs, bytes_eq, Any}
use Rattle.std.proofs.lemmas.Int.{ints}
use Rattle.std.proofs.lemmas.List.{length-append}
use Rattle.std.proofs.lemmas.List.Elements.{Contains-append_left, Contains-append_right}
use Rattle.std.proofs.lemmas.Option.{none-some, same_Some}
use Rattle.pv_word.specs.declared.types.Ty.{Ty}
use Rattle.pv_word.specs.declared.types.Ty.TheVariants.{Dint}
use Rattle.pv_place.specs.declared.place.Place.{Place}
use Rattle.pv_types.specs.declared.declaration.Section.{Section}
use Rattle.pv_types.specs.Tree.{TypeTree, plain, array, structure, named, unread, VarTree, var, VarTrees, no_vars, _then_}
use Rattle.pv_types.specs.View.{listed, fields_of, declared_type_of}
use Rattle.pv_types.specs.Named.{AllNamed, AllNamedIn}
use Rattle.pv_types.specs.Leaves.{count_of, count_between}
use Rattle.pv_types.proofs.ForCallers.{listed-fields}
use Rattle.pv_tree.specs.declared.block.BlockKind.{BlockKind}
use Rattle.pv_tree.specs.declared.block.BlockKind.TheVariants.{Fb, Fc, Ob, Db, Udt}
use Rattle.pv_tree.specs.Tree.{PlacedName, BlockTree}
use Rattle.pv_tree.specs.Scopes.{ProjectTree, Scope, first_var, is_of_instance, type_named}
use Rattle.pv_tree.specs.Things.{Thing, part, field_of_type}
use Rattle.pv_tree.specs.Rules.{KeepsRules}
use Rattle.pv_tree.specs.Rules.MissingTypes.{names_in_vars, name_of_kind, named_types}
use Rattle.pv_tree.proofs.ForCallers.{type_contained, all_named_in}
use Rattle.pv_mean.specs.Layout.{Laid, size_in, laid_among, field_among, field_from, field_laid, element_laid, held_by, data_type}
use Rattle.pv_laws_types.specs.Typed.{StandAt}
use Rattle.pv_laws_types.proofs.ForCallers.{types_in, types_counted, Nests, IsKnown, IsNothing, Both, name_known, field_both}
use Rattle.pv_laws_scans.specs.Naming.{LiesIn, NamesTypesOf}
use Rattle.pv_laws_scans.proofs.LaidOut.{laid-behind}

-- ---- types that are named

module _ (P Q : List ℕ → Type 0) (to : (key : List ℕ) → P key → Q key) where
  mutual
    named-to : (t : TypeTree) → AllNamed P t → AllNamed Q t
    named-to (plain ty) p = tt
    named-to (array low high of place) p = named-to of p
    named-to (structure vars) p = named-in-to vars p
    named-to (named name place) p = to name.key p
    named-to unread p = tt

    named-in-to : (vars : VarTrees) → AllNamedIn P vars → AllNamedIn Q vars
    named-in-to no_vars p = tt
    named-in-to (_then_ (var name section ty start place) xs) p = (named-to ty p.0, named-in-to xs p.1)

abbrev IsNamed : ProjectTree → List ℕ → Type 0
IsNamed project key = Any (λ b. Any (λ n. n.0.key ≡ key) (named_types b)) project.blocks

names-known : (project : ProjectTree) → KeepsRules project → (ty : TypeTree) → NamesTypesOf project ty → IsKnown project ty
names-known project keeps ty all = named-to (IsNamed project) (Nests project)
    (λ key w. subst (Nests project) w.4.4 (name_known project keeps w.1 (w.0, w.2, w.3) w.4.1 (w.4.0, w.4.2, w.4.3))) ty all

block-names : (project : ProjectTree) (b : BlockTree) → Contains project.blocks b → (n : PlacedName) → Contains (named_types b) n
    → IsNamed project n.0.key
block-names project b c n d = (c.0, b, c.1, c.2, (d.0, n, d.1, d.2, refl))

vars-named : (project : ProjectTree) (b : BlockTree) → Contains project.blocks b → AllNamedIn (IsNamed project) (listed b.vars)
vars-named project b c = all_named_in (IsNamed project) (listed b.vars)
    (λ n d. block-names project b c n (Contains-append_left (names_in_vars (listed b.vars)) (name_of_kind b.kind) n d))

found-named : (project : ProjectTree) (vars : List VarTree) (key : List ℕ) (v : VarTree) → AllNamedIn (IsNamed project) (listed vars)
    → first_var vars key ≡ Some v → NamesTypesOf project (declared_type_of v)
found-named project [] key v all e = absurd (none-some v e)
found-named project (var name section ty start place ∷ more) key v all e =
    lead (bytes_eq key name.key) e (λ f. found-named project more key v all.1 f)
  where
    lead : (same : Bool) → cond same (Some (var name section ty start place)) (first_var more key) ≡ Some v
        → (first_var more key ≡ Some v → NamesTypesOf project (declared_type_of v)) → NamesTypesOf project (declared_type_of v)
    lead true f behind = subst (λ x. NamesTypesOf project (declared_type_of x)) (same_Some (var name section ty start place) v f) all.0
    lead false f behind = behind f

pub variable-named : (project : ProjectTree) (b : BlockTree) (key : List ℕ) (v : VarTree) → Contains project.blocks b
    → first_var b.vars key ≡ Some v → NamesTypesOf project (declared_type_of v)
variable-named project b key v c e = found-named project b.vars key v (vars-named project b c) e

kind-named : (project : ProjectTree) (b : BlockTree) → Contains project.blocks b → (kind : BlockKind) → b.kind ≡ kind
    → NamesTypesOf project (held_by kind b.vars)
kind-named project b c Fb k = tt
kind-named project b c Fc k = tt
kind-named project b c Ob k = tt
kind-named project b c (Db None) k = vars-named project b c
kind-named project b c (Db (Some of)) k =
    block-names project b c of (Contains-append_right (names_in_vars (listed b.vars)) (name_of_kind b.kind) of
    (subst (λ x. Contains (name_of_kind x) of) (sym k) (0, omega arith, refl)))
kind-named project b c Udt k = tt

pub data-named : (project : ProjectTree) (b : BlockTree) → Contains project.blocks b → NamesTypesOf project (data_type b)
data-named project b c = kind-named project b c b.kind refl

among-named : (project : ProjectTree) (test : Section → Bool) (vars : List VarTree) (key : List ℕ) (first : ℕ) (laid : Laid)
    → AllNamedIn (IsNamed project) (listed vars) → laid_among project test vars key first ≡ Some laid → NamesTypesOf project laid.ty
among-named project test [] key first laid all e = absurd (none-some laid e)
among-named project test (var name section ty start place ∷ more) key first laid all e =
    lead (λ n f. among-named project test more key n laid all.1 f) (test section) (bytes_eq key name.key) e
  where
    lead : ((n : ℕ) → laid_among project test more key n ≡ Some laid → NamesTypesOf project laid.ty) → (t same : Bool)
        → cond t (cond same (Some (record { ty = ty; first = first })) (laid_among project test more key (first + size_in project ty)))
        (laid_among project test more key first)
        ≡ Some laid
        → NamesTypesOf project laid.ty
    lead later true true f = subst (λ (l : Laid). NamesTypesOf project l.ty) (same_Some (record { ty = ty; first = first }) laid f) all.0
    lead later true false f = later (first + size_in project ty) f
    lead later false same f = later first f

field-named : (project : ProjectTree) (ty : TypeTree) (key : List ℕ) (first : ℕ) (laid : Laid) → NamesTypesOf project ty
    → field_from project ty first key ≡ Some laid → NamesTypesOf project laid.ty
field-named project (plain ty) key first laid all e = absurd (none-some laid e)
field-named project (array low high of place) key first laid all e = absurd (none-some laid e)
field-named project (structure vars) key first laid all e =
    among-named project (λ s. true) (fields_of vars) key first laid (subst (AllNamedIn (IsNamed project)) (sym (listed-fields vars)) all) e
field-named project (named name place) key first laid all e = lead (type_named project name.key) refl e
  where
    lead : (o : Option BlockTree) → type_named project name.key ≡ o → field_among project is_of_instance o key first ≡ Some laid
        → NamesTypesOf project laid.ty
    lead None is f = absurd (none-some laid f)
    lead (Some b) is f =
        among-named project is_of_instance b.vars key first laid (vars-named project b (type_contained project name.key b is)) f
field-named project unread key first laid all e = absurd (none-some laid e)

-- ---- fields

field-behind : (project : ProjectTree) (ty : TypeTree) (key : List ℕ) (first : ℕ) (laid : Laid) → field_from project ty first key ≡ Some laid
    → first ≤ laid.first
field-behind project (plain ty) key first laid e = absurd (none-some laid e)
field-behind project (array low high of place) key first laid e = absurd (none-some laid e)
field-behind project (structure vars) key first laid e = laid-behind project (λ s. true) (fields_of vars) key first laid e
field-behind project (named name place) key first laid e = lead (type_named project name.key) e
  where
    lead : (o : Option BlockTree) → field_among project is_of_instance o key first ≡ Some laid → first ≤ laid.first
    lead None f = absurd (none-some laid f)
    lead (Some b) f = laid-behind project is_of_instance b.vars key first laid f
field-behind project unread key first laid e = absurd (none-some laid e)

abbrev pad : ℕ → List Ty
pad zero = []
pad (suc n) = Dint ∷ pad n

pad-length : (n : ℕ) → length (pad n) ≡ n
pad-length zero = refl
pad-length (suc n) = ap suc (pad-length n)

pub same-part : (a b : TypeTree) → part a ≡ part b → a ≡ b
same-part a b e = cc

pub field-has : (scope : Scope) (laid : Laid) (key : List ℕ) (place : Place) (ty : TypeTree) → KeepsRules scope.project
    → NamesTypesOf scope.project laid.ty → field_of_type scope laid.ty key place ≡ part ty
    → (field : Laid) × (field_laid scope.project laid key ≡ Some field) × (field.ty ≡ ty)
    × LiesIn scope.project laid.first (size_in scope.project laid.ty) field × NamesTypesOf scope.project ty
field-has scope laid key place ty keeps all means =
    lead (field_laid scope.project laid key) refl
    (field_both scope keeps cells laid.ty key laid.first place (names-known scope.project keeps laid.ty all) stands)
  where
    cells : List Ty
    cells = pad laid.first ++ types_in scope.project laid.ty

    stands : StandAt (types_in scope.project laid.ty) cells laid.first
    stands = record {
      front = pad laid.first;
      back = [];
      is = ap (λ l. pad laid.first ++ l) (sym (append-nil (types_in scope.project laid.ty)));
      at = pad-length laid.first;
    }

    counted : length cells ≡ laid.first + size_in scope.project laid.ty
    counted = let a = length-append (pad laid.first) (types_in scope.project laid.ty) in
        let b = pad-length laid.first in
        let c = types_counted scope.project laid.ty in omega (arith, a, b, c)

    within : (f : Laid) → StandAt (types_in scope.project f.ty) cells f.first → f.first + size_in scope.project f.ty ≤ length cells
    within f s = let a = ap length s.is in
        let b = length-append s.front (types_in scope.project f.ty ++ s.back) in
        let c = length-append (types_in scope.project f.ty) s.back in
        let d = types_counted scope.project f.ty in
        let e = s.at in omega (arith, a, b, c, d, e)

    nothing-means : (t : Thing) → t ≡ part ty → IsNothing t → ⊥
    nothing-means t e h = subst IsNothing e h

    lead : (o : Option Laid) → field_laid scope.project laid key ≡ o → Both scope.project cells o (field_of_type scope laid.ty key place)
        → (field : Laid) × (field_laid scope.project laid key ≡ Some field) × (field.ty ≡ ty)
        × LiesIn scope.project laid.first (size_in scope.project laid.ty) field × NamesTypesOf scope.project ty
    lead None is h = absurd (nothing-means (field_of_type scope laid.ty key place) means h)
    lead (Some f) is h =
        let same = same-part f.ty ty (sym h.0 ∙ means) in (
          f,
          is,
          same,
          record {
            from = field-behind scope.project laid.ty key laid.first f is;
            to = (let w = within f h.1.stands in omega (arith, w, counted));
          },
          subst (NamesTypesOf scope.project) same (field-named scope.project laid.ty key laid.first f all is),
        )

-- ---- elements

times-below : (k n size : ℕ) → k < n → k * size + size ≤ n * size
times-below k zero size lt = absurd (omega (arith, lt))
times-below zero (suc n) size lt = let e = suc-mul n size in omega (arith, e)
times-below (suc k) (suc n) size lt =
    let b = times-below k n size (omega (arith, lt)) in
    let e = suc-mul n size in
    let f = suc-mul k size in omega (arith, b, e, f)

count-is : (z : ℤ) (k : ℕ) → pos (suc k) ≤ℤ z → k < count_of z
count-is z k e = grind (arith, ints)

few : (low high i : ℤ) → int_le low i && int_le i high ≡ true → unsigned_abs (i -ℤ low) < count_between low high
few low high i e = count-is ((high +ℤ pos 1) -ℤ low) (unsigned_abs (i -ℤ low)) (grind (arith, ints))

pub element-has : (project : ProjectTree) (low high : ℤ) (of : TypeTree) (place : Place) (first : ℕ) (i : ℤ) → int_le low i ≡ true
    → int_le i high ≡ true
    → (element : Laid) × (element_laid project (record { ty = array low high of place; first = first }) i ≡ Some element)
    × (element.ty ≡ of) × LiesIn project first (size_in project (array low high of place)) element
element-has project low high of place first i above below =
    let inside = ap (λ b. b && int_le i high) above ∙ below in
    let t = times-below (unsigned_abs (i -ℤ low)) (count_between low high) (size_in project of) (few low high i inside) in (
      record { ty = of; first = first + unsigned_abs (i -ℤ low) * size_in project of },
      ap (λ b. cond b (Some (record { ty = of; first = first + unsigned_abs (i -ℤ low) * size_in project of })) None) inside,
      refl,
      record { from = omega arith; to = omega (arith, t) },
    )
