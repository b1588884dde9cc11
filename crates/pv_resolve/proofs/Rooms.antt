-- What is laid out in a project that keeps the rules has its fields and elements within it, and so each name begins within what a
-- table may have.
use Rattle.std.proofs.Common.{◌≡◌, ℕ, zero, suc, ◌+◌, ◌*◌, ◌<◌, ℤ, pos, ◌+ℤ◌, ◌≤ℤ◌, List, [], ◌∷◌, ◌++◌, Bool, true, false, not, ◌&&◌, ◌||◌, Option, Some, None, IsTrue, Contains, refl, sym, ap, subst, ◌∙◌, suc-mul, arith}
use Rattle.std.specs.Prelude.{◌^◌, negsuc, IfSome, IsFalse, FitsSigned, ◌-ℤ◌, int_le, int_lt, unsigned_abs, bytes_eq, if◌then◌else◌}
use Rattle.std.specs.Int.{w64}
use Rattle.std.proofs.lemmas.Bool.{true≢false}
use Rattle.std.proofs.lemmas.Int.{ints}
use Rattle.std.proofs.lemmas.List.Elements.{Contains-append_right}
use Rattle.pv_word.specs.declared.types.Ty.{Ty}
use Rattle.pv_word.specs.declared.types.Ty.TheVariants.{Bool as BoolType, Byte, Word, Dword, Int, Dint, Time}
use Rattle.pv_word.specs.Types.{least_of, greatest_of}
use Rattle.pv_place.specs.declared.place.Place.{Place}
use Rattle.pv_types.specs.declared.declaration.Section.{Section}
use Rattle.pv_types.specs.Tree.{TypeTree, plain, array, structure, named, unread, VarTree, var, VarTrees, no_vars, _then_}
use Rattle.pv_types.specs.View.{listed, fields_of}
use Rattle.pv_types.specs.Named.{AllNamedIn}
use Rattle.pv_types.specs.Leaves.{count_of, count_between}
use Rattle.pv_types.specs.Sizes.{size_of_fields}
use Rattle.pv_types.proofs.ForCallers.{listed-fields}
use Rattle.pv_tree.specs.declared.block.BlockKind.{BlockKind}
use Rattle.pv_tree.specs.declared.block.BlockKind.TheVariants.{Fb, Fc, Ob, Db, Udt}
use Rattle.pv_tree.specs.Tree.{BlockTree}
use Rattle.pv_tree.specs.LiteralTypes.{holds}
use Rattle.pv_tree.specs.Scopes.{ProjectTree, is_of_instance, type_named}
use Rattle.pv_tree.specs.Interfaces.{types_in, types_in_vars}
use Rattle.pv_tree.specs.Rules.{KeepsRules, wrong_array}
use Rattle.pv_tree.specs.Rules.Arrays.{is_wrong_array, is_array}
use Rattle.pv_tree.specs.Rules.MissingTypes.{names_in_vars, name_of_kind}
use Rattle.pv_tree.proofs.ForCallers.{type_contained, type_looked_up, types_nest}
use Rattle.pv_mean.specs.declared.count.TheConstants.{BEYOND}
use Rattle.pv_mean.specs.Layout.{Laid, size_of_name, size_in, size_among, laid_among, field_among, field_from, field_laid, held_by}
use Rattle.pv_mean.specs.Sources.{Source}
use Rattle.pv_mean.specs.Activations.{Begins, in_visible, in_brief, at, visible_where, brief_where}
use Rattle.pv_mean.specs.Values.{field_begins}
use Rattle.pv_mean.proofs.ForCallers.{size_laid_out, instance_among}
use Rattle.pv_eval.specs.Operands.{span}
use Rattle.pv_resolve.specs.Rooms.{IsNested, IsRight, IsSound, IsRoomy, BeginsRoomy}

-- ---- lists

pub contains_more : {X : Type 0} (x y : X) (xs : List X) → Contains xs y → Contains (x ∷ xs) y
contains_more x y xs (k, lt, e) = (suc k, omega (arith, lt), e)

pub contains_behind : {X : Type 0} (y : X) (xs ys : List X) → Contains ys y → Contains (xs ++ ys) y
contains_behind y [] ys c = c
contains_behind y (x ∷ xs) ys c = contains_more x y (xs ++ ys) (contains_behind y xs ys c)

contains_front : {X : Type 0} (y : X) (xs ys : List X) → Contains xs y → Contains (xs ++ ys) y
contains_front y [] ys (k, lt, e) = absurd (omega (arith, lt))
contains_front y (x ∷ xs) ys (zero, lt, e) = (0, omega arith, e)
contains_front y (x ∷ xs) ys (suc k, lt, e) = contains_more x y (xs ++ ys) (contains_front y xs ys (k, omega (arith, lt), e))

pub same_some : {X : Type 0} (x y : X) → Some x ≡ Some y → x ≡ y
same_some x y e = cc

-- ---- sizes

fields_size : (project : ProjectTree) (vars : VarTrees) → size_of_fields (size_of_name project) vars ≡ size_among project (λ s. true) (fields_of vars)
fields_size project no_vars = refl
fields_size project (_then_ (var name section ty start place) more) = ap (λ n. size_in project ty + n) (fields_size project more)

named_size : (project : ProjectTree) (key : List ℕ) (b : BlockTree) → type_named project key ≡ Some b → IsNested project key
    → size_of_name project key ≡ size_among project is_of_instance b.vars
named_size project key b is nests =
    size_laid_out _ _ key b.vars nests (type_looked_up project key b is) ∙ instance_among project b.vars

-- ---- declarations that break no rule

pub record AreSound (project : ProjectTree) (vars : List VarTree) : Type 0 where
  pub nest : AllNamedIn (IsNested project) (listed vars)
  pub arrays : (t : TypeTree) → Contains (types_in_vars (listed vars)) t → IsRight t

isnt : (b : Bool) → (IsTrue b → ⊥) → IsFalse b
isnt true f = absurd (f refl)
isnt false f = refl

right : (project : ProjectTree) → KeepsRules project → (b : BlockTree) → Contains project.blocks b → (t : TypeTree)
    → Contains (types_in_vars (listed b.vars)) t → IsRight t
right project keeps b c (plain ty) d = tt
right project keeps b c (array low high of place) d = isnt (is_wrong_array low high of)
    (λ wrong. keeps wrong_array place (c.0, b, c.1, c.2, (d.0, array low high of place, d.1, d.2, (refl, wrong))))
right project keeps b c (structure vars) d = tt
right project keeps b c (named name place) d = tt
right project keeps b c unread d = tt

pub block_sound : (project : ProjectTree) → KeepsRules project → (b : BlockTree) → Contains project.blocks b → AreSound project b.vars
block_sound project keeps b c = record {
  nest = (types_nest project keeps).vars b c;
  arrays = right project keeps b c;
}

-- of a type without others in it
one_right : (x : TypeTree) → IsRight x → (t : TypeTree) → Contains (x ∷ []) t → IsRight t
one_right x h t (zero, lt, e) = subst IsRight e h
one_right x h t (suc n, lt, e) = absurd (omega (arith, lt))

structure_right : (vars : VarTrees) → ((t : TypeTree) → Contains (types_in_vars vars) t → IsRight t) → (t : TypeTree)
    → Contains (structure vars ∷ types_in_vars vars) t → IsRight t
structure_right vars f t (zero, lt, e) = subst IsRight e tt
structure_right vars f t (suc n, lt, e) = f t (n, omega (arith, lt), e)

-- what a data block holds
pub held_sound : (project : ProjectTree) → KeepsRules project → (b : BlockTree) → Contains project.blocks b → (kind : BlockKind) → b.kind ≡ kind
    → IsSound project (held_by kind b.vars)
held_sound project keeps b c Fb k = record { nests = tt; arrays = one_right unread tt }
held_sound project keeps b c Fc k = record { nests = tt; arrays = one_right unread tt }
held_sound project keeps b c Ob k = record { nests = tt; arrays = one_right unread tt }
held_sound project keeps b c (Db None) k = record {
  nests = (block_sound project keeps b c).nest;
  arrays = structure_right (listed b.vars) (right project keeps b c);
}
held_sound project keeps b c (Db (Some of)) k = record {
  nests = (types_nest project keeps).named b of c (Contains-append_right (names_in_vars (listed b.vars)) (name_of_kind b.kind) of
      (subst (λ x. Contains (name_of_kind x) of) (sym k) (0, omega arith, refl)));
  arrays = one_right (named of.0 of.1) tt;
}
held_sound project keeps b c Udt k = record { nests = tt; arrays = one_right unread tt }

-- ---- variables, fields

pub among_roomy : (project : ProjectTree) (test : Section → Bool) (vars : List VarTree) (key : List ℕ) (first more : ℕ)
    → AreSound project vars → first + more + size_among project test vars < BEYOND
    → IfSome (laid_among project test vars key first) (IsRoomy project more)
among_roomy project test [] key first more sound within = tt
among_roomy project test (var name section ty start place ∷ others) key first more sound within =
    lead (test section) (bytes_eq key name.key) within (λ n w. among_roomy project test others key n more behind w)
  where
    behind : AreSound project others
    behind = record {
      nest = sound.nest.1;
      arrays = λ t c. sound.arrays t (contains_behind t (types_in ty) (types_in_vars (listed others)) c);
    }

    lead : (t same : Bool)
        → first + more + (if t then size_in project ty + size_among project test others else size_among project test others) < BEYOND
        → ((n : ℕ) → n + more + size_among project test others < BEYOND → IfSome (laid_among project test others key n) (IsRoomy project more))
        → IfSome (if t then (if same then Some (record { ty = ty; first = first }) else laid_among project test others key (first + size_in project ty))
        else laid_among project test others key first) (IsRoomy project more)
    lead true true w rest = record {
      sound = record {
        nests = sound.nest.0;
        arrays = λ t c. sound.arrays t (contains_front t (types_in ty) (types_in_vars (listed others)) c);
      };
      within = omega (arith, w);
    }
    lead true false w rest = rest (first + size_in project ty) (omega (arith, w))
    lead false same w rest = rest first w

from_roomy : (project : ProjectTree) → KeepsRules project → (ty : TypeTree) (first more : ℕ) (key : List ℕ) → IsSound project ty
    → first + more + size_in project ty < BEYOND → IfSome (field_from project ty first key) (IsRoomy project more)
from_roomy project keeps (plain ty) first more key sound within = tt
from_roomy project keeps (array low high of place) first more key sound within = tt
from_roomy project keeps (structure vars) first more key sound within =
    among_roomy project (λ s. true) (fields_of vars) key first more
    (record {
      nest = subst (AllNamedIn (IsNested project)) (sym (listed-fields vars)) sound.nests;
      arrays = λ t c. sound.arrays t (contains_more (structure vars) t (types_in_vars vars)
          (subst (λ l. Contains (types_in_vars l) t) (listed-fields vars) c));
    })
    (let e = fields_size project vars in omega (arith, e, within))
from_roomy project keeps (named name place) first more key sound within = lead (type_named project name.key) refl
  where
    lead : (o : Option BlockTree) → type_named project name.key ≡ o → IfSome (field_among project is_of_instance o key first) (IsRoomy project more)
    lead None is = tt
    lead (Some b) is =
        among_roomy project is_of_instance b.vars key first more (block_sound project keeps b (type_contained project name.key b is))
        (let e = named_size project name.key b is sound.nests in omega (arith, e, within))
from_roomy project keeps unread first more key sound within = tt

pub field_roomy : (project : ProjectTree) → KeepsRules project → (more : ℕ) (l : Laid) (key : List ℕ) → IsRoomy project more l
    → IfSome (field_laid project l key) (IsRoomy project more)
field_roomy project keeps more l key h = from_roomy project keeps l.ty l.first more key h.sound h.within

pub visible_roomy : (project : ProjectTree) (more : ℕ) (o : Option Laid) → IfSome o (IsRoomy project more) → BeginsRoomy project more (visible_where o)
visible_roomy project more None h = tt
visible_roomy project more (Some l) h = h

pub brief_roomy : (project : ProjectTree) (more : ℕ) (o : Option Laid) → IfSome o (IsRoomy project more) → BeginsRoomy project more (brief_where o)
brief_roomy project more None h = tt
brief_roomy project more (Some l) h = h

pub begins_field : (source : Source) → KeepsRules source.project → (more : ℕ) (b : Begins) (key : List ℕ) → BeginsRoomy source.project more b
    → BeginsRoomy source.project more (field_begins source b key)
begins_field source keeps more (in_visible l) key h =
    visible_roomy source.project more (field_laid source.project l key) (field_roomy source.project keeps more l key h)
begins_field source keeps more (in_brief l) key h =
    brief_roomy source.project more (field_laid source.project l key) (field_roomy source.project keeps more l key h)
begins_field source keeps more (at spot) key h = tt

-- ---- elements

-- an array that breaks no rule
record IsBounded (low high : ℤ) : Type 0 where
  rising : low ≤ℤ high
  low_holds : holds Dint low ≡ true
  high_holds : holds Dint high ≡ true

bounded : (a b c d e : Bool) → a || not b || not c || d || e ≡ false → (a ≡ false) × (b ≡ true) × (c ≡ true)
bounded false true true d e h = (refl, refl, refl)
bounded true b c d e h = absurd (true≢false h)
bounded false false c d e h = absurd (true≢false h)
bounded false true false d e h = absurd (true≢false h)

not_less : (low high : ℤ) → int_lt high low ≡ false → low ≤ℤ high
not_less low high e = grind (arith, ints)

is_bounded : (low high : ℤ) (of : TypeTree) → IsFalse (is_wrong_array low high of) → IsBounded low high
is_bounded low high of h =
    let w = bounded (int_lt high low) (holds Dint low) (holds Dint high) (int_lt (pos 10000) ((high -ℤ low) +ℤ pos 1)) (is_array of) h in
    record { rising = not_less low high w.0; low_holds = w.1; high_holds = w.2 }

from_holds : (a b v : ℤ) → int_le a v && int_le v b ≡ true → (a ≤ℤ v) × (v ≤ℤ b)
from_holds a b v e = (grind (arith, ints), grind (arith, ints))

bounded_fits : (a b v : ℤ) → unsigned_abs a < 2 ^ 63 → unsigned_abs b < 2 ^ 63 → a ≤ℤ v → v ≤ℤ b → FitsSigned w64 v
bounded_fits a (pos m) (pos n) p q l r = record { sfits = omega (arith, ints, q, r) }
bounded_fits a (negsuc m) (pos n) p q l r = absurd (omega (arith, ints, r))
bounded_fits (pos k) b (negsuc n) p q l r = absurd (omega (arith, ints, l))
bounded_fits (negsuc k) b (negsuc n) p q l r = record { sfits = omega (arith, ints, p, l) }

type_bounds : (ty : Ty) → (unsigned_abs (least_of ty) < 2 ^ 63) × (unsigned_abs (greatest_of ty) < 2 ^ 63)
type_bounds BoolType = (omega arith, omega arith)
type_bounds Byte = (omega arith, omega arith)
type_bounds Word = (omega arith, omega arith)
type_bounds Dword = (omega arith, omega arith)
type_bounds Int = (omega arith, omega arith)
type_bounds Dint = (omega arith, omega arith)
type_bounds Time = (omega arith, omega arith)

pub holds_fits : (ty : Ty) (v : ℤ) → holds ty v ≡ true → FitsSigned w64 v
holds_fits ty v e =
    let w = from_holds (least_of ty) (greatest_of ty) v e in
    let b = type_bounds ty in bounded_fits (least_of ty) (greatest_of ty) v b.0 b.1 w.0 w.1

count_is : (z : ℤ) (k : ℕ) → z ≡ pos (suc k) → count_of z ≡ suc k
count_is z k e = ap count_of e

one_more : (low high : ℤ) → low ≤ℤ high → (high +ℤ pos 1) -ℤ low ≡ pos (suc (unsigned_abs (high -ℤ low)))
one_more low high le = grind (arith, ints)

pub record ElementRoomy (project : ProjectTree) (more : ℕ) (low high : ℤ) (of : TypeTree) (first : ℕ) : Type 0 where
  pub low_fits : FitsSigned w64 low
  pub high_fits : FitsSigned w64 high
  pub stride : size_in project of < BEYOND
  pub roomy : IsRoomy project (more + span low high (size_in project of)) (record { ty = of; first = first })

pub element_roomy : (project : ProjectTree) (more : ℕ) (low high : ℤ) (of : TypeTree) (place : Place) (first : ℕ)
    → IsRoomy project more (record { ty = array low high of place; first = first }) → ElementRoomy project more low high of first
element_roomy project more low high of place first h =
    let b = is_bounded low high of (h.sound.arrays (array low high of place) (0, omega arith, refl)) in
    let s = size_in project of in
    let k = unsigned_abs (high -ℤ low) in
    let count = count_is ((high +ℤ pos 1) -ℤ low) k (one_more low high b.rising) in
    let whole : count_between low high * s ≡ suc k * s = ap (λ n. n * s) count in
    let one = suc-mul k s in
    record {
      low_fits = holds_fits Dint low b.low_holds;
      high_fits = holds_fits Dint high b.high_holds;
      stride = (let w = h.within in omega (arith, w, whole, one));
      roomy = record {
        sound = record {
          nests = h.sound.nests;
          arrays = λ t c. h.sound.arrays t (contains_more (array low high of place) t (types_in of) c);
        };
        within = (let w = h.within in omega (arith, w, whole, one));
      };
    }
