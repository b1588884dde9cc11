-- What the layout says of a variable is where its leaves stand among those of the whole.
use Rattle.std.proofs.Common.{◌≡◌, ℕ, zero, suc, ◌+◌, ◌*◌, ◌<◌, ℤ, pos, ◌+ℤ◌, ◌≤ℤ◌, List, [], ◌∷◌, ◌++◌, length, Bool, true, false, cond, ◌&&◌, Option, Some, None, refl, sym, ap, subst, ◌∙◌, append_assoc, suc-mul, arith}
use Rattle.std.specs.Prelude.{◌-ℤ◌, int_le, unsigned_abs, unwrap_or, option_and_then, bytes_eq}
use Rattle.std.proofs.lemmas.Int.{ints}
use Rattle.std.proofs.lemmas.List.{length-append}
use Rattle.std.proofs.lemmas.Option.{none-some}
use Rattle.pv_types.specs.declared.declaration.Literal.{Literal}
use Rattle.pv_types.specs.declared.declaration.Section.{Section}
use Rattle.pv_types.specs.declared.declaration.Section.TheVariants.{Input, Output, InOut, Static, Temp, Const}
use Rattle.pv_types.specs.declared.leaf.Leaf.{Leaf}
use Rattle.pv_types.specs.Tree.{TypeTree, plain, array, structure, named, unread, VarTree, var}
use Rattle.pv_types.specs.View.{listed, fields_of}
use Rattle.pv_types.specs.Named.{AllNamed, AllNamedIn}
use Rattle.pv_types.specs.Leaves.{Around, instance, fields, section_within, field_path, element_path, start_value, count_of, count_between, leaves_where, leaves_of_elements, leaves_of_type, leaves_of_vars, leaves_of_named}
use Rattle.pv_types.proofs.ForCallers.{counted_leaves, named_laid_out, listed-fields}
use Rattle.pv_tree.specs.Tree.{StepTree, field, index, StepTrees, no_steps, steps, BlockTree}
use Rattle.pv_tree.specs.Scopes.{ProjectTree, is_of_instance, type_named}
use Rattle.pv_tree.specs.NamedTypes.{types_of_project}
use Rattle.pv_tree.specs.Types.{Written, literal_of}
use Rattle.pv_tree.specs.Rules.{KeepsRules}
use Rattle.pv_tree.proofs.ForCallers.{type_contained, type_looked_up}
use Rattle.pv_mean.specs.Layout.{size_in, Laid, laid_among, field_among, field_from, field_laid, element_from, element_laid, laid_at_step, laid_behind}
use Rattle.pv_laws_starts.proofs.Declared.{IsLaidOut, vars_laid_out}

pub same_some : {X : Type 0} (x y : X) → Some x ≡ Some y → x ≡ y
same_some x y e = cc

-- ---- the leaves of a type in a data block

abbrev pub expand_in : ProjectTree → List ℕ → List ℕ → Section → List Leaf
expand_in project = leaves_of_named (types_of_project project) (length (types_of_project project))

abbrev pub leaves_at : ProjectTree → List ℕ → Option Literal → TypeTree → List Leaf
leaves_at project path start ty = leaves_of_type (expand_in project) path (start_value start) Static ty

counted : (project : ProjectTree) (path : List ℕ) (start : Option Literal) (ty : TypeTree)
    → length (leaves_at project path start ty) ≡ size_in project ty
counted project path start ty =
    let e = counted_leaves (types_of_project project)
    (var (record { key = []; spelled = path; paired = false }) Static ty start (record { file = 0; offset = 0 }) ∷ []) in
    let a = length-append (leaves_at project path start ty) [] in omega (arith, e, a)

-- the leaves of what is laid out stand among these, behind as many as its first cell's number says
pub record Stands (project : ProjectTree) (all : List Leaf) (laid : Laid) : Type 0 where
  pub front : List Leaf
  pub back : List Leaf
  pub path : List ℕ
  pub start : Option Literal
  pub is : all ≡ front ++ (leaves_at project path start laid.ty ++ back)
  pub at : length front ≡ laid.first

-- ---- variables

-- where variables stand whose sections pass the test and that have leaves
abbrev Takes : Around → (Section → Bool) → Type 0
Takes around test = (s : Section) → section_within around s ≡ cond (test s) (Some Static) None

module _ (project : ProjectTree) (all : List Leaf) (around : Around) (test : Section → Bool) (takes : Takes around test)
    (path : List ℕ) (key : List ℕ) (laid : Laid) where
  abbrev Behind : List VarTree → ℕ → Type 0
  Behind vars first = (front back : List Leaf)
      → all ≡ front ++ (leaves_of_vars (expand_in project) around path (listed vars) ++ back) → length front ≡ first
      → laid_among project test vars key first ≡ Some laid → Stands project all laid

  among_stands : (vars : List VarTree) (first : ℕ) → Behind vars first
  among_stands [] first front back is at e = absurd (none-some laid e)
  among_stands (var name section ty start place ∷ more) first front back is at e =
      lead (λ n. among_stands more n) (test section) (bytes_eq key name.key)
      (subst (λ o. all ≡ front ++ ((leaves_where o its ++ rest) ++ back)) (takes section) is) e
    where
      its : Section → List Leaf
      its s = leaves_of_type (expand_in project) (field_path path name) (start_value start) s ty

      rest : List Leaf
      rest = leaves_of_vars (expand_in project) around path (listed more)

      lead : ((n : ℕ) → Behind more n) → (t same : Bool) → all ≡ front ++ ((leaves_where (cond t (Some Static) None) its ++ rest) ++ back)
          → cond t (cond same (Some (record { ty = ty; first = first })) (laid_among project test more key (first + size_in project ty)))
          (laid_among project test more key first)
          ≡ Some laid
          → Stands project all laid
      lead later true true now found = subst (Stands project all) (same_some (record { ty = ty; first = first }) laid found) (record {
        front = front;
        back = rest ++ back;
        path = field_path path name;
        start = start;
        is = now ∙ ap (λ l. front ++ l) (append_assoc (its Static) rest back);
        at = at;
      })
      lead later true false now found =
          later (first + size_in project ty) (front ++ its Static) back
          (now ∙ (ap (λ l. front ++ l) (append_assoc (its Static) rest back) ∙ sym (append_assoc front (its Static) (rest ++ back))))
          (let a = length-append front (its Static) in
          let c = counted project (field_path path name) start ty in omega (arith, a, c, at)) found
      lead later false same now found = later first front back now at found

-- ---- fields

takes_fields : Takes (fields Static) (λ s. true)
takes_fields s = refl

takes_instance : Takes (instance Static) is_of_instance
takes_instance Input = refl
takes_instance Output = refl
takes_instance InOut = refl
takes_instance Static = refl
takes_instance Temp = refl
takes_instance Const = refl

-- each type that is named in one is laid out
abbrev pub IsKnown : ProjectTree → TypeTree → Type 0
IsKnown project ty = AllNamed (IsLaidOut project) ty

type_stands : (project : ProjectTree) (all : List Leaf) (key : List ℕ) (laid : Laid) (type_key path : List ℕ) (first : ℕ)
    → IsLaidOut project type_key → (front back : List Leaf) → all ≡ front ++ (expand_in project type_key path Static ++ back)
    → length front ≡ first → (o : Option BlockTree) → type_named project type_key ≡ o
    → field_among project is_of_instance o key first ≡ Some laid → Stands project all laid
type_stands project all key laid type_key path first known front back is at None type_is e = absurd (none-some laid e)
type_stands project all key laid type_key path first known front back is at (Some b) type_is e =
    among_stands project all (instance Static) is_of_instance takes_instance path key laid b.vars first front back
    (is ∙ ap (λ l. front ++ (l ++ back))
    (named_laid_out (types_of_project project) (length (types_of_project project)) type_key path Static known.nests
    ∙ ap (λ o. leaves_of_vars (expand_in project) (instance Static) path (listed (unwrap_or o [])))
    (type_looked_up project type_key b type_is)))
    at e

field_stands : (project : ProjectTree) (all : List Leaf) (key : List ℕ) (laid : Laid) (ty : TypeTree) (first : ℕ) → IsKnown project ty
    → Stands project all (record { ty = ty; first = first }) → field_from project ty first key ≡ Some laid → Stands project all laid
field_stands project all key laid (plain ty) first known held e = absurd (none-some laid e)
field_stands project all key laid (array low high of place) first known held e = absurd (none-some laid e)
field_stands project all key laid (structure vars) first known held e =
    among_stands project all (fields Static) (λ s. true) takes_fields held.path key laid (fields_of vars) first held.front held.back
    (held.is ∙ ap (λ vs. held.front ++ (leaves_of_vars (expand_in project) (fields Static) held.path vs ++ held.back))
    (sym (listed-fields vars)))
    held.at e
field_stands project all key laid (named name place) first known held e =
    type_stands project all key laid name.key held.path first known held.front held.back held.is held.at
    (type_named project name.key) refl e
field_stands project all key laid unread first known held e = absurd (none-some laid e)

-- ---- elements

-- as many elements before one as its index is above the first
record Splits (whole : List Leaf) (one : List Leaf) (before : ℕ) : Type 0 where
  front : List Leaf
  back : List Leaf
  is : whole ≡ front ++ (one ++ back)
  at : length front ≡ before

split_elements : (element : ℤ → List Leaf) (size : ℕ) → ((i : ℤ) → length (element i) ≡ size) → (count : ℕ) (low i : ℤ) (k : ℕ) → k < count
    → low +ℤ pos k ≡ i → Splits (leaves_of_elements element low count) (element i) (k * size)
split_elements element size each zero low i k lt is = absurd (omega (arith, lt))
split_elements element size each (suc count) low i zero lt is = record {
  front = [];
  back = leaves_of_elements element (low +ℤ pos 1) count;
  is = ap (λ j. element j ++ leaves_of_elements element (low +ℤ pos 1) count) (same low i is);
  at = omega arith;
}
  where
    same : (a b : ℤ) → a +ℤ pos 0 ≡ b → a ≡ b
    same a b e = omega (arith, ints)
split_elements element size each (suc count) low i (suc k) lt is =
    let w = split_elements element size each count (low +ℤ pos 1) i k (omega (arith, lt)) (next low i is) in record {
      front = element low ++ w.front;
      back = w.back;
      is = ap (λ l. element low ++ l) w.is ∙ sym (append_assoc (element low) w.front (element i ++ w.back));
      at = (let a = length-append (element low) w.front in
          let here = each low in
          let more = suc-mul k size in omega (arith, a, here, more, w.at));
    }
  where
    next : (a b : ℤ) → a +ℤ pos (suc k) ≡ b → a +ℤ pos 1 +ℤ pos k ≡ b
    next a b e = omega (arith, ints)

-- an index between the bounds
record IsBetween (low high i : ℤ) : Type 0 where
  few : unsigned_abs (i -ℤ low) < count_between low high
  is : low +ℤ pos (unsigned_abs (i -ℤ low)) ≡ i

count_is : (z : ℤ) (k : ℕ) → pos (suc k) ≤ℤ z → k < count_of z
count_is z k e = grind (arith, ints)

between : (low high i : ℤ) → int_le low i && int_le i high ≡ true → IsBetween low high i
between low high i e = record {
  few = count_is ((high +ℤ pos 1) -ℤ low) (unsigned_abs (i -ℤ low)) (grind (arith, ints));
  is = grind (arith, ints);
}

element_stands : (project : ProjectTree) (all : List Leaf) (i : ℤ) (laid : Laid) (ty : TypeTree) (first : ℕ)
    → Stands project all (record { ty = ty; first = first }) → element_from project ty first i ≡ Some laid → Stands project all laid
element_stands project all i laid (plain ty) first held e = absurd (none-some laid e)
element_stands project all i laid (array low high of place) first held e = lead (int_le low i && int_le i high) refl e
  where
    element : ℤ → List Leaf
    element j = leaves_at project (element_path held.path j) None of

    lead : (t : Bool) → int_le low i && int_le i high ≡ t
        → cond t (Some (record { ty = of; first = first + unsigned_abs (i -ℤ low) * size_in project of })) None ≡ Some laid
        → Stands project all laid
    lead false is found = absurd (none-some laid found)
    lead true is found =
        let b = between low high i is in
        let w = split_elements element (size_in project of) (λ j. counted project (element_path held.path j) None of)
        (count_between low high) low i
        (unsigned_abs (i -ℤ low)) b.few b.is in
        subst (Stands project all)
        (same_some (record { ty = of; first = first + unsigned_abs (i -ℤ low) * size_in project of }) laid found) (record {
          front = held.front ++ w.front;
          back = w.back ++ held.back;
          path = element_path held.path i;
          start = None;
          is = held.is ∙ (ap (λ l. held.front ++ (l ++ held.back)) w.is
              ∙ (ap (λ l. held.front ++ l) (append_assoc w.front (element i ++ w.back) held.back
              ∙ ap (λ l. w.front ++ l) (append_assoc (element i) w.back held.back))
              ∙ sym (append_assoc held.front w.front (element i ++ (w.back ++ held.back)))));
          at = (let a = length-append held.front w.front in omega (arith, a, held.at, w.at));
        })
element_stands project all i laid (structure vars) first held e = absurd (none-some laid e)
element_stands project all i laid (named name place) first held e = absurd (none-some laid e)
element_stands project all i laid unread first held e = absurd (none-some laid e)

-- ---- types that are known

among_known : (project : ProjectTree) (test : Section → Bool) (vars : List VarTree) (key : List ℕ) (first : ℕ) (laid : Laid)
    → AllNamedIn (IsLaidOut project) (listed vars) → laid_among project test vars key first ≡ Some laid → IsKnown project laid.ty
among_known project test [] key first laid known e = absurd (none-some laid e)
among_known project test (var name section ty start place ∷ more) key first laid known e =
    lead (λ n. among_known project test more key n laid known.1) (test section) (bytes_eq key name.key) e
  where
    lead : ((n : ℕ) → laid_among project test more key n ≡ Some laid → IsKnown project laid.ty) → (t same : Bool)
        → cond t (cond same (Some (record { ty = ty; first = first })) (laid_among project test more key (first + size_in project ty)))
        (laid_among project test more key first)
        ≡ Some laid
        → IsKnown project laid.ty
    lead later true true found = subst (λ (l : Laid). IsKnown project l.ty)
        (same_some (record { ty = ty; first = first }) laid found) known.0
    lead later true false found = later (first + size_in project ty) found
    lead later false same found = later first found

field_known : (project : ProjectTree) → KeepsRules project → (key : List ℕ) (laid : Laid) (ty : TypeTree) (first : ℕ) → IsKnown project ty
    → field_from project ty first key ≡ Some laid → IsKnown project laid.ty
field_known project keeps key laid (plain ty) first known e = absurd (none-some laid e)
field_known project keeps key laid (array low high of place) first known e = absurd (none-some laid e)
field_known project keeps key laid (structure vars) first known e =
    among_known project (λ s. true) (fields_of vars) key first laid
    (subst (AllNamedIn (IsLaidOut project)) (sym (listed-fields vars)) known) e
field_known project keeps key laid (named name place) first known e = lead (type_named project name.key) refl e
  where
    lead : (o : Option BlockTree) → type_named project name.key ≡ o → field_among project is_of_instance o key first ≡ Some laid
        → IsKnown project laid.ty
    lead None is found = absurd (none-some laid found)
    lead (Some b) is found = among_known project is_of_instance b.vars key first laid
        (vars_laid_out project keeps b (type_contained project name.key b is)) found
field_known project keeps key laid unread first known e = absurd (none-some laid e)

element_known : (project : ProjectTree) (i : ℤ) (laid : Laid) (ty : TypeTree) (first : ℕ) → IsKnown project ty
    → element_from project ty first i ≡ Some laid → IsKnown project laid.ty
element_known project i laid (plain ty) first known e = absurd (none-some laid e)
element_known project i laid (array low high of place) first known e = lead (int_le low i && int_le i high) e
  where
    lead : (t : Bool) → cond t (Some (record { ty = of; first = first + unsigned_abs (i -ℤ low) * size_in project of })) None ≡ Some laid
        → IsKnown project laid.ty
    lead true found = subst (λ (l : Laid). IsKnown project l.ty)
        (same_some (record { ty = of; first = first + unsigned_abs (i -ℤ low) * size_in project of }) laid found) known
    lead false found = absurd (none-some laid found)
element_known project i laid (structure vars) first known e = absurd (none-some laid e)
element_known project i laid (named name place) first known e = absurd (none-some laid e)
element_known project i laid unread first known e = absurd (none-some laid e)

-- ---- steps

-- what is laid out has a known type, and its leaves stand where its number says
pub record IsPlaced (project : ProjectTree) (all : List Leaf) (laid : Laid) : Type 0 where
  pub known : IsKnown project laid.ty
  pub stands : Stands project all laid

pub field_placed : (project : ProjectTree) → KeepsRules project → (all : List Leaf) (l laid : Laid) (key : List ℕ) → IsPlaced project all l
    → field_laid project l key ≡ Some laid → IsPlaced project all laid
field_placed project keeps all l laid key p e = record {
  known = field_known project keeps key laid l.ty l.first p.known e;
  stands = field_stands project all key laid l.ty l.first p.known p.stands e;
}

step_placed : (project : ProjectTree) → KeepsRules project → (all : List Leaf) (l laid : Laid) (step : StepTree) → IsPlaced project all l
    → laid_at_step project l step ≡ Some laid → IsPlaced project all laid
step_placed project keeps all l laid (field name place) p e = field_placed project keeps all l laid name.key p e
step_placed project keeps all l laid (index i place) p e = lead (literal_of i) e
  where
    lead : (o : Option Written) → option_and_then (λ w. element_laid project l w.value) o ≡ Some laid → IsPlaced project all laid
    lead None found = absurd (none-some laid found)
    lead (Some w) found = record {
      known = element_known project w.value laid l.ty l.first p.known found;
      stands = element_stands project all w.value laid l.ty l.first p.stands found;
    }

pub behind_placed : (project : ProjectTree) → KeepsRules project → (all : List Leaf) (more : StepTrees) (o : Option Laid)
    → ((l : Laid) → o ≡ Some l → IsPlaced project all l) → (laid : Laid) → laid_behind project o more ≡ Some laid
    → IsPlaced project all laid
behind_placed project keeps all no_steps o from laid e = from laid e
behind_placed project keeps all (steps step more) o from laid e =
    behind_placed project keeps all more (option_and_then (λ l. laid_at_step project l step) o) (lead o from) laid e
  where
    lead : (p : Option Laid) → ((l : Laid) → p ≡ Some l → IsPlaced project all l) → (m : Laid)
        → option_and_then (λ l. laid_at_step project l step) p ≡ Some m → IsPlaced project all m
    lead None g m found = absurd (none-some m found)
    lead (Some l) g m found = step_placed project keeps all l m step (g l refl) found
