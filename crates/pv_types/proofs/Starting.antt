-- Leaves start with values of their types, where each start value that is written does.
use Rattle.std.specs.Prelude.{
  ℕ,
  zero,
  suc,
  ℤ,
  pos,
  ◌+ℤ◌,
  true,
  false,
  List,
  [],
  ◌∷◌,
  ◌++◌,
  Option,
  Some,
  None,
  cond,
  length,
  unwrap_or,
  bytes_eq,
}
use Rattle.std.specs.List.{AllByRecursion}
use Rattle.std.proofs.Common.{arith}
use Rattle.std.proofs.lemmas.Int.{ints}
use Rattle.pv_word.specs.declared.types.Ty.{Ty}
use Rattle.pv_word.specs.declared.types.Ty.TheVariants.{Bool, Byte, Word, Dword, Int, Dint, Time}
use Rattle.pv_word.specs.Types.{InRange}
use Rattle.pv_types.specs.declared.declaration.Literal.{Literal}
use Rattle.pv_types.specs.declared.declaration.Section.{Section}
use Rattle.pv_types.specs.declared.leaf.Leaf.{Leaf}
use Rattle.pv_types.specs.Tree.{TypeTree, plain, array, structure, named, unread, VarTree, var, VarTrees, no_vars, _then_}
use Rattle.pv_types.specs.View.{listed}
use Rattle.pv_types.specs.Named.{NamedType, look_up}
use Rattle.pv_types.specs.Leaves.{
  Around,
  block,
  instance,
  fields,
  section_within,
  field_path,
  element_path,
  start_value,
  count_between,
  leaves_where,
  leaves_of_elements,
  leaves_of_type,
  leaves_of_vars,
  leaves_of_named,
  leaves_of,
}
use Rattle.pv_types.specs.Starts.{LiesIn, StartsLie, StartsLieIn, StartsLieInTypes, StartsWell}

zero_lies : (ty : Ty) → InRange ty (pos 0)
zero_lies Bool = record { from = omega (arith, ints); to = omega (arith, ints) }
zero_lies Byte = record { from = omega (arith, ints); to = omega (arith, ints) }
zero_lies Word = record { from = omega (arith, ints); to = omega (arith, ints) }
zero_lies Dword = record { from = omega (arith, ints); to = omega (arith, ints) }
zero_lies Int = record { from = omega (arith, ints); to = omega (arith, ints) }
zero_lies Dint = record { from = omega (arith, ints); to = omega (arith, ints) }
zero_lies Time = record { from = omega (arith, ints); to = omega (arith, ints) }

start_lies : (ty : Ty) (start : Option Literal) → LiesIn ty start → InRange ty (start_value start)
start_lies ty None lies = zero_lies ty
start_lies ty (Some literal) lies = lies

all_append : (xs ys : List Leaf) → AllByRecursion StartsWell xs → AllByRecursion StartsWell ys → AllByRecursion StartsWell (xs ++ ys)
all_append [] ys a b = b
all_append (x ∷ xs) ys a b = (a.0, all_append xs ys a.1 b)

elements_start : (element : ℤ → List Leaf) → ((i : ℤ) → AllByRecursion StartsWell (element i)) → (i : ℤ) (count : ℕ)
    → AllByRecursion StartsWell (leaves_of_elements element i count)
elements_start element each i zero = tt
elements_start element each i (suc count) = all_append (element i) _ (each i) (elements_start element each (i +ℤ pos 1) count)

where_start : (o : Option Section) (leaves : Section → List Leaf) → ((s : Section) → AllByRecursion StartsWell (leaves s))
    → AllByRecursion StartsWell (leaves_where o leaves)
where_start None leaves each = tt
where_start (Some s) leaves each = each s

module _ (expand : List ℕ → List ℕ → Section → List Leaf)
    (well : (key path : List ℕ) (s : Section) → AllByRecursion StartsWell (expand key path s)) where
  mutual
    type_starts : (path : List ℕ) (start : Option Literal) (s : Section) (t : TypeTree) → StartsLie start t
        → AllByRecursion StartsWell (leaves_of_type expand path (start_value start) s t)
    type_starts path start s (plain ty) lies = (start_lies ty start lies, tt)
    type_starts path start s (array low high of place) lies =
        elements_start _ (λ i. type_starts (element_path path i) None s of lies) low (count_between low high)
    type_starts path start s (structure vars) lies = vars_start (fields s) path vars lies
    type_starts path start s (named name place) lies = well name.key path s
    type_starts path start s unread lies = tt

    vars_start : (around : Around) (path : List ℕ) (vars : VarTrees) → StartsLieIn vars
        → AllByRecursion StartsWell (leaves_of_vars expand around path vars)
    vars_start around path no_vars lies = tt
    vars_start around path (_then_ (var name section ty start place) xs) lies =
        all_append (leaves_where (section_within around section)
        (λ s. leaves_of_type expand (field_path path name) (start_value start) s ty)) _
        (where_start (section_within around section) _ (λ s. type_starts (field_path path name) start s ty lies.0))
        (vars_start around path xs lies.1)

found_starts : (types : List NamedType) (key : List ℕ) → StartsLieInTypes types → StartsLieIn (listed (unwrap_or (look_up types key) []))
found_starts [] key lies = tt
found_starts (t ∷ ts) key lies =
    elim (bytes_eq key t.key) as (λ b. StartsLieIn (listed (unwrap_or (cond b (Some t.vars) (look_up ts key)) [])))
    [ true ↦ lies.0 | false ↦ found_starts ts key lies.1 ]

named_start : (types : List NamedType) → StartsLieInTypes types → (n : ℕ) (key path : List ℕ) (s : Section)
    → AllByRecursion StartsWell (leaves_of_named types n key path s)
named_start types lies zero key path s = tt
named_start types lies (suc n) key path s =
    vars_start (leaves_of_named types n) (named_start types lies n) (instance s) path (listed (unwrap_or (look_up types key) []))
    (found_starts types key lies)

pub leaves_start : (types : List NamedType) (vars : List VarTree) → StartsLieInTypes types → StartsLieIn (listed vars)
    → AllByRecursion StartsWell (leaves_of types vars)
leaves_start types vars named_lie lie =
    vars_start (leaves_of_named types (length types)) (named_start types named_lie (length types)) block [] (listed vars) lie
