-- The number of leaves is the product and the sum of the declaration's sizes.
use Rattle.std.specs.Prelude.{◌≡◌, ℕ, zero, suc, ◌*◌, ℤ, pos, ◌+ℤ◌, List, [], Option, Some, None, length, unwrap_or, refl}
use Rattle.std.proofs.Common.{◌∙◌, arith}
use Rattle.std.proofs.lemmas.List.{length-append}
use Rattle.std.proofs.Math.Nat.{suc-mul}
use Rattle.pv_types.specs.declared.declaration.Section.{Section}
use Rattle.pv_types.specs.declared.declaration.Section.TheVariants.{Input, Output, InOut, Static, Temp, Const}
use Rattle.pv_types.specs.declared.leaf.Leaf.{Leaf}
use Rattle.pv_types.specs.Tree.{TypeTree, plain, array, structure, named, unread, VarTree, var, VarTrees, no_vars, _then_}
use Rattle.pv_types.specs.View.{listed}
use Rattle.pv_types.specs.Named.{NamedType, look_up}
use Rattle.pv_types.specs.Leaves.{
  Around,
  block,
  instance,
  fields,
  section_within,
  field_path,
  element_path,
  start_value,
  count_between,
  leaves_where,
  leaves_of_elements,
  leaves_of_type,
  leaves_of_vars,
  leaves_of_named,
  leaves_of,
}
use Rattle.pv_types.specs.Sizes.{number_where, size_of_type, size_of_fields, size_of_vars, size_of_named, size_of}

counted_elements : (element : ℤ → List Leaf) (n : ℕ) → ((i : ℤ) → length (element i) ≡ n) → (i : ℤ) (count : ℕ)
    → length (leaves_of_elements element i count) ≡ count * n
counted_elements element n each i zero = omega arith
counted_elements element n each i (suc count) =
    length-append (element i) (leaves_of_elements element (i +ℤ pos 1) count)
    ∙ (let rest = counted_elements element n each (i +ℤ pos 1) count in let here = each i in let more = suc-mul count n in omega
    (arith, rest, here, more))

counted_where : (o : Option Section) (leaves : Section → List Leaf) (n : ℕ) → ((s : Section) → length (leaves s) ≡ n)
    → length (leaves_where o leaves) ≡ number_where o n
counted_where None leaves n each = refl
counted_where (Some s) leaves n each = each s

module _ (expand : List ℕ → List ℕ → Section → List Leaf) (size : List ℕ → ℕ)
    (counted : (key path : List ℕ) (s : Section) → length (expand key path s) ≡ size key) where
  mutual
    counted_type : (path : List ℕ) (start : ℤ) (s : Section) (t : TypeTree)
        → length (leaves_of_type expand path start s t) ≡ size_of_type size t
    counted_type path start s (plain ty) = refl
    counted_type path start s (array low high of place) =
        counted_elements _ (size_of_type size of) (λ i. counted_type (element_path path i) (pos 0) s of) low (count_between low high)
    counted_type path start s (structure vars) = counted_fields path s vars
    counted_type path start s (named name place) = counted name.key path s
    counted_type path start s unread = refl

    counted_fields : (path : List ℕ) (s : Section) (vars : VarTrees)
        → length (leaves_of_vars expand (fields s) path vars) ≡ size_of_fields size vars
    counted_fields path s no_vars = refl
    counted_fields path s (_then_ (var name section ty start place) xs) =
        length-append (leaves_of_type expand (field_path path name) (start_value start) s ty) (leaves_of_vars expand (fields s) path xs)
        ∙ (let here = counted_type (field_path path name) (start_value start) s ty in let rest = counted_fields path s xs in omega
        (arith, here, rest))

  counted_vars : (around : Around) (path : List ℕ) (vars : VarTrees)
      → length (leaves_of_vars expand around path vars) ≡ size_of_vars size around vars
  counted_vars around path no_vars = refl
  counted_vars around path (_then_ (var name section ty start place) xs) =
      length-append (leaves_where (section_within around section)
      (λ s. leaves_of_type expand (field_path path name) (start_value start) s ty)) (leaves_of_vars expand around path xs)
      ∙ (let here = counted_where (section_within around section)
      (λ s. leaves_of_type expand (field_path path name) (start_value start) s ty) (size_of_type size ty)
      (λ s. counted_type (field_path path name) (start_value start) s ty) in
      let rest = counted_vars around path xs in omega (arith, here, rest))

-- what an instance leaves out doesn't depend on its section
any_section : (s own : Section) (n : ℕ)
    → number_where (section_within (instance s) own) n ≡ number_where (section_within (instance Static) own) n
any_section s Input n = refl
any_section s Output n = refl
any_section s InOut n = refl
any_section s Static n = refl
any_section s Temp n = refl
any_section s Const n = refl

any_instance : (size : List ℕ → ℕ) (s : Section) (vars : VarTrees)
    → size_of_vars size (instance s) vars ≡ size_of_vars size (instance Static) vars
any_instance size s no_vars = refl
any_instance size s (_then_ (var name section ty start place) xs) =
    let here = any_section s section (size_of_type size ty) in let rest = any_instance size s xs in omega (arith, here, rest)

counted_named : (types : List NamedType) (n : ℕ) (key path : List ℕ) (s : Section)
    → length (leaves_of_named types n key path s) ≡ size_of_named types n key
counted_named types zero key path s = refl
counted_named types (suc n) key path s =
    counted_vars (leaves_of_named types n) (size_of_named types n) (counted_named types n) (instance s) path
    (listed (unwrap_or (look_up types key) []))
    ∙ any_instance (size_of_named types n) s (listed (unwrap_or (look_up types key) []))

pub counted_leaves : (types : List NamedType) (vars : List VarTree) → length (leaves_of types vars) ≡ size_of types vars
counted_leaves types vars =
    counted_vars (leaves_of_named types (length types)) (size_of_named types (length types)) (counted_named types (length types)) block []
    (listed vars)

pub counted_type_of : (types : List NamedType) (n : ℕ) (path : List ℕ) (start : ℤ) (s : Section) (t : TypeTree)
    → length (leaves_of_type (leaves_of_named types n) path start s t) ≡ size_of_type (size_of_named types n) t
counted_type_of types n path start s t =
    counted_type (leaves_of_named types n) (size_of_named types n) (counted_named types n) path start s t
