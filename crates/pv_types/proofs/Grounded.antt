-- Where each named type is there and none contains itself, the leaves of a named type are those of its variables.
use Rattle.std.specs.Prelude.{
  ◌≡◌,
  ℕ,
  zero,
  suc,
  ℤ,
  pos,
  ◌+ℤ◌,
  List,
  [],
  ◌++◌,
  Option,
  Some,
  None,
  MatchOption,
  IsSome,
  ◌<◌,
  unwrap_or,
  refl,
}
use Rattle.std.proofs.Common.{ap, sym, ◌∙◌, true≢false, arith}
use Rattle.pv_types.specs.declared.declaration.Section.{Section}
use Rattle.pv_types.specs.declared.leaf.Leaf.{Leaf}
use Rattle.pv_types.specs.Tree.{TypeTree, plain, array, structure, named, unread, VarTree, var, VarTrees, no_vars, _then_}
use Rattle.pv_types.specs.View.{listed}
use Rattle.pv_types.specs.Named.{NamedType, look_up, AllNamed, AllNamedIn, NestsWithin, IsThere, AreRanked}
use Rattle.pv_types.specs.Leaves.{
  Around,
  instance,
  fields,
  section_within,
  field_path,
  element_path,
  start_value,
  count_between,
  leaves_where,
  leaves_of_elements,
  leaves_of_type,
  leaves_of_vars,
  leaves_of_named,
}

abbrev Expand : Type 0
Expand = List ℕ → List ℕ → Section → List Leaf

same_elements : (f g : ℤ → List Leaf) → ((i : ℤ) → f i ≡ g i) → (i : ℤ) (n : ℕ) → leaves_of_elements f i n ≡ leaves_of_elements g i n
same_elements f g each i zero = refl
same_elements f g each i (suc n) =
    ap (λ l. l ++ leaves_of_elements f (i +ℤ pos 1) n) (each i) ∙ ap (λ l. g i ++ l) (same_elements f g each (i +ℤ pos 1) n)

same_where : (o : Option Section) (f g : Section → List Leaf) → ((s : Section) → f s ≡ g s) → leaves_where o f ≡ leaves_where o g
same_where None f g each = refl
same_where (Some s) f g each = each s

-- two ways to lay out named types that agree on those that are named agree on what names them
module _ (e f : Expand) where
  abbrev Agree : List ℕ → Type 0
  Agree key = (path : List ℕ) (s : Section) → e key path s ≡ f key path s

  mutual
    same_type : (path : List ℕ) (start : ℤ) (s : Section) (t : TypeTree) → AllNamed Agree t
        → leaves_of_type e path start s t ≡ leaves_of_type f path start s t
    same_type path start s (plain ty) same = refl
    same_type path start s (array low high of place) same =
        same_elements _ _ (λ i. same_type (element_path path i) (pos 0) s of same) low (count_between low high)
    same_type path start s (structure vars) same = same_vars (fields s) path vars same
    same_type path start s (named name place) same = same path s
    same_type path start s unread same = refl

    same_vars : (around : Around) (path : List ℕ) (vars : VarTrees) → AllNamedIn Agree vars
        → leaves_of_vars e around path vars ≡ leaves_of_vars f around path vars
    same_vars around path no_vars same = refl
    same_vars around path (_then_ (var name section ty start place) xs) same =
        ap (λ l. l ++ leaves_of_vars e around path xs)
        (same_where (section_within around section) _ _ (λ s. same_type (field_path path name) (start_value start) s ty same.0))
        ∙ ap (λ l. leaves_where (section_within around section) (λ s. leaves_of_type f (field_path path name) (start_value start) s ty)
        ++ l) (same_vars around path xs same.1)

module _ (P Q : List ℕ → Type 0) (to : (key : List ℕ) → P key → Q key) where
  mutual
    named_to : (t : TypeTree) → AllNamed P t → AllNamed Q t
    named_to (plain ty) p = tt
    named_to (array low high of place) p = named_to of p
    named_to (structure vars) p = named_in_to vars p
    named_to (named name place) p = to name.key p
    named_to unread p = tt

    named_in_to : (vars : VarTrees) → AllNamedIn P vars → AllNamedIn Q vars
    named_in_to no_vars p = tt
    named_in_to (_then_ (var name section ty start place) xs) p = (named_to ty p.0, named_in_to xs p.1)

-- a deeper look at a type that nests within n types sees the same
deeper_same : (types : List NamedType) (n : ℕ) (key : List ℕ) → NestsWithin types n key → (path : List ℕ) (s : Section)
    → leaves_of_named types n key path s ≡ leaves_of_named types (suc n) key path s
deeper_same types zero key nests path s = absurd nests
deeper_same types (suc n) key nests path s = by (deeper_same types n) (look_up types key) nests
  where
    by : ((k : List ℕ) → NestsWithin types n k → (path : List ℕ) (s : Section)
        → leaves_of_named types n k path s ≡ leaves_of_named types (suc n) k path s)
        → (o : Option (List VarTree)) → MatchOption o ⊥ (λ vars. AllNamedIn (NestsWithin types n) (listed vars))
        → leaves_of_vars (leaves_of_named types n) (instance s) path (listed (unwrap_or o []))
        ≡ leaves_of_vars (leaves_of_named types (suc n)) (instance s) path (listed (unwrap_or o []))
    by below None within = absurd within
    by below (Some vars) within =
        same_vars (leaves_of_named types n) (leaves_of_named types (suc n)) (instance s) path (listed vars)
        (named_in_to (NestsWithin types n) _ below (listed vars) within)

-- the leaves of a named type that nests so are those of its variables, laid out alike
pub named_laid_out : (types : List NamedType) (n : ℕ) (key path : List ℕ) (s : Section) → NestsWithin types n key
    → leaves_of_named types n key path s
    ≡ leaves_of_vars (leaves_of_named types n) (instance s) path (listed (unwrap_or (look_up types key) []))
named_laid_out types n key path s nests = deeper_same types n key nests path s

-- where each type names only types that are there and of a lower rank, a type of a rank below n nests within n
pub ranked_nests : (types : List NamedType) (rank : List ℕ → ℕ) → AreRanked types rank → (n : ℕ) (key : List ℕ) → IsThere types key
    → rank key < n → NestsWithin types n key
ranked_nests types rank ranked zero key there below = absurd (omega (arith, below))
ranked_nests types rank ranked (suc n) key there below = by (ranked_nests types rank ranked n) (look_up types key) refl there
  where
    by : ((k : List ℕ) → IsThere types k → rank k < n → NestsWithin types n k) → (o : Option (List VarTree)) → look_up types key ≡ o
        → IsSome o
        → MatchOption o ⊥ (λ vars. AllNamedIn (NestsWithin types n) (listed vars))
    by lower None is some = absurd (true≢false (sym some))
    by lower (Some vars) is some =
        named_in_to (λ k. IsThere types k × (rank k < rank key)) (NestsWithin types n) (λ k w. lower k w.0 (omega (arith, w.1, below)))
        (listed vars) (ranked key vars is)
