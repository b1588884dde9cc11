-- Named types: the variables of function blocks and of named structures.
use Rattle.std.specs.Prelude.{
  ◌≡◌,
  ◌<◌,
  IsSome,
  ℕ,
  zero,
  suc,
  List,
  [],
  ◌∷◌,
  Option,
  Some,
  None,
  MatchOption,
  bytes_eq,
  if◌then◌else◌,
  ◌++◌,
  is_some,
  length,
  map,
}
use Rattle.pv_types.specs.declared.named.Types.{Types}
use Rattle.pv_types.specs.Tree.{
  TypeTree,
  plain,
  array,
  structure,
  named,
  unread,
  VarTree,
  var,
  VarTrees,
  no_vars,
  _then_,
}
use Rattle.pv_types.specs.View.{listed, var_trees}

-- a type's key, and its variables
pub record NamedType : Type 0 where
  pub key : List ℕ
  pub vars : List VarTree

-- the named types that a block's reader has gathered
abbrev pub types_of : Types → List NamedType
types_of t = map (λ e. record { key = e.0; vars = var_trees e.1.now }) t.types.entries

-- the variables of the first type that has the key
abbrev pub look_up : List NamedType → List ℕ → Option (List VarTree)
look_up [] key = None
look_up (t ∷ ts) key = if bytes_eq key t.key then Some t.vars else look_up ts key

-- the types with this one behind them, unless one has its key
abbrev pub with_type : List NamedType → NamedType → List NamedType
with_type types t = if is_some (look_up types t.key) then types else types ++ t ∷ []

-- each type that is named in a type, or in variables, is such
abbrev mutual
  pub AllNamed : (List ℕ → Type 0) → TypeTree → Type 0
  AllNamed P (plain ty) = Unit {0}
  AllNamed P (array low high of place) = AllNamed P of
  AllNamed P (structure fields) = AllNamedIn P fields
  AllNamed P (named name place) = P name.key
  AllNamed P unread = Unit {0}

  pub AllNamedIn : (List ℕ → Type 0) → VarTrees → Type 0
  AllNamedIn P no_vars = Unit {0}
  AllNamedIn P (_then_ (var name section ty start place) xs) = AllNamed P ty × AllNamedIn P xs

-- the type of this key is there, and so is each type that it names, and each that these name, and
-- at most n types stand inside each other so
abbrev pub NestsWithin : List NamedType → ℕ → List ℕ → Type 0
NestsWithin types zero key = ⊥
NestsWithin types (suc n) key = MatchOption (look_up types key) ⊥
    (λ vars. AllNamedIn (NestsWithin types n) (listed vars))

-- each type that is named is there, and none contains itself: no more types than there are stand
-- inside each other
abbrev pub AreGrounded : List NamedType → List VarTree → Type 0
AreGrounded types vars = AllNamedIn (NestsWithin types (length types)) (listed vars)

-- a type of this key is there
abbrev pub IsThere : List NamedType → List ℕ → Type 0
IsThere types key = IsSome (look_up types key)

-- each type names only types that are there and have a lower rank, so that none contains itself
abbrev pub AreRanked : List NamedType → (List ℕ → ℕ) → Type 0
AreRanked types rank =
    (key : List ℕ) (vars : List VarTree) → look_up types key ≡ Some vars
    → AllNamedIn (λ k. IsThere types k × (rank k < rank key)) (listed vars)
