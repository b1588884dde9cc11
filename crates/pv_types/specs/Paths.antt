-- Paths of leaves, and the declarations that give different ones.
use Rattle.std.specs.Prelude.{◌≡◌, ⊤, ◌⊎◌, ◌<◌, ◌^◌, ℕ, suc, ℤ, pos, negsuc, List, [], ◌∷◌}
use Rattle.std.specs.Str.{str_to_ascii_lowercase}
use Rattle.std.specs.List.{AllByRecursion}
use Rattle.pv_types.specs.declared.name.Name.{Name}
use Rattle.pv_types.specs.declared.leaf.Leaf.{Leaf}
use Rattle.pv_types.specs.Tree.{
  TypeTree,
  plain,
  array,
  structure,
  named,
  unread,
  var,
  VarTrees,
  no_vars,
  _then_,
}
use Rattle.pv_types.specs.View.{listed}
use Rattle.pv_types.specs.Named.{NamedType}

-- two leaves have different paths, also where letter case plays no part
abbrev pub PathsDiffer : Leaf → Leaf → Type 0
PathsDiffer a b = str_to_ascii_lowercase a.path ≡ str_to_ascii_lowercase b.path → ⊥

-- so do any two of these leaves
abbrev pub AllPathsDiffer : List Leaf → Type 0
AllPathsDiffer [] = ⊤
AllPathsDiffer (leaf ∷ leaves) = AllByRecursion (PathsDiffer leaf) leaves × AllPathsDiffer leaves

-- a dot or an opening bracket, one of which stands behind a name in a path
abbrev pub IsStop : ℕ → Type 0
IsStop c = (c ≡ 46) ⊎ (c ≡ 91)

-- a name that is written as a word, without quotes: but for letter case it is its key, which isn't
-- empty and holds no dot and no bracket
pub record IsWord (name : Name) : Type 0 where
  pub spelled : str_to_ascii_lowercase name.spelled ≡ name.key
  pub some : name.key ≡ [] → ⊥
  pub plain : AllByRecursion (λ c. IsStop c → ⊥) name.key

-- an index of at most 64 digits, as each is whose bits fit a machine's number
abbrev pub IsShort : ℤ → Type 0
IsShort (pos n) = n < 10 ^ 64
IsShort (negsuc n) = suc n < 10 ^ 64

-- no variable of these has the key
abbrev pub IsNew : List ℕ → VarTrees → Type 0
IsNew key no_vars = ⊤
IsNew key (_then_ (var name section ty start place) xs) = (key ≡ name.key → ⊥) × IsNew key xs

-- in a type, and in variables, each name is a word, and none is declared twice at one level
abbrev mutual
  pub NamesDiffer : TypeTree → Type 0
  NamesDiffer (plain ty) = ⊤
  NamesDiffer (array low high of place) = IsShort low × IsShort high × NamesDiffer of
  NamesDiffer (structure vars) = NamesDifferIn vars
  NamesDiffer (named name place) = ⊤
  NamesDiffer unread = ⊤

  pub NamesDifferIn : VarTrees → Type 0
  NamesDifferIn no_vars = ⊤
  NamesDifferIn (_then_ (var name section ty start place) xs) =
      IsWord name × IsNew name.key xs × NamesDiffer ty × NamesDifferIn xs

-- so it is in all named types
abbrev pub NamesDifferInTypes : List NamedType → Type 0
NamesDifferInTypes types = AllByRecursion (λ t. NamesDifferIn (listed t.vars)) types
