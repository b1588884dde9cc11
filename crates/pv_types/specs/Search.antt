-- A search for a leaf: what is still to be searched, and the named types that were met.
use Rattle.std.specs.Prelude.{◌≡◌, ℕ, suc, ◌+◌, List, [], ◌∷◌}
use Rattle.pv_types.specs.declared.search.Sought.{Sought}
use Rattle.pv_types.specs.declared.search.Sought.TheVariants.{Element, Vars}
use Rattle.pv_types.specs.declared.search.Search.{Search}
use Rattle.pv_types.specs.Tree.{TypeTree}
use Rattle.pv_types.specs.View.{type_tree, var_trees, listed}
use Rattle.pv_types.specs.Named.{NamedType}
use Rattle.pv_types.specs.Sizes.{size_of_type, size_of_vars, size_of_named}
use Rattle.pv_types.specs.Walk.{around_view}

-- the number of leaves of what is sought, by those of the named types
abbrev pub size_of_sought : (List ℕ → ℕ) → Sought → ℕ
size_of_sought size (Element ty) = size_of_type size (type_tree ty.now)
size_of_sought size (Vars vars around) =
    size_of_vars size (around_view around) (listed (var_trees vars.now))

abbrev pub size_of_all : (List ℕ → ℕ) → List Sought → ℕ
size_of_all size [] = 0
size_of_all size (x ∷ xs) = size_of_sought size x + size_of_all size xs

-- the number of leaves of the named types that were met
abbrev pub size_of_met : {X : Type 0} → (List ℕ → ℕ) → List (List ℕ × X) → ℕ
size_of_met size [] = 0
size_of_met size (e ∷ es) = size e.0 + size_of_met size es

-- where n types at most stand inside each other: if neither what is still to be searched nor what
-- was met has a leaf, then neither has what this part stands for, nor what was so before it; and
-- what was met newly has none one level deeper
pub record CoversAt (types : List NamedType) (n : ℕ) (old new : Search) (size : ℕ → ℕ) : Type 0
  where
    pub sought : size_of_all (size_of_named types n) old.sought.items ≡ 0
    pub none : size n ≡ 0
    pub met : size_of_met (size_of_named types n) old.met.entries ≡ 0
    pub deeper : size_of_met (size_of_named types (suc n)) old.met.entries ≡ 0
        → size_of_met (size_of_named types (suc n)) new.met.entries ≡ 0

abbrev pub Covers : List NamedType → Search → Search → (ℕ → ℕ) → Type 0
Covers types old new size = (n : ℕ) → size_of_all (size_of_named types n) new.sought.items ≡ 0
    → size_of_met (size_of_named types n) new.met.entries ≡ 0 → CoversAt types n old new size

-- the same of a whole search for a leaf in this type
pub record IsSearchAt (types : List NamedType) (n : ℕ) (root : TypeTree) (s : Search) : Type 0 where
  pub none : size_of_type (size_of_named types n) root ≡ 0
  pub deeper : size_of_met (size_of_named types (suc n)) s.met.entries ≡ 0

abbrev pub IsSearch : List NamedType → TypeTree → Search → Type 0
IsSearch types root s = (n : ℕ) → size_of_all (size_of_named types n) s.sought.items ≡ 0
    → size_of_met (size_of_named types n) s.met.entries ≡ 0 → IsSearchAt types n root s
