-- A search for the sizes of named types: the types that are still to be visited, the next of them last. A type is entered, and so
-- are those that it names; when these are done with, it is left, and its size is found.
use Rattle.std.specs.Prelude.{◌≡◌, ◌⊎◌, ◌<◌, ◌≤◌, ℕ, zero, suc, ◌+◌, List, [], ◌∷◌, ◌++◌, map, length, Option, Some, unwrap_or, IsSome, Bool, true, false, if◌then◌else◌, ⊤}
use Rattle.pv_types.specs.Tree.{TypeTree, plain, array, structure, named, unread, VarTree, var, VarTrees, no_vars, _then_}
use Rattle.pv_types.specs.View.{var_trees, listed}
use Rattle.pv_types.specs.Named.{NamedType, look_up, types_of, AllNamedIn, NestsWithin}
use Rattle.pv_types.specs.Sizes.{size_of_named}
use Rattle.pv_tree.specs.Tree.{BlockTree}
use Rattle.pv_tree.specs.Scopes.{is_type}
use Rattle.pv_mean.specs.declared.sizing.Task.{Task}
use Rattle.pv_mean.specs.declared.sizing.Task.TheVariants.{Enter, Leave}
use Rattle.pv_mean.specs.declared.sizing.Sizing.{Sizing}
use Rattle.pv_mean.specs.Counts.{capped, known_in}

pub data Visit : Type 0 where
  enter : List ℕ → Visit
  leave : List ℕ → List VarTree → Visit

abbrev pub visit_of : Task → Visit
visit_of (Enter name) = enter name.now.key
visit_of (Leave name vars) = leave name.now.key (var_trees vars.now)

abbrev pub visits_of : List Task → List Visit
visits_of tasks = map visit_of tasks

abbrev pub key_of : Visit → List ℕ
key_of (enter key) = key
key_of (leave key vars) = key

-- the types that are named in a type, and in variables, as they are entered
abbrev mutual
  pub enters_in : TypeTree → List Visit
  enters_in (plain ty) = []
  enters_in (array low high of place) = enters_in of
  enters_in (structure vars) = enters_in_vars vars
  enters_in (named name place) = enter name.key ∷ []
  enters_in unread = []

  pub enters_in_vars : VarTrees → List Visit
  enters_in_vars no_vars = []
  enters_in_vars (_then_ (var name section ty start place) more) = enters_in ty ++ enters_in_vars more

-- the types with which a search begins
abbrev pub seed_of : BlockTree → List Visit
seed_of b = if is_type b.kind then enter b.name.key ∷ [] else []

abbrev pub seeds_of : List BlockTree → List Visit
seeds_of [] = []
seeds_of (b ∷ bs) = seed_of b ++ seeds_of bs

-- a type of this key is still to be visited
abbrev pub Awaits : List ℕ → List Visit → Type 0
Awaits key [] = ⊥
Awaits key (v ∷ vs) = (key_of v ≡ key) ⊎ Awaits key vs

-- each type that one which is to be left names is known, or is visited before
abbrev pub Covered : (List ℕ → Option ℕ) → List Visit → Type 0
Covered known [] = ⊤
Covered known (enter key ∷ vs) = Covered known vs
Covered known (leave key vars ∷ vs) =
    AllNamedIn (λ k. IsSome (known k) ⊎ Awaits k vs) (listed vars) × Covered known vs

-- each type that is to be visited is one of these
abbrev pub AreThere : List NamedType → List Visit → Type 0
AreThere types [] = ⊤
AreThere types (enter key ∷ vs) = IsSome (look_up types key) × AreThere types vs
AreThere types (leave key vars ∷ vs) = (look_up types key ≡ Some vars) × AreThere types vs

-- how many steps visits take, by those that it takes to enter a type
abbrev pub steps_left : (List ℕ → ℕ) → List Visit → ℕ
steps_left steps [] = 0
steps_left steps (enter key ∷ vs) = steps key + steps_left steps vs
steps_left steps (leave key vars ∷ vs) = 1 + steps_left steps vs

-- visits that enter each type which something names, no more often than it does
pub record EnterThose (named : (List ℕ → Type 0) → Type 0) (whole : List Visit) (es : List Visit)
    : Type 0 where
  pub awaits : named (λ k. Awaits k es)
  pub there : (types : List NamedType) → named (λ k. IsSome (look_up types k)) → AreThere types es
  pub covered : (known : List ℕ → Option ℕ) (ys : List Visit) → Covered known ys
      → Covered known (es ++ ys)
  pub few : (steps : List ℕ → ℕ) → steps_left steps es ≤ steps_left steps whole

-- such visits are put behind others
pub record AddsEnters (old new : List Visit) (named : (List ℕ → Type 0) → Type 0) (whole : List Visit)
    : Type 0 where
  pub more : List Visit
  pub are : EnterThose named whole more
  pub behind : new ≡ old ++ more

-- no more types stand inside one another than there are
abbrev pub AllNest : List NamedType → Type 0
AllNest types =
    (key : List ℕ) → IsSome (look_up types key) → NestsWithin types (length types) key

-- the search on its way: what is known is so up to the bound, and what isn't known is still to be visited
pub record IsOpen (types : List NamedType) (known : List ℕ → Option ℕ) (visits : List Visit) : Type 0
  where
    pub right : (key : List ℕ) (n : ℕ) → known key ≡ Some n
        → n ≡ capped (size_of_named types (length types) key)
    pub covered : Covered known visits
    pub there : AreThere types visits
    pub reached : (key : List ℕ) → IsSome (look_up types key) → IsSome (known key) ⊎ Awaits key visits

abbrev pub steps_to_enter : List NamedType → ℕ → List ℕ → ℕ
steps_to_enter types zero key = 1
steps_to_enter types (suc n) key =
    2 + steps_left (steps_to_enter types n) (enters_in_vars (listed (unwrap_or (look_up types key) [])))

abbrev pub all_steps : List NamedType → List Visit → ℕ
all_steps types visits = steps_left (steps_to_enter types (length types)) visits

-- a step that takes this visit
pub record Goes (old new : Sizing) (visit : Visit) : Type 0 where
  pub open_still : IsOpen (types_of old.types) (known_in new.known) (visits_of new.tasks.items)
  pub types : new.types ≡ old.types
  pub falls : all_steps (types_of old.types) (visits_of new.tasks.items)
      < all_steps (types_of old.types) (visits_of old.tasks.items ++ visit ∷ [])

-- a step, where there was one to take
pub record Steps (old new : Sizing) (going : Bool) : Type 0 where
  pub open_still : IsOpen (types_of old.types) (known_in new.known) (visits_of new.tasks.items)
  pub types : new.types ≡ old.types
  pub falls : going ≡ true → all_steps (types_of old.types) (visits_of new.tasks.items)
      < all_steps (types_of old.types) (visits_of old.tasks.items)
  pub ends : going ≡ false → new.tasks.items ≡ []
