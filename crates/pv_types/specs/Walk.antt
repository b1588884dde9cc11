-- A walk over declarations: what lies on its stack, and how many steps are left.
use Rattle.std.specs.Prelude.{
  ◌≡◌,
  ◌<◌,
  Bool,
  true,
  false,
  length,
  ℕ,
  zero,
  suc,
  ◌+◌,
  ◌*◌,
  ◌≤◌,
  pos,
  List,
  [],
  ◌∷◌,
  ◌++◌,
  take,
  unwrap_or,
  Option,
  Some,
  None,
}
use Rattle.pv_types.specs.declared.declaration.Section.{Section}
use Rattle.pv_types.specs.declared.declaration.Vars as declaration
use Rattle.pv_types.specs.declared.leaf.Leaf.{Leaf}
use Rattle.pv_types.specs.declared.walk.Around as declared
use Rattle.pv_types.specs.declared.walk.Around.TheVariants as around
use Rattle.pv_types.specs.declared.walk.Rest.{Rest}
use Rattle.pv_types.specs.declared.walk.Rest.TheVariants.{Vars, Elements}
use Rattle.pv_types.specs.declared.walk.Frame.{Frame}
use Rattle.pv_types.specs.declared.walk.Walk.{Walk}
use Rattle.pv_types.specs.declared.layout.TheConstants.{MAX_LEAVES}
use Rattle.pv_types.specs.Tree.{
  TypeTree,
  plain,
  array,
  structure,
  named,
  unread,
  var,
  VarTrees,
  no_vars,
  _then_,
}
use Rattle.pv_types.specs.View.{type_tree, trees_from, listed}
use Rattle.pv_types.specs.Named.{NamedType, look_up}
use Rattle.pv_types.specs.Sizes.{number_where, size_of_type, size_of_named}
use Rattle.pv_types.specs.Leaves.{
  Around,
  block,
  instance,
  fields,
  section_within,
  element_path,
  count_between,
  leaves_of_elements,
  leaves_of_type,
  leaves_of_vars,
  leaves_of_named,
}

abbrev pub around_view : declared.Around → Around
around_view around.Block = block
around_view (around.Instance section) = instance section
around_view (around.Fields section) = fields section

-- the leaves of what is still to be laid out beneath a path, where at most n named types stand
-- inside each other
abbrev pub leaves_of_rest : List NamedType → ℕ → List ℕ → Rest → List Leaf
leaves_of_rest types n path (Vars vars from around) = leaves_of_vars (leaves_of_named types n)
    (around_view around) path (listed (trees_from vars.now from))
leaves_of_rest types n path (Elements of span section) =
    leaves_of_elements (λ i. leaves_of_type (leaves_of_named types n) (element_path path i)
    (pos 0) section (type_tree of.now)) span.index (count_between span.index span.high)

-- the leaves of all that lies on the stack, whose top is last, from the top down
abbrev pub pending : List NamedType → List ℕ → List Frame → List Leaf
pending types path [] = []
pending types path (f ∷ fs) = pending types path fs
    ++ leaves_of_rest types f.levels (take f.path_len path) f.rest

-- no frame has a shorter front of the path than m
abbrev pub AreAbove : ℕ → List Frame → Type 0
AreAbove m [] = Unit {0}
AreAbove m (g ∷ gs) = (m ≤ g.path_len) × AreAbove m gs

-- no frame has a longer front of the path than one above it, and none has one that is longer than n
abbrev pub AreLow : List Frame → ℕ → Type 0
AreLow [] n = Unit {0}
AreLow (f ∷ fs) n = (f.path_len ≤ n) × AreAbove f.path_len fs × AreLow fs n

-- how many steps it takes to lay out a type, and variables, by those that a named type takes
abbrev mutual
  pub work_of_type : (List ℕ → ℕ) → TypeTree → ℕ
  work_of_type work (plain ty) = 0
  work_of_type work (array low high of place) =
      1 + count_between low high * (1 + work_of_type work of)
  work_of_type work (structure vars) = work_of_vars work vars
  work_of_type work (named name place) = work name.key
  work_of_type work unread = 0

  pub work_of_vars : (List ℕ → ℕ) → VarTrees → ℕ
  work_of_vars work no_vars = 1
  work_of_vars work (_then_ (var name section ty start place) xs) =
      1 + work_of_type work ty + work_of_vars work xs

abbrev pub work_of_named : List NamedType → ℕ → List ℕ → ℕ
work_of_named types zero key = 0
work_of_named types (suc n) key =
    work_of_vars (work_of_named types n) (listed (unwrap_or (look_up types key) []))

abbrev pub work_of_rest : List NamedType → ℕ → Rest → ℕ
work_of_rest types n (Vars vars from around) =
    work_of_vars (work_of_named types n) (listed (trees_from vars.now from))
work_of_rest types n (Elements of span section) = 1 + count_between span.index span.high *
    (1 + work_of_type (work_of_named types n) (type_tree of.now))

-- how many steps are left
abbrev pub work_left : List NamedType → List Frame → ℕ
work_left types [] = 0
work_left types (f ∷ fs) = work_left types fs + work_of_rest types f.levels f.rest

-- a walk's stack fits its path, and it has no more leaves than there may be
pub record IsSound (w : Walk) : Type 0 where
  pub low : AreLow w.frames.items (length w.path.items)
  pub room : length w.leaves.items ≤ MAX_LEAVES

-- the leaves that a walk has, and those that it still finds
abbrev pub all_leaves : List NamedType → Walk → List Leaf
all_leaves types w = w.leaves.items ++ pending types w.path.items w.frames.items

-- a walk finds these leaves before those that it still had to find, and takes no more steps for
-- them than these
pub record Adds (types : List NamedType) (old new : Walk) (more : List Leaf) (work : ℕ) : Type 0
  where
    pub sound : IsSound new
    pub total : all_leaves types new ≡ old.leaves.items
        ++ (more ++ pending types old.path.items old.frames.items)
    pub work_falls : work_left types new.frames.items ≤ work_left types old.frames.items + work

-- the frame is taken off the stack, and the path is what it stands beneath
pub record Pops (types : List NamedType) (old new : Walk) (f : Frame) : Type 0 where
  pub sound : IsSound new
  pub leaves : new.leaves.items ≡ old.leaves.items
  pub total : pending types old.path.items old.frames.items
      ≡ leaves_of_rest types f.levels new.path.items f.rest
      ++ pending types new.path.items new.frames.items
  pub work : work_left types old.frames.items
      ≡ work_left types new.frames.items + work_of_rest types f.levels f.rest

-- where variables that are declared at once have leaves, this is the section of these
abbrev pub IsLeafSection : List NamedType → declared.Around → declaration.Vars → Option Section → Type 0
IsLeafSection types around v (Some section) =
    Some section ≡ section_within (around_view around) v.section
IsLeafSection types around v None = (n : ℕ) → number_where
    (section_within (around_view around) v.section)
    (size_of_type (size_of_named types n) (type_tree v.ty)) ≡ 0

-- a step leaves the leaves as they are; there was one where fewer steps are left, and none where
-- nothing lies on the stack
pub record Steps (types : List NamedType) (old new : Walk) (going : Bool) : Type 0 where
  pub sound : IsSound new
  pub total : all_leaves types new ≡ all_leaves types old
  pub falls : going ≡ true → work_left types new.frames.items < work_left types old.frames.items
  pub ends : going ≡ false → new.frames.items ≡ []
