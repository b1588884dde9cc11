-- Jumps in STL. A jump's label is missing in its block, at the jump's label, or a label is doubled, at the later one. The range of
-- a backward jump goes from its label to the last jump to it: one is entered elsewhere than at the label, at the word of the jump
-- that enters, or two cross, at the later label.
use Rattle.std.specs.Prelude.{◌≡◌, ◌⊎◌, ◌<◌, ◌≤◌, ℕ, List, map, filter_map, Some, Any, Contains, slice_get, IsSomeAnd}
use Rattle.pv_place.specs.declared.place.Place.{Place}
use Rattle.pv_tree.specs.Tree.{PlacedName, InstrTree}
use Rattle.pv_tree.specs.Scopes.{ProjectTree}
use Rattle.pv_tree.specs.InstructionGroups.{label_of_jump}
use Rattle.pv_tree.specs.Parts.{instructions_of}
use Rattle.pv_tree.specs.Interfaces.{IsLater}

abbrev pub labels_of : List InstrTree → List PlacedName
labels_of instructions = filter_map (λ i. i.label) instructions

-- ---- labels

abbrev pub MissesLabel : List InstrTree → Place → Type 0
MissesLabel instructions at =
    Any (λ i. IsSomeAnd (label_of_jump i) (λ l. (l.1 ≡ at) × (Contains (map (λ n. n.0.key)
    (labels_of instructions)) l.0.key → ⊥))) instructions

abbrev pub IsWrongLabel : ProjectTree → Place → Type 0
IsWrongLabel project at =
    Any (λ b. MissesLabel (instructions_of b.body) at ⊎ IsLater (labels_of
    (instructions_of b.body)) at) project.blocks

-- ---- ranges

-- instruction number j jumps to the label of instruction number i, the first of the name
pub record Jumps (instructions : List InstrTree) (j i : ℕ) : Type 0 where
  pub jump : InstrTree
  pub goal : InstrTree
  pub target : PlacedName
  pub label : PlacedName
  pub is_jump : slice_get instructions j ≡ Some jump
  pub is_goal : slice_get instructions i ≡ Some goal
  pub has_target : label_of_jump jump ≡ Some target
  pub has_label : goal.label ≡ Some label
  pub same : target.0.key ≡ label.0.key
  pub is_first : (k : ℕ) → k < i → IsSomeAnd (slice_get instructions k) (λ g. IsSomeAnd g.label
      (λ l. l.0.key ≡ target.0.key)) → ⊥

-- a range of instructions: some jump goes back from the last to the first, or to itself, and none from behind the last
pub record IsRange (instructions : List InstrTree) (first last : ℕ) : Type 0 where
  pub back : first ≤ last
  pub jumps : Jumps instructions last first
  pub none_later : (j : ℕ) → last < j → Jumps instructions j first → ⊥

-- a jump from outside a range into it, but not to its label; it stands at this place
pub record Enters (instructions : List InstrTree) (at : Place) : Type 0 where
  pub first : ℕ
  pub last : ℕ
  pub range : IsRange instructions first last
  pub from : ℕ
  pub to : ℕ
  pub jumps : Jumps instructions from to
  pub outside : (from < first) ⊎ (last < from)
  pub inside : first < to
  pub within : to ≤ last
  pub is_at : jumps.jump.place ≡ at

-- two ranges share some instructions, and each has some of its own; the later label stands at this place
pub record Crosses (instructions : List InstrTree) (at : Place) : Type 0 where
  pub first : ℕ
  pub last : ℕ
  pub later_first : ℕ
  pub later_last : ℕ
  pub range : IsRange instructions first last
  pub later_range : IsRange instructions later_first later_last
  pub begins : first < later_first
  pub overlaps : later_first ≤ last
  pub ends : last < later_last
  pub is_at : later_range.jumps.label.1 ≡ at

abbrev pub IsWrongRange : ProjectTree → Place → Type 0
IsWrongRange project at =
    Any (λ b. Enters (instructions_of b.body) at ⊎ Crosses
    (instructions_of b.body) at) project.blocks
