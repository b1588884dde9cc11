-- Labels of a body: where each stands, and the last jump to it.
use Rattle.std.specs.Prelude.{◌≡◌, ◌≢◌, ℕ, ◌<◌, ◌≤◌, nat_le, List, length, drop, slice_get, Bool as Truth, true, false, Option, Some, None}
use Rattle.pv_tree.specs.Tree.{PlacedName, StepTrees, no_steps, steps, InstrTree}
use Rattle.pv_names.specs.declared.firsts.Firsts.{Firsts}
use Rattle.pv_names.specs.Firsts.{number_in}
use Rattle.pv_mean.specs.InstructionRuns.{is_named, is_jumped_to}
use Rattle.pv_program.specs.declared.label.Label.{Label}

-- ---- labels of operands

abbrev pub label_tree : Label → PlacedName
label_tree l = (l.name.now, l.place)

abbrev pub ends_here : StepTrees → Truth
ends_here no_steps = true
ends_here (steps s more) = false

-- ---- where they stand

-- the only instruction that has the label, or that there is none
pub record StandsAt (key : List ℕ) (all : List InstrTree) (n : ℕ) : Type 0 where
  pub within : n < length all
  pub named : (i : InstrTree) → slice_get all n ≡ Some i → is_named key i.label ≡ true
  pub others : (k : ℕ) (i : InstrTree) → k ≢ n → slice_get all k ≡ Some i
      → is_named key i.label ≡ false

abbrev pub NoneHas : List ℕ → List InstrTree → Type 0
NoneHas key all = (k : ℕ) (i : InstrTree) → slice_get all k ≡ Some i
    → is_named key i.label ≡ false

abbrev pub LabelAt : List ℕ → List InstrTree → Option ℕ → Type 0
LabelAt key all None = NoneHas key all
LabelAt key all (Some n) = StandsAt key all n

-- the table has where each label stands
abbrev pub FindsLabels : Firsts → List InstrTree → Type 0
FindsLabels f all = (key : List ℕ) → LabelAt key all (number_in f key)

-- whether a number was found that isn't below this one
abbrev pub is_from : ℕ → Option ℕ → Truth
is_from k None = false
is_from k (Some n) = nat_le k n

-- the table has the last jump to each label, of the instructions from a number on
pub record FindsJumps (f : Firsts) (all : List InstrTree) (from : ℕ) : Type 0 where
  pub last : (key : List ℕ) (k : ℕ) → from ≤ k
      → is_jumped_to key (drop k all) ≡ is_from k (number_in f key)
  pub inside : (key : List ℕ) (n : ℕ) → number_in f key ≡ Some n → from ≤ n

-- none of the instructions before has the label of this one
abbrev pub IsUnmet : List InstrTree → InstrTree → Type 0
IsUnmet before i = (n : ℕ) (j : InstrTree) (l : PlacedName) → slice_get before n ≡ Some j
    → i.label ≡ Some l → is_named l.0.key j.label ≡ true → ⊥
