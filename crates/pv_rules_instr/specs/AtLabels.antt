-- Labels and jumps to them, by the numbers of their instructions: where a label is missing, and where one is doubled.
use Rattle.std.specs.Prelude.{◌≡◌, ℕ, List, [], ◌∷◌, ◌++◌, not, bytes_eq, Bool as Truth, true, false, Option, Some, None, option_and_then}
use Rattle.std.specs.List.{list_any}
use Rattle.pv_place.specs.declared.place.Place.{Place}
use Rattle.pv_tree.specs.Tree.{PlacedName, StepTrees, no_steps, steps, InstrTree}
use Rattle.pv_tree.specs.InstructionGroups.{label_of_jump}
use Rattle.pv_names.specs.Firsts.{first_number, number_in}
use Rattle.pv_names.specs.declared.firsts.Firsts.{Firsts}
use Rattle.pv_rules_expr.specs.Nearest.{nearer_of}
use Rattle.pv_rules_expr.specs.NearestIn.{nearest_in}
use Rattle.pv_rules_expr.specs.Places.{place_where}
use Rattle.pv_rules_instr.specs.declared.operand.Label.{Label}

abbrev pub label_tree : Label → PlacedName
label_tree l = (l.name.now, l.place)

abbrev pub ends_here : StepTrees → Truth
ends_here no_steps = true
ends_here (steps s more) = false

-- the label of an instruction has this key
abbrev pub is_named : List ℕ → Option PlacedName → Truth
is_named key None = false
is_named key (Some l) = bytes_eq key l.0.key

abbrev pub is_labelled : List ℕ → InstrTree → Truth
is_labelled key i = is_named key i.label

-- the number of the first instruction with this label
abbrev pub number_of_label : List InstrTree → List ℕ → Option ℕ
number_of_label is key = first_number (is_labelled key) is

-- the table has the labels of these instructions, each with the number of its first
abbrev pub FindsLabels : Firsts → List InstrTree → Type 0
FindsLabels f is = (key : List ℕ) → number_in f key ≡ number_of_label is key

-- a jump whose label is missing
abbrev pub missing_of : List InstrTree → PlacedName → Option Place
missing_of is l = place_where (not (list_any (is_labelled l.0.key) is)) l.1

abbrev pub missing_at : List InstrTree → InstrTree → Option Place
missing_at is i = option_and_then (missing_of is) (label_of_jump i)

-- a label that one of the instructions before has
abbrev pub later_of : List InstrTree → PlacedName → Option Place
later_of before l = place_where (list_any (is_labelled l.0.key) before) l.1

abbrev pub later_at : List InstrTree → InstrTree → Option Place
later_at before i = option_and_then (later_of before) i.label

abbrev pub later_from : List InstrTree → List InstrTree → Option Place → Option Place
later_from before [] nearest = nearest
later_from before (i ∷ more) nearest = later_from (before ++ i ∷ []) more (nearer_of nearest (later_at before i))

-- both
abbrev pub label_place : List InstrTree → Option Place
label_place is = nearest_in (missing_at is) is (later_from [] is None)
