-- Requirement patterns, judged at each scan that is done, by the visible cells at the scan's beginning and at its end and by what
-- the scan before left (the patterns of PLCverif; that they look at a scan's beginning and end alone is this project's own).
use Rattle.std.specs.Prelude.{List, [], ◌∷◌, Bool, true, false, ◌&&◌, ◌||◌, not, Option, Some, None}
use Rattle.pv_tree.specs.Tree.{ExprTree}
use Rattle.pv_mean.specs.Sources.{Source}
use Rattle.pv_mean.specs.Endings.{Value, got, trap}
use Rattle.pv_mean.specs.Values.{is_true}
use Rattle.pv_mean.specs.Scans.{Visible, pattern_value}

-- which pattern it is, with its expressions
pub data Pattern : Type 0 where
  -- a is true at each end
  invariant : ExprTree → Pattern
  -- a is false at each end
  forbidden : ExprTree → Pattern
  -- where a is true at an end, b is
  implication : ExprTree → ExprTree → Pattern
  -- where a is true at a beginning, b is true at the same scan's end
  within : ExprTree → ExprTree → Pattern
  -- where a was true at the end of the scan before and b is true at an end, c is true there
  between : ExprTree → ExprTree → ExprTree → Pattern
  -- a scan is asked for at whose end a is true
  reach : ExprTree → Pattern

-- a value of BOOL is true where it is 1. An expression that keeps the rules on patterns never traps
abbrev pub is_true_value : Value → Bool
is_true_value (got v) = is_true v
is_true_value (trap kind place) = false

-- whether the expression is true of these visible cells
abbrev pub is_true_of : Source → Visible → ExprTree → Bool
is_true_of source values e = is_true_value (pattern_value source values e)

abbrev pub implies : Bool → Bool → Bool
implies a b = not a || b

-- whether the scan before left the mark; before the first scan there is none
abbrev pub was_true : Option Bool → Bool
was_true None = false
was_true (Some was) = was

-- whether the pattern holds at a scan that is done, or, of one that asks whether a goal is reached, whether it is. `prev` is the
-- mark that the scan before left, none at the first
abbrev pub judge : Source → Pattern → Option Bool → Visible → Visible → Bool
judge source (invariant a) prev begin end = is_true_of source end a
judge source (forbidden a) prev begin end = not (is_true_of source end a)
judge source (implication a b) prev begin end =
    implies (is_true_of source end a) (is_true_of source end b)
judge source (within a b) prev begin end =
    implies (is_true_of source begin a) (is_true_of source end b)
judge source (between a b c) prev begin end =
    implies (was_true prev && is_true_of source end b) (is_true_of source end c)
judge source (reach a) prev begin end = is_true_of source end a

-- a pattern's expressions, in their order
abbrev pub expressions_of : Pattern → List ExprTree
expressions_of (invariant a) = a ∷ []
expressions_of (forbidden a) = a ∷ []
expressions_of (implication a b) = a ∷ b ∷ []
expressions_of (within a b) = a ∷ b ∷ []
expressions_of (between a b c) = a ∷ b ∷ c ∷ []
expressions_of (reach a) = a ∷ []

-- a pattern's first expression
abbrev pub first_of : Pattern → ExprTree
first_of (invariant a) = a
first_of (forbidden a) = a
first_of (implication a b) = a
first_of (within a b) = a
first_of (between a b c) = a
first_of (reach a) = a

-- what a scan that is done leaves for the next one: whether the first expression is true at its end
abbrev pub mark : Source → Pattern → Visible → Bool
mark source p end = is_true_of source end (first_of p)

-- whether a pattern asks for a goal that is to be reached
abbrev pub asks_for_goal : Pattern → Bool
asks_for_goal (invariant a) = false
asks_for_goal (forbidden a) = false
asks_for_goal (implication a b) = false
asks_for_goal (within a b) = false
asks_for_goal (between a b c) = false
asks_for_goal (reach a) = true
