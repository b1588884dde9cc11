-- Which cells a pattern's expressions read. Its indexes are literals, so an operand names one spot, whatever values the cells
-- have.
use Rattle.std.specs.Prelude.{◌≡◌, ℕ, zero, suc, ◌+◌, ◌==◌, pos, List, [], ◌∷◌, ◌++◌, flat_map, slice_index_or, Bool, true, IsTrue, is_some}
use Rattle.std.specs.List.{list_any}
use Rattle.pv_tree.specs.Tree.{ExprTree, lit, read, unary, binary, std, paren, ExprTrees, no_exprs, exprs, OperandTree, operand, StepTree, field, index, StepTrees, no_steps, steps}
use Rattle.pv_tree.specs.Types.{literal_of}
use Rattle.pv_mean.specs.Sources.{Source}
use Rattle.pv_mean.specs.Frames.{Frame}
use Rattle.pv_mean.specs.Endings.{Tried, got, trap}
use Rattle.pv_mean.specs.Spots.{Spot, visible, brief, bit, bytes, fixed, nowhere}
use Rattle.pv_mean.specs.Values.{locate}
use Rattle.pv_mean.specs.Scans.{Visible, entry_activation}
use Rattle.pv_pattern.specs.Patterns.{Pattern, invariant, forbidden, implication, within, between, reach, expressions_of}

-- ---- the spots that are read

-- no cell has a value
abbrev pub bare : Frame
bare = record { visible = []; brief = [] }

abbrev pub spot_where : Tried Spot → List Spot
spot_where (got spot) = spot ∷ []
spot_where (trap kind place) = []

abbrev mutual
  -- the spots that an expression over the entered block's names reads, indexes included, in the order of the text
  pub spots_read : Source → ExprTree → List Spot
  spots_read source (lit own value place) = []
  spots_read source (read o) = spots_of_operand source o
  spots_read source (unary op place arg) = spots_read source arg
  spots_read source (binary op place left right) =
      spots_read source left ++ spots_read source right
  spots_read source (std function place args) = spots_of_exprs source args
  spots_read source (paren place inner) = spots_read source inner

  pub spots_of_exprs : Source → ExprTrees → List Spot
  spots_of_exprs source no_exprs = []
  spots_of_exprs source (exprs e more) = spots_read source e ++ spots_of_exprs source more

  pub spots_of_operand : Source → OperandTree → List Spot
  spots_of_operand source (operand root path place) = spots_of_steps source path
      ++ spot_where (locate source (entry_activation source) bare (operand root path place))

  pub spots_of_steps : Source → StepTrees → List Spot
  spots_of_steps source no_steps = []
  spots_of_steps source (steps step more) =
      spots_of_step source step ++ spots_of_steps source more

  pub spots_of_step : Source → StepTree → List Spot
  spots_of_step source (field name place) = []
  spots_of_step source (index e place) = spots_read source e

-- ---- the cells of spots

-- so many numbers from n on
abbrev pub numbers_from : ℕ → ℕ → List ℕ
numbers_from n zero = []
numbers_from n (suc count) = n ∷ numbers_from (n + 1) count

-- the visible cells of a spot
abbrev pub cells_of_spot : Spot → List ℕ
cells_of_spot (visible n) = n ∷ []
cells_of_spot (brief ty n) = []
cells_of_spot (bit n b) = n ∷ []
cells_of_spot (bytes ty n count) = numbers_from n count
cells_of_spot (fixed v) = []
cells_of_spot nowhere = []

-- the visible cells that an expression reads
abbrev pub cells_read : Source → ExprTree → List ℕ
cells_read source e = flat_map cells_of_spot (spots_read source e)

-- one of the pattern's expressions reads the visible cell of this number
abbrev pub reads : Source → Pattern → ℕ → Bool
reads source p n =
    list_any (λ m. n == m) (flat_map (cells_read source) (expressions_of p))

-- ---- fixed indexes

abbrev mutual
  -- each index in it is a literal
  pub HasFixedIndexes : ExprTree → Type 0
  HasFixedIndexes (lit own value place) = Unit {0}
  HasFixedIndexes (read o) = IsFixedOperand o
  HasFixedIndexes (unary op place arg) = HasFixedIndexes arg
  HasFixedIndexes (binary op place left right) = HasFixedIndexes left × HasFixedIndexes right
  HasFixedIndexes (std function place args) = HaveFixedIndexes args
  HasFixedIndexes (paren place inner) = HasFixedIndexes inner

  pub HaveFixedIndexes : ExprTrees → Type 0
  HaveFixedIndexes no_exprs = Unit {0}
  HaveFixedIndexes (exprs e more) = HasFixedIndexes e × HaveFixedIndexes more

  pub IsFixedOperand : OperandTree → Type 0
  IsFixedOperand (operand root path place) = AreFixedSteps path

  pub AreFixedSteps : StepTrees → Type 0
  AreFixedSteps no_steps = Unit {0}
  AreFixedSteps (steps step more) = IsFixedStep step × AreFixedSteps more

  pub IsFixedStep : StepTree → Type 0
  IsFixedStep (field name place) = Unit {0}
  IsFixedStep (index e place) = IsTrue (is_some (literal_of e))

-- so are those of all its expressions
abbrev pub AreFixed : Pattern → Type 0
AreFixed (invariant a) = HasFixedIndexes a
AreFixed (forbidden a) = HasFixedIndexes a
AreFixed (implication a b) = HasFixedIndexes a × HasFixedIndexes b
AreFixed (within a b) = HasFixedIndexes a × HasFixedIndexes b
AreFixed (between a b c) = HasFixedIndexes a × HasFixedIndexes b × HasFixedIndexes c
AreFixed (reach a) = HasFixedIndexes a

-- the cells that pass the test have the same values
abbrev pub SameWhere : (ℕ → Bool) → Visible → Visible → Type 0
SameWhere test v w =
    (n : ℕ) → test n ≡ true → slice_index_or v n (pos 0) ≡ slice_index_or w n (pos 0)
