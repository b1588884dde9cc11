-- When a frame and a valuation say the same of a block at work: the first variables are the visible cells, a brief cell with a value is its
-- variable, and its 'set' says whether it has one. And what of a lowered expression happens by a valuation.
use Rattle.std.specs.Prelude.{◌≡◌, ◌⊎◌, ℕ, suc, ◌+◌, ◌<◌, ◌≤◌, ℤ, length}
use Rattle.pv_tree.specs.Tree.{BlockTree}
use Rattle.pv_mean.specs.Layout.{entry_size}
use Rattle.pv_mean.specs.Sources.{Source}
use Rattle.pv_mean.specs.Frames.{Frame, visible_len, visible_value, brief_value}
use Rattle.pv_mean.specs.Endings.{Tried}
use Rattle.pv_mean.specs.Spots.{Spot}
use Rattle.pv_mean.specs.Activations.{Activation, value_number, spot_of}
use Rattle.pv_flow.specs.Terms.{Valuation, value_of}
use Rattle.pv_resolve.specs.Begins.{begins_further}
use Rattle.pv_variables.specs.Origins.{origin_at}
use Rattle.pv_variables.specs.Variables.{bound_count, shared_count, brief_variable, value_count}
use Rattle.pv_access.specs.Correct.{checked, moved_by, IsTold, through}
use Rattle.pv_laws_types.specs.Typed.{IsAtWork, CellsLie}
use Rattle.pv_lower.specs.Storages.{Access}
use Rattle.pv_lower.specs.Lowered.{Lowered, Accessed}
use Rattle.pv_laws_lower.specs.Fit.{IsLaidOut}

-- ---- where the block's variables lie

-- the brief cells that operands name: the variables', and a function's value
abbrev pub named_count : Source → BlockTree → ℕ
named_count source block = value_number source block + value_count block

-- the variable of one of them, or its 'set'
pub record IsBrief (source : Source) (block : BlockTree) (x : ℕ) : Type 0 where
  pub cell : ℕ
  pub within : cell < named_count source block
  pub is : (x ≡ brief_variable source block cell) ⊎ (x ≡ suc (brief_variable source block cell))

-- those of the instance lie at its cells, the shared ones at theirs, and those of brief cells behind all visible ones, each at a place of
-- its own
pub record LieAt (source : Source) (act : Activation) (place : ℕ → ℕ) : Type 0 where
  pub instance : (x : ℕ) → x < entry_size source.project act.block → place x ≡ act.first + x
  pub shared : (x : ℕ) → x < shared_count source
      → place (bound_count source act.block + x) ≡ entry_size source.project source.entry + x
  pub behind : (x : ℕ) → IsBrief source act.block x → visible_len source.cells ≤ place x
  pub apart : (x y : ℕ) → IsBrief source act.block x → IsBrief source act.block y → place x ≡ place y → x ≡ y

-- ---- what they are

pub record Agrees (source : Source) (act : Activation) (place : ℕ → ℕ) (frame : Frame) (w : Valuation) : Type 0 where
  -- all values lie in their cells' types
  pub cells : CellsLie source act frame
  pub visible : (n : ℕ) → n < visible_len source.cells → w n ≡ visible_value frame n
  -- one with a value is that value, and its 'set' is 1; the 'set' of one without is 0
  pub brief : (j : ℕ) → j < named_count source act.block
      → IsTold (through place w) (brief_variable source act.block j) (brief_value frame j)

-- the frame has these brief cells, so that a write finds its own there
abbrev pub HasBriefCells : Source → Activation → Frame → Type 0
HasBriefCells source act frame = named_count source act.block ≤ length frame.brief

-- a block at work, with a frame and a valuation that agree
pub record AtWork (source : Source) (act : Activation) (place : ℕ → ℕ) (frame : Frame) (w : Valuation) : Type 0 where
  pub laid : IsLaidOut source act.block
  pub work : IsAtWork source act
  pub lie : LieAt source act place
  pub agrees : Agrees source act place frame w

-- ---- what is lowered, by a valuation of the block's variables

abbrev pub outcome : Valuation → Lowered → Tried ℤ
outcome w l = checked w l.checks (value_of w l.term)

-- where the block's instance begins at this visible cell
abbrev pub spot_in : Valuation → ℕ → Access → Spot
spot_in w first a = spot_of (begins_further (moved_by w a.moves) (origin_at first a.origin))

abbrev pub spot_found : Valuation → ℕ → Accessed → Tried Spot
spot_found w first acc = checked w acc.checks (spot_in w first acc.access)
