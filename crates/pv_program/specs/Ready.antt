-- Instructions of which nothing is too large: each word has what it works on, no label is there twice, and nestings are as the rules
-- have them.
use Rattle.std.specs.Prelude.{◌≡◌, ⊤, ℕ, ◌<◌, ◌^◌, unsigned_abs, List, length, take, slice_get, Bool as Truth, true, false, ◌||◌, Option, Some, None}
use Rattle.pv_types.specs.declared.declaration.Literal.{Literal}
use Rattle.pv_tree.specs.declared.instr.Op.{Op}
use Rattle.pv_tree.specs.declared.instr.Op.TheVariants.{O, L, T}
use Rattle.pv_tree.specs.Tree.{PlacedName, OperandTree, CallPlain, InstrTree, BodyTree, scl, stl, starts, BlockTree}
use Rattle.pv_tree.specs.InstructionGroups.{Group, opening, closing, jump, calling, group_of, is_jump, label_of_jump}
use Rattle.pv_tree.specs.Parts.{how_of, site}
use Rattle.pv_tree.specs.Rules.OpenNestings.{open_after}
use Rattle.pv_tree.specs.Rules.Chains.{LeadsTo}
use Rattle.pv_mean.specs.Sources.{Source}
use Rattle.pv_stl_run.specs.declared.instr.Change.{Change}
use Rattle.pv_stl_run.specs.declared.instr.Change.TheVariants.{Open, Close}
use Rattle.pv_stl_run.specs.declared.instr.Action.{Action}
use Rattle.pv_stl_run.specs.declared.instr.Action.TheVariants as action
use Rattle.pv_resolve.specs.Rooms.{HasRoom}
use Rattle.pv_laws_room.specs.Bodies.{FitsStmts, FitsInstr}
use Rattle.pv_program.specs.Rows.{is_joined, is_taken, is_edge, is_end, is_change, is_combined, is_shift}
use Rattle.pv_program.specs.Labels.{IsUnmet}
use Rattle.pv_program.specs.Led.{RunsLed, AllLed}

-- ---- words

-- an O alone, and L of a literal
abbrev pub stands_alone : Op → Option OperandTree → Option Literal → Truth
stands_alone O None literal = true
stands_alone O (Some o) literal = false
stands_alone L variable None = false
stands_alone L variable (Some l) = true
stands_alone op variable literal = false

-- what changes the registers alone
abbrev pub changes_alone : InstrTree → Truth
changes_alone i =
    is_change (group_of i.op) || (is_combined (group_of i.op) || (is_shift (group_of i.op)
    || stands_alone i.op i.operand i.literal))

-- L and T of an operand
abbrev pub is_moved : Op → Option Literal → Truth
is_moved L None = true
is_moved L (Some l) = false
is_moved T literal = true
is_moved op literal = false

-- what works on an operand
abbrev pub works_on : InstrTree → Truth
works_on i =
    is_joined (group_of i.op) || (is_taken i.op || (is_edge i.op || is_moved i.op i.literal))

-- ---- one instruction

-- 32 bits hold how many places a shift has
abbrev pub FitsCount : Option Literal → Type 0
FitsCount None = ⊤
FitsCount (Some l) = unsigned_abs l.value < 2 ^ 32

pub record IsReady (source : Source) (block : BlockTree) (i : InstrTree) : Type 0 where
  pub fits : FitsInstr i
  pub count : is_shift (group_of i.op) ≡ true → FitsCount i.literal
  pub label : is_jump (group_of i.op) ≡ true
      → (l : PlacedName) × (label_of_jump i ≡ Some l)
  pub works : i.call ≡ None → is_jump (group_of i.op) ≡ false → is_end (group_of i.op) ≡ false
      → changes_alone i ≡ false
      → (o : OperandTree) × (i.operand ≡ Some o) × (works_on i ≡ true)
  pub called : (call : CallPlain) → i.call ≡ Some call
      → (group_of i.op ≡ calling) × RunsLed source block (site (how_of i.op) call)

-- ---- nestings

abbrev pub is_nesting : Group → Truth
is_nesting opening = true
is_nesting closing = true
is_nesting group = false

-- where so many are open
abbrev pub MayStand : Group → ℕ → Type 0
MayStand opening n = n < 7
MayStand jump n = n ≡ 0
MayStand group n = ⊤

-- the code of a word of the group opens and closes as the group does, and jumps where that does
abbrev pub ChangeSuits : Change → Group → Type 0
ChangeSuits (Open j) g = g ≡ opening
ChangeSuits Close g = g ≡ closing
ChangeSuits other g = is_nesting g ≡ false

abbrev pub Suits : Action → Group → Type 0
Suits (action.Change c) g = ChangeSuits c g
Suits (action.Jump w goal) g = g ≡ jump
Suits other g = is_nesting g ≡ false

-- so many are open in front of the instruction of a number
abbrev pub IsOpenAt : List InstrTree → ℕ → ℕ → Type 0
IsOpenAt all k depth = depth ≡ length (open_after (take k all))

-- ---- bodies

pub record AreReady (source : Source) (block : BlockTree) (all : List InstrTree) : Type 0 where
  pub each : (k : ℕ) (i : InstrTree) → slice_get all k ≡ Some i → IsReady source block i
  pub labels : (k : ℕ) (i : InstrTree) → slice_get all k ≡ Some i → IsUnmet (take k all) i
  pub nests : (k : ℕ) (i : InstrTree) → slice_get all k ≡ Some i
      → MayStand (group_of i.op) (length (open_after (take k all)))

-- statements whose literals fit, and whose calls run such blocks; instructions that are ready
abbrev pub FitsCode : Source → BlockTree → BodyTree → Type 0
FitsCode source block (scl statements) = FitsStmts statements × AllLed source block statements
FitsCode source block (stl instructions) = AreReady source block instructions
FitsCode source block (starts values) = ⊤

-- each block to which calls lead has room, and such a body
pub record IsReached (source : Source) : Type 0 where
  pub room : (b : BlockTree) → LeadsTo source.project source.entry b → HasRoom source b
  pub body : (b : BlockTree) → LeadsTo source.project source.entry b → FitsCode source b b.body
