-- Blocks to which calls lead from the entered one: what is known of them, and calls that run no others.
use Rattle.std.specs.Prelude.{◌≡◌, ⊤, ℕ, List, slice_get, Some, false}
use Rattle.pv_types.specs.declared.name.Name.{Name}
use Rattle.pv_types.specs.Tree.{VarTree}
use Rattle.pv_types.specs.View.{section_of}
use Rattle.pv_tree.specs.Tree.{StmtTree, assign, assign_call, if_, case_, for_, while_, repeat_, exit_, continue_, return_, call_, empty_, StmtTrees, no_stmts, stmts, ArmTrees, no_arms, arms, BranchTrees, no_branches, branches, ElseTree, no_else, else_, BlockTree}
use Rattle.pv_tree.specs.Scopes.{first_var, is_const}
use Rattle.pv_tree.specs.Callees.{CallSite, as_statement, as_value, runs, callee_of}
use Rattle.pv_tree.specs.Parts.{site}
use Rattle.pv_tree.specs.Rules.Chains.{LeadsTo}
use Rattle.pv_mean.specs.Sources.{Source}
use Rattle.pv_run.specs.declared.program.Called.{Called}
use Rattle.pv_resolve.specs.Rooms.{HasRoom}
use Rattle.pv_resolve.specs.declared.begin.Begin.{Begin}
use Rattle.pv_resolve.specs.declared.begin.Begin.TheVariants.{In, At}
use Rattle.pv_resolve.specs.declared.begin.Where.{Where}
use Rattle.pv_resolve.specs.declared.begin.Where.TheVariants.{Own, Visible, Brief}
use Rattle.pv_eval.specs.declared.node.Spot.TheVariants.{Nowhere}

-- ---- blocks

-- the block of this number is one to which calls lead
pub record IsLed (source : Source) (n : ℕ) : Type 0 where
  pub block : BlockTree
  pub at : slice_get source.project.blocks n ≡ Some block
  pub leads : LeadsTo source.project source.entry block

-- so is each block that one of these calls runs
abbrev pub AreLed : Source → List Called → Type 0
AreLed source calls = (i n : ℕ) (call : Called) → slice_get calls i ≡ Some call
    → call.block ≡ Some n → IsLed source n

-- the block has room, and so has each to which calls lead
pub record HasAllRoom (source : Source) (block : BlockTree) : Type 0 where
  pub own : HasRoom source block
  pub led : (b : BlockTree) → LeadsTo source.project source.entry b → HasRoom source b

-- ---- calls

-- calls lead to the block that this one runs
abbrev pub RunsLed : Source → BlockTree → CallSite → Type 0
RunsLed source block s = (b : BlockTree)
    → callee_of (record { project = source.project; block = block }) s ≡ runs b
    → LeadsTo source.project source.entry b

-- and so it is of each call in statements
abbrev mutual
  pub CallsLed : Source → BlockTree → StmtTree → Type 0
  CallsLed source block (assign target place value) = ⊤
  CallsLed source block (assign_call target place call) = RunsLed source block (site as_value call)
  CallsLed source block (if_ conditions other place) =
      ArmsLed source block conditions × ElseLed source block other
  CallsLed source block (case_ selector choices other place) =
      BranchesLed source block choices × ElseLed source block other
  CallsLed source block (for_ name name_place first last by body place) =
      AllLed source block body
  CallsLed source block (while_ condition body place) = AllLed source block body
  CallsLed source block (repeat_ body condition place) = AllLed source block body
  CallsLed source block (exit_ place) = ⊤
  CallsLed source block (continue_ place) = ⊤
  CallsLed source block (return_ place) = ⊤
  CallsLed source block (call_ call) = RunsLed source block (site as_statement call)
  CallsLed source block (empty_ place) = ⊤

  pub AllLed : Source → BlockTree → StmtTrees → Type 0
  AllLed source block no_stmts = ⊤
  AllLed source block (stmts s more) = CallsLed source block s × AllLed source block more

  pub ArmsLed : Source → BlockTree → ArmTrees → Type 0
  ArmsLed source block no_arms = ⊤
  ArmsLed source block (arms condition body more) =
      AllLed source block body × ArmsLed source block more

  pub BranchesLed : Source → BlockTree → BranchTrees → Type 0
  BranchesLed source block no_branches = ⊤
  BranchesLed source block (branches values body more) =
      AllLed source block body × BranchesLed source block more

  pub ElseLed : Source → BlockTree → ElseTree → Type 0
  ElseLed source block no_else = ⊤
  ElseLed source block (else_ body) = AllLed source block body

-- ---- parameters

-- the first variable of this name in the block is this one, which isn't a constant
pub record IsVariable (block : BlockTree) (name : Name) (v : VarTree) : Type 0 where
  pub found : first_var block.vars name.key ≡ Some v
  pub varies : is_const (section_of v) ≡ false

-- what begins there is a part of an instance or of the brief cells, or nothing
abbrev pub IsSlotted : Where → Type 0
IsSlotted Own = ⊤
IsSlotted Visible = ⊥
IsSlotted Brief = ⊤

abbrev pub HasSlot : Begin → Type 0
HasSlot (In part laid) = IsSlotted part
HasSlot (At s) = s ≡ Nowhere
