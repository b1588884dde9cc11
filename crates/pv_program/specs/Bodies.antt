-- Instructions of a body that are made one behind another.
use Rattle.std.specs.Prelude.{◌≡◌, ℕ, List, slice_get, Some}
use Rattle.pv_tree.specs.Tree.{PlacedName, CallPlain, InstrTree, BlockTree}
use Rattle.pv_tree.specs.InstructionGroups.{label_of_jump}
use Rattle.pv_mean.specs.Sources.{Source}
use Rattle.pv_mean.specs.Instructions.{site_of}
use Rattle.pv_stl_run.specs.declared.instr.Action.{Action}
use Rattle.pv_stl_run.specs.declared.instr.Action.TheVariants.{Jump, Call}
use Rattle.pv_stl_run.specs.declared.instr.Instr.{Instr}
use Rattle.pv_stl_run.specs.Going.{LeadsTo, Does, IsInstr}
use Rattle.pv_run.specs.declared.program.Program.{Program}
use Rattle.pv_run.specs.Code.{IsCall}

-- ---- instructions

-- where a jump leads, if it is one
abbrev pub LeadsSo : List InstrTree → ℕ → InstrTree → Action → Type 0
LeadsSo all k i (Jump w goal) =
    (l : PlacedName) × (label_of_jump i ≡ Some l) × LeadsTo all k l.0.key goal
LeadsSo all k i d = Unit {0}

-- the call that one makes, if it makes one
abbrev pub CallsSo : Source → BlockTree → Program → InstrTree → Action → Type 0
CallsSo source block p i (Call c) =
    (call : CallPlain) → i.call ≡ Some call → IsCall source block p c (site_of i call)
CallsSo source block p i d = Unit {0}

-- what an instruction does, with its target or its call in the program
pub record IsMadeAction (source : Source) (block : BlockTree) (p : Program) (all : List InstrTree)
    (k : ℕ) (i : InstrTree) (d : Action) : Type 0 where
  pub does : Does source block p.targets.items p.scratch d i
  pub leads : LeadsSo all k i d
  pub calls : CallsSo source block p i d

-- a jump isn't within a nesting
abbrev pub Outside : Action → ℕ → Type 0
Outside (Jump w goal) n = n ≡ 0
Outside d n = Unit {0}

-- the instruction of a number, behind those before it
pub record IsMadeInstr (source : Source) (block : BlockTree) (p : Program) (all : List InstrTree)
    (code : List Instr) (k : ℕ) (c : Instr) (i : InstrTree) : Type 0 where
  pub is : IsInstr source block p.targets.items p.scratch all code k c i
  pub calls : CallsSo source block p i c.action

-- instructions so far
abbrev pub AreMadeInstrs : Source → BlockTree → Program → List InstrTree → List Instr → Type 0
AreMadeInstrs source block p all code = (k : ℕ) (c : Instr) (i : InstrTree)
    → slice_get code k ≡ Some c → slice_get all k ≡ Some i
    → IsMadeInstr source block p all code k c i
