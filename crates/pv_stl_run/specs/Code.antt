-- What the code of an instruction means: the row of the table that it has.
use Rattle.std.specs.Prelude.{◌≡◌, ℕ, suc, ◌-◌, ◌<◌, ◌≤◌, List, slice_get, Option, Some, None, Bool as Truth, Result, Ok, Err}
use Rattle.pv_word.specs.declared.types.Ty.{Ty}
use Rattle.pv_tree.specs.Tree.{OperandTree, InstrTree, BlockTree}
use Rattle.pv_mean.specs.Sources.{Source}
use Rattle.pv_mean.specs.Frames.{Frame}
use Rattle.pv_mean.specs.Endings.{Ended, ended, trapped}
use Rattle.pv_mean.specs.Activations.{Activation}
use Rattle.pv_mean.specs.Registers.{Working}
use Rattle.pv_mean.specs.Instructions as m
use Rattle.pv_mean.specs.Instructions.{Effect, onward, left, effect, on_registers, type_behind, where_true, jump, jump_by_result, jump_by_codes, jump_by_overflow, loop_jump, by_result}
use Rattle.pv_eval.specs.declared.target.Target.{Target}
use Rattle.pv_eval.specs.declared.trap.Trap.{Trap}
use Rattle.pv_eval.specs.Means.{activation}
use Rattle.pv_eval.specs.Ready.{Locates}
use Rattle.pv_stl_run.specs.declared.instr.Change.{Change}
use Rattle.pv_stl_run.specs.declared.instr.Change.TheVariants.{Open, Close}
use Rattle.pv_stl_run.specs.declared.instr.Written.{Written}
use Rattle.pv_stl_run.specs.declared.instr.Written.TheVariants as written
use Rattle.pv_stl_run.specs.declared.instr.When.{When}
use Rattle.pv_stl_run.specs.declared.instr.When.TheVariants as when
use Rattle.pv_stl_run.specs.declared.instr.Goal.{Goal}
use Rattle.pv_stl_run.specs.declared.instr.Action.{Action}
use Rattle.pv_stl_run.specs.declared.instr.Action.TheVariants as action
use Rattle.pv_stl_run.specs.declared.registers.Junction.{Junction}
use Rattle.pv_stl_run.specs.declared.registers.Registers.{Registers}
use Rattle.pv_stl_run.specs.declared.steps.Next.{Next}
use Rattle.pv_stl_run.specs.declared.steps.Next.TheVariants as next
use Rattle.pv_stl_run.specs.Views.{junction_of, registers_of}
use Rattle.pv_stl_run.specs.Rows.{row_of, test_of}

-- the target of this number is the operand's, and takes no more room than so many values, in each activation of the block
pub record IsTarget (source : Source) (block : BlockTree) (targets : List Target) (room n : ℕ)
    (o : OperandTree) : Type 0 where
  pub target : Target
  pub at : slice_get targets n ≡ Some target
  pub fits : target.count ≤ room
  pub locates : Locates source block target o

-- the instruction's row of the table, in each activation of the block
abbrev pub HasRow : Source → BlockTree → InstrTree → (Activation → Effect) → Type 0
HasRow source block i row = (first : ℕ) (w : Working)
    → effect source (activation block first) i i.op w ≡ row (activation block first) w

abbrev pub written_of : Written → Truth → Option Truth
written_of written.Result e = Some e
written_of (written.Where bit) e = where_true bit e

abbrev pub jump_row : When → InstrTree → Effect
jump_row when.Always i = jump i
jump_row (when.Result bit) i = jump_by_result i bit
jump_row (when.Codes test) i = jump_by_codes i (test_of test)
jump_row when.Overflow i = jump_by_overflow i
jump_row when.Counted i = loop_jump i

abbrev pub HasType : Source → BlockTree → InstrTree → Ty → Type 0
HasType source block i ty = (first : ℕ) → ty ≡ type_behind source (activation block first) i

-- what an instruction does that isn't a call
pub data IsAction (source : Source) (block : BlockTree) (targets : List Target) (room : ℕ) : Action
    → InstrTree → Type 0 where
  changes : {c : Change} {i : InstrTree}
      → HasRow source block i (λ act. on_registers (λ r. row_of c i.place r))
      → IsAction source block targets room (action.Change c) i
  joins : {j : Junction} {n : ℕ} {i : InstrTree} (o : OperandTree)
      → i.operand ≡ Some o → IsTarget source block targets room n o
      → HasRow source block i (λ act. m.joins source act i (junction_of j))
      → IsAction source block targets room (action.Join j n) i
  writes : {w : Written} {n : ℕ} {i : InstrTree} (o : OperandTree)
      → i.operand ≡ Some o → IsTarget source block targets room n o
      → HasRow source block i (λ act. m.writes source act i (λ e. written_of w e))
      → IsAction source block targets room (action.Write w n) i
  finds_edge : {rising : Truth} {n : ℕ} {i : InstrTree} (o : OperandTree)
      → i.operand ≡ Some o → IsTarget source block targets room n o
      → HasRow source block i (λ act. m.finds_edge source act i rising)
      → IsAction source block targets room (action.Edge rising n) i
  loads : {ty : Ty} {n : ℕ} {i : InstrTree} (o : OperandTree)
      → i.operand ≡ Some o → i.literal ≡ None → IsTarget source block targets room n o
      → HasType source block i ty → HasRow source block i (λ act. m.loads source act i)
      → IsAction source block targets room (action.Load ty n) i
  transfers : {ty : Ty} {n : ℕ} {i : InstrTree} (o : OperandTree)
      → i.operand ≡ Some o → IsTarget source block targets room n o
      → HasType source block i ty → HasRow source block i (λ act. m.transfers source act i)
      → IsAction source block targets room (action.Transfer ty n) i
  jumps : {w : When} {goal : Goal} {i : InstrTree} → HasRow source block i (λ act. jump_row w i)
      → IsAction source block targets room (action.Jump w goal) i
  ends : {i : InstrTree} → HasRow source block i (λ act. m.ends)
      → IsAction source block targets room action.End i
  ends_where : {i : InstrTree} → HasRow source block i (λ act w. by_result i w m.ends_where)
      → IsAction source block targets room action.EndWhere i

-- ---- one step

abbrev pub working : Registers → Frame → Working
working r frame = record { registers = registers_of r; frame = frame }

-- where the code goes on, as the definitions have it
abbrev pub next_of : InstrTree → Result Next Trap → Registers → Frame → Ended m.Next
next_of i (Ok next.Onward) r frame = ended (onward (working r frame))
next_of i (Ok (next.To goal)) r frame = jump i (working r frame)
next_of i (Ok next.Left) r frame = ended (left frame)
next_of i (Err t) r frame = trapped t.kind t.place

-- on registers and frame alone
abbrev pub onward_in : Result Unit Trap → Registers → Frame → Ended m.Next
onward_in (Ok done) r frame = ended (onward (working r frame))
onward_in (Err t) r frame = trapped t.kind t.place

abbrev pub IsNoJump : Next → Type 0
IsNoJump next.Onward = Unit {0}
IsNoJump (next.To goal) = ⊥
IsNoJump next.Left = Unit {0}

abbrev pub IsGoal : Goal → Next → Type 0
IsGoal goal next.Onward = Unit {0}
IsGoal goal (next.To g) = g ≡ goal
IsGoal goal next.Left = Unit {0}

-- a jump goes where its code says
abbrev pub GoesBy : Action → Result Next Trap → Type 0
GoesBy d (Ok next.Onward) = Unit {0}
GoesBy d (Ok (next.To goal)) = (w : When) × (d ≡ action.Jump w goal)
GoesBy d (Ok next.Left) = Unit {0}
GoesBy d (Err t) = Unit {0}

-- ---- open nestings

-- how many are open behind a change, and behind an instruction
abbrev pub opened_by : Change → ℕ → ℕ
opened_by (Open j) n = suc n
opened_by Close n = n - 1
opened_by other n = n

abbrev pub opened : Action → ℕ → ℕ
opened (action.Change c) n = opened_by c n
opened other n = n

-- at most seven
abbrev pub MayOpen : Change → ℕ → Type 0
MayOpen (Open j) n = n < 7
MayOpen other n = Unit {0}

abbrev pub MayDo : Action → ℕ → Type 0
MayDo (action.Change c) n = MayOpen c n
MayDo other n = Unit {0}
