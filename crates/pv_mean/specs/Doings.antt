-- What statements and instructions do: their targets, of which a FOR's variable is one, and their calls; and what holds of the frames in which
-- they end.
use Rattle.std.specs.Prelude.{List, [], ◌∷◌, IfSome, IsTrue, ⊤}
use Rattle.pv_tree.specs.Tree.{OperandTree, InstrTree, StmtTree, assign, assign_call, if_, case_, for_, while_, repeat_, exit_, continue_, return_, call_, empty_, StmtTrees, no_stmts, stmts, ArmTrees, no_arms, arms, BranchTrees, no_branches, branches, ElseTree, no_else, else_}
use Rattle.pv_tree.specs.Callees.{as_statement, as_value, CallSite}
use Rattle.pv_tree.specs.InstructionGroups.{is_written, group_of}
use Rattle.pv_mean.specs.Frames.{Frame}
use Rattle.pv_mean.specs.Endings.{Tried, got, trap, Ended, ended, trapped, over, Ending, normal, at_exit, at_continue, at_return, by_trap, by_over}
use Rattle.pv_mean.specs.Statements.{counter}
use Rattle.pv_mean.specs.Instructions.{Next, site_of}
use Rattle.pv_mean.specs.InstructionRuns.{frame_left}

-- each target passes the one test, and each call the other
abbrev mutual
  pub EachDoing : (OperandTree → Type 0) → (CallSite → Type 0) → StmtTree → Type 0
  EachDoing T C (assign target place e) = T target
  EachDoing T C (assign_call target place call) =
      T target × C (record { how = as_value; call = call })
  EachDoing T C (if_ conditions other place) = EachInArms T C conditions × EachInElse T C other
  EachDoing T C (case_ selector choices other place) =
      EachInBranches T C choices × EachInElse T C other
  EachDoing T C (for_ name name_place first last by body place) =
      T (counter name name_place) × EachInList T C body
  EachDoing T C (while_ condition body place) = EachInList T C body
  EachDoing T C (repeat_ body condition place) = EachInList T C body
  EachDoing T C (exit_ place) = ⊤
  EachDoing T C (continue_ place) = ⊤
  EachDoing T C (return_ place) = ⊤
  EachDoing T C (call_ call) = C (record { how = as_statement; call = call })
  EachDoing T C (empty_ place) = ⊤

  pub EachInList : (OperandTree → Type 0) → (CallSite → Type 0) → StmtTrees → Type 0
  EachInList T C no_stmts = ⊤
  EachInList T C (stmts s more) = EachDoing T C s × EachInList T C more

  pub EachInArms : (OperandTree → Type 0) → (CallSite → Type 0) → ArmTrees → Type 0
  EachInArms T C no_arms = ⊤
  EachInArms T C (arms condition body more) = EachInList T C body × EachInArms T C more

  pub EachInBranches : (OperandTree → Type 0) → (CallSite → Type 0) → BranchTrees → Type 0
  EachInBranches T C no_branches = ⊤
  EachInBranches T C (branches values body more) = EachInList T C body × EachInBranches T C more

  pub EachInElse : (OperandTree → Type 0) → (CallSite → Type 0) → ElseTree → Type 0
  EachInElse T C no_else = ⊤
  EachInElse T C (else_ body) = EachInList T C body

-- what holds of a frame holds of the one in which statements end, if they end with one
abbrev pub HoldsAt : (Frame → Type 0) → Ending → Type 0
HoldsAt P (normal frame) = P frame
HoldsAt P (at_exit frame) = P frame
HoldsAt P (at_continue frame) = P frame
HoldsAt P (at_return frame) = P frame
HoldsAt P (by_trap kind place) = ⊤
HoldsAt P (by_over place) = ⊤

abbrev pub HoldsOf : {A : Type 0} → (A → Type 0) → Ended A → Type 0
HoldsOf P (ended a) = P a
HoldsOf P (trapped kind place) = ⊤
HoldsOf P (over place) = ⊤

abbrev pub HoldsIfGot : {A : Type 0} → (A → Type 0) → Tried A → Type 0
HoldsIfGot P (got a) = P a
HoldsIfGot P (trap kind place) = ⊤

-- ---- instructions

-- what an instruction writes passes the one test, and the call that it makes the other
abbrev pub InstructionDoing : (OperandTree → Type 0) → (CallSite → Type 0) → InstrTree → Type 0
InstructionDoing T C i =
    IfSome i.operand (λ o. IsTrue (is_written (group_of i.op)) → T o)
    × IfSome i.call (λ call. C (site_of i call))

abbrev pub EachInstruction : (OperandTree → Type 0) → (CallSite → Type 0) → List InstrTree → Type 0
EachInstruction T C [] = ⊤
EachInstruction T C (i ∷ more) = InstructionDoing T C i × EachInstruction T C more

-- what holds of a frame holds of the one in which a block goes on
abbrev pub Goes : (Frame → Type 0) → Next → Type 0
Goes P next = P (frame_left next)
