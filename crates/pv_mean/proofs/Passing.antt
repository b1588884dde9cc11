-- Targets and calls that pass one test pass another.
use Rattle.pv_tree.specs.Tree.{OperandTree, StmtTree, assign, assign_call, if_, case_, for_, while_, repeat_, exit_, continue_, return_, call_, empty_, StmtTrees, no_stmts, stmts, ArmTrees, no_arms, arms, BranchTrees, no_branches, branches, ElseTree, no_else, else_}
use Rattle.pv_tree.specs.Callees.{CallSite}
use Rattle.pv_mean.specs.Doings.{EachDoing, EachInList, EachInArms, EachInBranches, EachInElse}

mutual
  pub passed-stmt : (S T : OperandTree → Type 0) → ((o : OperandTree) → S o → T o) → (C D : CallSite → Type 0) → ((c : CallSite) → C c → D c)
      → (s : StmtTree) → EachDoing S C s → EachDoing T D s
  passed-stmt S T f C D g (assign target place e) is = f target is
  passed-stmt S T f C D g (assign_call target place call) is = (f target is.0, g _ is.1)
  passed-stmt S T f C D g (if_ conditions other place) is = (passed-arms S T f C D g conditions is.0, passed-else S T f C D g other is.1)
  passed-stmt S T f C D g (case_ selector choices other place) is =
      (passed-branches S T f C D g choices is.0, passed-else S T f C D g other is.1)
  passed-stmt S T f C D g (for_ name name_place first last by body place) is = (f _ is.0, passed S T f C D g body is.1)
  passed-stmt S T f C D g (while_ condition body place) is = passed S T f C D g body is
  passed-stmt S T f C D g (repeat_ body condition place) is = passed S T f C D g body is
  passed-stmt S T f C D g (exit_ place) is = tt
  passed-stmt S T f C D g (continue_ place) is = tt
  passed-stmt S T f C D g (return_ place) is = tt
  passed-stmt S T f C D g (call_ call) is = g _ is
  passed-stmt S T f C D g (empty_ place) is = tt

  pub passed : (S T : OperandTree → Type 0) → ((o : OperandTree) → S o → T o) → (C D : CallSite → Type 0) → ((c : CallSite) → C c → D c)
      → (ss : StmtTrees) → EachInList S C ss → EachInList T D ss
  passed S T f C D g no_stmts is = tt
  passed S T f C D g (stmts s more) is = (passed-stmt S T f C D g s is.0, passed S T f C D g more is.1)

  pub passed-arms : (S T : OperandTree → Type 0) → ((o : OperandTree) → S o → T o) → (C D : CallSite → Type 0)
      → ((c : CallSite) → C c → D c) → (cs : ArmTrees) → EachInArms S C cs → EachInArms T D cs
  passed-arms S T f C D g no_arms is = tt
  passed-arms S T f C D g (arms condition body more) is = (passed S T f C D g body is.0, passed-arms S T f C D g more is.1)

  pub passed-branches : (S T : OperandTree → Type 0) → ((o : OperandTree) → S o → T o) → (C D : CallSite → Type 0)
      → ((c : CallSite) → C c → D c) → (bs : BranchTrees) → EachInBranches S C bs → EachInBranches T D bs
  passed-branches S T f C D g no_branches is = tt
  passed-branches S T f C D g (branches values body more) is = (passed S T f C D g body is.0, passed-branches S T f C D g more is.1)

  pub passed-else : (S T : OperandTree → Type 0) → ((o : OperandTree) → S o → T o) → (C D : CallSite → Type 0) → ((c : CallSite) → C c → D c)
      → (other : ElseTree) → EachInElse S C other → EachInElse T D other
  passed-else S T f C D g no_else is = tt
  passed-else S T f C D g (else_ body) is = passed S T f C D g body is
