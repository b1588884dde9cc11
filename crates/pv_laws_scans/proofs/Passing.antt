-- Calls that pass one test pass another, in each body: what `pv_mean` has of statements for its own proofs.
use Rattle.std.specs.Prelude.{List, [], ◌∷◌, Option, Some, None, IfSome}
use Rattle.pv_tree.specs.Tree.{OperandTree, CallPlain, InstrTree, BodyTree, scl, stl, starts, StmtTree, assign, assign_call, if_, case_, for_, while_, repeat_, exit_, continue_, return_, call_, empty_, StmtTrees, no_stmts, stmts, ArmTrees, no_arms, arms, BranchTrees, no_branches, branches, ElseTree, no_else, else_}
use Rattle.pv_tree.specs.Callees.{CallSite}
use Rattle.pv_mean.specs.Instructions.{site_of}
use Rattle.pv_mean.specs.Doings.{EachDoing, EachInList, EachInArms, EachInBranches, EachInElse, EachInstruction}
use Rattle.pv_laws_scans.specs.Leaving.{EachInBody}

module _ (T : OperandTree → Type 0) (C D : CallSite → Type 0) (g : (c : CallSite) → C c → D c) where
  mutual
    passed-stmt : (s : StmtTree) → EachDoing T C s → EachDoing T D s
    passed-stmt (assign target place e) is = is
    passed-stmt (assign_call target place call) is = (is.0, g _ is.1)
    passed-stmt (if_ conditions other place) is = (passed-arms conditions is.0, passed-else other is.1)
    passed-stmt (case_ selector choices other place) is = (passed-branches choices is.0, passed-else other is.1)
    passed-stmt (for_ name name_place first last by body place) is = (is.0, passed-stmts body is.1)
    passed-stmt (while_ condition body place) is = passed-stmts body is
    passed-stmt (repeat_ body condition place) is = passed-stmts body is
    passed-stmt (exit_ place) is = tt
    passed-stmt (continue_ place) is = tt
    passed-stmt (return_ place) is = tt
    passed-stmt (call_ call) is = g _ is
    passed-stmt (empty_ place) is = tt

    passed-stmts : (ss : StmtTrees) → EachInList T C ss → EachInList T D ss
    passed-stmts no_stmts is = tt
    passed-stmts (stmts s more) is = (passed-stmt s is.0, passed-stmts more is.1)

    passed-arms : (cs : ArmTrees) → EachInArms T C cs → EachInArms T D cs
    passed-arms no_arms is = tt
    passed-arms (arms condition body more) is = (passed-stmts body is.0, passed-arms more is.1)

    passed-branches : (bs : BranchTrees) → EachInBranches T C bs → EachInBranches T D bs
    passed-branches no_branches is = tt
    passed-branches (branches values body more) is = (passed-stmts body is.0, passed-branches more is.1)

    passed-else : (other : ElseTree) → EachInElse T C other → EachInElse T D other
    passed-else no_else is = tt
    passed-else (else_ body) is = passed-stmts body is

  passed-instructions : (is : List InstrTree) → EachInstruction T C is → EachInstruction T D is
  passed-instructions [] each = tt
  passed-instructions (i ∷ more) each = ((each.0.0, of-call i.call each.0.1), passed-instructions more each.1)
    where
      of-call : (o : Option CallPlain) → IfSome o (λ call. C (site_of i call)) → IfSome o (λ call. D (site_of i call))
      of-call None k = tt
      of-call (Some call) k = g _ k

  pub passed-body : (body : BodyTree) → EachInBody T C body → EachInBody T D body
  passed-body (scl statements) is = passed-stmts statements is
  passed-body (stl instructions) is = passed-instructions instructions is
  passed-body (starts values) is = tt
