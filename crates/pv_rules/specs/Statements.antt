-- The statements of a list, those within others too, without the loops around them.
use Rattle.std.specs.Prelude.{List, [], ◌∷◌, ◌++◌}
use Rattle.pv_tree.specs.Tree.{StmtTree, assign, assign_call, if_, case_, for_, while_, repeat_, exit_, continue_, return_, call_, empty_, StmtTrees, no_stmts, stmts, ArmTrees, no_arms, arms, BranchTrees, no_branches, branches, ElseTree, no_else, else_}

abbrev mutual
  pub all_in : StmtTree → List StmtTree
  all_in (assign target place value) = assign target place value ∷ []
  all_in (assign_call target place call) = assign_call target place call ∷ []
  all_in (if_ conditions other place) =
      if_ conditions other place ∷ all_of_arms conditions ++ all_of_else other
  all_in (case_ selector choices other place) =
      case_ selector choices other place ∷ all_of_branches choices ++ all_of_else other
  all_in (for_ name name_place first last by body place) =
      for_ name name_place first last by body place ∷ all_of body
  all_in (while_ condition body place) = while_ condition body place ∷ all_of body
  all_in (repeat_ body condition place) = repeat_ body condition place ∷ all_of body
  all_in (exit_ place) = exit_ place ∷ []
  all_in (continue_ place) = continue_ place ∷ []
  all_in (return_ place) = return_ place ∷ []
  all_in (call_ call) = call_ call ∷ []
  all_in (empty_ place) = empty_ place ∷ []

  pub all_of : StmtTrees → List StmtTree
  all_of no_stmts = []
  all_of (stmts s more) = all_in s ++ all_of more

  pub all_of_arms : ArmTrees → List StmtTree
  all_of_arms no_arms = []
  all_of_arms (arms condition body more) = all_of body ++ all_of_arms more

  pub all_of_branches : BranchTrees → List StmtTree
  all_of_branches no_branches = []
  all_of_branches (branches values body more) = all_of body ++ all_of_branches more

  pub all_of_else : ElseTree → List StmtTree
  all_of_else no_else = []
  all_of_else (else_ body) = all_of body
