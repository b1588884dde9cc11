-- The statements of a body, each before those in it.
use Rattle.std.specs.Prelude.{List, [], ◌∷◌, ◌++◌, map}
use Rattle.pv_tree.specs.Tree.{StmtTree, assign, assign_call, if_, case_, for_, while_, repeat_, exit_, continue_, return_, call_, empty_, StmtTrees, no_stmts, stmts, ArmTrees, no_arms, arms, BranchTrees, no_branches, branches, ElseTree, no_else, else_}
use Rattle.pv_tree.specs.Parts.{Spot}

abbrev pub stmts_of_spots : List Spot → List StmtTree
stmts_of_spots spots = map (λ s. s.stmt) spots

-- statements put behind others: those that stand in one, and all of a list with those in them
abbrev mutual
  pub within : List StmtTree → StmtTree → List StmtTree
  within list (assign target place value) = list
  within list (assign_call target place call) = list
  within list (if_ conditions other place) = within_else (within_arms list conditions) other
  within list (case_ selector choices other place) =
      within_else (within_branches list choices) other
  within list (for_ name name_place first last by body place) = listed list body
  within list (while_ condition body place) = listed list body
  within list (repeat_ body condition place) = listed list body
  within list (exit_ place) = list
  within list (continue_ place) = list
  within list (return_ place) = list
  within list (call_ call) = list
  within list (empty_ place) = list

  pub listed : List StmtTree → StmtTrees → List StmtTree
  listed list no_stmts = list
  listed list (stmts s more) = listed (within (list ++ s ∷ []) s) more

  pub within_arms : List StmtTree → ArmTrees → List StmtTree
  within_arms list no_arms = list
  within_arms list (arms condition body more) = within_arms (listed list body) more

  pub within_branches : List StmtTree → BranchTrees → List StmtTree
  within_branches list no_branches = list
  within_branches list (branches values body more) = within_branches (listed list body) more

  pub within_else : List StmtTree → ElseTree → List StmtTree
  within_else list no_else = list
  within_else list (else_ body) = listed list body
