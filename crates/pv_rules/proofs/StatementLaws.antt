-- The statements of a list are those that stand in the loops around them.
use Rattle.std.proofs.Common.{◌≡◌, refl, ap, ◌∙◌, List, ◌∷◌, ◌++◌, map}
use Rattle.std.proofs.lemmas.List.{map-append}
use Rattle.pv_tree.specs.Tree.{StmtTree, assign, assign_call, if_, case_, for_, while_, repeat_, exit_, continue_, return_, call_, empty_, StmtTrees, no_stmts, stmts, ArmTrees, no_arms, arms, BranchTrees, no_branches, branches, ElseTree, no_else, else_}
use Rattle.pv_tree.specs.Parts.{Loop, a_for, another, Spot, spots_of, spots_of_stmts, spots_of_arms, spots_of_branches, spots_of_else}
use Rattle.pv_rules.specs.Statements.{all_in, all_of, all_of_arms, all_of_branches, all_of_else}

abbrev stmt_at : Spot → StmtTree
stmt_at s = s.stmt

both : (xs ys : List Spot) (vs ws : List StmtTree) → map stmt_at xs ≡ vs → map stmt_at ys ≡ ws → map stmt_at (xs ++ ys) ≡ vs ++ ws
both xs ys vs ws front rest = map-append stmt_at xs ys ∙ ap (λ l. l ++ map stmt_at ys) front ∙ ap (λ l. vs ++ l) rest

mutual
  pub seen_in : (loops : List Loop) (s : StmtTree) → map stmt_at (spots_of loops s) ≡ all_in s
  seen_in loops (assign target place value) = refl
  seen_in loops (assign_call target place call) = refl
  seen_in loops (if_ conditions other place) =
      ap (λ l. if_ conditions other place ∷ l)
      (both (spots_of_arms loops conditions) (spots_of_else loops other) (all_of_arms conditions) (all_of_else other) (seen_of_arms loops conditions)
      (seen_of_else loops other))
  seen_in loops (case_ selector choices other place) =
      ap (λ l. case_ selector choices other place ∷ l)
      (both (spots_of_branches loops choices) (spots_of_else loops other) (all_of_branches choices) (all_of_else other) (seen_of_branches loops choices)
      (seen_of_else loops other))
  seen_in loops (for_ name name_place first last by body place) =
      ap (λ l. for_ name name_place first last by body place ∷ l) (seen_of (a_for name ∷ loops) body)
  seen_in loops (while_ condition body place) = ap (λ l. while_ condition body place ∷ l) (seen_of (another ∷ loops) body)
  seen_in loops (repeat_ body condition place) = ap (λ l. repeat_ body condition place ∷ l) (seen_of (another ∷ loops) body)
  seen_in loops (exit_ place) = refl
  seen_in loops (continue_ place) = refl
  seen_in loops (return_ place) = refl
  seen_in loops (call_ call) = refl
  seen_in loops (empty_ place) = refl

  pub seen_of : (loops : List Loop) (list : StmtTrees) → map stmt_at (spots_of_stmts loops list) ≡ all_of list
  seen_of loops no_stmts = refl
  seen_of loops (stmts s more) =
      both (spots_of loops s) (spots_of_stmts loops more) (all_in s) (all_of more) (seen_in loops s) (seen_of loops more)

  seen_of_arms : (loops : List Loop) (list : ArmTrees) → map stmt_at (spots_of_arms loops list) ≡ all_of_arms list
  seen_of_arms loops no_arms = refl
  seen_of_arms loops (arms condition body more) =
      both (spots_of_stmts loops body) (spots_of_arms loops more) (all_of body) (all_of_arms more) (seen_of loops body) (seen_of_arms loops more)

  seen_of_branches : (loops : List Loop) (list : BranchTrees) → map stmt_at (spots_of_branches loops list) ≡ all_of_branches list
  seen_of_branches loops no_branches = refl
  seen_of_branches loops (branches values body more) =
      both (spots_of_stmts loops body) (spots_of_branches loops more) (all_of body) (all_of_branches more) (seen_of loops body)
      (seen_of_branches loops more)

  seen_of_else : (loops : List Loop) (other : ElseTree) → map stmt_at (spots_of_else loops other) ≡ all_of_else other
  seen_of_else loops no_else = refl
  seen_of_else loops (else_ body) = seen_of loops body
