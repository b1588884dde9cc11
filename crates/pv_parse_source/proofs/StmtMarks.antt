-- The places by depth of statements are those of their parts.
use Rattle.std.proofs.Common.{ℕ, suc, List, [], ◌∷◌, ◌++◌}
use Rattle.pv_place.specs.declared.place.Place.{Place}
use Rattle.pv_tree.specs.Tree.{ArgTree, CallPlain, StmtTree, assign, assign_call, if_, case_, for_, while_, repeat_, exit_, continue_, return_, call_, empty_, StmtTrees, no_stmts, stmts, ArmTrees, no_arms, arms, BranchTrees, no_branches, branches, ElseTree, no_else, else_}
use Rattle.pv_tree.specs.Nesting.{Part, part, first_of_stmt, parts, parts_of_operand, parts_of_args, parts_within, parts_of_stmts, parts_of_arms, parts_of_branches, parts_of_else}
use Rattle.pv_parse.specs.Shades.{all, merged, part_places}
use Rattle.pv_parse.specs.ExprShades.{places_of, places_of_operand}
use Rattle.pv_parse.specs.StmtShades.{places_of_args, places_of_call, places_within, places_of_stmts, places_of_arms, places_of_branches, places_of_else}
use Rattle.pv_parse.proofs.ForCallers.{MarksParts as Marks, marks_none, marks_both, marks_one, marks_two, marks_part, marks-expr, marks-operand}

marks_three : (n : ℕ) (xs ys zs : List Place) (ps qs rs : List Part) → Marks xs n ps → Marks ys n qs → Marks zs n rs
    → Marks (all (xs ∷ ys ∷ zs ∷ [])) n (ps ++ (qs ++ rs))
marks_three n xs ys zs ps qs rs f g h = marks_both n xs (all (ys ∷ zs ∷ [])) ps (qs ++ rs) f (marks_two n ys zs qs rs g h)

pub marks-args : (n : ℕ) (args : List ArgTree) → Marks (places_of_args args) n (parts_of_args n args)
marks-args n [] = marks_none n
marks-args n (arg ∷ args) =
    marks_both n (places_of arg.value) (places_of_args args) (parts n arg.value) (parts_of_args n args) (marks-expr n arg.value) (marks-args n args)

pub marks-call : (n : ℕ) (call : CallPlain) → Marks (places_of_call call) n (parts_of_args n call.args)
marks-call n call = marks_one n (places_of_args call.args) (parts_of_args n call.args) (marks-args n call.args)

mutual
  pub marks-within : (n : ℕ) (s : StmtTree) → Marks (places_within s) n (parts_within n s)
  marks-within n (assign target place value) =
      marks_two n (places_of_operand target) (places_of value) (parts_of_operand n target) (parts n value) (marks-operand n target)
      (marks-expr n value)
  marks-within n (assign_call target place call) =
      marks_two n (places_of_operand target) (places_of_call call) (parts_of_operand n target) (parts_of_args n call.args) (marks-operand n target)
      (marks-call n call)
  marks-within n (if_ first other place) =
      marks_two n (places_of_arms first) (places_of_else other) (parts_of_arms n first) (parts_of_else n other) (marks-arms n first)
      (marks-else n other)
  marks-within n (case_ selector each other place) =
      marks_three n (places_of selector) (places_of_branches each) (places_of_else other) (parts n selector) (parts_of_branches n each)
      (parts_of_else n other) (marks-expr n selector) (marks-branches n each) (marks-else n other)
  marks-within n (for_ var var_place first last by body place) =
      marks_three n (places_of first) (places_of last) (places_of_stmts body) (parts n first) (parts n last) (parts_of_stmts n body)
      (marks-expr n first) (marks-expr n last) (marks-stmts n body)
  marks-within n (while_ cond body place) =
      marks_two n (places_of cond) (places_of_stmts body) (parts n cond) (parts_of_stmts n body) (marks-expr n cond) (marks-stmts n body)
  marks-within n (repeat_ body cond place) =
      marks_two n (places_of_stmts body) (places_of cond) (parts_of_stmts n body) (parts n cond) (marks-stmts n body) (marks-expr n cond)
  marks-within n (exit_ place) = marks_none n
  marks-within n (continue_ place) = marks_none n
  marks-within n (return_ place) = marks_none n
  marks-within n (call_ call) = marks_one n (places_of_call call) (parts_of_args n call.args) (marks-call n call)
  marks-within n (empty_ place) = marks_none n

  pub marks-stmts : (n : ℕ) (list : StmtTrees) → Marks (places_of_stmts list) n (parts_of_stmts n list)
  marks-stmts n no_stmts = marks_none n
  marks-stmts n (stmts s others) =
      marks_both n (part_places (first_of_stmt s) (places_within s)) (places_of_stmts others) (part n (first_of_stmt s) ∷ parts_within (suc n) s)
      (parts_of_stmts n others) (marks_part n (first_of_stmt s) (places_within s) (parts_within (suc n) s) (marks-within (suc n) s))
      (marks-stmts n others)

  marks-arms : (n : ℕ) (list : ArmTrees) → Marks (places_of_arms list) n (parts_of_arms n list)
  marks-arms n no_arms = marks_none n
  marks-arms n (arms cond body others) =
      marks_both n (places_of cond) (merged (places_of_stmts body) (places_of_arms others)) (parts n cond)
      (parts_of_stmts n body ++ parts_of_arms n others) (marks-expr n cond)
      (marks_both n (places_of_stmts body) (places_of_arms others) (parts_of_stmts n body) (parts_of_arms n others) (marks-stmts n body)
      (marks-arms n others))

  marks-branches : (n : ℕ) (list : BranchTrees) → Marks (places_of_branches list) n (parts_of_branches n list)
  marks-branches n no_branches = marks_none n
  marks-branches n (branches choices body others) =
      marks_both n (places_of_stmts body) (places_of_branches others) (parts_of_stmts n body) (parts_of_branches n others) (marks-stmts n body)
      (marks-branches n others)

  marks-else : (n : ℕ) (other : ElseTree) → Marks (places_of_else other) n (parts_of_else n other)
  marks-else n no_else = marks_none n
  marks-else n (else_ body) = marks_one n (places_of_stmts body) (parts_of_stmts n body) (marks-stmts n body)
