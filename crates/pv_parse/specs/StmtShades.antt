-- What is known of statements and calls while a tree isn't built yet, and what their alternatives do with it.
use Rattle.std.specs.Prelude.{[], ◌∷◌, List}
use Rattle.pv_place.specs.declared.place.Place.{Place}
use Rattle.pv_tree.specs.Tree.{ArgTree, CallPlain, StmtTree, assign, assign_call, if_, case_, for_, while_, repeat_, exit_, continue_, return_, call_, empty_, StmtTrees, no_stmts, stmts, ArmTrees, no_arms, arms, BranchTrees, no_branches, branches, ElseTree, no_else, else_}
use Rattle.pv_tree.specs.View.{stmts_of, arms_of, branches_of, else_of}
use Rattle.pv_tree.specs.Nesting.{first_of, first_of_stmt}
use Rattle.pv_parse.specs.declared.action.CallAction.{CallAction}
use Rattle.pv_parse.specs.declared.action.CallAction.TheVariants as c
use Rattle.pv_parse.specs.declared.action.StmtAction.{StmtAction}
use Rattle.pv_parse.specs.declared.action.StmtAction.TheVariants as a
use Rattle.pv_parse.specs.declared.shade.Shading.{Shading}
use Rattle.pv_parse.specs.declared.shade.Shading.TheVariants.{Take, Join, Group, Part, Branch}
use Rattle.pv_parse.specs.CodeItems.{CodeTree, ValueTree, of_expr, of_call, arguments, called, value, statement, statements, conditions, otherwise, stepping, choice, choices, cases}
use Rattle.pv_parse.specs.Shades.{Shade, all, merged, nowhere, part_places}
use Rattle.pv_parse.specs.ExprShades.{places_of, places_of_operand}

-- ---- by depth the place of the first part that has so many parts above it

abbrev pub places_of_args : List ArgTree → List Place
places_of_args [] = []
places_of_args (arg ∷ args) = merged (places_of arg.value) (places_of_args args)

-- a call is no part
abbrev pub places_of_call : CallPlain → List Place
places_of_call call = all (places_of_args call.args ∷ [])

abbrev mutual
  -- of what is within a statement
  pub places_within : StmtTree → List Place
  places_within (assign target place e) = all (places_of_operand target ∷ places_of e ∷ [])
  places_within (assign_call target place call) = all
      (places_of_operand target ∷ places_of_call call ∷ [])
  places_within (if_ first other place) = all (places_of_arms first ∷ places_of_else other ∷ [])
  places_within (case_ selector each other place) = all
      (places_of selector ∷ places_of_branches each ∷ places_of_else other ∷ [])
  places_within (for_ var var_place first last by body place) = all
      (places_of first ∷ places_of last ∷ places_of_stmts body ∷ [])
  places_within (while_ cond body place) = all (places_of cond ∷ places_of_stmts body ∷ [])
  places_within (repeat_ body cond place) = all (places_of_stmts body ∷ places_of cond ∷ [])
  places_within (exit_ place) = []
  places_within (continue_ place) = []
  places_within (return_ place) = []
  places_within (call_ call) = all (places_of_call call ∷ [])
  places_within (empty_ place) = []

  pub places_of_stmts : StmtTrees → List Place
  places_of_stmts no_stmts = []
  places_of_stmts (stmts stmt others) =
      merged (part_places (first_of_stmt stmt) (places_within stmt)) (places_of_stmts others)

  pub places_of_arms : ArmTrees → List Place
  places_of_arms no_arms = []
  places_of_arms (arms cond body others) =
      merged (places_of cond) (merged (places_of_stmts body) (places_of_arms others))

  pub places_of_branches : BranchTrees → List Place
  places_of_branches no_branches = []
  places_of_branches (branches label body others) =
      merged (places_of_stmts body) (places_of_branches others)

  pub places_of_else : ElseTree → List Place
  places_of_else no_else = []
  places_of_else (else_ body) = all (places_of_stmts body ∷ [])

-- ---- things on the stack

abbrev pub shade_of_value : ValueTree → Shade
shade_of_value (of_expr e) = record { first = first_of e; parts = places_of e }
shade_of_value (of_call c) = record { first = c.place; parts = places_of_call c }

-- of which it doesn't matter where it begins
abbrev pub anywhere : List Place → Shade
anywhere parts = record { first = nowhere; parts = parts }

abbrev pub shade_of_code : CodeTree → Shade
shade_of_code (arguments list) = anywhere (places_of_args list)
shade_of_code (called call) = record { first = call.place; parts = places_of_call call }
shade_of_code (value x) = shade_of_value x
shade_of_code (statement s) = record {
  first = first_of_stmt s;
  parts = part_places (first_of_stmt s) (places_within s);
}
shade_of_code (statements list) = anywhere (places_of_stmts (stmts_of list))
shade_of_code (conditions list) = anywhere (places_of_arms (arms_of list))
shade_of_code (otherwise other) = anywhere (places_of_else (else_of other))
shade_of_code (stepping by) = anywhere []
shade_of_code (choice x) = anywhere []
shade_of_code (choices list) = anywhere []
shade_of_code (cases list) = anywhere (places_of_branches (branches_of list))

-- ---- by the action: a path that only gives its name doesn't count

abbrev pub call_shading : CallAction → Shading
call_shading c.PlainHash = Join 2 0
call_shading c.QuotedHash = Join 2 0
call_shading c.NumberedHash = Join 3 0
call_shading c.PlainSecond = Join 3 0
call_shading c.QuotedSecond = Join 3 0
call_shading c.NumberedSecond = Join 4 0
call_shading c.FirstArgument = Group 3 4
call_shading c.NextArgument = Group 5 4
call_shading c.NoArgument = Group 0 0
call_shading c.Alone = Group 1 0
call_shading c.Call = Join 4 8
call_shading c.CallValue = Take 0
call_shading c.ExprValue = Take 0

abbrev pub stmt_shading : StmtAction → Shading
stmt_shading a.Drop = Take 1
stmt_shading a.Empty = Part 1 0
stmt_shading a.Single = Part 1 0
stmt_shading a.Call = Part 1 0
stmt_shading a.Assign = Part 3 0
stmt_shading a.NewList = Group 0 0
stmt_shading a.Add = Group 2 0
stmt_shading a.FirstArm = Group 3 0
stmt_shading a.NextArm = Group 5 0
stmt_shading a.Else = Group 2 0
stmt_shading a.NoElse = Group 0 0
stmt_shading a.If = Part 4 0
stmt_shading a.LiteralChoice = Group 1 0
stmt_shading a.WordChoice = Group 1 1
stmt_shading a.FirstRange = Group 3 0
stmt_shading a.FirstChoice = Group 1 0
stmt_shading a.NextRange = Group 5 0
stmt_shading a.NextChoice = Group 3 0
stmt_shading a.NewBranches = Group 0 0
stmt_shading a.Label = Group 0 0
stmt_shading a.NextLabel = Branch 3
stmt_shading a.Branches = Group 3 0
stmt_shading a.Case = Part 6 0
stmt_shading a.By = Group 2 0
stmt_shading a.NoBy = Group 0 0
stmt_shading a.For = Part 10 256
stmt_shading a.While = Part 5 0
stmt_shading a.Repeat = Part 5 0
