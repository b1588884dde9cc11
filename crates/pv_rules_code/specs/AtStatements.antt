-- Where a statement by itself breaks a rule.
use Rattle.std.specs.Prelude.{List, [], ◌∷◌, Option, Some, None}
use Rattle.pv_place.specs.declared.place.Place.{Place}
use Rattle.pv_tree.specs.Tree.{ExprTree, StmtTree, exit_, continue_}
use Rattle.pv_tree.specs.LiteralTypes.{nothing}
use Rattle.pv_tree.specs.Sorts.{taken, is_bool}
use Rattle.pv_tree.specs.Scopes.{Scope}
use Rattle.pv_tree.specs.Things.{first_place}
use Rattle.pv_tree.specs.Types.{sort_of}
use Rattle.pv_tree.specs.Parts.{Loop}
use Rattle.pv_tree.specs.Fits.{is_of_other_type}
use Rattle.pv_tree.specs.Rules.Conditions.{conditions_of_stmt}
use Rattle.pv_rules_expr.specs.Places.{place_where}
use Rattle.pv_rules_expr.specs.NearestIn.{nearest_in}

-- a condition that isn't BOOL
abbrev pub condition_at : Scope → ExprTree → Option Place
condition_at scope e = place_where (is_of_other_type is_bool (taken nothing (sort_of scope e))) (first_place e)

abbrev pub conditions_place : Scope → StmtTree → Option Place
conditions_place scope s = nearest_in (condition_at scope) (conditions_of_stmt s) None

-- EXIT or CONTINUE outside a loop
abbrev pub leave_of : StmtTree → Option Place
leave_of (exit_ place) = Some place
leave_of (continue_ place) = Some place
leave_of s = None

abbrev pub leave_place : List Loop → StmtTree → Option Place
leave_place [] s = leave_of s
leave_place (l ∷ loops) s = None

-- the same, by its place
abbrev pub left_place : List Loop → Place → Option Place
left_place [] place = Some place
left_place (l ∷ loops) place = None
