-- Where a call breaks a rule.
use Rattle.std.specs.Prelude.{List, Option, Some, None, option_and_then, is_none, Bool as Truth, false, ◌&&◌}
use Rattle.pv_place.specs.declared.place.Place.{Place}
use Rattle.pv_tree.specs.Tree.{PlacedName, ExprTree, ArgTree, CallPlain, BlockTree}
use Rattle.pv_tree.specs.Scopes.{Scope}
use Rattle.pv_tree.specs.Things.{first_place}
use Rattle.pv_tree.specs.Sorts.{is_whole}
use Rattle.pv_tree.specs.Types.{sort_of}
use Rattle.pv_tree.specs.Callees.{How, CallSite, Callee, runs, not_declared, not_callable, unknown, callee_of, called_name, Param, param_for, block_of_callee, want_of_param}
use Rattle.pv_tree.specs.Parts.{Loop, Part, parts_of, operand_of}
use Rattle.pv_tree.specs.Rules.Targets.{goes_out_where, isnt_assignable}
use Rattle.pv_tree.specs.Rules.Arguments.{place_of_word}
use Rattle.pv_tree.specs.Rules.Misfits.{is_called_date, doesnt_pass}
use Rattle.pv_rules_expr.specs.Places.{place_where}
use Rattle.pv_rules_expr.specs.Looks.{nearer_of}
use Rattle.pv_rules_expr.specs.NearestIn.{nearest_in}
use Rattle.pv_rules_code.specs.Counted.{is_counted_value}
use Rattle.pv_rules_code.specs.AtGiven.{lacking_at, later_at}
use Rattle.pv_rules_code.specs.Sought.Pass.{Pass}
use Rattle.pv_rules_code.specs.Sought.Pass.{Misfit, Output, Unknown, Counter}
use Rattle.pv_rules_code.specs.Sought.Ask.{Ask}
use Rattle.pv_rules_code.specs.Sought.Ask.{Missing, Date, Args, Later, Lacking}

-- a called name that isn't declared
abbrev pub not_declared_at : Callee → Option Place
not_declared_at (runs b) = None
not_declared_at (not_declared place) = Some place
not_declared_at (not_callable place) = None
not_declared_at unknown = None

-- a called name or a second one that is a variable of DATE_AND_TIME
abbrev pub second_date_at : Scope → PlacedName → Option Place
second_date_at scope n = place_where (is_called_date (called_name scope n.0 false)) n.1

abbrev pub first_date_at : Scope → CallPlain → Option Place
first_date_at scope call = place_where (is_called_date (called_name scope call.name call.hash)) call.name_place

abbrev pub date_at : Scope → CallPlain → Option Place
date_at scope call = nearer_of (first_date_at scope call) (option_and_then (second_date_at scope) call.base)

-- an argument that doesn't fit its parameter
abbrev pub misfits_param : Scope → ExprTree → Option Param → Truth
misfits_param scope e None = is_whole (sort_of scope e)
misfits_param scope e (Some p) = doesnt_pass scope p.section p.ty e

abbrev pub misfit_at : Scope → Option Param → ArgTree → Option Place
misfit_at scope p a = place_where (misfits_param scope a.value p) a.place

-- an argument for an output or a VAR_IN_OUT that can't be assigned
abbrev pub output_at : Scope → Option Param → ArgTree → Option Place
output_at scope p a = place_where (goes_out_where p && isnt_assignable scope (operand_of a.value)) (first_place a.value)

-- an argument that is for no parameter
abbrev pub unknown_at : How → BlockTree → ArgTree → Option Place
unknown_at how block a = place_where (is_none (param_for how block a)) (place_of_word a)

-- what the call comes to decides which parameter an argument is for
abbrev pub param_in : Callee → How → ArgTree → Option Param
param_in callee how a = elim (block_of_callee callee) [ None ↦ None | Some b ↦ param_for how b a ]

-- the expressions of an argument, by what is wanted of it
abbrev pub arg_parts : Scope → Callee → How → ArgTree → List Part
arg_parts scope callee how a = parts_of scope (want_of_param (param_in callee how a)) a.value

abbrev pub unknown_in : Callee → How → ArgTree → Option Place
unknown_in callee how a = option_and_then (λ b. unknown_at how b a) (block_of_callee callee)

-- an argument that the called block writes, and that is the variable of a FOR around the call
abbrev pub counter_at : List Loop → Option Param → ArgTree → Option Place
counter_at loops p a = place_where (goes_out_where p && is_counted_value loops a.value) (first_place a.value)

abbrev pub arg_place : Pass → Scope → List Loop → Callee → How → ArgTree → Option Place
arg_place Misfit scope loops callee how a = misfit_at scope (param_in callee how a) a
arg_place Output scope loops callee how a = output_at scope (param_in callee how a) a
arg_place Unknown scope loops callee how a = unknown_in callee how a
arg_place Counter scope loops callee how a = counter_at loops (param_in callee how a) a

abbrev pub call_place : Ask → Scope → List Loop → CallSite → Option Place
call_place Missing scope loops s = not_declared_at (callee_of scope s)
call_place Date scope loops s = date_at scope s.call
call_place Later scope loops s = option_and_then (later_at s) (block_of_callee (callee_of scope s))
call_place Lacking scope loops s = option_and_then (lacking_at s) (block_of_callee (callee_of scope s))
call_place (Args what) scope loops s = nearest_in (arg_place what scope loops (callee_of scope s) s.how) s.call.args None
