-- Where an index breaks a rule, and the names and steps of an operand.
use Rattle.std.specs.Prelude.{List, ◌&&◌, not, is_some, Option, Some, None}
use Rattle.pv_place.specs.declared.place.Place.{Place}
use Rattle.pv_tree.specs.Tree.{ExprTree, lit, read, unary, binary, std, paren}
use Rattle.pv_tree.specs.LiteralTypes.{nothing, is_whole_number}
use Rattle.pv_tree.specs.Sorts.{own_type, taken}
use Rattle.pv_tree.specs.Scopes.{Scope}
use Rattle.pv_tree.specs.Things.{Thing, part, constant, a_block, no_name, no_array, a_date, untold, first_place}
use Rattle.pv_tree.specs.Types.{literal_of, sort_of, is_index_type, lies_in}
use Rattle.pv_tree.specs.Fits.{is_of_other_type}
use Rattle.pv_tree.specs.Parts.{Path, IndexAt, thing_of_path, indexes_of}
use Rattle.pv_tree.specs.Rules.PatternRule.{divides}
use Rattle.pv_rules_expr.specs.Nearest.{nearer_of}
use Rattle.pv_rules_expr.specs.NearestIn.{nearest_in}
use Rattle.pv_rules_expr.specs.Places.{place_where}
use Rattle.pv_rules_expr.specs.declared.indexes.IndexFault.{IndexFault}
use Rattle.pv_rules_expr.specs.declared.indexes.IndexFault.TheVariants.{OtherType, Beyond, Moving}

-- an index that is neither INT nor DINT; a literal beyond the bounds; one that is no literal
abbrev pub index_place : IndexFault → Scope → IndexAt → Option Place
index_place OtherType scope i = place_where (is_of_other_type is_whole_number
    (taken nothing (sort_of scope i.index))) (first_place i.index)
index_place Beyond scope i = place_where (is_index_type (own_type (taken nothing (sort_of scope
    i.index))) && not (lies_in i.within (sort_of scope i.index))) (first_place i.index)
index_place Moving scope i = place_where (not (is_some (literal_of i.index))) (first_place i.index)

abbrev pub near_indexes : IndexFault → Scope → List IndexAt → Option Place → Option Place
near_indexes what scope = nearest_in (index_place what scope)

-- the nearest of the indexes behind what a path begins with
abbrev pub index_at : IndexFault → Scope → Path → Option Place
index_at what scope p = near_indexes what scope (indexes_of scope p) None

-- an index at what is no array, and a variable of DATE_AND_TIME
abbrev pub misuse_at : Thing → Option Place
misuse_at (part ty) = None
misuse_at (constant ty) = None
misuse_at (a_block b) = None
misuse_at (no_name at) = None
misuse_at (no_array at) = Some at
misuse_at (a_date at) = Some at
misuse_at untold = None

-- these, or an index of another type
abbrev pub misused_at : Scope → Path → Option Place
misused_at scope p =
    nearer_of (misuse_at (thing_of_path scope p)) (index_at OtherType scope p)

-- an operator that divides
abbrev pub divides_at : ExprTree → Option Place
divides_at (binary op place left right) = place_where (divides op) place
divides_at (lit ty value place) = None
divides_at (read o) = None
divides_at (unary op place arg) = None
divides_at (std function place args) = None
divides_at (paren place inner) = None
