-- Where the words and literals of a FOR break a rule.
use Rattle.std.specs.Prelude.{pos, List, Option, Some, None, option_and_then, Bool as Truth, false, ◌||◌, not}
use Rattle.std.specs.Ordering.{int_eq}
use Rattle.pv_place.specs.declared.place.Place.{Place}
use Rattle.pv_types.specs.declared.declaration.Literal.{Literal}
use Rattle.pv_tree.specs.Tree.{PlacedName, StmtTree, for_}
use Rattle.pv_tree.specs.LiteralTypes.{Want, nothing, this, unsure, type_of_literal}
use Rattle.pv_tree.specs.Sorts.{widens}
use Rattle.pv_tree.specs.Scopes.{Scope}
use Rattle.pv_tree.specs.Things.{Thing, part, constant, a_block, no_name, no_array, a_date, untold, dated, thing_of_word}
use Rattle.pv_tree.specs.Parts.{Loop, want_of_counter}
use Rattle.pv_tree.specs.Rules.MissingNames.{counter_of}
use Rattle.pv_tree.specs.Rules.OutOfRange.{is_outside}
use Rattle.pv_tree.specs.Rules.Loops.{isnt_counter}
use Rattle.pv_rules_expr.specs.Places.{place_where}
use Rattle.pv_rules_expr.specs.Operands.{name_at}
use Rattle.pv_rules_expr.specs.NearestIn.{nearest_in}
use Rattle.pv_rules_code.specs.Counted.{is_counted}
use Rattle.pv_rules_code.specs.Sought.Count.{Count}
use Rattle.pv_rules_code.specs.Sought.Count.{Missing, Date, Other, Inner}
use Rattle.pv_rules_code.specs.Sought.Stride.{Stride}
use Rattle.pv_rules_code.specs.Sought.Stride.{Wrong, Outside}

-- the name of a variable of DATE_AND_TIME
abbrev pub date_of : Thing → Option Place
date_of (part ty) = None
date_of (constant ty) = None
date_of (a_block b) = None
date_of (no_name at) = None
date_of (no_array at) = None
date_of (a_date at) = Some at
date_of untold = None

abbrev pub word_date : Scope → PlacedName → Option Place
word_date scope n = date_of (dated n.1 (thing_of_word scope n.0.key false n.1))

abbrev pub word_missing : Scope → PlacedName → Option Place
word_missing scope n = name_at (thing_of_word scope n.0.key false n.1)

-- the variable of a FOR
abbrev pub count_at : Count → Scope → List Loop → PlacedName → Option Place
count_at Missing scope loops n = word_missing scope n
count_at Date scope loops n = word_date scope n
count_at Other scope loops n = place_where (isnt_counter scope n.0.key n.1) n.1
count_at Inner scope loops n = place_where (is_counted loops n.0.key) n.1

abbrev pub count_place : Count → Scope → List Loop → StmtTree → Option Place
count_place what scope loops s = nearest_in (count_at what scope loops) (counter_of s) None

-- its step
abbrev pub is_outside_type : Want → Literal → Truth
is_outside_type (this ty) l = not (widens (type_of_literal (this ty) l.ty l.value) ty)
is_outside_type nothing l = false
is_outside_type unsure l = false

abbrev pub by_at : Stride → Want → Literal → Option Place
by_at Wrong want l = place_where (int_eq l.value (pos 0) || is_outside_type want l) l.place
by_at Outside want l = place_where (is_outside want l.ty l.value) l.place

abbrev pub step_place : Stride → Scope → StmtTree → Option Place
step_place what scope (for_ name name_place first last by body place) =
    option_and_then (by_at what (want_of_counter scope name name_place)) by
step_place what scope s = None
