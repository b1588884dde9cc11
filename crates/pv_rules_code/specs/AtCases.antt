-- Where the selector or a value of a CASE breaks a rule.
use Rattle.std.specs.Prelude.{ℕ, nat_eq, Option, None, Bool as Truth, true, false, not}
use Rattle.pv_word.specs.declared.types.Ty.{Ty}
use Rattle.pv_word.specs.declared.types.Ty.TheVariants.{Bool, Byte, Word, Dword, Int, Dint, Time}
use Rattle.pv_place.specs.declared.place.Place.{Place}
use Rattle.pv_types.specs.Tree.{plain}
use Rattle.pv_types.specs.declared.declaration.Literal.{Literal}
use Rattle.pv_tree.specs.declared.stmt.Choice.{Choice}
use Rattle.pv_tree.specs.declared.stmt.Choice.TheVariants.{Lit, Const}
use Rattle.pv_tree.specs.Tree.{ExprTree, StmtTree, case_}
use Rattle.pv_tree.specs.LiteralTypes.{Want, nothing, this, unsure, is_whole_number, type_of_literal}
use Rattle.pv_tree.specs.Sorts.{taken}
use Rattle.pv_tree.specs.Scopes.{Scope}
use Rattle.pv_tree.specs.Things.{Thing, constant, no_name, thing_of_word, first_place}
use Rattle.pv_tree.specs.Types.{sort_of}
use Rattle.pv_tree.specs.Fits.{is_of_other_type}
use Rattle.pv_tree.specs.Rules.MissingNames.{values_of_case}
use Rattle.pv_tree.specs.Rules.OutOfRange.{is_outside, want_of_selector}
use Rattle.pv_rules_expr.specs.Places.{place_where}
use Rattle.pv_rules_expr.specs.NearestIn.{nearest_in}
use Rattle.pv_rules_code.specs.AtLoops.{word_missing, word_date}
use Rattle.pv_rules_code.specs.Sought.Pick.{Pick}
use Rattle.pv_rules_code.specs.Sought.Pick.{Missing, Date, Outside, Other}

abbrev pub selector_at : Scope → ExprTree → Option Place
selector_at scope e = place_where (is_of_other_type is_whole_number (taken nothing (sort_of scope e))) (first_place e)

abbrev pub selector_place : Scope → StmtTree → Option Place
selector_place scope (case_ selector choices other place) = selector_at scope selector
selector_place scope s = None

-- the types by number
abbrev pub rank : Ty → ℕ
rank Bool = 0
rank Byte = 1
rank Word = 2
rank Dword = 3
rank Int = 4
rank Dint = 5
rank Time = 6

abbrev pub same_type : Ty → Ty → Truth
same_type a b = nat_eq (rank a) (rank b)

abbrev pub is_other_type : Want → Ty → Truth
is_other_type (this ty) other = not (same_type other ty)
is_other_type nothing other = false
is_other_type unsure other = false

abbrev pub is_no_constant : Want → Thing → Truth
is_no_constant want (constant (plain ty)) = is_other_type want ty
is_no_constant want (no_name place) = false
is_no_constant want thing = true

-- a literal, and a constant
abbrev pub literal_at : Pick → Want → Literal → Option Place
literal_at Missing want l = None
literal_at Date want l = None
literal_at Outside want l = place_where (is_outside want l.ty l.value) l.place
literal_at Other want l = place_where (is_other_type want (type_of_literal want l.ty l.value)) l.place

abbrev pub value_at : Pick → Scope → Want → Choice → Option Place
value_at what scope want (Lit l) = literal_at what want l
value_at Missing scope want (Const name place) = word_missing scope (name, place)
value_at Date scope want (Const name place) = word_date scope (name, place)
value_at Outside scope want (Const name place) = None
value_at Other scope want (Const name place) = place_where (is_no_constant want (thing_of_word scope name.key false place)) place

abbrev pub values_place : Pick → Scope → StmtTree → Option Place
values_place what scope (case_ selector choices other place) =
    nearest_in (value_at what scope (want_of_selector scope selector)) (values_of_case (case_ selector choices other place)) None
values_place what scope s = None
