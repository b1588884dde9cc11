-- Types don't fit an operator, a function or the target; a whole array, structure or instance is a value, target or argument; or
-- a variable of DATE_AND_TIME is used, or stands outside an OB's VAR_TEMP. The place is the operator, the function's word, `:=` or
-- `=>`, the first token of an unnamed argument, an index, a start value or a FOR's start or end, or a variable's name.
use Rattle.std.specs.Prelude.{◌≡◌, ◌⊎◌, List, [], ◌∷◌, Bool as Truth, true, false, ◌&&◌, ◌||◌, not, is_some, if◌then◌else◌, Option, Some, None, option_and_then, option_to_list, Any, IsTrue}
use Rattle.pv_word.specs.declared.types.Ty.{Ty}
use Rattle.pv_place.specs.declared.place.Place.{Place}
use Rattle.pv_types.specs.declared.declaration.Section.{Section}
use Rattle.pv_types.specs.declared.declaration.Section.TheVariants.{Input, Output, InOut, Static, Temp, Const}
use Rattle.pv_types.specs.declared.declaration.Literal.{Literal}
use Rattle.pv_types.specs.Tree.{TypeTree, plain, array, structure, named, unread, VarTree, var}
use Rattle.pv_types.specs.View.{section_of, place_of, declared_type_of}
use Rattle.pv_tree.specs.Tree.{ExprTree, lit, read, unary, binary, std, paren, OperandTree, ArgTree, CallPlain, StmtTree, assign, assign_call, if_, case_, for_, while_, repeat_, exit_, continue_, return_, call_, empty_, StartTree, BlockTree}
use Rattle.pv_tree.specs.LiteralTypes.{Want, nothing, this, is_whole_number}
use Rattle.pv_tree.specs.Sorts.{Sort, one, whole, broken, is_whole, one_of, taken, beside, common_type, result_of_unary, result_of_binary, arguments_of, result_of_function, misfits}
use Rattle.pv_tree.specs.Scopes.{ProjectTree, Scope, is_ob, type_named}
use Rattle.pv_tree.specs.Things.{Thing, part, constant, a_block, no_name, no_array, a_date, untold, first_place, is_date, dated, thing_of_word}
use Rattle.pv_tree.specs.Types.{literal_of, sort_of, sorts_of, sort_of_type}
use Rattle.pv_tree.specs.Callees.{Called, a_variable, block_called, no_callee, undeclared, called_name, Callee, runs, callee_of, CallSite, as_value, Param, param_of_arg, want_of_type}
use Rattle.pv_tree.specs.Parts.{Part, Path, IndexAt, spots_of_body, starts_of, parts_of_block, paths_of, path_of_start, thing_of_path, indexes_of, want_of_target, want_of_counter, calls_of, operand_of, site}
use Rattle.pv_tree.specs.Interfaces.{all_vars}
use Rattle.pv_tree.specs.Rules.MissingNames.{words_of}
use Rattle.pv_tree.specs.Fits.{is_of_other_type, doesnt_fit, sort_of_target, start_misfits}

-- ---- operators and functions

-- an operator or a function whose operands don't fit it; a literal behind a sign is none
abbrev pub unary_misfits : ExprTree → List Sort → Option Ty → Truth
unary_misfits e sorts result = not (is_some (literal_of e)) && misfits result sorts

-- at this place stands an operator or function whose operands don't fit
abbrev pub Misapplies : Scope → Place → ExprTree → Type 0
Misapplies scope at (lit ty value place) = ⊥
Misapplies scope at (read o) = ⊥
Misapplies scope at (unary op place arg) = (place ≡ at) × IsTrue (unary_misfits
    (unary op place arg) sorts (option_and_then (result_of_unary op) (common_type sorts)))
  where
    sorts : List Sort
    sorts = taken nothing (sort_of scope arg) ∷ []
Misapplies scope at (binary op place left right) = (place ≡ at) × IsTrue (misfits (option_and_then
    (result_of_binary op) (common_type sorts)) sorts)
  where
    sorts : List Sort
    sorts = beside (sort_of scope left ∷ sort_of scope right ∷ [])
Misapplies scope at (std function place args) =
    (place ≡ at) × IsTrue (misfits (result_of_function function sorts) sorts)
  where
    sorts : List Sort
    sorts = arguments_of function (sorts_of scope args)
Misapplies scope at (paren place inner) = ⊥

-- ---- indexes and dates

-- an index that is neither INT nor DINT
abbrev pub Misindexes : Scope → Place → IndexAt → Type 0
Misindexes scope at i = (first_place i.index ≡ at) × IsTrue (is_of_other_type is_whole_number
    (taken nothing (sort_of scope i.index)))

-- names that come to a date, or an index behind what is no array, or one of another type
abbrev pub MisusesPath : Scope → Place → Path → Type 0
MisusesPath scope at p = (thing_of_path scope p ≡ no_array at) ⊎
    ((thing_of_path scope p ≡ a_date at) ⊎ Any (Misindexes scope at) (indexes_of scope p))

-- the sections in which an OB may declare a date: VAR_TEMP, and VAR, which is VAR_TEMP there
abbrev pub is_temporary : Section → Truth
is_temporary Input = false
is_temporary Output = false
is_temporary InOut = false
is_temporary Static = true
is_temporary Temp = true
is_temporary Const = false

abbrev pub MisplacesDate : Place → BlockTree → Type 0
MisplacesDate at block =
    Any (λ v. (place_of v ≡ at) × IsTrue (is_date (declared_type_of v) && not (is_ob block.kind
    && is_temporary (section_of v)))) (all_vars block.vars)

-- ---- start values

-- a start value for a type; arrays, structures and named types take none
abbrev pub start_misfits_type : Scope → TypeTree → Literal → Truth
start_misfits_type scope (plain ty) literal = start_misfits ty literal
start_misfits_type scope (array low high of place) literal = true
start_misfits_type scope (structure vars) literal = true
start_misfits_type scope (named name place) literal = is_some (type_named scope.project name.key)
start_misfits_type scope unread literal = true

abbrev pub MisstartsVar : Scope → Place → VarTree → Type 0
MisstartsVar scope at (var name section ty None place) = ⊥
MisstartsVar scope at (var name section ty (Some literal) place) =
    (literal.place ≡ at) × IsTrue (start_misfits_type scope ty literal)

-- a value that a data block gives to one of its parts
abbrev pub MisstartsThing : Scope → Place → Literal → Thing → Type 0
MisstartsThing scope at literal (part ty) =
    (literal.place ≡ at) × IsTrue (start_misfits_type scope ty literal)
MisstartsThing scope at literal (constant ty) = ⊥
MisstartsThing scope at literal (a_block b) = ⊥
MisstartsThing scope at literal (no_name place) = ⊥
MisstartsThing scope at literal (no_array place) = ⊥
MisstartsThing scope at literal (a_date place) = ⊥
MisstartsThing scope at literal untold = ⊥

abbrev pub MisstartsPart : Scope → Place → StartTree → Type 0
MisstartsPart scope at start =
    MisstartsThing scope at start.1 (thing_of_path scope (path_of_start scope start.0))

-- ---- assignments, FOR and arguments

-- the value of a called function
abbrev pub sort_of_callee : Callee → Sort
sort_of_callee (runs b) = one_of b.value
sort_of_callee callee = broken

-- the start or the end of a FOR
abbrev pub MisfitsCounter : Scope → Place → Want → ExprTree → Type 0
MisfitsCounter scope at (this ty) e =
    (first_place e ≡ at) × IsTrue (doesnt_fit (one ty) (taken (this ty) (sort_of scope e)))
MisfitsCounter scope at want e = (first_place e ≡ at) × IsTrue (is_whole (sort_of scope e))

abbrev pub MisfitsStmt : Scope → Place → StmtTree → Type 0
MisfitsStmt scope at (assign target place value) =
    (place ≡ at) × IsTrue (doesnt_fit (sort_of_target scope target) (taken
    (want_of_target scope target) (sort_of scope value)))
MisfitsStmt scope at (assign_call target place call) =
    (place ≡ at) × IsTrue (doesnt_fit (sort_of_target scope target) (sort_of_callee (callee_of scope
    (site as_value call))))
MisfitsStmt scope at (for_ name name_place first last by body place) =
    MisfitsCounter scope at (want_of_counter scope name name_place) first
    ⊎ MisfitsCounter scope at (want_of_counter scope name name_place) last
MisfitsStmt scope at (if_ conditions other place) = ⊥
MisfitsStmt scope at (case_ selector choices other place) = ⊥
MisfitsStmt scope at (while_ condition body place) = ⊥
MisfitsStmt scope at (repeat_ body condition place) = ⊥
MisfitsStmt scope at (exit_ place) = ⊥
MisfitsStmt scope at (continue_ place) = ⊥
MisfitsStmt scope at (return_ place) = ⊥
MisfitsStmt scope at (call_ call) = ⊥
MisfitsStmt scope at (empty_ place) = ⊥

-- a word that a statement names by itself, or a called name, is a variable of DATE_AND_TIME
abbrev pub NamesDate : Scope → Place → StmtTree → Type 0
NamesDate scope at s =
    Any (λ n. dated n.1 (thing_of_word scope n.0.key false n.1) ≡ a_date at) (words_of s)

abbrev pub is_called_date : Called → Truth
is_called_date (a_variable v) = is_date (declared_type_of v)
is_called_date (block_called b) = false
is_called_date no_callee = false
is_called_date undeclared = false

abbrev pub CallsDate : Scope → Place → CallPlain → Type 0
CallsDate scope at call =
    ((call.name_place ≡ at) × IsTrue (is_called_date (called_name scope call.name call.hash)))
    ⊎ Any (λ n. (n.1 ≡ at) × IsTrue (is_called_date (called_name scope n.0 false)))
    (option_to_list call.base)

-- an output's value goes into the argument, and VAR_IN_OUT goes both ways, so that the types are the same
abbrev pub sort_of_argument : Scope → ExprTree → Option OperandTree → Sort
sort_of_argument scope e (Some o) = sort_of_target scope o
sort_of_argument scope e None = if is_whole (sort_of scope e) then whole else broken

abbrev pub doesnt_pass : Scope → Section → TypeTree → ExprTree → Truth
doesnt_pass scope Input ty e =
    doesnt_fit (sort_of_type scope ty) (taken (want_of_type ty) (sort_of scope e))
doesnt_pass scope Output ty e =
    doesnt_fit (sort_of_argument scope e (operand_of e)) (sort_of_type scope ty)
doesnt_pass scope InOut ty e =
    doesnt_fit (sort_of_argument scope e (operand_of e)) (sort_of_type scope ty)
    || doesnt_fit (sort_of_type scope ty) (sort_of_argument scope e (operand_of e))
doesnt_pass scope Static ty e = is_whole (sort_of scope e)
doesnt_pass scope Temp ty e = is_whole (sort_of scope e)
doesnt_pass scope Const ty e = is_whole (sort_of scope e)

abbrev pub MisfitsParam : Scope → ExprTree → Option Param → Type 0
MisfitsParam scope e None = IsTrue (is_whole (sort_of scope e))
MisfitsParam scope e (Some p) = IsTrue (doesnt_pass scope p.section p.ty e)

abbrev pub MisfitsArg : Scope → Place → CallSite → ArgTree → Type 0
MisfitsArg scope at s arg =
    (arg.place ≡ at) × MisfitsParam scope arg.value (param_of_arg scope s arg)

abbrev pub MisfitsCall : Scope → Place → CallSite → Type 0
MisfitsCall scope at s = Any (MisfitsArg scope at s) s.call.args ⊎ CallsDate scope at s.call

-- ---- in a block

-- in these expressions and paths
abbrev pub MisfitsIn : Scope → Place → List Part → List Path → Type 0
MisfitsIn scope at parts paths =
    Any (λ p. Misapplies scope at p.expr) parts ⊎ Any (MisusesPath scope at) paths

abbrev pub MisfitsBlock : ProjectTree → Place → BlockTree → Type 0
MisfitsBlock project at block =
    MisfitsIn scope at (parts_of_block project block) (paths_of project block)
    ⊎ (MisplacesDate at block
    ⊎ (Any (MisstartsVar scope at) (all_vars block.vars)
    ⊎ (Any (MisstartsPart scope at) (starts_of block.body)
    ⊎ (Any (λ s. MisfitsStmt scope at s.stmt ⊎ NamesDate scope at s.stmt) (spots_of_body block.body)
    ⊎ Any (MisfitsCall scope at) (calls_of block)))))
  where
    scope : Scope
    scope = record { project = project; block = block }

abbrev pub IsMisfit : ProjectTree → Place → Type 0
IsMisfit project at = Any (MisfitsBlock project at) project.blocks
