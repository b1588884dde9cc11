-- A literal or a start value is outside its type. The place is the literal's first token.
use Rattle.std.specs.Prelude.{◌≡◌, ◌⊎◌, ℤ, Bool as Truth, ◌||◌, not, if◌then◌else◌, Option, Some, None, Any, IsTrue, option_to_list}
use Rattle.pv_word.specs.declared.types.Ty.{Ty}
use Rattle.pv_word.specs.declared.types.Ty.TheVariants.{Word, Dword, Int}
use Rattle.pv_place.specs.declared.place.Place.{Place}
use Rattle.pv_types.specs.declared.declaration.Literal.{Literal}
use Rattle.pv_types.specs.Tree.{TypeTree, plain, VarTree, var}
use Rattle.pv_tree.specs.declared.stmt.Choice.{Choice}
use Rattle.pv_tree.specs.declared.stmt.Choice.TheVariants.{Lit, Const}
use Rattle.pv_tree.specs.Tree.{ExprTree, StmtTree, case_, for_, InstrTree, BlockTree}
use Rattle.pv_tree.specs.LiteralTypes.{holds, is_whole_number, Want, nothing, this, unsure, type_of_literal}
use Rattle.pv_tree.specs.Sorts.{own_type, taken}
use Rattle.pv_tree.specs.Scopes.{ProjectTree, Scope}
use Rattle.pv_tree.specs.Things.{Thing, part, first_place}
use Rattle.pv_tree.specs.Types.{Written, literal_of, sort_of}
use Rattle.pv_tree.specs.InstructionGroups.{Group, load, word_logic, double_logic, group_of}
use Rattle.pv_tree.specs.Parts.{Part, spots_of_body, instructions_of, starts_of, parts_of_block, path_of_start, thing_of_path, want_of_counter}
use Rattle.pv_tree.specs.Interfaces.{all_vars}
use Rattle.pv_tree.specs.Rules.MissingNames.{values_of_case}

-- the type that a literal has by what is wanted of it doesn't hold it
abbrev pub is_outside : Want → Option Ty → ℤ → Truth
is_outside want ty value = not (holds (type_of_literal want ty value) value)

-- an expression that is a literal is judged as one, with its signs and parentheses
abbrev pub IsWrittenOutside : Want → Option Written → Type 0
IsWrittenOutside want None = ⊥
IsWrittenOutside want (Some w) = IsTrue (is_outside want w.ty w.value)

abbrev pub IsPartOutside : Place → Part → Type 0
IsPartOutside at p = (first_place p.expr ≡ at) × IsWrittenOutside p.want (literal_of p.expr)

abbrev pub IsLiteralOutside : Want → Place → Literal → Type 0
IsLiteralOutside want at literal =
    (literal.place ≡ at) × IsTrue (is_outside want literal.ty literal.value)

-- a start value is outside its own type, or outside that of what it is for
abbrev pub start_is_outside : TypeTree → Literal → Truth
start_is_outside (plain ty) literal =
    is_outside (this ty) literal.ty literal.value || not (holds ty literal.value)
start_is_outside ty literal = is_outside unsure literal.ty literal.value

abbrev pub IsStartOutside : Place → VarTree → Type 0
IsStartOutside at (var name section ty None place) = ⊥
IsStartOutside at (var name section ty (Some literal) place) =
    (literal.place ≡ at) × IsTrue (start_is_outside ty literal)

abbrev pub IsThingOutside : Place → Literal → Thing → Type 0
IsThingOutside at literal (part ty) = (literal.place ≡ at) × IsTrue (start_is_outside ty literal)
IsThingOutside at literal thing =
    (literal.place ≡ at) × IsTrue (is_outside unsure literal.ty literal.value)

-- the values of a CASE are of its selector's type, and BY of that of the FOR's variable
abbrev pub want_of_type_where : Option Ty → Want
want_of_type_where None = unsure
want_of_type_where (Some ty) = if is_whole_number ty then this ty else unsure

abbrev pub want_of_selector : Scope → ExprTree → Want
want_of_selector scope selector =
    want_of_type_where (own_type (taken nothing (sort_of scope selector)))

abbrev pub IsChoiceOutside : Want → Place → Choice → Type 0
IsChoiceOutside want at (Lit literal) = IsLiteralOutside want at literal
IsChoiceOutside want at (Const name place) = ⊥

abbrev pub IsStmtOutside : Scope → Place → StmtTree → Type 0
IsStmtOutside scope at (case_ selector choices other place) =
    Any (IsChoiceOutside (want_of_selector scope selector) at) (values_of_case
    (case_ selector choices other place))
IsStmtOutside scope at (for_ name name_place first last by body place) =
    Any (IsLiteralOutside (want_of_counter scope name name_place) at) (option_to_list by)
IsStmtOutside scope at s = ⊥

-- L takes a literal without a type as an INT; AND, OR and XOR of words want WORD or DWORD
abbrev pub is_outside_load : Option Ty → ℤ → Truth
is_outside_load None value = not (holds Int value)
is_outside_load (Some ty) value = not (holds ty value)

abbrev pub is_outside_behind : Group → Option Ty → ℤ → Truth
is_outside_behind load ty value = is_outside_load ty value
is_outside_behind word_logic ty value = is_outside (this Word) ty value
is_outside_behind double_logic ty value = is_outside (this Dword) ty value
is_outside_behind group ty value = is_outside nothing ty value

abbrev pub IsBehindOutside : Place → InstrTree → Type 0
IsBehindOutside at i = Any (λ l. (l.place ≡ at) × IsTrue (is_outside_behind
    (group_of i.op) l.ty l.value)) (option_to_list i.literal)

abbrev pub IsBlockOutside : ProjectTree → Place → BlockTree → Type 0
IsBlockOutside project at block =
    Any (IsPartOutside at) (parts_of_block project block)
    ⊎ (Any (IsStartOutside at) (all_vars block.vars)
    ⊎ (Any (λ v. IsThingOutside at v.1 (thing_of_path scope (path_of_start scope v.0)))
    (starts_of block.body)
    ⊎ (Any (λ s. IsStmtOutside scope at s.stmt) (spots_of_body block.body)
    ⊎ Any (IsBehindOutside at) (instructions_of block.body))))
  where
    scope : Scope
    scope = record { project = project; block = block }

abbrev pub IsOutOfRange : ProjectTree → Place → Type 0
IsOutOfRange project at = Any (IsBlockOutside project at) project.blocks
