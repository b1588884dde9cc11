-- Calls: which block a call runs, which parameters the block has, and which of them an argument is for.
use Rattle.std.specs.Prelude.{ℕ, List, [], ◌∷◌, ◌++◌, filter, find, drop, bytes_eq, nat_eq, Bool as Truth, true, false, ◌&&◌, ◌||◌, not, is_some, is_none, if◌then◌else◌, Option, Some, None}
use Rattle.std.specs.List.{starts_with, list_all}
use Rattle.std.specs.Char.{is_ascii_digit}
use Rattle.pv_place.specs.declared.place.Place.{Place}
use Rattle.pv_types.specs.declared.name.Name.{Name}
use Rattle.pv_types.specs.declared.declaration.Section.{Section}
use Rattle.pv_types.specs.declared.declaration.Section.TheVariants.{Input, Output, InOut, Static, Temp, Const}
use Rattle.pv_types.specs.Tree.{TypeTree, plain, array, structure, named, unread, VarTree, var}
use Rattle.pv_types.specs.View.{declared_type_of}
use Rattle.pv_tree.specs.declared.block.BlockKind.{BlockKind}
use Rattle.pv_tree.specs.declared.block.BlockKind.TheVariants.{Fb, Fc, Ob, Db, Udt}
use Rattle.pv_tree.specs.Tree.{ArgTree, CallPlain, BlockTree}
use Rattle.pv_tree.specs.LiteralTypes.{Want, this, unsure}
use Rattle.pv_tree.specs.Scopes.{Scope, first_block, first_var, first_symbol, is_fb, is_fc, is_stl, type_named, has_key, value_key, own_value}

-- how a call is made: as a statement of SCL, as the value of an assignment, by CALL, or by UC
pub data How : Type 0 where
  as_statement : How
  as_value : How
  by_call : How
  by_uc : How

pub record CallSite : Type 0 where
  pub how : How
  pub call : CallPlain

abbrev pub is_by_stl : How → Truth
is_by_stl as_statement = false
is_by_stl as_value = false
is_by_stl by_call = true
is_by_stl by_uc = true

-- a quoted name keeps its quotes; a numbered one is OB, FB, FC, DB or UDT and a number: decimal digits in the same word, or
-- any number of its own, which the name is marked for
abbrev pub is_quoted : Name → Truth
is_quoted name = starts_with nat_eq name.spelled (34 ∷ [])

abbrev pub is_number_text : List ℕ → Truth
is_number_text [] = false
is_number_text (b ∷ more) = list_all is_ascii_digit (b ∷ more)

abbrev pub has_number_behind : List ℕ → List ℕ → ℕ → Truth
has_number_behind prefix key count =
    starts_with nat_eq key prefix && is_number_text (drop count key)

abbrev pub is_numbered : List ℕ → Truth
is_numbered key =
    has_number_behind (111 ∷ 98 ∷ []) key 2 || has_number_behind (102 ∷ 98 ∷ []) key 2
    || has_number_behind (102 ∷ 99 ∷ []) key 2
    || has_number_behind (100 ∷ 98 ∷ []) key 2 || has_number_behind (117 ∷ 100 ∷ 116 ∷ []) key 3

abbrev pub is_word : Name → Truth
is_word name = not (is_quoted name) && not (name.paired || is_numbered name.key)

-- what a called name or a second name means: a declaration of the block, what it is, or a block or symbol
pub data Called : Type 0 where
  a_variable : VarTree → Called
  block_called : BlockTree → Called
  no_callee : Called
  undeclared : Called

abbrev pub called_where : Option VarTree → Called → Called
called_where None other = other
called_where (Some v) other = a_variable v

abbrev pub called_block : Option BlockTree → Called → Called
called_block None other = other
called_block (Some b) other = block_called b

-- an unquoted word means a declaration where there is one, else in STL a function's value where it is RET_VAL, else a block;
-- behind `#` a declaration alone. A quoted or numbered name means a block where there is one, else a symbol, which can't be
-- called; behind `#` it means nothing that can
abbrev pub called_name : Scope → Name → Truth → Called
called_name scope name hash =
    if is_word name then called_where (first_var scope.block.vars name.key) word_alone
    else (if hash then behind_hash else called_block
    (first_block scope.project.blocks name.key) symbol_alone)
  where
    block_alone : Called
    block_alone = if hash then undeclared else called_block
        (first_block scope.project.blocks name.key) undeclared

    word_alone : Called
    word_alone = if is_stl scope.block.body && is_some
        (own_value scope.block name.key hash) then no_callee else block_alone

    behind_hash : Called
    behind_hash = if is_some (first_var scope.block.vars name.key) then no_callee else undeclared

    symbol_alone : Called
    symbol_alone =
        if is_some (first_symbol scope.project.symbols name.key) then no_callee else undeclared

-- what a call comes to: the block that it runs; a name that isn't declared, at its place; a name that can't be called so, at its
-- place; or an instance of a type that isn't declared
pub data Callee : Type 0 where
  runs : BlockTree → Callee
  not_declared : Place → Callee
  not_callable : Place → Callee
  unknown : Callee

-- an instance variable is called in a function block, where it isn't temporary
abbrev pub may_be_instance : BlockTree → VarTree → Truth
may_be_instance block (var name Input ty start place) = is_fb block.kind
may_be_instance block (var name Output ty start place) = is_fb block.kind
may_be_instance block (var name InOut ty start place) = is_fb block.kind
may_be_instance block (var name Static ty start place) = is_fb block.kind
may_be_instance block (var name Temp ty start place) = false
may_be_instance block (var name Const ty start place) = false

-- a function's value is what an assignment takes, and UC calls functions alone
abbrev pub function_runs : How → BlockTree → Place → Callee
function_runs as_statement b place = runs b
function_runs as_value b place = if is_some b.value then runs b else not_callable place
function_runs by_call b place = runs b
function_runs by_uc b place = runs b

abbrev pub instance_runs : How → BlockTree → Place → Callee
instance_runs as_statement b place = if is_fb b.kind then runs b else not_callable place
instance_runs as_value b place = not_callable place
instance_runs by_call b place = if is_fb b.kind then runs b else not_callable place
instance_runs by_uc b place = not_callable place

abbrev pub instance_of : Scope → How → List ℕ → Place → Callee
instance_of scope how type_key place =
    elim (type_named scope.project type_key) [ None ↦ unknown | Some b ↦ instance_runs how b place ]

abbrev pub variable_runs : Scope → How → TypeTree → Place → Callee
variable_runs scope how (plain ty) place = not_callable place
variable_runs scope how (array low high of at) place = not_callable place
variable_runs scope how (structure vars) place = not_callable place
variable_runs scope how (named name at) place = instance_of scope how name.key place
variable_runs scope how unread place = not_callable place

-- a data block alone is called in SCL, as an instance of its function block
abbrev pub block_runs : Scope → How → BlockKind → BlockTree → Place → Callee
block_runs scope how Fb b place = not_callable place
block_runs scope how Fc b place = function_runs how b place
block_runs scope how Ob b place = not_callable place
block_runs scope how (Db None) b place = not_callable place
block_runs scope how (Db (Some of)) b place =
    if is_by_stl how then not_callable place else instance_of scope how of.0.key place
block_runs scope how Udt b place = not_callable place

abbrev pub one_name_runs : Scope → How → Called → Place → Callee
one_name_runs scope how (a_variable v) place =
    if may_be_instance scope.block v then variable_runs scope how (declared_type_of v) place
    else undeclared_or_not (declared_type_of v)
  where
    undeclared_or_not : TypeTree → Callee
    undeclared_or_not ty = elim (variable_runs scope how ty place) [
      | runs b ↦ not_callable place
      | not_declared p ↦ not_callable place
      | not_callable p ↦ not_callable place
      | unknown ↦
          unknown
    ]
one_name_runs scope how (block_called b) place = block_runs scope how b.kind b place
one_name_runs scope how no_callee place = not_callable place
one_name_runs scope how undeclared place = not_declared place

-- the second of two names is a data block of the function block that the first one is
abbrev pub data_block_runs : Scope → How → BlockTree → Place → BlockKind → Place → Callee
data_block_runs scope how fb first Fb place = not_callable place
data_block_runs scope how fb first Fc place = not_callable place
data_block_runs scope how fb first Ob place = not_callable place
data_block_runs scope how fb first (Db None) place = not_callable place
data_block_runs scope how fb first (Db (Some of)) place =
    elim (type_named scope.project of.0.key) [
      | None ↦ unknown
      | Some b ↦ if has_key b.name.key
          fb.name then instance_runs how fb first else not_callable place
    ]
data_block_runs scope how fb first Udt place = not_callable place

-- a symbol is no block, so as a second name it is one that isn't declared
abbrev pub second_name_runs : Scope → How → BlockTree → Place → Called → Place → Callee
second_name_runs scope how fb first (a_variable v) place = not_callable place
second_name_runs scope how fb first (block_called b) place =
    data_block_runs scope how fb first b.kind place
second_name_runs scope how fb first no_callee place = not_declared place
second_name_runs scope how fb first undeclared place = not_declared place

abbrev pub first_name_runs : Scope → How → Called → Place → Called → Place → Callee
first_name_runs scope how (a_variable v) place second second_place = not_callable place
first_name_runs scope how (block_called fb) place second second_place =
    if is_fb fb.kind then second_name_runs scope how fb place second second_place
    else not_callable place
first_name_runs scope how no_callee place second second_place = not_callable place
first_name_runs scope how undeclared place second second_place = not_declared place

-- what a call comes to
abbrev pub callee_of : Scope → CallSite → Callee
callee_of scope site = elim site.call.base [
  | None ↦ one_name_runs scope site.how (called_name scope site.call.name site.call.hash)
      site.call.name_place
  | Some second ↦ first_name_runs scope site.how
      (called_name scope site.call.name site.call.hash) site.call.name_place
      (called_name scope second.0 false) second.1
]

abbrev pub block_of_callee : Callee → Option BlockTree
block_of_callee (runs b) = Some b
block_of_callee (not_declared place) = None
block_of_callee (not_callable place) = None
block_of_callee unknown = None

-- sections of parameters
abbrev pub is_input : Section → Truth
is_input Input = true
is_input Output = false
is_input InOut = false
is_input Static = false
is_input Temp = false
is_input Const = false

abbrev pub is_output : Section → Truth
is_output Input = false
is_output Output = true
is_output InOut = false
is_output Static = false
is_output Temp = false
is_output Const = false

abbrev pub is_in_out : Section → Truth
is_in_out Input = false
is_in_out Output = false
is_in_out InOut = true
is_in_out Static = false
is_in_out Temp = false
is_in_out Const = false

abbrev pub is_param : Section → Truth
is_param section = is_input section || is_output section || is_in_out section

-- a parameter: its key, its section and its type
pub record Param : Type 0 where
  pub key : List ℕ
  pub section : Section
  pub ty : TypeTree

abbrev pub params_of_vars : List VarTree → List Param
params_of_vars [] = []
params_of_vars (var name section ty start place ∷ more) =
    if is_param section then record { key = name.key; section = section; ty = ty }
    ∷ params_of_vars more else params_of_vars more

-- a function's value is the output RET_VAL where STL calls it, unless it declares that name
abbrev pub value_param : How → BlockTree → List Param
value_param how block =
    if is_by_stl how && is_none (first_var block.vars value_key)
    then (elim block.value [
      | None ↦ []
      | Some ty ↦ record {
        key = value_key;
        section = Output;
        ty =
            plain ty;
      } ∷ []
    ])
    else []

abbrev pub params_of : How → BlockTree → List Param
params_of how block = params_of_vars block.vars ++ value_param how block

abbrev pub first_param : List Param → List ℕ → Option Param
first_param params key = find (λ p. bytes_eq key p.key) params

-- an argument without a word is for the only input of a function
abbrev pub only : List Param → Option Param
only [] = None
only (p ∷ []) = Some p
only (p ∷ q ∷ more) = None

abbrev pub only_input : BlockTree → Option Param
only_input block = if is_fc block.kind then only (filter (λ p. is_input p.section)
    (params_of_vars block.vars)) else None

abbrev pub param_for : How → BlockTree → ArgTree → Option Param
param_for how block arg = elim arg.name [
  | None ↦ only_input block
  | Some word ↦ first_param
      (params_of how block) word.0.key
]

-- what is wanted of an argument's value: the parameter's type
abbrev pub want_of_type : TypeTree → Want
want_of_type (plain ty) = this ty
want_of_type (array low high of at) = unsure
want_of_type (structure vars) = unsure
want_of_type (named name at) = unsure
want_of_type unread = unsure

abbrev pub want_of_param : Option Param → Want
want_of_param None = unsure
want_of_param (Some p) = want_of_type p.ty

abbrev pub param_of_arg : Scope → CallSite → ArgTree → Option Param
param_of_arg scope site arg = elim (block_of_callee
    (callee_of scope site)) [ None ↦ None | Some b ↦ param_for site.how b arg ]

abbrev pub want_of_arg : Scope → CallSite → ArgTree → Want
want_of_arg scope site arg = want_of_param (param_of_arg scope site arg)
