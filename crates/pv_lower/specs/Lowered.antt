-- Expressions and operands as terms, with the checks that they make, in the order in which evaluating meets them. (After the stepping
-- order of this project: an operator's left operand first, a zero divisor behind both; an index's own checks before its bounds; that an
-- operand has a value last.)
use Rattle.std.specs.Prelude.{ℕ, ℤ, pos, unsigned_abs, List, [], ◌∷◌, ◌++◌, if◌then◌else◌, Option, Some, None, unwrap_or}
use Rattle.pv_word.specs.declared.types.Ty.{Ty}
use Rattle.pv_word.specs.declared.types.Ty.TheVariants.{Dint}
use Rattle.pv_place.specs.declared.place.Place.{Place}
use Rattle.pv_place.specs.declared.trap.TrapKind.TheVariants.{DivideByZero, Index}
use Rattle.pv_tree.specs.declared.expr.BinaryOp.{BinaryOp}
use Rattle.pv_tree.specs.declared.expr.UnaryOp.{UnaryOp}
use Rattle.pv_tree.specs.declared.expr.StdFunction.{StdFunction}
use Rattle.pv_tree.specs.Tree.{ExprTree, lit, read, unary, binary, std, paren, ExprTrees, no_exprs, exprs, OperandTree, operand, StepTree, field, index, StepTrees, no_steps, steps, BlockTree}
use Rattle.pv_tree.specs.LiteralTypes.{Want, nothing, this, type_of_literal}
use Rattle.pv_tree.specs.Sorts.{wanted_beside, beside, common_type, wants_of}
use Rattle.pv_tree.specs.Scopes.{Scope, ProjectTree}
use Rattle.pv_tree.specs.Things.{place_of_operand}
use Rattle.pv_tree.specs.Types.{Written, signed, literal_of, sort_of, sorts_of, type_of}
use Rattle.pv_mean.specs.Layout.{size_in}
use Rattle.pv_mean.specs.Sources.{Source}
use Rattle.pv_mean.specs.Spots.{nowhere}
use Rattle.pv_sizes.specs.Checks.{divides}
use Rattle.pv_flow.specs.Terms.{Term, constant}
use Rattle.pv_variables.specs.Origins.{at_spot, placed, field_placed, element_placed, Elements, elements_placed}
use Rattle.pv_terms.specs.Forms.{Typed, at_type, equal_term, unary_term, binary_term, function_term, outside_term}
use Rattle.pv_access.specs.Accesses.{Check, Move, read_term, unset_checks}
use Rattle.pv_lower.specs.Storages.{Access, storage_at}

-- a term, and what is checked before it has its value
pub record Lowered : Type 0 where
  pub checks : List Check
  pub term : Term

-- what an operand names, and what is checked on the way to it
pub record Accessed : Type 0 where
  pub checks : List Check
  pub access : Access

-- the arguments of a function: the checks of all of them, and their terms
pub record Arguments : Type 0 where
  pub checks : List Check
  pub terms : List Typed

abbrev pub scope_of : Source → BlockTree → Scope
scope_of source block = record { project = source.project; block = block }

-- ---- types

-- the type of a part by what is wanted of it. What breaks a rule has none, and then it doesn't matter
abbrev pub part_type : Scope → Want → ExprTree → Ty
part_type scope want e = unwrap_or (type_of scope want e) Dint

-- what two operands of one operator want of a literal among them, and the type at which they meet
abbrev pub want_beside : Scope → ExprTree → ExprTree → Want
want_beside scope left right = wanted_beside (sort_of scope left ∷ sort_of scope right ∷ [])

abbrev pub met_type : Scope → ExprTree → ExprTree → Ty
met_type scope left right =
    unwrap_or (common_type (beside (sort_of scope left ∷ sort_of scope right ∷ []))) Dint

-- a part's term with the part's type
abbrev pub typed : Scope → Want → ExprTree → Lowered → Typed
typed scope want e l = record { ty = part_type scope want e; term = l.term }

-- as one of another type
abbrev pub as_type : Ty → Scope → Want → ExprTree → Lowered → Lowered
as_type ty scope want e l = record { checks = l.checks; term = at_type ty (typed scope want e l) }

-- ---- literals

abbrev pub unchecked : Term → Lowered
unchecked t = record { checks = []; term = t }

-- a literal with its signs, of the type that it takes by what is wanted of it; or another term
abbrev pub literal_or : Want → Option Written → Lowered → Lowered
literal_or want None other = other
literal_or want (Some w) other = unchecked (constant (type_of_literal want w.ty w.value) w.value)

-- what a shift is by: its second argument, a literal
abbrev pub count_of : Option Written → ℕ
count_of None = 0
count_of (Some w) = unsigned_abs w.value

abbrev pub count_in : ExprTrees → ℕ
count_in no_exprs = 0
count_in (exprs first no_exprs) = 0
count_in (exprs first (exprs second more)) = count_of (literal_of second)

-- ---- operators and functions around their parts

abbrev pub around : UnaryOp → Ty → Lowered → Lowered
around op ty l = record { checks = l.checks; term = unary_term op ty l.term }

-- a divisor may be 0, also where it is a literal
abbrev pub zero_check : Place → Ty → Term → Check
zero_check place ty t = record { term = equal_term t (constant ty (pos 0)); kind = DivideByZero; place = place }

abbrev pub divisor_checks : BinaryOp → Place → Ty → Term → List Check
divisor_checks op place ty t = if divides op then zero_check place ty t ∷ [] else []

-- behind these checks, of two terms of the type at which they meet
abbrev pub joined : BinaryOp → Place → Ty → List Check → Term → Term → Lowered
joined op place ty checks a b = record { checks = checks ++ divisor_checks op place ty b; term = binary_term op ty a b }

-- one of two operands, as a term of the type at which they meet
abbrev pub met_term : Scope → ExprTree → ExprTree → ExprTree → Lowered → Term
met_term scope left right e l =
    at_type (met_type scope left right) (typed scope (want_beside scope left right) e l)

abbrev pub between : Scope → BinaryOp → Place → ExprTree → ExprTree → Lowered → Lowered → Lowered
between scope op place left right a b =
    joined op place (met_type scope left right) (a.checks ++ b.checks) (met_term scope left right left a)
    (met_term scope left right right b)

abbrev pub applied : StdFunction → Ty → ℕ → Arguments → Lowered
applied function ty count a = record { checks = a.checks; term = function_term function ty count a.terms }

abbrev pub no_arguments : Arguments
no_arguments = record { checks = []; terms = [] }

abbrev pub argument_before : Scope → Want → ExprTree → Lowered → Arguments → Arguments
argument_before scope want e l more =
    record { checks = l.checks ++ more.checks; terms = typed scope want e l ∷ more.terms }

-- ---- reads

-- what is read there, of a constant as one of this type: a brief cell may have no value
abbrev pub read_at : Source → BlockTree → Ty → Access → Place → Lowered
read_at source block ty a place = record {
  checks = unset_checks (storage_at source block a.origin) a.moves place;
  term = read_term ty (storage_at source block a.origin) a.moves;
}

abbrev pub behind_checks : List Check → Lowered → Lowered
behind_checks checks l = record { checks = checks ++ l.checks; term = l.term }

abbrev pub read_of : Source → BlockTree → Ty → OperandTree → Accessed → Lowered
read_of source block ty o acc = behind_checks acc.checks (read_at source block ty acc.access (place_of_operand o))

-- ---- steps, each with the checks that it makes

abbrev pub leads_to : Access → Accessed
leads_to access = record { checks = []; access = access }

abbrev pub to_field : ProjectTree → Access → List ℕ → Accessed
to_field project access key = leads_to (record { origin = field_placed project access.origin key; moves = access.moves })

-- an index that is a literal lies within the bounds
abbrev pub to_known : ProjectTree → Access → ℤ → Accessed
to_known project access i = leads_to (record { origin = element_placed project access.origin i; moves = access.moves })

abbrev pub index_check : Place → Term → Elements → Check
index_check place i e = record { term = outside_term i e.low e.high; kind = Index; place = place }

abbrev pub move_of : ProjectTree → Term → Elements → Move
move_of project i e = record { index = i; low = e.low; high = e.high; stride = size_in project e.of }

-- any other, a DINT, is checked, and moves what is named among the elements; what is no array has none
abbrev pub to_moved : ProjectTree → Access → Place → Term → Option Elements → Accessed
to_moved project access place i None = leads_to (record { origin = at_spot nowhere; moves = access.moves })
to_moved project access place i (Some e) = record {
  checks = index_check place i e ∷ [];
  access = record { origin = e.head; moves = access.moves ++ move_of project i e ∷ [] };
}

-- these checks come first
abbrev pub reached_behind : List Check → Accessed → Accessed
reached_behind checks acc = record { checks = checks ++ acc.checks; access = acc.access }

-- an index is a DINT
abbrev pub to_checked : ProjectTree → Access → Place → Lowered → Accessed
to_checked project access place i =
    reached_behind i.checks (to_moved project access place i.term (elements_placed access.origin))

abbrev pub to_element : Scope → Access → Place → ExprTree → Lowered → Accessed
to_element scope access place e l = elim (literal_of e) [
  | Some w ↦ to_known scope.project access w.value
  | None ↦ to_checked scope.project access place (as_type Dint scope nothing e l)
]

-- ---- parts

abbrev mutual
  -- an expression of which this is wanted, in a block of a source
  pub lowered : Source → BlockTree → Want → ExprTree → Lowered
  lowered source block want (lit ty v place) = unchecked (constant (type_of_literal want ty v) v)
  lowered source block want (read o) =
      read_of source block (part_type (scope_of source block) want (read o)) o (accessed source block o)
  lowered source block want (unary op place arg) =
      literal_or want (signed op (literal_of arg)) (around op (part_type (scope_of source block) nothing arg)
      (lowered source block nothing arg))
  lowered source block want (binary op place left right) =
      between (scope_of source block) op place left right
      (lowered source block (want_beside (scope_of source block) left right) left)
      (lowered source block (want_beside (scope_of source block) left right) right)
  lowered source block want (std function place args) =
      applied function (part_type (scope_of source block) want (std function place args)) (count_in args)
      (arguments source block (wants_of function (sorts_of (scope_of source block) args)) args)
  lowered source block want (paren place inner) = lowered source block want inner

  pub arguments : Source → BlockTree → List Want → ExprTrees → Arguments
  arguments source block wants no_exprs = no_arguments
  arguments source block [] (exprs e more) =
      argument_before (scope_of source block) nothing e (lowered source block nothing e)
      (arguments source block [] more)
  arguments source block (want ∷ wants) (exprs e more) =
      argument_before (scope_of source block) want e (lowered source block want e)
      (arguments source block wants more)

  -- an operand, whether it is read or written
  pub accessed : Source → BlockTree → OperandTree → Accessed
  accessed source block (operand root more place) =
      reached source block (record { origin = placed source block root; moves = [] }) more

  pub reached : Source → BlockTree → Access → StepTrees → Accessed
  reached source block access no_steps = leads_to access
  reached source block access (steps step more) =
      reached_behind (stepped source block access step).checks
      (reached source block (stepped source block access step).access more)

  pub stepped : Source → BlockTree → Access → StepTree → Accessed
  stepped source block access (field name place) = to_field source.project access name.key
  stepped source block access (index e place) =
      to_element (scope_of source block) access place e (lowered source block nothing e)

-- an expression as a value of this type, as one that is assigned
abbrev pub lowered_as : Source → BlockTree → Ty → ExprTree → Lowered
lowered_as source block ty e = as_type ty (scope_of source block) (this ty) e (lowered source block (this ty) e)
