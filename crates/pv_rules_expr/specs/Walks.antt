-- The nearest places in one expression, for each thing that is looked for: all but whether the expression itself, where it is a
-- literal, is outside its type, which only who wants it can say.
use Rattle.std.specs.Prelude.{◌≡◌, List, [], ◌∷◌, map, is_some, Bool as Truth, if◌then◌else◌, Option, None}
use Rattle.pv_place.specs.declared.place.Place.{Place}
use Rattle.pv_tree.specs.declared.expr.Expr.{Expr}
use Rattle.pv_tree.specs.declared.expr.UnaryOp.{UnaryOp}
use Rattle.pv_tree.specs.Tree.{ExprTree, read, unary, OperandTree, StepTree}
use Rattle.pv_tree.specs.View.{expr_tree}
use Rattle.pv_tree.specs.LiteralTypes.{Want, nothing}
use Rattle.pv_tree.specs.Scopes.{Scope}
use Rattle.pv_tree.specs.Things.{Thing}
use Rattle.pv_tree.specs.Types.{signed, literal_of}
use Rattle.pv_tree.specs.Parts.{Part, parts_of, parts_of_operand, parts_of_step, IndexAt, indexes_of_step}
use Rattle.pv_names.specs.Literals.{written_of}
use Rattle.pv_names.specs.Sorts.{sort_tree}
use Rattle.pv_names.specs.declared.sort.Sort as code
use Rattle.pv_rules_expr.specs.Nearest.{nearer_of}
use Rattle.pv_rules_expr.specs.NearestIn.{nearest_in}
use Rattle.pv_rules_expr.specs.Near.{near_at}
use Rattle.pv_rules_expr.specs.Looks.{part_place, near_parts}
use Rattle.pv_rules_expr.specs.Indexes.{index_place, misuse_at}
use Rattle.pv_rules_expr.specs.Operands.{name_at, void_where, address_at}
use Rattle.pv_rules_expr.specs.Places.{outside}
use Rattle.pv_rules_expr.specs.declared.near.Near.{Near}
use Rattle.pv_rules_expr.specs.declared.search.Look.{Look}
use Rattle.pv_rules_expr.specs.declared.search.Look.TheVariants.{Misapplied, Outside, Missing, Void, Address, Misused, Beyond, Moving, Divides}
use Rattle.pv_rules_expr.specs.declared.indexes.IndexFault.TheVariants as index

-- of each thing this place was added
abbrev pub IsAdded : (Look → Option Place) → Near → Near → Type 0
IsAdded place old new = (what : Look) → near_at what new ≡ nearer_of (near_at what old) (place what)

-- what is added where this is so
abbrev pub place_if : Truth → (Look → Option Place) → Look → Option Place
place_if test place what = if test then place what else None

-- an expression by itself, but whether it is outside its type
abbrev pub own_place : Scope → ExprTree → Look → Option Place
own_place scope e Outside = None
own_place scope e Misapplied = part_place Misapplied scope nothing e
own_place scope e Missing = part_place Missing scope nothing e
own_place scope e Void = part_place Void scope nothing e
own_place scope e Address = part_place Address scope nothing e
own_place scope e Misused = part_place Misused scope nothing e
own_place scope e Beyond = part_place Beyond scope nothing e
own_place scope e Moving = part_place Moving scope nothing e
own_place scope e Divides = part_place Divides scope nothing e

-- and that
abbrev pub outside_place : Want → ExprTree → Look → Option Place
outside_place want e Outside = outside want e
outside_place want e Misapplied = None
outside_place want e Missing = None
outside_place want e Void = None
outside_place want e Address = None
outside_place want e Misused = None
outside_place want e Beyond = None
outside_place want e Moving = None
outside_place want e Divides = None

-- all but the first
abbrev pub others : List Part → List Part
others [] = []
others (p ∷ more) = more

-- an expression with all in it, but whether it is outside its type itself
abbrev pub within_place : Scope → ExprTree → Look → Option Place
within_place scope e what =
    nearer_of (own_place scope e what) (near_parts what scope (others (parts_of scope nothing e)) None)

-- an operator before its operand adds nothing to that where it makes a literal of it
abbrev pub unary_place : Scope → UnaryOp → Place → ExprTree → Look → Option Place
unary_place scope op place arg what = if is_some (signed op (literal_of arg)) then None else
    nearer_of (outside_place nothing arg what) (own_place scope (unary op place arg) what)

-- arguments, of which the first is wanted so and each other so
abbrev pub args_outside : Want → Want → List ExprTree → Look → Option Place
args_outside first other [] what = None
args_outside first other (e ∷ more) what =
    nearer_of (outside_place first e what) (args_outside other other more what)

-- the code's sorts are literals where these expressions are
abbrev pub AreWritten : List code.Sort → List Expr → Type 0
AreWritten parts args = map (λ s. written_of (sort_tree s)) parts ≡ map (λ e. literal_of (expr_tree e)) args

-- an index behind a thing
abbrev pub fault_place : Scope → IndexAt → Look → Option Place
fault_place scope i Misused = index_place index.OtherType scope i
fault_place scope i Beyond = index_place index.Beyond scope i
fault_place scope i Moving = index_place index.Moving scope i
fault_place scope i Misapplied = None
fault_place scope i Outside = None
fault_place scope i Missing = None
fault_place scope i Void = None
fault_place scope i Address = None
fault_place scope i Divides = None

-- an operand that is read and means this thing
abbrev pub end_place : OperandTree → Thing → Look → Option Place
end_place o thing Missing = name_at thing
end_place o thing Void = void_where thing o
end_place o thing Address = address_at o
end_place o thing Misused = misuse_at thing
end_place o thing Misapplied = None
end_place o thing Outside = None
end_place o thing Beyond = None
end_place o thing Moving = None
end_place o thing Divides = None

-- the indexes of an operand with all in them, and with what they are behind what they follow where the operand is read
abbrev pub faults_place : Truth → Scope → List IndexAt → Look → Option Place
faults_place reads scope is what =
    place_if reads (λ what. nearest_in (λ i. fault_place scope i what) is None) what

abbrev pub step_place : Truth → Scope → Thing → StepTree → Look → Option Place
step_place reads scope thing step what =
    nearer_of (near_parts what scope (parts_of_step scope step) None)
    (faults_place reads scope (indexes_of_step thing step) what)

abbrev pub operand_place : Truth → Scope → OperandTree → Look → Option Place
operand_place reads scope o what =
    nearer_of (near_parts what scope (parts_of_operand scope o) None)
    (place_if reads (own_place scope (read o)) what)
