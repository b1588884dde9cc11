-- The operands that calls write: arguments for outputs. A name without steps is told apart from others by its root and its place.
use Rattle.std.specs.Prelude.{List, nat_eq, bytes_eq, Bool as Truth, true, false, ◌&&◌, not, if◌then◌else◌, Option, Some, None}
use Rattle.std.specs.List.{list_any}
use Rattle.pv_place.specs.declared.place.Place.{Place}
use Rattle.pv_types.specs.declared.name.Name.{Name}
use Rattle.pv_tree.specs.declared.expr.Root.{Root}
use Rattle.pv_tree.specs.declared.expr.Root.TheVariants.{Local, Named, Area}
use Rattle.pv_tree.specs.Tree.{OperandTree, operand, StepTrees, no_steps, steps, ArgTree}
use Rattle.pv_tree.specs.Scopes.{Scope}
use Rattle.pv_tree.specs.Callees.{Callee, How, CallSite, param_of_arg}
use Rattle.pv_tree.specs.Parts.{operand_of}
use Rattle.pv_tree.specs.Rules.Callable.{is_output_where}
use Rattle.pv_rules_code.specs.AtCalls.{param_in}

abbrev pub same_place : Place → Place → Truth
same_place a b = nat_eq a.file b.file && nat_eq a.offset b.offset

abbrev pub same_truth : Truth → Truth → Truth
same_truth a b = if a then b else not b

abbrev pub same_name : Name → Name → Truth
same_name a b =
    bytes_eq a.key b.key && bytes_eq a.spelled b.spelled && same_truth a.paired b.paired

abbrev pub same_root : Root → Root → Truth
same_root (Local a hash at) (Local b hashed place) =
    same_name a b && same_truth hash hashed && same_place at place
same_root (Local a hash at) (Named b) = false
same_root (Local a hash at) (Area area bits byte bit) = false
same_root (Named a) (Named b) = same_name a b
same_root (Named a) (Local b hashed place) = false
same_root (Named a) (Area area bits byte bit) = false
same_root (Area area bits byte bit) other = false

abbrev pub ends_here : StepTrees → Truth
ends_here no_steps = true
ends_here (steps s more) = false

-- both are the same name, and no more
abbrev pub same_plain : OperandTree → OperandTree → Truth
same_plain (operand a more at) (operand b others place) =
    ends_here more && ends_here others && same_root a b && same_place at place

-- an argument for an output is this operand
abbrev pub is_that : Option OperandTree → OperandTree → Truth
is_that None o = false
is_that (Some p) o = same_plain p o

abbrev pub passes_out : Scope → OperandTree → CallSite → ArgTree → Truth
passes_out scope o s a = is_that (operand_of a.value) o && is_output_where (param_of_arg scope s a)

-- the same, by what the argument's call comes to
abbrev pub hands_out : Callee → How → ArgTree → OperandTree → Truth
hands_out callee how a o = is_that (operand_of a.value) o && is_output_where (param_in callee how a)

abbrev pub call_writes : Scope → OperandTree → CallSite → Truth
call_writes scope o s = list_any (passes_out scope o s) s.call.args

-- one of the calls writes it
abbrev pub is_written : Scope → List CallSite → OperandTree → Truth
is_written scope calls o = list_any (call_writes scope o) calls
