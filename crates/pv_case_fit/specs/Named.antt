-- Expressions that are a name alone. No public clause cites this.
use Rattle.std.specs.Prelude.{true, false, Option, Some, None}
use Rattle.pv_types.specs.declared.name.Name.{Name}
use Rattle.pv_tree.specs.declared.expr.Root.{Root}
use Rattle.pv_tree.specs.declared.expr.Root.TheVariants.{Local, Named, Area as InArea}
use Rattle.pv_tree.specs.Tree.{ExprTree, lit, read, unary, binary, std, paren, OperandTree, operand, no_steps, steps}

abbrev pub name_of_root : Root → Option Name
name_of_root (Local name false place) = Some name
name_of_root (Local name true place) = None
name_of_root (Named name) = Some name
name_of_root (InArea area bits byte bit) = None

abbrev pub name_of_operand : OperandTree → Option Name
name_of_operand (operand root no_steps place) = name_of_root root
name_of_operand (operand root (steps step others) place) = None

abbrev pub name_alone : ExprTree → Option Name
name_alone (lit own value place) = None
name_alone (read variable) = name_of_operand variable
name_alone (unary op place arg) = None
name_alone (binary op place left right) = None
name_alone (std function place args) = None
name_alone (paren place inner) = None
