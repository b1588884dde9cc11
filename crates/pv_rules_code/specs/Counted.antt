-- Variables of FORs around a statement.
use Rattle.std.specs.Prelude.{ℕ, List, Option, Some, None, Bool as Truth, false}
use Rattle.std.specs.List.{list_any}
use Rattle.pv_tree.specs.Tree.{ExprTree, OperandTree}
use Rattle.pv_tree.specs.Parts.{Loop, operand_of}
use Rattle.pv_tree.specs.Rules.Loops.{counts, word_of_operand}

abbrev pub is_counted : List Loop → List ℕ → Truth
is_counted loops key = list_any (counts key) loops

-- the operand is such a variable
abbrev pub is_counted_operand : List Loop → OperandTree → Truth
is_counted_operand loops o = list_any (λ n. is_counted loops n.0.key) (word_of_operand o)

abbrev pub is_counted_where : List Loop → Option OperandTree → Truth
is_counted_where loops None = false
is_counted_where loops (Some o) = is_counted_operand loops o

abbrev pub is_counted_value : List Loop → ExprTree → Truth
is_counted_value loops e = is_counted_where loops (operand_of e)
