-- A project of the code as plain data.
use Rattle.std.specs.Prelude.{List, map}
use Rattle.pv_word.specs.declared.types.Ty.{Ty}
use Rattle.pv_types.specs.declared.name.Name.{Name}
use Rattle.pv_tree.specs.declared.expr.Operand.{Operand}
use Rattle.pv_tree.specs.declared.block.Block.{Block}
use Rattle.pv_tree.specs.View.{operand_tree, block_tree}
use Rattle.pv_tree.specs.Scopes.{SymbolTree, ProjectTree}

abbrev pub symbol_tree : Name × Operand × Ty → SymbolTree
symbol_tree symbol = record { name = symbol.0; at = operand_tree symbol.1; ty = symbol.2 }

-- the blocks of all sources and the case's symbols, as lists
abbrev pub project_tree : List Block → List (Name × Operand × Ty) → ProjectTree
project_tree blocks symbols =
    record { blocks = map block_tree blocks; symbols = map symbol_tree symbols }
