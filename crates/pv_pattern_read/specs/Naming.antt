-- The addresses of operands, and of one text more. No public clause cites this.
use Rattle.std.specs.Prelude.{◌≡◌, ◌⊎◌, ℕ, List, ◌++◌, map, filter}
use Rattle.pv_tree.specs.Tree.{ExprTree, OperandTree}
use Rattle.pv_pattern.specs.Texts.{IsTextOf, is_address_operand, alone, addresses_in}

-- those that are addresses, without what stands behind them
abbrev pub addresses_of : List OperandTree → List OperandTree
addresses_of all = map alone (filter is_address_operand all)

-- to those that were named come those that the text names
abbrev pub NamesAlso : List ℕ → List OperandTree → List OperandTree → Type 0
NamesAlso t old new =
    ((e : ExprTree) × IsTextOf t e × (new ≡ old ++ addresses_in e))
    ⊎ (((e : ExprTree) → IsTextOf t e → ⊥) × (new ≡ old))
