use Rattle.std.proofs.Common.{take, ◌∷◌, []}
use Rattle.std.specs.Prelude.{flat_map}
use Rattle.pv_tree.specs.View.{operand_tree}
use Rattle.pv_bytes.specs.Operands.{MarksAlso}
use Rattle.pv_bytes.proofs.marks.Marks.mark_symbols.Given as goal

abbrev pub invariant-loop-symbol : goal.invariant-loop-symbol
invariant-loop-symbol l =
    MarksAlso l.area l.fn.self.flags.items l.self.flags.items (flat_map (λ s. operand_tree s.1 ∷ []) (take l.symbol-index l.symbols))
