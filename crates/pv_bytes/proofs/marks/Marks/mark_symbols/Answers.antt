use Rattle.std.proofs.Common.{◌∷◌, []}
use Rattle.pv_tree.specs.View.{operand_tree}
use Rattle.pv_bytes.proofs.Marking.{also_nothing, also_more, also_all}
use Rattle.pv_bytes.proofs.marks.Marks.mark_symbols.Goals as goal

pub loop-symbol-init : goal.loop-symbol-init
loop-symbol-init c = also_nothing c.args.area c.args.self.now.flags.items

pub loop-symbol-preserved : goal.loop-symbol-preserved
loop-symbol-preserved c =
    also_more c.args.area (λ s. operand_tree s.1 ∷ []) c.args.symbols.now c.loop-symbol.symbol-index c.symbol-item.result
    c.args.self.now.flags.items
    c.loop-symbol.self.flags.items c.mark_own.new.self.flags.items c.loop-symbol-test.true c.symbol-item.is c.loop-symbol.invariant
    c.mark_own.ensures

pub returns : goal.returns
returns c =
    also_all c.args.area (λ s. operand_tree s.1 ∷ []) c.args.symbols.now c.loop-symbol.symbol-index c.args.self.now.flags.items
    c.loop-symbol.self.flags.items c.loop-symbol-test.false c.loop-symbol.invariant
