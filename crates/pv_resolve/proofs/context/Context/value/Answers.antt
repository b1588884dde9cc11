use Rattle.std.proofs.Common.{arith}
use Rattle.pv_tree.specs.View.{block_tree}
use Rattle.pv_resolve.proofs.Naming.{value_begins}
use Rattle.pv_resolve.proofs.Nears.{value_beyond}
use Rattle.pv_resolve.proofs.context.Context.value.Goals as goal

pub returns-clause-value : goal.returns-clause-value
returns-clause-value c =
    λ source first is. value_begins c.args.self.now source c.args.ty c.of_activation-number.result (block_tree c.block-block.result.now) is
    c.block-block.ensures c.of_activation-number.ensures (omega arith)

pub returns-then-number-ge-BEYOND-clause-room : goal.returns-then-number-ge-BEYOND-clause-room
returns-then-number-ge-BEYOND-clause-room c =
    λ source is h. absurd (value_beyond c.args.self.now source c.of_activation-number.result (block_tree c.block-block.result.now) is h c.block-block.ensures c.of_activation-number.ensures (omega arith))
