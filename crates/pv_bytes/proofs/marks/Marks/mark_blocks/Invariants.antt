use Rattle.std.proofs.Common.{take}
use Rattle.std.specs.Prelude.{flat_map}
use Rattle.pv_tree.specs.Scopes.{ProjectTree}
use Rattle.pv_tree.specs.Parts.{operands_of}
use Rattle.pv_tree.specs.View.{block_tree}
use Rattle.pv_bytes.specs.Operands.{MarksAlso}
use Rattle.pv_bytes.proofs.marks.Marks.mark_blocks.Given as goal

abbrev pub invariant-loop-block : goal.invariant-loop-block
invariant-loop-block l = (project : ProjectTree)
    → MarksAlso l.area l.fn.self.flags.items l.self.flags.items (flat_map (λ b. operands_of project (block_tree b))
    (take l.block-index l.blocks))
