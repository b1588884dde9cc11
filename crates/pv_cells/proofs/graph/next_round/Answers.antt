use Rattle.std.proofs.Common.{refl, ap, ◌∙◌}
use Rattle.pv_cells.specs.Below.{at_numbers, size_of_paths}
use Rattle.pv_mean.specs.Counts.{capped}
use Rattle.pv_cells.proofs.Graphing.{next-counted, next-done}
use Rattle.pv_cells.proofs.graph.next_round.Goals as goal

pub loop-node-preserved : goal.loop-node-preserved
loop-node-preserved c = λ project n are is.
    next-counted project n c.args.nodes.now are c.loop-node.node-index _ c.node-item.result c.loop-node-test.true c.node-item.is refl
    c.loop-node.next.items c.push.new.self.items c.size_of_calls.result c.in_ok-push.ensures.items
    (c.size_of_calls.ensures project n are is ∙ ap (λ l. capped (size_of_paths project n (at_numbers project.blocks l))) c.as_slice.ensures.value)
    (c.loop-node.invariant project n are is)

pub returns : goal.returns
returns c = λ project n are is.
    next-done project n c.args.nodes.now are c.loop-node.node-index c.loop-node.next.items c.loop-node-test.false (c.loop-node.invariant project n are is)
