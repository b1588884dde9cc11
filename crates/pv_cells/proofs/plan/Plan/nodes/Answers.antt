use Rattle.std.proofs.Common.{refl, ap, ◌∙◌}
use Rattle.pv_cells.specs.Planned.{planned}
use Rattle.pv_cells.proofs.CallNumbers.{each-more, blocks-more, nodes-are}
use Rattle.pv_cells.proofs.plan.Plan.nodes.Goals as goal

pub loop-entry-preserved : goal.loop-entry-preserved
loop-entry-preserved c = record {
  blocks = blocks-more c.entries-entries.result.now c.loop-entry.entry-index _ c.entry-item.result c.loop-entry-test.true c.entry-item.is refl
      c.loop-entry.nodes.items c.push.new.self.items c.in_ok-node.node c.in_ok-push.ensures.items c.in_ok-node.ensures.block c.loop-entry.invariant.blocks;
  each = each-more (planned c.args.self.now) c.loop-entry.nodes.items c.push.new.self.items c.in_ok-node.node c.in_ok-push.ensures.items
      c.loop-entry.invariant.each c.in_ok-node.ensures.is;
}

pub returns : goal.returns
returns c =
    nodes-are (planned c.args.self.now) c.entries-entries.result.now c.loop-entry.entry-index c.loop-entry.nodes.items c.loop-entry-test.false
    (c.entries-entries.ensures ∙ ap (λ x. x.blocks) c.requires.named) c.loop-entry.invariant.blocks c.loop-entry.invariant.each
