use Rattle.std.proofs.Common.{refl, arith}
use Rattle.pv_mean.specs.Sized.{sized_project}
use Rattle.pv_resolve.specs.Contexts.{block_in}
use Rattle.pv_tree.specs.View.{block_tree}
use Rattle.pv_program.proofs.Making.{value-exact}
use Rattle.pv_program.proofs.Slots.{value_beyond}
use Rattle.pv_program.proofs.block.value_number.Goals as goal

pub returns : goal.returns
returns c = record {
  is = λ source is.
      value-exact source (sized_project c.args.context.now.sizes.now) (block_in c.args.context.now) (block_tree c.block.result.now)
      c.of_activation-n.result is.sizes c.block.ensures c.of_activation-n.ensures (omega arith);
  few = omega arith;
  room = λ source is h. refl;
}

pub returns-then-n-ge-BEYOND-clause-room : goal.returns-then-n-ge-BEYOND-clause-room
returns-then-n-ge-BEYOND-clause-room c = λ source is h.
    absurd (value_beyond c.args.context.now source c.of_activation-n.result (block_tree c.block.result.now) is h c.block.ensures
    c.of_activation-n.ensures (omega arith))
