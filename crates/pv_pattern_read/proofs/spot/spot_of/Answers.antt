use Rattle.std.proofs.Common.{◌≡◌, IfOk, sym, subst}
use Rattle.std.proofs.lemmas.Result.{IfOk-weaker}
use Rattle.pv_tree.specs.Tree.{BlockTree}
use Rattle.pv_tree.specs.View.{operand_tree}
use Rattle.pv_mean.specs.Endings.{got}
use Rattle.pv_mean.specs.Values.{locate}
use Rattle.pv_eval.specs.Operands.{spot_of}
use Rattle.pv_eval.specs.Means.{activation}
use Rattle.pv_resolve.specs.Contexts.{block_in}
use Rattle.pv_resolve.specs.Rooms.{HasRoom}
use Rattle.pv_pattern.specs.Reads.{bare}
use Rattle.pv_pattern_read.proofs.Wanted.{same_readable, in_block}
use Rattle.pv_pattern_read.proofs.spot.spot_of.Goals as goal

pub located-requires : goal.located-requires
located-requires c =
    let h = c.requires in
    let block = block_in c.args.context.now in
    let o = operand_tree c.args.operand.now in
    record {
      source = h.source;
      block = block;
      operand = o;
      is = c.in-Ok.ensures.locates h.source h.context;
      spot = h.has.spot;
      named = in_block c.args.context.now h.source block o h.has.spot h.at h.has.named;
    }

pub returns-in-Ok-clause-spot : goal.returns-in-Ok-clause-spot
returns-in-Ok-clause-spot c = λ source is entered.
    subst (λ (b : BlockTree). IfOk c.located.result
    (λ spot. locate source (activation b 0) bare (operand_tree c.args.operand.now) ≡ got (spot_of spot))) entered
    (c.located.ensures source (block_in c.args.context.now) (operand_tree c.args.operand.now) (c.in-Ok.ensures.locates source is))

pub returns-in-Ok-clause-readable : goal.returns-in-Ok-clause-readable
returns-in-Ok-clause-readable c =
    let h = c.requires in
    let block = block_in c.args.context.now in
    let o = operand_tree c.args.operand.now in
    IfOk-weaker c.located.result _ _
    (λ spot is. same_readable (spot_of spot) h.has.spot (locate h.source (activation block 0) bare o)
    (in_block c.args.context.now h.source block o h.has.spot h.at h.has.named) is h.has.readable)
    (c.located.ensures h.source block o (c.in-Ok.ensures.locates h.source h.context))

pub unreachable-requires : goal.unreachable-requires
unreachable-requires c =
    let h = c.requires in
    let room = subst (HasRoom h.source) (sym h.at) h.room in
    let memory = c.in-Err-TooLarge.ensures.room h.source h.context room h.has.fits in
    cc
