use Rattle.std.proofs.Common.{[], map, take, subst, sym}
use Rattle.pv_rules_expr.specs.Nearest.{Nears}
use Rattle.pv_rules_expr.specs.Members.{IsLaterBehind}
use Rattle.pv_rules_decl.specs.Doubles.{AreMet, name_of_block}
use Rattle.pv_rules_expr.proofs.ForCallers.{taken_one}
use Rattle.pv_rules_decl.proofs.Doubling.{near_later}
use Rattle.pv_rules_decl.proofs.doubled.doubled_blocks.Goals as goal

pub loop-block-preserved : goal.loop-block-preserved
loop-block-preserved c =
    let one = taken_one name_of_block c.args.blocks.now c.loop-block.block-index c.block-item.result c.loop-block-test.true c.block-item.is in
    let before = map name_of_block (take c.loop-block.block-index c.args.blocks.now) in record {
      met = subst (AreMet c.meet.new.self) (sym one) (c.in_ok-nearest.ensures.met before c.loop-block.invariant.met);
      near = subst (λ l. Nears (IsLaterBehind [] l) c.args.nearest c.in_ok-nearest.nearest) (sym one)
          (near_later c.loop-block.names before (name_of_block c.block-item.result) c.args.nearest c.loop-block.nearest c.in_ok-nearest.nearest c.loop-block.invariant.met
          c.loop-block.invariant.near c.in_ok-nearest.ensures.near);
    }
