use Rattle.std.proofs.Common.{map, take, refl}
use Rattle.pv_tree.specs.Rules.Arguments.{words_of_args}
use Rattle.pv_tree.specs.View.{arg_tree}
use Rattle.pv_rules_code.proofs.Meeting.{met_more, later_more}
use Rattle.pv_rules_code.proofs.given.later_word.Goals as goal

pub loop-arg-preserved : goal.loop-arg-preserved
loop-arg-preserved c =
    let before = words_of_args (map arg_tree (take c.loop-arg.arg-index c.args.args.now)) in
    record {
      met = met_more arg_tree c.args.args.now c.loop-arg.arg-index _ c.arg-item.result c.loop-arg-test.true c.arg-item.is refl c.meet_word.new.table
          (c.in_ok-best.ensures.met before c.loop-arg.invariant.met);
      left = later_more arg_tree c.args.args.now c.loop-arg.arg-index _ c.arg-item.result c.loop-arg-test.true c.arg-item.is refl
          c.loop-arg.best c.in_ok-best.best _ (c.in_ok-best.ensures.near before c.loop-arg.invariant.met) c.loop-arg.invariant.left;
    }
