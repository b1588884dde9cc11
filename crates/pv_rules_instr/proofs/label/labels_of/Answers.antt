use Rattle.std.proofs.Common.{map, take, refl}
use Rattle.pv_tree.specs.View.{instr_tree}
use Rattle.pv_rules_instr.proofs.Meetings.{met_next, later_next, so_many}
use Rattle.pv_rules_instr.proofs.label.labels_of.Goals as goal

pub loop-number-preserved : goal.loop-number-preserved
loop-number-preserved c =
    let before = map instr_tree (take c.loop-number.number c.args.list.now) in
    record {
      met = met_next instr_tree c.args.list.now c.loop-number.number _ c.index-list-number.result c.loop-number-test.true c.index-list-number.is refl
          c.meet.new.table (c.in_ok-doubled.ensures.met before c.loop-number.invariant.met (so_many instr_tree c.args.list.now c.loop-number.number _
          c.index-list-number.result c.loop-number-test.true c.index-list-number.is refl));
      left = later_next instr_tree c.args.list.now c.loop-number.number _ c.index-list-number.result c.loop-number-test.true c.index-list-number.is refl
          c.loop-number.doubled c.in_ok-doubled.doubled _ (c.in_ok-doubled.ensures.near before c.loop-number.invariant.met) c.loop-number.invariant.left;
    }
