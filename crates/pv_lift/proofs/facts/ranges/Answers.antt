use Rattle.pv_lift.specs.Groups.{bounds_in}
use Rattle.pv_lift.proofs.Known.{range-more}
use Rattle.pv_lift.proofs.facts.ranges.Goals as goal

pub loop-cell-preserved : goal.loop-cell-preserved
loop-cell-preserved c =
    let l = c.loop-cell in
    record {
      ranges = range-more c.args.group c.args.cells.now c.cell-item.result l.cell-index l.ranges.items c.push_range.new.ranges.items
          (bounds_in c.args.group c.args.cells.now) c.loop-cell-test.true c.cell-item.is c.in_ok-push_range.ensures l.invariant.ranges;
    }
