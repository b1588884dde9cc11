use Rattle.std.proofs.Common.{ap, reverse}
use Rattle.pv_flow.proofs.WindowLaws.{sweep_begins, sweep_goes_on, sweep_stops, sweep_ends}
use Rattle.pv_flow.proofs.windows.sweep.Goals as goal

pub loop-range-init : goal.loop-range-init
loop-range-init c = sweep_begins c.args.loops.now _ _ (ap reverse c.requires.stack) c.requires.windows

pub loop-range-preserved : goal.loop-range-preserved
loop-range-preserved c =
    sweep_goes_on c.args.loops.now c.loop-range.range-index c.range-item.result _ _ _ c.loop-range-test.true c.range-item.is c.if-not-branch.false
    (c.in_ok-enter.ensures _ c.loop-range.invariant)

pub returns-then-not-branch : goal.returns-then-not-branch
returns-then-not-branch c =
    sweep_stops c.args.loops.now c.loop-range.range-index c.range-item.result _ _ _ c.loop-range-test.true c.range-item.is c.if-not-branch.true
    (c.in_ok-enter.ensures _ c.loop-range.invariant)

pub returns : goal.returns
returns c = sweep_ends c.args.loops.now c.loop-range.range-index _ _ c.loop-range-test.false c.loop-range.invariant
