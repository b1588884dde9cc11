use Rattle.std.proofs.Common.{true, false}
use Rattle.pv_ll.specs.declared.table.Symbol.TheVariants.{Name}
use Rattle.pv_ll.specs.declared.turn.Place.TheVariants.{Of}
use Rattle.pv_ll.proofs.Faults.{started, fault_at, fault_at_end, taken, takes_as, on_empty, whole, ends_as}
use Rattle.pv_ll.proofs.Leading.{no_ways}
use Rattle.pv_ll.proofs.machine.run.Goals as goal

pub loop-i-init : goal.loop-i-init
loop-i-init c = (
  on_empty c.args.language.now c.args.acts.now _ _ (Of (Name c.args.language.now.start)) _ _ c.new-places.ensures.items
      c.in_ok-push.ensures.items c.new-turns.ensures.items (started c.requires c.args.acts.now),
  no_ways c.args.language.now c.args.acts.now _ c.in_ok-ways.ensures,
)

pub returns-then-not-branch : goal.returns-then-not-branch
returns-then-not-branch c =
    fault_at c.args.language.now c.args.acts.now _ c.args.kinds.now c.loop-i.i _ c.loop-i-test.true c.loop-i.invariant.0
    (takes_as c.args.language.now c.args.acts.now _ _ _ _ _ false c.if-not-branch.true (c.in_ok-take_token.ensures.takes _ c.loop-i.invariant.0))

pub loop-i-preserved : goal.loop-i-preserved
loop-i-preserved c = (
  taken c.args.language.now c.args.acts.now _ c.args.kinds.now c.loop-i.i _ c.loop-i-test.true
      (takes_as c.args.language.now c.args.acts.now _ _ _ _ _ true c.if-not-branch.false (c.in_ok-take_token.ensures.takes _ c.loop-i.invariant.0)),
  c.in_ok-take_token.ensures.ways,
)

pub returns : goal.returns
returns c =
    fault_at_end c.args.language.now c.args.acts.now _ c.args.kinds.now c.loop-i.i _ c.loop-i-test.false c.loop-i.invariant.0
    (ends_as c.args.language.now c.args.acts.now _ _ _ false c.if-branch.false (c.in_ok-take_end.ensures _ c.loop-i.invariant.0))

pub returns-then-branch : goal.returns-then-branch
returns-then-branch c =
    whole c.args.language.now c.args.acts.now _ c.args.kinds.now c.loop-i.i c.loop-i-test.false
    (ends_as c.args.language.now c.args.acts.now _ _ _ true c.if-branch.true (c.in_ok-take_end.ensures _ c.loop-i.invariant.0))
