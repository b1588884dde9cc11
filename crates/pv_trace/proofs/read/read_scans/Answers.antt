use Rattle.std.proofs.Common.{rules}
use Rattle.pv_trace.proofs.Reading.{ended, over-ended, stuck-at, no-line, at-none}
use Rattle.pv_trace.proofs.read.read_scans.Goals as goal

pub returns-then-is_over : goal.returns-then-is_over
returns-then-is_over c = (
  c.loop-next.invariant.read.within,
  ended c.args.ranges.now c.args.text.now c.loop-next.rest.now c.loop-next.scans c.in-Some.next.now c.in-Some.after.now c.loop-next.invariant.read
      c.in-Some.ensures.found.1 (search rules) (search rules),
)

pub returns-else-is_over : goal.returns-else-is_over
returns-else-is_over c =
    over-ended c.args.ranges.now c.args.text.now c.loop-next.rest.now c.loop-next.scans c.loop-next.line c.in-Some.next.now c.in-Some.after.now c.loop-next.invariant.read
    c.in-Some.ensures.found.1 (search rules) (λ e. search rules) c.loop-next.invariant.number

pub returns-in_default-2 : goal.returns-in_default-2
returns-in_default-2 c =
    stuck-at c.args.ranges.now c.args.text.now c.loop-next.rest.now c.loop-next.scans c.loop-next.line c.in-Some.next.now c.in-Some.after.now c.loop-next.invariant.read
    c.in-Some.ensures.found.0 c.in-Some.ensures.found.1 (λ e. search rules)
    (at-none _ _ c.in_ok-values.field-0 c.in_default-2.is c.in_ok-values.ensures)
    c.loop-next.invariant.number

pub returns : goal.returns
returns c = no-line c.args.ranges.now c.args.text.now c.loop-next.rest.now c.loop-next.scans c.loop-next.line c.loop-next.invariant.read c.in_default.ensures.none c.loop-next.invariant.number
