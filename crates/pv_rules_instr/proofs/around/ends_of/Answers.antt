use Rattle.std.proofs.Common.{◌≡◌, ◌-◌, ◌<◌, suc, length, reverse, refl, arith}
use Rattle.std.specs.Prelude.{slice_set}
use Rattle.pv_rules_instr.proofs.StackLaws.{met_end, more_ends, late_tops}
use Rattle.pv_rules_instr.proofs.around.ends_of.Goals as goal

pub loop-n-preserved : goal.loop-n-preserved
loop-n-preserved c =
    let more = c.loop-n-test.true in
    let short = c.loop-n.invariant.ends.short in
    let lt : c.loop-n.n - 1 < length c.args.firsts.now = omega (arith, more, short) in
    let is : c.loop-n.n ≡ suc (c.loop-n.n - 1) = omega (arith, more) in
    let met = met_end c.args.firsts.now (c.loop-n.n - 1) c.loop-n.n (reverse c.loop-n.met.items) (reverse c.meet_end.new.met.items) lt is
    c.in_ok-ends-2.ensures.met c.loop-n.invariant.met in
    record {
      met = met;
      ends = more_ends c.args.firsts.now c.loop-n.ends.items (slice_set c.loop-n.ends.items (c.loop-n.n - 1) c.in_ok-ends-2.field-0) (c.loop-n.n - 1)
          c.loop-n.n (reverse c.meet_end.new.met.items) c.in_ok-ends-2.field-0 lt is refl met c.in_ok-ends-2.ensures.top
          (late_tops c.args.firsts.now (c.loop-n.n - 1) (reverse c.loop-n.met.items) (reverse c.meet_end.new.met.items) c.in_ok-ends-2.ensures.met)
          c.loop-n.invariant.ends;
    }
