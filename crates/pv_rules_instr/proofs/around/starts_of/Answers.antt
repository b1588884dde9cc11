use Rattle.std.proofs.Common.{◌+◌, refl, reverse}
use Rattle.pv_rules_instr.proofs.StackLaws.{met_start, more_starts}
use Rattle.pv_rules_instr.proofs.around.starts_of.Goals as goal

pub loop-n-preserved : goal.loop-n-preserved
loop-n-preserved c =
    record {
      met = met_start c.args.lasts.now c.loop-n.n (c.loop-n.n + 1) (reverse c.loop-n.met.items) (reverse c.meet_start.new.met.items) c.loop-n-test.true refl
          c.in_ok-start.ensures.met c.loop-n.invariant.met;
      starts = more_starts c.args.lasts.now c.loop-n.starts.items c.push.new.self.items c.loop-n.n (c.loop-n.n + 1) (reverse c.loop-n.met.items)
          c.in_ok-start.start refl c.in_ok-push.ensures.items c.loop-n.invariant.met c.in_ok-start.ensures.top c.loop-n.invariant.starts;
    }
