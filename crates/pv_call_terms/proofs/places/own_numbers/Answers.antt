use Rattle.std.proofs.Common.{ℕ}
use Rattle.pv_call_terms.proofs.Lying.{pushed_long, pushed_each}
use Rattle.pv_call_terms.proofs.places.own_numbers.Goals as goal

pub loop-x-preserved : goal.loop-x-preserved
loop-x-preserved c = record {
  long = pushed_long c.loop-x.made.items c.push.new.self.items c.loop-x.x c.loop-x.x c.in_ok-push.ensures.items c.loop-x.invariant.long;
  each = pushed_each (λ (y : ℕ). y) c.loop-x.made.items c.push.new.self.items c.loop-x.x c.in_ok-push.ensures.items c.loop-x.invariant.long
      c.loop-x.invariant.each;
}
