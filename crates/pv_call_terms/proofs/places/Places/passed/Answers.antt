use Rattle.std.proofs.Common.{ℕ, ◌+◌, ◌++◌, ◌∷◌, [], ap, ◌∙◌}
use Rattle.pv_call_terms.specs.Places.{place_of}
use Rattle.pv_call_terms.proofs.Lying.{pushed_long, pushed_each}
use Rattle.pv_call_terms.proofs.places.Places.passed.Goals as goal

pub loop-x-preserved : goal.loop-x-preserved
loop-x-preserved c = record {
  long = pushed_long c.loop-x.made.items c.push.new.self.items c.loop-x.x c.place.result c.in_ok-push.ensures.items c.loop-x.invariant.long;
  each = pushed_each (λ (y : ℕ). place_of c.args.self.now (c.args.instance + y)) c.loop-x.made.items c.push.new.self.items c.loop-x.x
      (c.in_ok-push.ensures.items ∙ ap (λ (v : ℕ). c.loop-x.made.items ++ v ∷ []) c.place.ensures) c.loop-x.invariant.long
      c.loop-x.invariant.each;
}
