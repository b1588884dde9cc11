use Rattle.std.proofs.Common.{List, ℕ, length, sym, subst, arith}
use Rattle.pv_watch.specs.Trail.{Rise}
use Rattle.pv_solver.proofs.Backs.{start-below}
use Rattle.pv_solver.proofs.search.quiet_starts.Goals as goal

pub look_at-requires-clause-there : goal.look_at-requires-clause-there
look_at-requires-clause-there c =
    let n = length c.args.trail.now.falses in
    let below = start-below c.starts-start-items.result.now n c.loop-start.start-index (subst (λ (ss : List ℕ). Rise ss n)
    (sym c.starts-start-items.ensures.value) c.starts-start-items.ensures.rise) c.loop-start-test.true in
    omega arith
