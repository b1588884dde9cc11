use Rattle.std.proofs.Common.{◌≡◌, ℕ, subst, replicate}
use Rattle.std.specs.Prelude.{IfOk}
use Rattle.pv_bool_judged.specs.Bounds.{bit_bounds}
use Rattle.pv_bool_judged.proofs.case.taken_ranges.Goals as goal

pub returns : goal.returns
returns c =
    subst (λ (n : ℕ). IfOk c.ranges-2.result (λ ranges. ranges ≡ replicate n bit_bounds)) c.taken_count.ensures c.ranges-2.ensures
