use Rattle.std.proofs.Common.{◌≡◌, take}
use Rattle.pv_log.specs.Propagation.{left_of}
use Rattle.pv_log.specs.Checking.{left_as}
use Rattle.pv_log.proofs.left.count_left.Given as goal

abbrev pub invariant-loop-lit : goal.invariant-loop-lit
invariant-loop-lit l = l.one ≡ left_as (left_of l.values.falses (take l.lit-index l.clause))
