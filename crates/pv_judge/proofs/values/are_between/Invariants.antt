use Rattle.std.proofs.Common.{◌≡◌, drop}
use Rattle.pv_valid.specs.Walk.{are_between}
use Rattle.pv_judge.proofs.values.are_between.Given as goal

abbrev pub invariant-loop-n : goal.invariant-loop-n
invariant-loop-n l = record {
  left : are_between (drop l.n l.ranges) (drop l.n l.values) ≡ are_between l.ranges l.values;
}
