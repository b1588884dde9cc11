use Rattle.std.proofs.Common.{◌≡◌, ◌+◌, drop}
use Rattle.pv_judge.specs.Steps.{in_range}
use Rattle.pv_judge.proofs.trace.in_range.Given as goal

abbrev pub invariant-loop-n : goal.invariant-loop-n
invariant-loop-n l = record {
  left : l.n + in_range l.ranges (drop l.n l.inputs) ≡ in_range l.ranges l.inputs;
}
