use Rattle.std.proofs.Common.{◌≡◌, ◌++◌, drop}
use Rattle.pv_eval.specs.Lowered.{ops_of}
use Rattle.pv_eval.proofs.lower.ops_of.Given as goal

-- behind the operations so far stand those of the rest
abbrev pub invariant-loop-k : goal.invariant-loop-k
invariant-loop-k l = record {
  same : l.ops.items ++ ops_of l.nodes l.k (drop l.k l.nodes) ≡ ops_of l.nodes 0 l.nodes;
}
