use Rattle.std.proofs.Common.{◌≡◌, true}
use Rattle.std.specs.Option.{is_none}
use Rattle.pv_rows_tests.proofs.solved.add_chain.Given as goal

abbrev pub invariant-loop-i : goal.invariant-loop-i
invariant-loop-i l = is_none l.to.outcome ≡ true

abbrev pub invariant-loop-k : goal.invariant-loop-k
invariant-loop-k l = is_none l.to.outcome ≡ true
