use Rattle.std.proofs.Common.{◌≡◌, ◌+◌, length}
use Rattle.pv_lex.specs.Values.{time_behind}
use Rattle.pv_lex.proofs.value.time_value.Given as goal

abbrev pub invariant-loop-rest : goal.invariant-loop-rest
invariant-loop-rest l = l.clock.sum + time_behind l.clock.number l.rest ≡ time_behind 0 l.body

abbrev pub decreases-loop-rest : goal.decreases-loop-rest
decreases-loop-rest l = length l.rest
