use Rattle.std.proofs.Common.{length}
use Rattle.pv_claims.proofs.ValueLaws.{SoFar}
use Rattle.pv_claims.proofs.values.values.Given as goal

-- the values so far and what is left make the text, in one way
abbrev pub invariant-loop-rest : goal.invariant-loop-rest
invariant-loop-rest l = SoFar l.text l.rest l.values

abbrev pub decreases-loop-rest : goal.decreases-loop-rest
decreases-loop-rest l = length l.rest
