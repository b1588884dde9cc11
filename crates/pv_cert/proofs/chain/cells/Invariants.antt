use Rattle.std.proofs.Common.{length}
use Rattle.pv_cert.proofs.Chains.{SoFar}
use Rattle.pv_cert.proofs.chain.cells.Given as goal

-- the cells so far and what is left make the text, in one way
abbrev pub invariant-loop-rest : goal.invariant-loop-rest
invariant-loop-rest l = SoFar l.text l.rest l.cells l.least

abbrev pub decreases-loop-rest : goal.decreases-loop-rest
decreases-loop-rest l = length l.rest
