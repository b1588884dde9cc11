use Rattle.std.proofs.Common.{◌≡◌, length}
use Rattle.pv_lex.specs.Scans.{past_close}
use Rattle.pv_lex.proofs.scan.past_close.Given as goal

abbrev pub invariant-loop-rest : goal.invariant-loop-rest
invariant-loop-rest l = past_close l.rest ≡ past_close l.text

abbrev pub decreases-loop-rest : goal.decreases-loop-rest
decreases-loop-rest l = length l.rest
