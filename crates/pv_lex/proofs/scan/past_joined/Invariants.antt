use Rattle.std.proofs.Common.{◌≡◌, length}
use Rattle.pv_lex.specs.Scans.{past_joined}
use Rattle.pv_lex.proofs.scan.past_joined.Given as goal

abbrev pub invariant-loop-class : goal.invariant-loop-class
invariant-loop-class l = past_joined l.class l.rest ≡ past_joined l.class l.text

abbrev pub decreases-loop-class : goal.decreases-loop-class
decreases-loop-class l = length l.rest
