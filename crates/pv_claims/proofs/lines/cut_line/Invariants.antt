use Rattle.std.proofs.Common.{take}
use Rattle.pv_claims.specs.Lines.{NoFeed}
use Rattle.pv_claims.proofs.lines.cut_line.Given as goal

-- no line feed so far
abbrev pub invariant-loop-at : goal.invariant-loop-at
invariant-loop-at l = NoFeed (take l.at l.text)
