use Rattle.std.proofs.Common.{take}
use Rattle.pv_log.specs.Filing.{IsFiled}
use Rattle.pv_log.proofs.newness.file_formula.Given as goal

abbrev pub invariant-loop-n : goal.invariant-loop-n
invariant-loop-n g l = IsFiled (g.F.ClauseView.variables l.f) l.filing (take l.n (g.F.ClauseView.clauses l.f))
