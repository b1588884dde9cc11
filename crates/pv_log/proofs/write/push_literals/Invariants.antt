use Rattle.std.proofs.Common.{◌≡◌, ◌++◌, take}
use Rattle.pv_log.specs.LineText.{literals_text}
use Rattle.pv_log.proofs.write.push_literals.Given as goal

-- the literals so far are written
abbrev pub invariant-loop-lit : goal.invariant-loop-lit
invariant-loop-lit l = l.text.items ≡ l.initial.text.items ++ literals_text (take l.lit-index l.lits)
