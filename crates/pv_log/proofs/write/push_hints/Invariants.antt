use Rattle.std.proofs.Common.{◌≡◌, ◌++◌, take}
use Rattle.pv_log.specs.LineText.{hints_text}
use Rattle.pv_log.proofs.write.push_hints.Given as goal

-- the hints so far are written
abbrev pub invariant-loop-hint : goal.invariant-loop-hint
invariant-loop-hint l = l.text.items ≡ l.initial.text.items ++ hints_text (take l.hint-index l.hints)
