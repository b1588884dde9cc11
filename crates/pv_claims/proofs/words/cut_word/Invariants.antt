use Rattle.std.proofs.Common.{take}
use Rattle.pv_claims.specs.Words.{NoBlank}
use Rattle.pv_claims.proofs.words.cut_word.Given as goal

-- no blank so far
abbrev pub invariant-loop-at : goal.invariant-loop-at
invariant-loop-at l = NoBlank (take l.at l.text)
