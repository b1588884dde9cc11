use Rattle.std.proofs.Common.{◌≡◌, map, take}
use Rattle.pv_inline.specs.Seen.{copy_seen}
use Rattle.pv_inline.specs.Walking.{turn}
use Rattle.pv_inline.proofs.copying.turns.Given as goal

abbrev pub invariant-loop-e : goal.invariant-loop-e
invariant-loop-e l = l.made.items ≡ map (turn (copy_seen l.copy)) (take l.e-index l.numbers)
