use Rattle.std.proofs.Common.{◌≡◌, drop}
use Rattle.pv_unroll.specs.Turning.{marked}
use Rattle.pv_unroll.proofs.turning.mark.Given as goal

abbrev pub invariant-loop-turn : goal.invariant-loop-turn
invariant-loop-turn l = marked l.turned l.number (drop l.turn-index l.turns) ≡ marked l.fn.turned l.number l.turns
