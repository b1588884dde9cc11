use Rattle.std.proofs.Common.{◌≡◌, map, take}
use Rattle.pv_unroll.specs.Endings.{weight_of}
use Rattle.pv_unroll.proofs.endings.weights.Given as goal

-- those so far
abbrev pub invariant-loop-ending : goal.invariant-loop-ending
invariant-loop-ending l = l.found.items ≡ map weight_of (take l.ending-index l.endings)
