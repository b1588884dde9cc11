use Rattle.std.proofs.Common.{take}
use Rattle.pv_ll.specs.Reading.{places_of, StandsFor}
use Rattle.pv_ll.specs.Ways.{AreWays}
use Rattle.pv_ll.proofs.machine.run.Given as goal

abbrev pub invariant-loop-i : goal.invariant-loop-i
invariant-loop-i l = StandsFor l.language l.acts l.turns.items (take l.i l.kinds) (places_of l.places) × AreWays l.language l.acts l.ways
