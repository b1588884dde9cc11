use Rattle.std.proofs.Common.{ℕ, List}
use Rattle.pv_ll.specs.Reading.{places_of, Stands}
use Rattle.pv_ll.specs.Ways.{load, AreWays}
use Rattle.pv_ll.proofs.machine.expand.Given as goal

abbrev pub decreases-loop-place : goal.decreases-loop-place
decreases-loop-place l = load l.language (places_of l.places)

abbrev pub invariant-loop-place : goal.invariant-loop-place
invariant-loop-place l =
    ((read : List ℕ) → Stands l.language l.acts l.initial.turns.items read l.token (places_of l.initial.places)
    → Stands l.language l.acts l.turns.items read l.token (places_of l.places)) × AreWays l.language l.acts l.ways
