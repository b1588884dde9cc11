use Rattle.std.proofs.Common.{[], ◌∷◌}
use Rattle.pv_ll.specs.declared.table.Symbol.TheVariants.{Name}
use Rattle.pv_ll.specs.declared.turn.Place.TheVariants.{Of}
use Rattle.pv_ll.specs.Reading.{places_of}
use Rattle.pv_ll.specs.Ways.{load, Leads}
use Rattle.pv_ll.proofs.ways.way_by.Given as goal

abbrev pub decreases-loop-places : goal.decreases-loop-places
decreases-loop-places l = load l.language (places_of l.places)

abbrev pub invariant-loop-places : goal.invariant-loop-places
invariant-loop-places l = Leads l.language l.acts l.token (Of (Name l.name) ∷ []) (places_of l.places)
