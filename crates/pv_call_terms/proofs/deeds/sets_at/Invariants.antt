use Rattle.std.proofs.Common.{◌≡◌, map, take}
use Rattle.pv_call_terms.specs.Places.{place_of}
use Rattle.pv_call_terms.specs.Deeds.{set_at}
use Rattle.pv_call_terms.proofs.deeds.sets_at.Given as goal

abbrev pub invariant-loop-set : goal.invariant-loop-set
invariant-loop-set l = l.made.items ≡ map (set_at (place_of l.places) l.after) (take l.set-index l.sets)
