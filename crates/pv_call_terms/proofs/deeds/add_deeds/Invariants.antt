use Rattle.std.proofs.Common.{◌≡◌, ◌++◌, map, take}
use Rattle.pv_call_terms.specs.Places.{place_of}
use Rattle.pv_call_terms.specs.Deeds.{deed_seen, deed_at}
use Rattle.pv_call_terms.proofs.deeds.add_deeds.Given as goal

abbrev pub invariant-loop-deed : goal.invariant-loop-deed
invariant-loop-deed l = map deed_seen l.all.items
    ≡ map deed_seen l.fn.all.items ++ map (deed_at (place_of l.places) l.after) (map deed_seen (take l.deed-index l.deeds))
