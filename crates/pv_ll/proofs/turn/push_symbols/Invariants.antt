use Rattle.std.proofs.Common.{◌≡◌, ◌++◌, ◌+◌, ◌-◌, ◌≤◌, map, length, drop, vec_len, vec_capacity}
use Rattle.pv_ll.specs.declared.turn.Place.TheVariants.{Of}
use Rattle.pv_ll.specs.Reading.{places_of}
use Rattle.pv_ll.proofs.turn.push_symbols.Given as goal

-- the last i symbols are there, and there is room for the others
abbrev pub invariant-loop-i : goal.invariant-loop-i
invariant-loop-i l =
    (places_of l.places ≡ map (λ s. Of s) (drop (length l.body - l.i) l.body) ++ places_of l.initial.places)
    × (vec_len l.places + (length l.body - l.i) ≤ vec_capacity l.places)
