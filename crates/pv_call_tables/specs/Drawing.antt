-- Edges before ends have numbers, in the code, and what they become.
use Rattle.std.specs.Prelude.{ℕ, List, [], ◌∷◌, ◌++◌, slice_get}
use Rattle.pv_flow.specs.declared.parts.Deed.{Deed}
use Rattle.pv_flow.specs.declared.parts.Edge.{Edge}
use Rattle.pv_flow.specs.declared.parts.TrapEnd.{TrapEnd}
use Rattle.pv_flow.specs.declared.parts.OverEnd.{OverEnd}
use Rattle.pv_flow.specs.Terms.{Term}
use Rattle.pv_flow.specs.View.{guard_of, sets_of}
use Rattle.pv_call_copies.specs.Inlined.{Aim as Plain_aim, Drawn as Plain_drawn, to_location, to_trap, to_over, location_by, next_by}
use Rattle.pv_call_tables.specs.declared.drawn.Aim.{Aim}
use Rattle.pv_call_tables.specs.declared.drawn.Aim.TheVariants as aim
use Rattle.pv_call_tables.specs.declared.drawn.Drawn.{Drawn}

abbrev pub aim_seen : Aim → Plain_aim
aim_seen (aim.Location l) = to_location l
aim_seen (aim.Trap kind place) = to_trap kind place
aim_seen (aim.Over place) = to_over place

-- by tables of terms and deeds
abbrev pub drawn_seen : List Term → List Deed → Drawn → Plain_drawn
drawn_seen terms deeds d = record {
  from = d.from;
  aim = aim_seen d.aim;
  guard = guard_of terms (slice_get deeds d.deed);
  sets = sets_of terms (slice_get deeds d.deed);
}

abbrev pub trap_by : Aim → ℕ → List TrapEnd
trap_by (aim.Location l) next = []
trap_by (aim.Trap kind place) next = record { location = next; kind = kind; place = place } ∷ []
trap_by (aim.Over place) next = []

abbrev pub over_by : Aim → ℕ → List OverEnd
over_by (aim.Location l) next = []
over_by (aim.Trap kind place) next = []
over_by (aim.Over place) next = record { location = next; place = place } ∷ []

-- ends are numbered from `next` on
abbrev pub edges_by : ℕ → List Drawn → List Edge
edges_by next [] = []
edges_by next (d ∷ ds) =
    record { from = d.from; to = location_by (aim_seen d.aim) next; deed = d.deed } ∷ edges_by (next_by (aim_seen d.aim) next) ds

abbrev pub traps_by : ℕ → List Drawn → List TrapEnd
traps_by next [] = []
traps_by next (d ∷ ds) = trap_by d.aim next ++ traps_by (next_by (aim_seen d.aim) next) ds

abbrev pub overs_by : ℕ → List Drawn → List OverEnd
overs_by next [] = []
overs_by next (d ∷ ds) = over_by d.aim next ++ overs_by (next_by (aim_seen d.aim) next) ds

-- the number after the last end
abbrev pub next_after : ℕ → List Drawn → ℕ
next_after next [] = next
next_after next (d ∷ ds) = next_after (next_by (aim_seen d.aim) next) ds
