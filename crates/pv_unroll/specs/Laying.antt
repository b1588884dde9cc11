-- What is laid of a copy: its edges, each to where it leads in this turn, a location for each that leads to a trap, and where a bound is
-- gone over.
use Rattle.std.specs.Prelude.{ℕ, zero, suc, ◌+◌, List, [], ◌∷◌, ◌++◌, length, slice_get, slice_index_or, min, Option, Some, None}
use Rattle.pv_place.specs.declared.place.Place.{Place}
use Rattle.pv_place.specs.declared.trap.TrapKind.{TrapKind}
use Rattle.pv_flow.specs.declared.parts.Edge.{Edge}
use Rattle.pv_flow.specs.declared.parts.TrapEnd.{TrapEnd}
use Rattle.pv_flow.specs.declared.parts.OverEnd.{OverEnd}
use Rattle.pv_unroll.specs.declared.endings.Ending.{Ending}
use Rattle.pv_unroll.specs.declared.endings.Ending.TheVariants.{Goes, Done, Trapped, Gone}
use Rattle.pv_unroll.specs.declared.lead.Open.{Open}
use Rattle.pv_unroll.specs.declared.lead.Way.{Way}
use Rattle.pv_unroll.specs.declared.lead.Lead.{Lead}
use Rattle.pv_unroll.specs.declared.lead.Lead.TheVariants.{On, Over}
use Rattle.pv_unroll.specs.Counts.{capped}
use Rattle.pv_unroll.specs.Endings.{ending_at}
use Rattle.pv_unroll.specs.Leading.{Table, lead_from, turning_at}

pub record Laid : Type 0 where
  pub edges : List Edge
  pub traps : List TrapEnd
  pub overs : List OverEnd
  -- the number of the next copy
  pub here : ℕ
  -- that of the location where a scan is done
  pub done : ℕ

abbrev pub narrow : ℕ → ℕ
narrow n = min n 4294967295

-- ---- where a copy of an edge leads

abbrev pub trap_number : Laid → ℕ
trap_number s = capped (capped (s.done + 1) + length s.traps)

abbrev pub trap_laid : TrapKind → Place → Laid → Laid
trap_laid kind place s = record {
  edges = s.edges;
  traps = s.traps ++ (record { location = narrow (trap_number s); kind = kind; place = place }) ∷ [];
  overs = s.overs;
  here = s.here;
  done = s.done;
}

-- by what the location ends to which it leads
abbrev pub led_by : Ending → ℕ → Laid → ℕ
led_by Goes to s = to
led_by Done to s = s.done
led_by (Trapped kind place) to s = trap_number s
led_by (Gone place) to s = to

abbrev pub laid_by : Ending → Laid → Laid
laid_by Goes s = s
laid_by Done s = s
laid_by (Trapped kind place) s = trap_laid kind place s
laid_by (Gone place) s = s

abbrev pub led_to : Lead → Ending → Laid → ℕ
led_to (On to) ending s = led_by ending to s
led_to (Over to) ending s = to

abbrev pub laid_to : Lead → Ending → Laid → Laid
laid_to (On to) ending s = laid_by ending s
laid_to (Over to) ending s = s

abbrev pub led : Table → List Open → Way → Laid → ℕ
led t nest way s = led_to (lead_from t nest way 0) (ending_at t.endings way.to) s

abbrev pub led_laid : Table → List Open → Way → Laid → Laid
led_laid t nest way s = laid_to (lead_from t nest way 0) (ending_at t.endings way.to) s

-- ---- edges, copies, where bounds are gone over

abbrev pub edge_put : Edge → Laid → Laid
edge_put edge s = record { edges = s.edges ++ edge ∷ []; traps = s.traps; overs = s.overs; here = s.here; done = s.done }

abbrev pub way_in : Table → ℕ → Edge → Way
way_in t number edge = record { from = edge.from; to = edge.to; turning = turning_at t.turned number }

abbrev pub edge_laid : Table → List Open → ℕ → Edge → Laid → Laid
edge_laid t nest number edge s =
    edge_put (record { from = narrow s.here; to = narrow (led t nest (way_in t number edge) s); deed = edge.deed })
    (led_laid t nest (way_in t number edge) s)

abbrev pub one_laid_by : Table → List Open → ℕ → Option Edge → Laid → Laid
one_laid_by t nest number None s = s
one_laid_by t nest number (Some edge) s = edge_laid t nest number edge s

abbrev pub one_laid : Table → List Open → ℕ → Laid → Laid
one_laid t nest number s = one_laid_by t nest number (slice_get t.edges number) s

-- the edges of a chain from this one on, at most so many; numbers are one more
abbrev pub edges_laid : Table → List Open → ℕ → ℕ → Laid → Laid
edges_laid t nest zero left s = s
edges_laid t nest (suc most) zero s = s
edges_laid t nest (suc most) (suc number) s = edges_laid t nest most (slice_index_or t.nexts number 0) (one_laid t nest number s)

abbrev pub over_put : Place → Laid → Laid
over_put place s = record {
  edges = s.edges;
  traps = s.traps;
  overs = s.overs ++ (record { location = narrow s.here; place = place }) ∷ [];
  here = s.here;
  done = s.done;
}

abbrev pub moved_on : Laid → Laid
moved_on s = record { edges = s.edges; traps = s.traps; overs = s.overs; here = capped (s.here + 1); done = s.done }

abbrev pub over_laid : Place → Laid → Laid
over_laid place s = moved_on (over_put place s)

abbrev pub copy_laid : Table → List Open → ℕ → Ending → Laid → Laid
copy_laid t nest head Goes s = moved_on (edges_laid t nest (length t.edges) head s)
copy_laid t nest head Done s = s
copy_laid t nest head (Trapped kind place) s = s
copy_laid t nest head (Gone place) s = moved_on (edges_laid t nest (length t.edges) head (over_put place s))
