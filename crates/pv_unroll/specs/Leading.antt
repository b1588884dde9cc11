-- Where a copy of an edge leads: loop by loop, outermost first, by the turn to which it leads; or past the last turn of one.
use Rattle.std.specs.Prelude.{ℕ, zero, suc, ◌+◌, ◌*◌, List, [], ◌∷◌, slice_get, slice_index_or, Bool, false, not, ◌&&◌, ◌==◌, nat_le, cond, Option, Some, None}
use Rattle.pv_flow.specs.declared.parts.Edge.{Edge}
use Rattle.pv_flow.specs.Automata.{Loop, holds}
use Rattle.pv_unroll.specs.declared.endings.Ending.{Ending}
use Rattle.pv_unroll.specs.declared.lead.Open.{Open}
use Rattle.pv_unroll.specs.declared.lead.Way.{Way}
use Rattle.pv_unroll.specs.declared.lead.Lead.{Lead}
use Rattle.pv_unroll.specs.declared.lead.Lead.TheVariants.{On, Over}
use Rattle.pv_unroll.specs.Counts.{capped}

pub record Table : Type 0 where
  pub loops : List Loop
  pub edges : List Edge
  pub endings : List Ending
  pub firsts : List ℕ
  pub turns : List ℕ
  pub overs : List ℕ
  pub turned : List ℕ
  pub heads : List ℕ
  pub nexts : List ℕ
  pub bound : ℕ
  pub locations : ℕ

abbrev pub is_of : Option ℕ → ℕ → Bool
is_of None range = false
is_of (Some turning) range = turning == range

abbrev pub limit_of : Loop → ℕ → ℕ → ℕ
limit_of loop from bound = cond (not loop.entry_turn && (loop.first == from)) (capped (bound + 1)) bound

abbrev pub is_past : Loop → Open → Way → ℕ → Bool
is_past loop around way bound = is_of way.turning around.range && nat_le (limit_of loop way.from bound) (capped (around.turn + 1))

abbrev pub goes_round : Loop → Open → Way → Bool
goes_round loop around way = cond loop.entry_turn (is_of way.turning around.range) (loop.first == way.to)

abbrev pub next_turn : Loop → Open → Way → ℕ
next_turn loop around way = cond (goes_round loop around way) (capped (around.turn + 1)) around.turn

abbrev pub on_top : Table → Loop → Open → Way → ℕ
on_top t loop around way = cond (holds loop way.to) (capped (next_turn loop around way * slice_index_or t.turns around.range 0)) 0

-- past a loop around it: what its turns take comes on top, or its bound is gone over
abbrev pub through : Table → Option Loop → Open → Way → ℕ → Lead
through t None around way sum = On sum
through t (Some loop) around way sum = cond (is_past loop around way t.bound)
    (Over (capped (slice_index_or t.overs around.range 0 + sum)))
    (On (capped (sum + on_top t loop around way)))

-- on with a sum
abbrev pub on_with : Lead → (ℕ → Lead) → Lead
on_with (On sum) further = further sum
on_with (Over place) further = Over place

-- what the loops before these take comes on top
abbrev pub lead_from : Table → List Open → Way → ℕ → Lead
lead_from t [] way sum = On (capped (slice_index_or t.firsts way.to 0 + sum))
lead_from t (around ∷ nest) way sum = on_with (through t (slice_get t.loops around.range) around way sum) (λ s. lead_from t nest way s)

abbrev pub one_less : ℕ → Option ℕ
one_less zero = None
one_less (suc range) = Some range

abbrev pub turning_at : List ℕ → ℕ → Option ℕ
turning_at turned number = one_less (slice_index_or turned number 0)
