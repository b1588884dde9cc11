-- The walk along the text. At a location loops are entered that begin there, a copy is laid, and then of the loops that end there the one
-- that was entered last has its next turn, from its first location on; or, where it has none left, it is left, its first location is
-- laid once more where entering starts no turn, and then where its bound is gone over.
use Rattle.std.specs.Prelude.{ℕ, zero, suc, ◌+◌, ◌-◌, List, [], ◌∷◌, ◌++◌, length, take, drop, slice_get, slice_index_or, min, Bool, true, ◌==◌, nat_lt, nat_le, cond, Option, Some, None}
use Rattle.pv_flow.specs.Automata.{Loop}
use Rattle.pv_unroll.specs.declared.lead.Open.{Open}
use Rattle.pv_unroll.specs.Counts.{capped}
use Rattle.pv_unroll.specs.Endings.{ending_at}
use Rattle.pv_unroll.specs.Sizing.{ends_by}
use Rattle.pv_unroll.specs.Leading.{Table}
use Rattle.pv_unroll.specs.Laying.{Laid, copy_laid, over_laid}

pub record Walk : Type 0 where
  pub nest : List Open
  pub next : ℕ
  pub at : ℕ

-- where the walk is, and what is laid
pub record State : Type 0 where
  pub walk : Walk
  pub laid : Laid

abbrev pub ends_here : List Loop → ℕ → ℕ → Bool
ends_here loops range at = ends_by (slice_get loops range) at

-- ---- entering loops

abbrev pub top : List Open → Option Open
top nest = slice_get nest (length nest - 1)

abbrev pub entered : Walk → Walk
entered w = record { nest = w.nest ++ (record { range = w.next; turn = 0 }) ∷ []; next = suc w.next; at = w.at }

abbrev pub entered_at : List Loop → Walk → Walk
entered_at [] w = w
entered_at (loop ∷ loops) w = cond (loop.first == w.at) (entered_at loops (entered w)) w

-- ---- a copy

abbrev pub laid_there : Table → List Open → ℕ → Laid → Laid
laid_there t nest at s = copy_laid t nest (slice_index_or t.heads at 0) (ending_at t.endings at) s

-- ---- turns

abbrev pub if_ends : List Loop → ℕ → Option Open → Option Open
if_ends loops at None = None
if_ends loops at (Some last) = cond (ends_here loops last.range at) (Some last) None

abbrev pub last_ending : List Loop → Walk → Option Open
last_ending loops w = if_ends loops w.at (top w.nest)

abbrev pub turned_on : Open → Open
turned_on last = record { range = last.range; turn = capped (last.turn + 1) }

abbrev pub without_top : List Open → List Open
without_top nest = take (length nest - 1) nest

abbrev pub left_behind : Walk → Walk
left_behind w = record { nest = without_top w.nest; next = w.next; at = w.at }

-- without the loop that was entered last it begins anew
abbrev pub back_to : Loop → Open → Walk → Walk
back_to loop last w = record { nest = w.nest ++ last ∷ []; next = suc last.range; at = loop.first }

abbrev pub last_laid : Table → Loop → Open → List Open → Laid → Laid
last_laid t loop last nest s = over_laid loop.place (cond loop.entry_turn s (laid_there t (nest ++ last ∷ []) loop.first s))

abbrev pub past_location : State → State
past_location s = record { walk = record { nest = s.walk.nest; next = s.walk.next; at = min (suc s.walk.at) 4294967295 }; laid = s.laid }

-- of the loop that was entered last: whether its next turn begins, and where the walk is then
abbrev pub goes_back : Table → Option Loop → Open → Bool
goes_back t None last = true
goes_back t (Some loop) last = nat_lt last.turn t.bound

abbrev pub after_turn : Table → Option Loop → Open → State → State
after_turn t None last s = s
after_turn t (Some loop) last s = cond (nat_lt last.turn t.bound)
    (record { walk = back_to loop last s.walk; laid = s.laid })
    (record { walk = s.walk; laid = last_laid t loop last s.walk.nest s.laid })

-- ---- on from a location: loops that end there, so many at most

abbrev pub turned_walk : Table → Option Loop → Open → State → (State → State) → State
turned_walk t None last s further = s
turned_walk t (Some loop) last s further = cond (nat_lt last.turn t.bound)
    (record { walk = back_to loop last s.walk; laid = s.laid })
    (further (record { walk = s.walk; laid = last_laid t loop last s.walk.nest s.laid }))

abbrev pub popped : State → State
popped s = record { walk = left_behind s.walk; laid = s.laid }

abbrev pub ended_by : Table → Option Open → State → (State → State) → State
ended_by t None s further = past_location s
ended_by t (Some last) s further = turned_walk t (slice_get t.loops last.range) (turned_on last) (popped s) further

abbrev pub ended_walk : Table → ℕ → State → State
ended_walk t zero s = past_location s
ended_walk t (suc most) s = ended_by t (last_ending t.loops s.walk) s (λ next. ended_walk t most next)

-- ---- the whole walk

abbrev pub entered_there : Table → State → State
entered_there t s = record { walk = entered_at (drop s.walk.next t.loops) s.walk; laid = s.laid }

abbrev pub laid_here : Table → State → State
laid_here t s = record { walk = s.walk; laid = laid_there t s.walk.nest s.walk.at s.laid }

abbrev pub stepped : Table → State → State
stepped t s = let inside : State = laid_here t (entered_there t s) in ended_walk t (length inside.walk.nest) inside

-- so many locations at most
abbrev pub walked_from : Table → ℕ → State → State
walked_from t zero s = s
walked_from t (suc steps) s = cond (nat_le t.locations s.walk.at) s (walked_from t steps (stepped t s))

abbrev pub walked : Table → ℕ → Laid → Laid
walked t steps s = (walked_from t steps (record { walk = record { nest = []; next = 0; at = 0 }; laid = s })).laid
