-- What the text takes, by a pass over the locations, once through each loop. Loops begin and end where they do, the last that began ends
-- first; of one that ends it is known what a turn takes.
use Rattle.std.specs.Prelude.{ℕ, zero, suc, ◌+◌, ◌*◌, ◌-◌, List, [], ◌∷◌, ◌++◌, length, take, drop, replicate, slice_get, slice_index_or, slice_set, min, Bool, false, ◌==◌, cond, Option, Some, None}
use Rattle.pv_flow.specs.Automata.{Loop}
use Rattle.pv_unroll.specs.declared.sizing.Begun.{Begun}
use Rattle.pv_unroll.specs.Counts.{capped}

pub record Taking : Type 0 where
  pub turns : ℕ
  pub over : ℕ

pub record Sizing : Type 0 where
  -- the loops that hold the location, outermost first
  pub begun : List Begun
  -- how many loops have begun
  pub next : ℕ
  -- what stands before the location's first copy
  pub here : ℕ
  -- what stands before the first copy of each location
  pub firsts : List ℕ
  -- what a turn of each loop takes
  pub turns : List ℕ
  -- what stands before the first place where each loop's bound is gone over
  pub overs : List ℕ

abbrev pub unsized : ℕ → Sizing
unsized loops = record {
  begun = [];
  next = 0;
  here = 0;
  firsts = [];
  turns = replicate loops 0;
  overs = replicate loops 0;
}

-- ---- loops begin

abbrev pub loop_begun : Sizing → Sizing
loop_begun s = record {
  begun = s.begun ++ (record { range = s.next; start = s.here }) ∷ [];
  next = suc s.next;
  here = s.here;
  firsts = s.firsts;
  turns = s.turns;
  overs = s.overs;
}

-- those of these that begin at the location, up to one that doesn't
abbrev pub begun_at : ℕ → List Loop → Sizing → Sizing
begun_at at [] s = s
begun_at at (loop ∷ loops) s = cond (loop.first == at) (begun_at at loops (loop_begun s)) s

-- ---- the location

abbrev pub passed : ℕ → Sizing → Sizing
passed weight s = record {
  begun = s.begun;
  next = s.next;
  here = capped (s.here + weight);
  firsts = s.firsts ++ s.here ∷ [];
  turns = s.turns;
  overs = s.overs;
}

-- ---- loops end

abbrev pub top : List Begun → Option Begun
top begun = slice_get begun (length begun - 1)

abbrev pub ends_by : Option Loop → ℕ → Bool
ends_by None at = false
ends_by (Some loop) at = loop.last == at

abbrev pub ends_there : List Loop → ℕ → ℕ → Bool
ends_there loops range at = ends_by (slice_get loops range) at

abbrev pub if_ends : List Loop → ℕ → Option Begun → Option Begun
if_ends loops at None = None
if_ends loops at (Some b) = cond (ends_there loops b.range at) (Some b) None

-- the loop that began last, if it ends at the location
abbrev pub last_ending : List Loop → ℕ → Sizing → Option Begun
last_ending loops at s = if_ends loops at (top s.begun)

abbrev pub popped : Sizing → Sizing
popped s = record {
  begun = take (length s.begun - 1) s.begun;
  next = s.next;
  here = s.here;
  firsts = s.firsts;
  turns = s.turns;
  overs = s.overs;
}

-- what the first location of a loop takes once more
abbrev pub once : List ℕ → Loop → ℕ
once weights loop = cond loop.entry_turn 0 (slice_index_or weights loop.first 0)

-- where a loop's bound is gone over, behind all turns
abbrev pub over_behind : Taking → List ℕ → Loop → ℕ → ℕ → ℕ
over_behind t weights loop start turn = capped (capped (start + capped (t.turns * turn)) + once weights loop)

abbrev pub ended : Taking → List ℕ → Loop → Begun → Sizing → Sizing
ended t weights loop b s = record {
  begun = s.begun;
  next = s.next;
  here = capped (over_behind t weights loop b.start (s.here - b.start) + t.over);
  firsts = s.firsts;
  turns = slice_set s.turns b.range (s.here - b.start);
  overs = slice_set s.overs b.range (over_behind t weights loop b.start (s.here - b.start));
}

abbrev pub ended_by : Taking → List ℕ → Option Loop → Begun → Sizing → Sizing
ended_by t weights None b s = s
ended_by t weights (Some loop) b s = ended t weights loop b s

-- loops end as long as the last that began ends here, so many at most
abbrev pub ended_at : Taking → List ℕ → List Loop → ℕ → ℕ → Sizing → Sizing
ended_at t weights loops at zero s = s
ended_at t weights loops at (suc most) s = elim (last_ending loops at s) [
  | None ↦ s
  | Some b ↦ ended_at t weights loops at most (ended_by t weights (slice_get loops b.range) b (popped s))
]

-- ---- the pass

abbrev pub sized_location : Taking → List Loop → List ℕ → ℕ → ℕ → Sizing → Sizing
sized_location t loops weights at weight s =
    let inside : Sizing = passed weight (begun_at at (drop s.next loops) s) in
    ended_at t weights loops at (length inside.begun) inside

-- locations from `at` on, which take these weights
abbrev pub sized_from : Taking → List Loop → List ℕ → ℕ → List ℕ → Sizing → Sizing
sized_from t loops weights at [] s = s
sized_from t loops weights at (weight ∷ more) s = sized_from t loops weights (min (suc at) 4294967295) more (sized_location t loops weights at weight s)

abbrev pub sized : Taking → List Loop → List ℕ → Sizing
sized t loops weights = sized_from t loops weights 0 weights (unsized (length loops))
