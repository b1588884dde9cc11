-- The automaton in which each call edge is replaced by a copy of the called block. Its text has the locations of a block in their order,
-- and after one where a call edge begins those of the called block, that where it is done too. Locations where a scan traps or has gone
-- over a bound stand after the text: each edge to one leads to a location of its own, in the order of the edges. So none lies in a
-- loop's range, whatever calls stand there. Edges stand in the order of the locations where they begin.
use Rattle.std.specs.Prelude.{ℕ, zero, suc, ◌+◌, pos, List, [], ◌∷◌, ◌++◌, map, length, take, drop, slice_get, ◌==◌, cond, Option, Some, None}
use Rattle.pv_place.specs.declared.place.Place.{Place}
use Rattle.pv_place.specs.declared.trap.TrapKind.{TrapKind}
use Rattle.pv_place.specs.declared.role.Role.TheVariants.{Brief}
use Rattle.pv_flow.specs.Terms.{Term}
use Rattle.pv_flow.specs.Automata.{Variable, Set, Edge, CallEdge, Loop, TrapEnd, OverEnd, Parts, edges_from}
use Rattle.pv_flow.specs.Runs.{End, done, trap, over, end_at}
use Rattle.pv_flow.specs.Calls.{Blocks, block_at, Work, entry_work, Numbered, call_from, callee_work}
use Rattle.pv_call_copies.specs.Renaming.{renamed, renamed_sets, resets, true_term}
use Rattle.pv_call_copies.specs.Levels.{through}

-- ---- sizes

-- each call edge becomes an edge in, the edges of its block, and an edge out
abbrev pub size_by_calls : (ℕ → ℕ) → List CallEdge → ℕ
size_by_calls sizes [] = 0
size_by_calls sizes (call ∷ more) = (2 + sizes call.block) + size_by_calls sizes more

abbrev pub size_in : (ℕ → ℕ) → Option Parts → ℕ
size_in sizes None = 0
size_in sizes (Some p) = length p.edges + size_by_calls sizes p.calls

-- how many edges the block has once its calls are copied
abbrev pub inlined_size : Blocks → ℕ → ℕ
inlined_size blocks b = through 0 size_in blocks b

-- ---- variables

-- a block's own variable begins each call with 0
abbrev pub own_variable : Variable → Variable
own_variable v = record { ty = v.ty; role = Brief; start = pos 0; only = None }

abbrev pub added_by_calls : (ℕ → List Variable) → List CallEdge → List Variable
added_by_calls added [] = []
added_by_calls added (call ∷ more) = added call.block ++ added_by_calls added more

abbrev pub added_in : (ℕ → List Variable) → Option Parts → List Variable
added_in added None = []
added_in added (Some p) = map own_variable (drop (p.bound + p.shared) p.vars) ++ added_by_calls added p.calls

-- what a call of the block adds: its own variables, then those that its calls add
abbrev pub added : Blocks → ℕ → List Variable
added blocks b = through [] added_in blocks b

-- ---- locations

-- how much of the text a location takes, with so many locations of a called block after it
abbrev pub width_by : Option End → ℕ → ℕ
width_by None called = suc called
width_by (Some done) called = 1
width_by (Some (trap kind place)) called = 0
width_by (Some (over place)) called = 0

abbrev pub span_by : (ℕ → ℕ) → Option Numbered → ℕ
span_by spans None = 0
span_by spans (Some c) = spans c.call.block

-- how many locations of a called block stand after location l
abbrev pub called_at : (ℕ → ℕ) → Parts → ℕ → ℕ
called_at spans p l = span_by spans (call_from l 0 p.calls)

-- what the locations below l take
abbrev pub before : (ℕ → ℕ) → Parts → ℕ → ℕ
before spans p zero = 0
before spans p (suc l) = before spans p l + width_by (end_at p l) (called_at spans p l)

abbrev pub span_in : (ℕ → ℕ) → Option Parts → ℕ
span_in spans None = 0
span_in spans (Some p) = before spans p p.locations

-- how much of the text a copy of the block takes
abbrev pub span : Blocks → ℕ → ℕ
span blocks b = through 0 span_in blocks b

-- ---- bodies

-- where an edge of the copy leads
pub data Aim : Type 0 where
  to_location : ℕ → Aim
  to_trap : TrapKind → Place → Aim
  to_over : Place → Aim

-- the copy of a block: the block at work, where it begins in the text, and, of a called one, where it leads once it is done
pub record Body : Type 0 where
  pub work : Work
  pub start : ℕ
  pub out : Option Aim

abbrev pub entry_body : Parts → Body
entry_body p = record { work = entry_work p; start = 0; out = None }

-- where location l stands
abbrev pub number_in : Blocks → Body → ℕ → ℕ
number_in blocks body l = body.start + before (span blocks) body.work.parts l

abbrev pub aim_by : Option End → ℕ → Aim
aim_by None here = to_location here
aim_by (Some done) here = to_location here
aim_by (Some (trap kind place)) here = to_trap kind place
aim_by (Some (over place)) here = to_over place

-- of what leads to location l
abbrev pub aim_in : Blocks → Body → ℕ → Aim
aim_in blocks body l = aim_by (end_at body.work.parts l) (number_in blocks body l)

-- the copy of what a call edge from location l runs
abbrev pub callee_body : Blocks → Body → ℕ → Numbered → Parts → Body
callee_body blocks body l c p = record {
  work = callee_work blocks body.work c p;
  start = suc (number_in blocks body l);
  out = Some (aim_in blocks body c.call.to);
}

-- ---- edges

pub record Drawn : Type 0 where
  pub from : ℕ
  pub aim : Aim
  pub guard : Term
  pub sets : List Set

abbrev pub drawn_edge : Blocks → Body → Edge → Drawn
drawn_edge blocks body edge = record {
  from = number_in blocks body edge.from;
  aim = aim_in blocks body edge.to;
  guard = renamed body.work.place edge.guard;
  sets = renamed_sets body.work.place edge.sets;
}

-- from the location of this number into the called block
abbrev pub edge_in : Blocks → Body → ℕ → Drawn
edge_in blocks callee here = record { from = here; aim = aim_in blocks callee 0; guard = true_term; sets = resets callee.work }

-- from where the block is done to where the call edge led
abbrev pub edges_out : Option Aim → ℕ → List Drawn
edges_out None here = []
edges_out (Some aim) here = record { from = here; aim = aim; guard = true_term; sets = [] } ∷ []

-- with the edges of each called block's copy
abbrev pub drawn_call : Blocks → (ℕ → Body → List Drawn) → Body → ℕ → Numbered → Option Parts → List Drawn
drawn_call blocks inner body l c None = []
drawn_call blocks inner body l c (Some p) =
    edge_in blocks (callee_body blocks body l c p) (number_in blocks body l) ∷ inner c.call.block (callee_body blocks body l c p)

abbrev pub drawn_from : Blocks → (ℕ → Body → List Drawn) → Body → ℕ → Option Numbered → List Drawn
drawn_from blocks inner body l None = map (drawn_edge blocks body) (edges_from l body.work.parts.edges)
drawn_from blocks inner body l (Some c) = drawn_call blocks inner body l c (block_at blocks c.call.block)

abbrev pub drawn_by : Blocks → (ℕ → Body → List Drawn) → Body → ℕ → Option End → List Drawn
drawn_by blocks inner body l None = drawn_from blocks inner body l (call_from l 0 body.work.parts.calls)
drawn_by blocks inner body l (Some done) = edges_out body.out (number_in blocks body l)
drawn_by blocks inner body l (Some (trap kind place)) = []
drawn_by blocks inner body l (Some (over place)) = []

-- of the locations below l, with what stands after them
abbrev pub drawn_below : Blocks → (ℕ → Body → List Drawn) → Body → ℕ → List Drawn
drawn_below blocks inner body zero = []
drawn_below blocks inner body (suc l) = drawn_below blocks inner body l ++ drawn_by blocks inner body l (end_at body.work.parts l)

abbrev pub drawn_in : Blocks → (ℕ → Body → List Drawn) → Option Parts → Body → List Drawn
drawn_in blocks inner None body = []
drawn_in blocks inner (Some p) body = drawn_below blocks inner body p.locations

-- of a copy of the block
abbrev pub drawn : Blocks → ℕ → Body → List Drawn
drawn blocks b = through {X = Body → List Drawn} (λ body. []) (drawn_in blocks) blocks b

-- how many edges of a copy stand before those of location l
abbrev pub drawn_before : Blocks → Body → ℕ → ℕ
drawn_before blocks body l = length (drawn_below blocks (drawn blocks) body l)

-- ---- loops

-- the number of the copy of edge e, where the body's edges are numbered from i on: after those of the locations before it, and those of
-- its location before it
abbrev pub turn_by : Blocks → Body → ℕ → ℕ → Option Edge → ℕ
turn_by blocks body i e None = 0
turn_by blocks body i e (Some edge) = i + drawn_before blocks body edge.from + length (edges_from edge.from (take e body.work.parts.edges))

abbrev pub turn_number : Blocks → Body → ℕ → ℕ → ℕ
turn_number blocks body i e = turn_by blocks body i e (slice_get body.work.parts.edges e)

-- its range has the copies of what is called in it
abbrev pub drawn_loop : Blocks → Body → ℕ → Loop → Loop
drawn_loop blocks body i loop = record {
  first = number_in blocks body loop.first;
  last = number_in blocks body loop.last + called_at (span blocks) body.work.parts loop.last;
  entry_turn = loop.entry_turn;
  turns = map (turn_number blocks body i) loop.turns;
  place = loop.place;
}

-- those that begin at location l
abbrev pub loops_from : ℕ → List Loop → List Loop
loops_from l [] = []
loops_from l (loop ∷ more) = cond (loop.first == l) (loop ∷ loops_from l more) (loops_from l more)

-- those of a called block's copy, whose edges are numbered from after the edge in
abbrev pub laid_callee : Blocks → (ℕ → Body → ℕ → List Loop) → Body → ℕ → ℕ → Numbered → Option Parts → List Loop
laid_callee blocks inner body i l c None = []
laid_callee blocks inner body i l c (Some p) = inner c.call.block (callee_body blocks body l c p) (suc (i + drawn_before blocks body l))

abbrev pub laid_call : Blocks → (ℕ → Body → ℕ → List Loop) → Body → ℕ → ℕ → Option Numbered → List Loop
laid_call blocks inner body i l None = []
laid_call blocks inner body i l (Some c) = laid_callee blocks inner body i l c (block_at blocks c.call.block)

abbrev pub laid_by : Blocks → (ℕ → Body → ℕ → List Loop) → Body → ℕ → ℕ → Option End → List Loop
laid_by blocks inner body i l None = laid_call blocks inner body i l (call_from l 0 body.work.parts.calls)
laid_by blocks inner body i l (Some end) = []

-- of the locations below l: those that begin there, and those of what stands after it
abbrev pub laid_below : Blocks → (ℕ → Body → ℕ → List Loop) → Body → ℕ → ℕ → List Loop
laid_below blocks inner body i zero = []
laid_below blocks inner body i (suc l) = laid_below blocks inner body i l
    ++ (map (drawn_loop blocks body i) (loops_from l body.work.parts.loops) ++ laid_by blocks inner body i l (end_at body.work.parts l))

abbrev pub laid_in : Blocks → (ℕ → Body → ℕ → List Loop) → Option Parts → Body → ℕ → List Loop
laid_in blocks inner None body i = []
laid_in blocks inner (Some p) body i = laid_below blocks inner body i p.locations

-- of a copy of the block, whose edges are numbered from i on
abbrev pub laid : Blocks → ℕ → Body → ℕ → List Loop
laid blocks b = through {X = Body → ℕ → List Loop} (λ body i. []) (laid_in blocks) blocks b

-- ---- ends, numbered after the text

abbrev pub location_by : Aim → ℕ → ℕ
location_by (to_location l) next = l
location_by (to_trap kind place) next = next
location_by (to_over place) next = next

-- the number of the next end
abbrev pub next_by : Aim → ℕ → ℕ
next_by (to_location l) next = next
next_by (to_trap kind place) next = suc next
next_by (to_over place) next = suc next

abbrev pub with_trap : Aim → ℕ → List TrapEnd → List TrapEnd
with_trap (to_location l) next ends = ends
with_trap (to_trap kind place) next ends = record { location = next; kind = kind; place = place } ∷ ends
with_trap (to_over place) next ends = ends

abbrev pub with_over : Aim → ℕ → List OverEnd → List OverEnd
with_over (to_location l) next ends = ends
with_over (to_trap kind place) next ends = ends
with_over (to_over place) next ends = record { location = next; place = place } ∷ ends

-- the next end has the number that is given
abbrev pub edges_of : ℕ → List Drawn → List Edge
edges_of next [] = []
edges_of next (d ∷ ds) =
    record { from = d.from; to = location_by d.aim next; guard = d.guard; sets = d.sets } ∷ edges_of (next_by d.aim next) ds

abbrev pub traps_of : ℕ → List Drawn → List TrapEnd
traps_of next [] = []
traps_of next (d ∷ ds) = with_trap d.aim next (traps_of (next_by d.aim next) ds)

abbrev pub overs_of : ℕ → List Drawn → List OverEnd
overs_of next [] = []
overs_of next (d ∷ ds) = with_over d.aim next (overs_of (next_by d.aim next) ds)

-- the number after the last end
abbrev pub behind : ℕ → List Drawn → ℕ
behind next [] = next
behind next (d ∷ ds) = behind (next_by d.aim next) ds

-- ---- the whole

abbrev pub text_size : Blocks → Parts → ℕ
text_size blocks p = before (span blocks) p p.locations

abbrev pub drawn_all : Blocks → Parts → List Drawn
drawn_all blocks p = drawn_below blocks (drawn blocks) (entry_body p) p.locations

-- of the entry's automaton
abbrev pub inlined : Blocks → Parts → Parts
inlined blocks p = record {
  vars = p.vars ++ added_by_calls (added blocks) p.calls;
  bound = p.bound;
  shared = p.shared;
  locations = behind (text_size blocks p) (drawn_all blocks p);
  edges = edges_of (text_size blocks p) (drawn_all blocks p);
  calls = [];
  loops = laid_below blocks (laid blocks) (entry_body p) 0 p.locations;
  done = number_in blocks (entry_body p) p.done;
  traps = traps_of (text_size blocks p) (drawn_all blocks p);
  overs = overs_of (text_size blocks p) (drawn_all blocks p);
}
