-- Layout: flows as spots in the order of the text, and spots as an automaton. A sequence lies part by part; a test lies before what it
-- chooses, and before a loop's turns, a REPEAT's after them; a FOR's sets lie after its turns. After the spots lie the location where a
-- scan is done and those of traps, in the order of their edges.
use Rattle.std.specs.Prelude.{ℕ, suc, ◌+◌, List, [], ◌∷◌, ◌++◌, length, Bool as Truth, true, false, ◌==◌, cond, Option, Some, None}
use Rattle.pv_place.specs.declared.place.Place.{Place}
use Rattle.pv_flow.specs.Automata.{Variable, CallEdge, Edge, Loop, TrapEnd, Parts}
use Rattle.pv_layout.specs.Spots.{Check, way, Spot, Act, Branch, Enter, checks_of, edges_at}
use Rattle.pv_layout.specs.Flows.{Leaving, by_exit, by_continue, by_return, Flow, act, enter, leave, then_, if_, choice, while_, for_, repeat_}

-- ---- flows

-- how many spots it takes
abbrev pub width : Flow → ℕ
width (act checks sets) = 1
width (enter block instance place) = 1
width (leave which) = 1
width (then_ f g) = width f + width g
width (if_ checks c f) = suc (width f)
width (choice checks c f g) = suc (width f + width g)
width (while_ checks c f place) = suc (width f)
width (for_ checks c f sets place) = suc (width f + 1)
width (repeat_ f checks c place) = width f + 1

-- how many loops stand in it
abbrev pub loops_in : Flow → ℕ
loops_in (act checks sets) = 0
loops_in (enter block instance place) = 0
loops_in (leave which) = 0
loops_in (then_ f g) = loops_in f + loops_in g
loops_in (if_ checks c f) = loops_in f
loops_in (choice checks c f g) = loops_in f + loops_in g
loops_in (while_ checks c f place) = suc (loops_in f)
loops_in (for_ checks c f sets place) = suc (loops_in f)
loops_in (repeat_ f checks c place) = suc (loops_in f)

-- where each of its endings leads
pub record Exits : Type 0 where
  pub next : ℕ
  pub on_exit : ℕ
  pub on_continue : ℕ
  pub on_return : ℕ

abbrev pub exit_by : Leaving → Exits → ℕ
exit_by by_exit to = to.on_exit
exit_by by_continue to = to.on_continue
exit_by by_return to = to.on_return

abbrev pub before : ℕ → Exits → Exits
before next to = record { next = next; on_exit = to.on_exit; on_continue = to.on_continue; on_return = to.on_return }

-- of a loop's body, after each turn of which the location follows
abbrev pub in_loop : ℕ → Exits → Exits
in_loop next to = record { next = next; on_exit = to.next; on_continue = next; on_return = to.on_return }

-- the flow at location a, its loops numbered from i on
abbrev pub spots_of : Flow → ℕ → ℕ → Exits → List Spot
spots_of (act checks sets) a i to = Act checks (way to.next sets None) ∷ []
spots_of (enter block instance place) a i to = Enter block instance place to.next ∷ []
spots_of (leave which) a i to = Act [] (way (exit_by which to) [] None) ∷ []
spots_of (then_ f g) a i to =
    spots_of f a i (before (a + width f) to) ++ spots_of g (a + width f) (i + loops_in f) to
spots_of (if_ checks c f) a i to =
    Branch checks c (way (suc a) [] None) (way to.next [] None) ∷ spots_of f (suc a) i to
spots_of (choice checks c f g) a i to =
    Branch checks c (way (suc a) [] None) (way (suc a + width f) [] None)
    ∷ (spots_of f (suc a) i to ++ spots_of g (suc a + width f) (i + loops_in f) to)
spots_of (while_ checks c f place) a i to =
    Branch checks c (way (suc a) [] (Some i)) (way to.next [] None) ∷ spots_of f (suc a) (suc i) (in_loop a to)
spots_of (for_ checks c f sets place) a i to =
    Branch checks c (way (suc a) [] (Some i)) (way to.next [] None)
    ∷ (spots_of f (suc a) (suc i) (in_loop (suc a + width f) to) ++ Act [] (way a sets None) ∷ [])
spots_of (repeat_ f checks c place) a i to =
    spots_of f a (suc i) (in_loop (a + width f) to) ++ Branch checks c (way to.next [] None) (way a [] (Some i)) ∷ []

-- turns come later
abbrev pub bare : ℕ → ℕ → Truth → Place → Loop
bare first last entry_turn place = record { first = first; last = last; entry_turn = entry_turn; turns = []; place = place }

-- the loops of the flow at location a, outermost first
abbrev pub loops_of : Flow → ℕ → List Loop
loops_of (act checks sets) a = []
loops_of (enter block instance place) a = []
loops_of (leave which) a = []
loops_of (then_ f g) a = loops_of f a ++ loops_of g (a + width f)
loops_of (if_ checks c f) a = loops_of f (suc a)
loops_of (choice checks c f g) a = loops_of f (suc a) ++ loops_of g (suc a + width f)
loops_of (while_ checks c f place) a = bare a (a + width f) false place ∷ loops_of f (suc a)
loops_of (for_ checks c f sets place) a = bare a (suc (a + width f)) false place ∷ loops_of f (suc a)
loops_of (repeat_ f checks c place) a = bare a (a + width f) true place ∷ loops_of f a

-- ---- spots

-- spots, and the loops in which they lie, without their turns
pub record Text : Type 0 where
  pub spots : List Spot
  pub loops : List Loop

-- what leaves a whole block is done
abbrev pub to_done : ℕ → Exits
to_done done = record { next = done; on_exit = done; on_continue = done; on_return = done }

abbrev pub text_of : Flow → Text
text_of f = record { spots = spots_of f 0 0 (to_done (width f)); loops = loops_of f 0 }

abbrev pub checks_in : List Spot → ℕ
checks_in [] = 0
checks_in (spot ∷ spots) = length (checks_of spot) + checks_in spots

-- the edges of the spots from location l on, with t locations of traps before them
abbrev pub edges_of : ℕ → ℕ → ℕ → List Spot → List Edge
edges_of done t l [] = []
edges_of done t l (spot ∷ spots) = edges_at done t l spot ++ edges_of done (t + length (checks_of spot)) (suc l) spots

abbrev pub calls_of : ℕ → List Spot → List CallEdge
calls_of l [] = []
calls_of l (Act checks on ∷ spots) = calls_of (suc l) spots
calls_of l (Branch checks c one other ∷ spots) = calls_of (suc l) spots
calls_of l (Enter block instance place to ∷ spots) =
    record { from = l; to = to; block = block; instance = instance; place = place } ∷ calls_of (suc l) spots

abbrev pub traps_at : ℕ → ℕ → List Check → List TrapEnd
traps_at done t [] = []
traps_at done t (check ∷ checks) =
    record { location = done + suc t; kind = check.kind; place = check.place } ∷ traps_at done (suc t) checks

abbrev pub traps_of : ℕ → ℕ → List Spot → List TrapEnd
traps_of done t [] = []
traps_of done t (spot ∷ spots) = traps_at done t (checks_of spot) ++ traps_of done (t + length (checks_of spot)) spots

-- ---- turns

abbrev pub no_marks : List Check → List (Option ℕ)
no_marks [] = []
no_marks (check ∷ checks) = None ∷ no_marks checks

abbrev pub way_marks : Spot → List (Option ℕ)
way_marks (Act checks on) = on.turn ∷ []
way_marks (Branch checks c one other) = one.turn ∷ other.turn ∷ []
way_marks (Enter block instance place to) = []

-- of each edge the loop of which it starts a turn
abbrev pub marks_of : List Spot → List (Option ℕ)
marks_of [] = []
marks_of (spot ∷ spots) = (no_marks (checks_of spot) ++ way_marks spot) ++ marks_of spots

abbrev pub is_marked : ℕ → Option ℕ → Truth
is_marked i None = false
is_marked i (Some k) = k == i

-- the numbers of the edges that start a turn of loop i; they are numbered from e on
abbrev pub turns_of : ℕ → ℕ → List (Option ℕ) → List ℕ
turns_of i e [] = []
turns_of i e (mark ∷ marks) = cond (is_marked i mark) (e ∷ turns_of i (suc e) marks) (turns_of i (suc e) marks)

abbrev pub with_turns : Loop → List ℕ → Loop
with_turns loop turns =
    record { first = loop.first; last = loop.last; entry_turn = loop.entry_turn; turns = turns; place = loop.place }

-- the loops are numbered from i on
abbrev pub turned_loops : List (Option ℕ) → ℕ → List Loop → List Loop
turned_loops marks i [] = []
turned_loops marks i (loop ∷ loops) = with_turns loop (turns_of i 0 marks) ∷ turned_loops marks (suc i) loops

-- ---- the automaton

-- the variables of an automaton, of which the first are bound, and then some shared
pub record Head : Type 0 where
  pub vars : List Variable
  pub bound : ℕ
  pub shared : ℕ

abbrev pub parts_of : Head → Text → Parts
parts_of head text = record {
  vars = head.vars;
  bound = head.bound;
  shared = head.shared;
  locations = length text.spots + suc (checks_in text.spots);
  edges = edges_of (length text.spots) 0 0 text.spots;
  calls = calls_of 0 text.spots;
  loops = turned_loops (marks_of text.spots) 0 text.loops;
  done = length text.spots;
  traps = traps_of (length text.spots) 0 text.spots;
  overs = [];
}

-- ---- sizes

-- how many edges and call edges it has
abbrev pub plain : Flow → ℕ
plain (act checks sets) = length checks + 1
plain (enter block instance place) = 1
plain (leave which) = 1
plain (then_ f g) = plain f + plain g
plain (if_ checks c f) = length checks + 2 + plain f
plain (choice checks c f g) = length checks + 2 + (plain f + plain g)
plain (while_ checks c f place) = length checks + 2 + plain f
plain (for_ checks c f sets place) = length checks + 2 + plain f + 1
plain (repeat_ f checks c place) = length checks + 2 + plain f
