-- Copies of locations. Unrolling a loop with bound N makes N copies of its range, one after another, each for a turn; where entering the
-- loop starts no turn, its first location stands once more behind them, since it is come to once more than turns are taken; and behind
-- that the location where the bound is gone over. The copies of an automaton with the ways between them are a control like the
-- automaton's own, without counts.
use Rattle.std.specs.Prelude.{ℕ, suc, ◌+◌, List, [], ◌∷◌, Bool as Truth, true, false, not, ◌&&◌, ◌==◌, nat_le, cond, Option, Some}
use Rattle.pv_flow.specs.Automata.{Edge, Loop, Parts, holds, is_turn}
use Rattle.pv_flow.specs.Runs.{End, over, Way, Control, end_at}

pub data Copy : Type 0 where
  -- of a location, with the number of its copy, from 0 on, for each loop that holds it, outermost first
  copy : ℕ → List ℕ → Copy
  -- where the loop's bound is gone over, with the numbers for the loops around it
  beyond : Loop → List ℕ → Copy

-- the location, or the loop's first one
abbrev pub location_of : Copy → ℕ
location_of (copy l ks) = l
location_of (beyond loop ks) = loop.first

abbrev pub numbers_of : Copy → List ℕ
numbers_of (copy l ks) = ks
numbers_of (beyond loop ks) = ks

-- in the copy of this number of a loop around it
abbrev pub within : ℕ → Copy → Copy
within k (copy l ks) = copy l (k ∷ ks)
within k (beyond loop ks) = beyond loop (k ∷ ks)

-- the first number, and the others
abbrev pub front : List ℕ → ℕ
front [] = 0
front (k ∷ ks) = k

abbrev pub back : List ℕ → List ℕ
back [] = []
back (k ∷ ks) = ks

-- without the number for the outermost loop
abbrev pub taken_out : Copy → Copy
taken_out (copy l ks) = copy l (back ks)
taken_out (beyond loop ks) = beyond loop (back ks)

-- ---- where an edge leads

-- whether the location is the first of a loop that entering starts no turn of: then a turn starts behind it
abbrev pub leads_in : Loop → ℕ → Truth
leads_in loop l = not loop.entry_turn && (loop.first == l)

-- the copies of a location are as many as the turns, and one more where turns start behind it
abbrev pub lead : Loop → ℕ → ℕ
lead loop l = cond (leads_in loop l) 1 0

-- whether taking edge e in this copy of location l would start turn n + 1
abbrev pub is_past : ℕ → Loop → ℕ → ℕ → ℕ → Truth
is_past n loop e l k = is_turn loop e && nat_le (n + lead loop l) (suc k)

-- whether edge e, which begins in the loop, leads from a copy of it to the next: it starts a turn, or leads to where the next starts
abbrev pub goes_round : Loop → ℕ → ℕ → Truth
goes_round loop e to = cond loop.entry_turn (is_turn loop e) (loop.first == to)

abbrev pub next : Loop → ℕ → ℕ → ℕ → ℕ
next loop e to k = k + cond (goes_round loop e to) 1 0

-- by whether the loop holds where the edge begins, and where it ends, and whether it would start a turn too many
abbrev pub led_to : Truth → Truth → Truth → Loop → ℕ → Copy → Copy
led_to false false past loop k inner = inner
led_to false true past loop k inner = within 0 inner
led_to true to true loop k inner = beyond loop []
led_to true false false loop k inner = inner
led_to true true false loop k inner = within k inner

-- the numbers that are left for the loops within
abbrev pub left : Truth → List ℕ → List ℕ
left false ks = ks
left true ks = back ks

-- where edge e leads from a copy of location l, with loop bound n
abbrev pub target : ℕ → List Loop → ℕ → ℕ → ℕ → List ℕ → Copy
target n [] e l to ks = copy to []
target n (loop ∷ loops) e l to ks =
    led_to (holds loop l) (holds loop to) (is_past n loop e l (front ks)) loop (next loop e to (front ks))
    (target n loops e l to (left (holds loop l) ks))

-- the copy of a location that is entered from outside of all loops
abbrev pub entered_copy : List Loop → ℕ → Copy
entered_copy [] to = copy to []
entered_copy (loop ∷ loops) to = cond (holds loop to) (within 0 (entered_copy loops to)) (entered_copy loops to)

-- ---- copies as a control

abbrev pub exit_of_copy : Parts → Copy → Option End
exit_of_copy p (copy l ks) = end_at p l
exit_of_copy p (beyond loop ks) = Some (over loop.place)

abbrev pub way_to : ℕ → List Loop → ℕ → ℕ → List ℕ → Edge → Way Copy
way_to n loops e l ks edge = record { guard = edge.guard; sets = edge.sets; to = target n loops e l edge.to ks }

-- the edges are numbered from e on
abbrev pub ways_to : ℕ → List Loop → ℕ → ℕ → List ℕ → List Edge → List (Way Copy)
ways_to n loops e l ks [] = []
ways_to n loops e l ks (edge ∷ edges) = cond (edge.from == l)
    (way_to n loops e l ks edge ∷ ways_to n loops (suc e) l ks edges)
    (ways_to n loops (suc e) l ks edges)

abbrev pub ways_of_copy : Parts → ℕ → Copy → List (Way Copy)
ways_of_copy p n (copy l ks) = ways_to n p.loops 0 l ks p.edges
ways_of_copy p n (beyond loop ks) = []

abbrev pub copies_control : Parts → ℕ → Control Copy
copies_control p n = record { exit = exit_of_copy p; ways = ways_of_copy p n }

-- where each run begins
abbrev pub first_copy : Parts → Copy
first_copy p = entered_copy p.loops 0
