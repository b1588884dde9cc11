-- The automaton of the copies. Its locations are the copies in the order of the text, then the location where a scan is done, and then
-- one location for each copy of an edge to a trap, in the order of the edges. Each copy has copies of its location's edges, in the order
-- of their numbers; there are no loops.
use Rattle.std.specs.Prelude.{ℕ, suc, ◌+◌, List, [], ◌∷◌, ◌++◌, length, ◌==◌, cond, Option, Some, None}
use Rattle.pv_flow.specs.Terms.{Term}
use Rattle.pv_flow.specs.Automata.{Set, Edge, Loop, TrapEnd, OverEnd, Parts, edges_from}
use Rattle.pv_flow.specs.Runs.{End, done, trap, over}
use Rattle.pv_copies.specs.Copies.{Copy, copy, beyond, target, exit_of_copy}
use Rattle.pv_copies.specs.Places.{text, size, place, stands_in, one_each}

-- a copy of an edge, from the location of this number to a copy
pub record CopiedEdge : Type 0 where
  pub from : ℕ
  pub to : Copy
  pub guard : Term
  pub sets : List Set

-- of one copy, with its number; the edges are numbered from e on
abbrev pub copied_edges : ℕ → List Loop → ℕ → ℕ → ℕ → List ℕ → List Edge → List CopiedEdge
copied_edges n loops i e l ks [] = []
copied_edges n loops i e l ks (edge ∷ edges) = cond (edge.from == l)
    (record { from = i; to = target n loops e l edge.to ks; guard = edge.guard; sets = edge.sets } ∷ copied_edges n loops i (suc e) l ks edges)
    (copied_edges n loops i (suc e) l ks edges)

-- of these copies, which are numbered from i on
abbrev pub copied : Parts → ℕ → ℕ → List Copy → List CopiedEdge
copied p n i [] = []
copied p n i (copy l ks ∷ cs) = copied_edges n p.loops i 0 l ks p.edges ++ copied p n (suc i) cs
copied p n i (beyond loop ks ∷ cs) = copied p n (suc i) cs

abbrev pub whole_text : Parts → ℕ → List Copy
whole_text p n = text (stands_in p) n p.loops 0 p.locations

abbrev pub text_size : Parts → ℕ → ℕ
text_size p n = size (one_each (stands_in p)) 1 n p.loops 0 p.locations

abbrev pub place_in_text : Parts → ℕ → Copy → ℕ
place_in_text p n c = place (one_each (stands_in p)) 1 n p.loops 0 p.locations c

-- the number of a location, by what it ends: where a scan is done it follows the text, that of a trap has t others before it
abbrev pub numbered_by : Option End → ℕ → ℕ → ℕ → ℕ
numbered_by None done_at t here = here
numbered_by (Some done) done_at t here = done_at
numbered_by (Some (trap kind place)) done_at t here = done_at + suc t
numbered_by (Some (over place)) done_at t here = here

-- how many more locations of traps there are
abbrev pub traps_by : Option End → ℕ → ℕ
traps_by None t = t
traps_by (Some done) t = t
traps_by (Some (trap kind place)) t = suc t
traps_by (Some (over place)) t = t

abbrev pub with_trap : Option End → ℕ → List TrapEnd → List TrapEnd
with_trap None at ends = ends
with_trap (Some done) at ends = ends
with_trap (Some (trap kind place)) at ends = record { location = at; kind = kind; place = place } ∷ ends
with_trap (Some (over place)) at ends = ends

abbrev pub with_over : Option End → ℕ → List OverEnd → List OverEnd
with_over None at ends = ends
with_over (Some done) at ends = ends
with_over (Some (trap kind place)) at ends = ends
with_over (Some (over place)) at ends = record { location = at; place = place } ∷ ends

-- the edges by numbers, with t locations of traps so far
abbrev pub edges_of : Parts → ℕ → ℕ → List CopiedEdge → List Edge
edges_of p n t [] = []
edges_of p n t (edge ∷ edges) =
    record {
      from = edge.from;
      to = numbered_by (exit_of_copy p edge.to) (text_size p n) t (place_in_text p n edge.to);
      guard = edge.guard;
      sets = edge.sets;
    } ∷ edges_of p n (traps_by (exit_of_copy p edge.to) t) edges

abbrev pub traps_of : Parts → ℕ → ℕ → List CopiedEdge → List TrapEnd
traps_of p n t [] = []
traps_of p n t (edge ∷ edges) = with_trap (exit_of_copy p edge.to) (text_size p n + suc t)
    (traps_of p n (traps_by (exit_of_copy p edge.to) t) edges)

abbrev pub overs_of : Parts → ℕ → List Copy → List OverEnd
overs_of p i [] = []
overs_of p i (c ∷ cs) = with_over (exit_of_copy p c) i (overs_of p (suc i) cs)

abbrev pub unrolled : Parts → ℕ → Parts
unrolled p n = record {
  vars = p.vars;
  bound = p.bound;
  shared = p.shared;
  locations = text_size p n + suc (length (traps_of p n 0 (copied p n 0 (whole_text p n))));
  edges = edges_of p n 0 (copied p n 0 (whole_text p n));
  calls = [];
  loops = [];
  done = text_size p n;
  traps = traps_of p n 0 (copied p n 0 (whole_text p n));
  overs = overs_of p 0 (whole_text p n);
}

-- the number of its edges
abbrev pub unrolled_size : Parts → ℕ → ℕ
unrolled_size p n = size (λ l. length (edges_from l p.edges)) 0 n p.loops 0 p.locations
