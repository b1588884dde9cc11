-- What is so of the copies of each automaton that is well made: the statements of the laws.
use Rattle.std.specs.Prelude.{◌≡◌, ℕ, ◌+◌, ◌<◌, ◌≤◌, List, length, slice_get, Some, None}
use Rattle.pv_machine.specs.Same.{IsSame}
use Rattle.pv_flow.specs.Terms.{Valuation}
use Rattle.pv_flow.specs.Automata.{Edge, Parts}
use Rattle.pv_flow.specs.Faults.{IsFaultless}
use Rattle.pv_flow.specs.WellMade.{IsWellMade}
use Rattle.pv_flow.specs.Runs.{run, control_of, first_spot}
use Rattle.pv_flow.specs.Machines.{machine_of, inlined_machine, acyclic_machine, IsInlined, IsAcyclic}
use Rattle.pv_copies.specs.Copies.{Copy, copy, location_of, numbers_of, target, copies_control, first_copy}
use Rattle.pv_copies.specs.Places.{text, size, place, first_of_kind, turns_before, IsCopy, stands_in, one_each, Stands}
use Rattle.pv_copies.specs.Unrolled.{unrolled, unrolled_size}

-- the copies of its locations
abbrev pub IsCopyIn : Parts → ℕ → Copy → Type 0
IsCopyIn p n c = IsCopy n p.loops 0 p.locations c

abbrev pub text_of : Parts → ℕ → List Copy
text_of p n = text (stands_in p) n p.loops 0 p.locations

-- places and sizes where each copy of location l takes `w l`, and what is gone over takes `o`
abbrev pub place_of : Parts → ℕ → (ℕ → ℕ) → ℕ → Copy → ℕ
place_of p n w o c = place w o n p.loops 0 p.locations c

abbrev pub size_of : Parts → ℕ → (ℕ → ℕ) → ℕ → ℕ
size_of p n w o = size w o n p.loops 0 p.locations

-- numbers in the text
abbrev pub number_of : Parts → ℕ → Copy → ℕ
number_of p n c = place_of p n (one_each (stands_in p)) 1 c

-- with as many steps the run with counts and that along copies are equal
abbrev pub LoopsAreCopies : Type 0
LoopsAreCopies = (p : Parts) (n steps : ℕ) (w : Valuation) → IsFaultless p → IsWellMade p
    → run (control_of p n) steps (first_spot p) w ≡ run (copies_control p n) steps (first_copy p) w

-- an edge leads from a copy to a copy
abbrev pub CopiesLeadToCopies : Type 0
CopiesLeadToCopies = (p : Parts) (n e : ℕ) (edge : Edge) (ks : List ℕ) → IsFaultless p → IsWellMade p → 0 < n → slice_get p.edges e ≡ Some edge
    → IsCopyIn p n (copy edge.from ks) → IsCopyIn p n (target n p.loops e edge.from edge.to ks)

-- and forward: behind all that the copy takes
abbrev pub CopiesLeadForward : Type 0
CopiesLeadForward = (p : Parts) (n e : ℕ) (edge : Edge) (ks : List ℕ) (w : ℕ → ℕ) (o : ℕ) → IsFaultless p → IsWellMade p → 0 < n
    → slice_get p.edges e ≡ Some edge → IsCopyIn p n (copy edge.from ks)
    → place_of p n w o (copy edge.from ks) + w edge.from ≤ place_of p n w o (target n p.loops e edge.from edge.to ks)

-- it stands behind the first of its kind by what the turns before it take
abbrev pub PlacesAreShifts : Type 0
PlacesAreShifts = (p : Parts) (n : ℕ) (c : Copy) (w : ℕ → ℕ) (o : ℕ) → IsFaultless p → IsWellMade p → IsCopyIn p n c
    → place_of p n w o c ≡ place_of p n w o (first_of_kind c) + turns_before w o n p.loops (location_of c) (numbers_of c)

-- what stands in the text is a copy that may, and stands at its place
abbrev pub TextHasPlaces : Type 0
TextHasPlaces = (p : Parts) (n i : ℕ) (c : Copy) → IsFaultless p → IsWellMade p → 0 < n → slice_get (text_of p n) i ≡ Some c
    → IsCopyIn p n c × (number_of p n c ≡ i) × Stands (stands_in p) c

-- each copy that stands in the text is found at its place
abbrev pub TextHasCopies : Type 0
TextHasCopies = (p : Parts) (n : ℕ) (c : Copy) → IsFaultless p → IsWellMade p → IsCopyIn p n c → Stands (stands_in p) c
    → slice_get (text_of p n) (number_of p n c) ≡ Some c

-- its length is the size where each location that stands in it takes one, and what is gone over
abbrev pub TextIsLong : Type 0
TextIsLong = (p : Parts) (n : ℕ) → IsFaultless p → IsWellMade p → length (text_of p n) ≡ size_of p n (one_each (stands_in p)) 1

-- the automaton of the copies runs as they do
abbrev pub CopiesAreNumbers : Type 0
CopiesAreNumbers = (p : Parts) (n steps : ℕ) (w : Valuation) → IsFaultless p → IsWellMade p → 0 < n
    → run (control_of (unrolled p n) 1) steps (first_spot (unrolled p n)) w ≡ run (control_of p n) steps (first_spot p) w

-- with as many steps its machine is the same
abbrev pub UnrolledHasTheMachine : Type 0
UnrolledHasTheMachine = (p : Parts) (n steps : ℕ) → IsFaultless p → IsWellMade p → 0 < n
    → IsSame (machine_of (unrolled p n) 1 steps None) (machine_of p n steps None)

-- it has no loops, and its edges lead forward
abbrev pub NumbersLeadForward : Type 0
NumbersLeadForward = (p : Parts) (n : ℕ) → IsFaultless p → IsWellMade p → 0 < n → IsAcyclic (unrolled p n)

-- it has no fault and is well made, if there are no call edges
abbrev pub UnrolledIsWellMade : Type 0
UnrolledIsWellMade = (p : Parts) (n : ℕ) → IsFaultless p → IsWellMade p → 0 < n → length p.calls ≡ 0
    → IsFaultless (unrolled p n) × IsWellMade (unrolled p n)

-- and its machine is that of the automaton
abbrev pub SameMachine : Type 0
SameMachine = (p : Parts) (n : ℕ) → IsFaultless p → IsWellMade p → IsInlined p n
    → IsSame (acyclic_machine (unrolled p n) None) (inlined_machine p n)

-- it has as many edges as are counted
abbrev pub EdgesAreCounted : Type 0
EdgesAreCounted = (p : Parts) (n : ℕ) → IsFaultless p → IsWellMade p → length (unrolled p n).edges ≡ unrolled_size p n
