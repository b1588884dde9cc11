-- What a scan of a Boolean program does. A state has the values of the bits that are kept from scan to scan, an input those
-- that each scan takes anew, and a frame, which a scan works on, those of all bits, each in the order of the bits.
use Rattle.std.specs.Prelude.{ℕ, Bool, false, not, ◌&&◌, ◌||◌, List, [], ◌∷◌, length, map, filter, slice_index_or, slice_set}
use Rattle.std.specs.Prelude.{if◌then◌else◌}
use Rattle.pv_bool.specs.Roles.{is_input, is_kept}
use Rattle.pv_bool.specs.declared.program.Bit.{Bit}
use Rattle.pv_bool.specs.Tree.{TermTree, constant, load, negation, conjunction, disjunction, AssignmentTree, ProgramTree}

abbrev pub Bits : Type 0
Bits = List Bool

-- the first of the values, and the others
abbrev pub first : Bits → Bool
first [] = false
first (b ∷ bs) = b

abbrev pub others : Bits → Bits
others [] = []
others (b ∷ bs) = bs

-- how many values a state has, and an input
abbrev pub state_len : List Bit → ℕ
state_len bits = length (filter (λ b. is_kept b.role) bits)

abbrev pub input_len : List Bit → ℕ
input_len bits = length (filter (λ b. is_input b.role) bits)

-- the state before the first scan
abbrev pub start : List Bit → Bits
start bits = map (λ b. b.start) (filter (λ b. is_kept b.role) bits)

-- the frame at a scan's beginning: state and input stand in their bits
abbrev pub begin : List Bit → Bits → Bits → Bits
begin [] state input = []
begin (b ∷ bs) state input =
    if is_input b.role then first input ∷ begin bs state (others input) else first state ∷ begin bs (others state) input

-- the values of the kept bits in a frame, and of the input bits
abbrev pub state_of : List Bit → Bits → Bits
state_of [] frame = []
state_of (b ∷ bs) frame =
    if is_kept b.role then first frame ∷ state_of bs (others frame) else state_of bs (others frame)

abbrev pub input_of : List Bit → Bits → Bits
input_of [] frame = []
input_of (b ∷ bs) frame =
    if is_input b.role then first frame ∷ input_of bs (others frame) else input_of bs (others frame)

-- the value of a term in a frame
abbrev pub value_in : Bits → TermTree → Bool
value_in frame (constant b) = b
value_in frame (load n) = slice_index_or frame n false
value_in frame (negation t) = not (value_in frame t)
value_in frame (conjunction s t) = value_in frame s && value_in frame t
value_in frame (disjunction s t) = value_in frame s || value_in frame t

-- the frame behind the assignments
abbrev pub run_body : List AssignmentTree → Bits → Bits
run_body [] frame = frame
run_body (a ∷ body) frame = run_body body (slice_set frame a.target (value_in frame a.value))

-- the frame at the end of the scan from a state by an input
abbrev pub scan_end : ProgramTree → Bits → Bits → Bits
scan_end program state input = run_body program.body (begin program.bits state input)

-- the state that the scan leaves
abbrev pub next_state : ProgramTree → Bits → Bits → Bits
next_state program state input = state_of program.bits (scan_end program state input)

-- the requirement holds at the scan's end
abbrev pub keeps : ProgramTree → Bits → Bits → Bool
keeps program state input = value_in (scan_end program state input) program.holds
