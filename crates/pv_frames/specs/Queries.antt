-- The formula of a query over a step circuit (after Sheeran, Singh and Stålmarck): base(k) has k frames, step(k) has k + 1, each of
-- which is a scan that goes on from the one before it. All but the last are done and don't fail, and the last fails.
use Rattle.std.specs.Prelude.{ℕ, zero, suc, ◌+◌, ◌-◌, ◌*◌, ◌^◌, ◌<◌, ◌≤◌, ◌==◌, nat_lt, ℤ, pos, Bool, true, false, ◌&&◌}
use Rattle.std.specs.Prelude.{if◌then◌else◌, List, [], ◌∷◌, length, map, count_by, Option, Some, None, unwrap_or}
use Rattle.std.specs.Option.{is_some, is_none}
use Rattle.std.specs.Ordering.{int_eq}
use Rattle.std.specs.List.{range_with_len}
use Rattle.pv_circuit.specs.declared.start.Start.{Start}
use Rattle.pv_circuit.specs.declared.start.Start.TheVariants.{Fixed, Begins, Free}
use Rattle.pv_circuit.specs.Circuits.{Circuit}
use Rattle.pv_circuit.specs.Starts.{next_of}
use Rattle.pv_cert.specs.declared.proof.Query.{Query}
use Rattle.pv_cert.specs.declared.proof.Query.TheVariants.{Base, Step}
use Rattle.pv_cnf.specs.Clause.{AreClauses}
use Rattle.pv_frames.specs.Frames.{Frame, literal_in}
use Rattle.pv_frames.specs.Formulas.{formula}

-- the numbers that queries have
abbrev pub IsAsked : Query → Type 0
IsAsked (Base k) = (1 ≤ k) × (k ≤ 64)
IsAsked (Step k) = k ≤ 64

abbrev pub frame_count : Query → ℕ
frame_count (Base k) = k
frame_count (Step k) = k + 1

-- ---- literals that are given

-- variable 1 is true
abbrev pub constant : Bool → ℕ
constant true = 2
constant false = 3

-- the literal of a state's bit in the first frame, where it isn't a variable of its own: a constant of each bit that has a value there
abbrev pub first_of : Query → Start → Option ℕ
first_of (Base k) (Fixed b) = Some (constant b)
first_of (Base k) (Begins b) = Some (constant b)
first_of (Base k) Free = None
first_of (Step k) (Fixed b) = Some (constant b)
first_of (Step k) (Begins b) = None
first_of (Step k) Free = None

-- what is given for node n, where literals are given beside those of nodes
abbrev pub given_for : Option ℕ → List ℤ → List (Option ℕ) → ℕ → Option ℕ
given_for found [] given n = found
given_for found (l ∷ ls) [] n = found
given_for found (l ∷ ls) (g ∷ given) n = given_for (if int_eq l (pos n) then g else found) ls given n

-- ---- frames

-- whether node n has a variable of its own: each but node 1 and those whose literal is given
abbrev pub is_own : (ℕ → Option ℕ) → ℕ → Bool
is_own given n = nat_lt 1 n && is_none (given n)

-- how many nodes below n have
abbrev pub own_below : (ℕ → Option ℕ) → ℕ → ℕ
own_below given zero = 0
own_below given (suc n) = own_below given n + (if is_own given n then 1 else 0)

-- node 1 is true, other nodes have the literals that are given, and the rest the variables from v on, in node order
abbrev pub numbered : (ℕ → Option ℕ) → ℕ → Frame
numbered given v n = if n == 1 then 2 else unwrap_or (given n) (2 * (v + own_below given n))

-- a frame, and the first variable behind it
pub record Numbered : Type 0 where
  pub frame : Frame
  pub next : ℕ

-- the frame in which the state's bits have these literals, or variables of their own, from variable v on
abbrev pub frame_by : Circuit → List (Option ℕ) → ℕ → Numbered
frame_by c given v = record {
  frame = numbered (given_for None c.state_in given) v;
  next = v + own_below (given_for None c.state_in given) (1 + length c.nodes);
}

abbrev pub first_frame : Circuit → List Start → Query → Numbered
first_frame c start q = frame_by c (map (first_of q) start) 2

-- the state's bits behind a frame: those of parameters keep their literals, the others have those of the circuit's end
abbrev pub next_literals : Circuit → List Start → Frame → List ℕ
next_literals c start frame = next_of start (map (literal_in frame) c.state_in) (map (literal_in frame) c.state_out)

abbrev pub next_frame : Circuit → List Start → Numbered → Numbered
next_frame c start f = frame_by c (map (λ lit. Some lit) (next_literals c start f.frame)) f.next

-- frame number j, from 0
abbrev pub frame_at : Circuit → List Start → Query → ℕ → Numbered
frame_at c start q zero = first_frame c start q
frame_at c start q (suc j) = next_frame c start (frame_at c start q j)

-- the literal of each node in it
abbrev pub table : Circuit → List Start → Query → ℕ → Frame
table c start q j = (frame_at c start q j).frame

abbrev pub frames : Circuit → List Start → Query → List Frame
frames c start q = map (table c start q) (range_with_len 0 (frame_count q))

-- ---- the formula

-- what has to be true in frame j: the last scan fails, and each before it is done and doesn't
abbrev pub asked_in : Circuit → List Start → Query → ℕ → ℕ
asked_in c start q j = literal_in (table c start q j) (if suc j == frame_count q then c.fail else c.ok)

abbrev pub asked : Circuit → List Start → Query → List ℕ
asked c start q = map (asked_in c start q) (range_with_len 0 (frame_count q))

abbrev pub query_clauses : Circuit → List Start → Query → List (List ℕ)
query_clauses c start q = formula c.nodes (frames c start q) (asked c start q)

-- variable 1; in the first frame one for each further node but the bits with constants, and in each later frame one for each further
-- node but the bits of the state
abbrev pub variable_count : Circuit → List Start → Query → ℕ
variable_count c start q =
    (length c.nodes - count_by (λ s. is_some (first_of q s)) start)
    + (frame_count q - 1) * (length c.nodes - (1 + length c.state_in))

-- the clauses are over the query's variables, no variable twice in one and none empty, and neither are there too many
pub record IsFormula (c : Circuit) (start : List Start) (q : Query) : Type 0 where
  pub clauses : AreClauses (variable_count c start q) (query_clauses c start q)
  pub few : length (query_clauses c start q) < 2 ^ 32 - 1
  pub variables : variable_count c start q ≤ 1 + 65 * 30000000
