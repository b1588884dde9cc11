-- A frame's literals as the code has them: those of the input nodes in a list, and the others by arithmetic. No public clause cites
-- this.
use Rattle.std.specs.Prelude.{◌≡◌, ℕ, false, zero, suc, [], ◌++◌, ◌+◌, ◌-◌, ◌*◌, ◌^◌, ◌<◌, ◌≤◌, ◌==◌, nat_lt, ℤ, pos, unsigned_abs, All}
use Rattle.std.specs.Prelude.{if◌then◌else◌, List, length, Option, None, unwrap_or, slice_index_or}
use Rattle.std.specs.List.{flat_map}
use Rattle.pv_gate.specs.declared.netlist.Node.{Node}
use Rattle.pv_gate.specs.declared.netlist.Node.TheVariants.{True, Input, And, Xor, Mux}
use Rattle.pv_gate.specs.Node.{Names}
use Rattle.pv_gate.specs.Netlist.{IsNetlist}
use Rattle.pv_cnf.specs.Literal.{is_outside}
use Rattle.pv_circuit.specs.declared.start.Start.{Start}
use Rattle.pv_circuit.specs.Circuits.{Circuit}
use Rattle.pv_cert.specs.declared.proof.Query.{Query}
use Rattle.pv_frames.specs.Frames.{Frame, frame_clauses}
use Rattle.pv_frames.specs.Formulas.{written}
use Rattle.pv_frames.specs.Queries.{Numbered, table, frame_count, frame_at, variable_count}

-- the frame of a list of the input nodes' literals, with the variable of the first node behind them
abbrev pub table_frame : List (Option ℕ) → ℕ → Frame
table_frame begins gates n =
    if n == 1 then 2
    else if nat_lt (n - 2) (length begins) then unwrap_or (slice_index_or begins (n - 2) None) 0
    else 2 * (gates + (n - 2 - length begins))

-- the operands of a node are among the first n
abbrev pub NamesOperands : ℕ → Node → Type 0
NamesOperands n True = Unit {0}
NamesOperands n (Input m) = Unit {0}
NamesOperands n (And a b) = Names n a × Names n b
NamesOperands n (Xor a b) = Names n a × Names n b
NamesOperands n (Mux s a b) = Names n s × Names n a × Names n b

-- the literal of one of so many input nodes
pub record IsBegin (inputs : ℕ) (l : ℤ) : Type 0 where
  pub positive : l ≡ pos (unsigned_abs l)
  pub from_two : 2 ≤ unsigned_abs l
  pub to_last : unsigned_abs l < 2 + inputs

-- the list and the variable are those of a frame
pub record IsTable (c : Circuit) (begins : List (Option ℕ)) (gates : ℕ) (f : Numbered) : Type 0 where
  pub same : (n : ℕ) → 1 ≤ n → n ≤ length c.nodes → table_frame begins gates n ≡ f.frame n
  pub next : gates + (length c.nodes - (1 + length begins)) ≡ f.next

-- the literals of the first m nodes are over the variables 1 to v
abbrev pub Inside : ℕ → ℕ → Frame → Type 0
Inside v m f = (n : ℕ) → 1 ≤ n → n ≤ m → is_outside v (f n) ≡ false

-- what the frames of a query need of its circuit
pub record IsFit (c : Circuit) (start : List Start) (q : Query) : Type 0 where
  pub netlist : IsNetlist c.nodes
  pub starts : length start ≡ length c.state_in
  pub ends : length c.state_out ≡ length c.state_in
  pub begins : All (IsBegin (length c.state_in + length c.input)) c.state_in
  pub state_in : All (Names (length c.nodes)) c.state_in
  pub input : All (Names (length c.nodes)) c.input
  pub state_out : All (Names (length c.nodes)) c.state_out
  pub ok : Names (length c.nodes) c.ok
  pub fail : Names (length c.nodes) c.fail
  pub inputs : 1 + (length c.state_in + length c.input) ≤ length c.nodes
  -- variables have literals in 32 bits, also those of a frame behind the last one
  pub few : (j : ℕ) → j ≤ frame_count q → (frame_at c start q j).next + length c.nodes < 2 ^ 31
  pub inside : (j : ℕ) → j < frame_count q → (frame_at c start q j).next ≤ 1 + variable_count c start q

-- the clauses of the gates of the first j frames
abbrev pub gate_clauses : Circuit → List Start → Query → ℕ → List (List ℕ)
gate_clauses c start q zero = []
gate_clauses c start q (suc j) = gate_clauses c start q j ++ flat_map written (frame_clauses (table c start q j) 1 c.nodes)
