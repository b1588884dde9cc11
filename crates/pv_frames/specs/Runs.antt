-- Runs of a circuit's bits, and the queries that they meet. In a run the bits of parameters keep their values, and the others have
-- behind each scan what the circuit has at its end.
use Rattle.std.specs.Prelude.{◌≡◌, ℕ, suc, ◌+◌, ◌<◌, ◌==◌, true, Bool, if◌then◌else◌, List, [], ◌∷◌, length, map}
use Rattle.pv_gate.specs.Value.{value_of}
use Rattle.pv_cnf.specs.Literal.{literal_value}
use Rattle.pv_cnf.specs.Clause.{Holds}
use Rattle.pv_circuit.specs.declared.start.Start.{Start}
use Rattle.pv_circuit.specs.Circuits.{Circuit, values_of}
use Rattle.pv_circuit.specs.Starts.{AreState, AreStart, next_of}
use Rattle.pv_cert.specs.declared.proof.Query.{Query}
use Rattle.pv_cert.specs.declared.proof.Query.TheVariants.{Base, Step}
use Rattle.pv_frames.specs.declared.bits.BitTrace.{BitTrace}
use Rattle.pv_frames.specs.Frames.{Frame, literal_in}
use Rattle.pv_frames.specs.Queries.{frame_count, table, frames, query_clauses}
use Rattle.pv_frames.specs.Values.{AreFrameValues}

-- the bits of the first state, and those of each scan's input
pub record BitRun : Type 0 where
  pub state : List Bool
  pub inputs : List (List Bool)

-- values of the circuit's inputs by which a scan begins with this state and this input
pub record BeginsWith (c : Circuit) (state input : List Bool) : Type 0 where
  pub inputs : ℕ → Bool
  pub state_is : values_of inputs c.nodes c.state_in ≡ state
  pub input_is : values_of inputs c.nodes c.input ≡ input

-- from this state by these inputs each scan but the last is done and doesn't fail, and the last fails
abbrev pub FailsAtLast : Circuit → List Start → List Bool → List (List Bool) → Type 0
FailsAtLast c start s [] = ⊥
FailsAtLast c start s (i ∷ []) = (scan : BeginsWith c s i) × (value_of scan.inputs c.nodes c.fail ≡ true)
FailsAtLast c start s (i ∷ j ∷ inputs) =
    (scan : BeginsWith c s i) × (value_of scan.inputs c.nodes c.ok ≡ true)
    × FailsAtLast c start (next_of start s (values_of scan.inputs c.nodes c.state_out)) (j ∷ inputs)

-- a base query is met by a run from the start, a step query by one from any state
abbrev pub Meets : Circuit → List Start → Query → BitRun → Type 0
Meets c start (Base k) run = AreStart start run.state × (length run.inputs ≡ k) × FailsAtLast c start run.state run.inputs
Meets c start (Step k) run = AreState start run.state × (length run.inputs ≡ k + 1) × FailsAtLast c start run.state run.inputs

-- the bits of the input in a frame
abbrev pub input_in : Circuit → (ℕ → Bool) → Frame → List Bool
input_in c values frame = map (λ l. literal_value values (literal_in frame l)) c.input

-- the run that values of a query's variables stand for
abbrev pub run_of : Circuit → List Start → Query → (ℕ → Bool) → BitRun
run_of c start q values = record {
  state = map (λ l. literal_value values (literal_in (table c start q 0) l)) c.state_in;
  inputs = map (input_in c values) (frames c start q);
}

-- a run of these bits
abbrev pub run_with : List Bool → List (List Bool) → BitRun
run_with state inputs = record { state = state; inputs = inputs }

-- a run of the code as plain data
abbrev pub run_seen : BitTrace → BitRun
run_seen trace = run_with trace.state trace.inputs

-- values by which the formula of a query holds and that stand for the run
pub record HasValues (c : Circuit) (start : List Start) (q : Query) (run : BitRun) : Type 0 where
  pub values : ℕ → Bool
  pub holds : Holds values (query_clauses c start q)
  pub read : run_of c start q values ≡ run

-- in frame j each node has the value that it has under some values of the circuit's inputs, and what has to be true there is
pub record IsScanAt (c : Circuit) (start : List Start) (q : Query) (values : ℕ → Bool) (j : ℕ) : Type 0 where
  pub inputs : ℕ → Bool
  pub nodes : AreFrameValues inputs c.nodes values (table c start q j)
  pub asked : value_of inputs c.nodes (if suc j == frame_count q then c.fail else c.ok) ≡ true

pub record AreScans (c : Circuit) (start : List Start) (q : Query) (values : ℕ → Bool) : Type 0 where
  pub first : values 1 ≡ true
  pub each : (j : ℕ) → j < frame_count q → IsScanAt c start q values j
