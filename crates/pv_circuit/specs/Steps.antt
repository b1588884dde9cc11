-- That a circuit does the steps of a machine, whose states and inputs are lists of numbers.
use Rattle.std.specs.Prelude.{◌≡◌, ◌↔◌, ℕ, ◌+◌, Bool, true, ℤ, List, [], ◌∷◌, length, take, drop}
use Rattle.pv_word.specs.declared.types.Ty.{Ty}
use Rattle.pv_word.specs.Types.{width_of, InRange, pattern_of}
use Rattle.pv_gate.specs.Value.{value_of}
use Rattle.pv_bits.specs.Words.{number_of}
use Rattle.pv_machine.specs.Machines.{Machine, Values, done, IsState, IsInput, AreParams}
use Rattle.pv_machine.specs.Queries.{IsGoodScan}
use Rattle.pv_circuit.specs.declared.start.Start.{Start}
use Rattle.pv_circuit.specs.Circuits.{Circuit, values_of}
use Rattle.pv_circuit.specs.Starts.{AreState, AreStart, next_of}

-- the types of the values of a state and of an input, whose bits stand one behind another, the least first
pub record Form : Type 0 where
  pub state : List Ty
  pub input : List Ty

-- how many bits values of these types have
abbrev pub widths : List Ty → ℕ
widths [] = 0
widths (ty ∷ tys) = width_of ty + widths tys

-- the bits are those of the value
pub record AreBitsOf (ty : Ty) (bits : List Bool) (v : ℤ) : Type 0 where
  pub width : length bits ≡ width_of ty
  pub in_range : InRange ty v
  pub pattern : number_of bits ≡ pattern_of ty v

-- the bits denote the values, one of each type
abbrev pub Denote : List Ty → List Bool → List ℤ → Type 0
Denote [] bits [] = bits ≡ []
Denote [] bits (v ∷ vs) = ⊥
Denote (ty ∷ tys) bits [] = ⊥
Denote (ty ∷ tys) bits (v ∷ vs) = AreBitsOf ty (take (width_of ty) bits) v × Denote tys (drop (width_of ty) bits) vs

-- the circuit and the starts have as many bits as the form
pub record HasForm (form : Form) (start : List Start) (c : Circuit) : Type 0 where
  pub starts : length start ≡ length c.state_in
  pub state : length c.state_in ≡ widths form.state
  pub input : length c.input ≡ widths form.input

-- values whose bits are denoted: of a state those that the bits of bound parameters allow, of an input all
pub record HasRanges (m : Machine) (form : Form) (start : List Start) : Type 0 where
  pub state : (bits : List Bool) (s : Values) → Denote form.state bits s → (IsState m s ↔ AreState start bits)
  pub input : (bits : List Bool) (i : Values) → Denote form.input bits i → IsInput m i

-- runs begin with the bits that have the values of the start, each of those without one being any value
pub record HasStarts (m : Machine) (form : Form) (start : List Start) : Type 0 where
  pub each : (p : Values) → AreParams m p → (bits : List Bool) × AreStart start bits × Denote form.state bits (m.start p)
  pub all : (bits : List Bool) → AreStart start bits → (p : Values) × AreParams m p × Denote form.state bits (m.start p)

-- a scan from the state and the input that these inputs of the circuit denote
pub record IsScan (m : Machine) (form : Form) (start : List Start) (c : Circuit) (inputs : ℕ → Bool) (s i : Values) : Type 0 where
  pub ok : (value_of inputs c.nodes c.ok ≡ true) ↔ ((t : Values) × IsGoodScan m s i t)
  pub fail : (value_of inputs c.nodes c.fail ≡ true) ↔ (m.fails s i ≡ true)
  pub next : (t : Values) → m.step s i ≡ done t
      → Denote form.state (next_of start (values_of inputs c.nodes c.state_in) (values_of inputs c.nodes c.state_out)) t

-- values of the circuit's inputs that denote a state and an input
pub record Denotes (form : Form) (c : Circuit) (s i : Values) : Type 0 where
  pub inputs : ℕ → Bool
  pub state : Denote form.state (values_of inputs c.nodes c.state_in) s
  pub input : Denote form.input (values_of inputs c.nodes c.input) i

-- the circuit does the steps of the machine
pub record Steps (m : Machine) (form : Form) (start : List Start) (c : Circuit) : Type 0 where
  pub bits : HasForm form start c
  pub ranges : HasRanges m form start
  pub starts : HasStarts m form start
  pub scan : (s i : Values) → IsState m s → IsInput m i → (d : Denotes form c s i) → IsScan m form start c d.inputs s i
  pub every : (s i : Values) → IsState m s → IsInput m i → Denotes form c s i
