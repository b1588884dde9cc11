-- Values of a formula's variables beside those of a circuit's nodes.
use Rattle.std.specs.Prelude.{◌≡◌, ℕ, ◌≤◌, pos, Bool, List, length}
use Rattle.pv_gate.specs.declared.netlist.Node.{Node}
use Rattle.pv_gate.specs.Value.{value_of}
use Rattle.pv_cnf.specs.Literal.{literal_value}
use Rattle.pv_frames.specs.Frames.{Frame}

-- each node's literal in the frame has the value that the node has under these values of the inputs
abbrev pub AreFrameValues : (ℕ → Bool) → List Node → (ℕ → Bool) → Frame → Type 0
AreFrameValues inputs nodes values frame = (n : ℕ) → 1 ≤ n → n ≤ length nodes → literal_value values (frame n) ≡ value_of inputs nodes (pos n)
