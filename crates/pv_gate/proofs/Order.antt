-- The order that is derived for nodes, by cases.
use Rattle.std.proofs.Common.{◌≡◌, refl}
use Rattle.pv_gate.specs.declared.netlist.Node.{Node}
use Rattle.pv_gate.specs.declared.netlist.Node.TheVariants.{True, Input, And, Xor, Mux}
use Rattle.pv_gate.specs.contracts.netlist.NodeOrd.TheImpl.{ghosts}
use Rattle.pv_gate.specs.Index.{node_cmp}

pub derived_cmp : (x y : Node) → ghosts.cmp x y ≡ node_cmp x y
derived_cmp True True = refl
derived_cmp True (Input n) = refl
derived_cmp True (And c d) = refl
derived_cmp True (Xor c d) = refl
derived_cmp True (Mux t c d) = refl
derived_cmp (Input m) True = refl
derived_cmp (Input m) (Input n) = refl
derived_cmp (Input m) (And c d) = refl
derived_cmp (Input m) (Xor c d) = refl
derived_cmp (Input m) (Mux t c d) = refl
derived_cmp (And a b) True = refl
derived_cmp (And a b) (Input n) = refl
derived_cmp (And a b) (And c d) = refl
derived_cmp (And a b) (Xor c d) = refl
derived_cmp (And a b) (Mux t c d) = refl
derived_cmp (Xor a b) True = refl
derived_cmp (Xor a b) (Input n) = refl
derived_cmp (Xor a b) (And c d) = refl
derived_cmp (Xor a b) (Xor c d) = refl
derived_cmp (Xor a b) (Mux t c d) = refl
derived_cmp (Mux s a b) True = refl
derived_cmp (Mux s a b) (Input n) = refl
derived_cmp (Mux s a b) (And c d) = refl
derived_cmp (Mux s a b) (Xor c d) = refl
derived_cmp (Mux s a b) (Mux t c d) = refl
