-- What a private call gives that makes a part of a circuit. No public clause cites this.
use Rattle.std.specs.Prelude.{◌≡◌, ℤ, Result, Err, IfOk, OnOk}
use Rattle.pv_gate.specs.declared.fault.GateFault.{GateFault}
use Rattle.pv_gate.specs.declared.fault.GateFault.TheVariants.{Limit}
use Rattle.pv_gate.specs.Netlist.{Netlist}
use Rattle.pv_gate.specs.Build.{Made, IsBeyond}
use Rattle.pv_circuit.specs.Circuits.{Literals}
use Rattle.pv_step.specs.Circuits.{Wires}

-- the nodes and the literals that there are
abbrev pub wires : Netlist → Literals → Wires
wires net literals = record { nodes = net.nodes; literals = literals }

-- the literal and the nodes, or a fault, which is Limit only where there would be too many gates
pub record Gives (old new : Netlist) (made : Made) (result : Result ℤ GateFault) : Type 0 where
  pub literal : IfOk result (λ literal. literal ≡ made.literal)
  pub nodes : OnOk result (new ≡ record old { nodes = made.nodes })
  pub limit : result ≡ Err Limit → IsBeyond old made
