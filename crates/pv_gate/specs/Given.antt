-- What a private call gives that is to make a literal.
use Rattle.std.specs.Prelude.{◌≡◌, ◌↔◌, Result, Err, IfOk, OnOk, OnErr}
use Rattle.pv_gate.specs.declared.fault.GateFault.{GateFault}
use Rattle.pv_gate.specs.declared.fault.GateFault.TheVariants.{Limit}
use Rattle.pv_gate.specs.declared.literal.Literal.{Literal}
use Rattle.pv_gate.specs.Netlist.{Netlist}
use Rattle.pv_gate.specs.Build.{Made, IsBeyond}

-- the literal and the nodes, or a fault, which changes nothing and is Limit exactly where there would be too many gates
pub record Gives (old new : Netlist) (made : Made) (result : Result Literal GateFault) : Type 0 where
  pub literal : IfOk result (λ literal. literal.code ≡ made.literal)
  pub nodes : OnOk result (new ≡ record old { nodes = made.nodes })
  pub limit : (result ≡ Err Limit) ↔ IsBeyond old made
  pub err : OnErr result (new ≡ old)
