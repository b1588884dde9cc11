use Rattle.std.proofs.Common.{◌≤◌, length, subst}
use Rattle.pv_gate.specs.Netlist.{Netlist}
use Rattle.pv_gate.proofs.Lists.{one_node}
use Rattle.pv_gate.proofs.sharing.Gates.nodes.Goals as goal

pub returns-clause-one : goal.returns-clause-one
returns-clause-one c = subst (λ (n : Netlist). 1 ≤ length n.nodes) c.self.view_is (one_node _ c.self.invariant.netlist)
