use Rattle.std.proofs.Common.{◌≡◌, map, take}
use Rattle.pv_call_tables.specs.Chains.{from_of}
use Rattle.pv_call_tables.proofs.chains.froms_of.Given as goal

abbrev pub invariant-loop-edge : goal.invariant-loop-edge
invariant-loop-edge l = l.made.items ≡ map from_of (take l.edge-index l.edges)
