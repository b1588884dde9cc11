use Rattle.std.proofs.Common.{◌≡◌, ◌≤◌, ◌+◌, ◌++◌, length, drop}
use Rattle.pv_layer.specs.Making.{trap_edges, trap_ends}
use Rattle.pv_layer.proofs.checks.add_traps.Given as goal

abbrev pub invariant-loop-check : goal.invariant-loop-check
invariant-loop-check l =
    (l.edges.items ++ trap_edges l.from l.location l.number (drop l.check-index l.checks) ≡ l.fn.edges.items ++ trap_edges l.from l.trap l.deed l.checks)
    × (l.traps.items ++ trap_ends l.location (drop l.check-index l.checks) ≡ l.fn.traps.items ++ trap_ends l.trap l.checks)
    × (l.location + length (drop l.check-index l.checks) ≤ 4294967295)
    × (l.number + length (drop l.check-index l.checks) ≤ 4294967295)
    × (length l.edges.items + length (drop l.check-index l.checks) ≡ length l.fn.edges.items + length l.checks)
