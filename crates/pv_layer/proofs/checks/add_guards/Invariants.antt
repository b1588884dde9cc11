use Rattle.std.proofs.Common.{◌≡◌, ◌≤◌, ◌+◌, ◌*◌, ◌++◌, length, map, drop}
use Rattle.pv_layer.specs.Making.{guard_nodes, last_none, deed_seen, trap_deeds}
use Rattle.pv_layer.proofs.checks.add_guards.Given as goal

abbrev pub invariant-loop-check : goal.invariant-loop-check
invariant-loop-check l =
    (l.nodes.items ++ guard_nodes (length l.nodes.items) l.last (drop l.check-index l.checks)
    ≡ l.fn.nodes.items ++ guard_nodes (length l.fn.nodes.items) l.fn.none l.checks)
    × (last_none (length l.nodes.items) l.last (drop l.check-index l.checks) ≡ last_none (length l.fn.nodes.items) l.fn.none l.checks)
    × (map deed_seen l.deeds.items ++ trap_deeds (length l.nodes.items) (drop l.check-index l.checks)
    ≡ map deed_seen l.fn.deeds.items ++ trap_deeds (length l.fn.nodes.items) l.checks)
    × (length l.nodes.items + 3 * length (drop l.check-index l.checks) ≤ 4294967295)
    × (length l.deeds.items + length (drop l.check-index l.checks) ≡ length l.fn.deeds.items + length l.checks)
