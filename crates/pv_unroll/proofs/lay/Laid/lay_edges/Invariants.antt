use Rattle.std.proofs.Common.{◌≡◌, ◌-◌, length}
use Rattle.pv_unroll.specs.Laying.{edges_laid}
use Rattle.pv_unroll.specs.Seen.{laid_seen, table_seen}
use Rattle.pv_unroll.proofs.lay.Laid.lay_edges.Given as goal

-- what is left of the chain lays what the whole chain does
abbrev pub invariant-loop : goal.invariant-loop
invariant-loop l = edges_laid (table_seen l.table) l.nest (length l.table.edges.now - l.counter) l.left (laid_seen l.self)
    ≡ edges_laid (table_seen l.table) l.nest (length l.table.edges.now) l.head (laid_seen l.fn.self)
