use Rattle.std.proofs.Common.{◌≡◌, ◌-◌, ◌++◌, length}
use Rattle.std.specs.Prelude.{slice_index_or}
use Rattle.pv_call_tables.specs.Chains.{along}
use Rattle.pv_call_tables.proofs.chains.Chains.numbers.Given as goal

-- with what is left of the chain it is the whole
abbrev pub invariant-loop : goal.invariant-loop
invariant-loop l = l.made.items ++ along l.self.nexts.items (length l.self.nexts.items - l.counter) l.left
    ≡ along l.self.nexts.items (length l.self.nexts.items) (slice_index_or l.self.heads.items l.l 0)
