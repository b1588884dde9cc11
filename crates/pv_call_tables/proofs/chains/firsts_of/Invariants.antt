use Rattle.std.proofs.Common.{◌≡◌, map, take}
use Rattle.pv_call_tables.specs.Chains.{first_of}
use Rattle.pv_call_tables.proofs.chains.firsts_of.Given as goal

abbrev pub invariant-loop-range : goal.invariant-loop-range
invariant-loop-range l = l.made.items ≡ map first_of (take l.range-index l.loops)
