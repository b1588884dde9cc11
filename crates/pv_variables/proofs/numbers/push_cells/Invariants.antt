use Rattle.std.proofs.Common.{◌≡◌, ◌+◌, ◌*◌, ◌-◌, ◌++◌}
use Rattle.pv_variables.specs.Numbered.{two_apart}
use Rattle.pv_variables.proofs.numbers.push_cells.Given as goal

abbrev pub invariant-loop-k : goal.invariant-loop-k
invariant-loop-k l = record {
  cells : l.briefs.items ++ two_apart (l.count - l._k) l.n ≡ l.fn.briefs.items ++ two_apart l.count l.fn.first;
  next : l.n ≡ l.fn.first + 2 * l._k;
}
