use Rattle.std.proofs.Common.{◌≡◌, ◌++◌, replicate}
use Rattle.pv_rows_queries.proofs.words.push_times.Given as goal

abbrev pub invariant-loop-bit : goal.invariant-loop-bit
invariant-loop-bit l = l.starts ≡ l.fn.starts ++ replicate l._bit l.start
