use Rattle.std.proofs.Common.{vec_len}
use Rattle.pv_graph.proofs.numbers.Walk.give.Given as goal

abbrev pub decreases-loop-last : goal.decreases-loop-last
decreases-loop-last l = vec_len l.self.open
