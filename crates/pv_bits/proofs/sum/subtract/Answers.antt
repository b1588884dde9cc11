use Rattle.std.proofs.Common.{rules}
use Rattle.pv_gate.proofs.ForCallers.{leads_start, gives_no_memory}
use Rattle.pv_bits.specs.Circuits.{subtract}
use Rattle.pv_bits.proofs.sum.subtract.Goals as goal

pub returns-in_err-complement-clause-built : goal.returns-in_err-complement-clause-built
returns-in_err-complement-clause-built c = gives_no_memory _ (search rules) (leads_start c.args.g.now _ c.nodes-count.ensures.within)

pub returns-clause-built : goal.returns-clause-built
unfolding subtract
returns-clause-built c = rw (c.as_slice.ensures, c.in_ok-complement.ensures.word) at c.adder.ensures.built
