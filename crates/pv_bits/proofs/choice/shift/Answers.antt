use Rattle.pv_bits.proofs.Loops.{gives_made}
use Rattle.pv_gate.proofs.ForCallers.{leads_start}
use Rattle.pv_bits.proofs.choice.shift.Goals as goal

pub returns-clause-built : goal.returns-clause-built
returns-clause-built c = gives_made _ c.shifted.result c.shifted.ensures.word c.shifted.ensures.err (leads_start c.args.g.now _ c.nodes-count.ensures.within)
