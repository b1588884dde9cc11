use Rattle.pv_command_verdict.proofs.EdgeCounts.{counts_edges}
use Rattle.pv_command_verdict.proofs.laws.edges_are_sizes.Goals as goal

pub returns : goal.returns
returns c = λ told file s reads.
    let entered = reads.reads.table.table.is_entered in counts_edges s reads.first entered.number entered.is
