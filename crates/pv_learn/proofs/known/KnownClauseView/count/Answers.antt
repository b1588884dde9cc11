use Rattle.std.proofs.Common.{arith}
use Rattle.pv_learn.proofs.Counts.{count-lits}
use Rattle.pv_learn.proofs.known.KnownClauseView.count.Goals as goal

pub returns-clause-count : goal.returns-clause-count
returns-clause-count c = let all = count-lits c.args.self.now.propagator.now.stored in omega (arith, all, c.next_id.ensures.id)

pub returns-clause-valid : goal.returns-clause-valid
returns-clause-valid c = c.next_id.ensures.valid
