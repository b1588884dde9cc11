use Rattle.std.proofs.Common.{length, refl}
use Rattle.std.proofs.lemmas.Bool.{eqb-true}
use Rattle.pv_learn.proofs.Counts.{no-lits}
use Rattle.pv_learn.proofs.learn.is_last.Goals as goal

pub returns-in-Accepted-clause-last : goal.returns-in-Accepted-clause-last
returns-in-Accepted-clause-last c = λ _. record {
  follows = (c.in-Accepted.ensures.accepted refl).each.0;
  empty = no-lits c.args.draft.now.lits.items (eqb-true (length c.args.draft.now.lits.items) 0 (c.in-Accepted.ensures.accepted refl).ends);
}
