use Rattle.pv_ll.proofs.Tested.{ll1_from}
use Rattle.pv_ll.proofs.Runs.{runs_to, one_end}
use Rattle.pv_ll.proofs.laws.walks_do_what_texts_do.Goals as goal

pub returns-clause-steps : goal.returns-clause-steps
returns-clause-steps g c l m ts s behind trace steps h d kinds r = runs_to (ll1_from l h) d kinds r

pub returns-clause-one : goal.returns-clause-one
returns-clause-one g c l m ts s left right h d e = one_end (ll1_from l h) d e
