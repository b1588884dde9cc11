use Rattle.pv_ll.proofs.Runs.{followed, play_followed}
use Rattle.pv_ll.proofs.laws.makings_follow_along_walks.Goals as goal

pub returns-clause-steps : goal.returns-clause-steps
returns-clause-steps g c f m n steps ts s behind h e = followed h steps ts s behind e

pub returns-clause-turns : goal.returns-clause-turns
returns-clause-turns g c f m n turns ts s behind h e = play_followed h turns ts s behind e
