use Rattle.pv_laws_sizes.proofs.Asked.{has_number, walk_down, walk_back, walk_up}
use Rattle.pv_laws_sizes.proofs.laws.asked_blocks_are_walked_to.Goals as goal

pub returns-clause-number : goal.returns-clause-number
returns-clause-number c = has_number

pub returns-clause-same : goal.returns-clause-same
returns-clause-same c project all entry block from are at =
    (walk_down project all entry block from are at, walk_back project all entry block from are at)

pub returns-clause-each : goal.returns-clause-each
returns-clause-each c = walk_up
