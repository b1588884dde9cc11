use Rattle.pv_tree.specs.Rules.Chains.{here}
use Rattle.pv_sizes.proofs.SizeLaws.{asked_on}
use Rattle.pv_sizes.proofs.laws.called_blocks_are_asked.Goals as goal

pub returns-clause-entry : goal.returns-clause-entry
returns-clause-entry c project entry = here

pub returns-clause-called : goal.returns-clause-called
returns-clause-called c = asked_on
