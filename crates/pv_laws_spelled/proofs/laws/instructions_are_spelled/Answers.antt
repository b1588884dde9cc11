use Rattle.pv_laws_spelled.proofs.Instructions.{block-spelled, sources-spelled}
use Rattle.pv_laws_spelled.proofs.laws.instructions_are_spelled.Goals as goal

pub returns-clause-block : goal.returns-clause-block
returns-clause-block c = λ language block tokens d. block-spelled language block.kind block tokens d

pub returns-clause-sources : goal.returns-clause-sources
returns-clause-sources c = sources-spelled
