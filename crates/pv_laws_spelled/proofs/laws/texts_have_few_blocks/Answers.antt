use Rattle.pv_laws_spelled.proofs.Few.{text-few}
use Rattle.pv_laws_spelled.proofs.laws.texts_have_few_blocks.Goals as goal

pub returns : goal.returns
returns c = text-few
