use Rattle.pv_rules.proofs.Sources.{blocks_plain}
use Rattle.pv_rules.proofs.laws.scl_blocks_have_no_instructions.Goals as goal

pub returns : goal.returns
returns c = blocks_plain
