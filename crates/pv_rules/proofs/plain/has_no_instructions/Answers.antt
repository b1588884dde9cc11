use Rattle.pv_rules.proofs.PlainLaws.{plain_tested}
use Rattle.pv_rules.proofs.plain.has_no_instructions.Goals as goal

pub returns : goal.returns
returns c = plain_tested c.args.blocks.now c.are_plain.result c.are_plain.ensures
