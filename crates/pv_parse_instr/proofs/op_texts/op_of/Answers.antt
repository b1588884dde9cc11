use Rattle.std.proofs.Common.{ap, ◌∙◌}
use Rattle.pv_parse.specs.OpTexts.{known, op_of}
use Rattle.pv_parse_instr.proofs.op_texts.op_of.Goals as goal

pub returns : goal.returns
unfolding op_of
returns c = c.known.ensures ∙ ap known c.op_among.ensures
