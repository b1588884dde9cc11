use Rattle.std.proofs.Common.{ap, ◌∙◌}
use Rattle.pv_parse.specs.OpTexts.{known, opening_of}
use Rattle.pv_parse_instr.proofs.op_texts.opening_of.Goals as goal

pub returns : goal.returns
unfolding opening_of
returns c = c.known.ensures ∙ ap known c.op_among.ensures
