use Rattle.pv_parse_instr.proofs.LastWords.{last_popped}
use Rattle.pv_parse_instr.proofs.parts.last_word.Goals as goal

pub returns : goal.returns
returns c = last_popped _ c.args.words.items _ c.pop.result _ _ c.args.words.ok.0 c.pop.ensures.items c.pop.ensures.cases
