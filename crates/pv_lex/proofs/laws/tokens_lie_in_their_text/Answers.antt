use Rattle.pv_lex.proofs.Ones.{tokens-lie, tokens-last}
use Rattle.pv_lex.proofs.laws.tokens_lie_in_their_text.Goals as goal

pub returns : goal.returns
returns c = record { order = tokens-lie; last = tokens-last }
