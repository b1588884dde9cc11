use Rattle.pv_lex.proofs.Ones.{tokens-one}
use Rattle.pv_lex.proofs.laws.text_determines_tokens.Goals as goal

pub returns : goal.returns
returns c = tokens-one
