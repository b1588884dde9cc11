use Rattle.pv_lex.proofs.Ones.{either-one, tokens-faultless, fault-one}
use Rattle.pv_lex.proofs.laws.text_has_tokens_or_a_fault.Goals as goal

pub returns : goal.returns
returns c = record { some = either-one; apart = tokens-faultless; one = fault-one }
