use Rattle.pv_lex.proofs.Ones.{next-one}
use Rattle.pv_lex.proofs.laws.next_stretch_is_one.Goals as goal

pub returns : goal.returns
returns c = next-one
