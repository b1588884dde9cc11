use Rattle.pv_word.proofs.DivisionLaws.{quotient-unique, remainder-unique}
use Rattle.pv_word.proofs.laws.division_is_the_one.Goals as goal

pub returns : goal.returns
returns c = λ a b q r s t d e. (quotient-unique d e, remainder-unique d e)
