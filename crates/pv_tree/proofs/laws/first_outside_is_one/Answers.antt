use Rattle.pv_tree.proofs.Outsides.{outside-some, outside-apart, outside-one}
use Rattle.pv_tree.proofs.laws.first_outside_is_one.Goals as goal

pub returns : goal.returns
returns c = record { some = outside-some; apart = outside-apart; one = outside-one }
