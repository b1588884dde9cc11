use Rattle.pv_tree.proofs.Deepest.{deepest-some, deepest-apart, deepest-one}
use Rattle.pv_tree.proofs.laws.deepest_place_is_one.Goals as goal

pub returns : goal.returns
returns c = record { some = deepest-some; apart = deepest-apart; one = deepest-one }
