use Rattle.pv_layout.proofs.Legal.{texts_are_legal}
use Rattle.pv_layout.proofs.laws.texts_are_legal.Goals as goal

pub returns : goal.returns
returns c = texts_are_legal
