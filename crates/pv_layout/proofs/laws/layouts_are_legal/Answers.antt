use Rattle.pv_layout.proofs.Legal.{layouts_are_legal}
use Rattle.pv_layout.proofs.laws.layouts_are_legal.Goals as goal

pub returns : goal.returns
returns c = layouts_are_legal
