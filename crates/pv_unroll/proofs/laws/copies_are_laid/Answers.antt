use Rattle.pv_unroll.proofs.Walks.{copies_are_laid}
use Rattle.pv_unroll.proofs.laws.copies_are_laid.Goals as goal

pub returns : goal.returns
returns c = copies_are_laid
