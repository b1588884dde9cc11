use Rattle.pv_valid.proofs.Contents.{right-none}
use Rattle.pv_valid.proofs.laws.right_contents_have_no_fault.Goals as goal

pub returns : goal.returns
returns c = right-none
