use Rattle.pv_log.proofs.Counting.{new-lines-few}
use Rattle.pv_log.proofs.laws.new_lines_are_few.Goals as goal

pub returns : goal.returns
returns c = new-lines-few
