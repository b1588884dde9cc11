use Rattle.std.proofs.Common.{arith}
use Rattle.pv_mean.specs.Frames.{visible_value}
use Rattle.pv_pattern.specs.Terms.{frame_by}
use Rattle.pv_pattern.proofs.High.{no_high_bit}
use Rattle.pv_pattern.proofs.term.bit.Goals as goal

pub returns-else-b-lt8 : goal.returns-else-b-lt8
returns-else-b-lt8 c = no_high_bit (visible_value (frame_by c.args.values.now) c.args.n) c.args.b (omega arith)
