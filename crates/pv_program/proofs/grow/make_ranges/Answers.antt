use Rattle.std.proofs.Common.{refl, arith}
use Rattle.pv_program.proofs.Growing.{with-ranges}
use Rattle.pv_program.proofs.grow.make_ranges.Goals as goal

pub returns : goal.returns
returns c = record { grows = with-ranges c.args.program.now c.max-program.result (omega arith); room = omega arith; calls = refl }
