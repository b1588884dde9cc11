use Rattle.std.proofs.Common.{refl, arith}
use Rattle.pv_program.proofs.Growing.{with-widest}
use Rattle.pv_program.proofs.grow.widen.Goals as goal

pub returns : goal.returns
returns c = record { grows = with-widest c.args.program.now c.max-program.result (omega arith); room = omega arith; calls = refl }
