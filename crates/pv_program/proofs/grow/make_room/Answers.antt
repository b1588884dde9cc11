use Rattle.std.proofs.Common.{refl, arith}
use Rattle.pv_program.proofs.Growing.{with-scratch}
use Rattle.pv_program.proofs.grow.make_room.Goals as goal

pub returns : goal.returns
returns c = record {
  grows = with-scratch c.args.program.now c.max-program.result (omega arith);
  room = omega arith;
  values = refl;
  targets = refl;
  calls = refl;
}
